use Rattle.std.proofs.Common.{◌≡◌, ℕ, List, ◌-◌, ◌+◌, ◌≤◌, take, drop, length, arith, ◌∙◌, ap, refl}
use Rattle.std.proofs.lemmas.List.{take_rest}
use Rattle.vm_memory.specs.Layout.{place}
use Rattle.vm_memory.specs.Memory.{memory_of, reached, stored_all}
use Rattle.vm_memory.proofs.Places.{circular_all, count_step, count_none, count_end, store_step}
use Rattle.vm_memory.proofs.collection.GuestRegionCollection.write_some.Goals as goal

pub loop-done-init : goal.loop-done-init
unfolding stored_all
loop-done-init g c =
    let all = ap (reached (place c.args.self.now)) (circular_all c.args.addr (length c.args.bytes.now)) in
    record { within = omega arith; same_shape = refl; count = omega (arith, all); stored = refl }

pub returns-in_default-clause-count : goal.returns-in_default-clause-count
returns-in_default-clause-count g c =
    let none = count_none (place c.args.self.now) c.args.addr c.loop-done.done (length c.args.bytes.now) _ refl c.loop-done-test.true
    (c.window_at.ensures.none c.in_default.is) in
    omega (arith, none, c.loop-done.invariant.count)

pub loop-done-preserved : goal.loop-done-preserved
loop-done-preserved g c =
    let le : c.loop-done.done + c.in-Some.window.len ≤ length c.args.bytes.now = omega (arith, c.in-Some.ensures.some.1) in
    let step = count_step (place c.args.self.now) c.args.addr c.loop-done.done (length c.args.bytes.now) c.in-Some.window.len _ _ refl
    c.in-Some.ensures.some.2 le c.in-Some.ensures.some.3 in
    let rest : List ℕ = take (length c.args.bytes.now - c.loop-done.done) (drop c.loop-done.done c.args.bytes.now) in
    let cut : take c.len.result rest ≡ take c.in-Some.window.len (drop c.loop-done.done c.args.bytes.now) =
    ap (λ k. take k rest) c.len.ensures.len ∙ ap (take c.in-Some.window.len) (take_rest c.args.bytes.now c.loop-done.done) in
    rw c.len-done.ensures.len (record {
      within = le;
      same_shape = c.write.ensures.shape ∙ c.loop-done.invariant.same_shape;
      count = step ∙ c.loop-done.invariant.count;
      stored = store_step c.args.self.now (memory_of c.args.host.now c.args.self.now) c.loop-done.host c.write.new.self c.args.bytes.now _
          c.args.addr c.loop-done.done (length c.args.bytes.now)
          c.in-Some.window.len _ _ refl c.in-Some.ensures.some.2 le refl c.in-Some.ensures.some.3 c.loop-done.invariant.stored cut
          c.write.ensures.stored;
    })

pub returns-clause-count : goal.returns-clause-count
returns-clause-count g c =
    let none = count_end (place c.args.self.now) c.args.addr c.loop-done.done (length c.args.bytes.now) c.loop-done-test.false in
    omega (arith, none, c.loop-done.invariant.count)
