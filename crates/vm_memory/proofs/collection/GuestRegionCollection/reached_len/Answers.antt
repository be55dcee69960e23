use Rattle.std.proofs.Common.{◌+◌, ◌≤◌, arith, ◌∙◌, ap, refl}
use Rattle.vm_memory.specs.Layout.{place}
use Rattle.vm_memory.specs.Memory.{reached}
use Rattle.vm_memory.proofs.Places.{circular_all, count_step, count_none, count_end}
use Rattle.vm_memory.proofs.collection.GuestRegionCollection.reached_len.Goals as goal

pub loop-done-init : goal.loop-done-init
loop-done-init g c =
    let all = ap (reached (place c.args.self.now)) (circular_all c.args.addr c.args.len) in
    record { within = omega arith; count = omega (arith, all) }

pub returns-in_default : goal.returns-in_default
returns-in_default g c =
    let none = count_none (place c.args.self.now) c.args.addr c.loop-done.done c.args.len _ refl c.loop-done-test.true
    (c.window_at.ensures.none c.in_default.is) in
    omega (arith, none, c.loop-done.invariant.count)

pub loop-done-preserved : goal.loop-done-preserved
loop-done-preserved g c =
    let le : c.loop-done.done + c.in-Some.window.len ≤ c.args.len = omega (arith, c.in-Some.ensures.some.1) in
    let step = count_step (place c.args.self.now) c.args.addr c.loop-done.done c.args.len c.in-Some.window.len _ _ refl
    c.in-Some.ensures.some.2 le c.in-Some.ensures.some.3 in
    rw c.len-done.ensures.len (record { within = le; count = step ∙ c.loop-done.invariant.count })

pub returns : goal.returns
returns g c =
    let none = count_end (place c.args.self.now) c.args.addr c.loop-done.done c.args.len c.loop-done-test.false in
    omega (arith, none, c.loop-done.invariant.count)
