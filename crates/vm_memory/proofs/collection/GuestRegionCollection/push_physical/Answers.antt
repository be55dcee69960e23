use Rattle.std.proofs.Common.{◌≡◌, ◌+◌, ◌≤◌, ◌++◌, [], append-nil, arith, ◌∙◌, ap, sym, refl}
use Rattle.std.proofs.lemmas.List.{flat_map_more}
use Rattle.std.proofs.lemmas.List.Elements.{All-push}
use Rattle.vm_memory_core.specs.Window.{places, places_of, LiesIn, AllLieIn}
use Rattle.vm_memory.specs.Layout.{left_at, place}
use Rattle.vm_memory.specs.Memory.{located, after}
use Rattle.vm_memory.proofs.JoinedLemmas.{longest_step}
use Rattle.vm_memory.proofs.Places.{circular_all, find_step, find_none, find_end}
use Rattle.vm_memory.proofs.collection.GuestRegionCollection.push_physical.Goals as goal

pub loop-done-init : goal.loop-done-init
loop-done-init g c = record {
  within = omega arith;
  found = ap (λ as'. after (places c.args.windows.now.items) (located (place c.args.self.now) as')) (circular_all c.args.addr.0 c.args.len);
  longest = ([], sym (append-nil c.args.windows.now.items), tt, sym (circular_all c.args.addr.0 c.args.len));
  room = omega arith;
  held = λ lengths held all. all;
}

pub returns-in_default-clause-found : goal.returns-in_default-clause-found
returns-in_default-clause-found g c =
    sym c.loop-done.invariant.found
    ∙ find_none (place c.args.self.now) c.args.addr.0 c.loop-done.done c.args.len _ (places c.loop-done.windows.items) refl
    c.loop-done-test.true (c.window_at.ensures.none c.in_default.is)

pub returns-in_default-clause-longest : goal.returns-in_default-clause-longest
returns-in_default-clause-longest g c = let so = c.loop-done.invariant.longest in (so.0, so.1, so.2)

pub returns-in_err-push-clause-longest : goal.returns-in_err-push-clause-longest
returns-in_err-push-clause-longest g c = let so = c.loop-done.invariant.longest in rw c.in_err-push.ensures.err (so.0, so.1, so.2)

pub returns-in_err-push-clause-held : goal.returns-in_err-push-clause-held
returns-in_err-push-clause-held g c lengths held old =
    rw c.in_err-push.ensures.err (c.loop-done.invariant.held lengths held old)

pub loop-done-preserved : goal.loop-done-preserved
unfolding AllLieIn
loop-done-preserved g c =
    let le : c.loop-done.done + c.in-Some.window.len ≤ c.args.len = omega (arith, c.in-Some.ensures.some.1) in
    let more : places c.push.new.self.items ≡ places c.loop-done.windows.items ++ places_of c.in-Some.window =
    ap places c.in_ok-push.ensures.ok ∙ sym (flat_map_more places_of [] c.loop-done.windows.items c.in-Some.window) in
    rw c.len-done.ensures.len (record {
      within = le;
      found = find_step (place c.args.self.now) c.args.addr.0 c.loop-done.done c.args.len c.in-Some.window.len _ _
          (places c.loop-done.windows.items) (places c.push.new.self.items) refl
          c.in-Some.ensures.some.2 le c.in-Some.ensures.some.3 more ∙ c.loop-done.invariant.found;
      longest = longest_step (left_at c.args.self.now) c.args.addr.0 c.loop-done.done c.args.len _ c.args.windows.now.items
          c.loop-done.windows.items c.push.new.self.items c.in-Some.window
          c.loop-done.invariant.longest refl c.in-Some.ensures.some.0 c.in-Some.ensures.longest c.in_ok-push.ensures.ok;
      room = omega (arith, c.loop-done.invariant.room, c.push.ensures.capacity);
      held = λ lengths held old.
          rw c.in_ok-push.ensures.ok
          (All-push (LiesIn lengths) _ _ (c.loop-done.invariant.held lengths held old) (c.in-Some.ensures.held lengths held));
    })

pub returns-clause-found : goal.returns-clause-found
returns-clause-found g c =
    sym c.loop-done.invariant.found
    ∙ find_end (place c.args.self.now) c.args.addr.0 c.loop-done.done c.args.len (places c.loop-done.windows.items) c.loop-done-test.false

pub returns-clause-longest : goal.returns-clause-longest
returns-clause-longest g c = let so = c.loop-done.invariant.longest in (so.0, so.1, so.2)
