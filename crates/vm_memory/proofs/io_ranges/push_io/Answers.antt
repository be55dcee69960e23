use Rattle.std.proofs.Common.{◌≡◌, ◌+◌, ◌-◌, ◌≤◌, ◌++◌, [], append-nil, arith, ◌∙◌, ap, sym}
use Rattle.std.proofs.lemmas.List.{flat_map_more}
use Rattle.std.proofs.lemmas.List.Elements.{All-push}
use Rattle.vm_memory_core.specs.Window.{places, places_of, LiesIn, AllLieIn}
use Rattle.vm_memory.specs.Memory.{after, io_memory, located, location, table_in}
use Rattle.vm_memory.specs.Translated.{translated_left}
use Rattle.vm_memory.proofs.JoinedLemmas.{longest_step}
use Rattle.vm_memory.proofs.Places.{circular_all, find_step, find_none, find_end}
use Rattle.vm_memory.proofs.TranslatedLemmas.{all_left, left_step, mapped_left}
use Rattle.vm_memory.proofs.io_ranges.push_io.Goals as goal

pub loop-done-init : goal.loop-done-init
loop-done-init g c = record {
  within = omega arith;
  left = rw c.new-left.ensures
      (all_left (table_in (g.H.HostBlocks.host c.args.h.now) c.args.table) c.args.addr c.args.len c.args.mapped c.requires.2);
  found = ap (λ as'. after (places c.args.windows.now.items) (located
      (location (io_memory (g.H.HostBlocks.host c.args.h.now) (g.M.GuestMemoryBackend.layout c.args.backend.now) c.args.table c.args.set)
      c.args.access)
      as')) (circular_all c.args.addr c.args.len);
  longest = ([], sym (append-nil c.args.windows.now.items), tt, sym (circular_all c.args.addr c.args.len));
  room = omega arith;
  held = λ lengths held all. all;
}

pub returns-in_default-clause-found : goal.returns-in_default-clause-found
returns-in_default-clause-found g c =
    let table = table_in (g.H.HostBlocks.host c.args.h.now) c.args.table in
    let ready = mapped_left table c.args.access c.args.addr c.loop-done.done c.args.len _ _ c.loop-done-test.true c.requires.0 c.requires.1
    c.loop-done.invariant.left in
    sym c.loop-done.invariant.found
    ∙ find_none (location (io_memory (g.H.HostBlocks.host c.args.h.now) (g.M.GuestMemoryBackend.layout c.args.backend.now) c.args.table
    c.args.set) c.args.access)
    c.args.addr c.loop-done.done c.args.len
    (c.args.addr + c.loop-done.done) (places c.loop-done.windows.items) (omega (arith, c.requires.0)) c.loop-done-test.true
    (c.next_window.ensures.none table c.args.access (c.args.len - c.loop-done.done) ready c.in_default.is)

pub returns-in_default-clause-longest : goal.returns-in_default-clause-longest
returns-in_default-clause-longest g c = let so = c.loop-done.invariant.longest in (so.0, so.1, so.2)

pub returns-in_err-push-clause-longest : goal.returns-in_err-push-clause-longest
returns-in_err-push-clause-longest g c = let so = c.loop-done.invariant.longest in rw c.in_err-push.ensures.err (so.0, so.1, so.2)

pub returns-in_err-push-clause-held : goal.returns-in_err-push-clause-held
returns-in_err-push-clause-held g c lengths held old =
    rw c.in_err-push.ensures.err (c.loop-done.invariant.held lengths held old)

pub loop-done-preserved : goal.loop-done-preserved
unfolding AllLieIn
loop-done-preserved g c =
    let table = table_in (g.H.HostBlocks.host c.args.h.now) c.args.table in
    let ready = mapped_left table c.args.access c.args.addr c.loop-done.done c.args.len _ _ c.loop-done-test.true c.requires.0 c.requires.1
    c.loop-done.invariant.left in
    let some = c.in-Some.ensures.some table c.args.access (c.args.len - c.loop-done.done) ready in
    let longest = c.in-Some.ensures.longest table c.args.access (c.args.len - c.loop-done.done) ready in
    let left = c.in-Some.ensures.left table c.args.access (c.args.len - c.loop-done.done) ready in
    let le : c.loop-done.done + c.in-Some.window.len ≤ c.args.len = omega (arith, some.1) in
    let more : places c.push.new.self.items ≡ places c.loop-done.windows.items ++ places_of c.in-Some.window =
    ap places c.in_ok-push.ensures.ok ∙ sym (flat_map_more places_of [] c.loop-done.windows.items c.in-Some.window) in
    rw c.len-done.ensures.len (record {
      within = le;
      left = left_step table c.args.addr c.loop-done.done c.args.len c.in-Some.window.len _ _ left;
      found = find_step (location (io_memory (g.H.HostBlocks.host c.args.h.now) (g.M.GuestMemoryBackend.layout c.args.backend.now)
          c.args.table c.args.set)
          c.args.access) c.args.addr c.loop-done.done c.args.len
          c.in-Some.window.len (c.args.addr + c.loop-done.done) _ (places c.loop-done.windows.items) (places c.push.new.self.items)
          (omega (arith, c.requires.0)) some.2 le
          some.3 more ∙ c.loop-done.invariant.found;
      longest = longest_step (translated_left (g.M.GuestMemoryBackend.layout c.args.backend.now)
          (table_in (g.H.HostBlocks.host c.args.h.now) c.args.table)) c.args.addr c.loop-done.done c.args.len
          (c.args.addr + c.loop-done.done) c.args.windows.now.items c.loop-done.windows.items c.push.new.self.items c.in-Some.window
          c.loop-done.invariant.longest (omega (arith, c.requires.0))
          some.0 longest c.in_ok-push.ensures.ok;
      room = omega (arith, c.loop-done.invariant.room, c.push.ensures.capacity);
      held = λ lengths held old.
          rw c.in_ok-push.ensures.ok
          (All-push (LiesIn lengths) _ _ (c.loop-done.invariant.held lengths held old) (c.in-Some.ensures.held lengths held));
    })

pub returns-clause-found : goal.returns-clause-found
returns-clause-found g c =
    sym c.loop-done.invariant.found
    ∙ find_end (location (io_memory (g.H.HostBlocks.host c.args.h.now) (g.M.GuestMemoryBackend.layout c.args.backend.now) c.args.table
    c.args.set) c.args.access)
    c.args.addr c.loop-done.done c.args.len
    (places c.loop-done.windows.items) c.loop-done-test.false

pub returns-clause-longest : goal.returns-clause-longest
returns-clause-longest g c = let so = c.loop-done.invariant.longest in (so.0, so.1, so.2)

pub next_window-requires : goal.next_window-requires
next_window-requires g c =
    let table = table_in (g.H.HostBlocks.host c.args.h.now) c.args.table in
    let ready = mapped_left table c.args.access c.args.addr c.loop-done.done c.args.len _ _ c.loop-done-test.true c.requires.0 c.requires.1
    c.loop-done.invariant.left in
    (table, c.args.access, c.args.len - c.loop-done.done, ready)

pub loop-done-smaller : goal.loop-done-smaller
loop-done-smaller g c =
    let table = table_in (g.H.HostBlocks.host c.args.h.now) c.args.table in
    let ready = mapped_left table c.args.access c.args.addr c.loop-done.done c.args.len _ _ c.loop-done-test.true c.requires.0 c.requires.1
    c.loop-done.invariant.left in
    let some = c.in-Some.ensures.some table c.args.access (c.args.len - c.loop-done.done) ready in
    omega (arith, some.0, some.1, c.len-done.ensures.len)

pub overflow_add-done : goal.overflow_add-done
overflow_add-done g c =
    let table = table_in (g.H.HostBlocks.host c.args.h.now) c.args.table in
    let ready = mapped_left table c.args.access c.args.addr c.loop-done.done c.args.len _ _ c.loop-done-test.true c.requires.0 c.requires.1
    c.loop-done.invariant.left in
    let some = c.in-Some.ensures.some table c.args.access (c.args.len - c.loop-done.done) ready in
    omega (arith, some.1, c.len-done.ensures.len, c.requires.0)
