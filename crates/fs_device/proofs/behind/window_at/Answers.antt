use Rattle.std.proofs.Common.{◌≤◌, ◌∙◌, arith, ap}
use Rattle.vm_memory_core.specs.Window.{Window}
use Rattle.vm_memory_core.proofs.WindowLemmas.{drop_item}
use Rattle.fs_device.proofs.BehindLemmas.{more_there, places_next, rooms_next, same_window, some_there}
use Rattle.fs_device.proofs.behind.window_at.Goals as goal

pub loop-rest-preserved : goal.loop-rest-preserved
loop-rest-preserved c =
    let l = c.loop-rest in
    let ws = c.args.windows.now in
    let lt = some_there ws l.i l.rest l.invariant.there in
    let w = c.index-windows-i-in-loop-rest.result in
    let next = drop_item ws l.i w lt c.index-windows-i-in-loop-rest.is in
    let same = same_window ws l.i c.index-windows-i.result w (drop_item ws l.i c.index-windows-i.result lt c.index-windows-i.is) next in
    let le : w.len ≤ l.rest = omega (arith, c.loop-rest-test.true, c.len.ensures.len, ap (λ (v : Window). v.len) same) in
    record {
      there = more_there ws l.i w next l.rest c.len-rest.result c.len-rest.ensures.len l.invariant.there le;
      before = omega (arith, l.invariant.before);
      places = places_next ws l.i w next l.rest c.len-rest.result c.len-rest.ensures.len le ∙ l.invariant.places;
      rooms = rooms_next ws l.i w next l.rest c.len-rest.result c.len-rest.ensures.len le ∙ l.invariant.rooms;
    }

pub returns-clause-within : goal.returns-clause-within
returns-clause-within c w next =
    let l = c.loop-rest in
    let ws = c.args.windows.now in
    let lt = some_there ws l.i l.rest l.invariant.there in
    let same = same_window ws l.i c.index-windows-i.result w (drop_item ws l.i c.index-windows-i.result lt c.index-windows-i.is) next in
    omega (arith, c.loop-rest-test.false, c.len.ensures.len, ap (λ (v : Window). v.len) same)
