use Rattle.std.proofs.Common.{◌+◌, ◌-◌, ◌≤◌, arith, ◌∙◌, ap}
use Rattle.vm_memory.specs.Memory.{io_memory, location, reached, table_in}
use Rattle.vm_memory.proofs.Places.{circular_all, count_step, count_none, count_end}
use Rattle.vm_memory.proofs.TranslatedLemmas.{all_left, left_step, mapped_left}
use Rattle.vm_memory.proofs.io_ranges.io_reached.Goals as goal

pub loop-done-init : goal.loop-done-init
loop-done-init g c =
    let all = ap (reached
    (location (io_memory (g.H.HostBlocks.host c.args.h.now) (g.M.GuestMemoryBackend.layout c.args.backend.now) c.args.table c.args.set)
    c.args.access)) (circular_all c.args.addr c.args.len) in
    record {
      within = omega arith;
      left = rw c.new-left.ensures (all_left (table_in (g.H.HostBlocks.host c.args.h.now) c.args.table) c.args.addr c.args.len
          c.args.mapped c.requires.2);
      count = omega (arith, all);
    }

pub next_window-requires : goal.next_window-requires
next_window-requires g c =
    let table = table_in (g.H.HostBlocks.host c.args.h.now) c.args.table in (
      table,
      c.args.access,
      c.args.len - c.loop-done.done,
      mapped_left table c.args.access c.args.addr c.loop-done.done c.args.len _ _ c.loop-done-test.true c.requires.0
          c.requires.1 c.loop-done.invariant.left,
    )

pub returns-in_default : goal.returns-in_default
returns-in_default g c =
    let table = table_in (g.H.HostBlocks.host c.args.h.now) c.args.table in
    let ready = mapped_left table c.args.access c.args.addr c.loop-done.done c.args.len _ _ c.loop-done-test.true c.requires.0 c.requires.1
    c.loop-done.invariant.left in
    let none = count_none
    (location (io_memory (g.H.HostBlocks.host c.args.h.now) (g.M.GuestMemoryBackend.layout c.args.backend.now) c.args.table c.args.set)
    c.args.access) c.args.addr c.loop-done.done c.args.len
    (c.args.addr + c.loop-done.done) (omega (arith, c.requires.0)) c.loop-done-test.true
    (c.next_window.ensures.none table c.args.access (c.args.len - c.loop-done.done) ready c.in_default.is) in
    omega (arith, none, c.loop-done.invariant.count)

pub loop-done-preserved : goal.loop-done-preserved
loop-done-preserved g c =
    let table = table_in (g.H.HostBlocks.host c.args.h.now) c.args.table in
    let ready = mapped_left table c.args.access c.args.addr c.loop-done.done c.args.len _ _ c.loop-done-test.true c.requires.0 c.requires.1
    c.loop-done.invariant.left in
    let some = c.in-Some.ensures.some table c.args.access (c.args.len - c.loop-done.done) ready in
    let left = c.in-Some.ensures.left table c.args.access (c.args.len - c.loop-done.done) ready in
    let le : c.loop-done.done + c.in-Some.window.len ≤ c.args.len = omega (arith, some.1) in
    let step = count_step
    (location (io_memory (g.H.HostBlocks.host c.args.h.now) (g.M.GuestMemoryBackend.layout c.args.backend.now) c.args.table c.args.set)
    c.args.access) c.args.addr c.loop-done.done c.args.len
    c.in-Some.window.len (c.args.addr + c.loop-done.done) _ (omega (arith, c.requires.0)) some.2 le some.3 in
    rw c.len-done.ensures.len (record {
      within = le;
      left = left_step table c.args.addr c.loop-done.done c.args.len c.in-Some.window.len _ _ left;
      count = step ∙ c.loop-done.invariant.count;
    })

pub returns : goal.returns
returns g c =
    let none = count_end
    (location (io_memory (g.H.HostBlocks.host c.args.h.now) (g.M.GuestMemoryBackend.layout c.args.backend.now) c.args.table c.args.set)
    c.args.access) c.args.addr c.loop-done.done c.args.len c.loop-done-test.false in
    omega (arith, none, c.loop-done.invariant.count)

pub loop-done-smaller : goal.loop-done-smaller
loop-done-smaller g c =
    let table = table_in (g.H.HostBlocks.host c.args.h.now) c.args.table in
    let ready = mapped_left table c.args.access c.args.addr c.loop-done.done c.args.len _ _ c.loop-done-test.true c.requires.0 c.requires.1
    c.loop-done.invariant.left in
    let some = c.in-Some.ensures.some table c.args.access (c.args.len - c.loop-done.done) ready in
    omega (arith, some.0, some.1, c.len-done.ensures.len)

pub overflow_add-done : goal.overflow_add-done
overflow_add-done g c =
    let table = table_in (g.H.HostBlocks.host c.args.h.now) c.args.table in
    let ready = mapped_left table c.args.access c.args.addr c.loop-done.done c.args.len _ _ c.loop-done-test.true c.requires.0 c.requires.1
    c.loop-done.invariant.left in
    let some = c.in-Some.ensures.some table c.args.access (c.args.len - c.loop-done.done) ready in
    omega (arith, some.1, c.len-done.ensures.len, c.requires.0)
