use Rattle.std.proofs.Common.{◌+◌, ◌-◌, ◌≤◌, length, arith, ◌∙◌, sym}
use Rattle.vm_iotlb.specs.declared.permissions.Permissions.TheVariants.{Read}
use Rattle.vm_memory.specs.Memory.{io_memory, location, table_in}
use Rattle.vm_memory.proofs.Places.{count_step, count_none, count_end, front_step, back_step}
use Rattle.vm_memory.proofs.TranslatedLemmas.{left_step, mapped_left}
use Rattle.vm_memory.proofs.io_ranges.read_io.Goals as goal

pub returns-in_default-clause-count : goal.returns-in_default-clause-count
returns-in_default-clause-count g c =
    let table = table_in (g.H.HostBlocks.host c.args.h.now) c.args.table in
    let ready = mapped_left table Read c.args.addr c.loop-done.done (length c.args.buffer.now) _ _ (omega arith) c.requires.mapped.0
    c.requires.mapped.1 c.loop-done.invariant.left in
    let none = count_none (location (io_memory (g.H.HostBlocks.host c.args.h.now) (g.M.GuestMemoryBackend.layout c.args.backend.now)
    c.args.table c.args.set) Read)
    c.args.addr c.loop-done.done (length c.args.buffer.now)
    (c.args.addr + c.loop-done.done) (omega (arith, c.requires.mapped.0)) (omega arith)
    (c.next_window.ensures.none table Read (length c.args.buffer.now - c.loop-done.done) ready c.in_default.is) in
    omega (arith, none, c.loop-done.invariant.count)

pub loop-done-preserved : goal.loop-done-preserved
loop-done-preserved g c =
    let table = table_in (g.H.HostBlocks.host c.args.h.now) c.args.table in
    let ready = mapped_left table Read c.args.addr c.loop-done.done (length c.args.buffer.now) _ _ (omega arith) c.requires.mapped.0
    c.requires.mapped.1 c.loop-done.invariant.left in
    let some = c.in-Some.ensures.some table Read (length c.args.buffer.now - c.loop-done.done) ready in
    let left = c.in-Some.ensures.left table Read (length c.args.buffer.now - c.loop-done.done) ready in
    let le : c.loop-done.done + c.in-Some.window.len ≤ length c.args.buffer.now = omega (arith, some.1) in
    let step = count_step (location (io_memory (g.H.HostBlocks.host c.args.h.now) (g.M.GuestMemoryBackend.layout c.args.backend.now)
    c.args.table c.args.set) Read)
    c.args.addr c.loop-done.done (length c.args.buffer.now)
    c.in-Some.window.len (c.args.addr + c.loop-done.done) _ (omega (arith, c.requires.mapped.0)) some.2 le some.3 in
    rw c.len-done.ensures.len (record {
      within = le;
      left = left_step table c.args.addr c.loop-done.done (length c.args.buffer.now) c.in-Some.window.len _ _ left;
      count = step ∙ c.loop-done.invariant.count;
      front = front_step (io_memory (g.H.HostBlocks.host c.args.h.now) (g.M.GuestMemoryBackend.layout c.args.backend.now) c.args.table
          c.args.set) c.args.addr
          c.loop-done.done (length c.args.buffer.now)
          c.in-Some.window.len (c.args.addr + c.loop-done.done) _ c.loop-done.buffer c.bytes.result.now c.put_at.new.buffer
          (omega (arith, c.requires.mapped.0)) some.2 le (omega arith)
          some.3 (sym c.bytes.ensures.len) c.bytes.ensures.bytes c.put_at.ensures.stored c.loop-done.invariant.front;
      back = back_step c.loop-done.done c.in-Some.window.len c.loop-done.buffer c.bytes.result.now c.put_at.new.buffer c.args.buffer.now
          (sym c.bytes.ensures.len) (omega arith)
          c.put_at.ensures.stored c.loop-done.invariant.back;
    })

pub returns-clause-count : goal.returns-clause-count
returns-clause-count g c =
    let none = count_end (location (io_memory (g.H.HostBlocks.host c.args.h.now) (g.M.GuestMemoryBackend.layout c.args.backend.now)
    c.args.table c.args.set) Read)
    c.args.addr c.loop-done.done (length c.args.buffer.now) (omega arith) in
    omega (arith, none, c.loop-done.invariant.count)

pub next_window-requires : goal.next_window-requires
next_window-requires g c =
    let table = table_in (g.H.HostBlocks.host c.args.h.now) c.args.table in
    let ready = mapped_left table Read c.args.addr c.loop-done.done (length c.args.buffer.now) _ _ (omega arith) c.requires.mapped.0
    c.requires.mapped.1 c.loop-done.invariant.left in
    (table, Read, length c.args.buffer.now - c.loop-done.done, ready)

pub loop-done-smaller : goal.loop-done-smaller
loop-done-smaller g c =
    let table = table_in (g.H.HostBlocks.host c.args.h.now) c.args.table in
    let ready = mapped_left table Read c.args.addr c.loop-done.done (length c.args.buffer.now) _ _ (omega arith) c.requires.mapped.0
    c.requires.mapped.1 c.loop-done.invariant.left in
    let some = c.in-Some.ensures.some table Read (length c.args.buffer.now - c.loop-done.done) ready in
    omega (arith, some.0, some.1, c.len-done.ensures.len)

pub put_at-requires : goal.put_at-requires
put_at-requires g c =
    let table = table_in (g.H.HostBlocks.host c.args.h.now) c.args.table in
    let ready = mapped_left table Read c.args.addr c.loop-done.done (length c.args.buffer.now) _ _ (omega arith) c.requires.mapped.0
    c.requires.mapped.1 c.loop-done.invariant.left in
    let some = c.in-Some.ensures.some table Read (length c.args.buffer.now - c.loop-done.done) ready in
    omega (arith, some.1, c.bytes.ensures.len)
