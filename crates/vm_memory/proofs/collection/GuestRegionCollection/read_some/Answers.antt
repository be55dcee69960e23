use Rattle.std.proofs.Common.{◌+◌, ◌≤◌, length, arith, ◌∙◌, sym, refl}
use Rattle.vm_memory.specs.Layout.{place}
use Rattle.vm_memory.specs.Memory.{memory_of}
use Rattle.vm_memory.proofs.Places.{count_step, count_none, count_end, front_step, back_step}
use Rattle.vm_memory.proofs.collection.GuestRegionCollection.read_some.Goals as goal

pub returns-in_default-clause-count : goal.returns-in_default-clause-count
returns-in_default-clause-count g c =
    let none = count_none (place c.args.self.now) c.args.addr c.loop-done.done (length c.args.buffer.now) _ refl (omega arith)
    (c.window_at.ensures.none c.in_default.is) in
    omega (arith, none, c.loop-done.invariant.count)

pub loop-done-preserved : goal.loop-done-preserved
loop-done-preserved g c =
    let le : c.loop-done.done + c.in-Some.window.len ≤ length c.args.buffer.now = omega (arith, c.in-Some.ensures.some.1) in
    let step = count_step (place c.args.self.now) c.args.addr c.loop-done.done (length c.args.buffer.now) c.in-Some.window.len _ _ refl
    c.in-Some.ensures.some.2 le c.in-Some.ensures.some.3 in
    rw c.len-done.ensures.len (record {
      within = le;
      count = step ∙ c.loop-done.invariant.count;
      front = front_step (memory_of (g.H.HostBlocks.host c.args.host.now) c.args.self.now) c.args.addr c.loop-done.done
          (length c.args.buffer.now) c.in-Some.window.len
          _ _ c.loop-done.buffer c.bytes.result.now
          c.put_at.new.buffer refl c.in-Some.ensures.some.2 le (omega arith) c.in-Some.ensures.some.3 (sym c.bytes.ensures.len)
          c.bytes.ensures.bytes c.put_at.ensures.stored
          c.loop-done.invariant.front;
      back = back_step c.loop-done.done c.in-Some.window.len c.loop-done.buffer c.bytes.result.now c.put_at.new.buffer c.args.buffer.now
          (sym c.bytes.ensures.len) (omega arith)
          c.put_at.ensures.stored c.loop-done.invariant.back;
    })

pub returns-clause-count : goal.returns-clause-count
returns-clause-count g c =
    let none = count_end (place c.args.self.now) c.args.addr c.loop-done.done (length c.args.buffer.now) (omega arith) in
    omega (arith, none, c.loop-done.invariant.count)
