use Rattle.std.proofs.Common.{◌+◌, ◌-◌, ◌%◌, ◌^◌, length, arith, refl, ap}
use Rattle.vm_memory.specs.Slices.{PhysicalSlices}
use Rattle.vm_memory.proofs.Places.{length-circular}
use Rattle.vm_memory.proofs.SliceLemmas.{end_given, error_given, window_taken}
use Rattle.vm_memory.proofs.slice_iterator.GuestMemoryBackendSliceIteratorIterator.next.Goals as goal

pub returns-then-self-eq0-clause-steps : goal.returns-then-self-eq0-clause-steps
returns-then-self-eq0-clause-steps g c =
    rw (← c.self.view_is) (refl, end_given _ _ c.self.inside.addr c.self.inside.count (omega arith))

pub returns-in-Some-clause-steps : goal.returns-in-Some-clause-steps
returns-in-Some-clause-steps g c =
    rw (← c.self.view_is, c.len.ensures.len, c.len-in-Some.ensures.len) (
      refl,
      window_taken _ _ c.self.inside.addr c.self.inside.count c.in-Some.window (omega arith) c.in-Some.ensures.some.0
          c.in-Some.ensures.longest c.in-Some.ensures.some.2 c.in-Some.ensures.some.3,
    )

pub returns-in-Some-clause-goes : goal.returns-in-Some-clause-goes
returns-in-Some-clause-goes g c =
    let before = ap (λ (s : PhysicalSlices). length s.left) c.self.view_is in
    let all = length-circular c.self.inside.count c.self.inside.addr in
    let after = length-circular (c.self.inside.count - c.len-in-Some.result) ((c.self.inside.addr + c.len.result) % 2 ^ 64) in
    let some = c.in-Some.ensures.some.0 in
    record { on = λ finite. (tt, tt, omega (arith, before, all, after, some, c.len-in-Some.ensures.len)); keeps = tt; rests = λ finite. tt }

pub returns-in-None-clause-steps : goal.returns-in-None-clause-steps
returns-in-None-clause-steps g c =
    rw (← c.self.view_is)
    (refl, error_given _ _ c.self.inside.addr c.self.inside.count (omega arith) (omega arith) (c.window_at.ensures.none c.in-None.is))

pub returns-in-None-clause-goes : goal.returns-in-None-clause-goes
returns-in-None-clause-goes g c =
    let before = ap (λ (s : PhysicalSlices). length s.left) c.self.view_is in
    let all = length-circular c.self.inside.count c.self.inside.addr in
    let after = length-circular 0 c.self.inside.addr in
    record { on = λ finite. (tt, tt, omega (arith, before, all, after)); keeps = tt; rests = λ finite. tt }
