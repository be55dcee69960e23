use Rattle.std.proofs.Common.{◌≡◌, ◌+◌, ◌-◌, Bor, List, ap, arith, length}
use Rattle.std.specs.Prelude.{option_map}
use Rattle.vm_iotlb.specs.declared.range.IotlbRange.{IotlbRange}
use Rattle.vm_iotlb.specs.Ranges.{table_held}
use Rattle.vm_memory.specs.Translated.{TranslatedSlices, ranges_of}
use Rattle.vm_memory.proofs.Places.{length-circular}
use Rattle.vm_memory.proofs.SliceLemmas.{end_given, error_given, window_taken_low}
use Rattle.vm_memory.proofs.TranslatedLemmas.{may_all-none, may_all-rest, no_table}
use Rattle.vm_memory.proofs.iommu_slices.IommuMemorySliceIteratorIterator.next.Goals as goal

pub returns-then-self-eq0-clause-steps : goal.returns-then-self-eq0-clause-steps
returns-then-self-eq0-clause-steps g c =
    rw (← c.self.view_is) (end_given _ _ c.self.inside.addr c.self.inside.count (omega arith))

pub returns-in_default-clause-steps : goal.returns-in_default-clause-steps
returns-in_default-clause-steps g c =
    absurd (no_table (option_map (λ (t : Bor (List IotlbRange)). t.now) c.self.inside.table) c.self.inside.addr c.self.inside.count
    c.self.inside.access
    (ap (option_map (λ (t : Bor (List IotlbRange)). t.now)) c.in_default.is) (omega arith) c.self.invariant.1)

pub invariant_of-self : goal.invariant_of-self
invariant_of-self g c =
    let le = c.in-Some-translated_window.ensures.some.1 in
    rw (c.len.ensures.len, c.len-in-Some-translated_window.ensures.len) (
      omega (arith, le, c.self.invariant.0),
      may_all-rest c.in-Some-translated_window.window.len c.self.inside.count c.self.inside.addr
          (table_held (ranges_of c.self.inside.table)) c.self.inside.access le c.self.invariant.1,
    )

pub invariant_of-self-in-None : goal.invariant_of-self-in-None
invariant_of-self-in-None g c =
    (omega (arith, c.self.invariant.0), may_all-none c.self.inside.addr (table_held (ranges_of c.self.inside.table)) c.self.inside.access)

pub returns-in-Some-translated_window-clause-steps : goal.returns-in-Some-translated_window-clause-steps
returns-in-Some-translated_window-clause-steps g c =
    let same : ranges_of c.self.inside.table ≡ c.in-Some.table.now = ap ranges_of c.in-Some.is in
    let le = c.in-Some-translated_window.ensures.some.1 in
    rw (← c.self.view_is, same, c.len.ensures.len, c.len-in-Some-translated_window.ensures.len)
    (window_taken_low _ _ c.self.inside.addr c.self.inside.count c.in-Some-translated_window.window
    c.in-Some-translated_window.ensures.some.0 c.in-Some-translated_window.ensures.longest
    (omega (arith, le, c.self.invariant.0)) c.in-Some-translated_window.ensures.some.3)

pub returns-in-Some-translated_window-clause-goes : goal.returns-in-Some-translated_window-clause-goes
returns-in-Some-translated_window-clause-goes g c =
    let before = ap (λ (s : TranslatedSlices). length s.left) c.self.view_is in
    let all = length-circular c.self.inside.count c.self.inside.addr in
    let after = length-circular (c.self.inside.count - c.len-in-Some-translated_window.result) (c.self.inside.addr + c.len.result) in
    let some = c.in-Some-translated_window.ensures.some.0 in
    record {
      on = λ finite. (tt, tt, omega (arith, before, all, after, some, c.len-in-Some-translated_window.ensures.len));
      keeps = tt;
      rests = λ finite. tt;
    }

pub returns-in-None-clause-steps : goal.returns-in-None-clause-steps
returns-in-None-clause-steps g c =
    let same : ranges_of c.self.inside.table ≡ c.in-Some.table.now = ap ranges_of c.in-Some.is in
    rw (← c.self.view_is, same)
    (error_given _ _ c.self.inside.addr c.self.inside.count (omega (arith, c.self.invariant.0)) (omega arith)
    (c.translated_window.ensures.none c.in-None.is))

pub returns-in-None-clause-goes : goal.returns-in-None-clause-goes
returns-in-None-clause-goes g c =
    let before = ap (λ (s : TranslatedSlices). length s.left) c.self.view_is in
    let all = length-circular c.self.inside.count c.self.inside.addr in
    let after = length-circular 0 c.self.inside.addr in
    record { on = λ finite. (tt, tt, omega (arith, before, all, after)); keeps = tt; rests = λ finite. tt }
