use Rattle.std.proofs.Common.{◌≡◌, Bor, List, ap, arith, sym}
use Rattle.std.specs.Prelude.{option_map}
use Rattle.vm_iotlb.specs.declared.range.IotlbRange.{IotlbRange}
use Rattle.vm_memory.specs.Translated.{ranges_of}
use Rattle.vm_memory.proofs.SliceLemmas.{error_missing, error_there, no_error_left}
use Rattle.vm_memory.proofs.TranslatedLemmas.{no_table}
use Rattle.vm_memory.proofs.iommu_slices.IommuMemorySliceIteratorGuestMemorySliceIterator.next_error.Goals as goal

pub returns-then-self-eq0 : goal.returns-then-self-eq0
returns-then-self-eq0 g c = rw (← c.self.view_is) (no_error_left _ c.self.inside.addr c.self.inside.count (omega arith))

pub returns-in_default : goal.returns-in_default
returns-in_default g c =
    absurd (no_table (option_map (λ (t : Bor (List IotlbRange)). t.now) c.self.inside.table) c.self.inside.addr c.self.inside.count
    c.self.inside.access
    (ap (option_map (λ (t : Bor (List IotlbRange)). t.now)) c.in_default.is) (omega arith) c.self.invariant.1)

pub returns-in-Some-translated_window : goal.returns-in-Some-translated_window
returns-in-Some-translated_window g c =
    let same : ranges_of c.self.inside.table ≡ c.in-Some.table.now = ap ranges_of c.in-Some.is in
    rw (← c.self.view_is, same)
    (error_missing _ c.self.inside.addr c.self.inside.count c.in-Some-translated_window.field-0.len _ (omega (arith, c.self.invariant.0))
    c.in-Some-translated_window.ensures.some.0 c.in-Some-translated_window.ensures.some.3)

pub returns-in-None : goal.returns-in-None
returns-in-None g c =
    let same : ranges_of c.self.inside.table ≡ c.in-Some.table.now = ap ranges_of c.in-Some.is in
    rw (← c.self.view_is, same) (sym (error_there _ c.self.inside.addr c.self.inside.count (omega (arith, c.self.invariant.0)) (omega arith)
    (c.translated_window.ensures.none c.in-None.is)))
