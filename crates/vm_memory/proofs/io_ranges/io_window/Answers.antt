use Rattle.std.proofs.Common.{◌≡◌, ◌∙◌, ◌+◌, ◌<◌, ◌≤◌, ◌^◌, Bor, List, [], Option, Some, ap, subst, sym}
use Rattle.std.specs.Prelude.{IfSome, option_map, slice_get, unwrap_or}
use Rattle.vm_iotlb.specs.declared.range.IotlbRange.{IotlbRange}
use Rattle.vm_iotlb.specs.Ranges.{table_held}
use Rattle.vm_memory_core.specs.Window.{Window, places_of}
use Rattle.vm_memory.specs.Memory.{addresses, located}
use Rattle.vm_memory.specs.Translated.{ranges_in, translated}
use Rattle.vm_memory.proofs.TranslatedLemmas.{no_table}
use Rattle.vm_memory.proofs.io_ranges.io_window.Goals as goal

pub returns-in_default-clause-none : goal.returns-in_default-clause-none
returns-in_default-clause-none g c none =
    absurd (no_table (slice_get c.args.h.now.tables c.args.table) c.args.addr c.args.most c.args.access
    (sym c.table.ensures ∙ ap (option_map (λ (t : Bor (List IotlbRange)). t.now)) c.in_default.is)
    c.requires.0 c.requires.2)

pub returns-clause-some : goal.returns-clause-some
returns-clause-some g c =
    let same : c.in-Some.table.now ≡ ranges_in c.args.h.now c.args.table =
    ap (λ (o : Option (List IotlbRange)). unwrap_or o []) (sym (ap (option_map (λ (t : Bor (List IotlbRange)). t.now)) c.in-Some.is)
    ∙ c.table.ensures) in
    subst (λ (ranges : List IotlbRange). IfSome c.translated_window.result
    (λ (w : Window). (0 < w.len) × (w.len ≤ c.args.most) × (c.args.addr + w.len ≤ 2 ^ 64)
    × (located (translated (g.M.GuestMemoryBackend.layout c.args.backend.now) (table_held ranges) c.args.set c.args.access)
    (addresses c.args.addr w.len) ≡ Some (places_of w))))
    same c.translated_window.ensures.some
