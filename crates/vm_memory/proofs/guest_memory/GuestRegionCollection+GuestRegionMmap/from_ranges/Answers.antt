use Rattle.std.proofs.Common.{List, ◌∙◌, sym, subst}
use Rattle.vm_memory_core.specs.Host.{lengths}
use Rattle.vm_memory.specs.Layout.{Region, AreHeld}
use Rattle.vm_memory.proofs.MakingLemmas.{held_made, unless_ok}
use Rattle.vm_memory.proofs.guest_memory.GuestRegionCollection+GuestRegionMmap.from_ranges.Goals as goal

pub returns-in-Ok-from_arc_regions-clause-held : goal.returns-in-Ok-from_arc_regions-clause-held
returns-in-Ok-from_arc_regions-clause-held g c =
    let same = unless_ok _ _ c.in-Ok-from_arc_regions.memory c.in-Ok-from_arc_regions.ensures ∙ c.in-Ok.ensures.1 in
    subst (λ (l : List Region). AreHeld (lengths c.regions_over.new.host) l) (sym same)
    (held_made g.B.NewBitmap.count c.args.host.now c.regions_over.new.host c.args.ranges.now c.in-Ok.ensures.2)
