use Rattle.std.proofs.Common.{Bor, List, ap, arith, refl, sym, inr, ◌∙◌}
use Rattle.std.specs.Prelude.{option_map}
use Rattle.vm_iotlb.specs.declared.range.IotlbRange.{IotlbRange}
use Rattle.vm_memory.proofs.Translations.{none_translated, nothing_passes}
use Rattle.vm_memory.proofs.iommu.TableIommuIommu.translate.Goals as goal

pub returns-then-length-eq0 : goal.returns-then-length-eq0
returns-then-length-eq0 g c = none_translated _ c.args.iova.0 c.args.length c.args.access _ (omega arith) (omega arith) c.default.ensures

pub returns-in_default : goal.returns-in_default
returns-in_default g c = (
  refl,
  inr (nothing_passes _ c.args.iova.0 c.args.length c.args.access
      (sym c.table.ensures ∙ ap (option_map (λ (t : Bor (List IotlbRange)). t.now)) c.in_default.is) (omega arith)),
)
