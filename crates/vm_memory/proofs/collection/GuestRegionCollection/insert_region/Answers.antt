use Rattle.std.proofs.Common.{rules, ◌≡◌, List, false, ◌-◌, ◌+◌, arith, subst, sym, ap, ◌∙◌}
use Rattle.std.specs.Prelude.{insert}
use Rattle.std.specs.Arc.{arc_value}
use Rattle.std.specs.List.{list_any}
use Rattle.vm_memory.specs.Layout.{Region, regions_of, overlap, IsLawful, IsLayout}
use Rattle.vm_memory.proofs.ChangeLemmas.{any-block, with_region-insert, layout_with, shared-insert}
use Rattle.vm_memory.proofs.collection.GuestRegionCollection.insert_region.Goals as goal

pub invariant_of-result : goal.invariant_of-result
invariant_of-result g c =
    let r : Region = g.R.GuestMemoryRegion.region (arc_value c.args.region) in
    let lawful : IsLawful r = c.start_addr-start.ensures.lawful in
    let start : c.start_addr-start.result.0 ≡ r.start = c.start_addr-start.ensures.start in
    let last : c.last_addr-last.result.0 ≡ r.start + r.size - 1 = c.last_addr-last.ensures.last in
    let apart : list_any (overlap r) c.args.self.now ≡ false = sym
    (any-block c.args.self.now r c.start_addr-start.result.0 (c.last_addr-last.result.0 - c.start_addr-start.result.0 + 1) (sym start)
    (omega arith)) ∙ sym c.if-collides.ensures in
    let items : c.insert.new.self.items ≡ insert c.in-Ok.regions.items c.begun-at.result c.args.region = search rules in
    let left = ap (regions_of g.R.GuestMemoryRegion.region) items
    ∙ shared-insert g.R.GuestMemoryRegion.region c.in-Ok.regions.items c.begun-at.result c.args.region
    ∙ ap (λ (l : List Region). insert l c.begun-at.result r) c.in-Ok.ensures.copy
    ∙ with_region-insert c.args.self.now c.begun-at.result r c.begun-at.ensures.layout c.begun-at.ensures.most
    (λ some. omega (arith, c.begun-at.ensures.below some))
    (λ within. omega (arith, c.begun-at.ensures.above within)) in
    subst IsLayout (sym left) (layout_with c.args.self.now r c.begun-at.ensures.layout lawful apart)

pub returns : goal.returns
returns g c =
    let r : Region = g.R.GuestMemoryRegion.region (arc_value c.args.region) in
    let lawful : IsLawful r = c.start_addr-start.ensures.lawful in
    let start : c.start_addr-start.result.0 ≡ r.start = c.start_addr-start.ensures.start in
    let last : c.last_addr-last.result.0 ≡ r.start + r.size - 1 = c.last_addr-last.ensures.last in
    let apart : list_any (overlap r) c.args.self.now ≡ false = sym
    (any-block c.args.self.now r c.start_addr-start.result.0 (c.last_addr-last.result.0 - c.start_addr-start.result.0 + 1) (sym start)
    (omega arith)) ∙ sym c.if-collides.ensures in
    let items : c.insert.new.self.items ≡ insert c.in-Ok.regions.items c.begun-at.result c.args.region = search rules in
    let left = ap (regions_of g.R.GuestMemoryRegion.region) items
    ∙ shared-insert g.R.GuestMemoryRegion.region c.in-Ok.regions.items c.begun-at.result c.args.region
    ∙ ap (λ (l : List Region). insert l c.begun-at.result r) c.in-Ok.ensures.copy
    ∙ with_region-insert c.args.self.now c.begun-at.result r c.begun-at.ensures.layout c.begun-at.ensures.most
    (λ some. omega (arith, c.begun-at.ensures.below some))
    (λ within. omega (arith, c.begun-at.ensures.above within)) in
    (apart, left)
