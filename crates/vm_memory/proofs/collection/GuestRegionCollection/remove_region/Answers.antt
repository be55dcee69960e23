use Rattle.std.proofs.Common.{rules, ◌≡◌, List, true, ◌-◌, ◌+◌, ◌<◌, length, arith, subst, sym, ap, ◌∙◌}
use Rattle.std.specs.Prelude.{remove, is_some}
use Rattle.vm_memory.specs.Layout.{Region, start_at, regions_of, is_region, IsLayout}
use Rattle.vm_memory.proofs.LayoutLemmas.{start_at-get}
use Rattle.vm_memory.proofs.ChangeLemmas.{none_begins, not_there, found_there, without-remove, layout_without, shared-remove, removed_item}
use Rattle.vm_memory.proofs.ChangeLemmas.{is_not_start, is_not_size, is_this}
use Rattle.vm_memory.proofs.collection.GuestRegionCollection.remove_region.Goals as goal

pub returns-then-begun-eq0 : goal.returns-then-begun-eq0
returns-then-begun-eq0 g c =
    let none : c.begun-begun.result ≡ 0 = omega arith in
    none_begins c.args.self.now c.args.base.0 c.args.size c.begun-begun.ensures.layout
    (subst (λ n. n < length c.args.self.now → c.args.base.0 < start_at c.args.self.now n) none c.begun-begun.ensures.above)

pub returns-then-start_addr-base : goal.returns-then-start_addr-base
returns-then-start_addr-base g c =
    let r : Region = g.R.GuestMemoryRegion.region c.region-last.result.now in
    let begins = start_at-get c.args.self.now (c.begun-begun.result - 1) r c.region-last.ensures in
    let next : c.begun-begun.result - 1 + 1 ≡ c.begun-begun.result = omega arith in
    not_there c.args.self.now (c.begun-begun.result - 1) c.args.base.0 c.args.size r c.begun-begun.ensures.layout c.region-last.ensures
    (omega arith) (rw next c.begun-begun.ensures.above)
    (is_not_start r c.args.base.0 c.args.size (λ same. c.if-start_addr-base.true (c.start_addr.ensures.start ∙ same)))

pub returns-then-len-size : goal.returns-then-len-size
returns-then-len-size g c =
    let r : Region = g.R.GuestMemoryRegion.region c.region-last.result.now in
    let begins = start_at-get c.args.self.now (c.begun-begun.result - 1) r c.region-last.ensures in
    let next : c.begun-begun.result - 1 + 1 ≡ c.begun-begun.result = omega arith in
    not_there c.args.self.now (c.begun-begun.result - 1) c.args.base.0 c.args.size r c.begun-begun.ensures.layout c.region-last.ensures
    (omega arith) (rw next c.begun-begun.ensures.above)
    (is_not_size r c.args.base.0 c.args.size (λ same. c.if-len-size.true (c.len.ensures.len ∙ same)))

pub invariant_of-result : goal.invariant_of-result
invariant_of-result g c =
    let r : Region = g.R.GuestMemoryRegion.region c.region-last.result.now in
    let this : is_region c.args.base.0 c.args.size r ≡ true = is_this r c.args.base.0 c.args.size (omega arith) (omega arith) in
    let left = ap (regions_of g.R.GuestMemoryRegion.region) c.remove-removed.ensures.items
    ∙ shared-remove g.R.GuestMemoryRegion.region c.in-Ok.regions.items (c.begun-begun.result - 1) ∙ ap
    (λ (l : List Region). remove l (c.begun-begun.result - 1)) c.in-Ok.ensures.copy
    ∙ without-remove c.args.self.now (c.begun-begun.result - 1) c.args.base.0 c.args.size r c.begun-begun.ensures.layout
    c.region-last.ensures this in
    subst IsLayout (sym left) (layout_without c.args.self.now c.args.base.0 c.args.size c.begun-begun.ensures.layout)

pub returns : goal.returns
returns g c =
    let r : Region = g.R.GuestMemoryRegion.region c.region-last.result.now in
    let this : is_region c.args.base.0 c.args.size r ≡ true = is_this r c.args.base.0 c.args.size (omega arith) (omega arith) in
    let left = ap (regions_of g.R.GuestMemoryRegion.region) c.remove-removed.ensures.items
    ∙ shared-remove g.R.GuestMemoryRegion.region c.in-Ok.regions.items (c.begun-begun.result - 1) ∙ ap
    (λ (l : List Region). remove l (c.begun-begun.result - 1)) c.in-Ok.ensures.copy
    ∙ without-remove c.args.self.now (c.begun-begun.result - 1) c.args.base.0 c.args.size r c.begun-begun.ensures.layout
    c.region-last.ensures this in (
      found_there c.args.self.now (c.begun-begun.result - 1) c.args.base.0 c.args.size r c.begun-begun.ensures.layout
          c.region-last.ensures this
          ∙ removed_item g.R.GuestMemoryRegion.region c.in-Ok.regions.items c.args.self.now (c.begun-begun.result - 1) r
          c.remove-removed.result c.in-Ok.ensures.copy
          c.region-last.ensures c.remove-removed.ensures.value,
      left,
    )

pub returns-in_default : goal.returns-in_default
returns-in_default g c =
    let r : Region = g.R.GuestMemoryRegion.region c.region-last.result.now in
    let this : is_region c.args.base.0 c.args.size r ≡ true = is_this r c.args.base.0 c.args.size (omega arith) (omega arith) in (
      ap is_some (found_there c.args.self.now (c.begun-begun.result - 1) c.args.base.0 c.args.size r c.begun-begun.ensures.layout
          c.region-last.ensures this),
      search rules,
    )
