use Rattle.std.proofs.Common.{◌≡◌, ◌++◌, ◌∷◌, [], map, ap, ◌∙◌}
use Rattle.std.proofs.lemmas.List.{map-append}
use Rattle.fs_device.specs.PageView.{page_view}
use Rattle.fs_device.proofs.HarvestLemmas.{next_added, none_left}
use Rattle.fs_device.proofs.harvested.harvest_block.Goals as goal

pub loop-page-preserved : goal.loop-page-preserved
loop-page-preserved c =
    let added : map page_view c.push.new.self.items ≡ map page_view c.loop-page.pages.items ++ page_view c.in_ok-copy_page.field-0 ∷ [] =
    ap (map page_view) c.in_ok-push.ensures.items ∙ map-append page_view c.loop-page.pages.items (c.in_ok-copy_page.field-0 ∷ []) in
    rw added (next_added c.args.block c.args.bytes.now c.loop-page.from c.in-Some.page c.args.bitmap.now.marks
    (map page_view c.loop-page.pages.items) _ _ c.in-Some.ensures c.in_ok-copy_page.ensures
    c.loop-page.invariant)

pub returns : goal.returns
returns c = none_left c.args.block c.args.bytes.now c.loop-page.from c.args.bitmap.now.marks _ _ c.in_default.ensures c.loop-page.invariant
