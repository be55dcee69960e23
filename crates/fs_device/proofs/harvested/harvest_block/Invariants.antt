use Rattle.std.proofs.Common.{◌≡◌, ◌-◌, ◌++◌, length, map, drop}
use Rattle.plain_machine.specs.Harvested.{block_pages}
use Rattle.fs_device.specs.PageView.{page_view}
use Rattle.fs_device.proofs.harvested.harvest_block.Given as goal

abbrev pub invariant-loop-page : goal.invariant-loop-page
invariant-loop-page l =
    map page_view l.pages.items ++ block_pages l.block l.bytes l.from (drop l.from l.bitmap.marks)
    ≡ map page_view l.initial.pages.items ++ block_pages l.block l.bytes 0 l.bitmap.marks

abbrev pub decreases-loop-page : goal.decreases-loop-page
decreases-loop-page l = length l.bitmap.marks - l.from
