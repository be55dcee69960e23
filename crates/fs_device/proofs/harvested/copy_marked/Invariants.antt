use Rattle.std.proofs.Common.{◌≡◌, ◌++◌, map, drop}
use Rattle.plain_machine.specs.Harvested.{host_pages, harvested}
use Rattle.fs_device.specs.PageView.{page_view}
use Rattle.fs_device.proofs.harvested.copy_marked.Given as goal

abbrev pub invariant-loop-block : goal.invariant-loop-block
invariant-loop-block l = map page_view l.pages.items ++ host_pages l.block (drop l.block l.host.blocks) ≡ harvested l.host
