use Rattle.std.proofs.Common.{map}
use Rattle.fs_device.specs.Applying.{pages_put}
use Rattle.fs_device.specs.PageView.{page_view}
use Rattle.fs_device.proofs.ApplyLemmas.{Left}
use Rattle.fs_device.proofs.applying.put.Given as goal

abbrev pub invariant-loop-page : goal.invariant-loop-page
invariant-loop-page l = Left l.initial.host l.host (pages_put l.initial.host (map page_view l.pages)) l.pages l.page-index
