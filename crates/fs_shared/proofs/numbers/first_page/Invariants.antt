use Rattle.std.proofs.Common.{◌≡◌}
use Rattle.vm_memory_core.specs.Host.{lengths}
use Rattle.fs_shared.specs.Pages.{first_page}
use Rattle.fs_shared.proofs.numbers.first_page.Given as goal

abbrev pub invariant-loop-number : goal.invariant-loop-number
invariant-loop-number g l = l.first ≡ first_page (lengths (g.H.HostBlocks.host l.host)) l.number
