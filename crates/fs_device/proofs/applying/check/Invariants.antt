use Rattle.std.proofs.Common.{◌≡◌, map, drop}
use Rattle.vm_memory_core.specs.Host.{lengths}
use Rattle.fs_device.specs.Applying.{first_refused}
use Rattle.fs_device.specs.PageView.{page_view}
use Rattle.fs_device.proofs.applying.check.Given as goal

abbrev pub invariant-loop-number : goal.invariant-loop-number
invariant-loop-number l = first_refused (lengths l.host) l.number (drop l.number (map page_view l.pages))
    ≡ first_refused (lengths l.host) 0 (map page_view l.pages)
