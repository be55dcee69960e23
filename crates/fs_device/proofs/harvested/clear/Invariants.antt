use Rattle.std.proofs.Common.{◌≡◌, ◌++◌, map, take, drop}
use Rattle.vm_memory_core.specs.Host.{unmarked, with_blocks}
use Rattle.fs_device.proofs.harvested.clear.Given as goal

abbrev pub invariant-loop-block : goal.invariant-loop-block
invariant-loop-block l =
    l.host ≡ with_blocks l.initial.host (map unmarked (take l.block l.initial.host.blocks) ++ drop l.block l.initial.host.blocks)
