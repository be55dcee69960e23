use Rattle.std.proofs.Common.{All, take}
use Rattle.fs_chain_c.specs.Memory.{IsRegion}
use Rattle.fs_chain_c.proofs.memory.region_refusal.Given as goal

-- each that was looked at is one
abbrev pub invariant-loop-region : goal.invariant-loop-region
invariant-loop-region l = All IsRegion (take l.region-index l.regions)
