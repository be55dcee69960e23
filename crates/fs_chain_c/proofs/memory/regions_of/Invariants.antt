use Rattle.std.proofs.Common.{◌≡◌, ◌≤◌, All, length, map, take, vec_capacity}
use Rattle.fs_chain_c.specs.Memory.{IsRegion, region_of}
use Rattle.fs_chain_c.proofs.memory.regions_of.Given as goal

-- there is a region for each that was looked at, which each is one, and room for all
abbrev pub invariant-loop-region : goal.invariant-loop-region
invariant-loop-region l = (l.made.items ≡ map region_of (take l.region-index l.regions)) × (length l.regions ≤ vec_capacity l.made)
    × All IsRegion (take l.region-index l.regions)
