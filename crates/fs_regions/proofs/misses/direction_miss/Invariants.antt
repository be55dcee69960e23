use Rattle.std.proofs.Common.{◌≡◌, drop}
use Rattle.fs_queue.specs.Taking.{access_of, of_direction}
use Rattle.fs_regions.specs.Misses.{areas_of, first_miss}
use Rattle.fs_regions.specs.Places.{places_in}
use Rattle.fs_regions.proofs.misses.direction_miss.Given as goal

abbrev pub invariant-loop-descriptor : goal.invariant-loop-descriptor
invariant-loop-descriptor l =
    first_miss (places_in l.regions) (areas_of (access_of l.write_only) (of_direction l.write_only l.descriptors))
    ≡ first_miss (places_in l.regions)
    (areas_of (access_of l.write_only) (of_direction l.write_only (drop l.descriptor-index l.descriptors)))
