use Rattle.std.proofs.Common.{◌≡◌, drop}
use Rattle.fs_queue.specs.Taking.{all_reach, access_of, of_direction}
use Rattle.fs_queue.proofs.address_map.has_bytes.Given as goal

abbrev pub invariant-loop-descriptor : goal.invariant-loop-descriptor
invariant-loop-descriptor g l =
    all_reach (g.P.AddressMap.places l.places) (access_of l.write_only) (of_direction l.write_only l.descriptors)
    ≡ all_reach (g.P.AddressMap.places l.places) (access_of l.write_only)
    (of_direction l.write_only (drop l.descriptor-index l.descriptors))
