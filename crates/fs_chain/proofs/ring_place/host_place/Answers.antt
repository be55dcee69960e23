use Rattle.fs_regions.specs.Places.{places_in}
use Rattle.fs_chain.proofs.RingPlaces.{found_place}
use Rattle.fs_chain.proofs.ring_place.host_place.Goals as goal

pub returns-in-Some : goal.returns-in-Some
returns-in-Some c =
    rw c.block.ensures (rw c.block_offset.ensures
    (found_place (places_in c.args.regions.now) c.args.addr c.in-Some.window c.in-Some.ensures.some))
