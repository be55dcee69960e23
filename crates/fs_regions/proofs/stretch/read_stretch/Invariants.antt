use Rattle.smallvec.specs.SmallVec.{HasRoomFor}
use Rattle.fs_regions.proofs.Stretching.{Reading}
use Rattle.fs_regions.proofs.stretch.read_stretch.Given as goal

abbrev pub invariant-entries : goal.invariant-entries
invariant-entries l = record {
  reading : Reading l.fn.walk l.bytes l.fn.descriptors.items l.descriptors.items l.left l.progress;
  room : HasRoomFor l.descriptors l.left;
}

abbrev pub decreases-entries : goal.decreases-entries
decreases-entries l = l.left
