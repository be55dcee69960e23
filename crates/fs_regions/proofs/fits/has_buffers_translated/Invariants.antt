use Rattle.std.proofs.Common.{drop}
use Rattle.fs_regions.specs.Pieces.{IsPiece}
use Rattle.fs_regions.specs.Places.{places_in}
use Rattle.fs_regions.proofs.Fitting.{Fits}
use Rattle.fs_regions.proofs.fits.has_buffers_translated.Given as goal

-- the piece is mapped; and if the descriptors that are left fit, all do
abbrev pub invariant-loop-descriptor : goal.invariant-loop-descriptor
invariant-loop-descriptor l = record {
  piece : IsPiece (places_in l.regions) l.piece;
  fits : Fits (places_in l.regions) l.request l.reply (drop l.descriptor-index l.descriptors)
      → Fits (places_in l.regions) l.limit l.limit l.descriptors;
}
