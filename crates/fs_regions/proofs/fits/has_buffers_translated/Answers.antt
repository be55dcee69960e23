use Rattle.vm_iotlb.specs.declared.permissions.Permissions.TheVariants.{Read}
use Rattle.fs_regions.specs.Places.{places_in}
use Rattle.fs_regions.proofs.Fitting.{no_piece}
use Rattle.fs_regions.proofs.fits.has_buffers_translated.Goals as goal

pub loop-descriptor-init : goal.loop-descriptor-init
loop-descriptor-init c = record {
  piece = no_piece (places_in c.args.regions.now) Read;
  fits = λ fit. rw (c.from-request.ensures, c.from-reply.ensures) at fit;
}
