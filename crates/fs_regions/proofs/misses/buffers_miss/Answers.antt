use Rattle.std.proofs.Common.{◌∙◌, Option, ap, sym, true, false}
use Rattle.std.specs.Option.{option_or}
use Rattle.vm_iotlb.specs.declared.iova.IovaRange.{IovaRange}
use Rattle.vm_iotlb.specs.declared.permissions.Permissions.{Permissions}
use Rattle.vm_iotlb.specs.declared.permissions.Permissions.TheVariants.{Read, Write}
use Rattle.fs_queue.specs.Taking.{of_direction}
use Rattle.fs_regions.specs.Misses.{areas_of, first_miss}
use Rattle.fs_regions.specs.Places.{places_in}
use Rattle.fs_regions.proofs.Missing.{first_in_both}
use Rattle.fs_regions.proofs.misses.buffers_miss.Goals as goal

pub returns-in-Some : goal.returns-in-Some
returns-in-Some c =
    let m = places_in c.args.regions.now in
    let ys = areas_of Write (of_direction true c.args.descriptors.now) in
    ap (λ (o : Option (IovaRange × Permissions)). option_or o (first_miss m ys)) (sym c.in-Some.is ∙ c.direction_miss.ensures)
    ∙ sym (first_in_both m (areas_of Read (of_direction false c.args.descriptors.now)) ys)

pub returns-in-None : goal.returns-in-None
returns-in-None c =
    let m = places_in c.args.regions.now in
    let ys = areas_of Write (of_direction true c.args.descriptors.now) in
    c.direction_miss-in-None.ensures
    ∙ ap (λ (o : Option (IovaRange × Permissions)). option_or o (first_miss m ys)) (sym c.in-None.is ∙ c.direction_miss.ensures)
    ∙ sym (first_in_both m (areas_of Read (of_direction false c.args.descriptors.now)) ys)
