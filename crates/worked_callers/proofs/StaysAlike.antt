-- Mappings that stay for descriptors, if another table maps the same addresses alike.
use Rattle.std.proofs.Common.{◌+◌, List, ◌∙◌, All, get_or}
use Rattle.vm_iotlb.specs.Table.{AreSame, Table}
use Rattle.fs_queue.specs.Chain.{Descriptor}
use Rattle.fs_regions.specs.Using.{StaysFor}

pub stays_alike : (old mid new : Table) (ds : List Descriptor) → AreSame new mid → All (StaysFor old mid) ds → All (StaysFor old new) ds
stays_alike old mid new ds same stays k d lt j within =
    same ((get_or ds k d).addr + j) ∙ stays k d lt j within
