use Rattle.std.proofs.Common.{◌≡◌, ◌∙◌, sym, ap}
use Rattle.vm_iotlb.specs.declared.permissions.Permissions.TheVariants.{Read}
use Rattle.vm_memory.specs.Memory.{reach}
use Rattle.fs_queue.specs.Queue.{avail_index_at}
use Rattle.fs_queue.specs.WalkingView.{at_position}
use Rattle.fs_regions.specs.Places.{places_in}
use Rattle.fs_regions.specs.Walks.{queue_of}
use Rattle.fs_regions.proofs.Steps.{index_begins}
use Rattle.fs_regions.proofs.course.Course.begin.Goals as goal

pub without_index-requires : goal.without_index-requires
without_index-requires c =
    let w = c.in-Index.walk in
    let at : at_position w.layout w.position ≡ queue_of c.args.self.now =
    index_begins c.args.self.now.layout c.args.self.now.position w c.in-Index.ensures in
    record {
      at = at;
      away = ap (λ a. reach (places_in c.args.regions.now) Read a 2) (sym (c.address.ensures.at ∙ ap avail_index_at at))
          ∙ sym c.reaches.ensures ∙ c.if-reaches.false;
    }

pub returns-else-reaches-clause-comes : goal.returns-else-reaches-clause-comes
returns-else-reaches-clause-comes c =
    let comes = rw c.deref.ensures at c.without_index.ensures in comes c.clear.ensures.items
