use Rattle.std.proofs.Common.{◌∙◌, [], inr, refl, sym, ap}
use Rattle.vm_iotlb.specs.declared.permissions.Permissions.TheVariants.{Read}
use Rattle.fs_queue.specs.declared.chain_walk.WalkEnd.TheVariants as comes_to
use Rattle.fs_queue.specs.declared.fault.ChainFault.TheVariants.{TableUnreachable}
use Rattle.fs_queue.specs.declared.fault.QueueError.TheVariants.{DescriptorUnreachable}
use Rattle.fs_queue.specs.Chain.{StopsQueue, entry_address}
use Rattle.fs_queue.specs.SteppingView.{visit_of}
use Rattle.fs_queue.specs.Taking.{Refuses}
use Rattle.fs_regions.specs.Misses.{OfEntry}
use Rattle.fs_regions.specs.Places.{places_in}
use Rattle.fs_regions.specs.Walks.{queue_of}
use Rattle.fs_regions.proofs.Fetching.{fetches_fault}
use Rattle.fs_regions.proofs.Missing.{first_of_one}
use Rattle.fs_regions.proofs.Offering.{on_found}
use Rattle.fs_regions.proofs.Steps.{loses, lost_walked}
use Rattle.fs_regions.proofs.course.Course.without_entry.Goals as goal

pub returns-in-Some-clause-comes : goal.returns-in-Some-clause-comes
returns-in-Some-clause-comes c = λ loaded waits brings.
    let v = visit_of c.args.walk.now in (
      OfEntry v,
      (c.args.head, waits, c.args.walk.now.inside, brings),
      first_of_one (places_in c.args.regions.now) (entry_address v) c.address.result 16 Read c.miss.result c.address.ensures.address
          c.miss.ensures ∙ c.in-Some.is,
    )

pub returns-then-is_indirect-clause-comes : goal.returns-then-is_indirect-clause-comes
returns-then-is_indirect-clause-comes c = λ loaded waits brings.
    let m = places_in c.args.regions.now in
    let q = queue_of c.args.self.now in
    let ds = c.args.descriptors.now in
    let v = visit_of c.args.walk.now in
    let is = ap lost_walked (sym (sym c.is_indirect.ensures ∙ c.if-is_indirect.true)) in
    let none = first_of_one m (entry_address v) c.address.result 16 Read c.miss.result c.address.ensures.address c.miss.ensures
    ∙ c.in-None.is in (
      fetches_fault m c.args.self.now.limit q loaded ds c.args.head TableUnreachable refl waits
          (loses m q loaded c.args.head ds v (comes_to.Faulty TableUnreachable) c.args.walk.now.inside c.requires is brings),
      inr (v, ds, ((c.args.head, waits, c.args.walk.now.inside, brings), none)),
    )

pub returns-else-is_indirect-clause-comes : goal.returns-else-is_indirect-clause-comes
returns-else-is_indirect-clause-comes c = λ loaded waits brings.
    let m = places_in c.args.regions.now in
    let q = queue_of c.args.self.now in
    let ds = c.args.descriptors.now in
    let v = visit_of c.args.walk.now in
    let is = ap lost_walked (sym (sym c.is_indirect.ensures ∙ c.if-is_indirect.false)) in
    let none = first_of_one m (entry_address v) c.address.result 16 Read c.miss.result c.address.ensures.address c.miss.ensures
    ∙ c.in-None.is in (
      on_found m c.args.self.now.limit q loaded c.args.head StopsQueue [] (Refuses DescriptorUnreachable) refl waits refl
          (loses m q loaded c.args.head ds v comes_to.Stopped c.args.walk.now.inside c.requires is brings),
      inr (v, ds, ((c.args.head, waits, c.args.walk.now.inside, brings), none)),
    )
