use Rattle.std.proofs.Common.{◌≡◌, ◌∙◌, [], Some, None, inl, refl, sym}
use Rattle.fs_queue.specs.declared.fault.QueueError.TheVariants.{DescriptorUnreachable}
use Rattle.fs_queue.specs.Chain.{HasFault, IsChain, StopsQueue}
use Rattle.fs_queue.specs.Loads.{chain_exactly}
use Rattle.fs_queue.specs.Taking.{Refuses}
use Rattle.fs_regions.specs.Places.{places_in}
use Rattle.fs_regions.specs.Walks.{queue_of}
use Rattle.fs_regions.proofs.Fetching.{fetches, fetches_fault}
use Rattle.fs_regions.proofs.Offering.{on_found}
use Rattle.fs_regions.proofs.Steps.{finds}
use Rattle.fs_regions.proofs.course.Course.ended.Goals as goal

pub returns-in-Stopped-clause-comes : goal.returns-in-Stopped-clause-comes
returns-in-Stopped-clause-comes c = λ loaded waits by.
    let m = places_in c.args.regions.now in
    let q = queue_of c.args.self.now in
    let found : chain_exactly loaded.entries q c.args.head ≡ Some StopsQueue = rw c.in-Stopped.is at by in (
      on_found m c.args.self.now.limit q loaded c.args.head StopsQueue [] (Refuses DescriptorUnreachable) refl waits refl
          (finds m q loaded c.args.head StopsQueue found),
      inl (c.args.head, waits, found),
    )

pub returns-in-Faulty-clause-comes : goal.returns-in-Faulty-clause-comes
returns-in-Faulty-clause-comes c = λ loaded waits by.
    let m = places_in c.args.regions.now in
    let q = queue_of c.args.self.now in
    let why = c.in-Faulty.fault in
    let found : chain_exactly loaded.entries q c.args.head ≡ Some (HasFault why) = rw c.in-Faulty.is at by in (
      fetches_fault m c.args.self.now.limit q loaded c.args.descriptors.now c.args.head why refl waits
          (finds m q loaded c.args.head (HasFault why) found),
      inl (c.args.head, waits, found),
    )

pub returns-in-None-clause-comes : goal.returns-in-None-clause-comes
returns-in-None-clause-comes c = λ loaded waits by.
    let m = places_in c.args.regions.now in
    let q = queue_of c.args.self.now in
    let ds = c.args.descriptors.now in
    let found : chain_exactly loaded.entries q c.args.head ≡ Some (IsChain ds) = rw c.in-Chain.is at by in (
      fetches m c.args.self.now.limit q loaded ds c.args.head None refl (sym c.in-None.is ∙ c.chain_fault.ensures) waits
          (finds m q loaded c.args.head (IsChain ds) found),
      tt,
    )

pub without_buffers-requires : goal.without_buffers-requires
without_buffers-requires c = sym c.chain_fault.ensures ∙ c.in-Some.is

pub returns-in-Some-clause-comes : goal.returns-in-Some-clause-comes
returns-in-Some-clause-comes c = λ loaded waits by.
    let m = places_in c.args.regions.now in
    let q = queue_of c.args.self.now in
    let ds = c.args.descriptors.now in
    let found : chain_exactly loaded.entries q c.args.head ≡ Some (IsChain ds) = rw c.in-Chain.is at by in
    c.without_buffers.ensures.comes loaded waits (finds m q loaded c.args.head (IsChain ds) found)

pub returns-in-Some-clause-asks : goal.returns-in-Some-clause-asks
returns-in-Some-clause-asks c = c.without_buffers.ensures.asks c.args.walked
