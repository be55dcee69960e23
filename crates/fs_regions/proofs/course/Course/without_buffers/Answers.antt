use Rattle.std.proofs.Common.{◌≡◌, ◌∙◌, Some, inr, refl, sym, ap}
use Rattle.fs_queue.specs.declared.fault.ChainFault.TheVariants.{OverLimit}
use Rattle.fs_queue.specs.Taking.{chain_fault}
use Rattle.fs_regions.specs.Misses.{OfBuffers}
use Rattle.fs_regions.specs.Places.{places_in}
use Rattle.fs_regions.specs.Walks.{queue_of}
use Rattle.fs_regions.proofs.Fetching.{fetches}
use Rattle.fs_regions.proofs.Missing.{buffers_no_miss}
use Rattle.fs_regions.proofs.course.Course.without_buffers.Goals as goal

pub returns-in-OverLimit-clause-comes : goal.returns-in-OverLimit-clause-comes
returns-in-OverLimit-clause-comes c = λ loaded waits found. (
  fetches (places_in c.args.regions.now) c.args.self.now.limit (queue_of c.args.self.now) loaded c.args.descriptors.now c.args.head
      (Some OverLimit) refl (sym (c.requires ∙ ap Some c.in-OverLimit.is)) waits found,
  inr tt,
)

pub returns-in-Some-clause-comes : goal.returns-in-Some-clause-comes
returns-in-Some-clause-comes c = λ loaded waits found.
    let ds = c.args.descriptors.now in
    let within : chain_fault (places_in c.args.regions.now) c.args.self.now.limit ds ≡ Some OverLimit → ⊥ =
    λ over. let same : c.args.fault ≡ OverLimit = cc (c.requires, over) in c.in_default.not-OverLimit same in (
      OfBuffers ds,
      (c.args.head, waits, found, refl, within),
      sym c.buffers_miss.ensures ∙ c.in-Some.is,
    )

pub returns-in-None-clause-comes : goal.returns-in-None-clause-comes
returns-in-None-clause-comes c = λ loaded waits found.
    let m = places_in c.args.regions.now in
    let q = queue_of c.args.self.now in
    let ds = c.args.descriptors.now in
    let within : chain_fault (places_in c.args.regions.now) c.args.self.now.limit ds ≡ Some OverLimit → ⊥ =
    λ over. let same : c.args.fault ≡ OverLimit = cc (c.requires, over) in c.in_default.not-OverLimit same in (
      fetches m c.args.self.now.limit q loaded ds c.args.head (Some c.args.fault) refl (sym c.requires) waits found,
      inr (buffers_no_miss m c.args.self.now.limit q loaded ds c.args.fault c.requires
          ((c.args.head, waits, found, refl, within), sym c.buffers_miss.ensures ∙ c.in-None.is)),
    )
