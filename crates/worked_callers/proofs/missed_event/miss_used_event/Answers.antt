use Rattle.std.proofs.Common.{◌≡◌, Option, Some, ap, subst, sym, ◌∙◌}
use Rattle.vm_iotlb.specs.AddressRuns.{run_of}
use Rattle.vm_iotlb.specs.declared.iova.IovaRange.{IovaRange}
use Rattle.vm_iotlb.specs.declared.permissions.Permissions.{Permissions}
use Rattle.vm_iotlb.specs.declared.permissions.Permissions.TheVariants.{Read}
use Rattle.fs_queue.specs.declared.fault.QueueError.TheVariants.{AvailFlagsUnreachable}
use Rattle.fs_regions.specs.Places.{Mapped, behind, places_in}
use Rattle.fs_chain.specs.Events.{event_fault, event_miss, used_event_at}
use Rattle.fs_chain.specs.Walks.{LacksEvents}
use Rattle.fs_chain.specs.declared.loads.LoadOutcome.TheVariants as outcomes
use Rattle.fs_chain.specs.declared.popping.PopOutcome as walked
use Rattle.worked_callers.proofs.MissedEvent.{lacking, missed_event}
use Rattle.worked_callers.proofs.Results.{if_ok}
use Rattle.worked_callers.proofs.missed_event.miss_used_event.Goals as goal

pub returns : goal.returns
returns c =
    let set = c.in_ok-set_memory.ensures.set in
    let old = c.set_memory.new.self in
    let new = c.pop.new.self in
    let q = c.args.queue.now in
    let after = c.pop.new.queue in
    let at = run_of (used_event_at q.layout) 2 in
    let is = set.0 ∙ c.behind.ensures
    ∙ ap (λ t. behind c.args.regions t) c.new.ensures in
    let free = set.2 ∙ c.requires.free in
    let events = missed_event c.args.regions q c.requires.events c.requires.low in
    let fault = subst (λ (g : Mapped). event_fault (places_in g) q ≡ Some AvailFlagsUnreachable) (sym is) events.0 in
    let miss = subst (λ (g : Mapped). event_miss (places_in g) q ≡ Some (at, Read)) (sym is) events.1 in
    record {
      missed = if_ok c.pop.result _ _
          (λ came proceeds.
          let m = lacking old new q after came AvailFlagsUnreachable free c.requires.proceeds fault proceeds in
          let lacks : LacksEvents AvailFlagsUnreachable (Some (at, Read)) old new q after m.0 =
          subst (λ (r : Option (IovaRange × Permissions)). LacksEvents AvailFlagsUnreachable r old new q after m.0) miss m.2 in (
            m.1 ∙ ap (λ (k : walked.PopOutcome). outcomes.On k) lacks.0,
            lacks.2,
            lacks.1.0.3 ∙ free,
            lacks.1.1,
            m.3,
            lacks.1.0.0.0 ∙ is,
            lacks.1.0.0.1 ∙ set.1,
            lacks.1.0.4 ∙ set.4,
            lacks.1.0.0.2 ∙ set.5,
            lacks.1.0.0.3 ∙ set.6,
          ))
          c.pop.ensures.proceeds;
    }
