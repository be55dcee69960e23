use Rattle.std.proofs.Common.{◌≡◌, ◌∙◌, false, Some, None, refl, sym, ap}
use Rattle.std.proofs.lemmas.Bool.{eq-eqb}
use Rattle.std.specs.Prelude.{length}
use Rattle.vm_iotlb.specs.declared.permissions.Permissions.TheVariants.{Read}
use Rattle.vm_memory.specs.Memory.{reach}
use Rattle.fs_queue.specs.Queue.{Queue, ring_entry_at}
use Rattle.fs_queue.specs.WalkingView.{at_position}
use Rattle.fs_regions.specs.Misses.{OfRingEntry}
use Rattle.fs_regions.specs.Places.{places_in}
use Rattle.fs_regions.specs.Walks.{nothing, queue_of}
use Rattle.fs_regions.proofs.Missing.{first_of_one}
use Rattle.fs_regions.proofs.Steps.{begins_of, entry_given, reports_both}
use Rattle.fs_regions.proofs.course.Course.without_ring_entry.Goals as goal

pub returns-in-Some : goal.returns-in-Some
returns-in-Some c = λ index same long asks none.
    let q = queue_of c.args.self.now in
    let at = c.address.ensures.at ∙ ap ring_entry_at same in (
      OfRingEntry,
      (ap Some long, asks, refl, refl, none),
      first_of_one (places_in c.args.regions.now) (ring_entry_at q) c.address.result 2 Read c.miss.result at c.miss.ensures ∙ c.in-Some.is,
    )

pub returns-in-None : goal.returns-in-None
returns-in-None c = λ index same long asks none.
    let q = queue_of c.args.self.now in
    let m = places_in c.args.regions.now in
    let w = c.args.walk in
    let at = c.address.ensures.at ∙ ap ring_entry_at same in
    let no_miss = first_of_one m (ring_entry_at q) c.address.result 2 Read c.miss.result at c.miss.ensures ∙ c.in-None.is in
    let away : reach m Read (ring_entry_at q) 2 ≡ false = ap (λ (x : Queue). reach m Read (ring_entry_at x) 2) (sym same) ∙ c.requires in
    c.step_of.ensures (record nothing { index = Some index })
    (reports_both m q (Some index) None c.give.result (eq-eqb (length index) 2 long) asks refl (λ there. absurd (cc)) (λ _. away)
    (λ there. absurd (cc)) (λ _. no_miss) (begins_of w.layout w.position q c.give.result same c.give.ensures.chain)
    (entry_given (at_position w.layout w.position) q (Some index) None index c.give.result same refl long asks c.give.ensures.reports))
    none
