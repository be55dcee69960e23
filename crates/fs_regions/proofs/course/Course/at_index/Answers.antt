use Rattle.std.proofs.Common.{◌≡◌, ◌∙◌, ℕ, List, Option, Some, true, refl, sym, ap, subst}
use Rattle.std.specs.Prelude.{length, option_map}
use Rattle.vm_iotlb.specs.declared.permissions.Permissions.TheVariants.{Read}
use Rattle.vm_memory.specs.Memory.{reach}
use Rattle.fs_queue.specs.Loads.{asks_entry}
use Rattle.fs_queue.specs.RingingView.{by_index, stage_of}
use Rattle.fs_queue.specs.WalkingView.{at_position}
use Rattle.fs_regions.specs.Places.{places_in}
use Rattle.fs_regions.specs.Walks.{IsCourseStep, nothing, queue_of}
use Rattle.fs_regions.proofs.Steps.{entry_asked, index_came, reports_alone}
use Rattle.fs_regions.proofs.course.Course.at_index.Goals as goal

pub returns-then-reaches : goal.returns-then-reaches
returns-then-reaches c = λ index stands none.
    let q = queue_of c.args.self.now in
    let at = rw c.in-RingEntry.is at stands.at in
    let asks : asks_entry (by_index q index) ≡ true = entry_asked (by_index q index) (ap stage_of (sym c.in-RingEntry.is) ∙ stands.stage) in
    let came = index_came q index stands.whole asks in (
      (at, ap (option_map length) came.1 ∙ ap Some came.2, asks, refl, refl, none),
      ap (λ a. reach (places_in c.args.regions.now) Read a 2) (sym c.address.ensures.at) ∙ sym c.reaches.ensures ∙ c.if-reaches.true,
      tt,
    )

pub without_ring_entry-requires : goal.without_ring_entry-requires
without_ring_entry-requires c =
    ap (λ a. reach (places_in c.args.regions.now) Read a 2) (sym c.address.ensures.at) ∙ sym c.reaches.ensures ∙ c.if-reaches.false

pub returns-else-reaches : goal.returns-else-reaches
returns-else-reaches c = λ index stands none.
    let q = queue_of c.args.self.now in
    let m = places_in c.args.regions.now in
    let w = c.in-RingEntry.walk in
    let at : at_position w.layout w.position ≡ q = rw c.in-RingEntry.is at stands.at in
    let asks : asks_entry (by_index q index) ≡ true = entry_asked (by_index q index) (ap stage_of (sym c.in-RingEntry.is) ∙ stands.stage) in
    let came = index_came q index stands.whole asks in
    let asks_so : asks_entry (by_index q (Some came.0)) ≡ true =
    ap (λ (o : Option (List ℕ)). asks_entry (by_index q o)) (sym came.1) ∙ asks in
    subst (λ (o : Option (List ℕ)).
    IsCourseStep m c.args.self.now.limit q (record nothing { index = o }) c.args.descriptors.now c.without_ring_entry.result) (sym came.1)
    (c.without_ring_entry.ensures came.0 at came.2 asks_so none)

pub returns-in_default : goal.returns-in_default
returns-in_default c = λ index stands none.
    let reports =
    reports_alone (places_in c.args.regions.now) (queue_of c.args.self.now) index c.args.walk stands c.in_default.not-RingEntry in
    c.step_of.ensures (record nothing { index = index }) reports none
