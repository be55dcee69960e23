use Rattle.std.proofs.Common.{◌≡◌, ◌∙◌, [], Some, ap, refl}
use Rattle.std.specs.Prelude.{length}
use Rattle.std.proofs.lemmas.Bool.{eq-eqb}
use Rattle.fs_queue.specs.WalkingView.{at_position}
use Rattle.fs_regions.specs.Places.{places_in}
use Rattle.fs_regions.specs.Walks.{queue_of}
use Rattle.fs_regions.proofs.Steps.{after_index, begins_of, entry_given, loaded_pair, not_none, reports_both, whole_pair}
use Rattle.fs_regions.proofs.course.Course.give.Goals as goal

pub returns-in-Index : goal.returns-in-Index
returns-in-Index c = λ loaded stands.
    let q = queue_of c.args.self.now in
    let m = places_in c.args.regions.now in
    let w = c.in-Index.walk in
    let s = rw c.in-Index.is at stands in
    let long : length c.pair.result ≡ 2 = ap length c.pair.ensures ∙ (rw c.in-Index.is at c.requires.bytes) in
    let comes = rw c.deref.ensures at c.at_index.ensures in
    let here = comes (Some c.pair.result)
    (after_index m q w.layout w.position (Some c.pair.result) c.give.result s.0 (eq-eqb (length c.pair.result) 2 long) (λ none. absurd (cc))
    (λ none. absurd (cc))
    c.give.ensures.stage
    c.give.ensures.same c.give.ensures.chain) s.2 in
    rw c.in-Index.is
    (record { after = record loaded { index = Some c.args.bytes.now }; adds = refl; comes = rw s.1 (rw c.pair.ensures at here) })

pub returns-in-RingEntry : goal.returns-in-RingEntry
returns-in-RingEntry c = λ loaded stands.
    let q = queue_of c.args.self.now in
    let m = places_in c.args.regions.now in
    let w = c.in-RingEntry.walk in
    let s = rw c.in-RingEntry.is at stands in
    let long : length c.pair-in-RingEntry.result ≡ 2 = ap length c.pair-in-RingEntry.ensures ∙ (rw c.in-RingEntry.is at c.requires.bytes) in
    let index = loaded_pair loaded.index s.1 in
    let with_entry = entry_given (at_position w.layout w.position) q loaded.index (Some c.pair-in-RingEntry.result) index.0
    c.give-in-RingEntry.result s.0 index.1 index.2 s.2
    c.give-in-RingEntry.ensures.reports in
    let reports =
    reports_both m q loaded.index (Some c.pair-in-RingEntry.result) c.give-in-RingEntry.result (whole_pair loaded.index s.1) s.2
    (eq-eqb (length c.pair-in-RingEntry.result) 2 long)
    (λ none. not_none loaded.index s.1 none) (λ none. absurd (cc)) (λ none. not_none loaded.index s.1 none) (λ none. absurd (cc))
    (begins_of w.layout w.position q c.give-in-RingEntry.result s.0 c.give-in-RingEntry.ensures.chain) with_entry in
    let comes = rw c.deref-in-RingEntry.ensures at c.step_of.ensures in
    let here = comes (record { index = loaded.index; entry = Some c.pair-in-RingEntry.result; entries = [] }) reports s.5 in
    rw c.in-RingEntry.is (record {
      after = record loaded { entry = Some c.args.bytes.now };
      adds = refl;
      comes = rw s.4 (rw c.pair-in-RingEntry.ensures at here);
    })
