use Rattle.std.proofs.Common.{rules, ◌≡◌, ◌∙◌, ap, refl, sym, subst}
use Rattle.std.proofs.lemmas.Option.{IfSome_then}
use Rattle.fs_queue.specs.declared.walk.Walk as ring
use Rattle.fs_queue.specs.RingingView.{IfRingEntry}
use Rattle.fs_regions.specs.Ahead.{IsLoadOf, loads_ahead}
use Rattle.fs_regions.specs.Places.{places_in}
use Rattle.fs_regions.specs.Straight.{ProceedsAt}
use Rattle.fs_regions.specs.Walks.{IsThere, queue_of}
use Rattle.fs_regions.specs.declared.walk.QueueWalk.{QueueWalk}
use Rattle.fs_regions.proofs.Counting.{layout_or}
use Rattle.fs_regions.proofs.GoingStraight.{proceeds_by_index}
use Rattle.fs_regions.proofs.course.Course.straight_at_index.Goals as goal

pub straight_at_entry-requires-clause-here : goal.straight_at_entry-requires-clause-here
straight_at_entry-requires-clause-here c =
    let same = subst (λ (x : ring.Walk). IfRingEntry x (λ w. (w.layout ≡ c.in-Index.walk.layout) × (w.position ≡ c.in-Index.walk.position)))
    c.in-RingEntry.is c.give.ensures.same in
    same.0 ∙ sym (ap (layout_or c.args.self.now.layout) c.in-Index.is) ∙ c.requires.here

pub returns-in-RingEntry : goal.returns-in-RingEntry
returns-in-RingEntry c = IfSome_then c.straight_at_entry.result c.straight_at_entry.ensures (λ found then.
    let due = c.if-not-is_due.ensures.is refl in
    let load = subst (λ (w : QueueWalk). IsLoadOf c.args.regions.now w c.in-Some.one.now) c.in-Index.is due.0 in
    let there = subst (λ (w : QueueWalk). IsThere (places_in c.args.regions.now) w) c.in-Index.is
    (c.if-not-is_due.ensures.there refl) in
    subst (λ (w : QueueWalk). ProceedsAt c.args.regions.now c.args.self.now.limit (queue_of c.args.self.now) w c.args.descriptors.now
    (loads_ahead c.args.ahead.now c.args.bytes.now) c.straight_at_entry.new.descriptors found) (sym c.in-Index.is) (
    proceeds_by_index c.args.regions.now c.args.self.now.limit (queue_of c.args.self.now) c.in-Index.walk c.args.ahead.now
    c.in-Some.one.now c.in-Some.more.now c.args.bytes.now c.pair.result c.give.result c.in-RingEntry.next c.args.descriptors.now
    c.straight_at_entry.new.descriptors found (search rules) load due.1 there
    (c.pair.ensures ∙ c.split_at.ensures.front) c.in-RingEntry.is c.give.ensures.stage c.give.ensures.same c.give.ensures.chain
    (rw c.split_at.ensures.back at then)))
