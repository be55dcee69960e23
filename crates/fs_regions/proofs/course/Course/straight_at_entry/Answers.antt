use Rattle.std.proofs.Common.{rules, ◌∙◌, ap, refl, sym, subst}
use Rattle.std.proofs.lemmas.Option.{IfSome_then}
use Rattle.fs_queue.specs.declared.layout.QueueLayout.{QueueLayout}
use Rattle.fs_queue.specs.RingingView.{BeginsChain}
use Rattle.fs_regions.specs.Ahead.{IsLoadOf, loads_ahead}
use Rattle.fs_regions.specs.Places.{places_in}
use Rattle.fs_regions.specs.Straight.{ProceedsAt}
use Rattle.fs_regions.specs.Walks.{IsThere, queue_of}
use Rattle.fs_regions.specs.declared.walk.QueueWalk.{QueueWalk}
use Rattle.fs_regions.proofs.Counting.{layout_or}
use Rattle.fs_regions.proofs.GoingStraight.{proceeds_by_entry}
use Rattle.fs_regions.proofs.course.Course.straight_at_entry.Goals as goal

pub straight_at_head-requires-clause-begins : goal.straight_at_head-requires-clause-begins
straight_at_head-requires-clause-begins c =
    subst (λ (l : QueueLayout). BeginsChain l c.give-given.result)
    (sym (ap (layout_or c.args.self.now.layout) c.in-RingEntry.is) ∙ c.requires.here) c.give-given.ensures.chain

pub returns-in-RingEntry : goal.returns-in-RingEntry
returns-in-RingEntry c = IfSome_then c.straight_at_head.result c.straight_at_head.ensures (λ found by.
    let due = c.if-not-is_due.ensures.is refl in
    let load = subst (λ (w : QueueWalk). IsLoadOf c.args.regions.now w c.in-Some.one.now) c.in-RingEntry.is due.0 in
    let there = subst (λ (w : QueueWalk). IsThere (places_in c.args.regions.now) w) c.in-RingEntry.is
    (c.if-not-is_due.ensures.there refl) in
    subst (λ (w : QueueWalk). ProceedsAt c.args.regions.now c.args.self.now.limit (queue_of c.args.self.now) w c.args.descriptors.now
    (loads_ahead c.args.ahead.now c.args.bytes.now) c.straight_at_head.new.descriptors found) (sym c.in-RingEntry.is) (
    proceeds_by_entry c.args.regions.now c.args.self.now.limit (queue_of c.args.self.now) c.in-RingEntry.walk c.args.ahead.now
    c.in-Some.one.now c.in-Some.more.now c.args.bytes.now c.pair.result c.give-given.result c.args.descriptors.now
    c.straight_at_head.new.descriptors found (search rules) load due.1 there
    (c.pair.ensures ∙ c.split_at.ensures.front) c.give-given.ensures.reports c.give-given.ensures.chain
    (rw c.split_at.ensures.back at by)))
