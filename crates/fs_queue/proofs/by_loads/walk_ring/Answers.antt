use Rattle.std.proofs.Common.{◌≡◌, ◌∙◌, ap, refl, subst, length, Bool, List, Some, None, ℕ, true, false}
use Rattle.std.specs.Prelude.{if◌then◌else◌}
use Rattle.vm_iotlb.specs.declared.permissions.Permissions.TheVariants.{Read}
use Rattle.vm_memory.specs.Memory.{bytes, reach}
use Rattle.fs_queue.specs.Queue.{Queue, ring_entry_at}
use Rattle.fs_queue.specs.NextAvail.{next_avail}
use Rattle.fs_queue.specs.WalkingView.{at_position}
use Rattle.fs_queue.specs.declared.layout.QueueLayout.{QueueLayout}
use Rattle.fs_queue.specs.declared.walk.RingEntryWalk.{RingEntryWalk}
use Rattle.fs_queue.specs.declared.walk.Walk as code
use Rattle.fs_queue.specs.declared.walk.Walk.TheVariants as shows
use Rattle.fs_queue.specs.NextAvail.{NextAvail}
use Rattle.fs_queue.specs.Loads.{asks_entry}
use Rattle.fs_queue.specs.RingingView.{AsksEntry, HasResult, by_index, by_entry, stage_at, stage_of}
use Rattle.fs_queue.proofs.RingLemmas.{ring_is_still, asked_next}
use Rattle.fs_queue.proofs.by_loads.walk_ring.Goals as goal

-- a queue by its layout and position
placed : (l k : QueueLayout) (p r : ℕ) → l ≡ k → p ≡ r → at_position l p ≡ at_position k r
placed l k p r e f = ap (λ (x : QueueLayout). at_position x p) e ∙ ap (at_position k) f

asked : (n : NextAvail) → AsksEntry ≡ stage_at n → asks_entry n ≡ true
asked n e = by_test (asks_entry n) e
  where
    by_test : (b : Bool) → AsksEntry ≡ (if b then AsksEntry else HasResult n) → b ≡ true
    by_test true h = refl
    by_test false h = absurd (cc)

is_entry : (r : code.Walk) → stage_of r ≡ AsksEntry → (w : RingEntryWalk) × (r ≡ shows.RingEntry w)
is_entry (shows.Index w) e = absurd (cc)
is_entry (shows.RingEntry w) e = (w, refl)
is_entry (shows.Chain head progress) e = absurd (cc)
is_entry shows.Idle e = absurd (cc)
is_entry (shows.Refused x) e = absurd (cc)

next_alone : (r : code.Walk) (n k : NextAvail) → ((w : RingEntryWalk) → r ≡ shows.RingEntry w → ⊥) → stage_of r ≡ stage_at n →
    (asks_entry n ≡ false → n ≡ k) → stage_of r ≡ HasResult k
next_alone r n k other e same = by_test (asks_entry n) refl e
  where
    by_test : (b : Bool) → asks_entry n ≡ b → stage_of r ≡ (if b then AsksEntry else HasResult n) → stage_of r ≡ HasResult k
    by_test true asks h = let w = is_entry r h in absurd (other w.0 w.1)
    by_test false asks h = h ∙ ap HasResult (same asks)

pub returns-in-RingEntry-clause-next : goal.returns-in-RingEntry-clause-next
returns-in-RingEntry-clause-next g c =
    let m = g.M.GuestMemory.memory c.args.mem.now (g.H.HostBlocks.host c.args.host.now) in
    let q = at_position c.args.layout c.args.position in
    let here = placed _ _ _ _ c.new.ensures.layout c.new.ensures.position in
    let there = placed _ _ _ _ c.in-RingEntry.ensures.same.0 c.in-RingEntry.ensures.same.1 ∙ here in
    let asks = asked (by_index q c.load_from_ring-index.result)
    (c.in-RingEntry.ensures.stage ∙ ap (λ x. stage_at (by_index x c.load_from_ring-index.result)) here) in
    let reports = subst (λ (x : Queue). (index : List ℕ) → length index ≡ 2 → asks_entry (by_index x (Some index)) ≡ true →
    stage_of c.give-in-RingEntry.result ≡ HasResult (by_entry x (Some index) c.load_from_ring-entry.result)) there
    c.give-in-RingEntry.ensures.reports in
    asked_next m q c.load_from_ring-index.result c.load_from_ring-entry.result _ c.load_from_ring-index.ensures
    (c.load_from_ring-entry.ensures ∙ ap (λ a. if reach m Read a 2 then Some (bytes m a 2) else None) c.entry_offset-offset.ensures.at) asks
    reports

pub returns-in_default : goal.returns-in_default
returns-in_default g c =
    let m = g.M.GuestMemory.memory c.args.mem.now (g.H.HostBlocks.host c.args.host.now) in
    let q = at_position c.args.layout c.args.position in
    let here = placed _ _ _ _ c.new.ensures.layout c.new.ensures.position in
    let still = ring_is_still m q c.load_from_ring-index.result (if reach m Read (ring_entry_at q) 2 then Some (bytes m (ring_entry_at q) 2)
    else None) c.load_from_ring-index.ensures refl in
    record {
      next =
          next_alone c.give.result (by_index q c.load_from_ring-index.result) (next_avail m q) c.in_default.not-RingEntry
          (c.give.ensures.stage ∙ ap (λ x. stage_at (by_index x c.load_from_ring-index.result)) here) still.alone;
      chain = rw c.new.ensures.layout at c.give.ensures.chain;
      stops = c.give.ensures.stops;
    }
