-- what a walk comes to, step by step
use Rattle.std.proofs.Common.{◌≡◌, ℕ, Bool, true, false, ◌<◌, List, [], ◌∷◌, Option, Some, None, refl, ap, sym, ◌∙◌, subst, append-nil}
use Rattle.std.specs.Prelude.{if◌then◌else◌, length, option_map}
use Rattle.std.proofs.lemmas.Bool.{eqb-true, eq-eqb}
use Rattle.std.proofs.lemmas.List.Elements.{All-nil, All-cons}
use Rattle.vm_iotlb.specs.declared.permissions.Permissions.TheVariants.{Read}
use Rattle.vm_memory.specs.Memory.{Memory, reach}
use Rattle.fs_queue.specs.declared.chain_walk.Progress.{Progress}
use Rattle.fs_queue.specs.declared.chain_walk.WalkEnd as walked
use Rattle.fs_queue.specs.declared.chain_walk.WalkEnd.TheVariants as comes_to
use Rattle.fs_queue.specs.declared.fault.ChainFault.TheVariants.{TableUnreachable}
use Rattle.fs_queue.specs.declared.fault.QueueError.TheVariants.{AvailIndexUnreachable}
use Rattle.fs_queue.specs.declared.layout.QueueLayout.{QueueLayout}
use Rattle.fs_queue.specs.declared.walk.IndexWalk.{IndexWalk}
use Rattle.fs_queue.specs.declared.walk.RingEntryWalk.{RingEntryWalk}
use Rattle.fs_queue.specs.declared.walk.Walk as code
use Rattle.fs_queue.specs.declared.walk.Walk.TheVariants as shows
use Rattle.fs_queue.specs.Queue.{Queue, avail_index_at, ring_entry_at}
use Rattle.fs_queue.specs.NextAvail.{NextAvail, Idle, Head, Refused}
use Rattle.fs_queue.specs.Chain.{Descriptor, Found, Visit, WalkStep, after_walk_step, entry_address, first_visit}
use Rattle.fs_queue.specs.Loads.{Load, Reads, Ends, asks_entry, is_whole, found_exactly, chain_exactly, ahead_at, ahead_after}
use Rattle.fs_queue.specs.OfferLoads.{available_by}
use Rattle.fs_queue.specs.RingingView.{Stage, AsksEntry, HasResult, by_index, by_entry, stage_of, stage_at, BeginsAt}
use Rattle.fs_queue.specs.RingingView.{BeginsChain}
use Rattle.fs_queue.specs.RingingView.{IfRingEntry}
use Rattle.fs_queue.specs.WalkingView.{at_position, found_of}
use Rattle.fs_queue.proofs.LoadLemmas.{step_at, step_lost, reach_none}
use Rattle.fs_regions.specs.Walks.{Loaded, nothing, standing_before, Brings, BeginsAtHead, BeginsIfChain, ReportsBy, StandsAfterIndex}
use Rattle.fs_regions.specs.Walks.{HeadBeginsWalk, HeadMayBePushed, IsLost, FindsBy}
use Rattle.fs_regions.specs.Misses.{OfIndex, OfRingEntry, first_miss, needed_at}
use Rattle.fs_regions.proofs.Finding.{brings_end, before}

-- ---- an entry without a place

abbrev lost_at : Visit → Load
lost_at v = record { address = entry_address v; came = None }

-- what a walk comes to by it
abbrev pub lost_walked : Bool → walked.WalkEnd
lost_walked true = comes_to.Faulty TableUnreachable
lost_walked false = comes_to.Stopped

by_step : (size : ℕ) (v : Visit) (b : Bool) → v.table.indirect ≡ b → option_map (after_walk_step (step_at size v None))
    (found_exactly size [] (ahead_after size v (step_at size v None))) ≡ Some (found_of (lost_walked b) [])
unfolding found_exactly
by_step size v true is = rw is refl
by_step size v false is = rw is refl

lost_found : (size : ℕ) (v : Visit) → v.index < v.table.entries →
    found_exactly size (lost_at v ∷ []) (Reads v) ≡ Some (found_of (lost_walked v.table.indirect) [])
unfolding found_exactly
lost_found size v inside =
    rw (eq-eqb (entry_address v) (entry_address v) refl) (
    ap (λ (w : WalkStep). option_map (after_walk_step w) (found_exactly size [] (ahead_after size v w))) (step_lost size v inside)
    ∙ by_step size v v.table.indirect refl)

pub loses : (m : Memory) (q : Queue) (loaded : Loaded) (head : ℕ) (ds : List Descriptor) (v : Visit) (w : walked.WalkEnd) →
    v.index < v.table.entries → reach m Read (entry_address v) 16 ≡ false →
    w ≡ lost_walked v.table.indirect → Brings q.size loaded.entries (ahead_at q.size (first_visit q head)) ds (Reads v) →
    FindsBy m q loaded head (found_of w ds)
loses m q loaded head ds v w inside away is brings = (
  lost_at v ∷ [],
  All-cons (IsLost m) (lost_at v) [] (refl, away) (All-nil (IsLost m)),
  brings (lost_at v ∷ []) ∙ ap (option_map (standing_before ds))
      (lost_found q.size v inside ∙ ap (λ (x : walked.WalkEnd). Some (found_of x [])) (sym is)) ∙ ap Some (before w ds),
)

-- a walk that has ended
pub ends : (q : Queue) (loaded : Loaded) (head : ℕ) (ds : List Descriptor) (w : walked.WalkEnd) →
    Brings q.size loaded.entries (ahead_at q.size (first_visit q head)) ds (Ends (found_of w [])) →
    chain_exactly loaded.entries q head ≡ Some (found_of w ds)
ends q loaded head ds w brings =
    ap (λ (ls : List Load). chain_exactly ls q head) (sym (append-nil loaded.entries))
    ∙ brings_end q.size loaded.entries (ahead_at q.size (first_visit q head)) ds w brings

-- so it finds this
pub finds : (m : Memory) (q : Queue) (loaded : Loaded) (head : ℕ) (found : Found) → chain_exactly loaded.entries q head ≡ Some found →
    FindsBy m q loaded head found
finds m q loaded head found by =
    ([], All-nil (IsLost m), ap (λ (ls : List Load). chain_exactly ls q head) (append-nil loaded.entries) ∙ by)

-- ---- the ring

-- an index without a place
pub index_lost : (q : Queue) → by_index q None ≡ Refused AvailIndexUnreachable
index_lost q = rw (reach_none (avail_index_at q) 1) refl

-- where the index asks for the entry, it was loaded
pub index_came : (q : Queue) (index : Option (List ℕ)) → is_whole 2 index ≡ true → asks_entry (by_index q index) ≡ true →
    (bs : List ℕ) × (index ≡ Some bs) × (length bs ≡ 2)
index_came q None whole asks = absurd (not_asked (sym (ap asks_entry (index_lost q)) ∙ asks))
  where
    not_asked : false ≡ true → ⊥
    not_asked e = cc
index_came q (Some bs) whole asks = (bs, refl, eqb-true (length bs) 2 whole)

next_of : Stage → NextAvail
next_of (HasResult next) = next
next_of _ = Idle

pub untold : (a b : NextAvail) → HasResult a ≡ HasResult b → a ≡ b
unfolding next_of
untold a b e = ap next_of e

asks : (b : Bool) (next : NextAvail) → AsksEntry ≡ (if b then AsksEntry else HasResult next) → b ≡ true
asks true next e = refl
asks false next e = absurd (cc)

-- a walk that asks for the entry
pub entry_asked : (next : NextAvail) → AsksEntry ≡ stage_at next → asks_entry next ≡ true
entry_asked next e = asks (asks_entry next) next e

result_or_asks : (b : Bool) (next : NextAvail) (s : Stage) → (s ≡ AsksEntry → ⊥) → s ≡ (if b then AsksEntry else HasResult next) →
    (s ≡ HasResult next) × (b ≡ false)
result_or_asks true next s not_entry e = absurd (not_entry e)
result_or_asks false next s not_entry e = (e, refl)

not_entry_of : (w : code.Walk) → ((x : RingEntryWalk) → w ≡ shows.RingEntry x → ⊥) → stage_of w ≡ AsksEntry → ⊥
not_entry_of (shows.RingEntry x) other e = other x refl
not_entry_of w other e = cc

by_alone : (q : Queue) (index : Option (List ℕ)) → is_whole 2 index ≡ true → asks_entry (by_index q index) ≡ false →
    available_by q index None ≡ Some (by_index q index)
by_alone q index whole alone = rw (whole, alone) refl

by_both :
    (q : Queue) (index entry : Option (List ℕ)) → is_whole 2 index ≡ true → asks_entry (by_index q index) ≡ true → is_whole 2 entry ≡ true →
    available_by q index entry ≡ Some (by_entry q index entry)
by_both q index entry whole asks_it whole_entry = rw (whole, asks_it, whole_entry) refl

no_more : {A : Type 0} (b : Bool) → b ≡ false → b ≡ true → A
no_more b is is_not = absurd (cc)

-- the index told what waits
pub reports_alone : (m : Memory) (q : Queue) (index : Option (List ℕ)) (w : code.Walk) → StandsAfterIndex m q index w →
    ((x : RingEntryWalk) → w ≡ shows.RingEntry x → ⊥) →
    ReportsBy m q (record nothing { index = index }) w
reports_alone m q index w stands other =
    let with_entry = result_or_asks (asks_entry (by_index q index)) (by_index q index) (stage_of w) (not_entry_of w other) stands.stage in
    record {
      next = by_index q index;
      reports = with_entry.0;
      by_loads = by_alone q index stands.whole with_entry.1;
      no_entries = refl;
      asked = (stands.asked, λ none it_asks. no_more (asks_entry (by_index q index)) with_entry.1 it_asks);
      no_miss = (stands.no_miss, λ none it_asks. no_more (asks_entry (by_index q index)) with_entry.1 it_asks);
      begins = stands.begins;
    }

-- so did both loads, of which the entry was made or has no place
pub reports_both : (m : Memory) (q : Queue) (index entry : Option (List ℕ)) (w : code.Walk) → is_whole 2 index ≡ true →
    asks_entry (by_index q index) ≡ true → is_whole 2 entry ≡ true →
    (index ≡ None → reach m Read (avail_index_at q) 2 ≡ false) → (entry ≡ None → reach m Read (ring_entry_at q) 2 ≡ false) →
    (index ≡ None → first_miss m (needed_at q OfIndex) ≡ None) → (entry ≡ None → first_miss m (needed_at q OfRingEntry) ≡ None) →
    BeginsIfChain q w → stage_of w ≡ HasResult (by_entry q index entry) →
    ReportsBy m q (record { index = index; entry = entry; entries = [] }) w
reports_both m q index entry w whole asks_it whole_entry no_index no_entry index_there entry_there begins with_entry = record {
  next = by_entry q index entry;
  reports = with_entry;
  by_loads = by_both q index entry whole asks_it whole_entry;
  no_entries = refl;
  asked = (no_index, λ none it_asks. no_entry none);
  no_miss = (index_there, λ none it_asks. entry_there none);
  begins = begins;
}

-- ---- of a queue's numbers alone

pub begins_of :
    (l : QueueLayout) (position : ℕ) (q : Queue) (w : code.Walk) → at_position l position ≡ q → BeginsChain l w → BeginsIfChain q w
begins_of l position q (shows.Chain head progress) is begins = subst (λ (x : Queue). BeginsAtHead x head progress) is begins
begins_of l position q w is begins = tt

pub index_begins : (l : QueueLayout) (position : ℕ) (x : IndexWalk) → BeginsAt l position (shows.Index x) →
    at_position x.layout x.position ≡ at_position l position
index_begins l position x begins = rw (begins.0, begins.1) refl

-- a head waits, and nothing of its chain was loaded
pub head_waits : (m : Memory) (q : Queue) (loaded : Loaded) (head : ℕ) (progress : Progress) →
    ReportsBy m q loaded (shows.Chain head progress) → HeadBeginsWalk m q loaded head progress
head_waits m q loaded head progress reports = record {
  by_loads = reports.by_loads ∙ ap Some (sym (untold (Head head) reports.next reports.reports));
  no_entries = reports.no_entries;
  asked = reports.asked;
  begins = reports.begins;
}

-- what both loads tell, by what the code answers
pub entry_given : (p q : Queue) (index entry : Option (List ℕ)) (bs : List ℕ) (w : code.Walk) → p ≡ q → index ≡ Some bs → length bs ≡ 2 →
    asks_entry (by_index q index) ≡ true →
    ((i : List ℕ) → length i ≡ 2 → asks_entry (by_index p (Some i)) ≡ true → stage_of w ≡ HasResult (by_entry p (Some i) entry)) →
    stage_of w ≡ HasResult (by_entry q index entry)
entry_given p q index entry bs w same is long asks_it reports =
    let here : (i : List ℕ) → length i ≡ 2 → asks_entry (by_index q (Some i)) ≡ true → stage_of w ≡ HasResult (by_entry q (Some i) entry) =
    subst (λ (x : Queue). (i : List ℕ) → length i ≡ 2 → asks_entry (by_index x (Some i)) ≡ true →
    stage_of w ≡ HasResult (by_entry x (Some i) entry)) same reports in
    here bs long (ap (λ (o : Option (List ℕ)). asks_entry (by_index q o)) (sym is) ∙ asks_it)
    ∙ ap (λ (o : Option (List ℕ)). HasResult (by_entry q o entry)) (sym is)

-- a chain goes on to wait, whatever entries were loaded
pub waits_on : (m : Memory) (q : Queue) (loaded : Loaded) (entries : List Load) (head : ℕ) → HeadMayBePushed m q loaded head →
    HeadMayBePushed m q (record loaded { entries = entries }) head
waits_on m q loaded entries head waits = record { by_loads = waits.by_loads; asked = waits.asked; returns = waits.returns }

ring_same : (l : QueueLayout) (position : ℕ) (q : Queue) (w : code.Walk) → at_position l position ≡ q →
    IfRingEntry w (λ x. (x.layout ≡ l) × (x.position ≡ position)) →
    IfRingEntry w (λ x. at_position x.layout x.position ≡ q)
ring_same l position q (shows.RingEntry x) is same = rw (same.0, same.1) is
ring_same l position q w is same = tt

-- what comes of the index, by what the code answers
pub after_index : (m : Memory) (q : Queue) (l : QueueLayout) (position : ℕ) (index : Option (List ℕ)) (w : code.Walk) →
    at_position l position ≡ q → is_whole 2 index ≡ true →
    (index ≡ None → reach m Read (avail_index_at q) 2 ≡ false) → (index ≡ None → first_miss m (needed_at q OfIndex) ≡ None) →
    stage_of w ≡ stage_at (by_index (at_position l position) index) →
    IfRingEntry w (λ x. (x.layout ≡ l) × (x.position ≡ position)) → BeginsChain l w →
    StandsAfterIndex m q index w
after_index m q l position index w is whole asked no_miss stage same chain = record {
  stage = stage ∙ ap (λ (x : Queue). stage_at (by_index x index)) is;
  at = ring_same l position q w is same;
  whole = whole;
  asked = asked;
  no_miss = no_miss;
  begins = begins_of l position q w is chain;
}

-- an index that was loaded
pub loaded_pair : (o : Option (List ℕ)) → option_map length o ≡ Some 2 → (bs : List ℕ) × (o ≡ Some bs) × (length bs ≡ 2)
loaded_pair None is = absurd (cc)
loaded_pair (Some bs) is = (bs, refl, cc)

pub whole_pair : (o : Option (List ℕ)) → option_map length o ≡ Some 2 → is_whole 2 o ≡ true
whole_pair o is = let pair = loaded_pair o is in ap (is_whole 2) pair.1 ∙ eq-eqb (length pair.0) 2 pair.2

pub not_none : {A : Type 0} (o : Option (List ℕ)) → option_map length o ≡ Some 2 → o ≡ None → A
not_none None is none = absurd (cc)
not_none (Some bs) is none = absurd (cc)

-- an index that isn't mapped doesn't ask for the entry
pub without_entry : (q : Queue) (w : code.Walk) → stage_of w ≡ stage_at (by_index q None) → (x : RingEntryWalk) → w ≡ shows.RingEntry x → ⊥
without_entry q w is x e = not_given (ap stage_of (sym e) ∙ is ∙ ap stage_at (index_lost q))
  where
    not_given : AsksEntry ≡ HasResult (Refused AvailIndexUnreachable) → ⊥
    not_given same = cc
