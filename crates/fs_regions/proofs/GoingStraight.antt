-- A pop goes straight through loads that were made ahead.
use Rattle.std.proofs.Common.{◌≡◌, ◌∙◌, ℕ, ◌+◌, ◌*◌, ◌-◌, ◌≤◌, ◌<◌, ◌^◌, List, [], ◌∷◌, length, take, drop, Some, None, true, false}
use Rattle.std.proofs.Common.{ap, refl, sym, subst, arith}
use Rattle.std.proofs.lemmas.Bool.{eq-eqb}
use Rattle.std.proofs.lemmas.List.{length-take-le}
use Rattle.smallvec.specs.SmallVec.{SmallVec}
use Rattle.vm_iotlb.specs.declared.permissions.Permissions.TheVariants.{Read}
use Rattle.vm_memory_core.specs.Window.{Window}
use Rattle.vm_memory.specs.Memory.{location}
use Rattle.vm_memory.specs.Slices.{IsWindowAt}
use Rattle.fs_queue.specs.declared.chain_walk.ChainWalk.{ChainWalk}
use Rattle.fs_queue.specs.declared.chain_walk.Progress as code
use Rattle.fs_queue.specs.declared.chain_walk.Progress.TheVariants as shows
use Rattle.fs_queue.specs.declared.chain_walk.WalkEnd as walked
use Rattle.fs_queue.specs.declared.walk.IndexWalk.{IndexWalk}
use Rattle.fs_queue.specs.declared.walk.RingEntryWalk.{RingEntryWalk}
use Rattle.fs_queue.specs.declared.walk.Walk as ring
use Rattle.fs_queue.specs.declared.walk.Walk.TheVariants as waits
use Rattle.fs_queue.specs.Chain.{Descriptor, IsChain, entry_address, first_visit}
use Rattle.fs_queue.specs.Loads.{Reads, ahead_at, asks_entry, chain_exactly}
use Rattle.fs_queue.specs.Queue.{Queue}
use Rattle.fs_queue.specs.RingingView.{HasResult, BeginsChain, IfRingEntry, by_entry, by_index, stage_at, stage_of}
use Rattle.fs_queue.specs.SteppingView.{ahead_of, visit_of}
use Rattle.fs_queue.specs.WalkingView.{at_position, found_of}
use Rattle.fs_regions.specs.Ahead.{AheadBytes, BeginsAhead, IsLoadOf, StopsBefore, loads_ahead}
use Rattle.fs_regions.specs.Places.{Mapped, left_in, places_in}
use Rattle.fs_regions.specs.Straight.{EndsChain, ProceedsAt, ProceedsByHead, ProceedsFrom, ReadsAhead, stretch_of}
use Rattle.fs_regions.specs.Stretches.{ReadsStretch}
use Rattle.fs_regions.specs.Walks.{Brings, ComesBy, HeadMayBePushed, IsCourseStep, IsThere, IsWalkAt, Loaded, ReportsBy, asked_by}
use Rattle.fs_regions.specs.Walks.{asked_len, most_of}
use Rattle.fs_regions.specs.declared.ahead.LoadAhead.{LoadAhead}
use Rattle.fs_regions.specs.declared.step.CourseStep.TheVariants as step
use Rattle.fs_regions.specs.declared.walk.QueueWalk.{QueueWalk}
use Rattle.fs_regions.specs.declared.walk.QueueWalk.TheVariants as at
use Rattle.fs_regions.proofs.Fetching.{fetches}
use Rattle.fs_regions.proofs.Finding.{brings_none}
use Rattle.fs_regions.proofs.Going.{begins_so, proceeds_nowhere, carries_on}
use Rattle.fs_regions.proofs.Steps.{after_index, begins_of, ends, entry_asked, entry_given, finds, head_waits, loaded_pair, not_none}
use Rattle.fs_regions.proofs.Steps.{reports_both, whole_pair}
use Rattle.fs_regions.proofs.Stretching.{comes_by, window_reaches}

-- the bytes that a walk asks for are mapped, if one window has them
pub load_there : (g : Mapped) (walk : QueueWalk) (a len : ℕ) (w : Window) → a ≡ asked_by walk → len ≡ asked_len walk
    → a + asked_len walk < 2 ^ 64 → IsWindowAt (location (places_in g) Read) a len w → w.len ≡ len
    → IsThere (places_in g) walk
load_there g walk a len w is_at is_len fits window whole =
    let below : asked_by walk + asked_len walk < 2 ^ 64 = omega (arith, is_at, fits) in
    let enough : asked_len walk ≤ w.len = omega (arith, is_len, whole) in
    window_reaches g (asked_by walk) (asked_len walk) len w below enough
    (subst (λ x. IsWindowAt (location (places_in g) Read) x len w) is_at window)

-- a stretch is read from a load of all entries that the walk may ask for
pub reads_so : (g : Mapped) (q : Queue) (head : ℕ) (walk : ChainWalk) (old : List Descriptor) (one : LoadAhead) (bytes : List ℕ)
    (new : List Descriptor) (after : code.Progress) (n may : ℕ) (some : 0 < n) (few : n ≤ 256)
    (inside : walk.index + n ≤ walk.table.entries)
    → n ≤ most_of walk.table → (1 < n → n ≤ may)
    → ((k : ℕ) → k ≤ most_of walk.table → walk.index + k ≤ walk.table.entries → (1 < k → k ≤ may) → k ≤ n)
    → may ≡ q.size - length old → IsLoadOf g (at.Entries (stretch_of head walk n some few inside)) one → one.len ≤ length bytes
    → IsThere (places_in g) (at.Entries (stretch_of head walk n some few inside)) → (w : ChainWalk) (mine : List ℕ) → walk ≡ w
    → mine ≡ take one.len bytes → ReadsStretch w mine old new after → ReadsAhead g q head walk old one bytes new after
reads_so g q head walk old one bytes new after n may some few inside low joins most room is_load enough there w mine is_walk is_mine reads =
    let shorter = is_load.1.1 in
    let whole = is_load.4 in
    let left : 16 * n ≤ left_in (places_in g) (entry_address (visit_of walk)) = omega (arith, shorter, whole) in
    record {
      n = n;
      some = some;
      few = few;
      inside = inside;
      is_load = is_load;
      is_there = there;
      is_longest = (
        (low, inside, λ more. let few_enough = joins more in (left, omega (arith, more, few_enough, room))),
        λ k may_be. most k may_be.0 may_be.1 (λ more. let joins_so = (may_be.2 more).1 in omega (arith, joins_so, room)),
      );
      enough = enough;
      reads = subst (λ (x : ChainWalk). ReadsStretch x (take one.len bytes) old new after) (sym is_walk)
          (subst (λ (bs : List ℕ). ReadsStretch w bs old new after) is_mine reads);
    }

-- the walk of a stretch
abbrev pub walk_of : ChainWalk → QueueWalk → ChainWalk
walk_of other (at.Entries s) = s.walk
walk_of other w = other

-- a chain stops before no load
ends_before : (g : Mapped) (ahead : List AheadBytes) (ds : SmallVec Descriptor) (head : ℕ) → StopsBefore g ahead ds (step.Chain head None)
ends_before g [] ds head = tt
ends_before g (l ∷ more) ds head = tt

-- the walk of a chain without a fault ends in a stretch
pub proceeds_to_end : (g : Mapped) (limit : ℕ) (q : Queue) (head : ℕ) (walk : ChainWalk) (ahead : List LoadAhead) (one : LoadAhead)
    (more : List LoadAhead) (bytes : List ℕ) (old new : SmallVec Descriptor) (w : walked.WalkEnd) (found : ℕ) → q.stopped ≡ false
    → ahead ≡ one ∷ more → ReadsAhead g q head walk old.items one bytes new.items (shows.Ends w)
    → EndsChain g limit w new.items head found
    → ProceedsFrom g limit q head walk old (loads_ahead ahead bytes) new found
proceeds_to_end g limit q head walk ahead one more bytes old new w found runs is_first r end =
    let m = places_in g in
    let from = stretch_of head walk r.n r.some r.few r.inside in
    let chain : (l : Loaded) → HeadMayBePushed m q l head
    → Brings q.size l.entries (ahead_at q.size (first_visit q head)) new.items (ahead_of (shows.Ends w))
    → IsCourseStep m limit q l new.items (step.Chain found None) =
    λ l may brings.
    let by : chain_exactly l.entries q head ≡ Some (IsChain new.items) =
    ends q l head new.items w brings ∙ ap (λ (x : walked.WalkEnd). Some (found_of x new.items)) end.0 in
    subst (λ h. IsCourseStep m limit q l new.items (step.Chain h None)) (sym end.2)
    (fetches m limit q l new.items head None runs (sym end.1) may (finds m q l head (IsChain new.items) by), tt) in
    let comes : (loaded : Loaded) → IsWalkAt m q loaded old.items (at.Entries from)
    → ComesBy m limit q loaded (at.Entries from) (take one.len bytes) new.items (step.Chain found None) =
    λ loaded stands. comes_by m limit q loaded from (take one.len bytes) old.items new.items (shows.Ends w) (step.Chain found None)
    r.reads tt (λ l may size brings. chain l may brings) stands in
    record {
      n = r.n;
      some = r.some;
      few = r.few;
      inside = r.inside;
      is_longest = r.is_longest;
      proceeds = (
        r.is_there,
        carries_on g limit q ahead one more bytes (at.Entries from) old new new (step.Chain found None) (step.Chain found None) is_first
            r.is_load r.enough comes
            (proceeds_nowhere g limit q (loads_ahead more (drop one.len bytes)) new (step.Chain found None)
            (ends_before g (loads_ahead more (drop one.len bytes)) new found)),
      );
    }

-- the walk needs one stretch more
pub proceeds_further : (g : Mapped) (limit : ℕ) (q : Queue) (head : ℕ) (walk next : ChainWalk) (ahead : List LoadAhead) (one : LoadAhead)
    (more : List LoadAhead) (bytes : List ℕ) (old mid new : SmallVec Descriptor) (found : ℕ) → ahead ≡ one ∷ more
    → ReadsAhead g q head walk old.items one bytes mid.items (shows.Wants next)
    → ProceedsFrom g limit q head next mid (loads_ahead more (drop one.len bytes)) new found
    → ProceedsFrom g limit q head walk old (loads_ahead ahead bytes) new found
proceeds_further g limit q head walk next ahead one more bytes old mid new found is_first r then =
    let m = places_in g in
    let from = stretch_of head walk r.n r.some r.few r.inside in
    let to = stretch_of head next then.n then.some then.few then.inside in
    let comes : (loaded : Loaded) → IsWalkAt m q loaded old.items (at.Entries from)
    → ComesBy m limit q loaded (at.Entries from) (take one.len bytes) mid.items (step.Load (at.Entries to)) =
    λ loaded stands. comes_by m limit q loaded from (take one.len bytes) old.items mid.items (shows.Wants next)
    (step.Load (at.Entries to)) r.reads refl (λ l may size brings. ((may, size, brings), then.proceeds.0, then.is_longest)) stands in
    record {
      n = r.n;
      some = r.some;
      few = r.few;
      inside = r.inside;
      is_longest = r.is_longest;
      proceeds = (
        r.is_there,
        carries_on g limit q ahead one more bytes (at.Entries from) old mid new (step.Load (at.Entries to)) (step.Chain found None) is_first
            r.is_load r.enough comes then.proceeds.1,
      );
    }

-- the ring's entry is a head, whose chain follows
pub proceeds_by_entry : (g : Mapped) (limit : ℕ) (q : Queue) (w : RingEntryWalk) (ahead : List LoadAhead) (one : LoadAhead)
    (more : List LoadAhead) (bytes pair : List ℕ) (given : ring.Walk) (old new : SmallVec Descriptor) (found : ℕ) → ahead ≡ one ∷ more
    → IsLoadOf g (at.RingEntry w) one → one.len ≤ length bytes → IsThere (places_in g) (at.RingEntry w) → pair ≡ take one.len bytes
    → ((index : List ℕ) → length index ≡ 2 → asks_entry (by_index (at_position w.layout w.position) (Some index)) ≡ true
    → stage_of given ≡ HasResult (by_entry (at_position w.layout w.position) (Some index) (Some pair)))
    → BeginsChain w.layout given → ProceedsByHead g limit q given old (loads_ahead more (drop one.len bytes)) new found
    → ProceedsAt g limit q (at.RingEntry w) old (loads_ahead ahead bytes) new found
proceeds_by_entry g limit q w ahead one more bytes pair given old new found is_first is_load enough there is_pair shows_so begins by =
    let m = places_in g in
    let mine = take one.len bytes in
    let head = by.0 in
    let next = by.1 in
    let then = by.4 in
    let to = stretch_of head next then.n then.some then.few then.inside in
    let long : length mine ≡ 2 = length-take-le one.len bytes enough ∙ is_load.3 ∙ is_load.4 in
    let reports = subst (λ (bs : List ℕ). (index : List ℕ) → length index ≡ 2
    → asks_entry (by_index (at_position w.layout w.position) (Some index)) ≡ true
    → stage_of given ≡ HasResult (by_entry (at_position w.layout w.position) (Some index) (Some bs))) is_pair shows_so in
    let comes : (loaded : Loaded) → IsWalkAt m q loaded old.items (at.RingEntry w)
    → ComesBy m limit q loaded (at.RingEntry w) mine old.items (step.Load (at.Entries to)) =
    λ loaded stands.
    let index = loaded_pair loaded.index stands.1 in
    let with_entry =
    entry_given (at_position w.layout w.position) q loaded.index (Some mine) index.0 given stands.0 index.1 index.2 stands.2
    reports in
    let by_both = reports_both m q loaded.index (Some mine) given (whole_pair loaded.index stands.1) stands.2
    (eq-eqb (length mine) 2 long)
    (λ none. not_none loaded.index stands.1 none) (λ none. absurd (cc)) (λ none. not_none loaded.index stands.1 none)
    (λ none. absurd (cc))
    (begins_of w.layout w.position q given stands.0 begins) with_entry in
    let chain = head_waits m q (record { index = loaded.index; entry = Some mine; entries = [] }) head (shows.Wants next)
    (subst (λ (x : ring.Walk). ReportsBy m q (record { index = loaded.index; entry = Some mine; entries = [] }) x) by.2 by_both) in
    let may : HeadMayBePushed m q (record loaded { entry = Some mine }) head =
    record { by_loads = chain.by_loads; asked = chain.asked; returns = by.3 } in
    let brings : Brings q.size loaded.entries (ahead_at q.size (first_visit q head)) old.items (Reads (visit_of next)) =
    rw (stands.4, stands.5) (brings_none q.size (ahead_at q.size (first_visit q head)) (Reads (visit_of next)) chain.begins.0) in
    record {
      after = record loaded { entry = Some mine };
      adds = refl;
      comes = ((may, chain.begins.1, brings), then.proceeds.0, then.is_longest);
    } in (
      there,
      carries_on g limit q ahead one more bytes (at.RingEntry w) old old new (step.Load (at.Entries to)) (step.Chain found None) is_first
          is_load enough comes then.proceeds.1,
    )

-- a chain is available, and the ring's entry follows
pub proceeds_by_index : (g : Mapped) (limit : ℕ) (q : Queue) (w : IndexWalk) (ahead : List LoadAhead) (one : LoadAhead)
    (more : List LoadAhead) (bytes pair : List ℕ) (given : ring.Walk) (next : RingEntryWalk) (old new : SmallVec Descriptor) (found : ℕ)
    → ahead ≡ one ∷ more → IsLoadOf g (at.Index w) one → one.len ≤ length bytes → IsThere (places_in g) (at.Index w)
    → pair ≡ take one.len bytes → given ≡ waits.RingEntry next
    → stage_of given ≡ stage_at (by_index (at_position w.layout w.position) (Some pair))
    → IfRingEntry given (λ x. (x.layout ≡ w.layout) × (x.position ≡ w.position)) → BeginsChain w.layout given
    → ProceedsAt g limit q (at.RingEntry next) old (loads_ahead more (drop one.len bytes)) new found
    → ProceedsAt g limit q (at.Index w) old (loads_ahead ahead bytes) new found
proceeds_by_index g limit q w ahead one more bytes pair given next old new found is_first is_load enough there is_pair is shows_so same
    begins
    then =
    let m = places_in g in
    let mine = take one.len bytes in
    let long : length mine ≡ 2 = length-take-le one.len bytes enough ∙ is_load.3 ∙ is_load.4 in
    let stage : stage_of given ≡ stage_at (by_index (at_position w.layout w.position) (Some mine)) =
    shows_so ∙ ap (λ (bs : List ℕ). stage_at (by_index (at_position w.layout w.position) (Some bs))) is_pair in
    let comes : (loaded : Loaded) → IsWalkAt m q loaded old.items (at.Index w)
    → ComesBy m limit q loaded (at.Index w) mine old.items (step.Load (at.RingEntry next)) =
    λ loaded stands.
    let s = after_index m q w.layout w.position (Some mine) given stands.0 (eq-eqb (length mine) 2 long) (λ none. absurd (cc))
    (λ none. absurd (cc)) stage same begins in
    let here : at_position next.layout next.position ≡ q =
    subst (λ (x : ring.Walk). IfRingEntry x (λ y. at_position y.layout y.position ≡ q)) is s.at in
    let asks : asks_entry (by_index q (Some mine)) ≡ true =
    entry_asked (by_index q (Some mine)) (ap stage_of (sym is) ∙ s.stage) in
    record {
      after = record loaded { index = Some mine };
      adds = refl;
      comes = (
        (
          here,
          ap (λ n. Some n) long,
          asks,
          ap (λ (l : Loaded). l.entry) stands.1,
          ap (λ (l : Loaded). l.entries) stands.1,
          stands.2,
        ),
        then.0,
        tt,
      );
    } in (
      there,
      carries_on g limit q ahead one more bytes (at.Index w) old old new (step.Load (at.RingEntry next)) (step.Chain found None) is_first
          is_load enough comes then.1,
    )

-- a pop begins, and goes straight on
pub proceeds_straight : (g : Mapped) (limit : ℕ) (q : Queue) (ahead : List AheadBytes) (begun new : SmallVec Descriptor) (w : IndexWalk)
    (found : ℕ) → at_position w.layout w.position ≡ q → begun.items ≡ [] → ProceedsAt g limit q (at.Index w) begun ahead new found
    → BeginsAhead g limit q ahead new (step.Chain found None)
proceeds_straight g limit q ahead begun new w found is none proceeds =
    begins_so g limit q ahead begun new (step.Load (at.Index w)) (step.Chain found None) ((is, refl, none), proceeds.0, tt) proceeds.1
