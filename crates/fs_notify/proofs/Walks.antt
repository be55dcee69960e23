-- Pops that ended: by which index they take a chain, and by which they find none.
use Rattle.std.proofs.Common.{arith, ◌≡◌, ℕ, ◌+◌, ◌-◌, ◌%◌, ◌^◌, ◌<◌, ◌==◌, ◌&&◌, ◌||◌, Bool, true, false, not, List, [], ◌∷◌, ◌++◌, length}
use Rattle.std.proofs.Common.{replicate, Option, Some, None, IsTrue, refl, sym, ap, subst, ◌∙◌, if◌then◌else◌}
use Rattle.std.specs.Prelude.{is_some, nat_lt, nat_le, option_and_then, option_map, slice_get}
use Rattle.std.specs.Int.{w16, from_le_bytes}
use Rattle.std.proofs.lemmas.Bool.{eqb-true}
use Rattle.std.proofs.lemmas.Bool.Decides.{nat_tests}
use Rattle.std.proofs.lemmas.List.{length-replicate}
use Rattle.std.proofs.lemmas.Nat.{mod_below}
use Rattle.vm_iotlb.specs.declared.permissions.Permissions.TheVariants.{Read, Write}
use Rattle.vm_memory.specs.Memory.{Memory, number, reach}
use Rattle.fs_queue.specs.declared.layout.QueueLayout.{QueueLayout}
use Rattle.fs_queue.specs.declared.fault.ChainFault.{ChainFault}
use Rattle.fs_queue.specs.declared.fault.QueueError.TheVariants.{AvailFlagsUnreachable, AvailIndexUnreachable, RingEntryUnreachable}
use Rattle.fs_queue.specs.declared.fault.QueueError.TheVariants.{HeadOutOfTable, UsedUnreachable}
use Rattle.fs_queue.specs.Chain.{Found, StopsQueue, Descriptor}
use Rattle.fs_queue.specs.Queue.{Queue as Ring, avail_index_at, element_at, index_at, ring_entry_at}
use Rattle.fs_queue.specs.NextAvail.{NextAvail, Idle, Head, Refused, next_avail}
use Rattle.fs_queue.specs.Loads.{Load, holding, index_load, entry_load, asks_entry, is_whole, chain_exactly}
use Rattle.fs_queue.specs.OfferLoads.{on_waits, available_by, with_loaded, without_chain, without_entry, without_request}
use Rattle.fs_queue.specs.WalkingView.{at_position}
use Rattle.fs_queue.specs.Taking as taking
use Rattle.fs_queue.specs.Taking.{Offer, RequestAndRoom, offer_of}
use Rattle.fs_queue.proofs.RingLemmas.{IsPair, entry_reports, index_lost, index_reports, pick}
use Rattle.fs_queue.specs.Taking.{total_len, readable, writable, addresses_of, IsRequest, CannotFetch, Offers}
use Rattle.fs_regions.specs.declared.step.CourseStep as comes
use Rattle.fs_regions.specs.declared.step.CourseStep.TheVariants as step
use Rattle.fs_regions.specs.Walks.{FetchesBy, Loaded, OffersBy}
use Rattle.live_machine.specs.Live.{EndsPopSo, after_pop}
use Rattle.live_machine.specs.Several.{LiveQueue, in_flight, took}
use Rattle.live_machine.specs.Several as several
use Rattle.live_machine.proofs.Queues.{there_same}
use Rattle.fs_chain.specs.declared.queue.QueueState.{QueueState}
use Rattle.fs_chain.specs.declared.popping.PopOutcome.TheVariants as shows
use Rattle.fs_chain.specs.Holds.{IsRunQueue, RunState, live_of}
use Rattle.fs_chain.specs.Queues.{may_take}
use Rattle.fs_chain.specs.Walks.{outcome_of}
use Rattle.fs_chain.proofs.Offering.{ended_queue, ended_runs}
use Rattle.notify.specs.Kicks.{ahead}
use Rattle.notify.specs.Threads.{ThreadedQueue, Walker, Rearmer, walks, is_rearmer, may_act, after_act, TakesOne, SleepsNow}
use Rattle.notify.proofs.Rings.{ahead_zero}
use Rattle.fs_notify.specs.Takers.{FindsNoneByPop, HasPopped, HasU16Numbers, IsIndex, IsModelOf, SleepsInOrder, TakesByPop, ways_of}

-- ---- an offer by what waits

abbrev IsHead : NextAvail → Type 0
IsHead (Head h) = Unit {0}
IsHead _ = ⊥

-- a chain is offered where one waits, and nothing where none does
abbrev pub IsBy : NextAvail → Offer → Type 0
IsBy w taking.Idle = w ≡ Idle
IsBy w (taking.Refuses e) = Unit {0}
IsBy w (taking.Offers head fetched) = IsHead w

abbrev IfOffer : (Offer → Type 0) → Option Offer → Type 0
IfOffer P None = Unit {0}
IfOffer P (Some o) = P o

shows_is : (P : Offer → Type 0) (x : Option Offer) (o : Offer) → x ≡ Some o → IfOffer P x → P o
shows_is P x o is shows = subst (IfOffer P) is shows

on_request : (P : Offer → Type 0) (bs : List ℕ) (o : Offer) → P o → IfOffer P (without_request bs o)
on_request P [] o h = h
on_request P (b ∷ bs) o h = tt

on_chain : (P : Offer → Type 0) (ls : List Load) (bs : List ℕ) (o : Offer) → P o → IfOffer P (without_chain ls bs o)
on_chain P [] bs o h = on_request P bs o h
on_chain P (l ∷ ls) bs o h = tt

by_fetch : (h head : ℕ) (x : Option RequestAndRoom) → IfOffer (IsBy (Head h)) (option_map (taking.Offers head) x)
by_fetch h head None = tt
by_fetch h head (Some x) = tt

by_found : (m : Memory) (limit h head : ℕ) (bs : List ℕ) (f : Found) → IfOffer (IsBy (Head h)) (with_loaded bs (offer_of m limit head f))
by_found m limit h head bs StopsQueue = on_request (IsBy (Head h)) bs _ tt
by_found m limit h head bs _ = by_fetch h head _

by_chain : (m : Memory) (limit h head : ℕ) (bs : List ℕ) (f : Option Found) →
    IfOffer (IsBy (Head h)) (option_and_then (λ f. with_loaded bs (offer_of m limit head f)) f)
by_chain m limit h head bs None = tt
by_chain m limit h head bs (Some f) = by_found m limit h head bs f

by_tests : (h : ℕ) (ls : List Load) (bs : List ℕ) (a b : Bool) (one two : Offer) (x : Option Offer) → IsBy (Head h) one → IsBy (Head h) two
    → IfOffer (IsBy (Head h)) x
    → IfOffer (IsBy (Head h)) (if a then without_chain ls bs one else if b then without_chain ls bs two else x)
by_tests h ls bs true b one two x p q shows = on_chain (IsBy (Head h)) ls bs one p
by_tests h ls bs false true one two x p q shows = on_chain (IsBy (Head h)) ls bs two q
by_tests h ls bs false false one two x p q shows = shows

by_next : (m : Memory) (limit : ℕ) (q : Ring) (ls : List Load) (bs : List ℕ) (w : NextAvail) → IfOffer (IsBy w) (on_waits m limit q ls bs w)
by_next m limit q ls bs Idle = on_chain (IsBy Idle) ls bs taking.Idle refl
by_next m limit q ls bs (Refused e) = on_chain (IsBy (Refused e)) ls bs (taking.Refuses e) tt
by_next m limit q ls bs (Head head) =
    by_tests head ls bs (not (reach m Write (element_at q) 8 && reach m Write (index_at q) 2)) (not (reach m Read q.avail 2))
    (taking.Refuses UsedUnreachable) (taking.Refuses AvailFlagsUnreachable) _ tt tt
    (by_chain m limit head head bs (chain_exactly ls q head))

by_waits : (m : Memory) (limit : ℕ) (q : Ring) (ls : List Load) (bs : List ℕ) (x : Option NextAvail) (o : Offer)
    → option_and_then (on_waits m limit q ls bs) x ≡ Some o
    → (w : NextAvail) × (x ≡ Some w) × IsBy w o
by_waits m limit q ls bs None o is = cc
by_waits m limit q ls bs (Some w) o is = (w, refl, shows_is (IsBy w) (on_waits m limit q ls bs w) o is (by_next m limit q ls bs w))

-- ---- what waits by the index

-- by so many chains that are ahead
abbrev WaitsBy : NextAvail → (n : ℕ) → Type 0
WaitsBy Idle n = n ≡ 0
WaitsBy (Head h) n = 0 < n
WaitsBy (Refused e) n = Unit {0}

some_ahead : (n : ℕ) → (n == 0) ≡ false → 0 < n
some_ahead n is = grind (arith, nat_tests)

ring_shows : (n : ℕ) (z far whole : Bool) (entry : Option (List ℕ)) (both w : NextAvail) → (n == 0) ≡ z
    → (whole ≡ true → z ≡ false → far ≡ false → both ≡ Idle → ⊥)
    → (if not (asks_entry (pick true z far (Refused RingEntryUnreachable)))
    then without_entry entry (pick true z far (Refused RingEntryUnreachable))
    else if not whole then None else Some both) ≡ Some w → WaitsBy w n
ring_shows n true far whole entry both Idle is never e = eqb-true n 0 is
ring_shows n true far whole None both (Head h) is never e = cc
ring_shows n false true whole None both Idle is never e = cc
ring_shows n false far whole entry both (Head h) is never e = some_ahead n is
ring_shows n false false true entry both Idle is never e = absurd (never refl refl refl (cc))
ring_shows n z far whole entry both (Refused e) is never h = tt
ring_shows n _ _ _ _ both _ is never e = cc

entry_idle :
    (c far : Bool) (n : ℕ) → (if not c then Refused RingEntryUnreachable else if far then Refused HeadOutOfTable else Head n) ≡ Idle → ⊥
entry_idle false far n is = cc
entry_idle true true n is = cc
entry_idle true false n is = cc

pair_of : (a : ℕ) (i : Option (List ℕ)) → a + 2 < 2 ^ 64 → is_whole 2 i ≡ true → IsPair a i
pair_of a None fits whole = tt
pair_of a (Some bs) fits whole = (eqb-true (length bs) 2 whole, fits)

none_some : (w : NextAvail) → None ≡ Some w → ⊥
none_some w is = cc

waits_some : (q : Ring) (bs : List ℕ) (entry : Option (List ℕ)) (w : NextAvail) (whole : Bool) → (length bs == 2) ≡ whole
    → avail_index_at q + 2 < 2 ^ 64 → ring_entry_at q + 2 < 2 ^ 64
    → available_by q (Some bs) entry ≡ Some w → WaitsBy w (ahead (from_le_bytes w16 bs) q.position)
waits_some q bs entry w false is index_fits entry_fits e =
    let unfolded : available_by q (Some bs) entry ≡ None = rw is refl in
    absurd (none_some w (sym unfolded ∙ e))
waits_some q bs entry w true is index_fits entry_fits e =
    let n = ahead (from_le_bytes w16 bs) q.position in
    let one = next_avail (holding (index_load q (Some bs) ∷ [])) q in
    let both = next_avail (holding (index_load q (Some bs) ∷ entry_load q entry ∷ [])) q in
    let len = eqb-true (length bs) 2 is in
    let unfolded : available_by q (Some bs) entry
    ≡ (if not (asks_entry one) then without_entry entry one else if not (is_whole 2 entry) then None else Some both) = rw is refl in
    let reports : one ≡ pick true (n == 0) (nat_lt q.size n) (Refused RingEntryUnreachable) =
    index_reports q (Some bs) bs (from_le_bytes w16 bs) n refl len index_fits refl refl in
    let never : is_whole 2 entry ≡ true → (n == 0) ≡ false → nat_lt q.size n ≡ false → both ≡ Idle → ⊥ = λ whole z far idle.
    let asked : asks_entry one ≡ true = rw (reports, z, far) refl in
    let shows = entry_reports q bs entry len index_fits (pair_of (ring_entry_at q) entry entry_fits whole) asked in
    entry_idle (is_some entry) (nat_le q.size (number (holding (index_load q (Some bs) ∷ entry_load q entry ∷ [])) w16 (ring_entry_at q)))
    (number (holding (index_load q (Some bs) ∷ entry_load q entry ∷ [])) w16 (ring_entry_at q)) (sym shows ∙ idle) in
    ring_shows n (n == 0) (nat_lt q.size n) (is_whole 2 entry) entry both w refl never
    (subst (λ (v : NextAvail). (if not (asks_entry v) then without_entry entry v else if not (is_whole 2 entry) then None else Some both)
    ≡ Some w) reports (sym unfolded ∙ e))

-- ---- what is offered by the index

-- of nothing that is offered, and of a chain
abbrev OffersAt : Offer → (n : ℕ) → Type 0
OffersAt taking.Idle n = n ≡ 0
OffersAt (Offers head fetched) n = 0 < n
OffersAt (taking.Refuses e) n = Unit {0}

abbrev IsNoRefusal : Offer → Type 0
IsNoRefusal (taking.Refuses e) = ⊥
IsNoRefusal _ = Unit {0}

ends : (l : QueueLayout) (position : ℕ) → ring_entry_at (at_position l position) + 2 < 2 ^ 64
ends l position = let in_ring = mod_below position l.size l.sized in omega (arith, l.available, in_ring)

begins : (l : QueueLayout) (position : ℕ) → avail_index_at (at_position l position) + 2 < 2 ^ 64
begins l position = omega (arith, l.available)

offers_at : (w : NextAvail) (o : Offer) (n : ℕ) → IsBy w o → WaitsBy w n → OffersAt o n
offers_at (Head k) taking.Idle n by h = cc
offers_at (Refused e) taking.Idle n by h = cc
offers_at Idle (Offers head fetched) n by h = absurd by
offers_at (Refused e) (Offers head fetched) n by h = absurd by
offers_at w (taking.Refuses e) n by h = tt
offers_at _ _ n by h = h

lost_entry : (entry : Option (List ℕ)) (w : NextAvail) (o : Offer) → without_entry entry (Refused AvailIndexUnreachable) ≡ Some w →
    IsBy w o → IsNoRefusal o → ⊥
lost_entry None (Refused e) taking.Idle is by offers = cc
lost_entry None (Refused e) (Offers head fetched) is by offers = by
lost_entry None Idle o is by offers = cc
lost_entry None (Head k) o is by offers = cc
lost_entry None w (taking.Refuses e) is by offers = offers
lost_entry (Some bs) w o is by offers = none_some w is

-- the index that was loaded, and how far it is ahead
abbrev IndexShows : (index : Option (List ℕ)) → (position : ℕ) → Offer → Type 0
IndexShows index position o = (bs : List ℕ) × (index ≡ Some bs) × OffersAt o (ahead (from_le_bytes w16 bs) position)

index_shows : (l : QueueLayout) (position : ℕ) (index entry : Option (List ℕ)) (w : NextAvail) (o : Offer)
    → available_by (at_position l position) index entry ≡ Some w → IsBy w o → IsNoRefusal o
    → IndexShows index position o
index_shows l position None entry w o is by offers =
    let q = at_position l position in
    let unfolded : available_by q None entry ≡ without_entry entry (Refused AvailIndexUnreachable) = rw (index_lost q None refl) refl in
    absurd (lost_entry entry w o (sym unfolded ∙ is) by offers)
index_shows l position (Some bs) entry w o is by offers = (
  bs,
  refl,
  offers_at w o _ by (waits_some (at_position l position) bs entry w (length bs == 2) refl (begins l position) (ends l position) is),
)

offer_shows : (m : Memory) (limit : ℕ) (l : QueueLayout) (position : ℕ) (loaded : Loaded) (request : List ℕ) (o : Offer)
    → OffersBy m limit (at_position l position) loaded request o → IsNoRefusal o
    → IndexShows loaded.index position o
offer_shows m limit l position loaded request o by offers =
    let q = at_position l position in
    let w = by_waits m limit q (loaded.entries ++ by.1) request (available_by q loaded.index loaded.entry) o by.3 in
    index_shows l position loaded.index loaded.entry w.0 o w.1 w.2 offers

-- ---- a pop that ended

-- a queue of the run as the model has it
abbrev IsLiveModel : LiveQueue → ThreadedQueue → Type 0
IsLiveModel v s = (s.position ≡ v.queue.position) × (s.out ≡ in_flight v)

same_live : (x : Option LiveQueue) (v w : LiveQueue) → x ≡ Some v → x ≡ Some w → w ≡ v
same_live x v w is too = cc

-- what such a pop says of its queue: it isn't stopped, and may have one more chain in flight
module _ (m : RunState) (i : ℕ) (before : QueueState) (loaded : Loaded) (ds : List Descriptor) (came : comes.CourseStep) (end : RunState)
    (there : IsRunQueue m i before) (e : EndsPopSo m i loaded ds came end) where
  may : may_take before ≡ true
  may = subst (λ (v : LiveQueue). several.may_take v ≡ true) (ended_queue m i before loaded ds came end there e) e.room

  laid : e.w.queue ≡ at_position before.layout before.next_avail
  laid =
      ap (λ (v : LiveQueue). v.queue) (ended_queue m i before loaded ds came end there e)
      ∙ ap (λ (b : Bool). record (at_position before.layout before.next_avail) { stopped = b })
      (ended_runs m i before loaded ds came end there e)

one_taken : (p r most : ℕ) → p < 2 ^ 16 → r < 2 ^ 16 → most < 2 ^ 16 → nat_lt ((p + (2 ^ 16 - r)) % 2 ^ 16) most ≡ true
    → (p + (2 ^ 16 - r)) % 2 ^ 16 + 1 ≡ ((p + 1) % 2 ^ 16 + (2 ^ 16 - r)) % 2 ^ 16
one_taken p r most fp fr fm few =
    let less : (p + (2 ^ 16 - r)) % 2 ^ 16 < most = grind (arith, nat_tests, few) in
    omega (arith, fp, fr, fm, less)

three : (a b c : Bool) → a ≡ true → b ≡ true → c ≡ true → (a && (b && c)) ≡ true
three a b c is so too = rw (is, so, too) refl

lt_of : (n : ℕ) → 0 < n → nat_lt 0 n ≡ true
lt_of n some = grind (arith, nat_tests)

-- the act of taking, where so many are ahead
takes_so : (q after : QueueState) (s : ThreadedQueue) (index : ℕ) → HasU16Numbers q → may_take q ≡ true → 0 < ahead index q.next_avail
    → live_of after ≡ took (live_of q) → IsModelOf q s → s.holder ≡ Walker → s.known ≡ index
    → IsTrue (may_act (ways_of q) s TakesOne) × IsModelOf after (after_act (ways_of q) s TakesOne)
takes_so q after s index counted may some gone is walker known =
    let ahead_is : ahead s.known s.position ≡ ahead index q.next_avail = rw (known, is.0) refl in
    let there : IsLiveModel (took (live_of q)) (after_act (ways_of q) s TakesOne) = (
      ap (λ (n : ℕ). (n + 1) % 2 ^ 16) is.0,
      ap (λ (n : ℕ). n + 1) is.1 ∙ one_taken q.next_avail q.next_used q.max_in_flight counted.0 counted.1 counted.2 may,
    ) in (
      three (walks s.holder) (nat_lt s.out q.max_in_flight) (nat_lt 0 (ahead s.known s.position)) (ap walks walker) (rw is.1 may)
          (lt_of (ahead s.known s.position) (subst (λ (n : ℕ). 0 < n) (sym ahead_is) some)),
      subst (λ (v : LiveQueue). IsLiveModel v (after_act (ways_of q) s TakesOne)) (sym gone) there,
    )

abbrev TakesChainSo : (before after : QueueState) (loaded : Loaded) (s : ThreadedQueue) → Type 0
TakesChainSo before after loaded s =
    (index : ℕ) × IsIndex loaded index
    × (s.known ≡ index → IsTrue (may_act (ways_of before) s TakesOne) × IsModelOf after (after_act (ways_of before) s TakesOne))

-- what it was offered
abbrev IsOfferedNext : Memory → (limit : ℕ) → Ring → Loaded → Type 0
IsOfferedNext m limit q loaded =
    (head : ℕ) × (request : List ℕ) × (fetched : RequestAndRoom) × OffersBy m limit q loaded request (Offers head fetched)

offered : (m : Memory) (limit : ℕ) (q : Ring) (loaded : Loaded) (ds : List Descriptor) (head : ℕ) (fault : Option ChainFault)
    → FetchesBy m limit q loaded ds head fault → IsOfferedNext m limit q loaded
offered m limit q loaded ds head None by =
    let n = total_len (readable ds) in
    (head, replicate n 0, IsRequest (replicate n 0) (addresses_of (writable ds)), by.1 (replicate n 0) (length-replicate n 0))
offered m limit q loaded ds head (Some why) by = (head, [], CannotFetch why, by)

-- by a chain's pop
takes_chain : (m end : RunState) (i : ℕ) (before after : QueueState) (loaded : Loaded) (ds : List Descriptor) (head : ℕ)
    (fault : Option ChainFault) (s : ThreadedQueue) → HasU16Numbers before → IsRunQueue m i before
    → EndsPopSo m i loaded ds (step.Chain head fault) end
    → IsRunQueue (after_pop m i (live_of before) loaded ds (step.Chain head fault)) i after
    → IsModelOf before s → s.holder ≡ Walker → TakesChainSo before after loaded s
takes_chain m end i before after loaded ds head fault s counted there e left is walker =
    let came : comes.CourseStep = step.Chain head fault in
    let found = offered m.places m.limit e.w.queue loaded ds head fault e.ends.0 in
    let by = subst (λ (q : Ring). OffersBy m.places m.limit q loaded found.1 (Offers found.0 found.2))
    (laid m i before loaded ds came end there e) found.3 in
    let shows = offer_shows m.places m.limit before.layout before.next_avail loaded found.1 (Offers found.0 found.2) by tt in
    let gone : live_of after ≡ took (live_of before) =
    same_live (slice_get (after_pop m i (live_of before) loaded ds came).queues i) (took (live_of before)) (live_of after)
    (there_same m.queues i i (λ _. took (live_of before)) (live_of before) refl there) left in (
      from_le_bytes w16 shows.0,
      (shows.0, shows.1, refl),
      λ known.
          takes_so before after s (from_le_bytes w16 shows.0) counted (may m i before loaded ds came end there e) shows.2 gone is walker
          known,
    )

takes_by : (m end : RunState) (i : ℕ) (before after : QueueState) (loaded : Loaded) (ds : List Descriptor) (came : comes.CourseStep)
    (s : ThreadedQueue) → HasU16Numbers before → HasPopped (outcome_of ds came) → IsRunQueue m i before
    → EndsPopSo m i loaded ds came end → IsRunQueue (after_pop m i (live_of before) loaded ds came) i after
    → IsModelOf before s → s.holder ≡ Walker → TakesChainSo before after loaded s
takes_by m end i before after loaded ds (step.Chain head fault) s counted taken there e left is walker =
    takes_chain m end i before after loaded ds head fault s counted there e left is walker
takes_by m end i before after loaded ds _ s counted taken there e left is walker = absurd taken

pub takes : TakesByPop
takes m i before after loaded new result s counted taken there ends is walker =
    takes_by m (after_pop m i (live_of before) loaded new.descriptors.items ends.came) i before after loaded new.descriptors.items ends.came
    s counted (subst HasPopped ends.outcome_is taken) there ends.happens ends.queue is walker

-- ---- none is found

idle_is : (ds : List Descriptor) (came : comes.CourseStep) → shows.Idle ≡ outcome_of ds came → came ≡ step.Idle
idle_is ds step.Idle e = refl
idle_is ds (step.Chain h None) e = cc
idle_is ds _ e = cc

same_index : (i p : ℕ) → i ≡ p → (i == p) ≡ true
same_index i p is = grind (arith, nat_tests, is)

or_left : (a b : Bool) → a ≡ true → (a || b) ≡ true
or_left a b is = rw is refl

sleeps_so : (q : QueueState) (s : ThreadedQueue) → s.index ≡ s.position → IsModelOf q s → s.holder ≡ Rearmer → s.hidden ≡ false →
    IsTrue (may_act (ways_of q) s SleepsNow)
sleeps_so q s none is asker shown =
    three (is_rearmer s.holder) (not s.hidden) (s.index == s.position || nat_le q.max_in_flight s.out) (ap is_rearmer asker)
    (ap not shown)
    (or_left (s.index == s.position) (nat_le q.max_in_flight s.out) (same_index s.index s.position none))

pub finds_none : FindsNoneByPop
finds_none m i before after loaded new s counted fits there ends is asker shown =
    let ds = new.descriptors.items in
    let came = idle_is ds ends.came ends.outcome_is in
    let e : EndsPopSo m i loaded ds step.Idle m =
    subst (λ (c : comes.CourseStep). EndsPopSo m i loaded ds c (after_pop m i (live_of before) loaded ds c)) came ends.happens in
    let left : IsRunQueue m i after =
    subst (λ (c : comes.CourseStep). IsRunQueue (after_pop m i (live_of before) loaded ds c) i after) came ends.queue in
    let by = subst (λ (q : Ring). OffersBy m.places m.limit q loaded [] taking.Idle) (laid m i before loaded ds step.Idle m there e)
    e.ends.0 in
    let gone : live_of after ≡ live_of before = same_live (slice_get m.queues i) (live_of before) (live_of after) there left in
    let shows = offer_shows m.places m.limit before.layout before.next_avail loaded [] taking.Idle by tt in (
      from_le_bytes w16 shows.0,
      (shows.0, shows.1, refl),
      λ same.
          let none : s.index ≡ before.next_avail =
          ahead_zero s.index before.next_avail fits counted.0 (ap (λ (k : ℕ). ahead k before.next_avail) same ∙ shows.2) in (
            sleeps_so before s (none ∙ sym is.0) is asker shown,
            subst (λ (v : LiveQueue). IsLiveModel v (after_act (ways_of before) s SleepsNow)) (sym gone) is,
          ),
    )

pub sleeps : SleepsInOrder
sleeps q s is walker none = (
  (
    ap walks walker,
    (refl, (or_left (s.index == s.position) (nat_le q.max_in_flight s.out) (same_index s.index s.position (none ∙ sym is.0)), refl)),
  ),
  is,
  refl,
)
