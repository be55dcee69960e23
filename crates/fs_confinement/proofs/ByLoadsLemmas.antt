-- a queue reads for an offer just where its loads came
use Rattle.std.proofs.Common.{◌≡◌, ℕ, zero, suc, ◌+◌, ◌%◌, ◌-◌, ◌^◌, ◌<◌, ◌≤◌, Bool, true, false, ◌&&◌, not, List, [], ◌∷◌, ◌++◌, map}
use Rattle.std.proofs.Common.{length, Option, Some, None, refl, ap, sym, ◌∙◌, subst, arith, append-nil, append_assoc}
use Rattle.std.specs.Prelude.{◌==◌, ◌||◌, nat_lt, nat_le, is_some, if◌then◌else◌, option_map, option_and_then, flat_map}
use Rattle.std.specs.Int.{w16, from_le_bytes}
use Rattle.std.specs.List.{list_all}
use Rattle.std.proofs.lemmas.Bool.{and_parts, eqb-true, lt-ltb, ltb-true}
use Rattle.vm_iotlb.specs.declared.permissions.Permissions.TheVariants.{Read, Write}
use Rattle.vm_memory.specs.Memory.{Memory, addresses, byte, bytes, location, number, reach}
use Rattle.fs_queue.specs.declared.fault.ChainFault.{ChainFault}
use Rattle.fs_queue.specs.declared.fault.ChainFault.TheVariants.{OverLimit, RequestUnreachable, RoomUnreachable}
use Rattle.fs_queue.specs.declared.fault.QueueError.{QueueError}
use Rattle.fs_queue.specs.declared.fault.QueueError.TheVariants as stop
use Rattle.fs_queue.specs.Queue.{Queue, avail_index_at, ring_entry_at, element_at, index_at}
use Rattle.fs_queue.specs.NextAvail.{NextAvail, next_avail}
use Rattle.fs_queue.specs.NextAvail as avail
use Rattle.fs_queue.specs.Chain.{Descriptor, Visit, entry_address, WalkStep, walk_step, next_visit, onward, path, first_visit}
use Rattle.fs_queue.specs.Chain.{after_walk_step, Found, IsChain, HasFault, StopsQueue, chain}
use Rattle.fs_queue.specs.Taking.{IsRequest, CannotFetch, readable, writable, total_len, all_reach, Offer, Idle, Refuses, Offers, offer_of}
use Rattle.fs_queue.specs.Taking.{offer, addresses_of}
use Rattle.fs_queue.specs.Loads.{Load, Ahead, Reads, Ends, holding, reads_entry, step_by, ahead_at, ahead_after, ahead_of_next, is_whole}
use Rattle.fs_queue.specs.Loads.{found_exactly, chain_exactly, index_load, entry_load, asks_entry, IsEntryOf, AreEntriesOf, IsLoadOf}
use Rattle.fs_queue.specs.OfferLoads.{without_request, without_chain, without_loads, without_entry, available_by, with_request, with_loaded}
use Rattle.fs_queue.specs.OfferLoads.{on_waits}
use Rattle.fs_queue.proofs.BoundLemmas.{walks_end}
use Rattle.fs_queue.proofs.LoadLemmas.{step_still}
use Rattle.fs_queue.proofs.OfferByLemmas.{offer_is_still}
use Rattle.fs_queue.proofs.ReadLemmas.{length-bytes}
use Rattle.fs_queue.proofs.RingLemmas.{IsPair, pick, index_lost, index_reports, entry_reports, ring_is_still}
use Rattle.fs_queue.proofs.StillLemmas.{IsSound, sound_at, sound_next, outside, mapped, still_exactly}
use Rattle.fs_queue.proofs.TakeLemmas.{bytes-addresses_of}
use Rattle.fs_confinement.specs.ReadSet.{ring_reads, entry_reads, walk_reads, request_reads, chain_reads, waiting_reads}
use Rattle.fs_confinement.specs.ByLoads.{came_at, all_came, request_addresses, request_came, WalksReadTheirLoads, OffersReadTheirLoads}

-- ---- a walk

-- where it reads from what lies ahead on, by at most n steps
abbrev reads_in : Memory → (size n : ℕ) → Ahead → List ℕ
reads_in m size n (Reads v) = flat_map (entry_reads m) (path m size n v)
reads_in m size n (Ends f) = []

-- a step past its table's end reads nothing, and no step follows
past_reads : (m : Memory) (size k : ℕ) (v : Visit) → reads_entry v ≡ false → flat_map (entry_reads m) (path m size (suc k) v) ≡ []
unfolding path
past_reads m size k v e =
    ap (λ (b : Bool). (if b && reach m Read (entry_address v) 16 then addresses (entry_address v) 16 else []) ++ flat_map (entry_reads m)
    (onward (path m size k) (next_visit v (walk_step m size v)))) e
    ∙ ap (λ (w : WalkStep). flat_map (entry_reads m) (onward (path m size k) (next_visit v w))) (sym (outside m size v e))

at_reads :
    (m : Memory) (size k : ℕ) (v : Visit) → flat_map (entry_reads m) (path m size (suc k) v) ≡ reads_in m size (suc k) (ahead_at size v)
at_reads m size k v = by_test (reads_entry v) refl
  where
    by_test : (b : Bool) → reads_entry v ≡ b →
        flat_map (entry_reads m) (path m size (suc k) v)
        ≡ reads_in m size (suc k) (if b then Reads v else Ends (after_walk_step (walk_step (holding []) size v) (IsChain [])))
    by_test true e = refl
    by_test false e = past_reads m size k v e

next_reads : (m : Memory) (size k : ℕ) (w : WalkStep) (o : Option Visit) →
    flat_map (entry_reads m) (onward (path m size (suc k)) o) ≡ reads_in m size (suc k) (ahead_of_next size w o)
next_reads m size k w None = refl
next_reads m size k w (Some v) = at_reads m size k v

-- the bytes of a load, whether they came or not
came_if : (m : Memory) (a n : ℕ) (b : Bool) → (if b then addresses a n else []) ≡ came_at a (if b then Some (bytes m a n) else None)
came_if m a n true = ap (addresses a) (sym (length-bytes m a n))
came_if m a n false = refl

entry_came : (m : Memory) (v : Visit) (l : Load) → l.address ≡ entry_address v → reads_entry v ≡ true → IsEntryOf m l →
    entry_reads m v ≡ came_at l.address l.came
entry_came m v l at inside is =
    ap (λ (b : Bool). if b && reach m Read (entry_address v) 16 then addresses (entry_address v) 16 else []) inside
    ∙ came_if m (entry_address v) 16 (reach m Read (entry_address v) 16)
    ∙ ap (λ (a : ℕ). came_at a (if reach m Read a 16 then Some (bytes m a 16) else None)) (sym at)
    ∙ ap (came_at l.address) (sym is)

step_came : (m : Memory) (size k : ℕ) (v : Visit) (l : Load) (ls : List Load) (f : Found) (b : Bool) → v.index < v.table.entries →
    (l.address == entry_address v && is_whole 16 l.came) ≡ b → IsEntryOf m l →
    ((x : Found) → found_exactly size ls (ahead_after size v (step_by size v l)) ≡ Some x →
    reads_in m size (suc k) (ahead_after size v (step_by size v l)) ≡ all_came ls) →
    (if b then option_map (after_walk_step (step_by size v l)) (found_exactly size ls (ahead_after size v (step_by size v l))) else None)
    ≡ Some f →
    flat_map (entry_reads m) (path m size (suc (suc k)) v) ≡ all_came (l ∷ ls)
unfolding path
step_came m size k v l ls f false inside at is rest e = absurd (cc)
step_came m size k v l ls f true inside at is rest e =
    let near : l.address ≡ entry_address v =
    eqb-true l.address (entry_address v) (and_parts (l.address == entry_address v) (is_whole 16 l.came) at).0 in
    let w = step_by size v l in
    let same : w ≡ walk_step m size v = step_still m size v l inside near is in
    let got = mapped (after_walk_step w) (found_exactly size ls (ahead_after size v w)) f e in
    ap (λ (xs : List ℕ). xs ++ flat_map (entry_reads m) (onward (path m size (suc k)) (next_visit v (walk_step m size v))))
    (entry_came m v l near (lt-ltb v.index v.table.entries inside) is)
    ∙ ap (λ (x : WalkStep). came_at l.address l.came ++ flat_map (entry_reads m) (onward (path m size (suc k)) (next_visit v x))) (sym same)
    ∙ ap (λ (xs : List ℕ). came_at l.address l.came ++ xs) (next_reads m size k w (next_visit v w) ∙ rest got.0 got.1)

walk_came : (m : Memory) (size n : ℕ) (ls : List Load) (a : Ahead) (f : Found) → length ls ≤ n → IsSound a → AreEntriesOf m ls →
    found_exactly size ls a ≡ Some f →
    reads_in m size (suc n) a ≡ all_came ls
unfolding found_exactly
walk_came m size n [] (Ends g) f le sound are e = refl
walk_came m size zero (l ∷ ls) (Reads v) f le sound are e = absurd (omega arith)
walk_came m size (suc n) (l ∷ ls) (Reads v) f le sound are e =
    step_came m size n v l ls f (l.address == entry_address v && is_whole 16 l.came) sound refl are.0
    (λ x h. walk_came m size n ls (ahead_after size v (step_by size v l)) x (omega (arith, le))
    (sound_next size (step_by size v l) (next_visit v (step_by size v l))) are.1 h) e
walk_came m size n _ _ f le sound are e = absurd (cc)

pub walks_read : WalksReadTheirLoads
walks_read m q head ls f are e =
    let n = length ls + (q.size + 2) in
    ap (flat_map (entry_reads m)) (sym (walks_end m q head (suc n) (omega arith)))
    ∙ at_reads m q.size n (first_visit q head)
    ∙ walk_came m q.size n ls (ahead_at q.size (first_visit q head)) f (omega arith) (sound_at q.size (first_visit q head)) are e

-- ---- nothing loaded

no_request :
    (q : Queue) (ls : List Load) (request : List ℕ) (x o : Offer) → without_request request x ≡ Some o → request_came q ls request o ≡ []
no_request q ls [] x o e = refl
no_request q ls (b ∷ bs) x o e = absurd (cc)

no_chain : (q : Queue) (ls : List Load) (request : List ℕ) (x o : Offer) → without_chain ls request x ≡ Some o →
    all_came ls ++ request_came q ls request o ≡ []
no_chain q [] request x o e = no_request q [] request x o e
no_chain q (l ∷ ls) request x o e = absurd (cc)

no_loads : (q : Queue) (index entry : Option (List ℕ)) (ls : List Load) (request : List ℕ) (x o : Offer) →
    without_loads index entry ls request x ≡ Some o →
    [] ≡ came_at (avail_index_at q) index ++ came_at (ring_entry_at q) entry ++ all_came ls ++ request_came q ls request o
no_loads q None None ls request x o e = sym (no_chain q ls request x o e)
no_loads q _ _ ls request x o e = absurd (cc)

-- ---- the ring

picked_reads : (q : Queue) (none far : Bool) →
    ring_reads q (pick true none far (avail.Refused stop.RingEntryUnreachable)) ≡ addresses (avail_index_at q) 2
picked_reads q true far = refl
picked_reads q false true = refl
picked_reads q false false = refl

said_reads : (q : Queue) (there past : Bool) (head : ℕ) →
    ring_reads q (if not there then avail.Refused stop.RingEntryUnreachable else if past then avail.Refused stop.HeadOutOfTable
    else avail.Head head)
    ≡ addresses (avail_index_at q) 2 ++ (if there then addresses (ring_entry_at q) 2 else [])
said_reads q false past head = sym (append-nil (addresses (avail_index_at q) 2))
said_reads q true true head = refl
said_reads q true false head = refl

-- two bytes that were read come from addresses below 2^64
pair_of : (m : Memory) (a : ℕ) (b : Bool) → reach m Read a 2 ≡ b → IsPair a (if b then Some (bytes m a 2) else None)
pair_of m a true e = (
  length-bytes m a 2,
  ltb-true (a + 2) (2 ^ 64) (and_parts (nat_lt (a + 2) (2 ^ 64)) (list_all (λ x. is_some (location m Read x)) (addresses a 2)) e).0,
)
pair_of m a false e = tt

-- what waits, by the index alone
abbrev alone : Queue → Option (List ℕ) → NextAvail
alone q index = next_avail (holding (index_load q index ∷ [])) q

-- and by the entry too
abbrev both : Queue → (index entry : Option (List ℕ)) → NextAvail
both q index entry = next_avail (holding (index_load q index ∷ entry_load q entry ∷ [])) q

alone_reads : (m : Memory) (q : Queue) (index : Option (List ℕ)) → IsLoadOf m 2 (index_load q index) →
    ring_reads q (alone q index) ≡ came_at (avail_index_at q) index
alone_reads m q index is = by_reach (reach m Read (avail_index_at q) 2) refl
  where
    by_reach : (b : Bool) → reach m Read (avail_index_at q) 2 ≡ b → ring_reads q (alone q index) ≡ came_at (avail_index_at q) index
    by_reach false e =
        let none : index ≡ None = is ∙ (rw e refl) in
        ap (ring_reads q) (index_lost q index none) ∙ sym (ap (came_at (avail_index_at q)) none)
    by_reach true e =
        let bs = bytes m (avail_index_at q) 2 in
        let some : index ≡ Some bs = is ∙ (rw e refl) in
        let pair = pair_of m (avail_index_at q) true e in
        let waits = (from_le_bytes w16 bs + (2 ^ 16 - q.position)) % 2 ^ 16 in
        ap (ring_reads q) (index_reports q index bs (from_le_bytes w16 bs) waits some pair.0 pair.1 refl refl)
        ∙ picked_reads q (waits == 0) (nat_lt q.size waits)
        ∙ ap (addresses (avail_index_at q)) (sym pair.0)
        ∙ sym (ap (came_at (avail_index_at q)) some)

both_reads : (m : Memory) (q : Queue) (index entry : Option (List ℕ)) → IsLoadOf m 2 (index_load q index) →
    IsLoadOf m 2 (entry_load q entry) → asks_entry (alone q index) ≡ true →
    ring_reads q (both q index entry) ≡ came_at (avail_index_at q) index ++ came_at (ring_entry_at q) entry
both_reads m q index entry is es asks = by_reach (reach m Read (avail_index_at q) 2) refl
  where
    by_reach : (b : Bool) → reach m Read (avail_index_at q) 2 ≡ b →
        ring_reads q (both q index entry) ≡ came_at (avail_index_at q) index ++ came_at (ring_entry_at q) entry
    by_reach false e =
        let none : index ≡ None = is ∙ (rw e refl) in
        let other = ap asks_entry (index_lost q index none) in
        absurd (cc)
    by_reach true e =
        let a = avail_index_at q in
        let r = ring_entry_at q in
        let bs = bytes m a 2 in
        let some : index ≡ Some bs = is ∙ (rw e refl) in
        let pair = pair_of m a true e in
        let there : IsPair r entry = subst (IsPair r) (sym es) (pair_of m r (reach m Read r 2) refl) in
        let h = holding (index_load q (Some bs) ∷ entry_load q entry ∷ []) in
        let reports =
        entry_reports q bs entry pair.0 pair.1 there (ap (λ (o : Option (List ℕ)). asks_entry (alone q o)) (sym some) ∙ asks) in
        let came : (if is_some entry then addresses r 2 else []) ≡ came_at r entry =
        ap (λ (o : Option (List ℕ)). if is_some o then addresses r 2 else []) es ∙ entry_if (reach m Read r 2) ∙ sym (ap (came_at r) es) in
        let here : ring_reads q (both q (Some bs) entry) ≡ came_at a (Some bs) ++ came_at r entry =
        ap (ring_reads q) reports ∙ said_reads q (is_some entry) (nat_le q.size (number h w16 r)) (number h w16 r)
        ∙ ap (λ (n : ℕ). addresses a n ++ (if is_some entry then addresses r 2 else [])) (sym pair.0)
        ∙ ap (λ (xs : List ℕ). came_at a (Some bs) ++ xs) came in
        subst (λ (o : Option (List ℕ)). ring_reads q (both q o entry) ≡ came_at a o ++ came_at r entry) (sym some) here
      where
        entry_if :
            (b : Bool) → (if is_some (if b then Some (bytes m (ring_entry_at q) 2) else None) then addresses (ring_entry_at q) 2 else [])
            ≡ came_at (ring_entry_at q) (if b then Some (bytes m (ring_entry_at q) 2) else None)
        entry_if true = came_if m (ring_entry_at q) 2 true
        entry_if false = refl

-- what some loads tell of the ring: what waits in the memory, and where it was read
record RingCame (m : Memory) (q : Queue) (index entry : Option (List ℕ)) (w : NextAvail) : Type 0 where
  waits : w ≡ next_avail m q
  reads : ring_reads q w ≡ came_at (avail_index_at q) index ++ came_at (ring_entry_at q) entry

by_ring : (P : NextAvail → Type 0) (entry : Option (List ℕ)) (one two w : NextAvail) (a b c : Bool) → (b ≡ false → entry ≡ None → P one) →
    (b ≡ true → P two) →
    (if not a then None else if not b then without_entry entry one else if not c then None else Some two) ≡ Some w → P w
by_ring P None one two w true false c p s e = let same : one ≡ w = cc in subst P same (p refl refl)
by_ring P entry one two w true true true p s e = let same : two ≡ w = cc in subst P same (s refl)
by_ring P _ one two w _ _ _ p s e = absurd (cc)

ring_came : (m : Memory) (q : Queue) (index entry : Option (List ℕ)) (w : NextAvail) → IsLoadOf m 2 (index_load q index) →
    (asks_entry (alone q index) ≡ true → IsLoadOf m 2 (entry_load q entry)) →
    available_by q index entry ≡ Some w → RingCame m q index entry w
ring_came m q index entry w is es e =
    let in_memory = if reach m Read (ring_entry_at q) 2 then Some (bytes m (ring_entry_at q) 2) else None in
    by_ring (RingCame m q index entry) entry (alone q index) (both q index entry) w (is_whole 2 index) (asks_entry (alone q index))
    (is_whole 2 entry)
    (λ asks none. record {
      waits = (ring_is_still m q index in_memory is refl).alone asks;
      reads = alone_reads m q index is ∙ sym (append-nil (came_at (avail_index_at q) index))
          ∙ ap (λ (o : Option (List ℕ)). came_at (avail_index_at q) index ++ came_at (ring_entry_at q) o) (sym none);
    })
    (λ asks. record { waits = (ring_is_still m q index entry is (es asks)).both; reads = both_reads m q index entry is (es asks) asks }) e

-- ---- the request

no_addresses : (m : Memory) (as' : List ℕ) → (length {A = ℕ} [] == length (map (byte m) as')) ≡ true → as' ≡ []
no_addresses m [] e = refl
no_addresses m (a ∷ as') e =
    let none : length {A = ℕ} [] ≡ length (map (byte m) (a ∷ as')) = eqb-true (length {A = ℕ} []) (length (map (byte m) (a ∷ as'))) e in
    absurd (omega (arith, none))

module _ (m : Memory) (q : Queue) (head : ℕ) (ls : List Load) where
  -- the walk reads where its loads came
  abbrev Walked : Type 0
  Walked = walk_reads m q head ≡ all_came ls

  -- an offer reads so
  abbrev Came : List ℕ → Offer → Type 0
  Came request o = chain_reads m q head o ≡ all_came ls ++ request_came q ls request o

  walk_alone : Walked → walk_reads m q head ≡ all_came ls ++ []
  walk_alone walked = walked ∙ sym (append-nil (all_came ls))

  faulty_came : (request : List ℕ) (why : ChainFault) (o : Offer) → Walked →
      option_map (Offers head) (without_request request (CannotFetch why)) ≡ Some o → Came request o
  faulty_came [] why o walked e = let same : Offers head (CannotFetch why) ≡ o = cc in subst (Came []) same (walk_alone walked)
  faulty_came (b ∷ bs) why o walked e = absurd (cc)

  -- a request of as many bytes as the chain asks for
  request_read : (request : List ℕ) (ds : List Descriptor) (room : List ℕ) → Walked → chain m q head ≡ IsChain ds →
      chain_exactly ls q head ≡ Some (IsChain ds) →
      (length request == length (map (byte m) (addresses_of (readable ds)))) ≡ true → Came request (Offers head (IsRequest request room))
  request_read [] ds room walked is exact len =
      ap (λ (f : Found). walk_reads m q head ++ request_reads f) is
      ∙ ap (λ (xs : List ℕ). walk_reads m q head ++ xs) (no_addresses m (addresses_of (readable ds)) len)
      ∙ ap (λ (xs : List ℕ). xs ++ []) walked
  request_read (b ∷ bs) ds room walked is exact len =
      ap (λ (f : Found). walk_reads m q head ++ request_reads f) is ∙ ap (λ (xs : List ℕ). xs ++ addresses_of (readable ds)) walked
      ∙ ap (λ (o : Option Found). all_came ls ++ request_addresses o) (sym exact)

  whole_came : (request : List ℕ) (ds : List Descriptor) (room : List ℕ) (o : Offer) (c : Bool) → Walked → chain m q head ≡ IsChain ds →
      chain_exactly ls q head ≡ Some (IsChain ds) →
      (length request == length (map (byte m) (addresses_of (readable ds)))) ≡ c →
      option_map (Offers head) (if c then Some (IsRequest request room) else None) ≡ Some o → Came request o
  whole_came request ds room o false walked is exact len e = absurd (cc)
  whole_came request ds room o true walked is exact len e =
      let same : Offers head (IsRequest request room) ≡ o = cc in
      subst (Came request) same (request_read request ds room walked is exact len)

  fetched_came : (request cs : List ℕ) (ds : List Descriptor) (room : List ℕ) (o : Offer) (over lost_request lost_room : Bool) → Walked →
      chain m q head ≡ IsChain ds →
      chain_exactly ls q head ≡ Some (IsChain ds) → cs ≡ map (byte m) (addresses_of (readable ds)) →
      option_map (Offers head)
      (with_request request (if over then CannotFetch OverLimit else if lost_request then CannotFetch RequestUnreachable
      else if lost_room then CannotFetch RoomUnreachable else IsRequest cs room)) ≡ Some o →
      Came request o
  fetched_came request cs ds room o true b c walked is exact same e = faulty_came request OverLimit o walked e
  fetched_came request cs ds room o false true c walked is exact same e = faulty_came request RequestUnreachable o walked e
  fetched_came request cs ds room o false false true walked is exact same e = faulty_came request RoomUnreachable o walked e
  fetched_came request cs ds room o false false false walked is exact same e =
      whole_came request ds room o (length request == length cs) walked is exact
      (ap (λ (xs : List ℕ). length request == length xs) (sym same)) e

  found_came : (limit : ℕ) (request : List ℕ) (f : Found) (o : Offer) → Walked → chain m q head ≡ f → chain_exactly ls q head ≡ Some f →
      with_loaded request (offer_of m limit head f) ≡ Some o → Came request o
  found_came limit request (IsChain ds) o walked is exact e =
      fetched_came request (flat_map (λ d. bytes m d.addr d.len) (readable ds)) ds (flat_map (λ d. addresses d.addr d.len) (writable ds)) o
      (nat_lt limit (total_len (readable ds)) || nat_lt limit (total_len (writable ds))) (not (all_reach m Read (readable ds)))
      (not (all_reach m Write (writable ds))) walked is exact
      (bytes-addresses_of m (readable ds)) e
  found_came limit request (HasFault fault) o walked is exact e = faulty_came request fault o walked e
  found_came limit [] StopsQueue o walked is exact e =
      let same : Refuses stop.DescriptorUnreachable ≡ o = cc in subst (Came []) same (walk_alone walked)
  found_came limit (b ∷ bs) StopsQueue o walked is exact e = absurd (cc)

  -- a return without places, which is told before anything of the chain is read
  refused_came : (request : List ℕ) (e : QueueError) (o : Offer) → chain_reads m q head (Refuses e) ≡ [] →
      without_chain ls request (Refuses e) ≡ Some o → Came request o
  refused_came request e o none is =
      subst (λ (x : Offer). chain_reads m q head x ≡ []) (kept ls request is) none ∙ sym (no_chain q ls request (Refuses e) o is)
    where
      kept : (ks : List Load) (bs : List ℕ) → without_chain ks bs (Refuses e) ≡ Some o → Refuses e ≡ o
      kept [] [] h = cc
      kept [] (b ∷ bs) h = absurd (cc)
      kept (k ∷ ks) bs h = absurd (cc)

-- ---- the offer

first_of : (P : Type 0) (o : Offer) (a b : Bool) (u v x : Option Offer) → (u ≡ Some o → P) → (v ≡ Some o → P) → (x ≡ Some o → P) →
    (if a then u else if b then v else x) ≡ Some o → P
first_of P o true b u v x p s t e = p e
first_of P o false true u v x p s t e = s e
first_of P o false false u v x p s t e = t e

chained :
    {A : Type 0} (g : A → Option Offer) (f : Option A) (o : Offer) → option_and_then g f ≡ Some o → (x : A) × (f ≡ Some x) × (g x ≡ Some o)
chained g None o e = absurd (cc)
chained g (Some x) o e = (x, refl, e)

waiting_came : (m : Memory) (limit : ℕ) (q : Queue) (ls : List Load) (request : List ℕ) (w : NextAvail) (o : Offer) → AreEntriesOf m ls →
    on_waits m limit q ls request w ≡ Some o →
    waiting_reads m q w o ≡ all_came ls ++ request_came q ls request o
waiting_came m limit q ls request avail.Idle o are e = sym (no_chain q ls request Idle o e)
waiting_came m limit q ls request (avail.Refused r) o are e = sym (no_chain q ls request (Refuses r) o e)
waiting_came m limit q ls request (avail.Head head) o are e =
    first_of (chain_reads m q head o ≡ all_came ls ++ request_came q ls request o) o
    (not (reach m Write (element_at q) 8 && reach m Write (index_at q) 2)) (not (reach m Read q.avail 2))
    (without_chain ls request (Refuses stop.UsedUnreachable)) (without_chain ls request (Refuses stop.AvailFlagsUnreachable))
    (option_and_then (λ f. with_loaded request (offer_of m limit head f)) (chain_exactly ls q head))
    (λ h. refused_came m q head ls request stop.UsedUnreachable o refl h)
    (λ h. refused_came m q head ls request stop.AvailFlagsUnreachable o refl h)
    (λ h. let got = chained (λ f. with_loaded request (offer_of m limit head f)) (chain_exactly ls q head) o h in
    found_came m q head ls limit request got.0 o (walks_read m q head ls got.0 are got.1) (sym (still_exactly m q head ls got.0 are got.1))
    got.1 got.2) e

by_stop :
    (b : Bool) (u x : Option Offer) (o : Offer) (reads all : List ℕ) → (u ≡ Some o → [] ≡ all) → (b ≡ false → x ≡ Some o → reads ≡ all) →
    (if b then u else x) ≡ Some o → (if b then [] else reads) ≡ all
by_stop true u x o reads all p s e = p e
by_stop false u x o reads all p s e = s refl e

pub offers_read : OffersReadTheirLoads
offers_read m limit q index entry ls request o are e =
    let i = came_at (avail_index_at q) index in
    let r = came_at (ring_entry_at q) entry in
    by_stop q.stopped (without_loads index entry ls request (Refuses stop.Stopped))
    (option_and_then (on_waits m limit q ls request) (available_by q index entry)) o
    (ring_reads q (next_avail m q) ++ waiting_reads m q (next_avail m q) (offer m limit q))
    (i ++ r ++ all_came ls ++ request_came q ls request o)
    (λ h. no_loads q index entry ls request (Refuses stop.Stopped) o h)
    (λ runs h. let got = chained (on_waits m limit q ls request) (available_by q index entry) o h in
    let ring = ring_came m q index entry got.0 (are.index_is runs) (are.entry_is runs) got.1 in
    ap (λ (w : NextAvail). ring_reads q w ++ waiting_reads m q w (offer m limit q)) (sym ring.waits)
    ∙ ap (λ (x : Offer). ring_reads q got.0 ++ waiting_reads m q got.0 x) (sym (offer_is_still m limit q index entry ls request o are e))
    ∙ ap (λ (xs : List ℕ). xs ++ waiting_reads m q got.0 o) ring.reads
    ∙ ap (λ (xs : List ℕ). i ++ r ++ xs) (waiting_came m limit q ls request got.0 o are.entries_are got.2)
    ∙ sym (append_assoc (i ++ r) (all_came ls) (request_came q ls request o))) e
