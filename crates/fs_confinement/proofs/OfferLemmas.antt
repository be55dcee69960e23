-- what a queue offers depends on the places that are read for it
use Rattle.std.proofs.Common.{◌≡◌, ℕ, zero, suc, ◌+◌, Bool, true, false, ◌&&◌, not, List, [], ◌∷◌, ◌++◌, map, Option, Some, None, refl, ap}
use Rattle.std.proofs.Common.{sym, ◌∙◌, subst}
use Rattle.std.specs.Prelude.{◌-◌, ◌%◌, ◌^◌, ◌==◌, ◌||◌, nat_le, nat_lt, if◌then◌else◌, option_and_then, unwrap_or}
use Rattle.std.specs.Int.{w16, from_le_bytes}
use Rattle.std.specs.List.{flat_map, list_all}
use Rattle.std.proofs.lemmas.Grind.{flat_map-append}
use Rattle.std.proofs.lemmas.Bool.{ltb-true}
use Rattle.vm_iotlb.specs.declared.permissions.Permissions.{Permissions}
use Rattle.vm_iotlb.specs.declared.permissions.Permissions.TheVariants.{Read, Write}
use Rattle.vm_memory_core.specs.Host.{Host, Place, byte_at}
use Rattle.vm_memory.specs.Memory.{Memory, location, addresses, reach, byte, bytes}
use Rattle.fs_queue.specs.declared.fault.ChainFault.TheVariants.{OverLimit, RequestUnreachable, RoomUnreachable}
use Rattle.fs_queue.specs.declared.fault.QueueError.TheVariants as stop
use Rattle.fs_queue.specs.Queue.{Queue, avail_index_at, ring_entry_at, element_at, index_at, waiting, head, has_bit}
use Rattle.fs_queue.specs.NextAvail.{NextAvail, next_avail}
use Rattle.fs_queue.specs.NextAvail as avail
use Rattle.fs_queue.specs.Chain.{Descriptor, Visit, entry_address, WalkStep, walk_step, next_visit, onward, path, walk, first_visit}
use Rattle.fs_queue.specs.Chain.{after_walk_step, Found, IsChain, found, chain}
use Rattle.fs_queue.specs.Loads.{Load, reads_entry}
use Rattle.fs_queue.specs.Taking.{RequestAndRoom, IsRequest, CannotFetch, readable, writable, total_len, all_reach, request_and_room, Offer}
use Rattle.fs_queue.specs.Taking.{Idle, Refuses, Offers, offer_of, on_next_avail, offer, addresses_of}
use Rattle.fs_queue.specs.Returning.{wants_notice}
use Rattle.fs_queue.proofs.LoadLemmas.{step_still}
use Rattle.fs_queue.proofs.StillLemmas.{outside}
use Rattle.fs_confinement.specs.ReadSet.{place_if, places_for, ring_reads, entry_reads, walk_reads, request_reads, chain_reads}
use Rattle.fs_confinement.specs.ReadSet.{waiting_reads, offer_reads}
use Rattle.fs_confinement.specs.Confinement.{without_bytes, AgreeOn}
use Rattle.fs_confinement.proofs.HostLemmas.{agree_front, agree_back, agree_at}

read_where : (g h : Host) (o : Option Place) → AgreeOn g h (place_if o) → option_and_then (byte_at g) o ≡ option_and_then (byte_at h) o
read_where g h None agree = refl
read_where g h (Some p) agree = agree_at g h p agree

-- the tests of an available ring, in their order
ring_same : (t0 t1 r2 t2 u2 : Bool) (hd hd' : ℕ) → (t0 ≡ false → t1 ≡ false → r2 ≡ true → (t2 ≡ u2) × (hd ≡ hd')) →
    ◌≡◌ {A = NextAvail}
    (if t0 then avail.Idle else if t1 then avail.Refused stop.AvailTooFar else if not r2 then avail.Refused stop.RingEntryUnreachable
    else if t2 then avail.Refused stop.HeadOutOfTable else avail.Head hd)
    (if t0 then avail.Idle else if t1 then avail.Refused stop.AvailTooFar else if not r2 then avail.Refused stop.RingEntryUnreachable
    else if u2 then avail.Refused stop.HeadOutOfTable else avail.Head hd')
ring_same false false true t2 u2 hd hd' same =
    let is = same refl refl refl in
    ap (λ (b : Bool). if b then avail.Refused stop.HeadOutOfTable else avail.Head hd) is.0
    ∙ ap (λ (k : ℕ). if u2 then avail.Refused stop.HeadOutOfTable else avail.Head k) is.1
ring_same _ _ _ t2 u2 hd hd' same = refl

module _ (m : Memory) (h : Host) (same : without_bytes m.host ≡ without_bytes h) where
  -- the same memory over the other host
  abbrev n : Memory
  n = record m { host = h }

  -- the places of these addresses have the same bytes in both hosts
  abbrev pub Agree : List ℕ → Type 0
  Agree as' = AgreeOn m.host h (places_for m Read as')

  pub agree-append : (xs ys : List ℕ) → Agree (xs ++ ys) → Agree xs × Agree ys
  agree-append xs ys all =
      let parts : AgreeOn m.host h (places_for m Read xs ++ places_for m Read ys) =
      subst (λ (ps : List Place). AgreeOn m.host h ps) (flat_map-append (λ a. place_if (location m Read a)) xs ys) all in (
        agree_front m.host h (places_for m Read xs) (places_for m Read ys) parts,
        agree_back m.host h (places_for m Read xs) (places_for m Read ys) parts,
      )

  -- ---- bytes

  where_same : (access : Permissions) → location m access ≡ location n access
  where_same access = ap (λ (k : Host). location (record m { host = k }) access) same

  reach_same : (access : Permissions) → reach m access ≡ reach n access
  reach_same access = ap (λ (k : Host). reach (record m { host = k }) access) same

  byte_same : (a : ℕ) → AgreeOn m.host h (place_if (location m Read a)) → byte m a ≡ byte n a
  byte_same a agree =
      ap (λ (o : Option ℕ). unwrap_or o 0) (read_where m.host h (location m Read a) agree)
      ∙ ap (λ (f : ℕ → Option Place). unwrap_or (option_and_then (byte_at h) (f a)) 0) (where_same Read)

  pub bytes_same : (as' : List ℕ) → Agree as' → map (byte m) as' ≡ map (byte n) as'
  bytes_same [] agree = refl
  bytes_same (a ∷ as') agree =
      ap (λ (b : ℕ). b ∷ map (byte m) as') (byte_same a (agree_front m.host h (place_if (location m Read a)) (places_for m Read as') agree))
      ∙ ap (λ (bs : List ℕ). byte n a ∷ bs)
      (bytes_same as' (agree_back m.host h (place_if (location m Read a)) (places_for m Read as') agree))

  -- ---- chains

  -- a step's entry, as it was loaded
  abbrev came : Visit → Option (List ℕ)
  came v = if reach m Read (entry_address v) 16 then Some (bytes m (entry_address v) 16) else None

  entry_same : (v : Visit) → reads_entry v ≡ true → (r : Bool) → reach m Read (entry_address v) 16 ≡ r →
      Agree (if r then addresses (entry_address v) 16 else []) →
      came v ≡ (if reach n Read (entry_address v) 16 then Some (bytes n (entry_address v) 16) else None)
  entry_same v reads true is agree =
      ap (λ (bs : List ℕ). if reach m Read (entry_address v) 16 then Some bs else None) (bytes_same (addresses (entry_address v) 16) agree)
      ∙ ap (λ (f : ℕ → ℕ → Bool). if f (entry_address v) 16 then Some (bytes n (entry_address v) 16) else None) (reach_same Read)
  entry_same v reads false is agree =
      ap (λ (b : Bool). if b then Some (bytes m (entry_address v) 16) else None) is
      ∙ ap (λ (b : Bool). if b then Some (bytes n (entry_address v) 16) else None) (sym is)
      ∙ ap (λ (f : ℕ → ℕ → Bool). if f (entry_address v) 16 then Some (bytes n (entry_address v) 16) else None) (reach_same Read)

  step_same : (size : ℕ) (v : Visit) → Agree (entry_reads m v) → walk_step m size v ≡ walk_step n size v
  step_same size v agree = by_test (reads_entry v) refl agree
    where
      by_test : (b : Bool) → reads_entry v ≡ b → Agree (if b && reach m Read (entry_address v) 16 then addresses (entry_address v) 16
          else []) → walk_step m size v ≡ walk_step n size v
      by_test false is agree = sym (outside m size v is) ∙ outside n size v is
      by_test true is agree =
          let l : Load = record { address = entry_address v; came = came v } in
          let inside = ltb-true v.index v.table.entries is in
          sym (step_still m size v l inside refl refl)
          ∙ step_still n size v l inside refl (entry_same v is (reach m Read (entry_address v) 16) refl agree)

  path_same : (size k : ℕ) (v : Visit) → Agree (flat_map (entry_reads m) (path m size k v)) → path m size k v ≡ path n size k v
  unfolding path
  path_same size zero v agree = refl
  path_same size (suc k) v agree =
      let parts = agree-append (entry_reads m v)
      (flat_map (entry_reads m) (onward (path m size k) (next_visit v (walk_step m size v)))) agree in
      ap (λ (vs : List Visit). v ∷ vs) (on (λ u. path_same size k u) (next_visit v (walk_step m size v)) parts.1)
      ∙ ap (λ (w : WalkStep). v ∷ onward (path n size k) (next_visit v w)) (step_same size v parts.0)
    where
      on : ((u : Visit) → Agree (flat_map (entry_reads m) (path m size k u)) → path m size k u ≡ path n size k u) →
          (o : Option Visit) → Agree (flat_map (entry_reads m) (onward (path m size k) o)) →
          onward (path m size k) o ≡ onward (path n size k) o
      on each None agree = refl
      on each (Some u) agree = each u agree

  found_same : (size : ℕ) (vs : List Visit) → Agree (flat_map (entry_reads m) vs) → found m size vs ≡ found n size vs
  unfolding found
  found_same size [] agree = refl
  found_same size (v ∷ vs) agree =
      let parts = agree-append (entry_reads m v) (flat_map (entry_reads m) vs) agree in
      ap (λ (w : WalkStep). after_walk_step w (found m size vs)) (step_same size v parts.0)
      ∙ ap (after_walk_step (walk_step n size v)) (found_same size vs parts.1)

  walk_same : (q : Queue) (hd : ℕ) → Agree (walk_reads m q hd) → walk m q hd ≡ walk n q hd
  walk_same q hd agree = path_same q.size (q.size + 2) (first_visit q hd) agree

  chain_same : (q : Queue) (hd : ℕ) → Agree (walk_reads m q hd) → chain m q hd ≡ chain n q hd
  chain_same q hd agree = found_same q.size (walk m q hd) agree ∙ ap (found n q.size) (walk_same q hd agree)

  -- the walk reads the same there
  walk_reads_same : (q : Queue) (hd : ℕ) → Agree (walk_reads m q hd) → walk_reads m q hd ≡ walk_reads n q hd
  walk_reads_same q hd agree =
      ap (λ (f : ℕ → ℕ → Bool). flat_map (λ v. if reads_entry v && f (entry_address v) 16 then addresses (entry_address v) 16 else [])
      (walk m q hd)) (reach_same Read)
      ∙ ap (flat_map (entry_reads n)) (walk_same q hd agree)

  -- ---- rings

  index_read : (q : Queue) (t0 t1 r2 t2 : Bool) (hd : ℕ) →
      Agree (ring_reads q
      (if t0 then avail.Idle else if t1 then avail.Refused stop.AvailTooFar else if not r2 then avail.Refused stop.RingEntryUnreachable
      else if t2 then avail.Refused stop.HeadOutOfTable else avail.Head hd)) →
      Agree (addresses (avail_index_at q) 2)
  index_read q false false true true hd agree = (agree-append (addresses (avail_index_at q) 2) (addresses (ring_entry_at q) 2) agree).0
  index_read q false false true false hd agree = (agree-append (addresses (avail_index_at q) 2) (addresses (ring_entry_at q) 2) agree).0
  index_read q _ _ _ t2 hd agree = agree

  entry_read : (q : Queue) (t0 t1 r2 t2 : Bool) (hd : ℕ) → t0 ≡ false → t1 ≡ false → r2 ≡ true →
      Agree (ring_reads q
      (if t0 then avail.Idle else if t1 then avail.Refused stop.AvailTooFar else if not r2 then avail.Refused stop.RingEntryUnreachable
      else if t2 then avail.Refused stop.HeadOutOfTable else avail.Head hd)) →
      Agree (addresses (ring_entry_at q) 2)
  entry_read q false false true true hd none near there agree =
      (agree-append (addresses (avail_index_at q) 2) (addresses (ring_entry_at q) 2) agree).1
  entry_read q false false true false hd none near there agree =
      (agree-append (addresses (avail_index_at q) 2) (addresses (ring_entry_at q) 2) agree).1
  entry_read q _ _ _ t2 hd none near there agree = absurd (cc)

  -- what waits, by the tests of the index, the entry and the memory in which they are looked for
  abbrev waits_so : (r1 : Bool) → (waiting : ℕ) → (r2 : Bool) → (head : ℕ) → Queue → NextAvail
  waits_so r1 w r2 hd q =
      if not r1 then avail.Refused stop.AvailIndexUnreachable
      else if w == 0 then avail.Idle
      else if nat_lt q.size w then avail.Refused stop.AvailTooFar
      else if not r2 then avail.Refused stop.RingEntryUnreachable
      else if nat_le q.size hd then avail.Refused stop.HeadOutOfTable
      else avail.Head hd

  next_so : (q : Queue) (r1 : Bool) → Agree (ring_reads q (waits_so r1 (waiting m q) (reach m Read (ring_entry_at q) 2) (head m q) q)) →
      waits_so r1 (waiting m q) (reach m Read (ring_entry_at q) 2) (head m q) q
      ≡ waits_so r1 (waiting n q) (reach m Read (ring_entry_at q) 2) (head n q) q
  next_so q false agree = refl
  next_so q true agree =
      let r2 = reach m Read (ring_entry_at q) 2 in
      let w = waiting m q in
      let index = index_read q (w == 0) (nat_lt q.size w) r2 (nat_le q.size (head m q)) (head m q) agree in
      let same_waiting : waiting m q ≡ waiting n q =
      ap (λ (bs : List ℕ). (from_le_bytes w16 bs + (2 ^ 16 - q.position)) % 2 ^ 16) (bytes_same (addresses (avail_index_at q) 2) index) in
      let same_head : (w == 0) ≡ false → nat_lt q.size w ≡ false → r2 ≡ true → head m q ≡ head n q = λ none near there.
      ap (from_le_bytes w16) (bytes_same (addresses (ring_entry_at q) 2)
      (entry_read q (w == 0) (nat_lt q.size w) r2 (nat_le q.size (head m q)) (head m q) none near there agree)) in
      ring_same (w == 0) (nat_lt q.size w) r2 (nat_le q.size (head m q)) (nat_le q.size (head n q)) (head m q) (head n q)
      (λ none near there. let is = same_head none near there in (ap (nat_le q.size) is, is))
      ∙ ap (λ (k : ℕ). waits_so true k r2 (head n q) q) same_waiting

  next_same : (q : Queue) → Agree (ring_reads q (next_avail m q)) → next_avail m q ≡ next_avail n q
  next_same q agree =
      next_so q (reach m Read (avail_index_at q) 2) agree
      ∙ ap (λ (f : ℕ → ℕ → Bool). waits_so (f (avail_index_at q) 2) (waiting n q) (f (ring_entry_at q) 2) (head n q) q) (reach_same Read)

  -- ---- offers

  -- what is fetched, by the tests of the chain
  abbrev fetched_so : (over reads writes : Bool) (request room : List ℕ) → RequestAndRoom
  fetched_so over reads writes request room =
      if over then CannotFetch OverLimit else if not reads then CannotFetch RequestUnreachable
      else if not writes then CannotFetch RoomUnreachable else IsRequest request room

  -- the bytes of a request
  flat_bytes :
      (ds : List Descriptor) → Agree (addresses_of ds) → flat_map (λ d. bytes m d.addr d.len) ds ≡ flat_map (λ d. bytes n d.addr d.len) ds
  flat_bytes [] agree = refl
  flat_bytes (d ∷ ds) agree =
      let parts = agree-append (addresses d.addr d.len) (addresses_of ds) agree in
      ap (λ (bs : List ℕ). bs ++ flat_map (λ d. bytes m d.addr d.len) ds) (bytes_same (addresses d.addr d.len) parts.0)
      ∙ ap (λ (bs : List ℕ). bytes n d.addr d.len ++ bs) (flat_bytes ds parts.1)

  request_so : (q : Queue) (hd : ℕ) (over reads writes : Bool) (bs cs room : List ℕ) → (Agree (request_reads (chain m q hd)) → bs ≡ cs) →
      Agree (chain_reads m q hd (Offers hd (fetched_so over reads writes bs room))) →
      fetched_so over reads writes bs room ≡ fetched_so over reads writes cs room
  request_so q hd false true true bs cs room same agree =
      ap (λ (r : List ℕ). IsRequest r room) (same (agree-append (walk_reads m q hd) (request_reads (chain m q hd)) agree).1)
  request_so q hd _ _ _ bs cs room same agree = refl

  fetched_same : (q : Queue) (hd limit : ℕ) (ds : List Descriptor) → chain m q hd ≡ IsChain ds →
      Agree (chain_reads m q hd (Offers hd (request_and_room m limit ds))) →
      request_and_room m limit ds ≡ request_and_room n limit ds
  fetched_same q hd limit ds is agree =
      let over = nat_lt limit (total_len (readable ds)) || nat_lt limit (total_len (writable ds)) in
      let room = flat_map (λ d. addresses d.addr d.len) (writable ds) in
      let cs = flat_map (λ d. bytes n d.addr d.len) (readable ds) in
      request_so q hd over (all_reach m Read (readable ds)) (all_reach m Write (writable ds))
      (flat_map (λ d. bytes m d.addr d.len) (readable ds)) cs room
      (λ asked. flat_bytes (readable ds) (subst (λ (f : Found). Agree (request_reads f)) is asked)) agree
      ∙ ap (λ (f : ℕ → ℕ → Bool). fetched_so over (list_all (λ d. f d.addr d.len) (readable ds)) (all_reach m Write (writable ds)) cs room)
      (reach_same Read)
      ∙ ap (λ (f : ℕ → ℕ → Bool). fetched_so over (all_reach n Read (readable ds)) (list_all (λ d. f d.addr d.len) (writable ds)) cs room)
      (reach_same Write)

  offer_of_same : (q : Queue) (hd limit : ℕ) (f : Found) → chain m q hd ≡ f → Agree (chain_reads m q hd (offer_of m limit hd f)) →
      offer_of m limit hd f ≡ offer_of n limit hd f
  offer_of_same q hd limit (IsChain ds) is agree = ap (Offers hd) (fetched_same q hd limit ds is agree)
  offer_of_same q hd limit _ is agree = refl

  walk_fetched : (q : Queue) (hd : ℕ) (r : RequestAndRoom) → Agree (chain_reads m q hd (Offers hd r)) → Agree (walk_reads m q hd)
  walk_fetched q hd (IsRequest request room) agree = (agree-append (walk_reads m q hd) (request_reads (chain m q hd)) agree).0
  walk_fetched q hd (CannotFetch why) agree = agree

  -- whatever a walk finds, it was read
  walk_read : (q : Queue) (hd limit : ℕ) (f : Found) → Agree (chain_reads m q hd (offer_of m limit hd f)) → Agree (walk_reads m q hd)
  walk_read q hd limit (IsChain ds) agree = walk_fetched q hd (request_and_room m limit ds) agree
  walk_read q hd limit _ agree = agree

  -- by whether a return lacks the places to be written, or the flags
  abbrev head_so : (k : Memory) → (limit : ℕ) → Queue → (hd : ℕ) → (used flags : Bool) → Offer
  head_so k limit q hd used flags =
      if used then Refuses stop.UsedUnreachable else if flags then Refuses stop.AvailFlagsUnreachable
      else offer_of k limit hd (chain k q hd)

  head_same : (limit : ℕ) (q : Queue) (hd : ℕ) (used flags : Bool) → Agree (chain_reads m q hd (head_so m limit q hd used flags)) →
      head_so m limit q hd used flags ≡ head_so n limit q hd used flags
  head_same limit q hd false false agree =
      offer_of_same q hd limit (chain m q hd) refl agree
      ∙ ap (offer_of n limit hd) (chain_same q hd (walk_read q hd limit (chain m q hd) agree))
  head_same limit q hd _ _ agree = refl

  waits_same : (limit : ℕ) (q : Queue) (w : NextAvail) → Agree (waiting_reads m q w (on_next_avail m limit q w)) →
      on_next_avail m limit q w ≡ on_next_avail n limit q w
  waits_same limit q (avail.Head hd) agree =
      head_same limit q hd (not (reach m Write (element_at q) 8 && reach m Write (index_at q) 2)) (not (reach m Read q.avail 2)) agree
      ∙ ap (λ (f : ℕ → ℕ → Bool). head_so n limit q hd (not (f (element_at q) 8 && f (index_at q) 2)) (not (reach m Read q.avail 2)))
      (reach_same Write)
      ∙ ap (λ (f : ℕ → ℕ → Bool). head_so n limit q hd (not (reach n Write (element_at q) 8 && reach n Write (index_at q) 2))
      (not (f q.avail 2))) (reach_same Read)
  waits_same limit q _ agree = refl

  -- what is read by an offer is read by it over the other host
  chain_reads_same : (q : Queue) (hd : ℕ) (o : Offer) → Agree (chain_reads m q hd o) → chain_reads m q hd o ≡ chain_reads n q hd o
  chain_reads_same q hd (Offers k (IsRequest request room)) agree =
      let parts = agree-append (walk_reads m q hd) (request_reads (chain m q hd)) agree in
      ap (λ (xs : List ℕ). xs ++ request_reads (chain m q hd)) (walk_reads_same q hd parts.0)
      ∙ ap (λ (f : Found). walk_reads n q hd ++ request_reads f) (chain_same q hd parts.0)
  chain_reads_same q hd (Offers k (CannotFetch why)) agree = walk_reads_same q hd agree
  chain_reads_same q hd (Refuses stop.DescriptorUnreachable) agree = walk_reads_same q hd agree
  chain_reads_same q hd _ agree = refl

  waiting_reads_same :
      (q : Queue) (w : NextAvail) (o : Offer) → Agree (waiting_reads m q w o) → waiting_reads m q w o ≡ waiting_reads n q w o
  waiting_reads_same q (avail.Head hd) o agree = chain_reads_same q hd o agree
  waiting_reads_same q _ o agree = refl

  abbrev offer_so : (k : Memory) → (limit : ℕ) → Queue → Bool → Offer
  offer_so k limit q stopped = if stopped then Refuses stop.Stopped else on_next_avail k limit q (next_avail k q)

  by_stop : (limit : ℕ) (q : Queue) (b : Bool) →
      Agree (if b then [] else ring_reads q (next_avail m q) ++ waiting_reads m q (next_avail m q) (offer_so m limit q b)) →
      offer_so m limit q b ≡ offer_so n limit q b
  by_stop limit q true agree = refl
  by_stop limit q false agree =
      let parts = agree-append (ring_reads q (next_avail m q))
      (waiting_reads m q (next_avail m q) (on_next_avail m limit q (next_avail m q))) agree in
      waits_same limit q (next_avail m q) parts.1 ∙ ap (on_next_avail n limit q) (next_same q parts.0)

  -- the same is offered
  pub offer_same : (limit : ℕ) (q : Queue) → Agree (offer_reads m limit q) → offer m limit q ≡ offer n limit q
  unfolding offer
  offer_same limit q agree = by_stop limit q q.stopped agree

  reads_so : (limit : ℕ) (q : Queue) (b : Bool) → offer m limit q ≡ offer n limit q →
      Agree (if b then [] else ring_reads q (next_avail m q) ++ waiting_reads m q (next_avail m q) (offer m limit q)) →
      (if b then [] else ring_reads q (next_avail m q) ++ waiting_reads m q (next_avail m q) (offer m limit q))
      ≡ (if b then [] else ring_reads q (next_avail n q) ++ waiting_reads n q (next_avail n q) (offer n limit q))
  reads_so limit q true is agree = refl
  reads_so limit q false is agree =
      let parts = agree-append (ring_reads q (next_avail m q)) (waiting_reads m q (next_avail m q) (offer m limit q)) agree in
      let next = next_same q parts.0 in
      ap (λ (xs : List ℕ). ring_reads q (next_avail m q) ++ xs) (waiting_reads_same q (next_avail m q) (offer m limit q) parts.1)
      ∙ ap (λ (w : NextAvail). ring_reads q w ++ waiting_reads n q w (offer m limit q)) next
      ∙ ap (λ (o : Offer). ring_reads q (next_avail n q) ++ waiting_reads n q (next_avail n q) o) is

  -- and the same is read for it
  pub offer_reads_same : (limit : ℕ) (q : Queue) → Agree (offer_reads m limit q) → offer_reads m limit q ≡ offer_reads n limit q
  offer_reads_same limit q agree = reads_so limit q q.stopped (offer_same limit q agree) agree

  -- whether the driver wants to be told
  pub notice_same : (q : Queue) → Agree (addresses q.avail 2) → wants_notice m q ≡ wants_notice n q
  notice_same q agree = ap (λ (bs : List ℕ). not (has_bit (from_le_bytes w16 bs) 0)) (bytes_same (addresses q.avail 2) agree)
