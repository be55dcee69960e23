-- an available ring by the loads of its index and of its entry
use Rattle.std.proofs.Common.{◌≡◌, ℕ, Bool, true, false, zero, suc, ◌+◌, ◌-◌, ◌%◌, ◌^◌, ◌<◌, ◌≤◌, List, [], ◌∷◌, length, Option, Some, None}
use Rattle.std.proofs.Common.{refl, ap, sym, ◌∙◌, arith}
use Rattle.std.specs.Prelude.{is_some, if◌then◌else◌, nat_lt, nat_le, not, ◌==◌, ◌&&◌, slice_get}
use Rattle.std.specs.Int.{w16, from_le_bytes}
use Rattle.std.specs.List.{list_all}
use Rattle.std.proofs.lemmas.Bool.{and_parts, ltb-true}
use Rattle.std.proofs.lemmas.Bool.Decides.{nat_tests}
use Rattle.std.proofs.lemmas.List.{take_all}
use Rattle.vm_iotlb.specs.declared.permissions.Permissions.TheVariants.{Read}
use Rattle.vm_iotlb.specs.Table.{is_within}
use Rattle.vm_memory_core.specs.Host.{Place, Block}
use Rattle.vm_memory_core.specs.Window.{span}
use Rattle.vm_memory_core.proofs.Stores.{bytes_in-span}
use Rattle.vm_memory.specs.Layout.{Region, place}
use Rattle.vm_memory.specs.Memory.{Memory, addresses, bytes, located, location, number, reach}
use Rattle.vm_memory.proofs.Places.{located_run, bytes-located, within_false}
use Rattle.fs_queue.specs.declared.fault.QueueError.TheVariants.{AvailIndexUnreachable, AvailTooFar, RingEntryUnreachable, HeadOutOfTable}
use Rattle.fs_queue.specs.Queue.{Queue, avail_index_at, ring_entry_at}
use Rattle.fs_queue.specs.NextAvail.{NextAvail, Idle, Head, Refused, next_avail}
use Rattle.fs_queue.specs.Loads.{holding, index_load, entry_load, asks_entry, IsLoadOf, RingStill, RingIsStill}
use Rattle.fs_queue.specs.RingingView.{Stage, HasResult}
use Rattle.fs_queue.proofs.ReadLemmas.{length-bytes}
use Rattle.fs_queue.proofs.TakeLemmas.{reach-range}

-- ---- what is held by a region that others may follow

abbrev place_of : ℕ → ℕ → Place
place_of block offset = record { block = block; offset = offset; io = None }

within : (start size a : ℕ) → start ≤ a → a < start + size → is_within start size a ≡ true
within start size a low high = grind (arith, nat_tests)

first_at : (r : Region) (rest : List Region) (a : ℕ) → r.start ≤ a → a < r.start + r.size →
    place (r ∷ rest) a ≡ Some (record { block = r.block; offset = a - r.start; io = None })
unfolding place
first_at r rest a low high = rw (within r.start r.size a low high) refl

past_at : (r : Region) (rest : List Region) (a : ℕ) → r.start + r.size ≤ a → place (r ∷ rest) a ≡ place rest a
unfolding place
past_at r rest a past = rw (within_false r a (λ _. past)) refl

-- the places of a region's addresses, where it stands first
located_first :
    (r : Region) (rest : List Region) → located (place (r ∷ rest)) (addresses r.start r.size) ≡ Some (span r.block 0 None r.size)
located_first r rest =
    located_run r.size (place (r ∷ rest)) r.start r.block 0 (λ k h.
    let e : r.start + k - r.start ≡ 0 + k = omega arith in
    first_at r rest (r.start + k) (omega arith) (omega (arith, h)) ∙ ap (λ n. Some (place_of r.block n)) e)

-- those of addresses past a region
located_past : (r : Region) (rest : List Region) (n a : ℕ) → r.start + r.size ≤ a →
    located (place (r ∷ rest)) (addresses a n) ≡ located (place rest) (addresses a n)
unfolding located addresses
located_past r rest zero a past = refl
located_past r rest (suc n) a past = rw (past_at r rest a past, located_past r rest n (a + 1) (omega (arith, past))) refl

-- ---- what an available ring tells

abbrev next_of : Queue → (index_there : Bool) → (waiting : ℕ) → (entry_there : Bool) → (head : ℕ) → NextAvail
next_of q b w c h =
    if not b then Refused AvailIndexUnreachable
    else if w == 0 then Idle
    else if nat_lt q.size w then Refused AvailTooFar
    else if not c then Refused RingEntryUnreachable
    else if nat_le q.size h then Refused HeadOutOfTable
    else Head h

next_by : (q : Queue) (b c : Bool) (i j e f : List ℕ) → (b ≡ true → i ≡ j) → (c ≡ true → e ≡ f) →
    next_of q b ((from_le_bytes w16 i + (2 ^ 16 - q.position)) % 2 ^ 16) c (from_le_bytes w16 e)
    ≡ next_of q b ((from_le_bytes w16 j + (2 ^ 16 - q.position)) % 2 ^ 16) c (from_le_bytes w16 f)
next_by q false c i j e f p s = refl
next_by q true false i j e f p s =
    ap (λ (l : List ℕ). next_of q true ((from_le_bytes w16 l + (2 ^ 16 - q.position)) % 2 ^ 16) false (from_le_bytes w16 e)) (p refl) ∙
    refl
next_by q true true i j e f p s =
    ap (λ (l : List ℕ). next_of q true ((from_le_bytes w16 l + (2 ^ 16 - q.position)) % 2 ^ 16) true (from_le_bytes w16 e)) (p refl)
    ∙ ap (λ (l : List ℕ). next_of q true ((from_le_bytes w16 j + (2 ^ 16 - q.position)) % 2 ^ 16) true (from_le_bytes w16 l)) (s refl)

abbrev pub pick : (b z far : Bool) → NextAvail → NextAvail
pick b z far rest = if not b then Refused AvailIndexUnreachable else if z then Idle else if far then Refused AvailTooFar else rest

picked : (b z far : Bool) (rest : NextAvail) → asks_entry (pick b z far (Refused RingEntryUnreachable)) ≡ false →
    pick b z far (Refused RingEntryUnreachable) ≡ pick b z far rest
picked true false false rest e = absurd (cc)
picked _ _ _ rest e = refl

-- where the entry isn't asked for it makes no difference
next_alone : (q : Queue) (b c : Bool) (h k w : ℕ) → asks_entry (next_of q b w false h) ≡ false
    → next_of q b w false h ≡ next_of q b w c k
next_alone q b c h k w e =
    picked b (w == 0) (nat_lt q.size w) (if not c then Refused RingEntryUnreachable else if nat_le q.size k then Refused HeadOutOfTable
    else Head k) e

-- memories that have the same there tell the same
same_avail : (h m : Memory) (q : Queue) → reach h Read (avail_index_at q) 2 ≡ reach m Read (avail_index_at q) 2 →
    reach h Read (ring_entry_at q) 2 ≡ reach m Read (ring_entry_at q) 2 →
    (reach m Read (avail_index_at q) 2 ≡ true → bytes h (avail_index_at q) 2 ≡ bytes m (avail_index_at q) 2) →
    (reach m Read (ring_entry_at q) 2 ≡ true → bytes h (ring_entry_at q) 2 ≡ bytes m (ring_entry_at q) 2) → next_avail h q ≡ next_avail m q
same_avail h m q r1 r2 p s =
    let w = (number h w16 (avail_index_at q) + (2 ^ 16 - q.position)) % 2 ^ 16 in
    let e = number h w16 (ring_entry_at q) in
    ap (λ b. next_of q b w (reach h Read (ring_entry_at q) 2) e) r1
    ∙ ap (λ c. next_of q (reach m Read (avail_index_at q) 2) w c e) r2
    ∙ next_by q (reach m Read (avail_index_at q) 2) (reach m Read (ring_entry_at q) 2) (bytes h (avail_index_at q) 2)
    (bytes m (avail_index_at q) 2)
    (bytes h (ring_entry_at q) 2) (bytes m (ring_entry_at q) 2) p s

same_alone : (h m : Memory) (q : Queue) → reach h Read (avail_index_at q) 2 ≡ reach m Read (avail_index_at q) 2 →
    reach h Read (ring_entry_at q) 2 ≡ false →
    (reach m Read (avail_index_at q) 2 ≡ true → bytes h (avail_index_at q) 2 ≡ bytes m (avail_index_at q) 2) →
    asks_entry (next_avail h q) ≡ false → next_avail h q ≡ next_avail m q
same_alone h m q r1 r2 p asks =
    let w = (number h w16 (avail_index_at q) + (2 ^ 16 - q.position)) % 2 ^ 16 in
    let e = number h w16 (ring_entry_at q) in
    let here : next_avail h q ≡ next_of q (reach m Read (avail_index_at q) 2) w false e =
    ap (λ b. next_of q b w (reach h Read (ring_entry_at q) 2) e) r1 ∙ ap (λ c. next_of q (reach m Read (avail_index_at q) 2) w c e) r2 in
    here ∙ next_alone q (reach m Read (avail_index_at q) 2) (reach m Read (ring_entry_at q) 2) e (number m w16 (ring_entry_at q)) w
    (ap asks_entry (sym here) ∙ asks)
    ∙ next_by q (reach m Read (avail_index_at q) 2) (reach m Read (ring_entry_at q) 2) (bytes h (avail_index_at q) 2)
    (bytes m (avail_index_at q) 2)
    (bytes m (ring_entry_at q) 2) (bytes m (ring_entry_at q) 2) p (λ _. refl)

-- ---- a memory of the two loads

-- what a memory has at a load
record Has (h : Memory) (a : ℕ) (came : Option (List ℕ)) : Type 0 where
  there : reach h Read a 2 ≡ is_some came
  same : (bs : List ℕ) → came ≡ Some bs → bytes h a 2 ≡ bs

-- a load of two bytes
abbrev pub IsPair : ℕ → Option (List ℕ) → Type 0
IsPair a None = Unit {0}
IsPair a (Some bs) = (length bs ≡ 2) × (a + 2 < 2 ^ 64)

never : (b : Bool) → (b && false) ≡ false
never true = refl
never false = refl

has_none : (h : Memory) (a : ℕ) → location h Read a ≡ None → Has h a None
unfolding addresses
has_none h a lost = record { there = rw lost (never (nat_lt (a + 2) (2 ^ 64))); same = λ bs e. absurd (cc) }

has_some : (h : Memory) (a block : ℕ) (bs : List ℕ) (k : Block) → length bs ≡ 2 → a + 2 < 2 ^ 64 →
    located (location h Read) (addresses a (length bs)) ≡ Some (span block 0 None (length bs)) →
    slice_get h.host.blocks block ≡ Some k → k.bytes ≡ bs → Has h a (Some bs)
has_some h a block bs k len fits there at is =
    let two : located (location h Read) (addresses a 2) ≡ Some (span block 0 None 2) =
    ap (λ n. located (location h Read) (addresses a n)) (sym len) ∙ there ∙ ap (λ n. Some (span block 0 None n)) len in
    let size : length k.bytes ≡ 2 = ap length is ∙ len in
    record {
      there = reach-range h Read a 2 fits ∙ ap is_some two;
      same = λ cs e. bytes-located (addresses a 2) h (span block 0 None 2) two
          ∙ bytes_in-span h.host block 2 0 None k at (omega (arith, size)) ∙ take_all 2 k.bytes (omega (arith, size)) ∙ is ∙ (cc);
    }

abbrev region : ℕ → ℕ → List ℕ → Region
region block a bs = record { start = a; size = length bs; block = block }

before : (r : Region) (a : ℕ) → a < r.start → place (r ∷ []) a ≡ None
unfolding place
before r a low = rw (within_false r a (λ from. absurd (omega (arith, low, from)))) refl

past : (r : Region) (a : ℕ) → r.start + r.size ≤ a → place (r ∷ []) a ≡ None
unfolding place
past r a high = rw (within_false r a (λ _. high)) refl

-- of two loads, the second past the first
abbrev two_loads : (a b : ℕ) (i e : Option (List ℕ)) → Memory
two_loads a b i e = holding (record { address = a; came = i } ∷ record { address = b; came = e } ∷ [])

has_first : (a b : ℕ) (i e : Option (List ℕ)) → IsPair a i → IsPair b e → a + 2 ≤ b → Has (two_loads a b i e) a i
unfolding place
has_first a b None None pi pe past = has_none _ a refl
has_first a b None (Some cs) pi pe past = has_none _ a (before (region 1 b cs) a (omega (arith, past)))
has_first a b (Some bs) None pi pe past = has_some _ a 0 bs _ pi.0 pi.1 (located_first (region 0 a bs) []) refl refl
has_first a b (Some bs) (Some cs) pi pe past = has_some _ a 0 bs _ pi.0 pi.1 (located_first (region 0 a bs) (region 1 b cs ∷ [])) refl refl

has_second : (a b : ℕ) (i e : Option (List ℕ)) → IsPair a i → IsPair b e → a + 2 ≤ b → Has (two_loads a b i e) b e
unfolding place
has_second a b None None pi pe apart = has_none _ b refl
has_second a b None (Some cs) pi pe apart = has_some _ b 1 cs _ pe.0 pe.1 (located_first (region 1 b cs) []) refl refl
has_second a b (Some bs) None pi pe apart = let len = pi.0 in has_none _ b (past (region 0 a bs) b (omega (arith, len, apart)))
has_second a b (Some bs) (Some cs) pi pe apart =
    let len = pi.0 in
    has_some _ b 1 cs _ pe.0 pe.1 (located_past (region 0 a bs) (region 1 b cs ∷ []) (length cs) b (omega (arith, len, apart))
    ∙ located_first (region 1 b cs) []) refl refl

-- one load, and nothing past it
has_one : (a : ℕ) (i : Option (List ℕ)) → IsPair a i → Has (holding (record { address = a; came = i } ∷ [])) a i
unfolding place
has_one a None pi = has_none _ a refl
has_one a (Some bs) pi = has_some _ a 0 bs _ pi.0 pi.1 (located_first (region 0 a bs) []) refl refl

lacks_past : (a b : ℕ) (i : Option (List ℕ)) → IsPair a i → a + 2 ≤ b → Has (holding (record { address = a; came = i } ∷ [])) b None
unfolding place
lacks_past a b None pi apart = has_none _ b refl
lacks_past a b (Some bs) pi apart = let len = pi.0 in has_none _ b (past (region 0 a bs) b (omega (arith, len, apart)))

-- ---- loads that found what a memory has

from_memory : (m : Memory) (a : ℕ) (b : Bool) → reach m Read a 2 ≡ b → IsPair a (if b then Some (bytes m a 2) else None)
from_memory m a true e = (
  length-bytes m a 2,
  ltb-true (a + 2) (2 ^ 64) (and_parts (nat_lt (a + 2) (2 ^ 64)) (list_all (λ x. is_some (location m Read x)) (addresses a 2)) e).0,
)
from_memory m a false e = tt

reached : (m : Memory) (a : ℕ) (b : Bool) → is_some (if b then Some (bytes m a 2) else None) ≡ b
reached m a true = refl
reached m a false = refl

ring_still_at : (m : Memory) (q : Queue) (i e : Option (List ℕ)) →
    i ≡ (if reach m Read (avail_index_at q) 2 then Some (bytes m (avail_index_at q) 2) else None) →
    e ≡ (if reach m Read (ring_entry_at q) 2 then Some (bytes m (ring_entry_at q) 2) else None) → RingStill m q i e
ring_still_at m q i e is es =
    let a = avail_index_at q in
    let b = ring_entry_at q in
    let apart : a + 2 ≤ b = omega arith in
    let pi : IsPair a i = rw is (from_memory m a (reach m Read a 2) refl) in
    let pe : IsPair b e = rw es (from_memory m b (reach m Read b 2) refl) in
    let one = has_one a i pi in
    let lacks = lacks_past a b i pi apart in
    let first = has_first a b i e pi pe apart in
    let second = has_second a b i e pi pe apart in
    let ri : is_some i ≡ reach m Read a 2 = ap is_some is ∙ reached m a (reach m Read a 2) in
    let re : is_some e ≡ reach m Read b 2 = ap is_some es ∙ reached m b (reach m Read b 2) in
    record {
      alone = λ asks. same_alone (holding (index_load q i ∷ [])) m q (one.there ∙ ri) lacks.there
          (λ t. one.same (bytes m a 2) (is ∙ (rw t refl))) asks;
      both = same_avail (holding (index_load q i ∷ entry_load q e ∷ [])) m q (first.there ∙ ri) (second.there ∙ re)
          (λ t. first.same (bytes m a 2) (is ∙ (rw t refl)))
          (λ t. second.same (bytes m b 2) (es ∙ (rw t refl)));
    }

pub ring_is_still : RingIsStill
ring_is_still m q i e is es = ring_still_at m q i e is es

-- ---- what the code answers

pub index_lost : (q : Queue) (i : Option (List ℕ)) → i ≡ None → next_avail (holding (index_load q i ∷ [])) q ≡ Refused AvailIndexUnreachable
index_lost q i is =
    let one = has_one (avail_index_at q) i (rw is tt) in
    rw (one.there ∙ ap is_some is) refl

pub index_reports : (q : Queue) (i : Option (List ℕ)) (bs : List ℕ) (n w : ℕ) → i ≡ Some bs → length bs ≡ 2 → avail_index_at q + 2 < 2 ^ 64
    → n ≡ from_le_bytes w16 bs →
    w ≡ (n + (2 ^ 16 - q.position)) % 2 ^ 16 →
    next_avail (holding (index_load q i ∷ [])) q ≡ pick true (w == 0) (nat_lt q.size w) (Refused RingEntryUnreachable)
index_reports q i bs n w is len fits n-is w-is =
    let a = avail_index_at q in
    let h = holding (index_load q i ∷ []) in
    let pair : IsPair a i = rw is (len, fits) in
    let one = has_one a i pair in
    let lacks = lacks_past a (ring_entry_at q) i pair (omega arith) in
    let read : number h w16 a ≡ n = ap (from_le_bytes w16) (one.same bs is) ∙ sym n-is in
    let wait : (number h w16 a + (2 ^ 16 - q.position)) % 2 ^ 16 ≡ w = ap (λ x. (x + (2 ^ 16 - q.position)) % 2 ^ 16) read ∙ sym w-is in
    ap (λ b. next_of q b ((number h w16 a + (2 ^ 16 - q.position)) % 2 ^ 16) (reach h Read (ring_entry_at q) 2)
    (number h w16 (ring_entry_at q))) (one.there ∙ ap is_some is)
    ∙ ap (λ c. next_of q true ((number h w16 a + (2 ^ 16 - q.position)) % 2 ^ 16) c (number h w16 (ring_entry_at q))) lacks.there
    ∙ ap (λ x. pick true (x == 0) (nat_lt q.size x) (Refused RingEntryUnreachable)) wait

asked : (z far : Bool) (rest : NextAvail) → asks_entry (pick true z far (Refused RingEntryUnreachable)) ≡ true → pick true z far rest ≡ rest
asked false false rest e = refl
asked _ _ rest e = absurd (cc)

abbrev pub entry_shows : Queue → Bool → ℕ → NextAvail
entry_shows q c n = if not c then Refused RingEntryUnreachable else if nat_le q.size n then Refused HeadOutOfTable else Head n

pub entry_reports :
    (q : Queue) (bs : List ℕ) (e : Option (List ℕ)) → length bs ≡ 2 → avail_index_at q + 2 < 2 ^ 64 → IsPair (ring_entry_at q) e →
    asks_entry (next_avail (holding (index_load q (Some bs) ∷ [])) q) ≡ true →
    let h = holding (index_load q (Some bs) ∷ entry_load q e ∷ []) in
    next_avail h q ≡ entry_shows q (is_some e) (number h w16 (ring_entry_at q))
entry_reports q bs e len fits pe asks =
    let a = avail_index_at q in
    let h = holding (index_load q (Some bs) ∷ entry_load q e ∷ []) in
    let first = has_first a (ring_entry_at q) (Some bs) e (len, fits) pe (omega arith) in
    let second = has_second a (ring_entry_at q) (Some bs) e (len, fits) pe (omega arith) in
    let w = (from_le_bytes w16 bs + (2 ^ 16 - q.position)) % 2 ^ 16 in
    let index = index_reports q (Some bs) bs (from_le_bytes w16 bs) w refl len fits refl refl in
    ap (λ b. next_of q b ((number h w16 a + (2 ^ 16 - q.position)) % 2 ^ 16) (reach h Read (ring_entry_at q) 2)
    (number h w16 (ring_entry_at q))) first.there
    ∙ ap (λ c. next_of q true ((number h w16 a + (2 ^ 16 - q.position)) % 2 ^ 16) c (number h w16 (ring_entry_at q))) second.there
    ∙ ap (λ (l : List ℕ). next_of q true ((from_le_bytes w16 l + (2 ^ 16 - q.position)) % 2 ^ 16) (is_some e)
    (number h w16 (ring_entry_at q)))
    (first.same bs refl)
    ∙ asked (w == 0) (nat_lt q.size w) (entry_shows q (is_some e) (number h w16 (ring_entry_at q))) (ap asks_entry (sym index) ∙ asks)

pub entry_read : (q : Queue) (bs cs : List ℕ) (n : ℕ) → length bs ≡ 2 → avail_index_at q + 2 < 2 ^ 64 → length cs ≡ 2 →
    ring_entry_at q + 2 < 2 ^ 64 → n ≡ from_le_bytes w16 cs →
    number (holding (index_load q (Some bs) ∷ entry_load q (Some cs) ∷ [])) w16 (ring_entry_at q) ≡ n
entry_read q bs cs n len fits len' fits' is =
    ap (from_le_bytes w16)
    ((has_second (avail_index_at q) (ring_entry_at q) (Some bs) (Some cs) (len, fits) (len', fits') (omega arith)).same cs refl) ∙ sym is

-- what the code tells of a memory whose index asks for the entry
pub asked_next :
    (m : Memory) (q : Queue) (i e : Option (List ℕ)) (stage : Stage) → IsLoadOf m 2 (index_load q i) → IsLoadOf m 2 (entry_load q e) →
    asks_entry (next_avail (holding (index_load q i ∷ [])) q) ≡ true →
    ((bs : List ℕ) → length bs ≡ 2 → asks_entry (next_avail (holding (index_load q (Some bs) ∷ [])) q) ≡ true →
    stage ≡ HasResult (next_avail (holding (index_load q (Some bs) ∷ entry_load q e ∷ [])) q)) →
    stage ≡ HasResult (next_avail m q)
asked_next m q i e stage is es asks reports =
    by_reach (reach m Read (avail_index_at q) 2) refl
  where
    by_reach : (b : Bool) → reach m Read (avail_index_at q) 2 ≡ b → stage ≡ HasResult (next_avail m q)
    by_reach false r =
        let none : i ≡ None = is ∙ (rw r refl) in
        let other = ap asks_entry (index_lost q i none) in
        absurd (cc)
    by_reach true r =
        let came : i ≡ Some (bytes m (avail_index_at q) 2) = is ∙ (rw r refl) in
        let pair = from_memory m (avail_index_at q) true r in
        let still = ring_is_still m q (Some (bytes m (avail_index_at q) 2)) e (rw r refl) es in
        reports (bytes m (avail_index_at q) 2) pair.0
        (ap (λ (o : Option (List ℕ)). asks_entry (next_avail (holding (index_load q o
        ∷ [])) q)) (sym came) ∙ asks) ∙ ap HasResult still.both
