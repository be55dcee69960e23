-- the descriptors of one direction, one at a time, and what a queue offers by its parts
use mathlib.Core.Bool.{beq}
use Rattle.std.proofs.Common.{◌≡◌, ℕ, Bool, true, false, ◌+◌, ◌^◌, ◌<◌, ◌≤◌, ◌&&◌, ◌||◌, ◌++◌, not, nat_lt, List, [], ◌∷◌, drop, map}
use Rattle.std.proofs.Common.{filter, length, refl, ap, sym}
use Rattle.std.proofs.Common.{◌∙◌, arith, suc, Option, Some, None, append-nil, append_assoc, length-append}
use Rattle.std.specs.Prelude.{if◌then◌else◌, is_some, Ok}
use Rattle.std.specs.List.{list_all, flat_map}
use Rattle.std.specs.Option.{option_map, option_and_then}
use Rattle.std.proofs.lemmas.List.{map-append, drop_all}
use Rattle.std.proofs.lemmas.List.Elements.{All-filter}
use Rattle.std.proofs.lemmas.List.Sums.{sum_by-cons}
use Rattle.std.proofs.lemmas.Bool.Decides.{nat_tests}
use Rattle.std.proofs.Math.Bool.{and_assoc}
use Rattle.vm_memory_core.specs.Host.{Place}
use Rattle.vm_memory_core.specs.Window.{AllLieIn}
use Rattle.vm_iotlb.specs.declared.permissions.Permissions.{Permissions}
use Rattle.vm_iotlb.specs.declared.permissions.Permissions.TheVariants.{Read, Write}
use Rattle.vm_memory_core.specs.Window.{byte_in}
use Rattle.vm_memory.specs.Memory.{Memory, addresses, located, location, after, reach, byte, bytes}
use Rattle.fs_queue.specs.declared.chain.Chain.{Chain}
use Rattle.fs_queue.specs.declared.fault.ChainFault.TheVariants.{OverLimit, RequestUnreachable, RoomUnreachable}
use Rattle.fs_queue.specs.WalkingView.{AllEndIn64Bits}
use Rattle.fs_queue.specs.Taking.{readable, writable, total_len, all_reach, request_and_room, chain_fault, IsRequest, of_direction}
use Rattle.fs_queue.specs.Taking.{addresses_of}
use Rattle.fs_queue.specs.Queue.{Queue, element_at, index_at}
use Rattle.fs_queue.specs.Chain.{Descriptor, is_writable, IsChain}
use Rattle.fs_queue.specs.Windows.{used_addresses, room_places, HoldsChain, HoldsWindows}
use Rattle.vm_memory.proofs.Places.{Where, addresses-append, length-addresses, located-append, after-after, bytes-located}
use Rattle.vm_memory.proofs.RangeLemmas.{all_located}

parts : (o : Option Place) (r : Option (List Place)) (ps : List Place) →
    option_and_then (λ (p : Place). option_map (λ (qs : List Place). p ∷ qs) r) o ≡ Some ps →
    (p : Place) × (qs : List Place) × (o ≡ Some p) × (r ≡ Some qs) × (ps ≡ p ∷ qs)
parts (Some p) (Some qs) ps e = (p, qs, refl, refl, cc)
parts _ _ ps e = absurd (cc)

-- each address has one place
pub length-located : (xs : List ℕ) (f : Where) (ps : List Place) → located f xs ≡ Some ps → length ps ≡ length xs
unfolding located
length-located [] f ps e = let none : [] ≡ ps = cc in ap length (sym none)
length-located (x ∷ xs) f ps e =
    let s = parts (f x) (located f xs) ps e in
    ap length s.4 ∙ ap suc (length-located xs f s.1 s.3)

pub length-range : (n a : ℕ) (f : Where) (ps : List Place) → located f (addresses a n) ≡ Some ps → length ps ≡ n
length-range n a f ps e = length-located (addresses a n) f ps e ∙ length-addresses n a

-- what a return writes besides the reply has ten bytes
pub length-used : (m : Memory) (q : Queue) (ps : List Place) → located (location m Write) (used_addresses q) ≡ Some ps → length ps ≡ 10
length-used m q ps e =
    let element = length-addresses 8 (element_at q) in
    let index = length-addresses 2 (index_at q) in
    length-located (used_addresses q) (location m Write) ps e ∙ length-append (addresses (element_at q) 8) (addresses (index_at q) 2)
    ∙ omega (arith, element, index)

pub none_lies : (lengths : List ℕ) → AllLieIn lengths []
unfolding AllLieIn
none_lies lengths k d h = absurd (omega arith)

pub after_missing : (o : Option (List Place)) → after [] o ≡ None → o ≡ None
after_missing None e = refl
after_missing (Some ps) e = absurd (cc)

pub after_empty : (o : Option (List Place)) (ps : List Place) → after [] o ≡ Some ps → o ≡ Some ps
after_empty None ps e = absurd (cc)
after_empty (Some qs) ps e = e

-- ---- one direction

same_bool : (w b : Bool) → beq w b ≡ true → w ≡ b
same_bool true false e = absurd (cc)
same_bool false true e = absurd (cc)
same_bool _ _ e = refl

other_bool : (w b : Bool) → beq w b ≡ false → w ≡ not b
other_bool true false e = refl
other_bool false true e = refl
other_bool _ _ e = absurd (cc)

direction-kept :
    (b : Bool) (d : Descriptor) (ds : List Descriptor) → beq (is_writable d) b ≡ true → of_direction b (d ∷ ds) ≡ d ∷ of_direction b ds
direction-kept true d ds e = rw (same_bool (is_writable d) true e)
direction-kept false d ds e = rw (same_bool (is_writable d) false e)

direction-other :
    (b : Bool) (d : Descriptor) (ds : List Descriptor) → beq (is_writable d) b ≡ false → of_direction b (d ∷ ds) ≡ of_direction b ds
direction-other true d ds e = rw (other_bool (is_writable d) true e)
direction-other false d ds e = rw (other_bool (is_writable d) false e)

lost_step :
    (o : Option Place) (r s : Option (List Place)) → option_and_then (λ (p : Place). option_map (λ (qs : List Place). p ∷ qs) r) o ≡ None →
    (r ≡ None → s ≡ None) → option_and_then (λ (p : Place). option_map (λ (qs : List Place). p ∷ qs) s) o ≡ None
lost_step None r s e h = refl
lost_step (Some p) None s e h = rw (h refl)
lost_step (Some p) (Some qs) s e h = absurd (cc)

pub located-lost : (xs ys : List ℕ) (f : Where) → located f xs ≡ None → located f (xs ++ ys) ≡ None
unfolding located
located-lost [] ys f e = absurd (cc)
located-lost (x ∷ xs) ys f e = lost_step (f x) (located f xs) (located f (xs ++ ys)) e (located-lost xs ys f)

after_found : (o : Option (List Place)) (xs ys : List ℕ) (f : Where) (old new : List Place) → located f xs ≡ o → after old o ≡ Some new →
    after old (located f (xs ++ ys)) ≡ after new (located f ys)
after_found None xs ys f old new h e = absurd (cc)
after_found (Some ps) xs ys f old new h e =
    let is : old ++ ps ≡ new = cc in
    ap (after old) (located-append xs ys f ps h) ∙ after-after (located f ys) old ps ∙ ap (λ (l : List Place). after l (located f ys)) is

after_lost : (o : Option (List Place)) (xs ys : List ℕ) (f : Where) (old : List Place) → located f xs ≡ o → after old o ≡ None →
    after old (located f (xs ++ ys)) ≡ None
after_lost None xs ys f old h e = ap (after old) (located-lost xs ys f h)
after_lost (Some ps) xs ys f old h e = absurd (cc)

-- a range grows by the addresses that follow it
pub range_grown : (f : Where) (start len addr n : ℕ) (rest : List ℕ) (old : List Place) → start + len ≡ addr →
    after old (located f (addresses start len ++ (addresses addr n ++ rest))) ≡ after old (located f (addresses start (len + n) ++ rest))
range_grown f start len addr n rest old follows =
    let joined : addresses start (len + n) ≡ addresses start len ++ addresses addr n =
    addresses-append len n start ∙ ap (λ x. addresses start len ++ addresses x n) follows in
    ap (λ (l : List ℕ). after old (located f l)) (sym (append_assoc (addresses start len) (addresses addr n) rest)
    ∙ ap (λ (l : List ℕ). l ++ rest) (sym joined))

-- a range whose windows were added makes room for another
pub range_added :
    (f : Where) (xs ys : List ℕ) (old new : List Place) (found : Bool) → after old (located f xs) ≡ (if found then Some new else None) →
    after old (located f (xs ++ ys)) ≡ (if found then after new (located f ys) else None)
range_added f xs ys old new true e = after_found (located f xs) xs ys f old new refl e
range_added f xs ys old new false e = after_lost (located f xs) xs ys f old refl e

-- a descriptor of the direction comes next
pub direction_next : (f : Where) (b : Bool) (ds : List Descriptor) (i : ℕ) (d : Descriptor) (xs : List ℕ) (old : List Place) →
    drop i ds ≡ d ∷ drop (i + 1) ds → beq (is_writable d) b ≡ true →
    after old (located f (xs ++ addresses_of (of_direction b (drop i ds))))
    ≡ after old (located f (xs ++ (addresses d.addr d.len ++ addresses_of (of_direction b (drop (i + 1) ds)))))
direction_next f b ds i d xs old next kept =
    ap (λ (l : List Descriptor). after old (located f (xs ++ addresses_of l)))
    (ap (of_direction b) next ∙ direction-kept b d (drop (i + 1) ds) kept)

-- one of the other direction does
pub direction_other : (f : Where) (b : Bool) (ds : List Descriptor) (i : ℕ) (d : Descriptor) (xs : List ℕ) (old : List Place) →
    drop i ds ≡ d ∷ drop (i + 1) ds → beq (is_writable d) b ≡ false →
    after old (located f (xs ++ addresses_of (of_direction b (drop i ds))))
    ≡ after old (located f (xs ++ addresses_of (of_direction b (drop (i + 1) ds))))
direction_other f b ds i d xs old next other =
    ap (λ (l : List Descriptor). after old (located f (xs ++ addresses_of l)))
    (ap (of_direction b) next ∙ direction-other b d (drop (i + 1) ds) other)

direction-end : (b : Bool) (ds : List Descriptor) (i : ℕ) → length ds ≤ i → addresses_of (of_direction b (drop i ds)) ≡ []
direction-end true ds i h = rw (drop_all i ds h) refl
direction-end false ds i h = rw (drop_all i ds h) refl

-- the end of the list
pub direction_done : (f : Where) (b : Bool) (ds : List Descriptor) (i : ℕ) (xs : List ℕ) (old : List Place) → length ds ≤ i →
    after old (located f (xs ++ addresses_of (of_direction b (drop i ds)))) ≡ after old (located f xs)
direction_done f b ds i xs old h =
    ap (λ (l : List ℕ). after old (located f l)) (ap (λ (l : List ℕ). xs ++ l) (direction-end b ds i h) ∙ append-nil xs)

pub after-none : (o : Option (List Place)) → after [] o ≡ o
after-none None = refl
after-none (Some ps) = refl

-- its beginning, if no range was begun
pub direction_begun : (f : Where) (xs : List ℕ) → after [] (located f (addresses 0 0 ++ xs)) ≡ located f xs
unfolding addresses
direction_begun f xs = after-none (located f xs)

-- ---- the request and the room of a chain

pub fits_filter : (p : Descriptor → Bool) (ds : List Descriptor) → AllEndIn64Bits ds → AllEndIn64Bits (filter p ds)
unfolding AllEndIn64Bits
fits_filter p ds all = All-filter p (λ (d : Descriptor). d.addr + d.len < 2 ^ 64) ds all

pub list_all-append : (xs ys : List ℕ) (f : Where) →
    (list_all (λ a. is_some (f a)) xs && list_all (λ a. is_some (f a)) ys) ≡ list_all (λ a. is_some (f a)) (xs ++ ys)
list_all-append [] ys f = refl
list_all-append (x ∷ xs) ys f = and_assoc (is_some (f x)) (list_all (λ a. is_some (f a)) xs) (list_all (λ a. is_some (f a)) ys)
    ∙ ap (λ b. is_some (f x) && b) (list_all-append xs ys f)

pub below : (n : ℕ) → n < 2 ^ 64 → nat_lt n (2 ^ 64) ≡ true
below n h = grind (arith, nat_tests)

-- a range that ends below 2^64
pub reach-each : (m : Memory) (access : Permissions) (a n : ℕ) → a + n < 2 ^ 64 →
    reach m access a n ≡ list_all (λ x. is_some (location m access x)) (addresses a n)
reach-each m access a n fits = rw (below (a + n) fits) refl

pub reach-range : (m : Memory) (access : Permissions) (a n : ℕ) → a + n < 2 ^ 64 →
    reach m access a n ≡ is_some (located (location m access) (addresses a n))
reach-range m access a n fits = rw (below (a + n) fits) (all_located (addresses a n) (location m access))

all_reach_list : (m : Memory) (access : Permissions) (ds : List Descriptor) → AllEndIn64Bits ds →
    all_reach m access ds ≡ list_all (λ a. is_some (location m access a)) (addresses_of ds)
unfolding AllEndIn64Bits
all_reach_list m access [] all = refl
all_reach_list m access (d ∷ ds) all =
    let here : reach m access d.addr d.len ≡ list_all (λ a. is_some (location m access a)) (addresses d.addr d.len) =
    rw (below (d.addr + d.len) (all 0 d (omega arith))) in
    rw (here, all_reach_list m access ds (λ k x lt. all (suc k) x (omega arith)))
    (list_all-append (addresses d.addr d.len) (addresses_of ds) (location m access))

-- all of some descriptors are reached where their addresses have their places
pub all_reach-located : (m : Memory) (access : Permissions) (ds : List Descriptor) → AllEndIn64Bits ds →
    all_reach m access ds ≡ is_some (located (location m access) (addresses_of ds))
all_reach-located m access ds all = all_reach_list m access ds all ∙ all_located (addresses_of ds) (location m access)

pub bytes-addresses_of : (m : Memory) (ds : List Descriptor) → flat_map (λ d. bytes m d.addr d.len) ds ≡ map (byte m) (addresses_of ds)
bytes-addresses_of m [] = refl
bytes-addresses_of m (d ∷ ds) = ap (λ (r : List ℕ). bytes m d.addr d.len ++ r) (bytes-addresses_of m ds)
    ∙ sym (map-append (byte m) (addresses d.addr d.len) (addresses_of ds))

pub length-addresses_of : (ds : List Descriptor) → length (addresses_of ds) ≡ total_len ds
length-addresses_of [] = refl
length-addresses_of (d ∷ ds) =
    let all = sum_by-cons (λ (x : Descriptor). x.len) d ds in
    let rest = length-addresses_of ds in
    let front = length-addresses d.len d.addr in
    length-append (addresses d.addr d.len) (addresses_of ds) ∙ omega (arith, front, rest, all)

-- by whether the places of a direction were found
pub found_all : (m : Memory) (access : Permissions) (ds : List Descriptor) (found : Bool) (ps : List Place) → AllEndIn64Bits ds →
    located (location m access) (addresses_of ds) ≡ (if found then Some ps else None) → all_reach m access ds ≡ found
found_all m access ds true ps all e = all_reach-located m access ds all ∙ ap is_some e
found_all m access ds false ps all e = all_reach-located m access ds all ∙ ap is_some e

by_tests : (over r w : Bool) → true ≡ not (is_some (if over then Some OverLimit else if not r then Some RequestUnreachable
    else if not w then Some RoomUnreachable else None)) →
    (over ≡ false) × (r ≡ true) × (w ≡ true)
by_tests false true true none = (refl, refl, refl)
by_tests _ _ _ none = absurd (cc)

-- what a chain without a fault passed
no_fault : (m : Memory) (limit : ℕ) (ds : List Descriptor) → true ≡ not (is_some (chain_fault m limit ds)) →
    ((nat_lt limit (total_len (readable ds)) || nat_lt limit (total_len (writable ds))) ≡ false) × (all_reach m Read (readable ds) ≡ true)
    × (all_reach m Write (writable ds) ≡ true)
no_fault m limit ds none = by_tests (nat_lt limit (total_len (readable ds)) || nat_lt limit (total_len (writable ds)))
    (all_reach m Read (readable ds)) (all_reach m Write (writable ds)) none

fetched_all : (m : Memory) (limit : ℕ) (ds : List Descriptor) (ps : List Place) → true ≡ not (is_some (chain_fault m limit ds)) →
    located (location m Read) (addresses_of (readable ds)) ≡ Some ps →
    request_and_room m limit ds ≡ IsRequest (map (byte_in m.host) ps) (addresses_of (writable ds))
fetched_all m limit ds ps none found =
    let request : flat_map (λ d. bytes m d.addr d.len) (readable ds) ≡ map (byte_in m.host) ps =
    bytes-addresses_of m (readable ds) ∙ bytes-located (addresses_of (readable ds)) m ps found in
    let passed = no_fault m limit ds none in
    rw (passed.0, passed.1, passed.2) (ap (λ (x : List ℕ). IsRequest x (addresses_of (writable ds))) request)

-- how many places a direction has
pub length-direction :
    (f : Where) (ds : List Descriptor) (ps : List Place) → Some ps ≡ located f (addresses_of ds) → length ps ≡ total_len ds
length-direction f ds ps e = length-located (addresses_of ds) f ps (sym e) ∙ length-addresses_of ds

-- what is fetched of a chain that has its windows and no fault
pub holds_fetched : (m : Memory) (limit : ℕ) (ds : List Descriptor) (head : ℕ) (c : Chain) → true ≡ not (is_some (chain_fault m limit ds)) →
    HoldsWindows m head (Ok c) (IsChain ds) →
    HoldsChain m (request_and_room m limit ds) (Ok c)
holds_fetched m limit ds head c none h = rw (fetched_all m limit ds _ none h.1) (refl, h.2)

at_most : (limit n : ℕ) (other : Bool) → (other || nat_lt limit n) ≡ false → n ≤ limit
at_most limit n true e = absurd (cc)
at_most limit n false e = grind (arith, nat_tests)

pub room_within : (m : Memory) (limit : ℕ) (ds : List Descriptor) (head : ℕ) (c : Chain) → true ≡ not (is_some (chain_fault m limit ds)) →
    HoldsWindows m head (Ok c) (IsChain ds) →
    room_places (Ok c) ≤ limit
room_within m limit ds head c none h =
    let w = length-direction (location m Write) (writable ds) _ (sym h.2) in
    let most = at_most limit (total_len (writable ds)) (nat_lt limit (total_len (readable ds))) (no_fault m limit ds none).0 in
    omega (arith, w, most)
