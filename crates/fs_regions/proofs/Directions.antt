-- the bytes of one direction, from one on
use Rattle.std.proofs.Common.{◌≡◌, ℕ, zero, suc, Bool, true, false, ◌+◌, ◌-◌, ◌<◌, ◌≤◌, ◌^◌, ◌++◌, List, [], ◌∷◌, take, drop, length}
use Rattle.std.proofs.Common.{Option, Some, None, refl, ap, sym, subst, ◌∙◌, append_assoc, arith, get_or}
use Rattle.std.specs.Prelude.{is_some, nat_lt, min, IfSome}
use Rattle.std.specs.List.{list_all}
use Rattle.std.proofs.lemmas.Bool.{and_parts}
use Rattle.std.proofs.lemmas.List.Sums.{sum_by-cons, sum_by_push}
use mathlib.Core.Bool.{beq}
use Rattle.vm_memory_core.specs.Host.{Place}
use Rattle.vm_memory_core.specs.Window.{Window}
use Rattle.vm_memory.specs.Memory.{addresses, located, location, reach}
use Rattle.vm_memory.specs.Slices.{IsWindowAt}
use Rattle.vm_memory.proofs.Places.{addresses-append, length-addresses}
use Rattle.fs_queue.specs.Chain.{Descriptor, is_writable}
use Rattle.fs_queue.specs.Taking.{all_reach, total_len, access_of, addresses_of, of_direction}
use Rattle.fs_regions.specs.Places.{Mapped, left_in, places_in}
use Rattle.fs_regions.specs.Windows.{HasNoWindowFrom, IsByteOf, IsWindowFrom}

abbrev kept : Bool → Descriptor → List Descriptor → List Descriptor
kept true d ds = d ∷ ds
kept false d ds = ds

by_bit : (b w : Bool) (d : Descriptor) (ds : List Descriptor) → is_writable d ≡ w →
    of_direction b (d ∷ ds) ≡ kept (beq w b) d (of_direction b ds)
by_bit true true d ds is = rw is refl
by_bit true false d ds is = rw is refl
by_bit false true d ds is = rw is refl
by_bit false false d ds is = rw is refl

direction : (b x : Bool) (d : Descriptor) (ds : List Descriptor) → beq (is_writable d) b ≡ x →
    of_direction b (d ∷ ds) ≡ kept x d (of_direction b ds)
direction b x d ds is = by_bit b (is_writable d) d ds refl ∙ ap (λ (y : Bool). kept y d (of_direction b ds)) is

-- so many bytes of the descriptors that are left are still to be skipped: they begin with the bytes from one on, and have places if all
-- have; the others come before
pub record Skips (l : Mapped) (b : Bool) (ds : List Descriptor) (from skip : ℕ) (rest : List Descriptor) : Type 0 where
  pub below : skip ≤ from
  pub count : from - skip + total_len (of_direction b rest) ≡ total_len (of_direction b ds)
  pub bytes : drop from (addresses_of (of_direction b ds)) ≡ drop skip (addresses_of (of_direction b rest))
  pub there :
      all_reach (places_in l) (access_of b) (of_direction b ds) ≡ true → all_reach (places_in l) (access_of b) (of_direction b rest) ≡ true
  pub front : (before : List Descriptor) × (of_direction b ds ≡ before ++ of_direction b rest) × (from ≡ total_len before + skip)

pub skips_begin : (l : Mapped) (b : Bool) (ds : List Descriptor) (from : ℕ) → Skips l b ds from from ds
skips_begin l b ds from = record { below = omega arith; count = omega arith; bytes = refl; there = λ h. h; front = ([], refl, omega arith) }

pub skips_other : (l : Mapped) (b : Bool) (ds : List Descriptor) (from skip : ℕ) (d : Descriptor) (rest : List Descriptor) →
    beq (is_writable d) b ≡ false →
    Skips l b ds from skip (d ∷ rest) → Skips l b ds from skip rest
skips_other l b ds from skip d rest other s =
    let same = direction b false d rest other in
    record {
      below = s.below;
      count = rw same at s.count;
      bytes = rw same at s.bytes;
      there = rw same at s.there;
      front = rw same at s.front;
    }

-- bytes behind those that are skipped
drop_front : (xs ys : List ℕ) (k : ℕ) → length xs ≤ k → drop k (xs ++ ys) ≡ drop (k - length xs) ys
drop_front [] ys k long = ap (λ n. drop n ys) (omega arith)
drop_front (x ∷ xs) ys zero long = absurd (omega (arith, long))
drop_front (x ∷ xs) ys (suc k) long = drop_front xs ys k (omega (arith, long)) ∙ ap (λ n. drop n ys) (omega arith)

all_tail :
    (p : Descriptor → Bool) (d : Descriptor) (ds : List Descriptor) → list_all p (d ∷ ds) ≡ true → (p d ≡ true) × (list_all p ds ≡ true)
all_tail p d ds all = and_parts (p d) (list_all p ds) all

pub skips_on : (l : Mapped) (b : Bool) (ds : List Descriptor) (from skip : ℕ) (d : Descriptor) (rest : List Descriptor) →
    beq (is_writable d) b ≡ true →
    d.len ≤ skip → Skips l b ds from skip (d ∷ rest) →
    Skips l b ds from (skip - d.len) rest
skips_on l b ds from skip d rest this long s =
    let same = direction b true d rest this in
    let count : from - skip + total_len (d ∷ of_direction b rest) ≡ total_len (of_direction b ds) = rw same at s.count in
    let bytes : drop from (addresses_of (of_direction b ds)) ≡ drop skip (addresses_of (d ∷ of_direction b rest)) = rw same at s.bytes in
    let there = rw same at s.there in
    let sum = sum_by-cons (λ (x : Descriptor). x.len) d (of_direction b rest) in
    let len = length-addresses d.len d.addr in
    let below = s.below in
    let front : (before : List Descriptor) × (of_direction b ds ≡ before ++ d ∷ of_direction b rest) × (from ≡ total_len before + skip) =
    rw same at s.front in
    let more = sum_by_push (λ (x : Descriptor). x.len) front.0 d in
    let behind = front.2 in
    record {
      below = omega (arith, below);
      count = omega (arith, count, sum, below, long);
      front = (front.0 ++ d ∷ [], front.1 ∙ sym (append_assoc front.0 (d ∷ []) (of_direction b rest)), omega (arith, more, behind, long));
      bytes = bytes ∙ drop_front (addresses d.addr d.len) (addresses_of (of_direction b rest)) skip (omega (arith, len, long))
          ∙ ap (λ n. drop (skip - n) (addresses_of (of_direction b rest))) len;
      there = λ h. (all_tail (λ e. reach (places_in l) (access_of b) e.addr e.len) d (of_direction b rest) (there h)).1;
    }

-- where the next byte stands, if the first descriptor that is left has it
pub stands : (l : Mapped) (b : Bool) (ds : List Descriptor) (from skip : ℕ) (d : Descriptor) (rest : List Descriptor) →
    beq (is_writable d) b ≡ true → skip < d.len →
    Skips l b ds from skip (d ∷ rest) → IsByteOf (of_direction b ds) from d skip
stands l b ds from skip d rest this less s =
    let front : (before : List Descriptor) × (of_direction b ds ≡ before ++ d ∷ of_direction b rest) × (from ≡ total_len before + skip) =
    rw (direction b true d rest this) at s.front in
    (front.0, of_direction b rest, front.1, front.2, less)

take_front : (xs ys : List ℕ) (n : ℕ) → length xs ≡ n → take n (xs ++ ys) ≡ xs
take_front [] ys zero long = refl
take_front (x ∷ xs) ys (suc n) long = ap (λ (l : List ℕ). x ∷ l) (take_front xs ys n (omega (arith, long)))
take_front _ ys _ long = absurd (omega (arith, long))

part : (a k n r : ℕ) (more : List ℕ) → take n (drop k (addresses a (k + (n + r)) ++ more)) ≡ addresses (a + k) n
part a k n r more =
    let cut : addresses a (k + (n + r)) ≡ addresses a k ++ (addresses (a + k) n ++ addresses (a + k + n) r) = addresses-append k (n + r) a
    ∙ ap (λ (l : List ℕ). addresses a k ++ l) (addresses-append n r (a + k)) in
    let len_k = length-addresses k a in
    ap (λ (l : List ℕ). take n (drop k (l ++ more))) cut
    ∙ ap (λ (l : List ℕ). take n (drop k l)) (append_assoc (addresses a k) (addresses (a + k) n ++ addresses (a + k + n) r) more)
    ∙ ap (take n) (drop_front (addresses a k) ((addresses (a + k) n ++ addresses (a + k + n) r) ++ more) k (omega (arith, len_k)))
    ∙ ap (λ j. take n (drop j ((addresses (a + k) n ++ addresses (a + k + n) r) ++ more))) (none_left k (length (addresses a k)) len_k)
    ∙ ap (take n) (append_assoc (addresses (a + k) n) (addresses (a + k + n) r) more)
    ∙ take_front (addresses (a + k) n) (addresses (a + k + n) r ++ more) n (length-addresses n (a + k))
  where
    none_left : (i j : ℕ) → j ≡ i → i - j ≡ 0
    none_left i j same = omega (arith, same)

-- the addresses that a descriptor has from the byte on that is skipped to
pub range_of : (l : Mapped) (b : Bool) (ds : List Descriptor) (from skip : ℕ) (d : Descriptor) (rest : List Descriptor)
    → beq (is_writable d) b ≡ true → skip < d.len
    → Skips l b ds from skip (d ∷ rest)
    → take (d.len - skip) (drop from (addresses_of (of_direction b ds))) ≡ addresses (d.addr + skip) (d.len - skip)
range_of l b ds from skip d rest this less s =
    let same = direction b true d rest this in
    let bytes : drop from (addresses_of (of_direction b ds)) ≡ drop skip (addresses_of (d ∷ of_direction b rest)) = rw same at s.bytes in
    let whole : d.len ≡ skip + (d.len - skip + 0) = omega (arith, less) in
    ap (take (d.len - skip)) bytes
    ∙ ap (λ n. take (d.len - skip) (drop skip (addresses d.addr n ++ addresses_of (of_direction b rest)))) whole
    ∙ part d.addr skip (d.len - skip) 0 (addresses_of (of_direction b rest))

pub window_of : (l : Mapped) (b : Bool) (ds : List Descriptor) (from skip : ℕ) (d : Descriptor) (rest : List Descriptor) (w : Window) →
    beq (is_writable d) b ≡ true → skip < d.len → Skips l b ds from skip (d ∷ rest) →
    IsWindowAt (location (places_in l) (access_of b)) (d.addr + skip) (d.len - skip) w →
    w.len ≡ min (d.len - skip) (left_in (places_in l) (d.addr + skip)) → IsWindowFrom l b ds from w
window_of l b ds from skip d rest w this less s at longest =
    let same = direction b true d rest this in
    let count : from - skip + total_len (d ∷ of_direction b rest) ≡ total_len (of_direction b ds) = rw same at s.count in
    let bytes : drop from (addresses_of (of_direction b ds)) ≡ drop skip (addresses_of (d ∷ of_direction b rest)) = rw same at s.bytes in
    let sum = sum_by-cons (λ (x : Descriptor). x.len) d (of_direction b rest) in
    let below = s.below in
    let most = at.1 in
    let whole : d.len ≡ skip + (w.len + (d.len - skip - w.len)) = omega (arith, most, less) in
    let cut : take w.len (drop from (addresses_of (of_direction b ds))) ≡ addresses (d.addr + skip) w.len =
    ap (take w.len) bytes
    ∙ ap (λ n. take w.len (drop skip (addresses d.addr n ++ addresses_of (of_direction b rest)))) whole
    ∙ part d.addr skip w.len (d.len - skip - w.len) (addresses_of (of_direction b rest)) in (
      at.0,
      omega (arith, count, sum, below, most, less),
      ap (located (location (places_in l) (access_of b))) cut ∙ at.3,
      d,
      skip,
      stands l b ds from skip d rest this less s,
      longest,
    )

-- an address of a range that is reached has a place
placed : (n a k : ℕ) (p : ℕ → Bool) → list_all p (addresses a n) ≡ true → k < n → p (a + k) ≡ true
unfolding addresses
placed zero a k p all less = absurd (omega (arith, less))
placed (suc n) a zero p all less = ap p (omega arith) ∙ (and_parts (p a) (list_all p (addresses (a + 1) n)) all).0
placed (suc n) a (suc k) p all less =
    ap p (omega arith) ∙ placed n (a + 1) k p (and_parts (p a) (list_all p (addresses (a + 1) n)) all).1 (omega (arith, less))

reached : (l : Mapped) (b : Bool) (ds : List Descriptor) (from skip : ℕ) (d : Descriptor) (rest : List Descriptor) →
    beq (is_writable d) b ≡ true → Skips l b ds from skip (d ∷ rest) →
    all_reach (places_in l) (access_of b) (of_direction b ds) ≡ true → reach (places_in l) (access_of b) d.addr d.len ≡ true
reached l b ds from skip d rest this s all = (all_tail (λ e. reach (places_in l) (access_of b) e.addr e.len) d (of_direction b rest)
    ((rw (direction b true d rest this) at s.there) all)).0

not_both : (o : Option Place) → is_some o ≡ true → o ≡ None → ⊥
not_both None some none = cc
not_both (Some p) some none = cc

pub no_hole : (l : Mapped) (b : Bool) (ds : List Descriptor) (from skip : ℕ) (d : Descriptor) (rest : List Descriptor) →
    beq (is_writable d) b ≡ true →
    skip < d.len → Skips l b ds from skip (d ∷ rest) →
    all_reach (places_in l) (access_of b) (of_direction b ds) ≡ true → location (places_in l) (access_of b) (d.addr + skip) ≡ None → ⊥
no_hole l b ds from skip d rest this less s all none =
    let parts = and_parts (nat_lt (d.addr + d.len) (2 ^ 64)) (list_all (λ x. is_some (location (places_in l) (access_of b) x))
    (addresses d.addr d.len)) (reached l b ds from skip d rest this s all) in
    not_both (location (places_in l) (access_of b) (d.addr + skip))
    (placed d.len d.addr skip (λ x. is_some (location (places_in l) (access_of b) x)) parts.1 less) none

-- ---- by what the code answers

if_some : {X : Type 0} (P Q : X → Type 0) (o : Option X) → ((x : X) → P x → Q x) → IfSome o P → IfSome o Q
if_some P Q None f h = tt
if_some P Q (Some x) f h = f x h

if_both : {X : Type 0} (P Q : X → Type 0) (o : Option X) → IfSome o P → IfSome o Q → IfSome o (λ x. P x × Q x)
if_both P Q None p q = tt
if_both P Q (Some x) p q = (p, q)

pub window_if : (l : Mapped) (b : Bool) (ds : List Descriptor) (from skip : ℕ) (d : Descriptor) (rest : List Descriptor) (o : Option Window)
    (addr len : ℕ) →
    beq (is_writable d) b ≡ true → addr ≡ d.addr → len ≡ d.len →
    skip < len → Skips l b ds from skip (d ∷ rest) →
    IfSome o (IsWindowAt (location (places_in l) (access_of b)) (addr + skip) (len - skip)) →
    IfSome o (λ w. w.len ≡ min (len - skip) (left_in (places_in l) (addr + skip))) → IfSome o (IsWindowFrom l b ds from)
window_if l b ds from skip d rest o addr len this at long less s some longest =
    let P : Window → Type 0 = IsWindowAt (location (places_in l) (access_of b)) (d.addr + skip) (d.len - skip) in
    let Q : Window → Type 0 = λ w. w.len ≡ min (d.len - skip) (left_in (places_in l) (d.addr + skip)) in
    if_some (λ w. P w × Q w) (IsWindowFrom l b ds from) o (λ w is. window_of l b ds from skip d rest w this (rw long at less) s is.0 is.1)
    (if_both P Q o (rw (at, long) at some) (rw (at, long) at longest))

pub hole_if : (l : Mapped) (b : Bool) (ds : List Descriptor) (from skip : ℕ) (d : Descriptor) (rest : List Descriptor) (addr len : ℕ) →
    beq (is_writable d) b ≡ true → addr ≡ d.addr → len ≡ d.len →
    skip < len → Skips l b ds from skip (d ∷ rest) → all_reach (places_in l) (access_of b) (of_direction b ds) ≡ true →
    location (places_in l) (access_of b) (addr + skip) ≡ None → ⊥
hole_if l b ds from skip d rest addr len this at long less s all none =
    no_hole l b ds from skip d rest this (rw long at less) s all (rw at at none)

-- ---- where there is no window

first_of : (x a n : ℕ) (more : List ℕ) → 0 < n → addresses x n ≡ take n (a ∷ more) → x ≡ a
unfolding addresses
first_of x a zero more some is = absurd (omega (arith, some))
first_of x a (suc n) more some is = ap (λ (l : List ℕ). get_or l 0 x) is

-- the address of the next byte, if the first descriptor that is left has it
next_address : (l : Mapped) (b : Bool) (ds : List Descriptor) (from skip : ℕ) (d : Descriptor) (rest : List Descriptor)
    (a : ℕ) (more : List ℕ) →
    beq (is_writable d) b ≡ true → skip < d.len → Skips l b ds from skip (d ∷ rest) →
    drop from (addresses_of (of_direction b ds)) ≡ a ∷ more → d.addr + skip ≡ a
next_address l b ds from skip d rest a more this less s is =
    first_of (d.addr + skip) a (d.len - skip) more (omega (arith, less))
    (sym (range_of l b ds from skip d rest this less s) ∙ ap (take (d.len - skip)) is)

-- that address isn't mapped
pub unmapped_if : (l : Mapped) (b : Bool) (ds : List Descriptor) (from skip : ℕ) (d : Descriptor) (rest : List Descriptor) (addr len : ℕ) →
    beq (is_writable d) b ≡ true → addr ≡ d.addr → len ≡ d.len →
    skip < len → Skips l b ds from skip (d ∷ rest) →
    location (places_in l) (access_of b) (addr + skip) ≡ None → HasNoWindowFrom l b ds from
unmapped_if l b ds from skip d rest addr len this at long less s none = λ a more is small.
    subst (λ x. location (places_in l) (access_of b) x ≡ None)
    (ap (λ x. x + skip) at ∙ next_address l b ds from skip d rest a more this (rw long at less) s is) none

-- or it exceeds 64 bits
pub beyond_if : (l : Mapped) (b : Bool) (ds : List Descriptor) (from skip : ℕ) (d : Descriptor) (rest : List Descriptor) (addr len : ℕ) →
    beq (is_writable d) b ≡ true → addr ≡ d.addr → len ≡ d.len →
    skip < len → Skips l b ds from skip (d ∷ rest) →
    2 ^ 64 ≤ addr + skip → HasNoWindowFrom l b ds from
beyond_if l b ds from skip d rest addr len this at long less s beyond = λ a more is small.
    let next = next_address l b ds from skip d rest a more this (rw long at less) s is in
    absurd (omega (arith, beyond, small, next, at))
