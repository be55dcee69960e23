-- Windows behind the descriptors that were passed are windows of the whole chain.
use Rattle.std.proofs.Common.{◌≡◌, ◌∙◌, ℕ, Bool, true, false, ◌+◌, ◌-◌, ◌≤◌, ◌++◌, List, [], ◌∷◌, take, drop, refl, ap, sym, subst, IfSome}
use Rattle.std.proofs.Common.{Option, Some, None, append_assoc, arith}
use Rattle.std.proofs.lemmas.List.{take-append-drop}
use Rattle.std.proofs.lemmas.List.Sums.{sum_by-append, sum_by-cons}
use mathlib.Core.Bool.{beq}
use Rattle.vm_memory_core.specs.Window.{Window}
use Rattle.vm_memory.specs.Memory.{located, location}
use Rattle.fs_queue.specs.Chain.{Descriptor, is_writable}
use Rattle.fs_queue.specs.Taking.{all_reach, total_len, access_of, of_direction}
use Rattle.fs_regions.specs.Places.{Mapped, places_in}
use Rattle.fs_regions.specs.Windows.{HasNoWindowFrom, IsByteOf, IsWindowFrom}
use Rattle.fs_regions.proofs.Directions.{Skips, skips_begin, skips_on, skips_other}
use Rattle.fs_chain.specs.declared.window_cursor.WindowCursor.{WindowCursor}
use Rattle.fs_chain.specs.Passing.{HasPassed}

-- how many bytes of one direction some descriptors have
abbrev len_of : Bool → List Descriptor → ℕ
len_of b ds = total_len (of_direction b ds)

abbrev counted : Bool → Descriptor → ℕ
counted true d = d.len
counted false d = 0

zero_more : (n : ℕ) → n ≡ 0 + n
zero_more n = omega arith

by_bit : (b w : Bool) (d : Descriptor) (ds : List Descriptor) → is_writable d ≡ w → len_of b (d ∷ ds) ≡ counted (beq w b) d + len_of b ds
by_bit true true d ds is = rw is (sum_by-cons (λ (x : Descriptor). x.len) d (of_direction true ds))
by_bit true false d ds is = rw is (zero_more (len_of true ds))
by_bit false true d ds is = rw is (zero_more (len_of false ds))
by_bit false false d ds is = rw is (sum_by-cons (λ (x : Descriptor). x.len) d (of_direction false ds))

one_more : (b x : Bool) (d : Descriptor) (ds : List Descriptor) → beq (is_writable d) b ≡ x → len_of b (d ∷ ds) ≡ counted x d + len_of b ds
one_more b x d ds is = by_bit b (is_writable d) d ds refl ∙ ap (λ (y : Bool). counted y d + len_of b ds) is

none_of : (b : Bool) → len_of b [] ≡ 0
none_of true = refl
none_of false = refl

-- so many bytes are skipped by passing some descriptors
skips_one : (l : Mapped) (b x : Bool) (ds : List Descriptor) (from skip : ℕ) (d : Descriptor) (rest : List Descriptor)
    → beq (is_writable d) b ≡ x → counted x d ≤ skip
    → Skips l b ds from skip (d ∷ rest) → Skips l b ds from (skip - counted x d) rest
skips_one l b true ds from skip d rest this less s = skips_on l b ds from skip d rest this less s
skips_one l b false ds from skip d rest this less s =
    subst (λ (n : ℕ). Skips l b ds from n rest) (omega arith) (skips_other l b ds from skip d rest this s)

skips_front : (l : Mapped) (b : Bool) (ds : List Descriptor) (from skip : ℕ) (front rest : List Descriptor) → len_of b front ≤ skip
    → Skips l b ds from skip (front ++ rest) → Skips l b ds from (skip - len_of b front) rest
skips_front l b ds from skip [] rest less s =
    let none = none_of b in
    subst (λ (n : ℕ). Skips l b ds from n rest) (omega (arith, none)) s
skips_front l b ds from skip (d ∷ front) rest less s =
    let x = beq (is_writable d) b in
    let more = one_more b x d front refl in
    let on = skips_one l b x ds from skip d (front ++ rest) refl (omega (arith, more, less)) s in
    let behind = skips_front l b ds from (skip - counted x d) front rest (omega (arith, more, less)) on in
    subst (λ (n : ℕ). Skips l b ds from n rest) (omega (arith, more)) behind

passed_skips : (l : Mapped) (b : Bool) (ds : List Descriptor) (p : WindowCursor) (from : ℕ) → HasPassed b ds p → p.bytes ≤ from
    → Skips l b ds from (from - p.bytes) (drop p.index ds)
passed_skips l b ds p from passed below =
    let bytes = passed.1 in
    let whole : Skips l b ds from from (take p.index ds ++ drop p.index ds) =
    subst (λ (xs : List Descriptor). Skips l b ds from from xs) (sym (take-append-drop p.index ds)) (skips_begin l b ds from) in
    subst (λ (n : ℕ). Skips l b ds from (from - n) (drop p.index ds)) bytes
    (skips_front l b ds from from (take p.index ds) (drop p.index ds) (omega (arith, bytes, below)) whole)

-- a window behind what was skipped
stands_behind : (l : Mapped) (b : Bool) (ds : List Descriptor) (from skip : ℕ) (rest : List Descriptor) (d : Descriptor) (k : ℕ)
    → Skips l b ds from skip rest
    → IsByteOf (of_direction b rest) skip d k → IsByteOf (of_direction b ds) from d k
stands_behind l b ds from skip rest d k s is =
    let front = s.front in
    let sum = sum_by-append (λ (x : Descriptor). x.len) front.0 is.0 in
    let here = front.2 in
    let there = is.3 in (
      front.0 ++ is.0,
      is.1,
      front.1 ∙ ap (λ (xs : List Descriptor). front.0 ++ xs) is.2 ∙ sym (append_assoc front.0 is.0 (d ∷ is.1)),
      omega (arith, sum, here, there),
      is.4,
    )

window_behind :
    (l : Mapped) (b : Bool) (ds : List Descriptor) (from skip : ℕ) (rest : List Descriptor) (w : Window) → Skips l b ds from skip rest
    → IsWindowFrom l b rest skip w → IsWindowFrom l b ds from w
window_behind l b ds from skip rest w s is =
    let count = s.count in
    let below = s.below in
    let within = is.1 in (
      is.0,
      omega (arith, count, below, within),
      ap (λ (xs : List ℕ). located (location (places_in l) (access_of b)) (take w.len xs)) s.bytes ∙ is.2,
      is.3,
      is.4,
      stands_behind l b ds from skip rest is.3 is.4 s is.5,
      is.6,
    )

-- so it is behind what was passed
window_passed :
    (l : Mapped) (b : Bool) (ds : List Descriptor) (p : WindowCursor) (from : ℕ) (w : Window) → HasPassed b ds p → p.bytes ≤ from
    → IsWindowFrom l b (drop p.index ds) (from - p.bytes) w → IsWindowFrom l b ds from w
window_passed l b ds p from w passed below is =
    window_behind l b ds from (from - p.bytes) (drop p.index ds) w (passed_skips l b ds p from passed below) is

-- by what the code answers
pub windows_passed : (l : Mapped) (b : Bool) (ds rest : List Descriptor) (p : WindowCursor) (from : ℕ) (o : Option Window)
    → HasPassed b ds p → p.bytes ≤ from → rest ≡ drop p.index ds
    → IfSome o (IsWindowFrom l b rest (from - p.bytes)) → IfSome o (IsWindowFrom l b ds from)
windows_passed l b ds rest p from None passed below left is = tt
windows_passed l b ds rest p from (Some w) passed below left is =
    window_passed l b ds p from w passed below (subst (λ (xs : List Descriptor). IsWindowFrom l b xs (from - p.bytes) w) left is)

-- and what ends there, ends
pub end_passed : (l : Mapped) (b : Bool) (ds rest : List Descriptor) (p : WindowCursor) (from : ℕ) → HasPassed b ds p → p.bytes ≤ from
    → rest ≡ drop p.index ds
    → (all_reach (places_in l) (access_of b) (of_direction b rest) ≡ true → total_len (of_direction b rest) ≤ from - p.bytes)
    → all_reach (places_in l) (access_of b) (of_direction b ds) ≡ true → total_len (of_direction b ds) ≤ from
end_passed l b ds rest p from passed below left none all =
    let s : Skips l b ds from (from - p.bytes) rest =
    subst (λ (xs : List Descriptor). Skips l b ds from (from - p.bytes) xs) (sym left) (passed_skips l b ds p from passed below) in
    let count = s.count in
    let under = s.below in
    let end = none (s.there all) in
    omega (arith, count, under, end)

-- and where there is no window behind it, the whole chain has none
pub no_window_passed : (l : Mapped) (b : Bool) (ds rest : List Descriptor) (p : WindowCursor) (from : ℕ) → HasPassed b ds p → p.bytes ≤ from
    → rest ≡ drop p.index ds → HasNoWindowFrom l b rest (from - p.bytes) → HasNoWindowFrom l b ds from
no_window_passed l b ds rest p from passed below left none = λ a more is small.
    let s : Skips l b ds from (from - p.bytes) rest =
    subst (λ (xs : List Descriptor). Skips l b ds from (from - p.bytes) xs) (sym left) (passed_skips l b ds p from passed below) in
    none a more (sym s.bytes ∙ is) small
