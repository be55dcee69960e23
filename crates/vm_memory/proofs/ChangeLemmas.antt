-- layouts that change
use Rattle.std.proofs.Common.{◌≡◌, ℕ, Bool, true, false, ◌+◌, ◌-◌, ◌<◌, ◌≤◌, List, [], ◌∷◌, length, refl, ap, sym, ◌∙◌, arith, zero, suc}
use Rattle.std.proofs.Common.{Some, None}
use Rattle.std.specs.Arc.{arc_value}
use Rattle.std.specs.declared.sync.Arc.{Arc}
use Rattle.std.specs.Bool.{OnTrue, OnFalse}
use Rattle.std.specs.Prelude.{nat_le, get_or, slice_get, nat_lt, not, ◌||◌, if◌then◌else◌, insert, remove, find, cond}
use Rattle.std.specs.List.{list_any}
use Rattle.std.proofs.lemmas.Bool.Decides.{nat_tests}
use Rattle.std.proofs.lemmas.Option.{slice_get_within}
use Rattle.vm_memory.specs.Layout.{Region, start_at, end_at, regions_of, overlap, with_region, is_region, without_region, AllFrom, IsLawful}
use Rattle.vm_memory.specs.Layout.{IsLayout}
use Rattle.vm_memory.proofs.LayoutLemmas.{start_at-get, from_start, from_lower, length-shared}

-- ---- one more region

pub overlap-block : (r s : Region) (start size : ℕ) → r.start ≡ start → r.size ≡ size →
    overlap (record { start = start; size = size; block = 0 }) s ≡ overlap r s
overlap-block r s start size e f = rw (← e, ← f)

any-same : (p q : Region → Bool) (l : List Region) → ((s : Region) → p s ≡ q s) → list_any p l ≡ list_any q l
any-same p q [] same = refl
any-same p q (s ∷ l) same = rw (same s, any-same p q l same)

pub any-block : (l : List Region) (r : Region) (start size : ℕ) → r.start ≡ start → r.size ≡ size →
    list_any (overlap (record { start = start; size = size; block = 0 })) l ≡ list_any (overlap r) l
any-block l r start size e f = any-same _ _ l (λ s. overlap-block r s start size e f)

or_true : (a b : Bool) → b ≡ true → (a || b) ≡ true
or_true true b e = refl
or_true false b e = e

-- a region that ends past its start
pub any_back : (l : List Region) (n : ℕ) (r : Region) → n < length l → start_at l n ≤ r.start → r.start < end_at l n → 0 < r.size →
    list_any (overlap r) l ≡ true
any_back [] n r h low high some = absurd (omega arith)
any_back (x ∷ l) zero r h low high some =
    let here : overlap r x ≡ true = grind (arith, nat_tests) in
    ap (λ (b : Bool). b || list_any (overlap r) l) here
any_back (x ∷ l) (suc n) r h low high some = or_true (overlap r x) (list_any (overlap r) l) (any_back l n r (omega arith) low high some)

-- a region that begins before its end
pub any_on : (l : List Region) (n : ℕ) (r : Region) → n < length l → r.start < start_at l n → start_at l n < r.start + r.size →
    list_any (overlap r) l ≡ true
any_on [] n r h low high = absurd (omega arith)
any_on (x ∷ l) zero r h low high =
    let here : overlap r x ≡ true = grind (arith, nat_tests) in
    ap (λ (b : Bool). b || list_any (overlap r) l) here
any_on (x ∷ l) (suc n) r h low high = or_true (overlap r x) (list_any (overlap r) l) (any_on l n r (omega arith) low high)

pub end_at-get : (l : List Region) (i : ℕ) (r : Region) → slice_get l i ≡ Some r → end_at l i ≡ r.start + r.size
end_at-get [] i r e = absurd (cc)
end_at-get (x ∷ l) zero r e = let same : x ≡ r = cc in ap (λ (y : Region). y.start + y.size) same
end_at-get (x ∷ l) (suc i) r e = end_at-get l i r e

start_end : (l : List Region) (i : ℕ) → start_at l i ≤ end_at l i
start_end [] i = omega arith
start_end (r ∷ l) zero = omega arith
start_end (r ∷ l) (suc i) = start_end l i

pub above_all : (l : List Region) (r : Region) (e : ℕ) → AllFrom e l → r.start + r.size ≤ e → list_any (overlap r) l ≡ false
above_all [] r e from h = refl
above_all (x ∷ l) r e from h =
    let low : e ≤ x.start = from.0 in
    let here : overlap r x ≡ false = grind (arith, nat_tests) in
    rw (here, above_all l r e from.1 h)

-- regions that end before it or begin after it
pub none_apart : (l : List Region) (at : ℕ) (r : Region) → IsLayout l → at ≤ length l → (0 < at → end_at l (at - 1) ≤ r.start) →
    (at < length l → r.start + r.size ≤ start_at l at) → list_any (overlap r) l ≡ false
none_apart [] at r is most before after = refl
none_apart (x ∷ l) zero r is most before after =
    let low : r.start + r.size ≤ x.start = after (omega arith) in
    let here : overlap r x ≡ false = grind (arith, nat_tests) in
    rw (here, above_all l r (x.start + x.size) is.2 (omega arith))
none_apart (x ∷ l) (suc zero) r is most before after =
    let low : x.start + x.size ≤ r.start = before (omega arith) in
    let here : overlap r x ≡ false = grind (arith, nat_tests) in
    rw (here, none_apart l zero r is.3 (omega arith) (λ none. absurd (omega arith)) (λ some. after (omega arith)))
none_apart (x ∷ l) (suc (suc n)) r is most before after =
    let back : suc n - 1 ≡ n = omega arith in
    let two : suc (suc n) - 1 ≡ suc n = omega arith in
    let last : end_at l n ≤ r.start = rw two at (before (omega arith)) in
    let from = from_start l (x.start + x.size) n is.2 (omega arith) in
    let order = start_end l n in
    let low : x.start + x.size ≤ r.start = omega arith in
    let here : overlap r x ≡ false = grind (arith, nat_tests) in
    rw (here, none_apart l (suc n) r is.3 (omega arith) (λ some. rw back last) (λ some. after (omega arith)))

pub with_region-insert : (l : List Region) (at : ℕ) (r : Region) → IsLayout l → at ≤ length l → (0 < at → start_at l (at - 1) ≤ r.start) →
    (at < length l → r.start < start_at l at) → insert l at r ≡ with_region r l
with_region-insert [] zero r is most below above = refl
with_region-insert [] (suc at) r is most below above = absurd (omega arith)
with_region-insert (x ∷ l) zero r is most below above =
    let low : r.start < x.start = above (omega arith) in
    let test : nat_lt r.start x.start ≡ true = grind (arith, nat_tests) in
    rw test
with_region-insert (x ∷ l) (suc zero) r is most below above =
    let low : x.start ≤ r.start = below (omega arith) in
    let test : nat_lt r.start x.start ≡ false = grind (arith, nat_tests) in
    rw test (ap (λ (rest : List Region). x ∷ rest)
    (with_region-insert l zero r is.3 (omega arith) (λ none. absurd (omega arith)) (λ some. above (omega arith))))
with_region-insert (x ∷ l) (suc (suc n)) r is most below above =
    let back : suc n - 1 ≡ n = omega arith in
    let two : suc (suc n) - 1 ≡ suc n = omega arith in
    let last : start_at l n ≤ r.start = rw two at (below (omega arith)) in
    let from = from_start l (x.start + x.size) n is.2 (omega arith) in
    let test : nat_lt r.start x.start ≡ false = grind (arith, nat_tests) in
    rw test (ap (λ (rest : List Region). x ∷ rest)
    (with_region-insert l (suc n) r is.3 (omega arith) (λ some. rw back last) (λ some. above (omega arith))))

from_with : (l : List Region) (r : Region) (e : ℕ) → AllFrom e l → e ≤ r.start → AllFrom e (with_region r l)
from_with [] r e from h = (h, tt)
from_with (x ∷ l) r e from h =
    elim (nat_lt r.start x.start) as (λ b. AllFrom e (if b then r ∷ x ∷ l else x ∷ with_region r l)) [
      | true ↦ (h, (from.0, from.1))
      | false ↦ (from.0, from_with l r e from.1 h)
    ]

either_false : (a b : Bool) → (a || b) ≡ false → (a ≡ false) × (b ≡ false)
either_false true b e = absurd (cc)
either_false false b e = (refl, e)

ends_before : (r x : Region) → 0 < r.size → nat_lt r.start x.start ≡ false → overlap r x ≡ false → x.start + x.size ≤ r.start
ends_before r x some after apart = grind (arith, nat_tests)

begins_after : (r x : Region) → 0 < x.size → nat_lt r.start x.start ≡ true → overlap r x ≡ false → r.start + r.size ≤ x.start
begins_after r x some before apart = grind (arith, nat_tests)

-- the layout with one more region is one
pub layout_with : (l : List Region) (r : Region) → IsLayout l → IsLawful r → list_any (overlap r) l ≡ false → IsLayout (with_region r l)
layout_with [] r is lawful apart = (lawful.0, lawful.2, tt, tt)
layout_with (x ∷ l) r is lawful apart =
    let parts = either_false (overlap r x) (list_any (overlap r) l) apart in
    elim (nat_lt r.start x.start) as (λ b. nat_lt r.start x.start ≡ b → IsLayout (if b then r ∷ x ∷ l else x ∷ with_region r l)) [
      | true ↦ λ test.
          let low = begins_after r x is.0 test parts.0 in
          (lawful.0, lawful.2, (low, from_lower l (x.start + x.size) (r.start + r.size) (omega arith) is.2), is)
      | false ↦ λ test.
          let high = ends_before r x lawful.0 test parts.0 in
          (is.0, is.1, from_with l r (x.start + x.size) is.2 high, layout_with l r is.3 lawful parts.1)
    ] refl

-- ---- one region less

other : (r : Region) (base size : ℕ) → base < r.start → is_region base size r ≡ false
other r base size h = grind (arith, nat_tests)

lower : (r : Region) (base size : ℕ) → r.start < base → is_region base size r ≡ false
lower r base size h = grind (arith, nat_tests)

none_from : (l : List Region) (e base size : ℕ) → AllFrom e l → base < e → find (is_region base size) l ≡ None
none_from [] e base size from h = refl
none_from (x ∷ l) e base size from h =
    let low : e ≤ x.start = from.0 in
    rw (other x base size (omega arith)) (none_from l e base size from.1 h)

keeps_all : (l : List Region) (e base size : ℕ) → AllFrom e l → base < e → without_region base size l ≡ l
keeps_all [] e base size from h = refl
keeps_all (x ∷ l) e base size from h =
    let low : e ≤ x.start = from.0 in
    rw (other x base size (omega arith)) (ap (λ (rest : List Region). x ∷ rest) (keeps_all l e base size from.1 h))

is_at : (s : Region) (base size : ℕ) → is_region base size s ≡ true → s.start ≡ base
is_at s base size e = grind (arith, nat_tests)

-- no region begins at an address before the first one
pub none_begins :
    (l : List Region) (base size : ℕ) → IsLayout l → (0 < length l → base < start_at l 0) → find (is_region base size) l ≡ None
none_begins [] base size is h = refl
none_begins (x ∷ l) base size is h =
    let low : base < x.start = h (omega arith) in
    rw (other x base size low) (none_from l (x.start + x.size) base size is.2 (omega arith))

pub not_there : (l : List Region) (n base size : ℕ) (s : Region) → IsLayout l → slice_get l n ≡ Some s → s.start ≤ base →
    (n + 1 < length l → base < start_at l (n + 1)) → is_region base size s ≡ false →
    find (is_region base size) l ≡ None
not_there [] n base size s is e low high out = absurd (cc)
not_there (x ∷ l) zero base size s is e low high out =
    let same : x ≡ s = cc in
    let here : is_region base size x ≡ false = ap (is_region base size) same ∙ out in
    rw (here, none_begins l base size is.3 (λ some. high (omega arith)))
not_there (x ∷ l) (suc n) base size s is e low high out =
    let within = slice_get_within l n s e in
    let above = from_start l (x.start + x.size) n is.2 within in
    let begins = start_at-get l n s e in
    let next : suc n + 1 ≡ suc (n + 1) = omega arith in
    let more : n + 1 < length l → base < start_at l (n + 1) = λ h. rw next at high (omega arith) in
    let before : x.start < base = omega (arith, is.0) in
    rw (lower x base size before) (not_there l n base size s is.3 e low more out)

pub found_there : (l : List Region) (n base size : ℕ) (s : Region) → IsLayout l → slice_get l n ≡ Some s → is_region base size s ≡ true →
    find (is_region base size) l ≡ Some s
found_there [] n base size s is e this = absurd (cc)
found_there (x ∷ l) zero base size s is e this =
    let same : x ≡ s = cc in
    let here : is_region base size x ≡ true = ap (is_region base size) same ∙ this in
    rw here (ap Some same)
found_there (x ∷ l) (suc n) base size s is e this =
    let within = slice_get_within l n s e in
    let above = from_start l (x.start + x.size) n is.2 within in
    let begins = start_at-get l n s e in
    let at = is_at s base size this in
    let before : x.start < base = omega (arith, is.0) in
    rw (lower x base size before) (found_there l n base size s is.3 e this)

pub without-remove : (l : List Region) (n base size : ℕ) (s : Region) → IsLayout l → slice_get l n ≡ Some s → is_region base size s ≡ true →
    remove l n ≡ without_region base size l
without-remove [] n base size s is e this = absurd (cc)
without-remove (x ∷ l) zero base size s is e this =
    let same : x ≡ s = cc in
    let here : is_region base size x ≡ true = ap (is_region base size) same ∙ this in
    let begins = is_at x base size here in
    rw here (sym (keeps_all l (x.start + x.size) base size is.2 (omega (arith, is.0))))
without-remove (x ∷ l) (suc n) base size s is e this =
    let within = slice_get_within l n s e in
    let above = from_start l (x.start + x.size) n is.2 within in
    let begins = start_at-get l n s e in
    let at = is_at s base size this in
    let before : x.start < base = omega (arith, is.0) in
    rw (lower x base size before) (ap (λ (rest : List Region). x ∷ rest) (without-remove l n base size s is.3 e this))

from_without : (l : List Region) (e base size : ℕ) → AllFrom e l → AllFrom e (without_region base size l)
from_without [] e base size from = tt
from_without (x ∷ l) e base size from =
    elim (not (is_region base size x)) as (λ b. AllFrom e (cond b (x ∷ without_region base size l) (without_region base size l))) [
      | true ↦ (from.0, from_without l e base size from.1)
      | false ↦ from_without l e base size from.1
    ]

-- the layout without a region is one
pub layout_without : (l : List Region) (base size : ℕ) → IsLayout l → IsLayout (without_region base size l)
layout_without [] base size is = tt
layout_without (x ∷ l) base size is =
    elim (not (is_region base size x)) as (λ b. IsLayout (cond b (x ∷ without_region base size l) (without_region base size l))) [
      | true ↦ (is.0, is.1, from_without l (x.start + x.size) base size is.2, layout_without l base size is.3)
      | false ↦ layout_without l base size is.3
    ]

-- ---- shared regions

pub shared-insert : {X Z : Type 0} (f : X → Region) (items : List (Arc X Z)) (i : ℕ) (arc : Arc X Z) →
    regions_of f (insert items i arc) ≡ insert (regions_of f items) i (f (arc_value arc))
shared-insert f [] zero arc = refl
shared-insert f [] (suc i) arc = refl
shared-insert f (x ∷ items) zero arc = refl
shared-insert f (x ∷ items) (suc i) arc = ap (λ (l : List Region). f (arc_value x) ∷ l) (shared-insert f items i arc)

pub shared-remove :
    {X Z : Type 0} (f : X → Region) (items : List (Arc X Z)) (i : ℕ) → regions_of f (remove items i) ≡ remove (regions_of f items) i
shared-remove f [] zero = refl
shared-remove f [] (suc i) = refl
shared-remove f (x ∷ items) zero = refl
shared-remove f (x ∷ items) (suc i) = ap (λ (l : List Region). f (arc_value x) ∷ l) (shared-remove f items i)

pub shared_item :
    {X Z : Type 0} (f : X → Region) (items : List (Arc X Z)) (i : ℕ) (arc : Arc X Z) → i < length items → arc ≡ get_or items i arc →
    slice_get (regions_of f items) i ≡ Some (f (arc_value arc))
shared_item f [] i arc h e = absurd (omega arith)
shared_item f (x ∷ items) zero arc h e = ap (λ y. Some (f (arc_value y))) (sym e)
shared_item f (x ∷ items) (suc i) arc h e = shared_item f items i arc (omega arith) e

-- ---- tests

pub on_le : (a b : ℕ) (P : Type 0) → (a ≤ b → P) → OnTrue (nat_le a b) P
on_le a b P f = elim (nat_le a b) as (λ v. nat_le a b ≡ v → OnTrue v P) [
  | true ↦ λ e. f (grind (arith, nat_tests))
  | false ↦ λ e. tt
] refl

pub on_gt : (a b : ℕ) (P : Type 0) → (b < a → P) → OnFalse (nat_le a b) P
on_gt a b P f = elim (nat_le a b) as (λ v. nat_le a b ≡ v → OnFalse v P) [
  | true ↦ λ e. tt
  | false ↦ λ e. f (grind (arith, nat_tests))
] refl

-- whether a region from one address to another has an address in common with one of a layout
pub collides_on : (l : List Region) (at : ℕ) (r : Region) (test : Bool) → IsLayout l → at ≤ length l →
    (0 < at → end_at l (at - 1) ≤ r.start) → (at < length l → r.start < start_at l at) →
    OnTrue test ((at < length l) × (start_at l at < r.start + r.size)) → OnFalse test (at < length l → r.start + r.size ≤ start_at l at) →
    test ≡ list_any (overlap r) l
collides_on l at r true is most before above by past = sym (any_on l at r by.0 (above by.0) by.1)
collides_on l at r false is most before above by past = sym (none_apart l at r is most before past)

on_true_with : (test : Bool) {P Q : Type 0} → (P → Q) → OnTrue test P → OnTrue test Q
on_true_with true f h = f h
on_true_with false f h = tt

on_false_with : (test : Bool) {P Q : Type 0} → (P → Q) → OnFalse test P → OnFalse test Q
on_false_with true f h = tt
on_false_with false f h = f h

pub collides_by : (l : List Region) (at start last : ℕ) (test : Bool) → IsLayout l → start ≤ last → at ≤ length l →
    (0 < at → end_at l (at - 1) ≤ start) → (at < length l → start < start_at l at) →
    OnTrue test ((at < length l) × (start_at l at ≤ last)) → OnFalse test (at < length l → last < start_at l at) →
    test ≡ list_any (overlap (record { start = start; size = last - start + 1; block = 0 })) l
collides_by l at start last test is order most before above by past =
    collides_on l at (record { start = start; size = last - start + 1; block = 0 }) test is most before above
    (on_true_with test (λ (h : (at < length l) × (start_at l at ≤ last)). (h.0, omega (arith, h.1))) by)
    (on_false_with test (λ (h : at < length l → last < start_at l at) (within : at < length l). omega (arith, h within)) past)

-- ---- the region that is removed

pub is_not_start : (r : Region) (base size : ℕ) → (r.start ≡ base → ⊥) → is_region base size r ≡ false
is_not_start r base size out = grind (arith, nat_tests)

pub is_not_size : (r : Region) (base size : ℕ) → (r.size ≡ size → ⊥) → is_region base size r ≡ false
is_not_size r base size out = grind (arith, nat_tests)

pub is_this : (r : Region) (base size : ℕ) → r.start ≡ base → r.size ≡ size → is_region base size r ≡ true
is_this r base size e f = grind (arith, nat_tests)

pub removed_item : {X Z : Type 0} (f : X → Region) (items : List (Arc X Z)) (l : List Region) (i : ℕ) (r : Region) (arc : Arc X Z) →
    regions_of f items ≡ l → slice_get l i ≡ Some r →
    arc ≡ get_or items i arc → Some r ≡ Some (f (arc_value arc))
removed_item f items l i r arc same found e =
    let within : i < length items = omega (arith, slice_get_within l i r found, ap length same, length-shared f items) in
    sym found ∙ sym (ap (λ (k : List Region). slice_get k i) same) ∙ shared_item f items i arc within e
