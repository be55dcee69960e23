-- Lengths of segments that are cut at a place.
use Rattle.std.proofs.Common.{◌≡◌, ℕ, zero, suc, ◌+◌, ◌-◌, ◌<◌, ◌≤◌, min, List, [], ◌∷◌, ◌++◌, length, take, drop, slice_index, refl, sym}
use Rattle.std.proofs.Common.{◌∙◌, ap, arith, ⊎_elim, ◌==◌, sum, append-nil}
use Rattle.std.specs.Prelude.{nat_le}
use Rattle.std.proofs.lemmas.Bool.{cases_lt, cases_eq, eq-eqb, ne_eqb, le-leb, lt-leb, cond-true, cond-false}
use Rattle.std.proofs.lemmas.List.Sums.{sum_by-cons}
use Rattle.fuse_fs.specs.Lengths.{filled, first, past, up_to}

pub sum-cons : (x : ℕ) (xs : List ℕ) → sum (x ∷ xs) ≡ x + sum xs
sum-cons x xs = sum_by-cons (λ (k : ℕ). k) x xs

-- an empty segment is left out, another one isn't
pub filled_none : (n : ℕ) (ns : List ℕ) → n ≡ 0 → filled (n ∷ ns) ≡ filled ns
filled_none n ns e = cond-true (n == 0) (filled ns) (n ∷ filled ns) (eq-eqb n 0 e)

pub filled_some : (n : ℕ) (ns : List ℕ) → (n ≡ 0 → ⊥) → filled (n ∷ ns) ≡ n ∷ filled ns
filled_some n ns h = cond-false (n == 0) (filled ns) (n ∷ filled ns) (ne_eqb n 0 h)

-- a place behind a whole segment, or within it
pub past_whole : (place n : ℕ) (ns : List ℕ) → n ≤ place → past place (n ∷ ns) ≡ past (place - n) ns
unfolding past
past_whole place n ns h = cond-true (nat_le n place) (past (place - n) ns) ((n - place) ∷ ns) (le-leb n place h)

pub past_part : (place n : ℕ) (ns : List ℕ) → place < n → past place (n ∷ ns) ≡ (n - place) ∷ ns
unfolding past
past_part place n ns h = cond-false (nat_le n place) (past (place - n) ns) ((n - place) ∷ ns) (lt-leb n place h)

pub past_none : (place : ℕ) → past place [] ≡ []
unfolding past
past_none place = refl

pub up_to_zero : (ns : List ℕ) → up_to 0 ns ≡ []
unfolding up_to
up_to_zero [] = refl
up_to_zero (n ∷ ns) = refl

pub up_to_none : (place : ℕ) → up_to place [] ≡ []
unfolding up_to
up_to_none place = refl

pub up_to_more : (place n : ℕ) (ns : List ℕ) → (place ≡ 0 → ⊥) → up_to place (n ∷ ns) ≡ min place n ∷ up_to (place - n) ns
unfolding up_to
up_to_more place n ns h = cond-false (place == 0) [] (min place n ∷ up_to (place - n) ns) (ne_eqb place 0 h)

-- behind no byte at all, all segments that aren't empty are left
pub past_zero : (ns : List ℕ) → past 0 (filled ns) ≡ filled ns
past_zero [] = past_none 0
past_zero (n ∷ ns) =
    ⊎_elim
    (λ (z : n ≡ 0). ap (past 0) (filled_none n ns z) ∙ past_zero ns ∙ sym (filled_none n ns z))
    (λ (z : n ≡ 0 → ⊥). ap (past 0) (filled_some n ns z) ∙ past_part 0 n (filled ns) (omega (arith, z))
    ∙ ap (λ i. i ∷ filled ns) (let e : n - 0 ≡ n = omega arith in e) ∙ sym (filled_some n ns z))
    (cases_eq n 0)

pub past_zero_of : (ns : List ℕ) → filled ns ≡ ns → past 0 ns ≡ ns
past_zero_of ns all = ap (past 0) (sym all) ∙ past_zero ns ∙ all

-- a place behind a place
pub past-past : (m n : ℕ) (ns : List ℕ) → past m (past n ns) ≡ past (n + m) ns
past-past m n [] = ap (past m) (past_none n) ∙ past_none m ∙ sym (past_none (n + m))
past-past m n (x ∷ xs) =
    ⊎_elim
    (λ (l : n < x).
    ap (past m) (past_part n x xs l)
    ∙ ⊎_elim
    (λ (k : n + m < x). past_part m (x - n) xs (omega (arith, k)) ∙ ap (λ i. i ∷ xs) (let e : x - n - m ≡ x - (n + m) = omega arith in e)
    ∙ sym (past_part (n + m) x xs k))
    (λ (k : x ≤ n + m). past_whole m (x - n) xs (omega (arith, k))
    ∙ ap (λ i. past i xs) (let e : m - (x - n) ≡ n + m - x = omega (arith, l, k) in e) ∙ sym (past_whole (n + m) x xs k))
    (cases_lt (n + m) x))
    (λ (l : x ≤ n).
    ap (past m) (past_whole n x xs l) ∙ past-past m (n - x) xs
    ∙ ap (λ i. past i xs) (let e : n - x + m ≡ n + m - x = omega (arith, l) in e) ∙ sym (past_whole (n + m) x xs (omega (arith, l))))
    (cases_lt n x)

-- how many bytes are left behind a place, and before it
pub sum-past : (place : ℕ) (ns : List ℕ) → sum (past place ns) ≡ sum ns - place
sum-past place [] = ap sum (past_none place) ∙ (let e : sum [] ≡ 0 - place = omega arith in e)
sum-past place (n ∷ ns) =
    ⊎_elim
    (λ (l : place < n). let e = ap sum (past_part place n ns l) ∙ sum-cons (n - place) ns in omega (arith, e, l, sum-cons n ns))
    (λ (l : n ≤ place). let e = ap sum (past_whole place n ns l) ∙ sum-past (place - n) ns in omega (arith, e, l, sum-cons n ns))
    (cases_lt place n)

pub sum-up_to : (place : ℕ) (ns : List ℕ) → sum (up_to place ns) ≡ min place (sum ns)
sum-up_to place [] = ap sum (up_to_none place) ∙ (let e : sum [] ≡ min place 0 = omega arith in e)
sum-up_to place (n ∷ ns) =
    ⊎_elim
    (λ (z : place ≡ 0). let e : sum (up_to place (n ∷ ns)) ≡ 0 = rw z (ap sum (up_to_zero (n ∷ ns))) in omega (arith, e, z))
    (λ (z : place ≡ 0 → ⊥). let e = ap sum (up_to_more place n ns z) ∙ sum-cons (min place n) (up_to (place - n) ns) in
    omega (arith, e, sum-up_to (place - n) ns, sum-cons n ns))
    (cases_eq place 0)

pub sum-filled : (ns : List ℕ) → sum (filled ns) ≡ sum ns
sum-filled [] = refl
sum-filled (n ∷ ns) =
    ⊎_elim
    (λ (z : n ≡ 0). omega (arith, ap sum (filled_none n ns z), sum-filled ns, sum-cons n ns))
    (λ (z : n ≡ 0 → ⊥). omega (arith, ap sum (filled_some n ns z) ∙ sum-cons n (filled ns), sum-filled ns, sum-cons n ns))
    (cases_eq n 0)

-- none of these lengths is 0
pub filled-filled : (ns : List ℕ) → filled (filled ns) ≡ filled ns
filled-filled [] = refl
filled-filled (n ∷ ns) =
    ⊎_elim
    (λ (z : n ≡ 0). ap filled (filled_none n ns z) ∙ filled-filled ns ∙ sym (filled_none n ns z))
    (λ (z : n ≡ 0 → ⊥). ap filled (filled_some n ns z) ∙ filled_some n (filled ns) z ∙ ap (λ s. n ∷ s) (filled-filled ns)
    ∙ sym (filled_some n ns z))
    (cases_eq n 0)

pub filled-append : (xs ys : List ℕ) → filled (xs ++ ys) ≡ filled xs ++ filled ys
filled-append [] ys = refl
filled-append (x ∷ xs) ys =
    ⊎_elim
    (λ (z : x ≡ 0). filled_none x (xs ++ ys) z ∙ filled-append xs ys ∙ ap (λ s. s ++ filled ys) (sym (filled_none x xs z)))
    (λ (z : x ≡ 0 → ⊥). filled_some x (xs ++ ys) z ∙ ap (λ s. x ∷ s) (filled-append xs ys)
    ∙ ap (λ s. s ++ filled ys) (sym (filled_some x xs z)))
    (cases_eq x 0)

-- the first segment, which is empty only if no other is left
pub first_of : (n : ℕ) (ns : List ℕ) → (n ≡ 0 → ns ≡ []) → first (filled (n ∷ ns)) ≡ n
first_of n ns none =
    ⊎_elim
    (λ (z : n ≡ 0). ap first (filled_none n ns z) ∙ ap (λ s. first (filled s)) (none z) ∙ sym z)
    (λ (z : n ≡ 0 → ⊥). ap first (filled_some n ns z))
    (cases_eq n 0)

-- a place within the first segment, or behind it
pub past_first : (place n : ℕ) (ns : List ℕ) → place ≤ n → past place (filled (n ∷ ns)) ≡ filled ((n - place) ∷ ns)
past_first place n ns le =
    ⊎_elim
    (λ (z : n ≡ 0). ap (past place) (filled_none n ns z) ∙ ap (λ i. past i (filled ns)) (let e : place ≡ 0 = omega (arith, le, z) in e)
    ∙ past_zero ns ∙ sym (filled_none (n - place) ns (omega (arith, z))))
    (λ (z : n ≡ 0 → ⊥).
    ap (past place) (filled_some n ns z)
    ∙ ⊎_elim
    (λ (l : place < n). past_part place n (filled ns) l ∙ sym (filled_some (n - place) ns (λ e. omega (arith, e, l))))
    (λ (l : n ≤ place). past_whole place n (filled ns) l ∙ ap (λ i. past i (filled ns)) (let e : place - n ≡ 0 = omega (arith, le) in e)
    ∙ past_zero ns ∙ sym (filled_none (n - place) ns (omega (arith, l))))
    (cases_lt place n))
    (cases_eq n 0)

pub past_behind : (place n : ℕ) (ns : List ℕ) → n ≤ place → past place (filled (n ∷ ns)) ≡ past (place - n) (filled ns)
past_behind place n ns le =
    ⊎_elim
    (λ (z : n ≡ 0). ap (past place) (filled_none n ns z) ∙ ap (λ i. past i (filled ns)) (let e : place ≡ place - n = omega (arith, z) in e))
    (λ (z : n ≡ 0 → ⊥). ap (past place) (filled_some n ns z) ∙ past_whole place n (filled ns) le)
    (cases_eq n 0)

pub up_to_first : (place n : ℕ) (ns : List ℕ) → place ≤ n → up_to place (filled (n ∷ ns)) ≡ filled (place ∷ [])
up_to_first place n ns le =
    ⊎_elim
    (λ (z : place ≡ 0). ap (λ i. up_to i (filled (n ∷ ns))) z ∙ up_to_zero (filled (n ∷ ns)) ∙ sym (filled_none place [] z))
    (λ (z : place ≡ 0 → ⊥).
    ap (up_to place) (filled_some n ns (λ e. z (omega (arith, e, le)))) ∙ up_to_more place n (filled ns) z
    ∙ ap (λ i. i ∷ up_to (place - n) (filled ns)) (let e : min place n ≡ place = omega (arith, le) in e)
    ∙ ap (λ i. place ∷ up_to i (filled ns)) (let e : place - n ≡ 0 = omega (arith, le) in e)
    ∙ ap (λ s. place ∷ s) (up_to_zero (filled ns)) ∙ sym (filled_some place [] z))
    (cases_eq place 0)

pub up_to_behind :
    (place n : ℕ) (ns : List ℕ) → n ≤ place → up_to place (filled (n ∷ ns)) ≡ filled (n ∷ []) ++ up_to (place - n) (filled ns)
up_to_behind place n ns le =
    ⊎_elim
    (λ (z : n ≡ 0). ap (up_to place) (filled_none n ns z) ∙ ap (λ i. up_to i (filled ns)) (let e : place ≡ place - n = omega (arith, z) in
    e) ∙ ap (λ s. s ++ up_to (place - n) (filled ns)) (sym (filled_none n [] z)))
    (λ (z : n ≡ 0 → ⊥).
    ap (up_to place) (filled_some n ns z) ∙ up_to_more place n (filled ns) (λ e. z (omega (arith, e, le)))
    ∙ ap (λ i. i ∷ up_to (place - n) (filled ns)) (let e : min place n ≡ n = omega (arith, le) in e)
    ∙ ap (λ s. s ++ up_to (place - n) (filled ns)) (sym (filled_some n [] z)))
    (cases_eq n 0)

-- the segments that were taken off a queue, and one more of them
pub up_to_proceeds : (part n k : ℕ) (ns : List ℕ) → 0 < part → k ≡ min part n →
    up_to part (filled (n ∷ ns)) ≡ filled (k ∷ []) ++ up_to (part - k) (filled ns)
up_to_proceeds part n k ns some e =
    ⊎_elim
    (λ (l : part < n).
    up_to_first part n ns (omega (arith, l)) ∙ ap (λ i. filled (i ∷ [])) (let p : part ≡ k = omega (arith, e, l) in p)
    ∙ sym (ap (λ s. filled (k ∷ []) ++ s) (ap (λ i. up_to i (filled ns)) (let p : part - k ≡ 0 = omega (arith, e, l) in p)
    ∙ up_to_zero (filled ns)) ∙ append-nil (filled (k ∷ []))))
    (λ (l : n ≤ part). up_to_behind part n ns l
    ∙ ap (λ i. filled (i ∷ []) ++ up_to (part - i) (filled ns)) (let p : n ≡ k = omega (arith, e, l) in p))
    (cases_lt part n)

pub past_proceeds : (part n k : ℕ) (ns : List ℕ) → k ≡ min part n → past (part - k) (filled ((n - k) ∷ ns)) ≡ past part (filled (n ∷ ns))
past_proceeds part n k ns e =
    ⊎_elim
    (λ (l : part < n).
    let same : k ≡ part = omega (arith, e, l) in
    ap (λ i. past i (filled ((n - k) ∷ ns))) (let p : part - k ≡ 0 = omega (arith, same) in p) ∙ past_zero ((n - k) ∷ ns)
    ∙ ap (λ i. filled ((n - i) ∷ ns)) same ∙ sym (past_first part n ns (omega (arith, l))))
    (λ (l : n ≤ part).
    let same : k ≡ n = omega (arith, e, l) in
    ap (past (part - k)) (filled_none (n - k) ns (omega (arith, same))) ∙ ap (λ i. past (part - i) (filled ns)) same
    ∙ sym (past_behind part n ns l))
    (cases_lt part n)

-- what is behind a place that lies in a segment of the list
pub past_at : (ns : List ℕ) (i used : ℕ) → i ≤ length ns → past (sum (take i ns) + used) ns ≡ past used (drop i ns)
past_at ns zero used le = ap (λ k. past k ns) (let e : sum [] + used ≡ used = omega arith in e)
past_at [] (suc i) used le = absurd (omega (arith, le))
past_at (n ∷ ns) (suc i) used le =
    past_whole (sum (n ∷ take i ns) + used) n ns (omega (arith, sum-cons n (take i ns)))
    ∙ ap (λ k. past k ns) (let e : sum (n ∷ take i ns) + used - n ≡ sum (take i ns) + used = omega (arith, sum-cons n (take i ns)) in e)
    ∙ past_at ns i used (omega (arith, le))

-- a list without empty segments has none at its front, and none behind it
length-filled : (ns : List ℕ) → length (filled ns) ≤ length ns
length-filled [] = omega arith
length-filled (n ∷ ns) =
    ⊎_elim
    (λ (z : n ≡ 0). omega (arith, ap length (filled_none n ns z), length-filled ns))
    (λ (z : n ≡ 0 → ⊥). omega (arith, ap length (filled_some n ns z), length-filled ns))
    (cases_eq n 0)

pub head_filled : (n : ℕ) (ns : List ℕ) → filled (n ∷ ns) ≡ n ∷ ns → n ≡ 0 → ⊥
head_filled n ns all z = omega (arith, ap length (sym (filled_none n ns z) ∙ all), length-filled ns)

pub tail_filled : (n : ℕ) (ns : List ℕ) → filled (n ∷ ns) ≡ n ∷ ns → filled ns ≡ ns
tail_filled n ns all = ap (drop 1) (sym (filled_some n ns (head_filled n ns all)) ∙ all)

pub filled-past : (place : ℕ) (ns : List ℕ) → filled ns ≡ ns → filled (past place ns) ≡ past place ns
filled-past place [] all = ap filled (past_none place) ∙ sym (past_none place)
filled-past place (n ∷ ns) all =
    ⊎_elim
    (λ (l : place < n). ap filled (past_part place n ns l) ∙ filled_some (n - place) ns (λ e. omega (arith, e, l))
    ∙ ap (λ s. (n - place) ∷ s) (tail_filled n ns all) ∙ sym (past_part place n ns l))
    (λ (l : n ≤ place). ap filled (past_whole place n ns l) ∙ filled-past (place - n) ns (tail_filled n ns all)
    ∙ sym (past_whole place n ns l))
    (cases_lt place n)

pub filled-up_to : (place : ℕ) (ns : List ℕ) → filled ns ≡ ns → filled (up_to place ns) ≡ up_to place ns
filled-up_to place [] all = ap filled (up_to_none place) ∙ sym (up_to_none place)
filled-up_to place (n ∷ ns) all =
    ⊎_elim
    (λ (z : place ≡ 0). rw z (ap filled (up_to_zero (n ∷ ns)) ∙ sym (up_to_zero (n ∷ ns))))
    (λ (z : place ≡ 0 → ⊥).
    ap filled (up_to_more place n ns z)
    ∙ filled_some (min place n) (up_to (place - n) ns) (λ e. head_filled n ns all (omega (arith, e, z)))
    ∙ ap (λ s. min place n ∷ s) (filled-up_to (place - n) ns (tail_filled n ns all)) ∙ sym (up_to_more place n ns z))
    (cases_eq place 0)

-- a place in the first segment
up_to_inside : (n used : ℕ) (ns : List ℕ) → used < n → up_to used (n ∷ ns) ≡ filled (used ∷ [])
up_to_inside n used ns l =
    ⊎_elim
    (λ (z : used ≡ 0). ap (λ i. up_to i (n ∷ ns)) z ∙ up_to_zero (n ∷ ns) ∙ sym (filled_none used [] z))
    (λ (z : used ≡ 0 → ⊥).
    up_to_more used n ns z
    ∙ ap (λ i. i ∷ up_to (used - n) ns) (let e : min used n ≡ used = omega (arith, l) in e)
    ∙ ap (λ i. used ∷ up_to i ns) (let e : used - n ≡ 0 = omega (arith, l) in e)
    ∙ ap (λ s. used ∷ s) (up_to_zero ns) ∙ sym (filled_some used [] z))
    (cases_eq used 0)

-- what is before a place that lies in a segment of the list
pub up_to_at : (ns : List ℕ) (i used : ℕ) → filled ns ≡ ns → i ≤ length ns → (i < length ns → used < slice_index ns i) →
    (i ≡ length ns → used ≡ 0) → up_to (sum (take i ns) + used) ns ≡ take i ns ++ filled (used ∷ [])
up_to_at [] zero used all le inside end = up_to_none (sum [] + used) ∙ sym (filled_none used [] (end refl))
up_to_at (n ∷ ns) zero used all le inside end =
    ap (λ k. up_to k (n ∷ ns)) (let e : sum [] + used ≡ used = omega arith in e) ∙ up_to_inside n used ns (inside (omega arith))
up_to_at [] (suc i) used all le inside end = absurd (omega (arith, le))
up_to_at (n ∷ ns) (suc i) used all le inside end =
    let some = head_filled n ns all in
    let whole : n ≤ sum (n ∷ take i ns) + used = omega (arith, sum-cons n (take i ns)) in
    up_to_more (sum (n ∷ take i ns) + used) n ns (λ e. some (omega (arith, e, whole)))
    ∙ ap (λ k. k ∷ up_to (sum (n ∷ take i ns) + used - n) ns) (let e : min (sum (n ∷ take i ns) + used) n ≡ n = omega (arith, whole) in e)
    ∙ ap (λ k. n ∷ up_to k ns) (let e : sum (n ∷ take i ns) + used - n ≡ sum (take i ns) + used =
    omega (arith, sum-cons n (take i ns)) in e)
    ∙ ap (λ s. n ∷ s) (up_to_at ns i used (tail_filled n ns all) (omega (arith, le)) (λ h. inside (omega (arith, h)))
    (λ e. end (omega (arith, e))))

-- the first segment before a place, and what is left of those before a place
pub first-up_to : (place : ℕ) (ns : List ℕ) → first (up_to place ns) ≡ min place (first ns)
first-up_to place [] = ap first (up_to_none place) ∙ (let e : first [] ≡ min place 0 = omega arith in e)
first-up_to place (n ∷ ns) =
    ⊎_elim
    (λ (z : place ≡ 0). let e : first (up_to place (n ∷ ns)) ≡ 0 = rw z (ap first (up_to_zero (n ∷ ns))) in omega (arith, e, z))
    (λ (z : place ≡ 0 → ⊥). ap first (up_to_more place n ns z))
    (cases_eq place 0)

pub past-up_to : (m place : ℕ) (ns : List ℕ) → past m (up_to place ns) ≡ up_to (place - m) (past m ns)
past-up_to m place [] = ap (past m) (up_to_none place) ∙ past_none m ∙ sym (ap (up_to (place - m)) (past_none m) ∙ up_to_none (place - m))
past-up_to m place (n ∷ ns) =
    ⊎_elim
    (λ (z : place ≡ 0).
    let e : place - m ≡ 0 = omega (arith, z) in
    ap (λ i. past m (up_to i (n ∷ ns))) z ∙ ap (past m) (up_to_zero (n ∷ ns)) ∙ past_none m
    ∙ sym (ap (λ i. up_to i (past m (n ∷ ns))) e ∙ up_to_zero (past m (n ∷ ns))))
    (λ (z : place ≡ 0 → ⊥).
    ap (past m) (up_to_more place n ns z)
    ∙ ⊎_elim
    (λ (l : m < min place n).
    let short : m < n = omega (arith, l) in
    let some : place - m ≡ 0 → ⊥ = λ (e : place - m ≡ 0). omega (arith, e, l) in
    past_part m (min place n) (up_to (place - n) ns) l
    ∙ ap (λ i. i ∷ up_to (place - n) ns) (let e : min place n - m ≡ min (place - m) (n - m) = omega arith in e)
    ∙ ap (λ i. min (place - m) (n - m) ∷ up_to i ns) (let e : place - n ≡ place - m - (n - m) = omega (arith, short) in e)
    ∙ sym (ap (up_to (place - m)) (past_part m n ns short) ∙ up_to_more (place - m) (n - m) ns some))
    (λ (l : min place n ≤ m).
    past_whole m (min place n) (up_to (place - n) ns) l
    ∙ ⊎_elim
    (λ (k : place < n).
    let none : place - n ≡ 0 = omega (arith, k) in
    let gone : place - m ≡ 0 = omega (arith, k, l) in
    ap (λ i. past (m - min place n) (up_to i ns)) none ∙ ap (past (m - min place n)) (up_to_zero ns) ∙ past_none (m - min place n)
    ∙ sym (ap (λ i. up_to i (past m (n ∷ ns))) gone ∙ up_to_zero (past m (n ∷ ns))))
    (λ (k : n ≤ place).
    let is : m - min place n ≡ m - n = omega (arith, k) in
    let behind : n ≤ m = omega (arith, k, l) in
    ap (λ i. past i (up_to (place - n) ns)) is ∙ past-up_to (m - n) (place - n) ns
    ∙ ap (λ i. up_to i (past (m - n) ns)) (let e : place - n - (m - n) ≡ place - m = omega (arith, behind) in e)
    ∙ sym (ap (up_to (place - m)) (past_whole m n ns behind)))
    (cases_lt place n))
    (cases_lt m (min place n)))
    (cases_eq place 0)

-- a place past the end is the end
pub up_to_min : (place : ℕ) (ns : List ℕ) → filled ns ≡ ns → up_to (min place (sum ns)) ns ≡ up_to place ns
up_to_min place [] all = up_to_none (min place (sum [])) ∙ sym (up_to_none place)
up_to_min place (n ∷ ns) all =
    let some = head_filled n ns all in
    let s = sum-cons n ns in
    ⊎_elim
    (λ (z : place ≡ 0). ap (λ i. up_to i (n ∷ ns)) (let e : min place (sum (n ∷ ns)) ≡ place = omega (arith, z) in e))
    (λ (z : place ≡ 0 → ⊥).
    up_to_more (min place (sum (n ∷ ns))) n ns (λ (e : min place (sum (n ∷ ns)) ≡ 0). some (omega (arith, e, s, z)))
    ∙ ap (λ i. i ∷ up_to (min place (sum (n ∷ ns)) - n) ns) (let e : min (min place (sum (n ∷ ns))) n ≡ min place n = omega (arith, s) in e)
    ∙ ap (λ i. min place n ∷ up_to i ns) (let e : min place (sum (n ∷ ns)) - n ≡ min (place - n) (sum ns) = omega (arith, s) in e)
    ∙ ap (λ t. min place n ∷ t) (up_to_min (place - n) ns (tail_filled n ns all))
    ∙ sym (up_to_more place n ns z))
    (cases_eq place 0)

-- where a byte is left, the first segment isn't empty
pub first_some : (ns : List ℕ) → filled ns ≡ ns → 0 < sum ns → 0 < first ns
first_some [] all some = absurd (omega (arith, some))
first_some (n ∷ ns) all some = let h = head_filled n ns all in omega (arith, h)
