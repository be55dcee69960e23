-- Sums over passes, and lists that are changed page by page.
use Rattle.std.proofs.Common.{◌≡◌, ℕ, zero, suc, ◌+◌, ◌*◌, ◌<◌, ◌≤◌, List, [], ◌∷◌, ◌++◌, length, set, refl, sym, ap, ◌∙◌, arith}
use mathlib.Core.Option.{some, some-injective, some-ne-none}
use lib.ListN.{get_elem?}
use Rattle.vm_atomic_bitmaps.specs.declared.counts.Tally.{Tally}
use Rattle.vm_atomic_bitmaps.specs.declared.counts.PageCounts.{PageCounts}
use Rattle.vm_atomic_bitmaps.specs.Counts.{tally_of, each_tally, no_tally}
use Rattle.vm_atomic_bitmaps.specs.Rule.{total_by}

pub total_set : (f : PageCounts → ℕ) (l : List PageCounts) (i : ℕ) (v w : PageCounts) → get_elem? l i ≡ some v →
    total_by f (set l i w) + f v ≡ total_by f l + f w
total_set f [] i v w e = absurd (some-ne-none v (sym e))
total_set f (x ∷ xs) zero v w e = let is : f x ≡ f v = ap f (some-injective x v e) in omega arith
total_set f (x ∷ xs) (suc i) v w e = let r = total_set f xs i v w e in omega arith

pub total_snoc : (f : PageCounts → ℕ) (l : List PageCounts) (v : PageCounts) → total_by f (l ++ v ∷ []) ≡ total_by f l + f v
total_snoc f [] v = omega arith
total_snoc f (x ∷ xs) v = let r = total_snoc f xs v in omega arith

pub total_zero :
    (f : PageCounts → ℕ) (l : List PageCounts) → ((i : ℕ) (v : PageCounts) → get_elem? l i ≡ some v → f v ≡ 0) → total_by f l ≡ 0
total_zero f [] h = refl
total_zero f (x ∷ xs) h = let one : f x ≡ 0 = h 0 x refl in let r = total_zero f xs (λ i v e. h (suc i) v e) in omega arith

pub total_part : (f : PageCounts → ℕ) (l : List PageCounts) (i : ℕ) (v : PageCounts) → get_elem? l i ≡ some v → f v ≤ total_by f l
total_part f [] i v e = absurd (some-ne-none v (sym e))
total_part f (x ∷ xs) zero v e = let is : f x ≡ f v = ap f (some-injective x v e) in omega arith
total_part f (x ∷ xs) (suc i) v e = let r = total_part f xs i v e in omega arith

spread : (a b c k : ℕ) → a ≡ b * k → (b + c) * k ≡ a + c * k
spread a b c k e = omega (arith, e)

pub total_times : (k : ℕ) (f g : PageCounts → ℕ) (l : List PageCounts) →
    ((i : ℕ) (v : PageCounts) → get_elem? l i ≡ some v → g v ≡ f v * k) → total_by g l ≡ total_by f l * k
total_times k f g [] h = omega arith
total_times k f g (x ∷ xs) h =
    let one : g x ≡ f x * k = h 0 x refl in
    let r = total_times k f g xs (λ i v e. h (suc i) v e) in
    ap (λ (n : ℕ). g x + n) r ∙ sym (spread (g x) (f x) (total_by f xs) k one)

-- where one pass has all of g, and f is 0 wherever g is, that pass has all of f
pub total_alone : (g f : PageCounts → ℕ) (l : List PageCounts) (i : ℕ) (v : PageCounts) → get_elem? l i ≡ some v → total_by g l ≡ g v
    → ((j : ℕ) (u : PageCounts) → get_elem? l j ≡ some u → g u ≡ 0 → f u ≡ 0) → total_by f l ≡ f v
total_alone g f [] i v e all h = absurd (some-ne-none v (sym e))
total_alone g f (x ∷ xs) zero v e all h =
    let is : g x ≡ g v = ap g (some-injective x v e) in
    let same : f x ≡ f v = ap f (some-injective x v e) in
    let none : total_by g xs ≡ 0 = omega arith in
    let r = total_zero f xs (λ j u e'. h (suc j) u e' (let le = total_part g xs j u e' in omega arith)) in omega arith
total_alone g f (x ∷ xs) (suc i) v e all h =
    let le = total_part g xs i v e in
    let first : g x ≡ 0 = omega arith in
    let none : f x ≡ 0 = h 0 x refl first in
    let r = total_alone g f xs i v e (omega arith) (λ j u e' z. h (suc j) u e' z) in omega arith

pub length-each_tally : (f : ℕ → Tally → Tally) (k : ℕ) (l : List Tally) → length (each_tally f k l) ≡ length l
length-each_tally f k [] = refl
length-each_tally f k (t ∷ ts) = ap suc (length-each_tally f (suc k) ts)

at_each_from : (f : ℕ → Tally → Tally) (k : ℕ) (l : List Tally) (p q : ℕ) → p < length l → q ≡ k + p →
    tally_of (each_tally f k l) p ≡ f q (tally_of l p)
at_each_from f k [] p q h e = absurd (omega arith)
at_each_from f k (t ∷ ts) zero q h e = let is : k ≡ q = omega arith in ap (λ (n : ℕ). f n t) is
at_each_from f k (t ∷ ts) (suc p) q h e = at_each_from f (suc k) ts p q (omega arith) (omega arith)

pub at_each : (f : ℕ → Tally → Tally) (l : List Tally) (p : ℕ) → p < length l → tally_of (each_tally f 0 l) p ≡ f p (tally_of l p)
at_each f l p h = at_each_from f 0 l p p h (omega arith)

pub at_past : (l : List Tally) (p : ℕ) → length l ≤ p → tally_of l p ≡ no_tally
at_past [] p h = refl
at_past (t ∷ ts) zero h = absurd (omega arith)
at_past (t ∷ ts) (suc p) h = at_past ts p (omega arith)

pub each_same :
    (f g : ℕ → Tally → Tally) → ((p : ℕ) (t : Tally) → f p t ≡ g p t) → (k : ℕ) (l : List Tally) → each_tally f k l ≡ each_tally g k l
each_same f g h k [] = refl
each_same f g h k (t ∷ ts) = λ i. h k t i ∷ each_same f g h (suc k) ts i
