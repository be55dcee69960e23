-- One stretch more behind some.
use Rattle.std.proofs.Common.{◌≡◌, ◌∙◌, ℕ, suc, ◌+◌, ◌-◌, ◌<◌, Bool, List, [], ◌∷◌, ◌++◌, length, drop, slice_set, refl, ap, sym, subst}
use Rattle.std.proofs.Common.{arith}
use Rattle.fs_chain.specs.declared.chain_handle.ChainHandle.{ChainHandle}
use Rattle.fs_chain_c.specs.declared.windows.FsWindow.{FsWindow}
use Rattle.fs_chain_c.specs.Windows.{AreStretches, IsStretch, covered}

pub covered_more : (ss : List FsWindow) (s : FsWindow) → covered (ss ++ s ∷ []) ≡ covered ss + s.len
covered_more [] s = omega arith
covered_more (x ∷ ss) s = let more = covered_more ss s in omega (arith, more)

pub stretches_more : (w : ChainHandle) (d : Bool) (from most : ℕ) (ss : List FsWindow) (s : FsWindow) → AreStretches w d from most ss
    → IsStretch w d (from + covered ss) (most - covered ss) s → AreStretches w d from most (ss ++ s ∷ [])
stretches_more w d from most [] s are is =
    let at : from + 0 ≡ from = omega arith in
    let left : most - 0 ≡ most = omega arith in
    (let P : ℕ → ℕ → Type 0 = λ a m. IsStretch w d a m s in subst (λ (a : ℕ). P a most) at (subst (λ (m : ℕ). P (from + 0) m) left is), tt)
stretches_more w d from most (x ∷ ss) s are is =
    let at : from + (x.len + covered ss) ≡ from + x.len + covered ss = omega arith in
    let left : most - (x.len + covered ss) ≡ most - x.len - covered ss = omega arith in
    let P : ℕ → ℕ → Type 0 = λ a m. IsStretch w d a m s in
    let there = subst (λ (a : ℕ). P a (most - x.len - covered ss)) at (subst (λ (m : ℕ). P (from + (x.len + covered ss)) m) left is) in
    (are.0, stretches_more w d (from + x.len) (most - x.len) ss s are.1 there)

-- one more, by where the walk through the bytes stands
pub stretches_next :
    (w : ChainHandle) (d : Bool) (from most : ℕ) (ss : List FsWindow) (s : FsWindow) (at left : ℕ) → AreStretches w d from most ss
    → at ≡ from + covered ss → left + covered ss ≡ most → IsStretch w d at left s → AreStretches w d from most (ss ++ s ∷ [])
stretches_next w d from most ss s at left are here sum is =
    let rest : left ≡ most - covered ss = omega (arith, sum) in
    let P : ℕ → ℕ → Type 0 = λ a m. IsStretch w d a m s in
    stretches_more w d from most ss s are (subst (λ (a : ℕ). P a (most - covered ss)) here (subst (λ (m : ℕ). P at m) rest is))

put_suc : (found old : List FsWindow) (s : FsWindow) → length found < length old
    → slice_set (found ++ drop (length found) old) (length found) s ≡ (found ++ s ∷ []) ++ drop (suc (length found)) old
put_suc [] (y ∷ old) s low = refl
put_suc (x ∷ found) (y ∷ old) s low = ap (λ (l : List FsWindow). x ∷ l) (put_suc found old s (omega (arith, low)))
put_suc _ [] s low = absurd (omega (arith, low))

-- it stands over the next of some windows
pub put_next : (found old now : List FsWindow) (k : ℕ) (s : FsWindow) → length found ≡ k → now ≡ found ++ drop k old → k < length old
    → slice_set now k s ≡ (found ++ s ∷ []) ++ drop (k + 1) old
put_next found old now k s count was low =
    let next : suc (length found) ≡ k + 1 = omega (arith, count) in
    let there : length found < length old = omega (arith, count, low) in
    (λ j. slice_set (was j) k s) ∙ (λ j. slice_set (found ++ drop (sym count j) old) (sym count j) s) ∙ put_suc found old s there
    ∙ ap (λ (n : ℕ). (found ++ s ∷ []) ++ drop n old) next
