-- One stretch of the guest's addresses more behind some.
use Rattle.std.proofs.Common.{◌≡◌, ◌∙◌, ℕ, suc, ◌+◌, ◌-◌, ◌<◌, List, [], ◌∷◌, ◌++◌, length, drop, slice_set, refl, ap, sym, subst, arith}
use Rattle.fs_chain.specs.declared.chain_handle.ChainHandle.{ChainHandle}
use Rattle.fs_chain_c.specs.declared.ranges.FsRange.{FsRange}
use Rattle.fs_chain_c.specs.Ranges.{AreReplyRanges, IsReplyRange, range_bytes}

pub bytes_more : (ss : List FsRange) (s : FsRange) → range_bytes (ss ++ s ∷ []) ≡ range_bytes ss + s.len
bytes_more [] s = omega arith
bytes_more (x ∷ ss) s = let more = bytes_more ss s in omega (arith, more)

pub ranges_more : (w : ChainHandle) (from most : ℕ) (ss : List FsRange) (s : FsRange) → AreReplyRanges w from most ss
    → IsReplyRange w (from + range_bytes ss) (most - range_bytes ss) s → AreReplyRanges w from most (ss ++ s ∷ [])
ranges_more w from most [] s are is =
    let at : from + 0 ≡ from = omega arith in
    let left : most - 0 ≡ most = omega arith in
    (let P : ℕ → ℕ → Type 0 = λ a m. IsReplyRange w a m s in subst (λ (a : ℕ). P a most) at (subst (λ (m : ℕ). P (from + 0) m) left is), tt)
ranges_more w from most (x ∷ ss) s are is =
    let at : from + (x.len + range_bytes ss) ≡ from + x.len + range_bytes ss = omega arith in
    let left : most - (x.len + range_bytes ss) ≡ most - x.len - range_bytes ss = omega arith in
    let P : ℕ → ℕ → Type 0 = λ a m. IsReplyRange w a m s in
    let there = subst (λ (a : ℕ). P a (most - x.len - range_bytes ss)) at
    (subst (λ (m : ℕ). P (from + (x.len + range_bytes ss)) m) left is) in
    (are.0, ranges_more w (from + x.len) (most - x.len) ss s are.1 there)

-- one more, by where the walk through the bytes stands
pub ranges_next : (w : ChainHandle) (from most : ℕ) (ss : List FsRange) (s : FsRange) (at left : ℕ) → AreReplyRanges w from most ss
    → at ≡ from + range_bytes ss → left + range_bytes ss ≡ most → IsReplyRange w at left s → AreReplyRanges w from most (ss ++ s ∷ [])
ranges_next w from most ss s at left are here sum is =
    let rest : left ≡ most - range_bytes ss = omega (arith, sum) in
    let P : ℕ → ℕ → Type 0 = λ a m. IsReplyRange w a m s in
    ranges_more w from most ss s are (subst (λ (a : ℕ). P a (most - range_bytes ss)) here (subst (λ (m : ℕ). P at m) rest is))

put_suc : (found old : List FsRange) (s : FsRange) → length found < length old
    → slice_set (found ++ drop (length found) old) (length found) s ≡ (found ++ s ∷ []) ++ drop (suc (length found)) old
put_suc [] (y ∷ old) s low = refl
put_suc (x ∷ found) (y ∷ old) s low = ap (λ (l : List FsRange). x ∷ l) (put_suc found old s (omega (arith, low)))
put_suc _ [] s low = absurd (omega (arith, low))

-- it stands over the next of some windows
pub put_next : (found old now : List FsRange) (k : ℕ) (s : FsRange) → length found ≡ k → now ≡ found ++ drop k old → k < length old
    → slice_set now k s ≡ (found ++ s ∷ []) ++ drop (k + 1) old
put_next found old now k s count was low =
    let next : suc (length found) ≡ k + 1 = omega (arith, count) in
    let there : length found < length old = omega (arith, count, low) in
    (λ j. slice_set (was j) k s) ∙ (λ j. slice_set (found ++ drop (sym count j) old) (sym count j) s) ∙ put_suc found old s there
    ∙ ap (λ (n : ℕ). (found ++ s ∷ []) ++ drop n old) next
