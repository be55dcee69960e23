-- Two passes of one bitmap that mark and gather.
use Rattle.std.proofs.Common.{◌≡◌, ℕ, ◌+◌, ◌*◌, ◌^◌, sym, ap, ◌∙◌, arith}
use Rattle.std.proofs.lemmas.Nat.{pow-add}
use Rattle.vm_atomic_bitmaps.specs.declared.counts.PageCounts.{PageCounts}
use Rattle.vm_atomic_bitmaps.specs.Counts.{both_passes, IsWhole}
use Rattle.worked_callers.specs.Marks.{HasHalf}

whole_is : (a b y z : ℕ) → 2 * a ≡ y → 2 * b ≡ z → a * z + b * y ≡ y * z
whole_is a b y z p q =
    let first : 2 * a * z ≡ y * z = ap (λ (k : ℕ). k * z) p in
    let second : 2 * b * y ≡ z * y = ap (λ (k : ℕ). k * y) q in omega arith

-- two halves are the whole
pub halves_whole : (v w : PageCounts) → HasHalf v → HasHalf w → IsWhole (both_passes v w)
halves_whole v w p q = whole_is v.parts w.parts (2 ^ v.depth) (2 ^ w.depth) p q ∙ sym (pow-add 2 v.depth w.depth)
