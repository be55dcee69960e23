-- the halves of a pass are its part again, and the two of the first pass are the whole
use Rattle.std.proofs.Common.{◌≡◌, ℕ, suc, ◌+◌, ◌*◌, ◌^◌, ap, sym, ◌∙◌, arith}
use Rattle.std.proofs.lemmas.Nat.{pow-add}
use Rattle.fs_shared.specs.Laws.{HalvesAreWhole, JoinsGiveBack}

-- a part in halves, each in other units
halves_are : (a b n x y z : ℕ) → a * (2 * x) ≡ n * y → b * (2 * x) ≡ n * z → (a * z + b * y) * x ≡ n * (y * z)
halves_are a b n x y z p q =
    let first : a * (2 * x) * z ≡ n * y * z = ap (λ (k : ℕ). k * z) p in
    let second : b * (2 * x) * y ≡ n * z * y = ap (λ (k : ℕ). k * y) q in omega arith

power_up : (d : ℕ) → 2 ^ suc d ≡ 2 * 2 ^ d
power_up d = let one : suc d ≡ 1 + d = omega arith in ap (λ (k : ℕ). 2 ^ k) one ∙ pow-add 2 1 d

pub joins_give_back : JoinsGiveBack
joins_give_back v a b p q =
    halves_are a.parts b.parts v.parts (2 ^ v.depth) (2 ^ a.depth) (2 ^ b.depth)
    (ap (λ (k : ℕ). a.parts * k) (sym (power_up v.depth)) ∙ p) (ap (λ (k : ℕ). b.parts * k) (sym (power_up v.depth)) ∙ q)
    ∙ ap (λ (k : ℕ). v.parts * k) (sym (pow-add 2 a.depth b.depth))

whole_is : (a b y z : ℕ) → a * 2 ≡ y → b * 2 ≡ z → a * z + b * y ≡ y * z
whole_is a b y z p q =
    let first : a * 2 * z ≡ y * z = ap (λ (k : ℕ). k * z) p in
    let second : b * 2 * y ≡ z * y = ap (λ (k : ℕ). k * y) q in omega arith

pub halves_are_whole : HalvesAreWhole
halves_are_whole len h v p q =
    let mine : h.parts * 2 ≡ 2 ^ h.depth = omega (arith, p) in
    let theirs : v.parts * 2 ≡ 2 ^ v.depth = omega (arith, q) in
    whole_is h.parts v.parts (2 ^ h.depth) (2 ^ v.depth) mine theirs ∙ sym (pow-add 2 h.depth v.depth)
