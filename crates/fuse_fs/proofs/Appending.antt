-- A buffer that was made longer, filled and cut.
use Rattle.std.proofs.Common.{◌≡◌, ℕ, ◌+◌, ◌≤◌, List, ◌++◌, length, take, refl, ◌∙◌, arith, subst, length-append, append_assoc}
use Rattle.std.proofs.Math.Seq.{take-append-add}
use Rattle.std.proofs.lemmas.List.{take-take, length-take-le, take-append-le}

-- what was there, and the front of what was filled
pub preserved : (from n most : ℕ) (xs buf zs ds : List ℕ) → from ≤ length xs → n ≤ length buf → from + n ≤ most →
    take (from + n) (take most ((take from xs ++ (buf ++ zs)) ++ ds)) ≡ take from xs ++ take n buf
preserved from n most xs buf zs ds la ln lm =
    let e : length (take from xs) ≡ from = length-take-le from xs la in
    let lb : n ≤ length (buf ++ zs) = simp length-append (omega arith) in
    take-take (from + n) most ((take from xs ++ (buf ++ zs)) ++ ds) lm
    ∙ rw (append_assoc (take from xs) (buf ++ zs) ds)
    (subst (λ k. take (k + n) (take from xs ++ ((buf ++ zs) ++ ds)) ≡ take from xs ++ take n buf) e
    (rw (take-append-add (take from xs) ((buf ++ zs) ++ ds) n, take-append-le n (buf ++ zs) ds lb, take-append-le n buf zs ln) refl))
