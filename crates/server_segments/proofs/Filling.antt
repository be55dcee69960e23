-- Bytes that are put at a place, one part after another.
use Rattle.std.proofs.Common.{◌≡◌, ℕ, ◌+◌, ◌≤◌, List, ◌++◌, length, take, drop, sym, ◌∙◌, ap, append_assoc}
use Rattle.std.proofs.lemmas.List.{drop-drop, length-take-le, take_at, drop_at}
use Rattle.std.proofs.Math.Seq.{take-add}

-- what is put at a place, with what stays behind it
pub placed : (at : ℕ) (xs ys : List ℕ) → take at xs ++ (ys ++ drop (length ys) (drop at xs)) ≡ take at xs ++ ys ++ drop (at + length ys) xs
placed at xs ys =
    sym (append_assoc (take at xs) ys (drop (length ys) (drop at xs))) ∙ ap (λ s. (take at xs ++ ys) ++ s) (drop-drop (length ys) at xs)

-- a buffer that was filled so far takes one part more
pub filled_more : (room left : List ℕ) (done n : ℕ) (now part : List ℕ) → done ≤ length room → done ≤ length left →
    now ≡ take done left ++ drop done room → part ≡ take n (drop done left) →
    take done now ++ part ++ drop (done + n) now ≡ take (done + n) left ++ drop (done + n) room
filled_more room left done n now part hr hl e p =
    let t : length (take done left) ≡ done = length-take-le done left hl in
    let front : take done now ≡ take done left = ap (take done) e ∙ take_at (take done left) (drop done room) done t in
    let back : drop (done + n) now ≡ drop (done + n) room =
    sym (drop-drop n done now) ∙ ap (drop n) (ap (drop done) e ∙ drop_at (take done left) (drop done room) done t) ∙ drop-drop n done room
    in
    let mid : take (done + n) left ≡ take done left ++ part = take-add done n left ∙ ap (λ s. take done left ++ s) (sym p) in
    cc
