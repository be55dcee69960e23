-- A list of windows that is cut at a place.
use Rattle.std.proofs.Common.{◌≡◌, ℕ, ◌+◌, ◌-◌, ◌≤◌, min, List, ◌∷◌, ◌++◌, length, map, take, drop, append_assoc, append-nil, refl, sym, ap}
use Rattle.std.proofs.Common.{◌∙◌, arith, ⊎_elim, ◌<◌}
use Rattle.std.proofs.lemmas.List.{drop-append-le, drop-map, drop_all, map-append, take-append-le, take-map, take_all}
use Rattle.std.proofs.lemmas.Bool.{cases_lt}
use Rattle.std.proofs.Math.Seq.{drop-append-add, take-append-add}
use Rattle.std.specs.Borrow.{Bor}
use Rattle.server_segments.specs.Segments.{joined}
use Rattle.vm_memory_core.specs.Host.{Host}
use Rattle.vm_memory_core.specs.Window.{Window, byte_in, places, places_of}
use Rattle.vm_memory_core.proofs.WindowLemmas.{length-span, take-put}

-- two lists, joined, are cut where the first ends or before
take_both : {X : Type 0} (xs ys : List X) (n k r : ℕ) → k ≡ min (length xs) n → r ≡ n - k → take n (xs ++ ys) ≡ take k xs ++ take r ys
take_both {X} xs ys n k r e f =
    ⊎_elim
    (λ (l : n < length xs).
    let all : k ≡ n = omega (arith, e, l) in
    let none : r ≡ 0 = omega (arith, all, f) in
    rw (all, none) (take-append-le n xs ys (omega (arith, l)) ∙ sym (append-nil (take n xs))))
    (λ (l : length xs ≤ n).
    let more : n ≡ length xs + r = omega (arith, e, f, l) in
    ap (λ i. take i (xs ++ ys)) more ∙ take-append-add xs ys r
    ∙ ap (λ (p : List X). p ++ take r ys) (sym (take_all k xs (omega (arith, e, l)))))
    (cases_lt n (length xs))

drop_both : {X : Type 0} (xs ys : List X) (n k r : ℕ) → k ≡ min n (length xs) → r ≡ n - k → drop n (xs ++ ys) ≡ drop k xs ++ drop r ys
drop_both {X} xs ys n k r e f =
    ⊎_elim
    (λ (l : n < length xs).
    let all : k ≡ n = omega (arith, e, l) in
    let none : r ≡ 0 = omega (arith, all, f) in
    rw (all, none) (drop-append-le n xs ys (omega (arith, l))))
    (λ (l : length xs ≤ n).
    let more : n ≡ length xs + r = omega (arith, e, f, l) in
    ap (λ i. drop i (xs ++ ys)) more ∙ drop-append-add xs ys r
    ∙ ap (λ (p : List X). p ++ drop r ys) (sym (drop_all k xs (omega (arith, e, l)))))
    (cases_lt n (length xs))

-- some bytes of a window more, of n that are asked for of those that are left
pub front_more :
    (h : Host) (ws : List Window) (i n k : ℕ) (w : Window) (old piece new : List ℕ) → drop i ws ≡ w ∷ drop (i + 1) ws → k ≡ min w.len n →
    piece ≡ take k (map (byte_in h) (places_of w)) → new ≡ old ++ piece →
    new ++ map (byte_in h) (take (n - k) (places (drop (i + 1) ws))) ≡ old ++ map (byte_in h) (take n (places (drop i ws)))
front_more h ws i n k w old piece new next is p e =
    let m : k ≡ min (length (places_of w)) n = omega (arith, is, length-span w.len w.block w.offset w.io) in
    let cut : take n (places (drop i ws)) ≡ take k (places_of w) ++ take (n - k) (places (drop (i + 1) ws)) =
    ap (λ l. take n (places l)) next ∙ take_both (places_of w) (places (drop (i + 1) ws)) n k (n - k) m refl in
    ap (λ l. l ++ map (byte_in h) (take (n - k) (places (drop (i + 1) ws))))
    (e ∙ ap (λ l. old ++ l) (p ∙ take-map (byte_in h) k (places_of w)))
    ∙ append_assoc old (map (byte_in h) (take k (places_of w))) (map (byte_in h) (take (n - k) (places (drop (i + 1) ws))))
    ∙ ap (λ l. old ++ l) (sym (map-append (byte_in h) (take k (places_of w)) (take (n - k) (places (drop (i + 1) ws))))
    ∙ ap (map (byte_in h)) (sym cut))

-- a copy of some bytes more
pub copy_more : (h : Host) (ws : List Window) (i n k done : ℕ) (w : Window) (old new piece : List ℕ) → drop i ws ≡ w ∷ drop (i + 1) ws →
    k ≡ min w.len n → length piece ≡ k → done + k ≤ length old →
    piece ≡ take k (map (byte_in h) (places_of w)) → new ≡ take done old ++ piece ++ drop (done + length piece) old →
    take (done + k) new ++ map (byte_in h) (take (n - k) (places (drop (i + 1) ws)))
    ≡ take done old ++ map (byte_in h) (take n (places (drop i ws)))
copy_more h ws i n k done w old new piece next is long fits p e =
    front_more h ws i n k w (take done old) piece (take (done + k) new) next is p
    (ap (take (done + k)) e ∙ take-put old piece done k (sym long) fits)

-- one segment more
pub segment_there : (h : Host) (ws : List Window) (i n k : ℕ) (w : Window) (old new : List (Bor (List ℕ))) →
    drop i ws ≡ w ∷ drop (i + 1) ws → k ≡ min n w.len →
    joined new ≡ joined old ++ drop k (map (byte_in h) (places_of w)) →
    joined new ++ map (byte_in h) (drop (n - k) (places (drop (i + 1) ws))) ≡ joined old ++ map (byte_in h) (drop n (places (drop i ws)))
segment_there h ws i n k w old new next is e =
    let m : k ≡ min n (length (places_of w)) = omega (arith, is, length-span w.len w.block w.offset w.io) in
    let cut : drop n (places (drop i ws)) ≡ drop k (places_of w) ++ drop (n - k) (places (drop (i + 1) ws)) =
    ap (λ l. drop n (places l)) next ∙ drop_both (places_of w) (places (drop (i + 1) ws)) n k (n - k) m refl in
    ap (λ l. l ++ map (byte_in h) (drop (n - k) (places (drop (i + 1) ws))))
    (e ∙ ap (λ l. joined old ++ l) (drop-map (byte_in h) k (places_of w)))
    ∙ append_assoc (joined old) (map (byte_in h) (drop k (places_of w))) (map (byte_in h) (drop (n - k) (places (drop (i + 1) ws))))
    ∙ ap (λ l. joined old ++ l) (sym (map-append (byte_in h) (drop k (places_of w)) (drop (n - k) (places (drop (i + 1) ws))))
    ∙ ap (map (byte_in h)) (sym cut))
