-- a read into a part of a block
use Rattle.std.proofs.Common.{◌≡◌, ℕ, ◌+◌, List, ◌++◌, length, take, drop, Result, Ok, Err, refl, sym, ◌∙◌, ap, append_assoc, arith}
use Rattle.std.proofs.lemmas.List.{drop-drop, length-take-le, take-append-drop, drop-take}
use borrow.Rule.Slice.PartMut.{put_mid}
use Rattle.vm_memory_core.specs.Volatile.{moved, bytes_answer, read_answer}

-- what stays of a part of a list, with what is behind the part
tail : (xs : List ℕ) (m d : ℕ) → drop m (take (m + d) xs) ++ drop (m + d) xs ≡ drop m xs
tail xs m d = rw (drop-take m d xs) (ap (λ s. take d (drop m xs) ++ s) (sym (drop-drop d m xs)) ∙ take-append-drop d (drop m xs))

-- a part whose front was read stands in the block as what was read does
pub lands : (block now : List ℕ) (at k m d : ℕ) → k ≡ m + d → length now ≡ k → now ≡ take m now ++ drop m (take k (drop at block)) →
    put_mid at k block now ≡ take at block ++ take m now ++ drop (at + length (take m now)) block
lands block now at k m d e n r =
    let front : length (take m now) ≡ m = length-take-le m now (omega (arith, e, n)) in
    let parts : drop m (take k (drop at block)) ++ drop k (drop at block) ≡ drop (at + m) block =
    ap (λ i. drop m (take i (drop at block)) ++ drop i (drop at block)) e ∙ tail (drop at block) m d ∙ drop-drop m at block
    in
    let whole : now ++ drop k (drop at block) ≡ take m now ++ drop (at + length (take m now)) block =
    ap (λ s. s ++ drop k (drop at block)) r ∙ append_assoc (take m now) (drop m (take k (drop at block))) (drop k (drop at block))
    ∙ ap (λ s. take m now ++ s) (parts ∙ ap (λ i. drop (at + i) block) (sym front))
    in
    ap (λ s. take at block ++ s) whole ∙ sym (append_assoc (take at block) (take m now) (drop (at + length (take m now)) block))

-- an answer with the bytes that came is the answer by what stands in the buffer
pub same_answer : {E : Type 0} (r : Result ℕ E) (now : List ℕ) → read_answer r (take (moved r) now) ≡ bytes_answer r now
same_answer (Ok n) now = refl
same_answer (Err e) now = refl
