-- Bytes that are put or read part by part.
use Rattle.std.proofs.Common.{◌≡◌, ℕ, ◌+◌, ◌-◌, ◌<◌, ◌≤◌, Bool, false, true, List, [], ◌++◌, length, take, drop, slice_range, Option}
use Rattle.std.proofs.Common.{Result, Ok, Err, arith, sym}
use Rattle.std.proofs.Common.{ap, ◌∙◌, subst, le_refl, append_assoc, append-nil, length-append, take-append-drop, drop_at, length-take-le}
use Rattle.std.proofs.Common.{take_all}
use Rattle.std.proofs.lemmas.List.{length-drop}
use Rattle.std.proofs.lemmas.Slice.{take-put_mid_below}
use Rattle.std.specs.Io.KnownBytes.{Appends, Consumes, Keeps}
use Rattle.std.proofs.KnownBytes.{Appends-trans, Consumes-trans, Consumes-kept}
use Rattle.std.specs.Prelude.{IsErr, OnOk}
use Rattle.fs_record.specs.Streams.{Leaves}
use borrow.Rule.Slice.PartMut.{put_mid, post_of}
use lib.Seq.{take-add, take-append-le}

-- a part that was put, and what is left behind it
pub put_more : (bytes part rest : List ℕ) (n m : ℕ) (a b c : Option (List ℕ)) → m ≡ length rest - n → bytes ≡ part ++ rest
    → Appends a b part → Appends b c (take n rest)
    → (x : List ℕ) × (bytes ≡ x ++ take m (drop n rest)) × Appends a c x
put_more bytes part rest n m a b c long whole before more =
    let all : take m (drop n rest) ≡ drop n rest =
    ap (λ k. take k (drop n rest)) (long ∙ sym (length-drop n rest)) ∙ take_all (length (drop n rest)) (drop n rest) (le_refl _) in (
      part ++ take n rest,
      whole ∙ ap (λ l. part ++ l) (sym (take-append-drop n rest)) ∙ sym (append_assoc part (take n rest) (drop n rest))
          ∙ ap (λ l. (part ++ take n rest) ++ l) (sym all),
      Appends-trans a b c part (take n rest) before more,
    )

slice_range-put_mid : (a k n : ℕ) (xs ys : List ℕ) → a ≤ length xs → n ≤ length ys → slice_range (put_mid a k xs ys) a (a + n) ≡ take n ys
slice_range-put_mid a k n xs ys within fits =
    let same : (a + n) - a ≡ n = omega arith in
    let after = post_of a k xs in
    ap (take ((a + n) - a)) (drop_at (take a xs) (ys ++ after) a (length-take-le a xs within)) ∙ ap (λ m. take m (ys ++ after)) same
    ∙ take-append-le n ys after fits

take_split : (a b : ℕ) (old new : List ℕ) → a ≤ b → take a new ≡ take a old → take a old ++ slice_range new a b ≡ take b new
take_split a b old new h front =
    let same : a + (b - a) ≡ b = omega arith in
    ap (λ l. l ++ slice_range new a b) (sym front) ∙ sym (take-add a (b - a) new) ∙ ap (λ n. take n new) same

-- what was read behind what stood at the front
pub read_more : (at n : ℕ) (buf part : List ℕ) (a b c : Option (List ℕ)) → at ≤ length buf → n ≤ length part → Consumes a b (take at buf)
    → Consumes b c (take n part)
    → Consumes a c (take (at + n) (put_mid at (length buf - at) buf part))
read_more at n buf part a b c within fits before more =
    let room = length buf - at in
    let got = slice_range-put_mid at room n buf part within fits in
    let joined = take_split at (at + n) buf (put_mid at room buf part) (omega arith) (take-put_mid_below _ _ _ _ _ (le_refl _) within) in
    subst (Consumes a c) (ap (λ l. take at buf ++ l) (sym got) ∙ joined) (Consumes-trans a b c _ _ before more)

-- what was read before a source ended
pub read_less : (at n : ℕ) (buf more : List ℕ) (a b c : Option (List ℕ)) → at < length buf → n ≡ 0 → Consumes a b (take at buf)
    → Consumes b c (take n more)
    → (part : List ℕ) × (length part < length buf) × Consumes a c part
read_less at n buf more a b c short none before last =
    let front : length (take at buf) ≡ at = length-take-le at buf (omega (arith, short)) in
    let nothing : Consumes b c [] = subst (λ k. Consumes b c (take k more)) none last in
    (take at buf ++ [], rw append-nil (omega (arith, short, front)), Consumes-trans a b c (take at buf) [] before nothing)

-- what was read before a source failed
pub read_kept : (at : ℕ) (buf : List ℕ) (a b c : Option (List ℕ)) → at < length buf → Consumes a b (take at buf) → Keeps b c
    → (part : List ℕ) × (length part < length buf) × Consumes a c part
read_kept at buf a b c short before keeps =
    let front : length (take at buf) ≡ at = length-take-le at buf (omega (arith, short)) in
    (take at buf, omega (arith, short, front), Consumes-kept a b c (take at buf) before keeps)

-- a part of one piece went out behind those before it, and not all of it
pub part_leaves : (whole done one later part rest : List ℕ) (a b c : Option (List ℕ)) → whole ≡ done ++ (one ++ later)
    → one ≡ part ++ rest → 0 < length rest
    → Appends a b done → Appends b c part → (x y : List ℕ) × (whole ≡ x ++ y) × (0 < length y) × Appends a c x
part_leaves whole done one later part rest a b c all piece some before last = (
  done ++ part,
  rest ++ later,
  all ∙ ap (λ l. done ++ (l ++ later)) piece ∙ ap (λ l. done ++ l) (append_assoc part rest later)
      ∙ sym (append_assoc done part (rest ++ later)),
  rw length-append (omega (arith, some)),
  Appends-trans a b c done part before last,
)

-- an answer that is an error, where a part went out
pub leaves_less : {E : Type 0} (bytes : List ℕ) (had has : Option (List ℕ)) (failed fails : Bool) (result : Result Unit E) → IsErr result
    → (x y : List ℕ) × (bytes ≡ x ++ y) × (0 < length y) × Appends had has x → fails ≡ true → Leaves bytes had failed result has fails
leaves_less bytes had has failed fails (Ok u) wrong part now = absurd (let h : false ≡ true = wrong in cc)
leaves_less bytes had has failed fails (Err e) wrong part now = (part.0, part.1, part.2, part.3, part.4, now)

-- the last piece goes out, or a part of it, behind those before it
pub leaves_last : {E : Type 0} (whole done one : List ℕ) (a b c : Option (List ℕ)) (failed before fails : Bool) (result : Result Unit E)
    → whole ≡ done ++ one → Appends a b done
    → before ≡ failed → Leaves one b before result c fails → Leaves whole a failed result c fails
leaves_last whole done one a b c failed before fails (Ok u) all front same last =
    (subst (Appends a c) (sym all) (Appends-trans a b c done one front last.0), last.1 ∙ same)
leaves_last whole done one a b c failed before fails (Err e) all front same last = (
  done ++ last.0,
  last.1,
  all ∙ ap (λ l. done ++ l) last.2 ∙ sym (append_assoc done last.0 last.1),
  last.3,
  Appends-trans a b c done last.0 front last.4,
  last.5,
)

pub on_ok : {X E P : Type 0} (result : Result X E) → P → OnOk result P
on_ok (Ok x) p = p
on_ok (Err e) p = tt
