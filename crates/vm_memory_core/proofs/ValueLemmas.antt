-- values that stand one after another
use Rattle.std.proofs.Common.{◌≡◌, ℕ, zero, suc, ◌+◌, ◌*◌, ◌/◌, min, refl, ◌<◌, ◌≤◌, List, [], ◌∷◌, ◌++◌, All, length, take, drop, get_or}
use Rattle.std.proofs.Common.{set, arith, ap, sym, subst, ◌∙◌, append-nil, append_assoc}
use Rattle.std.specs.Prelude.{◌==◌, if◌then◌else◌}
use Rattle.std.proofs.lemmas.Nat.{mul-le, div-mul-add}
use Rattle.std.proofs.Math.Nat.{add-mul}
use Rattle.std.proofs.Math.Seq.{take-add}
use Rattle.std.proofs.lemmas.Grind.{flat_map-append}
use Rattle.std.proofs.lemmas.List.{take_more, take_more_set, take_at, drop_at, drop-drop}
use Rattle.std.proofs.lemmas.List.Elements.{All-append}
use borrow.Rule.Slice.PartMut.{put_mid}
use Rattle.vm_values.specs.Fields.{Field, AllFit, spelled}
use Rattle.vm_memory_core.specs.Parts.{spelled_all, EachFits, whole_elements, elements_copied}

-- the bytes of one of n values of s bytes lie within those of all
pub below_end : (i n s len : ℕ) → len ≡ n * s → i < n → i * s + s ≤ len
below_end i n s len e l = let more = mul-le (i + 1) s n s (omega arith) (omega arith) in let split = add-mul i 1 s in omega arith

-- one value more of a list
pub spelled-more : {T : Type 0} (f : T → List Field) (xs : List T) (k : ℕ) (x : T) → k < length xs → x ≡ get_or xs k x →
    spelled_all f (take (k + 1) xs) ≡ spelled_all f (take k xs) ++ spelled (f x)
spelled-more {T} f xs k x l e =
    ap (λ (r : List T). spelled_all f r) (take_more xs k x l ∙ ap (λ (y : T). take k xs ++ y ∷ []) (sym e))
    ∙ flat_map-append (λ (y : T). spelled (f y)) (take k xs) (x ∷ [])
    ∙ ap (λ s. spelled_all f (take k xs) ++ s) (append-nil (spelled (f x)))

-- one value more, which was put at its place
pub spelled-more_set : {T : Type 0} (f : T → List Field) (xs : List T) (k : ℕ) (x : T) → k < length xs →
    spelled_all f (take (k + 1) (set xs k x)) ≡ spelled_all f (take k xs) ++ spelled (f x)
spelled-more_set {T} f xs k x l =
    ap (λ (r : List T). spelled_all f r) (take_more_set xs k x l)
    ∙ flat_map-append (λ (y : T). spelled (f y)) (take k xs) (x ∷ [])
    ∙ ap (λ s. spelled_all f (take k xs) ++ s) (append-nil (spelled (f x)))

-- one value more was read
pub read_more : {T : Type 0} (f : T → List Field) (out : List T) (k : ℕ) (x : T) (bytes : List ℕ) (at s n : ℕ) → k < length out → n ≡ s →
    spelled_all f (take k out) ≡ take at bytes → take n (drop at bytes) ≡ spelled (f x) →
    spelled_all f (take (k + 1) (set out k x)) ≡ take (at + s) bytes
read_more f out k x bytes at s n l same before now =
    spelled-more_set f out k x l ∙ ap (λ b. b ++ spelled (f x)) before
    ∙ ap (λ b. take at bytes ++ b) (sym now ∙ ap (λ i. take i (drop at bytes)) same) ∙ sym (take-add at s bytes)

all_one : {T : Type 0} (P : T → Type 0) (x : T) → P x → (k : ℕ) (d : T) → k < 1 → P (get_or (x ∷ []) k d)
all_one P x p zero d l = p
all_one P x p (suc k) d l = absurd (omega arith)

-- no value
pub fits_none : {T : Type 0} (f : T → List Field) → EachFits f []
unfolding EachFits
fits_none f = λ k d l. absurd (omega arith)

pub fits_more : {T : Type 0} (f : T → List Field) (out : List T) (k : ℕ) (x : T) → k < length out →
    EachFits f (take k out) → AllFit (f x) → EachFits f (take (k + 1) (set out k x))
unfolding EachFits
fits_more {T} f out k x l before now =
    let P : List T → Type 0 = λ xs. All (λ (y : T). AllFit (f y)) xs in
    subst P (sym (take_more_set out k x l))
    (All-append (λ (y : T). AllFit (f y)) (take k out) (x ∷ []) before (all_one (λ (y : T). AllFit (f y)) x now))

-- one part more was put in a buffer
pub put_more : (front buffer old part : List ℕ) (place s : ℕ) → length front ≡ place → buffer ≡ front ++ drop place old →
    put_mid place s buffer part ≡ (front ++ part) ++ drop (place + s) old
put_more front buffer old part place s n e =
    let first : take place buffer ≡ front = ap (take place) e ∙ take_at front (drop place old) place n in
    let last : drop place buffer ≡ drop place old = ap (drop place) e ∙ drop_at front (drop place old) place n in
    ap (λ b. take place buffer ++ (part ++ drop s b)) last
    ∙ ap (λ b. b ++ (part ++ drop s (drop place old))) first
    ∙ ap (λ b. front ++ (part ++ b)) (drop-drop s place old)
    ∙ sym (append_assoc front part (drop (place + s) old))

-- the elements that fill a window are the whole ones that it holds
pub whole_elements_is : (size len n count : ℕ) → len ≡ count * size → whole_elements size len n ≡ elements_copied size count n
whole_elements_is zero len n count e = refl
whole_elements_is (suc s) len n count e =
    let size : 0 < suc s = omega arith in
    let all : len / suc s ≡ count = ap (λ m. m / suc s) (e ∙ omega arith) ∙ div-mul-add count (suc s) 0 size in
    ap (λ k. if suc s == 0 then 0 else min k n) all
