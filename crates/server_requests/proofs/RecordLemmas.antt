-- Records are read from the bytes that spell them.
use Rattle.std.proofs.Common.{◌≡◌, ℕ, zero, suc, ◌+◌, ◌*◌, ◌<◌, ◌≤◌, ◌^◌, List, [], ◌∷◌, ◌++◌, length, drop, slice_index, Ok, Err, refl}
use Rattle.std.proofs.Common.{sym, ap, ◌∙◌, arith, length-append}
use Rattle.std.specs.List.{flat_map}
use Rattle.std.specs.Int.{w32, to_le_bytes, from_le_bytes}
use Rattle.std.proofs.lemmas.Bool.{lt-ltb, le-ltb}
use Rattle.std.proofs.lemmas.List.{take_at, drop_at}
use Rattle.std.proofs.lemmas.Nat.{from_le_bytes-to_le_bytes_2, from_le_bytes-to_le_bytes_4, from_le_bytes-to_le_bytes_8}
use Rattle.vm_values.specs.Fields.{Field, field_bytes, Fits, AllFit, spelled}
use Rattle.vm_values.specs.UniqueProof.{then_is}
use Rattle.fuse_in.specs.Shapes.{RecordPart, u16, u32, u64, u32s, Said, size_of, numbers, said, MakesOf, size, made, AllSaid, field_of}
use Rattle.fuse_in.specs.Shapes.{fields_of, made_of, RecordShape, fields_by}
use Rattle.server_segments.specs.declared.error.Error.TheVariants.{DecodeMessage}
use Rattle.server_requests.specs.Reading.{Faults, record_parser}

length_numbers : (xs : List ℕ) → length (flat_map (to_le_bytes w32) xs) ≡ length xs * 4
length_numbers [] = refl
length_numbers (x ∷ xs) =
    length-append (to_le_bytes w32 x) (flat_map (to_le_bytes w32) xs) ∙ ap (λ n. 4 + n) (length_numbers xs) ∙ omega arith

numbers_said :
    (k : ℕ) (xs : List ℕ) → length xs ≡ k → ((j : ℕ) → j < k → slice_index xs j < 2 ^ 32) → numbers k (flat_map (to_le_bytes w32) xs) ≡ xs
unfolding numbers
numbers_said zero [] l f = refl
numbers_said zero (x ∷ xs) l f = absurd (omega (arith, l))
numbers_said (suc k) [] l f = absurd (omega (arith, l))
numbers_said (suc k) (x ∷ xs) l f =
    let e : from_le_bytes w32 (to_le_bytes w32 x) ≡ x = from_le_bytes-to_le_bytes_4 x (f 0 (omega arith)) in
    let i : numbers k (flat_map (to_le_bytes w32) xs) ≡ xs = numbers_said k xs (omega (arith, l)) (λ j h. f (suc j) (omega (arith, h))) in
    ap (λ n. n ∷ numbers k (flat_map (to_le_bytes w32) xs)) e ∙ ap (λ s. x ∷ s) i

length_part : (p : RecordPart) (x : Said p) → Fits (field_of p x) → length (field_bytes (field_of p x)) ≡ size_of p
unfolding field_bytes Fits
length_part u16 x h = refl
length_part u32 x h = refl
length_part u64 x h = refl
length_part (u32s k) xs h = length_numbers xs ∙ ap (λ n. n * 4) h.0

part_said : (p : RecordPart) (x : Said p) → Fits (field_of p x) → said p (field_bytes (field_of p x)) ≡ x
unfolding field_bytes Fits
part_said u16 x h = from_le_bytes-to_le_bytes_2 x h
part_said u32 x h = from_le_bytes-to_le_bytes_4 x h
part_said u64 x h = from_le_bytes-to_le_bytes_8 x h
part_said (u32s k) xs h = numbers_said k xs h.0 h.1

first : (f : Field) (fs : List Field) → spelled (f ∷ fs) ≡ field_bytes f ++ spelled fs
first f fs = then_is (field_bytes f) fs

length_spelled : (ps : List RecordPart) (xs : AllSaid ps) → AllFit (fields_of ps xs) → length (spelled (fields_of ps xs)) ≡ size ps
length_spelled [] xs h = refl
length_spelled (p ∷ ps) xs h =
    ap length (first (field_of p xs.0) (fields_of ps xs.1))
    ∙ length-append (field_bytes (field_of p xs.0)) (spelled (fields_of ps xs.1))
    ∙ ap (λ n. n + length (spelled (fields_of ps xs.1))) (length_part p xs.0 h.0)
    ∙ ap (λ n. size_of p + n) (length_spelled ps xs.1 h.1)

made_is : {R : Type 0} → (ps : List RecordPart) (make : MakesOf ps R) (xs : AllSaid ps) → AllFit (fields_of ps xs) →
    made ps make (spelled (fields_of ps xs)) ≡ made_of ps make xs
made_is [] make xs h = refl
made_is (p ∷ ps) make xs h =
    let f = field_bytes (field_of p xs.0) in
    let s = spelled (fields_of ps xs.1) in
    ap (made (p ∷ ps) make) (first (field_of p xs.0) (fields_of ps xs.1))
    ∙ ap (λ b. made ps (make (said p b)) (drop (size_of p) (f ++ s))) (take_at f s (size_of p) (length_part p xs.0 h.0))
    ∙ ap (λ x. made ps (make x) (drop (size_of p) (f ++ s))) (part_said p xs.0 h.0)
    ∙ ap (made ps (make xs.0)) (drop_at f s (size_of p) (length_part p xs.0 h.0))
    ∙ made_is ps (make xs.0) xs.1 h.1

-- where the bytes of a record stand in front, it is read; the law is that of the trait `InRecord`
pub read_front : {R : Type 0} → (s : RecordShape R) (fields : R → List Field) (n : ℕ)
    → ((x : R) → fields_by s x ≡ fields x) × ((x : R) → made_of s.parts s.make (s.shows x) ≡ x) × (size s.parts ≡ n)
    → (x : R) (all more : List ℕ) → all ≡ spelled (fields x) ++ more → AllFit (fields x) → Ok (x, more) ≡ record_parser s all
unfolding record_parser
read_front s fields n law x all more e h =
    let b = spelled (fields_by s x) in
    let fit : AllFit (fields_by s x) = rw (law.0 x) h in
    let l : length b ≡ size s.parts = length_spelled s.parts (s.shows x) fit in
    let enough : size s.parts ≤ length (b ++ more) = rw (length-append b more) (omega (arith, l)) in
    let same : made s.parts s.make b ≡ x = made_is s.parts s.make (s.shows x) fit ∙ law.1 x in
    let all_is : all ≡ b ++ more = e ∙ ap (λ f. spelled f ++ more) (sym (law.0 x)) in
    rw (all_is, le-ltb (length (b ++ more)) (size s.parts) enough, take_at b more (size s.parts) l, drop_at b more (size s.parts) l, same)
    refl

-- too few bytes are no record
pub read_short : {R : Type 0} → (s : RecordShape R) (fields : R → List Field) (n : ℕ)
    → ((x : R) → fields_by s x ≡ fields x) × ((x : R) → made_of s.parts s.make (s.shows x) ≡ x) × (size s.parts ≡ n)
    → (all : List ℕ) → length all < n → Err (Faults DecodeMessage) ≡ record_parser s all
unfolding record_parser
read_short s fields n law all h =
    let few : length all < size s.parts = rw law.2 h in
    rw (lt-ltb (length all) (size s.parts) few) refl
