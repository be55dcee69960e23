-- Bytes that are a name, and bytes that aren't.
use Rattle.std.proofs.Common.{◌≡◌, ◌≢◌, ℕ, suc, ◌+◌, ◌-◌, ◌<◌, ◌≤◌, List, [], ◌∷◌, ◌++◌, length, take, drop, Result, Ok, Err, Some, None}
use Rattle.std.proofs.Common.{Bool, true, false, not, refl}
use Rattle.std.proofs.Common.{sym, ap, ◌∙◌, arith, cond, length-append}
use Rattle.std.specs.Prelude.{position, ◌==◌, nat_le, IfOk}
use Rattle.std.specs.List.{prefix_len}
use Rattle.std.proofs.Math.Dec.{ltb}
use Rattle.std.proofs.lemmas.Bool.{lt-ltb, le-ltb}
use Rattle.std.proofs.lemmas.Bool.Decides.{nat_tests}
use Rattle.std.proofs.lemmas.List.{take_at, take_all, length-drop}
use Rattle.server_segments.specs.declared.error.Error.TheVariants.{InvalidCString, DecodeMessage, InvalidHeaderLength, InvalidXattrSize}
use Rattle.server_segments.specs.declared.error.Error.TheVariants.{MissingParameter}
use Rattle.server_segments.specs.declared.error.Error.{Error}
use Rattle.fuse_in.specs.Shapes.{RecordShape}
use Rattle.server_requests.specs.Reading.{Parsed, ReadFailure, Faults, and_then, at_zero, before_zero, last_name, two_names, name_and_value}
use Rattle.server_requests.specs.Reading.{front_name, value_of, record_parser}
use Rattle.vm_values.specs.Bits.{has_bit}
use Rattle.fuse_in.specs.declared.nodes.SetxattrIn.{SetxattrIn}
use Rattle.fuse_in.specs.declared.nodes.SetxattrInCompat.{SetxattrInCompat}
use Rattle.fuse_in.specs.Records.{setxattr_in, setxattr_in_compat}
use Rattle.server_requests.specs.Fronts.{counted, with_bytes, without_flags, setxattr_front}

abbrev second_of : List ℕ → Result (List ℕ) ReadFailure → Result (List ℕ × List ℕ) ReadFailure
second_of old (Ok new) = Ok (old, new)
second_of old (Err r) = Err r

second : (old : List ℕ) (r : Parsed (List ℕ)) → value_of (and_then r (λ x. Ok ((old, x.0), x.1))) ≡ second_of old (value_of r)
second old (Ok x) = refl
second old (Err r) = refl

abbrev paired : {R : Type 0} → R → Result (List ℕ) ReadFailure → Result (R × List ℕ) ReadFailure
paired r (Ok b) = Ok (r, b)
paired r (Err f) = Err f

abbrev not_zero : ℕ → Bool
not_zero x = not (x == 0)

step_some : (t : Bool) (b : ℕ) (bs : List ℕ) → (prefix_len not_zero bs < length bs → at_zero bs ≡ Some
    (take (prefix_len not_zero bs) bs, drop (prefix_len not_zero bs + 1) bs))
    → cond (not t) (1 + prefix_len not_zero bs) 0 < length (b ∷ bs)
    → cond t (Some ([], bs)) (before_zero b (at_zero bs))
    ≡ Some (take (cond (not t) (1 + prefix_len not_zero bs) 0) (b ∷ bs), drop (cond (not t) (1 + prefix_len not_zero bs) 0 + 1) (b ∷ bs))
step_some true b bs ih h = refl
step_some false b bs ih h =
    let more : (1 + prefix_len not_zero bs) + 1 ≡ suc (prefix_len not_zero bs + 1) = omega arith in
    let one : 1 + prefix_len not_zero bs ≡ suc (prefix_len not_zero bs) = omega arith in
    ap (before_zero b) (ih (omega (arith, h)))
    ∙ ap (λ k. Some (take k (b ∷ bs), drop (suc (prefix_len not_zero bs + 1)) (b ∷ bs))) (sym one) ∙ ap
    (λ k. Some (take (1 + prefix_len not_zero bs) (b ∷ bs), drop k (b ∷ bs))) (sym more)

zero_some : (bs : List ℕ) → prefix_len not_zero bs < length bs →
    at_zero bs ≡ Some (take (prefix_len not_zero bs) bs, drop (prefix_len not_zero bs + 1) bs)
zero_some [] h = absurd (omega (arith, h))
zero_some (b ∷ bs) h = step_some (b == 0) b bs (zero_some bs) h

step_none : (t : Bool) (b : ℕ) (bs : List ℕ) → (length bs ≤ prefix_len not_zero bs → at_zero bs ≡ None)
    → length (b ∷ bs) ≤ cond (not t) (1 + prefix_len not_zero bs) 0
    → cond t (Some ([], bs)) (before_zero b (at_zero bs)) ≡ None
step_none true b bs ih h = absurd (omega (arith, h))
step_none false b bs ih h = ap (before_zero b) (ih (omega (arith, h)))

zero_none : (bs : List ℕ) → length bs ≤ prefix_len not_zero bs → at_zero bs ≡ None
zero_none [] h = refl
zero_none (b ∷ bs) h = step_none (b == 0) b bs (zero_none bs) h

-- what the place of the first zero byte says
place_some : (t : Bool) (n i : ℕ) → cond t (Some n) None ≡ Some i → (t ≡ true) × (n ≡ i)
place_some true n i e = (refl, cc)
place_some false n i e = absurd (cc)

place_none : (t : Bool) (n : ℕ) → cond t (Some n) None ≡ None → t ≡ false
place_none true n e = absurd (cc)
place_none false n e = refl

at_some : (bs : List ℕ) (i : ℕ) → position (λ b. b == 0) bs ≡ Some i → at_zero bs ≡ Some (take i bs, drop (i + 1) bs)
at_some bs i e =
    let p = place_some (ltb (prefix_len not_zero bs) (length bs)) (prefix_len not_zero bs) i e in
    let h : prefix_len not_zero bs < length bs = grind (arith, nat_tests, p.0) in
    zero_some bs h ∙ ap (λ k. Some (take k bs, drop (k + 1) bs)) p.1

-- what is left is all that is left
pub at_split :
    (bs : List ℕ) (i : ℕ) → position (λ b. b == 0) bs ≡ Some i → at_zero bs ≡ Some (take i bs, take (length bs - (i + 1)) (drop (i + 1) bs))
at_split bs i e =
    let all : take (length bs - (i + 1)) (drop (i + 1) bs) ≡ drop (i + 1) bs =
    take_all (length bs - (i + 1)) (drop (i + 1) bs) (rw (length-drop (i + 1) bs) (omega arith)) in
    at_some bs i e ∙ ap (λ (d : List ℕ). Some (take i bs, d)) (sym all)

pub at_none : (bs : List ℕ) → position (λ b. b == 0) bs ≡ None → at_zero bs ≡ None
at_none bs e =
    let p = place_none (ltb (prefix_len not_zero bs) (length bs)) (prefix_len not_zero bs) e in
    let h : length bs ≤ prefix_len not_zero bs = grind (arith, nat_tests, p) in
    zero_none bs h

last_part : (name : List ℕ) (t : Bool) →
    value_of (and_then {A = Unit {0} × List ℕ} {B = List ℕ × List ℕ} (cond t (Ok (tt, [])) (Err (Faults InvalidCString)))
    (λ z. Ok (name, z.1))) ≡ cond t (Ok name) (Err (Faults InvalidCString))
last_part name true = refl
last_part name false = refl

name_of : (bs name more : List ℕ) → at_zero bs ≡ Some (name, more) →
    value_of (last_name bs) ≡ cond (length more == 0) (Ok name) (Err (Faults InvalidCString))
unfolding last_name
name_of bs name more e = rw e (last_part name (length more == 0))

pub named : (bs name more : List ℕ) → at_zero bs ≡ Some (name, more) → length more ≡ 0 → value_of (last_name bs) ≡ Ok name
named bs name more e h = name_of bs name more e ∙ rw h refl

pub unnamed : (bs name more : List ℕ) → at_zero bs ≡ Some (name, more) → length more ≢ 0
    → value_of (last_name bs) ≡ Err (Faults InvalidCString)
unnamed bs name more e h =
    let some : (length more == 0) ≡ false = grind (arith, nat_tests, h) in
    name_of bs name more e ∙ rw some refl

pub endless : (bs : List ℕ) → at_zero bs ≡ None → value_of (last_name bs) ≡ Err (Faults InvalidCString)
unfolding last_name
endless bs e = rw e refl

first_named : (bs old more : List ℕ) → at_zero bs ≡ Some (old, more) → value_of (two_names bs) ≡ second_of old (value_of (last_name more))
unfolding two_names
first_named bs old more e = rw e (second old (last_name more))

pub both_named : (bs old more new : List ℕ) → at_zero bs ≡ Some (old, more) → Ok new ≡ value_of (last_name more) →
    value_of (two_names bs) ≡ Ok (old, new)
both_named bs old more new e h = first_named bs old more e ∙ ap (second_of old) (sym h)

pub second_unnamed : (bs old more : List ℕ) (r : Error) → at_zero bs ≡ Some (old, more) → Err (Faults r) ≡ value_of (last_name more) →
    value_of (two_names bs) ≡ Err (Faults r)
second_unnamed bs old more r e h = first_named bs old more e ∙ ap (second_of old) (sym h)

pub first_missing : (bs : List ℕ) → at_zero bs ≡ None → value_of (two_names bs) ≡ Err (Faults MissingParameter)
unfolding two_names
first_missing bs e = rw e refl

-- a name in front
pub front_empty : (bs : List ℕ) → length bs ≡ 0 → front_name bs ≡ Err (Faults MissingParameter)
unfolding front_name
front_empty bs e =
    let test : (length bs == 0) ≡ true = grind (arith, nat_tests, e) in
    rw test refl

pub front_ended : (bs name more : List ℕ) → length bs ≢ 0 → at_zero bs ≡ Some (name, more) → front_name bs ≡ Ok ((name, true), more)
unfolding front_name
front_ended bs name more z e =
    let test : (length bs == 0) ≡ false = grind (arith, nat_tests, z) in
    rw (test, e) refl

pub front_endless : (bs : List ℕ) → length bs ≢ 0 → at_zero bs ≡ None → front_name bs ≡ Ok ((bs, false), [])
unfolding front_name
front_endless bs z e =
    let test : (length bs == 0) ≡ false = grind (arith, nat_tests, z) in
    rw (test, e) refl

-- a name and its value
pub valued : (size : ℕ) (bs name value : List ℕ) → at_zero bs ≡ Some (name, value) → size ≡ length value →
    value_of (name_and_value size bs) ≡ Ok (name, value)
unfolding name_and_value
valued size bs name value e h =
    let same : (size == length value) ≡ true = grind (arith, nat_tests, h) in
    rw (e, same) refl

pub value_sized : (size : ℕ) (bs name value : List ℕ) → at_zero bs ≡ Some (name, value) → size ≢ length value
    → value_of (name_and_value size bs) ≡ Err (Faults (InvalidXattrSize (size, length value)))
unfolding name_and_value
value_sized size bs name value e h =
    let other : (size == length value) ≡ false = grind (arith, nat_tests, h) in
    rw (e, other) refl

pub value_unnamed : (size : ℕ) (bs : List ℕ) → at_zero bs ≡ None → value_of (name_and_value size bs) ≡ Err (Faults MissingParameter)
unfolding name_and_value
value_unnamed size bs e = rw e refl

-- as many bytes as the header's length leaves
pub counted_front : (len k : ℕ) (all front more : List ℕ) → 40 + k ≤ len → all ≡ front ++ more → length front ≡ len - (40 + k) →
    value_of (counted len k all) ≡ Ok front
unfolding counted
counted_front len k all front more h e l =
    let test : nat_le (40 + k) len ≡ true = grind (arith, nat_tests) in
    let count : length front ≡ len - 40 - k = omega (arith, l) in
    let enough : len - 40 - k ≤ length (front ++ more) = rw (length-append front more) (omega (arith, count)) in
    rw (test, e, le-ltb (length (front ++ more)) (len - 40 - k) enough, take_at front more (len - 40 - k) count) refl

-- the same of what was read, by its items
pub counted_by :
    {B : Type 0} (items : B → List ℕ) (len k n : ℕ) (all more : List ℕ) (result : Result B Error) → 40 + k ≤ len → n ≡ len - (40 + k)
    → IfOk result (λ b. (all ≡ items b ++ more) × (length (items b) ≡ n)) → IfOk result (λ b. Ok (items b) ≡ value_of (counted len k all))
counted_by items len k n all more (Ok b) h e p = sym (counted_front len k all (items b) more h p.0 (p.1 ∙ e))
counted_by items len k n all more (Err f) h e p = tt

pub counted_short :
    (len k : ℕ) (all : List ℕ) → 40 + k ≤ len → length all < len - (40 + k) → value_of (counted len k all) ≡ Err (Faults DecodeMessage)
unfolding counted
counted_short len k all h l =
    let test : nat_le (40 + k) len ≡ true = grind (arith, nat_tests) in
    let few : length all < len - 40 - k = omega (arith, l) in
    rw (test, lt-ltb (length all) (len - 40 - k) few) refl

pub counted_none : (len k : ℕ) (all : List ℕ) → len < 40 + k → value_of (counted len k all) ≡ Err (Faults InvalidHeaderLength)
unfolding counted
counted_none len k all h =
    let test : nat_le (40 + k) len ≡ false = grind (arith, nat_tests) in
    rw test refl

-- a record, and the bytes after it
with_value : {R : Type 0} → (r : R) (x : Parsed (List ℕ)) → value_of (and_then x (λ b. Ok ((r, b.0), b.1))) ≡ paired r (value_of x)
with_value r (Ok b) = refl
with_value r (Err e) = refl

pub with_both : {R : Type 0} → (s : RecordShape R) (k len : ℕ) (all more bytes : List ℕ) (r : R) → Ok (r, more) ≡ record_parser s all
    → Ok bytes ≡ value_of (counted len k more)
    → Ok (r, bytes) ≡ value_of (with_bytes s k len all)
unfolding with_bytes
with_both s k len all more bytes r e h = sym (rw (← e) (with_value r (counted len k more) ∙ ap (paired r) (sym h)))

pub with_few : {R : Type 0} → (s : RecordShape R) (k len : ℕ) (all more : List ℕ) (r : R) (f : Error) → Ok (r, more) ≡ record_parser s all
    → Err (Faults f) ≡ value_of (counted len k more)
    → Err (Faults f) ≡ value_of (with_bytes s k len all)
unfolding with_bytes
with_few s k len all more r f e h = sym (rw (← e) (with_value r (counted len k more) ∙ ap (paired r) (sym h)))

pub with_short : {R : Type 0} → (s : RecordShape R) (k len : ℕ) (all : List ℕ) (f : Error) → Err (Faults f) ≡ record_parser s all →
    Err (Faults f) ≡ value_of (with_bytes s k len all)
unfolding with_bytes
with_short s k len all f e = sym (rw (← e) refl)

abbrev flagless : Result (SetxattrInCompat × List ℕ) ReadFailure → Result (SetxattrIn × List ℕ) ReadFailure
flagless (Ok x) = Ok (without_flags x.0, x.1)
flagless (Err r) = Err r

flagless_by :
    (x : Parsed (SetxattrInCompat × List ℕ)) → value_of (and_then x (λ y. Ok ((without_flags y.0.0, y.0.1), y.1))) ≡ flagless (value_of x)
flagless_by (Ok y) = refl
flagless_by (Err r) = refl

-- the record of SETXATTR by its length
pub setxattr_long :
    (options len : ℕ) (all : List ℕ) → has_bit options 29 ≡ true → setxattr_front options len all ≡ with_bytes setxattr_in 16 len all
unfolding setxattr_front
setxattr_long options len all e = rw e refl

pub setxattr_compat : (options len : ℕ) (all : List ℕ) → has_bit options 29 ≡ false →
    value_of (setxattr_front options len all) ≡ flagless (value_of (with_bytes setxattr_in_compat 8 len all))
unfolding setxattr_front
setxattr_compat options len all e = rw e (flagless_by (with_bytes setxattr_in_compat 8 len all))

pub setxattr_without : (options len : ℕ) (all bytes : List ℕ) (r : SetxattrInCompat) → has_bit options 29 ≡ false
    → Ok (r, bytes) ≡ value_of (with_bytes setxattr_in_compat 8 len all)
    → Ok (without_flags r, bytes) ≡ value_of (setxattr_front options len all)
setxattr_without options len all bytes r e h = sym (setxattr_compat options len all e ∙ ap flagless (sym h))

pub setxattr_short : (options len : ℕ) (all : List ℕ) (f : Error) → has_bit options 29 ≡ false
    → Err (Faults f) ≡ value_of (with_bytes setxattr_in_compat 8 len all)
    → Err (Faults f) ≡ value_of (setxattr_front options len all)
setxattr_short options len all f e h = sym (setxattr_compat options len all e ∙ ap flagless (sym h))
