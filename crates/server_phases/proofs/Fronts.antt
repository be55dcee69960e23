-- What the first bytes of a request say of the whole.
use Rattle.std.proofs.Common.{◌≡◌, ◌≤◌, ℕ, Bool, true, false, List, ◌++◌, length, take, drop, Ok, Err, Option, Some, cond, refl, sym}
use Rattle.std.proofs.Common.{ap, ◌∙◌, arith}
use Rattle.std.specs.Prelude.{nat_lt}
use Rattle.std.proofs.lemmas.Bool.Decides.{nat_tests}
use Rattle.std.proofs.lemmas.List.{length-take, length-drop, take-append-drop, take-append-le, drop-append-le, drop-drop}
use Rattle.fuse_in.specs.declared.session.InHeader.{InHeader}
use Rattle.fuse_in.specs.Records.{in_header}
use Rattle.fuse_in.specs.Shapes.{RecordShape, size, made}
use Rattle.fuse_wire.specs.declared.opcodes.Opcode.{Opcode}
use Rattle.fuse_wire.specs.declared.opcodes.Opcode.TheVariants as op
use Rattle.server_segments.specs.declared.error.Error.{Error}
use Rattle.server_segments.specs.declared.error.Error.TheVariants.{DecodeMessage}
use Rattle.server_requests.specs.Reading as reading
use Rattle.server_requests.specs.Reading.{Faults, and_then, record_parser}
use Rattle.server_meanings.specs.DataApart.{is_write}
use Rattle.server_phases.specs.Asking.{IsRequestFront, BeginsRecord}

-- a parser that left something else
abbrev pub leaving : {R : Type 0} → reading.Parsed R → List ℕ → reading.Parsed R
leaving (Ok x) left = Ok (x.0, left)
leaving (Err e) left = Err e

short_same : (n : ℕ) (xs ys : List ℕ) → take n xs ≡ take n ys → nat_lt (length xs) n ≡ nat_lt (length ys) n
short_same n xs ys e =
    let a = length-take n xs in
    let b = length-take n ys in
    let same : length (take n xs) ≡ length (take n ys) = ap length e in
    grind (arith, nat_tests)

read_by : {R : Type 0} → (t u : Bool) (n : ℕ) (make : List ℕ → R) (front all : List ℕ) → t ≡ u → take n front ≡ take n all
    → ◌≡◌ {A = reading.Parsed R} (and_then {A = List ℕ × List ℕ} {B = R × List ℕ}
    (cond u (Err (Faults DecodeMessage)) (Ok (take n all, drop n all))) (λ x. Ok (make x.0, x.1)))
    (leaving (and_then {A = List ℕ × List ℕ} {B = R × List ℕ} (cond t (Err (Faults DecodeMessage)) (Ok (take n front, drop n front)))
    (λ x. Ok (make x.0, x.1))) (drop n all))
read_by true true n make front all e f = refl
read_by false false n make front all e f = rw f refl
read_by _ _ n make front all e f = absurd (cc)

-- a record that begins two lists of bytes is read from both
read_by_front : {R : Type 0} → (s : RecordShape R) (front all : List ℕ) → take (size s.parts) front ≡ take (size s.parts) all
    → record_parser s all ≡ leaving (record_parser s front) (drop (size s.parts) all)
unfolding record_parser
read_by_front s front all e =
    read_by (nat_lt (length front) (size s.parts)) (nat_lt (length all) (size s.parts)) (size s.parts)
    (λ b. made s.parts s.make b) front all
    (short_same (size s.parts) front all e) e

pub record_by_front :
    {R : Type 0} → (s : RecordShape R) (front all more : List ℕ) (r : R) → take (size s.parts) front ≡ take (size s.parts) all
    → Ok (r, more) ≡ record_parser s front → Ok (r, drop (size s.parts) all) ≡ record_parser s all
record_by_front {R} s front all more r e h =
    ap (λ (x : reading.Parsed R). leaving x (drop (size s.parts) all)) h ∙ sym (read_by_front s front all e)

pub fault_by_front :
    {R : Type 0} → (s : RecordShape R) (front all : List ℕ) (f : Error) → take (size s.parts) front ≡ take (size s.parts) all
    → Err (Faults f) ≡ record_parser s front → Err (Faults f) ≡ record_parser s all
fault_by_front {R} s front all f e h =
    ap (λ (x : reading.Parsed R). leaving x (drop (size s.parts) all)) h ∙ sym (read_by_front s front all e)

-- a request by its first bytes and the others
front_and_rest : (front request : List ℕ) → IsRequestFront front request → request ≡ front ++ drop (length front) request
front_and_rest front request e =
    sym (ap (λ (x : List ℕ). x ++ drop (length front) request) (sym e) ∙ take-append-drop (length front) request)

pub front_begins : (n : ℕ) (front request : List ℕ) → IsRequestFront front request → n ≤ length front → take n front ≡ take n request
front_begins n front request e h =
    sym (ap (take n) (front_and_rest front request e) ∙ take-append-le n front (drop (length front) request) h)

-- the record behind a header
pub record_begins :
    (front request : List ℕ) → IsRequestFront front request → 80 ≤ length front → BeginsRecord (drop 40 front) (drop 40 request)
record_begins front request e h =
    let rest = drop (length front) request in
    let behind : drop 40 request ≡ drop 40 front ++ rest =
    ap (drop 40) (front_and_rest front request e) ∙ drop-append-le 40 front rest (omega arith) in
    let long : 40 ≤ length (drop 40 front) = rw (length-drop 40 front) (omega arith) in
    sym (ap (take 40) behind ∙ take-append-le 40 (drop 40 front) rest long)

pub write_is : (o : Option Opcode) → is_write o ≡ true → o ≡ Some op.Write
write_is (Some op.Write) e = refl
write_is _ e = absurd (cc)

-- the bytes behind a record that was read
abbrev pub left_over : {R : Type 0} → List ℕ → reading.Parsed R → List ℕ
left_over bytes (Ok x) = x.1
left_over bytes (Err e) = bytes

behind_by : {R : Type 0} → (t : Bool) (n : ℕ) (make : List ℕ → R) (bytes more : List ℕ) (r : R)
    → ◌≡◌ {A = reading.Parsed R} (Ok (r, more)) (and_then {A = List ℕ × List ℕ} {B = R × List ℕ}
    (cond t (Err (Faults DecodeMessage)) (Ok (take n bytes, drop n bytes))) (λ x. Ok (make x.0, x.1)))
    → drop n bytes ≡ more
behind_by true n make bytes more r e = absurd (cc)
behind_by false n make bytes more r e = sym (ap (left_over bytes) e)

pub behind :
    {R : Type 0} → (s : RecordShape R) (bytes more : List ℕ) (r : R) → Ok (r, more) ≡ record_parser s bytes
    → drop (size s.parts) bytes ≡ more
unfolding record_parser
behind s bytes more r e = behind_by (nat_lt (length bytes) (size s.parts)) (size s.parts) (λ b. made s.parts s.make b) bytes more r e

-- the data of a WRITE stands behind 80 bytes
pub data_behind : (request more : List ℕ) (h : InHeader) → Ok (h, more) ≡ record_parser in_header request → drop 40 more ≡ drop 80 request
data_behind request more h e = ap (drop 40) (sym (behind in_header request more h e)) ∙ drop-drop 40 40 request
