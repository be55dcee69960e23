-- Reading a request from its front, up to the first failure.
use Rattle.std.specs.Prelude.{ℕ, zero, suc, Bool, ◌==◌, nat_lt, List, [], ◌∷◌, length, take, drop, Option}
use Rattle.std.specs.Prelude.{Some, None, Result, Ok, Err, if◌then◌else◌, option_map, true, false}
use Rattle.fuse_in.specs.Shapes.{RecordShape, size, made}
use Rattle.server_segments.specs.declared.error.Error.{Error}
use Rattle.server_segments.specs.declared.error.Error.TheVariants.{DecodeMessage, InvalidCString}
use Rattle.server_segments.specs.declared.error.Error.TheVariants.{InvalidXattrSize, MissingParameter}

-- why a parser fails: a fault, or an error number that is the reply
pub data ReadFailure : Type 0 where
  Faults : Error → ReadFailure
  Sends : (errno : ℕ) → ReadFailure

-- the result of a parser: a value and the bytes after it, or a failure
abbrev pub Parsed : Type 0 → Type 0
Parsed X = Result (X × List ℕ) ReadFailure

-- a parser: it reads a value from the front of some bytes
abbrev pub Parser : Type 0 → Type 0
Parser X = List ℕ → Parsed X

-- a result passes its value on; a failure remains
abbrev pub and_then :
    {A B : Type 0} → Result A ReadFailure → (A → Result B ReadFailure) → Result B ReadFailure
and_then (Ok x) f = f x
and_then (Err r) f = Err r

infixl 10 ◌>>=◌
-- one parser, and then another
abbrev pub ◌>>=◌ : {A B : Type 0} → Parser A → (A → Parser B) → Parser B
p >>= f = λ bytes. and_then (p bytes) (λ x. f x.0 x.1)

infixl 10 ◌>>◌
-- one parser, whose value is dropped, and then another
abbrev pub ◌>>◌ : {A B : Type 0} → Parser A → Parser B → Parser B
p >> q = λ bytes. and_then (p bytes) (λ x. q x.1)

-- the parser of a value that reads nothing
abbrev pub give : {A : Type 0} → A → Parser A
give x = λ bytes. Ok (x, bytes)

-- the parser that fails for all bytes
abbrev pub refuse : {A : Type 0} → ReadFailure → Parser A
refuse r = λ bytes. Err r

-- a parser that reads nothing, and fails unless the test holds
abbrev pub needs : Bool → ReadFailure → Parser (Unit {0})
needs test r = λ bytes. if test then Ok (tt, bytes) else Err r

-- the parser of all bytes that are left
abbrev pub rest : Parser (List ℕ)
rest = λ bytes. Ok (bytes, [])

-- the next n bytes, or DecodeMessage if there are fewer
abbrev pub exactly : ℕ → Parser (List ℕ)
exactly n =
    λ bytes. if nat_lt (length bytes) n then Err (Faults DecodeMessage) else Ok (take n bytes, drop n bytes)

-- n values, one after another
unfoldable pub many : {A : Type 0} → ℕ → Parser A → Parser (List A)
many zero p = give []
many (suc n) p = p >>= λ x. many n p >>= λ xs. give (x ∷ xs)

-- a record, field by field
unfoldable pub record_parser : {R : Type 0} → RecordShape R → Parser R
record_parser s = exactly (size s.parts) >>= λ bytes. give (made s.parts s.make bytes)

-- a parser over these bytes alone; those that it leaves are ignored
abbrev pub within : {A : Type 0} → List ℕ → Parser A → Parser A
within bytes p = λ others. and_then (p bytes) (λ x. Ok (x.0, others))

-- one more byte before the zero byte
abbrev pub before_zero : ℕ → Option (List ℕ × List ℕ) → Option (List ℕ × List ℕ)
before_zero b split = option_map (λ p. (b ∷ p.0, p.1)) split

-- the bytes before the first zero byte, and those after it
abbrev pub at_zero : List ℕ → Option (List ℕ × List ℕ)
at_zero [] = None
at_zero (b ∷ bs) = if b == 0 then Some ([], bs) else before_zero b (at_zero bs)

-- the bytes before the zero byte and those after it, or the fault e without a zero byte
abbrev pub ended_or : Error → Option (List ℕ × List ℕ) → Parsed (List ℕ)
ended_or e None = Err (Faults e)
ended_or e (Some split) = Ok split

-- a name up to its zero byte, or the fault e without a zero byte
abbrev pub name_or : Error → Parser (List ℕ)
name_or e = λ bytes. ended_or e (at_zero bytes)

-- one name in all bytes that are left, which end with their only zero byte
unfoldable pub last_name : Parser (List ℕ)
last_name =
    name_or InvalidCString
    >>= λ name. rest >>= λ more. needs (length more == 0) (Faults InvalidCString) >> give name

-- all bytes are the name if there is no zero byte
abbrev pub name_by : List ℕ → Option (List ℕ × List ℕ) → Parsed (List ℕ × Bool)
name_by bytes None = Ok ((bytes, false), [])
name_by bytes (Some split) = Ok ((split.0, true), split.1)

-- a name up to its zero byte, or all bytes if there is none, and whether there is a zero byte
unfoldable pub front_name : Parser (List ℕ × Bool)
front_name =
    λ bytes. if length bytes == 0 then Err (Faults MissingParameter) else name_by bytes (at_zero bytes)

-- two names in all bytes that are left: the first zero byte ends the first name
unfoldable pub two_names : Parser (List ℕ × List ℕ)
two_names = name_or MissingParameter >>= λ old. last_name >>= λ new. give (old, new)

-- a name, and a value of this size in all bytes that are left
unfoldable pub name_and_value : (size : ℕ) → Parser (List ℕ × List ℕ)
name_and_value size =
    name_or MissingParameter >>= λ name. rest
    >>= λ value. needs (size == length value) (Faults (InvalidXattrSize (size, length value)))
    >> give (name, value)

-- the value that was read, without the bytes after it
abbrev pub value_of : {A : Type 0} → Parsed A → Result A ReadFailure
value_of (Ok x) = Ok x.0
value_of (Err r) = Err r

-- the result of a function, as the result of a parser without its rest
abbrev pub outcome : {A B : Type 0} → (A → B) → Result A Error → Result B ReadFailure
outcome view (Ok x) = Ok (view x)
outcome view (Err e) = Err (Faults e)

-- the result of a function that reads, with the bytes that it leaves
abbrev pub read_result : {A : Type 0} → Result A Error → List ℕ → Parsed A
read_result (Ok x) more = Ok (x, more)
read_result (Err e) more = Err (Faults e)
