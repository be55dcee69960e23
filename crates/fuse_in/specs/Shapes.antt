-- The shape of a record: its parts, their fields, and how bytes are read as a record.
use Rattle.std.specs.Prelude.{ℕ, zero, suc, ◌+◌, ◌*◌, List, [], ◌∷◌, take, drop}
use Rattle.std.specs.Int.{w16, w32, w64, from_le_bytes}
use Rattle.vm_values.specs.Fields.{Field, unsigned, array}

-- a part of a record: a little-endian number of 2, 4 or 8 bytes, or n numbers of 4 bytes
pub data RecordPart : Type 0 where
  u16 : RecordPart
  u32 : RecordPart
  u64 : RecordPart
  u32s : ℕ → RecordPart

-- the type of a part's value
abbrev pub Said : RecordPart → Type 0
Said u16 = ℕ
Said u32 = ℕ
Said u64 = ℕ
Said (u32s n) = List ℕ

-- the size of a part, in bytes
abbrev pub size_of : RecordPart → ℕ
size_of u16 = 2
size_of u32 = 4
size_of u64 = 8
size_of (u32s n) = n * 4

-- the first n numbers of some bytes, each of 4 bytes, little-endian
unfoldable pub numbers : ℕ → List ℕ → List ℕ
numbers zero bytes = []
numbers (suc n) bytes = from_le_bytes w32 (take 4 bytes) ∷ numbers n (drop 4 bytes)

-- the value of a part that these bytes encode
abbrev pub said : (p : RecordPart) → List ℕ → Said p
said u16 bytes = from_le_bytes w16 bytes
said u32 bytes = from_le_bytes w32 bytes
said u64 bytes = from_le_bytes w64 bytes
said (u32s n) bytes = numbers n bytes

-- the type of a function from the parts' values, in their order, to R
abbrev pub MakesOf : List RecordPart → Type 0 → Type 0
MakesOf [] R = R
MakesOf (p ∷ ps) R = Said p → MakesOf ps R

-- the size of all parts without gaps, in bytes
abbrev pub size : List RecordPart → ℕ
size [] = 0
size (p ∷ ps) = size_of p + size ps

-- the value that make returns for the values of the parts in some bytes
abbrev pub made : {R : Type 0} → (ps : List RecordPart) → MakesOf ps R → List ℕ → R
made [] make bytes = make
made (p ∷ ps) make bytes = made ps (make (said p (take (size_of p) bytes))) (drop (size_of p) bytes)

-- the type of all parts' values, in their order
abbrev pub AllSaid : List RecordPart → Type 0
AllSaid [] = Unit {0}
AllSaid (p ∷ ps) = Said p × AllSaid ps

infixr 5 ◌&◌
-- the value of a part, followed by the values of the others
abbrev pub ◌&◌ : {A B : Type 0} → A → B → A × B
x & xs = (x, xs)

-- the end of a list of values
abbrev pub end : Unit {0}
end = tt

-- the field of a part with a value
abbrev pub field_of : (p : RecordPart) → Said p → Field
field_of u16 n = unsigned w16 n
field_of u32 n = unsigned w32 n
field_of u64 n = unsigned w64 n
field_of (u32s k) xs = array w32 k xs

-- the fields of all parts with their values
abbrev pub fields_of : (ps : List RecordPart) → AllSaid ps → List Field
fields_of [] xs = []
fields_of (p ∷ ps) xs = field_of p xs.0 ∷ fields_of ps xs.1

-- the value that make returns for the parts' values
abbrev pub made_of : {R : Type 0} → (ps : List RecordPart) → MakesOf ps R → AllSaid ps → R
made_of [] make xs = make
made_of (p ∷ ps) make xs = made_of ps (make xs.0) xs.1

-- the shape of a record: its parts, how to make it from their values, and the values of a record
pub record RecordShape (R : Type 0) : Type 0 where
  pub parts : List RecordPart
  pub make : MakesOf parts R
  pub shows : R → AllSaid parts

-- the fields of a record, by its shape
abbrev pub fields_by : {R : Type 0} → RecordShape R → R → List Field
fields_by s x = fields_of s.parts (s.shows x)
