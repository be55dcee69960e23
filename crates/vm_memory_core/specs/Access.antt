-- The effect of an access to bytes, by the places that it reaches or the error that refuses it.
use Rattle.std.specs.Prelude.{◌≡◌, ℕ, ◌==◌, ◌++◌, List, length, map, drop, if◌then◌else◌, IfOk, Result, Ok}
use Rattle.std.specs.Prelude.{Err}
use Rattle.std.specs.List.{zip}
use Rattle.vm_values.specs.Fields.{Field, AllFit, spelled}
use Rattle.vm_memory_core.specs.Host.{Host, Place}
use Rattle.vm_memory_core.specs.Window.{Window, byte_in, places_of, put_all}
use Rattle.vm_memory_core.specs.Parts.{reached_part}
use Rattle.vm_memory_core.specs.declared.error.VolatileMemoryError.{VolatileMemoryError}

-- the number of the places that are reached, or the error
abbrev pub count_of : {E : Type 0} → Result (List Place) E → Result ℕ E
count_of (Ok ps) = Ok (length ps)
count_of (Err e) = Err e

-- the bytes of the places that are reached, or the error
abbrev pub bytes_of : {E : Type 0} → Host → Result (List Place) E → Result (List ℕ) E
bytes_of h (Ok ps) = Ok (map (byte_in h) ps)
bytes_of h (Err e) = Err e

-- Ok if all of n places are reached, partial n k if only k are, or the error
abbrev pub in_full :
    {E : Type 0} → (partial : ℕ → ℕ → E) → (n : ℕ) → Result (List Place) E → Result (Unit {0}) E
in_full partial n (Ok ps) = if length ps == n then Ok tt else Err (partial n (length ps))
in_full partial n (Err e) = Err e

-- a buffer after the bytes that are reached were read to its front; unchanged with an error
abbrev pub read_over : {E : Type 0} → Host → Result (List Place) E → List ℕ → List ℕ
read_over h (Ok ps) old = map (byte_in h) ps ++ drop (length ps) old
read_over h (Err e) old = old

-- the host after bytes were written at the places that are reached; unchanged with an error
abbrev pub written_over : {E : Type 0} → Host → Result (List Place) E → List ℕ → Host
written_over h (Ok ps) bytes = put_all h (zip ps bytes)
written_over h (Err e) bytes = h

-- a result without its value
abbrev pub without_value : {T E : Type 0} → Result T E → Result (Unit {0}) E
without_value (Ok x) = Ok tt
without_value (Err e) = Err e

-- places that may be reached were read to the front of a buffer, and the result is their number, or an error
-- that may refuse them
pub record ReadsSome {E : Type 0} (Reaches : Result (List Place) E →
    Type 0) (h : Host) (old new : List ℕ) (result : Result ℕ E) : Type 0 where
  pub places : Result (List Place) E
  pub may : Reaches places
  pub count : result ≡ count_of places
  pub bytes : new ≡ read_over h places old

-- places that may be reached were read to the front of a buffer, and the result is Ok if they fill it, else
-- `partial` or an error that may refuse them
pub record ReadsAll {E : Type 0} (Reaches : Result (List Place) E → Type 0) (partial : ℕ → ℕ → E)
    (h : Host) (old new : List ℕ) (result : Result (Unit {0}) E) : Type 0 where
  pub places : Result (List Place) E
  pub may : Reaches places
  pub outcome : result ≡ in_full partial (length old) places
  pub bytes : new ≡ read_over h places old

-- the result is the value with the bytes of size places if all of them are reached, or the error
pub record ReadsValue {T E : Type 0} (Reaches : Result (List Place) E → Type 0) (partial : ℕ → ℕ → E)
    (fields : T → List Field) (size : ℕ) (h : Host) (result : Result T E) : Type 0 where
  pub places : Result (List Place) E
  pub may : Reaches places
  pub outcome : without_value result ≡ in_full partial size places
  pub value : IfOk result (λ x. (Ok (spelled (fields x)) ≡ bytes_of h places) × AllFit (fields x))

-- bytes were written at places that may be reached, and the result is their number, or an error that may
-- refuse them
pub record WritesSome {E : Type 0} (Reaches : Result (List Place) E →
    Type 0) (bytes : List ℕ) (old new : Host) (result : Result ℕ E) : Type 0 where
  pub places : Result (List Place) E
  pub may : Reaches places
  pub count : result ≡ count_of places
  pub stored : new ≡ written_over old places bytes

-- bytes were written at places that may be reached, and the result is Ok if all bytes were, else `partial` or
-- an error that may refuse them
pub record WritesAll {E : Type 0} (Reaches : Result (List Place) E → Type 0) (partial : ℕ → ℕ → E)
    (bytes : List ℕ) (old new : Host) (result : Result (Unit {0}) E) : Type 0 where
  pub places : Result (List Place) E
  pub may : Reaches places
  pub outcome : result ≡ in_full partial (length bytes) places
  pub stored : new ≡ written_over old places bytes

-- the places of a window, or the error that refused it
abbrev pub places_in : Result Window VolatileMemoryError → Result (List Place) VolatileMemoryError
places_in (Ok w) = Ok (places_of w)
places_in (Err e) = Err e

-- the places of a window that an access of n bytes from an address on reaches, or the error
abbrev pub reached_places : Window → (address n : ℕ) → Result (List Place) VolatileMemoryError
reached_places w address n = places_in (reached_part w address n)
