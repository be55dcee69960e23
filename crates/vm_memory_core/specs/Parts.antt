-- Parts of a window: the result of each call, a part or an error.
use Rattle.std.specs.Prelude.{ℕ, List, All, ◌+◌, ◌-◌, ◌*◌, ◌/◌, ◌^◌, ◌&&◌, ◌==◌, min, nat_lt, nat_le}
use Rattle.std.specs.Prelude.{if◌then◌else◌, Result, Ok, Err}
use Rattle.std.specs.List.{flat_map}
use Rattle.vm_values.specs.Fields.{Field, AllFit, spelled}
use Rattle.vm_memory_core.specs.Window.{Window}
use Rattle.vm_memory_core.specs.declared.error.VolatileMemoryError.{VolatileMemoryError}
use Rattle.vm_memory_core.specs.declared.error.VolatileMemoryError.TheVariants.{OutOfBounds, Overflow, TooBig}

-- a number of elements that fill a window
pub record Elements : Type 0 where
  pub window : Window
  pub count : ℕ

-- the sum of two numbers of bytes, or Overflow if it doesn't fit 64 bits
abbrev pub end_of : (base offset : ℕ) → Result ℕ VolatileMemoryError
end_of base offset =
    if nat_lt (base + offset) (2 ^ 64) then Ok (base + offset) else Err (Overflow base offset)

-- the sum of two numbers of bytes: Overflow if it doesn't fit 64 bits, OutOfBounds if it is above len
abbrev pub end_within : (len base offset : ℕ) → Result ℕ VolatileMemoryError
end_within len base offset =
    if nat_lt (base + offset) (2 ^ 64)
    then if nat_le (base + offset) len then Ok (base + offset) else Err (OutOfBounds (base + offset))
    else Err (Overflow base offset)

-- n bytes of a window, from an offset on
abbrev pub part_of : Window → (offset n : ℕ) → Window
part_of w offset n = record w { offset = w.offset + offset; len = n }

-- n bytes of a window from an offset on: Overflow if their end doesn't fit 64 bits, OutOfBounds if the window
-- doesn't have them
abbrev pub sub_window : Window → (offset n : ℕ) → Result Window VolatileMemoryError
sub_window w offset n =
    if nat_lt (offset + n) (2 ^ 64)
    then if nat_le (offset + n) w.len then Ok (part_of w offset n) else Err (OutOfBounds (offset + n))
    else Err (Overflow offset n)

-- a window without its first n bytes, or OutOfBounds if it has fewer
abbrev pub rest_of : Window → ℕ → Result Window VolatileMemoryError
rest_of w n = if nat_le n w.len then Ok (part_of w n (w.len - n)) else Err (OutOfBounds n)

-- the first n bytes of a window, and the rest, or OutOfBounds if it has fewer
abbrev pub halves_of : Window → ℕ → Result (Window × Window) VolatileMemoryError
halves_of w n =
    if nat_le n w.len then Ok (record w { len = n }, part_of w n (w.len - n)) else Err (OutOfBounds n)

-- n elements of size bytes from an offset on: TooBig if n or their bytes are 2^63 or more, Overflow if their
-- end doesn't fit 64 bits, OutOfBounds if the window doesn't have them
abbrev pub sub_elements : Window → (offset n size : ℕ) → Result Elements VolatileMemoryError
sub_elements w offset n size =
    if nat_lt n (2 ^ 63) && nat_lt (n * size) (2 ^ 63)
    then if nat_lt (offset + n * size) (2 ^ 64)
    then if nat_le (offset + n * size) w.len
    then Ok (record { window = part_of w offset (n * size); count = n })
    else Err (OutOfBounds (offset + n * size))
    else Err (Overflow offset (n * size))
    else Err (TooBig n size)

-- the smaller of n and the number of whole elements of size bytes in len bytes; 0 if size is 0
abbrev pub whole_elements : (size len n : ℕ) → ℕ
whole_elements size len n = if size == 0 then 0 else min (len / size) n

-- the bytes of a window that an access of n bytes from an address on reaches: as many of them as the window
-- has. OutOfBounds if it has no byte at the address and n isn't 0
abbrev pub reached_part : Window → (address n : ℕ) → Result Window VolatileMemoryError
reached_part w address n =
    if n == 0 then Ok (part_of w 0 0)
    else if nat_lt address w.len then Ok (part_of w address (min n (w.len - address)))
    else Err (OutOfBounds address)

-- the bytes of values, one after another
abbrev pub spelled_all : {T : Type 0} → (T → List Field) → List T → List ℕ
spelled_all fields xs = flat_map (λ x. spelled (fields x)) xs

-- the fields of each value fit
unfoldable pub EachFits : {T : Type 0} → (T → List Field) → List T → Type 0
EachFits fields xs = All (λ x. AllFit (fields x)) xs

-- the number of elements that are copied between an array of count and a list of n; 0 if size is 0
abbrev pub elements_copied : (size count n : ℕ) → ℕ
elements_copied size count n = if size == 0 then 0 else min count n
