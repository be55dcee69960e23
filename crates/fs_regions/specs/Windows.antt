-- The addresses of the bytes of a chain's request and reply buffer.
use Rattle.std.specs.Prelude.{◌≡◌, ℕ, ◌<◌, ◌≤◌, ◌+◌, ◌-◌, ◌%◌, ◌^◌, min, Bool, List, ◌∷◌, ◌++◌, take, drop}
use Rattle.std.specs.Prelude.{◌⊎◌, Option, Some, None, is_some, true}
use Rattle.std.specs.List.{list_all}
use Rattle.vm_memory_core.specs.Host.{Place}
use Rattle.vm_memory_core.specs.Window.{Window, places_of}
use Rattle.vm_memory.specs.Memory.{addresses, located, location}
use Rattle.vm_memory.specs.Slices.{IsWindowAt}
use Rattle.fs_queue.specs.Chain.{Descriptor}
use Rattle.fs_queue.specs.Taking.{total_len, access_of, of_direction, addresses_of}
use Rattle.fs_regions.specs.Places.{Mapped, left_in, places_in}

-- some addresses lie in one piece, from this place on: the longest window of them has them all. A place is
-- the number of a block, and an offset there, added
abbrev pub LiesAt : (ℕ → Option Place) → (addr len left at : ℕ) → Type 0
LiesAt where_is addr len left at =
    (v : Window)
    × IsWindowAt where_is addr len v
    × (v.len ≡ min len left)
    × (v.len ≡ len)
    × (at ≡ (v.block + v.offset) % 2 ^ 64)

-- they don't lie in one piece: the first has no place, or the longest window of them is shorter
abbrev pub LiesApart : (ℕ → Option Place) → (addr len left : ℕ) → Type 0
LiesApart where_is addr len left =
    (where_is addr ≡ None)
    ⊎ ((v : Window) × IsWindowAt where_is addr len v × (v.len ≡ min len left) × (v.len ≡ len → ⊥))

-- each of n addresses from one on has a place, and their end is an address
abbrev pub HavePlaces : (ℕ → Option Place) → (addr n : ℕ) → Type 0
HavePlaces where_is addr n =
    (addr + n < 2 ^ 64) × (list_all (λ a. is_some (where_is a)) (addresses addr n) ≡ true)

-- byte `from` of some descriptors is byte `skip` of this descriptor
abbrev pub IsByteOf : List Descriptor → (from : ℕ) → (d : Descriptor) → (skip : ℕ) → Type 0
IsByteOf ds from d skip =
    (before behind : List Descriptor)
    × (ds ≡ before ++ d ∷ behind)
    × (from ≡ total_len before + skip)
    × (skip < d.len)

-- a window, not empty, of the bytes of one direction from byte `from` on. It ends with their
-- descriptor, their region, or the piece that is mapped as one
abbrev pub IsWindowFrom : Mapped → (write_only : Bool) → List Descriptor → (from : ℕ) → Window → Type 0
IsWindowFrom regions write_only ds from w =
    (0 < w.len)
    × (from + w.len ≤ total_len (of_direction write_only ds))
    × (located (location (places_in regions) (access_of write_only))
    (take w.len (drop from (addresses_of (of_direction write_only ds)))) ≡ Some (places_of w))
    × (d : Descriptor) × (skip : ℕ)
    × IsByteOf (of_direction write_only ds) from d skip
    × (w.len ≡ min (d.len - skip) (left_in (places_in regions) (d.addr + skip)))

-- there is no window of the bytes of one direction from byte `from` on. Either the direction has no such
-- byte, or its address isn't mapped or exceeds 64 bits
abbrev pub HasNoWindowFrom : Mapped → (write_only : Bool) → List Descriptor → (from : ℕ) → Type 0
HasNoWindowFrom regions write_only ds from =
    (a : ℕ) (rest : List ℕ)
    → drop from (addresses_of (of_direction write_only ds)) ≡ a ∷ rest
    → a < 2 ^ 64
    → location (places_in regions) (access_of write_only) a ≡ None

-- the addresses of the bytes of one direction from byte `from` on, at least one, up to the end of their
-- descriptor; `guest` is the first one modulo 2^64
abbrev pub IsRangeFrom : (write_only : Bool) → List Descriptor → (from guest len : ℕ) → Type 0
IsRangeFrom write_only ds from guest len =
    (0 < len)
    × (a : ℕ)
    × (guest ≡ a % 2 ^ 64)
    × (take len (drop from (addresses_of (of_direction write_only ds))) ≡ addresses a len)
    × (d : Descriptor) × (skip : ℕ)
    × IsByteOf (of_direction write_only ds) from d skip
    × (len ≡ d.len - skip)
