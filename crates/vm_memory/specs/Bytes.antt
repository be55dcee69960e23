-- The places that an access to bytes reaches.
use Rattle.std.specs.Prelude.{◌≡◌, ℕ, ◌==◌, true, List, [], ◌∷◌, Option, Some, None, ◌⊎◌, if◌then◌else◌}
use Rattle.std.specs.Prelude.{Result, Ok, Err}
use Rattle.vm_values.specs.declared.address.GuestAddress.{GuestAddress}
use Rattle.vm_iotlb.specs.declared.permissions.Permissions.{Permissions}
use Rattle.vm_memory_core.specs.Host.{Place}
use Rattle.vm_memory.specs.Layout.{Region, place}
use Rattle.vm_memory.specs.Memory.{Memory, circular, is_mapped, location}
use Rattle.vm_memory.specs.RangeAnswers.{CannotGive}
use Rattle.vm_memory.specs.declared.error.GuestMemoryError.{GuestMemoryError}
use Rattle.vm_memory.specs.declared.error.GuestMemoryError.TheVariants.{InvalidGuestAddress}
use Rattle.vm_memory.specs.declared.error.GuestMemoryError.TheVariants.{InvalidBackendAddress}
use Rattle.vm_values.specs.declared.address.MemoryRegionAddress.{MemoryRegionAddress}
use Rattle.vm_memory_core.specs.Access.{reached_places}
use Rattle.vm_memory_core.specs.declared.error.VolatileMemoryError.{VolatileMemoryError}
use Rattle.vm_memory.specs.Regions.{whole_of}

-- a place and the places after it; none if there is no first place
abbrev pub and_after : Option Place → List Place → List Place
and_after None rest = []
and_after (Some p) rest = p ∷ rest

-- the places of some addresses, up to the first address without one
unfoldable pub places_at : (ℕ → Option Place) → List ℕ → List Place
places_at where_is [] = []
places_at where_is (a ∷ rest) = and_after (where_is a) (places_at where_is rest)

-- the places that n bytes from an address on reach, or InvalidGuestAddress if n isn't 0 and there are
-- none
abbrev pub unless_none : GuestAddress → (n : ℕ) → List Place → Result (List Place) GuestMemoryError
unless_none addr n [] = if n == 0 then Ok [] else Err (InvalidGuestAddress addr)
unless_none addr n (p ∷ rest) = Ok (p ∷ rest)

-- the places that n bytes from an address on reach, by a layout; 0 follows the greatest address
abbrev pub reached_by : List Region → GuestAddress → (n : ℕ) → Result (List Place) GuestMemoryError
reached_by layout addr n = unless_none addr n (places_at (place layout) (circular addr.0 n))

-- ---- the bytes of a memory, translated or not

-- the places that n bytes from an address on reach, for an access; 0 follows the greatest address
abbrev pub reached_from : Memory → Permissions → GuestAddress → (n : ℕ) → Result (List Place) GuestMemoryError
reached_from m access addr n = unless_none addr n (places_at (location m access) (circular addr.0 n))

-- an access is refused because its addresses aren't mapped throughout, or because an allocation failed
-- then
abbrev pub IsNotMapped : Memory → Permissions → (a n : ℕ) → Result (List Place) GuestMemoryError → Type 0
IsNotMapped m access a n (Ok places) = ⊥
IsNotMapped m access a n (Err e) = CannotGive m access a n e

-- the result of an access to n bytes from an address on: the places that it reaches if they are mapped
-- throughout, else an error
abbrev pub MayReach :
    Memory → Permissions → GuestAddress → (n : ℕ) → Result (List Place) GuestMemoryError → Type 0
MayReach m access addr n places =
    ((is_mapped m access addr.0 n ≡ true) × (places ≡ reached_from m access addr n))
    ⊎ IsNotMapped m access addr.0 n places

-- ---- the bytes of one region

-- the result of an access to a region, from that to its whole window: an error is InvalidBackendAddress
abbrev pub region_result : {X : Type 0} → Result X VolatileMemoryError → Result X GuestMemoryError
region_result (Ok x) = Ok x
region_result (Err e) = Err InvalidBackendAddress

-- the places that n bytes from an offset of a region on reach
abbrev pub reached_in : Region → MemoryRegionAddress → (n : ℕ) → Result (List Place) GuestMemoryError
reached_in r offset n = region_result (reached_places (whole_of r) offset.0 n)
