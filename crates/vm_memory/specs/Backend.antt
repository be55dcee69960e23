-- Results of a layout's calls.
use Rattle.std.specs.Prelude.{ℕ, ◌-◌, ◌^◌, ◌&&◌, nat_lt, max, List, [], ◌∷◌, Option, Some, None}
use Rattle.std.specs.Prelude.{if◌then◌else◌, is_some, option_map, Result, Err}
use Rattle.vm_values.specs.declared.address.GuestAddress.{GuestAddress}
use Rattle.vm_memory_core.specs.Window.{Window}
use Rattle.vm_memory.specs.Layout.{Region, region_at, last_address}
use Rattle.vm_memory.specs.Regions.{window_in, host_address_in}
use Rattle.vm_memory.specs.declared.region.HostAddress.{HostAddress}
use Rattle.vm_memory.specs.declared.error.GuestMemoryError.{GuestMemoryError}
use Rattle.vm_memory.specs.declared.error.GuestMemoryError.TheVariants.{InvalidGuestAddress}

-- the greatest address of a layout, or 0 if it has no region
abbrev pub last_of : List Region → ℕ
last_of [] = 0
last_of (r ∷ rest) = max (last_address r) (last_of rest)

-- the region that has an address, and the address's offset in it
abbrev pub region_and_offset : List Region → ℕ → Option (Region × ℕ)
region_and_offset layout a = option_map (λ r. (r, a - r.start)) (region_at layout a)

-- an address, if it fits 64 bits and a region has it
abbrev pub checked_at : List Region → ℕ → Option GuestAddress
checked_at layout a =
    if nat_lt a (2 ^ 64) && is_some (region_at layout a) then Some (record { 0 = a }) else None

-- the result of a region at an address's offset, or InvalidGuestAddress if no region has the address
abbrev pub in_region : {X : Type 0} → GuestAddress → (Region → ℕ → Result X GuestMemoryError) →
    Option Region → Result X GuestMemoryError
in_region addr answer None = Err (InvalidGuestAddress addr)
in_region addr answer (Some r) = answer r (addr.0 - r.start)

-- the window of n bytes from an address on, if the address's region has them all
abbrev pub slice_at : List Region → GuestAddress → (n : ℕ) → Result Window GuestMemoryError
slice_at layout addr n = in_region addr (λ r o. window_in r o n) (region_at layout addr.0)

-- the block and the offset of the byte at an address
abbrev pub host_address_at : List Region → GuestAddress → Result HostAddress GuestMemoryError
host_address_at layout addr = in_region addr host_address_in (region_at layout addr.0)
