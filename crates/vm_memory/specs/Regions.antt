-- Results of one region's calls.
use Rattle.std.specs.Prelude.{ℕ, ◌+◌, ◌-◌, nat_le, nat_lt, Option, Some, None, if◌then◌else◌, Result, Ok, Err}
use Rattle.vm_values.specs.declared.address.MemoryRegionAddress.{MemoryRegionAddress}
use Rattle.vm_iotlb.specs.Table.{is_within}
use Rattle.vm_memory_core.specs.Window.{Window}
use Rattle.vm_memory.specs.Layout.{Region}
use Rattle.vm_memory.specs.declared.region.HostAddress.{HostAddress}
use Rattle.vm_memory.specs.declared.error.GuestMemoryError.{GuestMemoryError}
use Rattle.vm_memory.specs.declared.error.GuestMemoryError.TheVariants.{InvalidBackendAddress}

-- an offset, if the region has it
abbrev pub checked_in : Region → ℕ → Option MemoryRegionAddress
checked_in r o = if nat_lt o r.size then Some (record { 0 = o }) else None

-- the offset of an address, if the region has the address
abbrev pub offset_in : Region → ℕ → Option MemoryRegionAddress
offset_in r a = if is_within r.start r.size a then Some (record { 0 = a - r.start }) else None

-- the window of n bytes from an offset on, if the region has them all
abbrev pub window_in : Region → (offset n : ℕ) → Result Window GuestMemoryError
window_in r o n =
    if nat_le (o + n) r.size then Ok (record { block = r.block; offset = o; len = n; io = None })
    else Err InvalidBackendAddress

-- the block and the offset of the byte at an offset of a region, if the region has it
abbrev pub host_address_in : Region → ℕ → Result HostAddress GuestMemoryError
host_address_in r o =
    if nat_lt o r.size then Ok (record { block = r.block; offset = o }) else Err InvalidBackendAddress

-- the window of all bytes of a region
abbrev pub whole_of : Region → Window
whole_of r = record { block = r.block; offset = 0; len = r.size; io = None }
