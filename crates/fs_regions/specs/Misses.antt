-- Misses of a pop: addresses that it needs and the IOMMU's table doesn't map at all. Two kinds of address
-- are no miss, but a reason for a refusal or a fault. One is mapped into no region, or without the
-- permission. The other is in the last page, which no table of whole pages maps.
use Rattle.std.specs.Prelude.{ℕ, ◌+◌, ◌-◌, ◌^◌, ◌&&◌, max, nat_le, List, [], ◌∷◌, ◌++◌, true, false}
use Rattle.std.specs.Prelude.{Option, Some, None, option_map, if◌then◌else◌}
use Rattle.std.specs.Option.{option_or}
use Rattle.vm_iotlb.specs.declared.iova.IovaRange.{IovaRange}
use Rattle.vm_iotlb.specs.declared.permissions.Permissions.{Permissions}
use Rattle.vm_iotlb.specs.declared.permissions.Permissions.TheVariants.{Read, Write}
use Rattle.vm_iotlb.specs.AddressRuns.{missing}
use Rattle.vm_memory.specs.Memory.{Memory, table_of}
use Rattle.fs_queue.specs.Queue.{Queue, avail_index_at, element_at, index_at, ring_entry_at}
use Rattle.fs_queue.specs.Chain.{Descriptor, Visit, entry_address, is_writable}
use Rattle.fs_queue.specs.Taking.{access_of, of_direction}

-- addresses one after another that a pop needs, and the access that it needs to them
pub record Area : Type 0 where
  pub from : ℕ
  pub len : ℕ
  pub access : Permissions

-- where the last page of the device's addresses begins. A table of whole pages of 4096 bytes never maps that
-- page: it ends at 2^64, and a mapping ends below
abbrev pub last_page : ℕ
last_page = 2 ^ 64 - 4096

-- the ranges of n addresses from a on that the table doesn't map, as long as can be. There are none without a
-- table, or if one of the addresses is in the last page or past it: nobody could map that one
abbrev pub missing_in : Memory → (a n : ℕ) → List IovaRange
missing_in m a n = if m.translates && nat_le (a + n) last_page then missing (table_of m) a n else []

-- the first of some ranges
abbrev pub first_of : List IovaRange → Option IovaRange
first_of [] = None
first_of (r ∷ rest) = Some r

-- the first missing range of an area, with the access that is needed
abbrev pub miss_of : Memory → Area → Option (IovaRange × Permissions)
miss_of m area = option_map (λ r. (r, area.access)) (first_of (missing_in m area.from area.len))

-- the first missing range of the first area that has one; None if no address of the areas is missing
abbrev pub first_miss : Memory → List Area → Option (IovaRange × Permissions)
first_miss m [] = None
first_miss m (area ∷ areas) = option_or (miss_of m area) (first_miss m areas)

-- the buffer of a descriptor from an address on; all of it, if it begins behind that address
abbrev pub area_from : Descriptor → (from : ℕ) → Area
area_from d from =
    record {
      from = max d.addr from;
      len = d.len - (max d.addr from - d.addr);
      access = access_of (is_writable d);
    }

-- the buffers of some descriptors
abbrev pub areas_of : Permissions → List Descriptor → List Area
areas_of access [] = []
areas_of access (d ∷ ds) = record { from = d.addr; len = d.len; access = access } ∷ areas_of access ds

-- the request of a chain with these descriptors, and then its reply buffer
abbrev pub buffers_of : List Descriptor → List Area
buffers_of ds = areas_of Read (of_direction false ds) ++ areas_of Write (of_direction true ds)

-- the tests of a pop, each of whether addresses are mapped: the available index, the ring's entry, the fields
-- that a push of the chain needs, an entry of a table, and the chain's buffers
pub data Test : Type 0 where
  OfIndex : Test
  OfRingEntry : Test
  OfReturn : Test
  OfEntry : Visit → Test
  OfBuffers : List Descriptor → Test

-- the areas that each test needs, in the order in which they are looked up
abbrev pub needed_at : Queue → Test → List Area
needed_at q OfIndex = record { from = avail_index_at q; len = 2; access = Read } ∷ []
needed_at q OfRingEntry = record { from = ring_entry_at q; len = 2; access = Read } ∷ []
needed_at q OfReturn =
    record { from = element_at q; len = 8; access = Write }
    ∷ record { from = index_at q; len = 2; access = Write }
    ∷ record { from = q.avail; len = 2; access = Read }
    ∷ []
needed_at q (OfEntry v) = record { from = entry_address v; len = 16; access = Read } ∷ []
needed_at q (OfBuffers ds) = buffers_of ds
