-- Memory as a device sees it: each address is translated by itself.
use Rattle.std.specs.Prelude.{ℕ, zero, suc, ◌+◌, ◌%◌, ◌^◌, ◌==◌, Bool, true, false, ◌&&◌, nat_lt}
use Rattle.std.specs.Prelude.{List, [], ◌∷◌, ◌++◌, map, take, drop, Option, Some, None, if◌then◌else◌}
use Rattle.std.specs.Prelude.{unwrap_or, option_and_then, slice_get, is_some, option_map, Result, Ok, Err}
use Rattle.std.specs.List.{list_all, zip}
use Rattle.std.specs.Int.{Width, byte_len, from_le_bytes}
use Rattle.vm_iotlb.specs.declared.permissions.Permissions.{Permissions}
use Rattle.vm_iotlb.specs.declared.permissions.Permissions.TheVariants.{Read, Write}
use Rattle.vm_iotlb.specs.Table.{Mapping, Table, allows}
use Rattle.vm_iotlb.specs.AddressRuns.{may_all}
use Rattle.vm_iotlb.specs.Ranges.{table_held}
use Rattle.vm_memory_core.specs.Host.{Host, Place, byte_at}
use Rattle.vm_memory_core.specs.Window.{put_byte}
use Rattle.vm_memory.specs.Layout.{Region, place}
use Rattle.vm_values.specs.declared.address.GuestAddress.{GuestAddress}
use Rattle.vm_memory.specs.declared.error.GuestMemoryError.{GuestMemoryError}
use Rattle.vm_memory.specs.declared.error.GuestMemoryError.TheVariants.{InvalidGuestAddress, PartialBuffer}

-- a memory: a host, a layout, the numbers of the device's table and of its set of I/O pages, and whether
-- addresses are translated by the table
pub record Memory : Type 0 where
  pub host : Host
  pub layout : List Region
  pub table : ℕ
  pub io_pages : ℕ
  pub translates : Bool

-- the table of this number in a host; without one, nothing is mapped
abbrev pub table_in : Host → ℕ → Table
table_in h number = table_held (unwrap_or (slice_get h.tables number) [])

-- a memory's table
abbrev pub table_of : Memory → Table
table_of m = table_in m.host m.table

-- the place of the address to which a table maps, if it allows the access
abbrev pub place_behind : List Region → Permissions → Option Mapping → Option Place
place_behind layout access None = None
place_behind layout access (Some to) = if allows to.perm access then place layout to.target else None

-- a place at which a write marks the page of an I/O address in a set, instead of the place's own page
abbrev pub for_io : (set address : ℕ) → Option Place → Option Place
for_io set address None = None
for_io set address (Some p) = Some (record p { io = Some (record { set = set; address = address }) })

-- the place of an address, for an access
abbrev pub location : Memory → Permissions → ℕ → Option Place
location m access a =
    if m.translates then for_io m.io_pages a (place_behind m.layout access (table_of m a))
    else place m.layout a

-- n addresses from a on
unfoldable pub addresses : ℕ → ℕ → List ℕ
addresses a zero = []
addresses a (suc n) = a ∷ addresses (a + 1) n

-- n addresses from a on; 0 follows the greatest address
abbrev pub circular : ℕ → ℕ → List ℕ
circular a n = map (λ x. x % 2 ^ 64) (addresses a n)

-- whether n addresses from a on end below 2^64 and each has a place, for an access
abbrev pub reach : Memory → Permissions → ℕ → ℕ → Bool
reach m access a n = nat_lt (a + n) (2 ^ 64) && list_all (λ x. is_some (location m access x)) (addresses a n)

-- the byte at an address
abbrev pub byte : Memory → ℕ → ℕ
byte m a = unwrap_or (option_and_then (byte_at m.host) (location m Read a)) 0

-- the bytes at n addresses from a on
abbrev pub bytes : Memory → ℕ → ℕ → List ℕ
bytes m a n = map (byte m) (addresses a n)

-- the little-endian number at an address
abbrev pub number : Memory → Width → ℕ → ℕ
number m w a = from_le_bytes w (bytes m a (byte_len w))

-- the memory after a byte is stored at a place, if there is one, which marks the place's page
abbrev pub stored_at : Memory → ℕ → Option Place → Memory
stored_at m b None = m
stored_at m b (Some p) = record m { host = put_byte m.host p b }

-- the memory after a byte is written at an address
abbrev pub stored : Memory → ℕ × ℕ → Memory
stored m write = stored_at m write.1 (location m Write write.0)

-- the memory after writes in order: the last write at a place decides its byte
unfoldable pub stored_all : Memory → List (ℕ × ℕ) → Memory
stored_all m [] = m
stored_all m (write ∷ writes) = stored_all (stored m write) writes

-- the same memory by physical addresses, not translated
abbrev pub physical : Memory → Memory
physical m = record m { translates = false }

-- the memory of a host and a layout that isn't translated
abbrev pub memory_of : Host → List Region → Memory
memory_of h layout = record { host = h; layout = layout; table = 0; io_pages = 0; translates = false }

-- the memory of a host and a layout behind an IOMMU that is on or off
abbrev pub memory_behind : Host → List Region → (table set : ℕ) → (on : Bool) → Memory
memory_behind h layout table set on =
    record { host = h; layout = layout; table = table; io_pages = set; translates = on }

-- the memory of a host and a layout behind an IOMMU that is on; writes mark a set of I/O pages
abbrev pub io_memory : Host → List Region → (table set : ℕ) → Memory
io_memory h layout table set = memory_behind h layout table set true

-- the place of an I/O address by a table of a host, for an access; a write there marks a set of I/O
-- pages
abbrev pub io_location : Host → List Region → (table set : ℕ) → Permissions → ℕ → Option Place
io_location h layout table set access = location (io_memory h layout table set) access

-- the places of some addresses, if each has one
unfoldable pub located : (ℕ → Option Place) → List ℕ → Option (List Place)
located where_is [] = Some []
located where_is (a ∷ as') =
    option_and_then (λ p. option_map (λ ps. p ∷ ps) (located where_is as')) (where_is a)

-- whether n addresses from a on are mapped throughout: if they are translated, they end below 2^64, and
-- the table allows the access to each
abbrev pub is_mapped : Memory → Permissions → (a n : ℕ) → Bool
is_mapped m access a n =
    if m.translates then nat_lt (a + n) (2 ^ 64) && may_all (table_of m) access a n else true

-- the places of n addresses from a on, for an access, if each has one. If addresses aren't translated, 0
-- follows the greatest
abbrev pub places_from : Memory → Permissions → (a n : ℕ) → Option (List Place)
places_from m access a n = if is_mapped m access a n then located (location m access) (circular a n) else None

-- the layout, if a device uses physical addresses
abbrev pub physical_layout : Memory → Option (List Region)
physical_layout m = if m.translates then None else Some m.layout

-- the number of addresses in a list before the first without a place
unfoldable pub reached : (ℕ → Option Place) → List ℕ → ℕ
reached where_is [] = 0
reached where_is (a ∷ as') = if is_some (where_is a) then suc (reached where_is as') else 0

-- a buffer after the bytes at the first k of some addresses are read to its front
abbrev pub read_first : Memory → List ℕ → (k : ℕ) → (old : List ℕ) → List ℕ
read_first m as' k old = map (byte m) (take k as') ++ drop k old

-- the memory after bytes are written at the first k of some addresses
abbrev pub stored_first : Memory → List ℕ → (k : ℕ) → List ℕ → Memory
stored_first m as' k bytes = stored_all m (zip (take k as') bytes)

-- a list after an earlier one, if there is a list
abbrev pub after : {X : Type 0} → List X → Option (List X) → Option (List X)
after old None = None
after old (Some xs) = Some (old ++ xs)

-- the result of a transfer of n bytes at an address, of which `done` were transferred
abbrev pub transferred : GuestAddress → (n done : ℕ) → Result (Unit {0}) GuestMemoryError
transferred addr n done =
    if done == n then Ok tt
    else if done == 0 then Err (InvalidGuestAddress addr)
    else Err (PartialBuffer n done)
