-- Worked offers that compute, behind an IOMMU: a queue of one descriptor with a room of 4 bytes at 0x28.
-- Then chains of two descriptors in an indirect table.
use Rattle.std.specs.Prelude.{◌≡◌, ℕ, ◌+◌, Bool, true, false, List, [], ◌∷◌, refl}
use Rattle.vm_iotlb.specs.declared.permissions.Permissions.{Permissions}
use Rattle.vm_iotlb.specs.declared.permissions.Permissions.TheVariants.{Read, Write, ReadWrite}
use Rattle.vm_iotlb.specs.declared.range.IotlbRange.{IotlbRange}
use Rattle.vm_iotlb.specs.Ranges.{table_held}
use Rattle.vm_memory.specs.Layout.{place}
use Rattle.vm_memory.specs.Memory.{Memory, addresses, io_memory, memory_of}
use Rattle.fs_queue.specs.declared.fault.ChainFault.TheVariants.{RoomUnreachable, TooLong}
use Rattle.fs_queue.specs.declared.fault.QueueError.TheVariants as stop
use Rattle.fs_queue.specs.Chain.{path, IsChain, HasFault, found, chain}
use Rattle.fs_queue.specs.Queue.{Queue, fresh}
use Rattle.fs_queue.specs.Returning.{stores_after_reply, notifies}
use Rattle.fs_queue.specs.Taking.{Offer, Refuses, Offers, IsRequest, CannotFetch, offer, may_lack_memory}

-- a descriptor of the room, then the available ring with head 0 at position 0, then the used ring and the
-- room
abbrev block_bytes : List ℕ
block_bytes =
    0x28 ∷ 0 ∷ 0 ∷ 0 ∷ 0 ∷ 0 ∷ 0 ∷ 0 ∷ 4 ∷ 0 ∷ 0 ∷ 0 ∷ 2 ∷ 0 ∷ 0 ∷ 0
    ∷ 0 ∷ 0 ∷ 1 ∷ 0 ∷ 0 ∷ 0 ∷ 0 ∷ 0
    ∷ 0 ∷ 0 ∷ 0 ∷ 0 ∷ 0 ∷ 0 ∷ 0 ∷ 0 ∷ 0 ∷ 0 ∷ 0 ∷ 0 ∷ 0 ∷ 0 ∷ 0 ∷ 0
    ∷ 0 ∷ 0 ∷ 0 ∷ 0 ∷ []

-- I/O addresses from start up to end are mapped to those 0x100 higher
abbrev range : (start end : ℕ) → Permissions → IotlbRange
range start end perm = record { start = start; end = end; target = 0x100 + start; perm = perm }

-- the memory of these bytes at 0x100, behind a table
abbrev memory : List IotlbRange → Memory
memory ranges =
    io_memory (record {
      blocks = record { bytes = block_bytes; marks = false ∷ [] } ∷ [];
      tables = ranges ∷ [];
      io_marks = [];
    })
    (record { start = 0x100; size = 0x2c; block = 0 } ∷ []) 0 0

-- the queue: its descriptor table is at 0, its rings at 0x10 and 0x18
abbrev queue : Queue
queue = record { size = 1; desc = 0; avail = 0x10; used = 0x18; position = 0; stopped = false }

-- the queue's offer behind a table of these ranges
abbrev gives : List IotlbRange → Offer
gives ranges = offer (memory ranges) 0x1000 queue

-- whether a failed allocation may refuse that offer
abbrev may_lack : List IotlbRange → Bool
may_lack ranges = may_lack_memory (gives ranges)

-- the device may read and write all
room_offered : gives (range 0 0x2c ReadWrite ∷ []) ≡ Offers 0 (IsRequest [] (addresses 0x28 4))
unfolding offer place addresses table_held path found
room_offered = refl

-- the ring's entry isn't mapped
entry_unmapped : gives (range 0 0x14 ReadWrite ∷ []) ≡ Refuses stop.RingEntryUnreachable
unfolding offer place addresses table_held path found
entry_unmapped = refl

-- a failed allocation doesn't hide that refusal
entry_unmapped_takes : may_lack (range 0 0x14 ReadWrite ∷ []) ≡ false
unfolding offer place addresses table_held path found
entry_unmapped_takes = refl

-- the ring's entry is mapped to addresses that no region has
abbrev entry_elsewhere : List IotlbRange
entry_elsewhere =
    range 0 0x14 ReadWrite ∷ record { start = 0x14; end = 0x16; target = 0x400; perm = Read } ∷ []

-- so the device can't read it either
entry_nowhere : gives entry_elsewhere ≡ Refuses stop.RingEntryUnreachable
unfolding offer place addresses table_held path found
entry_nowhere = refl

-- a failed allocation doesn't hide that refusal either
entry_nowhere_takes : may_lack entry_elsewhere ≡ false
unfolding offer place addresses table_held path found
entry_nowhere_takes = refl

-- the device may only read the used ring
used_not_written : gives (range 0 0x18 ReadWrite ∷ range 0x18 0x28 Read ∷ range 0x28 0x2c ReadWrite ∷ [])
    ≡ Refuses stop.UsedUnreachable
unfolding offer place addresses table_held path found
used_not_written = refl

-- the available flags aren't mapped, but the index and the entry after them are
flags_unmapped :
    gives (range 0 0x10 ReadWrite ∷ range 0x12 0x2c ReadWrite ∷ []) ≡ Refuses stop.AvailFlagsUnreachable
unfolding offer place addresses table_held path found
flags_unmapped = refl

-- the device may only read the room
room_not_written :
    gives (range 0 0x28 ReadWrite ∷ range 0x28 0x2c Read ∷ []) ≡ Offers 0 (CannotFetch RoomUnreachable)
unfolding offer place addresses table_held path found
room_not_written = refl

-- a chain with that fault is returned without a reply; a failed allocation may delay it
room_not_written_takes : may_lack (range 0 0x28 ReadWrite ∷ range 0x28 0x2c Read ∷ []) ≡ true
unfolding offer place addresses table_held path found
room_not_written_takes = refl

-- the device needs no read access to the room or to the used ring
room_written :
    gives (range 0 0x18 Read ∷ range 0x18 0x2c Write ∷ []) ≡ Offers 0 (IsRequest [] (addresses 0x28 4))
unfolding offer place addresses table_held path found
room_written = refl

-- a head that refers to a table of two entries at 0x20, and an entry that no chain has. The table has a
-- descriptor with NEXT, then one without
abbrev table_bytes : List ℕ
table_bytes =
    0x20 ∷ 0 ∷ 0 ∷ 0 ∷ 0 ∷ 0 ∷ 0 ∷ 0 ∷ 0x20 ∷ 0 ∷ 0 ∷ 0 ∷ 4 ∷ 0 ∷ 0 ∷ 0
    ∷ 0 ∷ 0 ∷ 0 ∷ 0 ∷ 0 ∷ 0 ∷ 0 ∷ 0 ∷ 0 ∷ 0 ∷ 0 ∷ 0 ∷ 0 ∷ 0 ∷ 0 ∷ 0
    ∷ 0x40 ∷ 0 ∷ 0 ∷ 0 ∷ 0 ∷ 0 ∷ 0 ∷ 0 ∷ 4 ∷ 0 ∷ 0 ∷ 0 ∷ 1 ∷ 0 ∷ 1 ∷ 0
    ∷ 0x44 ∷ 0 ∷ 0 ∷ 0 ∷ 0 ∷ 0 ∷ 0 ∷ 0 ∷ 8 ∷ 0 ∷ 0 ∷ 0 ∷ 2 ∷ 0 ∷ 0 ∷ 0 ∷ []

-- the memory of these bytes at 0, by physical addresses
abbrev table_memory : Memory
table_memory =
    memory_of
    (record { blocks = record { bytes = table_bytes; marks = false ∷ [] } ∷ []; tables = []; io_marks = [] })
    (record { start = 0; size = 0x40; block = 0 } ∷ [])

-- two descriptors are too long a chain for a queue of one, though no descriptor follows the second
one_more_than_the_queue : chain table_memory (fresh 1 0 0x50 0x60) 0 ≡ HasFault TooLong
unfolding place addresses path found
one_more_than_the_queue = refl

-- in a queue of two they are a chain
as_many_as_the_queue : chain table_memory (fresh 2 0 0x50 0x60) 0
    ≡ IsChain (record { addr = 0x40; len = 4; flags = 1; next = 1 }
    ∷ record { addr = 0x44; len = 8; flags = 2; next = 0 } ∷ [])
unfolding place addresses path found
as_many_as_the_queue = refl

-- at the last position of a queue of four, 2^16 - 1, the index in the ring is 3, and the next used index
-- is 0
last_position : stores_after_reply
    (record { size = 4; desc = 0; avail = 0x50; used = 0x60; position = 0xffff; stopped = false }) 2 16
    ≡ record { address = 0x7c; bytes = 2 ∷ 0 ∷ 0 ∷ 0 ∷ [] }
    ∷ record { address = 0x80; bytes = 16 ∷ 0 ∷ 0 ∷ 0 ∷ [] }
    ∷ record { address = 0x62; bytes = 0 ∷ 0 ∷ [] } ∷ []
last_position = refl

-- bit 0 of the flags alone disables used buffer notifications
not_notified : notifies (1 ∷ 0xff ∷ []) ≡ false
not_notified = refl

notified : notifies (0xfe ∷ 0xff ∷ []) ≡ true
notified = refl
