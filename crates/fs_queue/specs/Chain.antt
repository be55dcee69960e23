-- The chain of descriptors that begins at a head (VIRTIO 1.2, 2.7.5 and 2.7.5.3).
use Rattle.std.specs.Prelude.{ℕ, zero, suc, ◌+◌, ◌*◌, ◌/◌, ◌%◌, ◌^◌, Bool, true, false, not, ◌&&◌, ◌||◌}
use Rattle.std.specs.Prelude.{nat_le, nat_lt, ◌==◌, List, [], ◌∷◌, Option, Some, None, if◌then◌else◌}
use Rattle.std.specs.Int.{w16, w32, w64}
use Rattle.vm_iotlb.specs.declared.permissions.Permissions.TheVariants.{Read}
use Rattle.vm_memory.specs.Memory.{Memory, number, reach}
use Rattle.fs_queue.specs.declared.fault.ChainFault.{ChainFault}
use Rattle.fs_queue.specs.declared.fault.ChainFault.TheVariants.{TooLong, NextOutOfTable, AddressOverflow}
use Rattle.fs_queue.specs.declared.fault.ChainFault.TheVariants.{IndirectWithNext, IndirectNested}
use Rattle.fs_queue.specs.declared.fault.ChainFault.TheVariants.{IndirectLength, TableUnreachable}
use Rattle.fs_queue.specs.Queue.{Queue, has_bit}

-- an entry of a descriptor table: its guest address, its length in bytes, its flags and the index of the
-- next entry (2.7.5)
pub record Descriptor : Type 0 where
  pub addr : ℕ
  pub len : ℕ
  pub flags : ℕ
  pub next : ℕ

-- the entry of a table at an address: le64 addr, le32 len, le16 flags, le16 next (2.7.5)
abbrev pub descriptor_at : Memory → ℕ → Descriptor
descriptor_at m a =
    record {
      addr = number m w64 a;
      len = number m w32 (a + 8);
      flags = number m w16 (a + 12);
      next = number m w16 (a + 14);
    }

-- VIRTQ_DESC_F_NEXT: another descriptor follows
abbrev pub has_next : Descriptor → Bool
has_next d = has_bit d.flags 0

-- VIRTQ_DESC_F_WRITE: the device writes its bytes; else it reads them
abbrev pub is_writable : Descriptor → Bool
is_writable d = has_bit d.flags 1

-- VIRTQ_DESC_F_INDIRECT: the descriptor's bytes are a table of descriptors
abbrev pub is_indirect : Descriptor → Bool
is_indirect d = has_bit d.flags 2

-- a table of descriptors: its address, its number of entries, and whether a descriptor refers to it (an
-- indirect table) or it is the queue's own
pub record DescriptorTable : Type 0 where
  pub address : ℕ
  pub entries : ℕ
  pub indirect : Bool

-- a step of a walk: an entry of a table, and the number of ordinary descriptors before it
pub record Visit : Type 0 where
  pub table : DescriptorTable
  pub index : ℕ
  pub earlier : ℕ

-- the guest address of a step's entry
abbrev pub entry_address : Visit → ℕ
entry_address v = v.table.address + 16 * v.index

-- the result of a step: an ordinary descriptor, which joins the chain; an indirect table, to walk next;
-- a fault of the chain; or a stop of the queue
pub data WalkStep : Type 0 where
  Ordinary : Descriptor → WalkStep
  Indirect : DescriptorTable → WalkStep
  Faulty : ChainFault → WalkStep
  Stops : WalkStep

-- whether the end of a descriptor's bytes, its address plus its length, fits 64 bits
abbrev pub ends_in_64_bits : Descriptor → Bool
ends_in_64_bits d = nat_lt (d.addr + d.len) (2 ^ 64)

-- the step at a descriptor that refers to an indirect table. The next step is at the table's entry 0
-- (2.7.5.3). The descriptor isn't counted, and its WRITE is ignored (2.7.5.3.2)
abbrev pub indirect_step : Visit → Descriptor → WalkStep
indirect_step v d =
    if has_next d then Faulty IndirectWithNext
    else if v.table.indirect then Faulty IndirectNested
    else if d.len == 0 || not (d.len % 16 == 0) then Faulty IndirectLength
    else if not (ends_in_64_bits d) then Faulty AddressOverflow
    else Indirect (record { address = d.addr; entries = d.len / 16; indirect = true })

-- the step at any other descriptor. A chain has no more descriptors than its queue's size (2.7.5.3.1)
abbrev pub ordinary_step : (size : ℕ) → Visit → Descriptor → WalkStep
ordinary_step size v d =
    if v.earlier == size then Faulty TooLong
    else if nat_lt 0 d.len && not (ends_in_64_bits d) then Faulty AddressOverflow
    else Ordinary d

-- the step whose entry is at an address, in a chain of a queue of this size
abbrev pub walk_step_at : Memory → (size : ℕ) → Visit → ℕ → WalkStep
walk_step_at m size v a =
    if not (reach m Read a 16) then (if v.table.indirect then Faulty TableUnreachable else Stops)
    else if is_indirect (descriptor_at m a) then indirect_step v (descriptor_at m a)
    else ordinary_step size v (descriptor_at m a)

-- the result of a step, in a chain of a queue of this size
abbrev pub walk_step : Memory → (size : ℕ) → Visit → WalkStep
walk_step m size v =
    if nat_le v.table.entries v.index then Faulty NextOutOfTable
    else walk_step_at m size v (v.table.address + 16 * v.index)

-- the step that follows, if one does
abbrev pub next_visit : Visit → WalkStep → Option Visit
next_visit v (Ordinary d) =
    if has_next d then Some (record { table = v.table; index = d.next; earlier = v.earlier + 1 }) else None
next_visit v (Indirect table) = Some (record { table = table; index = 0; earlier = v.earlier })
next_visit v (Faulty fault) = None
next_visit v Stops = None

-- the steps from the next step on, if there is a next step
abbrev pub onward : (Visit → List Visit) → Option Visit → List Visit
onward next None = []
onward next (Some v) = next v

-- the first n steps of a walk from a step on, in a chain of a queue of this size
unfoldable pub path : Memory → (size n : ℕ) → Visit → List Visit
path m size zero v = []
path m size (suc n) v = v ∷ onward (path m size n) (next_visit v (walk_step m size v))

-- the queue's own table
abbrev pub own_table : Queue → DescriptorTable
own_table q = record { address = q.desc; entries = q.size; indirect = false }

-- the first step of the walk from a head
abbrev pub first_visit : Queue → ℕ → Visit
first_visit q head = record { table = own_table q; index = head; earlier = 0 }

-- the walk from a head. It has at most size + 2 steps: this bound leaves none out (Laws)
abbrev pub walk : Memory → Queue → ℕ → List Visit
walk m q head = path m q.size (q.size + 2) (first_visit q head)

-- the result of a walk: the descriptors of a chain, a fault, or a stop of the queue
pub data Found : Type 0 where
  IsChain : List Descriptor → Found
  HasFault : ChainFault → Found
  StopsQueue : Found

-- the result of a walk with one more descriptor at the chain's front
abbrev pub with_front : Descriptor → Found → Found
with_front d (IsChain ds) = IsChain (d ∷ ds)
with_front d (HasFault fault) = HasFault fault
with_front d StopsQueue = StopsQueue

-- the result of a walk, from its first step and the result of the other steps
abbrev pub after_walk_step : WalkStep → Found → Found
after_walk_step (Ordinary d) rest = with_front d rest
after_walk_step (Indirect table) rest = rest
after_walk_step (Faulty fault) rest = HasFault fault
after_walk_step Stops rest = StopsQueue

-- the result of some steps: the chain of their ordinary descriptors, or the first fault or stop
unfoldable pub found : Memory → (size : ℕ) → List Visit → Found
found m size [] = IsChain []
found m size (v ∷ vs) = after_walk_step (walk_step m size v) (found m size vs)

-- the result of the walk from a head
abbrev pub chain : Memory → Queue → ℕ → Found
chain m q head = found m q.size (walk m q head)
