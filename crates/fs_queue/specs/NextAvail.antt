-- The next entry of the available ring of a queue that isn't stopped (VIRTIO 1.2, 2.7.6 and 2.7.13 from
-- the device's side).
use Rattle.std.specs.Prelude.{ℕ, not, nat_le, nat_lt, ◌==◌, if◌then◌else◌}
use Rattle.vm_iotlb.specs.declared.permissions.Permissions.TheVariants.{Read}
use Rattle.vm_memory.specs.Memory.{Memory, reach}
use Rattle.fs_queue.specs.declared.fault.QueueError.{QueueError}
use Rattle.fs_queue.specs.declared.fault.QueueError.TheVariants.{AvailIndexUnreachable, AvailTooFar}
use Rattle.fs_queue.specs.declared.fault.QueueError.TheVariants.{RingEntryUnreachable, HeadOutOfTable}
use Rattle.fs_queue.specs.Queue.{Queue, avail_index_at, waiting, ring_entry_at, head}

-- the next entry of an available ring: none, the head of a chain, or a refusal
pub data NextAvail : Type 0 where
  Idle : NextAvail
  Head : (head : ℕ) → NextAvail
  Refused : QueueError → NextAvail

-- the next entry of a queue's available ring. The first refusal that applies is the result
abbrev pub next_avail : Memory → Queue → NextAvail
next_avail m q =
    if not (reach m Read (avail_index_at q) 2) then Refused AvailIndexUnreachable
    else if waiting m q == 0 then Idle
    else if nat_lt q.size (waiting m q) then Refused AvailTooFar
    else if not (reach m Read (ring_entry_at q) 2) then Refused RingEntryUnreachable
    else if nat_le q.size (head m q) then Refused HeadOutOfTable
    else Head (head m q)
