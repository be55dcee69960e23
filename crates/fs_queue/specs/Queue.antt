-- A split virtqueue: the addresses of its parts, and its available ring (VIRTIO 1.2, 2.7 and 2.7.6).
use Rattle.std.specs.Prelude.{ℕ, ◌+◌, ◌-◌, ◌*◌, ◌%◌, ◌^◌, Bool, true, false}
use Rattle.std.specs.Int.{w16}
pub use Rattle.vm_values.specs.Bits.{has_bit}
use Rattle.vm_memory.specs.Memory.{Memory, number}

-- a queue: its size, its parts' addresses, its position, and whether it is stopped. The position counts
-- the chains that were popped, modulo 2^16. In a return it counts the chains that were returned, which
-- is the same if each chain is returned before the next pop
pub record Queue : Type 0 where
  pub size : ℕ
  pub desc : ℕ
  pub avail : ℕ
  pub used : ℕ
  pub position : ℕ
  pub stopped : Bool

-- a new queue of this layout: no chain was popped yet
abbrev pub fresh : (size desc avail used : ℕ) → Queue
fresh size desc avail used =
    record { size = size; desc = desc; avail = avail; used = used; position = 0; stopped = false }

-- a queue of this layout at this position, stopped or not
abbrev pub resumed : (size desc avail used position : ℕ) → (stopped : Bool) → Queue
resumed size desc avail used position stopped =
    record { size = size; desc = desc; avail = avail; used = used; position = position; stopped = stopped }

-- a queue after a stop: it hands out no chain until it is reset
abbrev pub with_stop : Queue → Queue
with_stop q = record q { stopped = true }

-- the address of the available index, which follows the available flags
abbrev pub avail_index_at : Queue → ℕ
avail_index_at q = q.avail + 2

-- the number of chains that the driver made available and the device hasn't popped, modulo 2^16
abbrev pub waiting : Memory → Queue → ℕ
waiting m q = (number m w16 (avail_index_at q) + (2 ^ 16 - q.position)) % 2 ^ 16

-- the index of the position's entry in a ring: the position modulo the size
abbrev pub slot : Queue → ℕ
slot q = q.position % q.size

-- the address of the position's entry in the available ring
abbrev pub ring_entry_at : Queue → ℕ
ring_entry_at q = q.avail + 4 + 2 * slot q

-- the head of the next chain
abbrev pub head : Memory → Queue → ℕ
head m q = number m w16 (ring_entry_at q)

-- the address of the position's used element in the used ring (VIRTIO 1.2, 2.7.8)
abbrev pub element_at : Queue → ℕ
element_at q = q.used + 4 + 8 * slot q

-- the address of the used index, which follows the used flags
abbrev pub index_at : Queue → ℕ
index_at q = q.used + 2
