-- Where a queue's rings are in the host's memory, by the place of the used index (VIRTIO 1.2, 2.7.8).
use Rattle.std.specs.Prelude.{ℕ, ◌+◌, Bool, false, true, ◌==◌, ◌&&◌, Option, None, Some, if◌then◌else◌}
use Rattle.vm_iotlb.specs.declared.permissions.Permissions.TheVariants.{Write}
use Rattle.vm_memory_core.specs.Host.{Place}
use Rattle.vm_memory.specs.Memory.{Memory, location}
use Rattle.fs_chain.specs.declared.ring_place.HostPlace.{HostPlace}
use Rattle.fs_chain.specs.declared.ring_place.RingPlace as ring
use Rattle.fs_chain.specs.declared.ring_place.RingPlace.TheVariants.{Physical, Translated, Unmapped}

-- a byte's block and offset
abbrev pub host_place : Place → HostPlace
host_place p = record { block = p.block; offset = p.offset }

-- where the used index is behind a table
abbrev pub ring_behind : Option Place → ring.RingPlace
ring_behind None = Unmapped
ring_behind (Some p) = Translated (host_place p)

-- where the rings of a queue are whose used ring begins at this address. Without a table they have addresses
-- of the regions
abbrev pub ring_of : Memory → (used : ℕ) → ring.RingPlace
ring_of m used = if m.translates then ring_behind (location m Write (used + 2)) else Physical

-- whether two such places are the same; one that isn't mapped is none
abbrev pub is_same_ring : (a b : ring.RingPlace) → Bool
is_same_ring Physical Physical = true
is_same_ring (Translated a) (Translated b) = a.block == b.block && a.offset == b.offset
is_same_ring _ _ = false
