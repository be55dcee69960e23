-- Addresses that are mapped in one piece, and the descriptors whose bytes they have (VIRTIO 1.2, 2.7.5).
use Rattle.std.specs.Prelude.{◌≡◌, ◌+◌, ◌-◌, ◌≤◌, true}
use Rattle.vm_memory.specs.Memory.{Memory, reach}
use Rattle.fs_queue.specs.Chain.{Descriptor, is_writable}
use Rattle.fs_queue.specs.Taking.{access_of}
use Rattle.fs_regions.specs.declared.fits.Piece.{Piece}

-- all addresses of a piece are mapped for its access
abbrev pub IsPiece : Memory → Piece → Type 0
IsPiece m p = reach m (access_of p.write_only) p.from (p.end - p.from) ≡ true

-- a piece has all bytes of a descriptor, for the access that the device needs
abbrev pub HasDescriptor : Piece → Descriptor → Type 0
HasDescriptor p d = (p.write_only ≡ is_writable d) × (p.from ≤ d.addr) × (d.addr + d.len ≤ p.end)
