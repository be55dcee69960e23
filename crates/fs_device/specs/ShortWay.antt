-- The chains that are answered in place: with a READ's data straight in the reply buffer.
use Rattle.std.specs.Prelude.{◌≡◌, ◌≤◌, ℕ, IsTrue, List, length, map, min, take, is_ok, Result, Ok, Err}
use Rattle.vm_memory_core.specs.Host.{Host, Place}
use Rattle.vm_memory_core.specs.Window.{byte_in, places}
use Rattle.fs_queue.specs.declared.chain.Chain.{Chain}
use Rattle.fs_queue.specs.declared.fault.ChainFault.{ChainFault}
use Rattle.fs_device.specs.Behind.{HasBehind}
use Rattle.virtiofsd_fuse.specs.ReadApart.{read_request}

-- the bytes at some places are exactly a READ's two records (linux/fuse.h, struct fuse_in_header and
-- fuse_read_in, 80 bytes)
abbrev pub HoldARead : Host → List Place → Type 0
HoldARead h ps = (length ps ≤ 80) × IsTrue (is_ok (read_request (map (byte_in h) ps)))

-- a chain's request is just a READ, and the first 16 bytes of its reply buffer (struct fuse_out_header)
-- have none in common with those behind them
abbrev pub ReadsInPlace : Host → Result Chain ChainFault → Type 0
ReadsInPlace h (Ok c) = HasBehind (places c.writable.items) 16 × HoldARead h (places c.readable.items)
ReadsInPlace h (Err fault) = ⊥

-- these are the first bytes at some places: all of them, or 80
pub record IsFetchedFront (h : Host) (ps : List Place) (front : List ℕ) : Type 0 where
  pub size : length front ≡ min (length ps) 80
  pub bytes : front ≡ map (byte_in h) (take (length front) ps)
