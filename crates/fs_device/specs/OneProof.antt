-- A ghost field needs that its proposition has one proof: here, that a host has the blocks, table and
-- I/O pages of a memory behind an IOMMU. Nothing here has to be believed.
use Rattle.std.specs.Prelude.{ℕ, List}
use Rattle.std.specs.Coded.{le_prop}
use Rattle.vm_memory_core.specs.Host.{Host, lengths}
use Rattle.vm_memory.specs.Layout.{Region}
use Rattle.vm_memory.specs.OneProof.{AreHeld-prop}
use Rattle.vm_memory.specs.Translated.{HoldsBehind}
use mathlib.Core.HLevel.{×₃_prop}

pub holds-prop : (h : Host) (layout : List Region) (number set : ℕ) → IsProp (HoldsBehind h layout number set)
holds-prop h layout number set = ×₃_prop (AreHeld-prop (lengths h) layout) le_prop le_prop
