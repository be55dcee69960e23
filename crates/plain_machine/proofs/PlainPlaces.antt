-- A place that a layout gives is no place behind an IOMMU.
use Rattle.std.proofs.Common.{◌≡◌, ℕ, Bool, true, false, List, [], ◌∷◌, Option, Some, None, refl}
use Rattle.std.specs.Prelude.{if◌then◌else◌, IfSome}
use Rattle.std.specs.Option.{option_or}
use Rattle.vm_iotlb.specs.Table.{is_within}
use Rattle.vm_memory_core.specs.Host.{Place}
use Rattle.vm_memory.specs.Layout.{Region, place}

-- a write there marks the page of the place itself
abbrev pub IsPlain : Option Place → Type 0
IsPlain o = IfSome o (λ p. p.io ≡ None)

plain_or : (b : Bool) (p : Place) (o : Option Place) → p.io ≡ None → IsPlain o → IsPlain (option_or (if b then Some p else None) o)
plain_or true p o here later = here
plain_or false p o here later = later

pub plain_place : (layout : List Region) (a : ℕ) → IsPlain (place layout a)
unfolding place
plain_place [] a = tt
plain_place (r ∷ layout) a = plain_or (is_within r.start r.size a) _ (place layout a) refl (plain_place layout a)
