-- The place at which a window begins.
use Rattle.std.proofs.Common.{arith, ◌≡◌, ℕ, List, [], ◌∷◌, Option, Some, None, ap, subst, sym, option_and_then, option_map}
use Rattle.vm_iotlb.specs.declared.permissions.Permissions.TheVariants.{Write}
use Rattle.vm_memory_core.specs.Host.{Place}
use Rattle.vm_memory_core.specs.Window.{Window, span}
use Rattle.vm_memory.specs.Memory.{Memory, addresses, located, location}
use Rattle.vm_memory.specs.Slices.{IsWindowAt}
use Rattle.fs_chain.specs.Rings.{host_place}
use Rattle.fs_chain.specs.declared.ring_place.HostPlace.{HostPlace}

abbrev first_of : Option (List Place) → Option HostPlace
first_of None = None
first_of (Some []) = None
first_of (Some (p ∷ ps)) = Some (host_place p)

by_place : (o : Option Place) (q : Place)
    → option_and_then (λ (p : Place). option_map (λ (ps : List Place). p ∷ ps) (Some [])) o ≡ Some (q ∷ [])
    → Some (host_place q) ≡ option_map host_place o
by_place None q is = sym (ap first_of is)
by_place (Some p) q is = sym (ap first_of is)

pub found_place : (m : Memory) (a : ℕ) (w : Window) → IsWindowAt (location m Write) a 1 w
    → Some (record { block = w.block; offset = w.offset }) ≡ option_map host_place (location m Write a)
unfolding located addresses span
found_place m a w is =
    let some = is.0 in
    let few = is.1 in
    let one : w.len ≡ 1 = omega (arith, some, few) in
    let there : located (location m Write) (addresses a 1) ≡ Some (span w.block w.offset w.io 1) =
    subst (λ (n : ℕ). located (location m Write) (addresses a n) ≡ Some (span w.block w.offset w.io n)) one is.3 in
    by_place (location m Write a) _ there
