-- Results of a memory for a range of addresses.
use Rattle.std.specs.Prelude.{◌≡◌, ℕ, Bool, false, IsTrue, List, map, is_some, Result, Ok, Err}
use Rattle.std.specs.declared.alloc.AllocError.{AllocError}
use Rattle.vm_iotlb.specs.declared.permissions.Permissions.{Permissions}
use Rattle.vm_iotlb.specs.declared.error.IommuError.TheVariants.{CannotResolve}
use Rattle.vm_iotlb.specs.AddressRuns.{run_of}
use Rattle.vm_memory.specs.Memory.{Memory, byte, circular, is_mapped, places_from}
use Rattle.vm_memory.specs.declared.error.GuestMemoryError.{GuestMemoryError}
use Rattle.vm_memory.specs.declared.error.GuestMemoryError.TheVariants.{IommuError, OutOfMemory}

-- the result of a check that n addresses from a on have places; an allocation fails only if they aren't
-- mapped
abbrev pub Checks : Memory → Permissions → (a n : ℕ) → Result Bool AllocError → Type 0
Checks m access a n (Ok found) = found ≡ is_some (places_from m access a n)
Checks m access a n (Err e) = is_mapped m access a n ≡ false

-- if the result of a read is true, the buffer has the bytes at n addresses from a on
abbrev pub ReadsRange : Memory → (a n : ℕ) → (new : List ℕ) → Result Bool AllocError → Type 0
ReadsRange m a n new (Ok found) = IsTrue found → new ≡ map (byte m) (circular a n)
ReadsRange m a n new (Err e) = Unit {0}

-- the error for which no windows of n addresses from a on are returned: they aren't mapped throughout,
-- or an allocation failed then
abbrev pub CannotGive : Memory → Permissions → (a n : ℕ) → GuestMemoryError → Type 0
CannotGive m access a n (IommuError (CannotResolve range)) =
    (is_mapped m access a n ≡ false) × (range ≡ run_of a n)
CannotGive m access a n OutOfMemory = is_mapped m access a n ≡ false
CannotGive m access a n _ = ⊥
