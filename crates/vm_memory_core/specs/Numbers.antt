-- The numbers of errors.
use Rattle.std.specs.Prelude.{ℕ}
use Rattle.vm_memory_core.specs.declared.error.VolatileMemoryError.{VolatileMemoryError}
use Rattle.vm_memory_core.specs.declared.error.VolatileMemoryError.TheVariants.{OutOfBounds, Overflow, TooBig}
use Rattle.vm_memory_core.specs.declared.error.VolatileMemoryError.TheVariants.{Misaligned, PartialBuffer}

-- the number of a window's error
abbrev pub volatile_memory_number : VolatileMemoryError → ℕ
volatile_memory_number (OutOfBounds addr) = 1
volatile_memory_number (Overflow base offset) = 2
volatile_memory_number (TooBig nelements size) = 3
volatile_memory_number Misaligned = 4
volatile_memory_number (PartialBuffer expected completed) = 5
