-- The values of the code's walks, in the definitions' terms.
use Rattle.std.specs.Prelude.{◌≡◌, ℕ, ◌+◌, ◌*◌, ◌^◌, ◌<◌, true, false, All, List}
use Rattle.vm_iotlb.specs.declared.permissions.Permissions.TheVariants.{Read}
use Rattle.vm_memory.specs.Memory.{Memory, bytes, reach}
use Rattle.fs_queue.specs.declared.walk_step.WalkStep as code_step
use Rattle.fs_queue.specs.declared.walk_step.WalkStep.TheVariants as shows
use Rattle.fs_queue.specs.declared.chain_walk.WalkEnd as walked
use Rattle.fs_queue.specs.declared.chain_walk.WalkEnd.TheVariants as comes_to
use Rattle.fs_queue.specs.declared.layout.QueueLayout.{QueueLayout}
use Rattle.fs_queue.specs.Queue.{Queue, resumed}
use Rattle.fs_queue.specs.Chain.{Descriptor, DescriptorTable, Visit, WalkStep, Ordinary, Indirect, Faulty}
use Rattle.fs_queue.specs.Chain.{Stops}
use Rattle.fs_queue.specs.Chain.{Found, IsChain, HasFault, StopsQueue}

-- the queue of a layout at a position, not stopped
abbrev pub at_position : QueueLayout → (position : ℕ) → Queue
at_position l position = resumed l.size l.desc l.avail l.used position false

-- the step at an entry of a table, after `earlier` ordinary descriptors
abbrev pub in_table : DescriptorTable → (index earlier : ℕ) → Visit
in_table table index earlier = record { table = table; index = index; earlier = earlier }

-- the definitions' step for a step of the code
abbrev pub walk_step_of : code_step.WalkStep → WalkStep
walk_step_of (shows.Ordinary d) = Ordinary d
walk_step_of (shows.Indirect table) = Indirect table
walk_step_of (shows.Faulty fault) = Faulty fault
walk_step_of shows.Stops = Stops

-- a table ends below 2^64
abbrev pub EndsIn64Bits : DescriptorTable → Type 0
EndsIn64Bits table = table.address + 16 * table.entries < 2 ^ 64

-- these are the bytes at the n addresses from a on, and the device can read each of them
abbrev pub AreTheBytes : Memory → (a n : ℕ) → List ℕ → Type 0
AreTheBytes m a n bs = (bs ≡ bytes m a n) × (reach m Read a n ≡ true)

-- these are the bytes of a table
abbrev pub AreTheTable : Memory → DescriptorTable → List ℕ → Type 0
AreTheTable m table bs = AreTheBytes m table.address (16 * table.entries) bs

-- these are the bytes of an available ring up to the end of its entries: flags, index and entries
abbrev pub AreTheRing : Memory → QueueLayout → List ℕ → Type 0
AreTheRing m l bs = AreTheBytes m l.avail (4 + 2 * l.size) bs

-- the definitions' result for a walk of the code that collected these descriptors
abbrev pub found_of : walked.WalkEnd → List Descriptor → Found
found_of comes_to.Chain ds = IsChain ds
found_of (comes_to.Faulty fault) ds = HasFault fault
found_of comes_to.Stopped ds = StopsQueue

-- if a step is at an ordinary descriptor, that descriptor has a property
abbrev pub IfOrdinary : code_step.WalkStep → (Descriptor → Type 0) → Type 0
IfOrdinary (shows.Ordinary d) P = P d
IfOrdinary (shows.Indirect table) P = Unit {0}
IfOrdinary (shows.Faulty fault) P = Unit {0}
IfOrdinary shows.Stops P = Unit {0}

-- if a step is at a descriptor that refers to an indirect table, that table has a property
abbrev pub IfIndirect : code_step.WalkStep → (DescriptorTable → Type 0) → Type 0
IfIndirect (shows.Ordinary d) P = Unit {0}
IfIndirect (shows.Indirect table) P = P table
IfIndirect (shows.Faulty fault) P = Unit {0}
IfIndirect shows.Stops P = Unit {0}

-- each of some descriptors ends below 2^64
unfoldable pub AllEndIn64Bits : List Descriptor → Type 0
AllEndIn64Bits ds = All (λ d. d.addr + d.len < 2 ^ 64) ds
