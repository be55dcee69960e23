-- That the allocator refused a request. Only the contracts of this crate say so, and its functions only ask
-- the allocator. No proof of another crate unfolds these definitions.
use Rattle.std.specs.Prelude.{ℕ}

-- the allocator refused room for n elements
unfoldable pub RoomWasRefused : ℕ → Type 0
RoomWasRefused n = Unit {0}

-- the allocator refused a request
unfoldable pub MemoryWasRefused : Type 0
MemoryWasRefused = Unit {0}
