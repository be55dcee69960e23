-- What a request that was refused tells.
use Rattle.std.proofs.Common.{ℕ}
use Rattle.memory_requests.specs.Refused.{MemoryWasRefused, RoomWasRefused}

pub room_was_refused : (n : ℕ) → RoomWasRefused n
unfolding RoomWasRefused
room_was_refused n = tt

pub memory_was_refused : MemoryWasRefused
unfolding MemoryWasRefused
memory_was_refused = tt
