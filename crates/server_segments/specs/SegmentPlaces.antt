-- Places in segments: the index of a segment, and the number of its bytes before the place.
use Rattle.std.specs.Prelude.{ℕ, ◌+◌, ◌<◌, ◌≤◌, sum, List, length, take, slice_index}

-- the number of bytes before a place
abbrev pub bytes_before : List ℕ → (segment used : ℕ) → ℕ
bytes_before segments segment used = sum (take segment segments) + used

-- a place is inside a segment, or behind all segments
pub record IsIn (segments : List ℕ) (segment used : ℕ) : Type 0 where
  pub there : segment ≤ length segments
  pub before_end : segment < length segments → used < slice_index segments segment
