-- Segments one after another.
use Rattle.std.specs.Prelude.{ℕ, List, ◌++◌, length, map}
use Rattle.std.specs.List.{flat_map}
use Rattle.std.specs.Borrow.{Bor}

-- the bytes of the segments, one segment after another
abbrev pub joined : List (Bor (List ℕ)) → List ℕ
joined segments = flat_map (λ s. s.now) segments

-- the bytes of a segment and of the segments behind it
abbrev pub all_of : List ℕ → List (Bor (List ℕ)) → List ℕ
all_of segment later = segment ++ joined later

-- the length of each segment
abbrev pub segment_lengths : List (Bor (List ℕ)) → List ℕ
segment_lengths segments = map (λ s. length s.now) segments
