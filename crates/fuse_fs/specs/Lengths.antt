-- The lengths of consecutive segments.
use Rattle.std.specs.Prelude.{ℕ, ◌-◌, ◌==◌, nat_le, min, List, [], ◌∷◌, cond}

-- the lengths that aren't 0
abbrev pub filled : List ℕ → List ℕ
filled [] = []
filled (n ∷ ns) = cond (n == 0) (filled ns) (n ∷ filled ns)

-- the first of these lengths; 0 if there is none
abbrev pub first : List ℕ → ℕ
first [] = 0
first (n ∷ ns) = n

-- the segments behind the first `place` bytes: the rest of the one where these end, and those after it
unfoldable pub past : (place : ℕ) → List ℕ → List ℕ
past place [] = []
past place (n ∷ ns) = cond (nat_le n place) (past (place - n) ns) ((n - place) ∷ ns)

-- the segments of the first `place` bytes: the whole ones, and the part of the one where these end
unfoldable pub up_to : (place : ℕ) → List ℕ → List ℕ
up_to place [] = []
up_to place (n ∷ ns) = cond (place == 0) [] (min place n ∷ up_to (place - n) ns)
