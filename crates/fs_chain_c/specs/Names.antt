-- The names that a file system may look up as they are.
use Rattle.std.specs.Prelude.{ℕ, Bool, true, false, List, [], ◌∷◌, ◌==◌, ◌&&◌, not}
use Rattle.std.specs.List.{list_any}

-- empty, `.` or `..` (POSIX.1-2017, 4.13)
abbrev pub is_dots : List ℕ → Bool
is_dots [] = true
is_dots (a ∷ []) = a == 46
is_dots (a ∷ b ∷ []) = a == 46 && b == 46
is_dots name = false

-- one component of a path: no byte of it is zero or a slash (POSIX.1-2017, 3.170), and it isn't empty, `.` or
-- `..`
abbrev pub is_name : List ℕ → Bool
is_name name = not (is_dots name) && not (list_any (λ b. b == 0) name) && not (list_any (λ b. b == 47) name)
