-- The type of the relations of a file system's migration.
use Rattle.std.specs.Prelude.{ℕ, List, Option}
use Rattle.std.specs.declared.io.ErrorKind.{ErrorKind}

-- a relation of a state and a stream's bytes before, the kind of the error if there is one, and the
-- stream's bytes and the state after
abbrev pub Carries : Type 0 → Type 1
Carries S = S → Option (List ℕ) → Option ErrorKind → Option (List ℕ) → S → Type 0
