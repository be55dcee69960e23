-- The bytes that a sink takes.
use Rattle.std.specs.Prelude.{◌≡◌, ℕ, ◌<◌, Bool, true, ◌==◌, List, ◌++◌, length, Option, Result, Ok, Err}
use Rattle.std.specs.Prelude.{MatchResult}
use Rattle.std.specs.Io.KnownBytes.{Appends}

-- whether a put returned an error or took no byte
abbrev pub took_nothing : {E : Type 0} → Result ℕ E → Bool
took_nothing (Ok n) = n == 0
took_nothing (Err e) = true

-- the sink took all of the bytes, or it took a part of them and then failed
abbrev pub Leaves : {E : Type 0} → (bytes : List ℕ) → (had : Option (List ℕ)) → (failed : Bool) →
    Result Unit E → (has : Option (List ℕ)) → (fails : Bool) → Type 0
Leaves bytes had failed result has fails = MatchResult result
    (λ _. Appends had has bytes × (fails ≡ failed))
    (λ _. (part rest : List ℕ)
    × (bytes ≡ part ++ rest)
    × (0 < length rest)
    × Appends had has part
    × (fails ≡ true))
