-- Listings with their calls of the file system.
use Rattle.std.specs.Prelude.{◌≡◌, ℕ, List, ◌∷◌, ◌++◌, map, Option, Ok, Err}
use Rattle.fuse_fs.specs.Calls.{FileCall, FileAnswer, FileRun, Listed}
use Rattle.server_replies.specs.Entries.{AfterEntry}
use Rattle.server_meanings.specs.Listings.{ListRequest, list_entries}
use Rattle.server_meanings.specs.Serving.{May}

-- entries are listed behind the bytes written so far, by calls that the file system may answer so;
-- error: the error that ended the list, if one did
pub record ListRun {F : Type 0} (may : May F) (l : ListRequest) (ds : List Listed) (left room : ℕ)
    (before : F)
    (written final : List ℕ) (error : Option ℕ) (after : F) : Type 0 where
  pub steps : List (FileCall × FileAnswer)
  pub run : FileRun may before steps after
  pub bytes : List ℕ
  pub gives : list_entries l ds left room (map (λ step. step.1) steps)
      ≡ record { calls = map (λ step. step.0) steps; bytes = bytes; error = error }
  pub all : final ≡ written ++ bytes

-- one entry is listed, for all entries behind it: the listing goes on with them, or ends with this one
abbrev pub EntryRun : {F : Type 0} → May F → ListRequest → Listed → (left room : ℕ) → F → List ℕ →
    AfterEntry → (room : ℕ) → F → List ℕ → Type 0
EntryRun {F} may l d left room before written (Ok left_after) room_after after written_after =
    (ds : List Listed) (final : List ℕ) (error : Option ℕ) (end : F)
    → ListRun may l ds left_after room_after after written_after final error end
    → ListRun may l (d ∷ ds) left room before written final error end
EntryRun may l d left room before written (Err error) room_after after written_after =
    (ds : List Listed) → ListRun may l (d ∷ ds) left room before written written_after error after
