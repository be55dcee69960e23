-- Theorems about records.
use Rattle.std.specs.Prelude.{◌≡◌, ℕ, List, ◌++◌}
use Rattle.fs_queue.specs.Queue.{Queue}
use Rattle.fs_record.specs.Record.{Version, IsRecord}

-- theorem: an input begins with at most one record, so its version, values and rest are unique
abbrev pub OneReading : Type 0
OneReading =
    (v v' : Version) (options options' : ℕ) (queues queues' : List Queue) (bytes bytes' rest rest' : List ℕ) →
    IsRecord bytes v options queues → IsRecord bytes' v' options' queues' → bytes ++ rest ≡ bytes' ++ rest' →
    (v ≡ v') × (options ≡ options') × (queues ≡ queues') × (rest ≡ rest')

-- theorem: the same values have the same record in each version
abbrev pub OneSpelling : Type 0
OneSpelling = (v : Version) (options : ℕ) (queues : List Queue) (bytes bytes' : List ℕ) →
    IsRecord bytes v options queues → IsRecord bytes' v options queues → bytes ≡ bytes'
