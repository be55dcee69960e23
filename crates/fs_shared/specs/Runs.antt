-- Runs of consecutive bytes, each within one page.
use Rattle.std.specs.Prelude.{◌↔◌, ℕ, nat_lt, List, map, take}
use Rattle.std.specs.List.{Contains, filter}
use Rattle.fs_shared.specs.declared.runs.PageRun.{PageRun}

-- the pages of the runs that begin within the first `count` bytes
abbrev pub begun : (count : ℕ) → List PageRun → List ℕ
begun count runs = map (λ r. r.page) (filter (λ r. nat_lt r.from count) runs)

-- the runs are those of bytes with these pages, one for each byte: for any count, the runs that begin within
-- the first `count` bytes have exactly the pages of these bytes
abbrev pub AreRuns : (byte_pages : List ℕ) → List PageRun → Type 0
AreRuns byte_pages runs =
    (count page : ℕ) → Contains (begun count runs) page ↔ Contains (take count byte_pages) page
