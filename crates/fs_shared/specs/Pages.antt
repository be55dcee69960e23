-- The pages of a host's blocks, and the pages of places.
use Rattle.std.specs.Prelude.{◌↔◌, ℕ, zero, suc, ◌+◌, ◌/◌, List, [], ◌∷◌, map}
use Rattle.std.specs.List.{Contains}
use Rattle.std.specs.List.Sorted.{IsStrictlyIncreasing}
use Rattle.vm_memory_core.specs.Host.{Place, page_count}

-- the number of a block's first page, from the lengths of the blocks; pages have 4096 bytes and are numbered
-- block by block
unfoldable pub first_page : (block_lengths : List ℕ) → (block : ℕ) → ℕ
first_page [] block = 0
first_page (n ∷ ns) zero = 0
first_page (n ∷ ns) (suc block) = page_count n + first_page ns block

-- the page in which a place lies
abbrev pub page_of : (block_lengths : List ℕ) → Place → ℕ
page_of block_lengths p = first_page block_lengths p.block + p.offset / 4096

-- the list has exactly the pages of the places, ascending, each once
pub record ArePagesOf (block_lengths : List ℕ) (places : List Place) (pages : List ℕ) : Type 0 where
  pub ascending : IsStrictlyIncreasing pages
  pub all : (page : ℕ) → Contains pages page ↔ Contains (map (page_of block_lengths) places) page
