-- The pages that are marked, with their bytes.
use Rattle.std.specs.Prelude.{ℕ, ◌+◌, ◌*◌, Bool, List, [], ◌∷◌, ◌++◌, slice_range, if◌then◌else◌}
use Rattle.vm_memory_core.specs.Host.{Host, Block}

-- the bytes of a marked page, when it was harvested
pub record Page : Type 0 where
  pub block : ℕ
  pub offset : ℕ
  pub bytes : List ℕ

-- a copy of a page of a block; the block's last page may be short
abbrev pub page_copied : (block : ℕ) → (bytes : List ℕ) → (page : ℕ) → Page
page_copied block bytes page =
    record {
      block = block;
      offset = page * 4096;
      bytes = slice_range bytes (page * 4096) (page * 4096 + 4096);
    }

-- the marked pages of a block, with their bytes; the last page may be short
unfoldable pub block_pages : (block : ℕ) → (bytes : List ℕ) → (page : ℕ) → List Bool → List Page
block_pages block bytes page [] = []
block_pages block bytes page (marked ∷ marks) =
    (if marked then page_copied block bytes page ∷ [] else []) ++ block_pages block bytes (page + 1) marks

-- the marked pages of all blocks, with their bytes; the blocks are numbered from n on
unfoldable pub host_pages : ℕ → List Block → List Page
host_pages n [] = []
host_pages n (b ∷ bs) = block_pages n b.bytes 0 b.marks ++ host_pages (n + 1) bs

-- a host's marked pages with their bytes, by block and page
abbrev pub harvested : Host → List Page
harvested h = host_pages 0 h.blocks
