-- The sizes that a page may have.
use Rattle.std.specs.Prelude.{ℕ, Bool, ◌==◌, ◌||◌}

-- the page size is a power of two from 4096 to 65536
abbrev pub is_page_size : ℕ → Bool
is_page_size n = n == 4096 || n == 8192 || n == 16384 || n == 32768 || n == 65536
