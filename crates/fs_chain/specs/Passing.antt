-- How far a cursor has passed through the bytes of one direction of a chain.
use Rattle.std.specs.Prelude.{◌≡◌, ◌≤◌, Bool, List, take, length}
use Rattle.fs_queue.specs.Chain.{Descriptor}
use Rattle.fs_queue.specs.Taking.{total_len, of_direction}
use Rattle.fs_chain.specs.declared.window_cursor.WindowCursor.{WindowCursor}

-- the cursor has passed the first `index` descriptors, which have `bytes` bytes of one direction
abbrev pub HasPassed : (write_only : Bool) → List Descriptor → WindowCursor → Type 0
HasPassed d ds p = (p.index ≤ length ds) × (total_len (of_direction d (take p.index ds)) ≡ p.bytes)
