-- The views of a reader and of a writer in contracts.
use Rattle.std.specs.Prelude.{ℕ, List, length}
use Rattle.fuse_fs.specs.Lengths.{past}

-- a reader: the unread bytes, the lengths of their segments, and the number of bytes read
pub record ReaderView : Type 0 where
  pub left : List ℕ
  pub segments : List ℕ
  pub read : ℕ

-- a writer: the written bytes, the number of free bytes, and the lengths of all segments. A writer
-- that is joined on has at most `rejoin` segments and `spare` bytes
pub record WriterView : Type 0 where
  pub written : List ℕ
  pub free : ℕ
  pub segments : List ℕ
  pub rejoin : ℕ
  pub spare : ℕ

-- the lengths of the segments of the free bytes
abbrev pub rooms : WriterView → List ℕ
rooms w = past (length w.written) w.segments
