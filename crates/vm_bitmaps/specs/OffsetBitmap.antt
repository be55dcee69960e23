-- A part of a bitmap's bytes: the bitmap, and the offset in its bytes at which the part begins.
use Rattle.std.specs.Prelude.{ℕ}
use Rattle.vm_bitmaps.specs.declared.offset_bitmap.BaseSlice.{BaseSlice}

-- the bitmap of a slice
abbrev pub sliced_of : {B : Type 0} → BaseSlice B → B
sliced_of s = s.inner

-- the offset in the bitmap's bytes at which a slice begins
abbrev pub begin_of : {B : Type 0} → BaseSlice B → ℕ
begin_of s = s.offset
