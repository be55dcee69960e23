-- The guest addresses of a reply buffer, range by range, as C gets them.
use Rattle.std.specs.Prelude.{◌≡◌, ◌≤◌, ◌<◌, ◌+◌, ◌-◌, ◌^◌, ◌++◌, ℕ, true, List, [], ◌∷◌, length, drop, min}
use Rattle.std.specs.Prelude.{Option}
use Rattle.fs_queue.specs.Taking.{total_len, of_direction}
use Rattle.fs_regions.specs.Windows.{IsRangeFrom}
use Rattle.fs_chain.specs.Orders.{is_out}
use Rattle.fs_chain.specs.declared.chain_handle.ChainHandle.{ChainHandle}
use Rattle.fs_chain_c.specs.declared.ranges.FsRange.{FsRange}
use Rattle.fs_chain_c.specs.Handles.{OnHandle}

-- a range of the guest addresses of the reply buffer from byte `from` on, of 1 to `most` bytes; it ends
-- with its descriptor at the latest
abbrev pub IsReplyRange : ChainHandle → (from most : ℕ) → FsRange → Type 0
IsReplyRange w from most filled =
    (is_out w.state ≡ true)
    × (n : ℕ)
    × IsRangeFrom true w.descriptors.items from filled.guest n
    × (filled.len ≡ min n most)
    × (0 < filled.len)

-- ranges, one behind another
abbrev pub AreReplyRanges : ChainHandle → (from most : ℕ) → List FsRange → Type 0
AreReplyRanges w from most [] = Unit {0}
AreReplyRanges w from most (r ∷ rs) =
    IsReplyRange w from most r × AreReplyRanges w (from + r.len) (most - r.len) rs

-- how many bytes they have
abbrev pub range_bytes : List FsRange → ℕ
range_bytes [] = 0
range_bytes (r ∷ rs) = r.len + range_bytes rs

-- if a chain is in flight, its reply buffer ends at this byte or before
abbrev pub RoomEnds : ChainHandle → (from : ℕ) → Type 0
RoomEnds w from = is_out w.state ≡ true → total_len (of_direction true w.descriptors.items) ≤ from

-- the first of some ranges are filled, as far as there are elements and bytes
abbrev pub FillsRanges :
    ChainHandle → (from most : ℕ) → (ranges ranges' : List FsRange) → (count : ℕ) → Type 0
FillsRanges w from most ranges ranges' count =
    (rs : List FsRange)
    × (length rs ≡ count)
    × (count ≤ length ranges)
    × (ranges' ≡ rs ++ drop count ranges)
    × AreReplyRanges w from most rs
    × (count < length ranges → range_bytes rs < most → RoomEnds w (from + range_bytes rs))

-- C gets the ranges of the reply buffer; the handle doesn't change
abbrev pub ReportsRanges : Option ChainHandle → (from most : ℕ) → (ranges : List FsRange) → (count : ℕ) →
    Option ChainHandle → (ranges' : List FsRange) → Type 0
ReportsRanges before from most ranges count after ranges' =
    OnHandle (λ b b'. FillsRanges b from (min most (2 ^ 64 - 1 - from)) ranges ranges' count
    × (b' ≡ b)) ((count ≡ 0)
    × (ranges' ≡ ranges)) before after
