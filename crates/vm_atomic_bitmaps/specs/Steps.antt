-- The result of each kind of step for its pass: its new counts, and the word's bits if it has every part.
use Rattle.std.specs.Prelude.{◌≡◌, ◌↔◌, ℕ, ◌+◌, ◌/◌, ◌%◌, ◌<◌, ◌≤◌, true, List, length}
use Rattle.std.specs.Int.{bit_at}
use Rattle.atomic_table.specs.Table.{Me, Step}
use Rattle.vm_bitmaps.specs.Words.{page_bit}
use Rattle.vm_atomic_bitmaps.specs.declared.counts.Tally.{Tally}
use Rattle.vm_atomic_bitmaps.specs.declared.counts.PageCounts.{PageCounts}
use Rattle.vm_atomic_bitmaps.specs.Counts.{tally_of, picks, in_word, marked_by, cleared_by, read_by}
use Rattle.vm_atomic_bitmaps.specs.Counts.{with_pages, IsWhole}
use Rattle.vm_atomic_bitmaps.specs.Rule.{StandsAt}

-- in `found`, the word i, no bit of a page past the last is set
abbrev pub NoneBeyond : (len i found : ℕ) → Type 0
NoneBeyond len i found = (p : ℕ) → len ≤ p → p / 64 ≡ i → bit_at found (p % 64) ≡ 0

-- the tally of a pass with every part fits a page with bit b. The page was set b times more than cleared, it
-- was marked exactly if it was ever set, and `held` and `seen` are at most these numbers
abbrev pub Settles : Tally → (b : ℕ) → Type 0
Settles t b = (t.on ≡ t.off + b) × ((t.marked ≡ true) ↔ (0 < t.on)) × (t.held ≤ t.on) × (t.seen ≤ t.off)

-- if the pass has every part, its tallies determine the bits of `found`, the word i
abbrev pub SettlesWord : PageCounts → (i found : ℕ) → Type 0
SettlesWord v i found =
    IsWhole v →
    (p : ℕ) →
    p < length v.pages →
    p / 64 ≡ i →
    Settles (tally_of v.pages p) (bit_at found (p % 64))

-- if the pass has every part, its tallies determine the bits of the words
abbrev pub SettlesAll : PageCounts → (words : List ℕ) → Type 0
SettlesAll v words =
    IsWhole v → (p : ℕ) → p < length v.pages → Settles (tally_of v.pages p) (page_bit words p)

-- a seat of the table: a pass's counts, and no slots
abbrev pub PassSeat : Type 0
PassSeat = Me (Unit {0}) PageCounts

-- the step of a mark: a fetch_or with a mask
abbrev pub MarkStep : Step (Unit {0}) → PassSeat → (found : ℕ) → PassSeat → Type 0
MarkStep st m found w =
    (w ≡ (with_pages m.0 (marked_by (picks st.word st.first 1) found m.0.pages), m.1))
    × SettlesWord m.0 st.word found

-- the step of a gather: a swap with 0, before which the rule holds
abbrev pub GatherStep : Step (Unit {0}) → PassSeat → (found : ℕ) → PassSeat → Type 0
GatherStep st m found w =
    (w ≡ (with_pages m.0 (cleared_by (in_word st.word) found m.0.pages), m.1)) × SettlesWord m.0 st.word found
    × NoneBeyond (length m.0.pages) st.word found × StandsAt (length m.0.pages) st.word found m.0

-- the step of a clear: a fetch_and with a mask, which clears the pages whose bits in the mask are 0
abbrev pub ClearStep : Step (Unit {0}) → PassSeat → (found : ℕ) → PassSeat → Type 0
ClearStep st m found w =
    (w ≡ (with_pages m.0 (cleared_by (picks st.word st.first 0) found m.0.pages), m.1))
    × SettlesWord m.0 st.word found

-- the step of a read: a load, before which the rule holds
abbrev pub ReadStep : Step (Unit {0}) → PassSeat → (found : ℕ) → PassSeat → Type 0
ReadStep st m found w =
    (w ≡ (with_pages m.0 (read_by (in_word st.word) found m.0.pages), m.1)) × SettlesWord m.0 st.word found
    × NoneBeyond (length m.0.pages) st.word found × StandsAt (length m.0.pages) st.word found m.0
