use Rattle.std.proofs.Common.{◌≡◌, ℕ, ◌-◌, ◌<◌, ◌≤◌, length, slice_index}
use Rattle.std.specs.Mem.Slots.{slots_items}
use mathlib.Core.Option.{some}
use lib.ListN.{get_elem?}
use Rattle.vm_atomic_bitmaps.proofs.atomic_bitmap.copy_words.Given as goal

abbrev pub invariant-loop-i : goal.invariant-loop-i
invariant-loop-i l = (length l.words ≡ length l.initial.words) × (l.i ≤ length l.words)
    × ((k : ℕ) → k < l.i → get_elem? (slots_items l.closed.words) k ≡ some (slice_index l.words k))

abbrev pub decreases-loop-i : goal.decreases-loop-i
decreases-loop-i l = length l.words - l.i
