-- A share of a device, as a value of the definitions.
use Rattle.std.specs.Prelude.{◌≡◌, ℕ, ◌+◌, ◌/◌, ◌<◌, ◌≤◌, Bool, true, if◌then◌else◌, List, length}
use Rattle.std.specs.List.{Contains}
use Rattle.vm_atomic_bitmaps.specs.declared.counts.Tally.{Tally}
use Rattle.vm_atomic_bitmaps.specs.Counts.{tally_of, preserved_half, new_half, both_passes}
use Rattle.vm_atomic_bitmaps.specs.Passes.{Pass, SharedPages, IsPassOf}

-- a share: the number of its parts of a device, the number of calls that were journaled with it, and its pass
-- of the device's bitmap
pub record Portion : Type 0 where
  pub parts : ℕ
  pub count : ℕ
  pub pass : Pass

-- the share after a call: a journaled call adds 1 to the count, and any other adds nothing
abbrev pub counted : Portion → (journaled : Bool) → Portion
counted p journaled = if journaled then record p { count = p.count + 1 } else p

-- the share's pass is one of this bitmap, and has cleared no page of it
pub record IsShareOf (bitmap : SharedPages) (s : Portion) : Type 0 where
  pub pass : IsPassOf bitmap s.pass
  pub none_cleared : (p : ℕ) → (tally_of s.pass.counts.pages p).off ≡ 0

-- a pass after a split: it keeps its counts and half of its part
abbrev pub recorded_pass : Pass → Pass
recorded_pass p = record { name = p.name; counts = preserved_half p.counts }

-- the pass that a split makes: it has counted nothing, and has the other half of the part
abbrev pub new_pass : Pass → Pass
new_pass p = record { name = p.name; counts = new_half p.counts }

-- two shares joined: the sums of parts and counts, and both passes in one
abbrev pub joined : Portion → Portion → Portion
joined s t =
    record {
      parts = s.parts + t.parts;
      count = s.count + t.count;
      pass = record { name = s.pass.name; counts = both_passes s.pass.counts t.pass.counts };
    }

-- the pass has marked the page, and knows of more marks of it than clears
abbrev pub IsMarked : Tally → Type 0
IsMarked t = (t.marked ≡ true) × (t.seen < t.held)

-- these pages were marked, each by at least one step, and no page was cleared; the tallies of all other
-- pages, and of pages past the last, are unchanged
pub record MarksPages (pages : List ℕ) (old new : List Tally) : Type 0 where
  pub count : length new ≡ length old
  pub marked : (p : ℕ) → p < length old → Contains pages p → IsMarked (tally_of new p)
  pub same : (p : ℕ) → (Contains pages p → ⊥) → tally_of new p ≡ tally_of old p
  pub recorded : (p : ℕ) → (tally_of old p).marked ≡ true → (tally_of new p).marked ≡ true
  pub off : (p : ℕ) → (tally_of new p).off ≡ (tally_of old p).off
  pub seen : (p : ℕ) → (tally_of new p).seen ≡ (tally_of old p).seen
  pub held : (p : ℕ) → (tally_of old p).held ≤ (tally_of new p).held
  pub steps :
      (p : ℕ) → p < length old → Contains pages p → (tally_of old p).mark_steps < (tally_of new p).mark_steps
  pub steps_recorded : (p : ℕ) → (tally_of old p).mark_steps ≤ (tally_of new p).mark_steps

-- a pass has seen each of its own clears
abbrev pub HasSeenItsOwn : List Tally → Type 0
HasSeenItsOwn taken = (page : ℕ) → (tally_of taken page).off ≤ (tally_of taken page).seen

-- a pass has seen each clear that another made of a word's pages; the marks that it makes from now on come
-- after those clears
abbrev pub HasSeen : (word : ℕ) → (taken seen : List Tally) → Type 0
HasSeen word taken seen =
    (page : ℕ) → page / 64 ≡ word → (tally_of taken page).off ≤ (tally_of seen page).seen

-- a pass knows of more marks of the page than the clears that another made, so that one left a mark
abbrev pub IsMarkedSince : (taken marks : List Tally) → (page : ℕ) → Type 0
IsMarkedSince taken marks page = (tally_of taken page).off < (tally_of marks page).held
