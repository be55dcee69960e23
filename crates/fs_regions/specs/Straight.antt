-- A pop that goes straight through loads that were made ahead, to a chain without a fault (VIRTIO 1.2, 2.7.5
-- and 2.7.13).
use Rattle.std.specs.Prelude.{◌≡◌, ℕ, ◌+◌, ◌<◌, ◌≤◌, List, take, length, None}
use Rattle.smallvec.specs.SmallVec.{SmallVec}
use Rattle.fs_queue.specs.declared.chain_walk.ChainWalk.{ChainWalk}
use Rattle.fs_queue.specs.declared.chain_walk.Progress as code
use Rattle.fs_queue.specs.declared.chain_walk.Progress.TheVariants as shows
use Rattle.fs_queue.specs.declared.chain_walk.WalkEnd as walked
use Rattle.fs_queue.specs.declared.chain_walk.WalkEnd.TheVariants as comes_to
use Rattle.fs_queue.specs.declared.walk.Walk as ring
use Rattle.fs_queue.specs.declared.walk.Walk.TheVariants as waits
use Rattle.fs_queue.specs.Chain.{Descriptor}
use Rattle.fs_queue.specs.Queue.{Queue}
use Rattle.fs_queue.specs.Taking.{chain_fault, return_fault}
use Rattle.fs_regions.specs.Ahead.{AheadBytes, ProceedsAhead, IsLoadOf}
use Rattle.fs_regions.specs.Places.{Mapped, places_in}
use Rattle.fs_regions.specs.Stretches.{ReadsStretch}
use Rattle.fs_regions.specs.Walks.{IsLongestStretch, IsThere}
use Rattle.fs_regions.specs.declared.ahead.LoadAhead.{LoadAhead}
use Rattle.fs_regions.specs.declared.entries.EntriesWalk.{EntriesWalk}
use Rattle.fs_regions.specs.declared.step.CourseStep.TheVariants as step
use Rattle.fs_regions.specs.declared.walk.QueueWalk.{QueueWalk}
use Rattle.fs_regions.specs.declared.walk.QueueWalk.TheVariants as at

-- a walk of a queue of this size has counted these descriptors, which joined the chain
abbrev pub IsCounted : (size : ℕ) → List Descriptor → ChainWalk → Type 0
IsCounted size ds w = (w.size ≡ size) × (w.earlier ≡ length ds)

-- a walk asks for a stretch of so many entries, in the chain of a head
abbrev pub stretch_of : (head : ℕ) (walk : ChainWalk) (n : ℕ) → 0 < n → n ≤ 256 →
    walk.index + n ≤ walk.table.entries → EntriesWalk
stretch_of head walk n some few inside =
    record { head = head; walk = walk; entries = n; some = some; few = few; inside = inside }

-- a walk's next stretch is read from a load that was made ahead: of all entries that the walk may ask for
pub record ReadsAhead (g : Mapped) (q : Queue) (head : ℕ) (walk : ChainWalk) (old : List Descriptor)
    (one : LoadAhead) (bytes : List ℕ) (new : List Descriptor) (after : code.Progress) : Type 0 where
  pub n : ℕ
  pub some : 0 < n
  pub few : n ≤ 256
  pub inside : walk.index + n ≤ walk.table.entries
  pub is_load : IsLoadOf g (at.Entries (stretch_of head walk n some few inside)) one
  pub is_there : IsThere (places_in g) (at.Entries (stretch_of head walk n some few inside))
  pub is_longest : IsLongestStretch (places_in g) q old (at.Entries (stretch_of head walk n some few inside))
  pub enough : one.len ≤ length bytes
  pub reads : ReadsStretch walk (take one.len bytes) old new after

-- a walk ends with a chain of these descriptors that has no fault: its head
abbrev pub EndsChain : Mapped → (limit : ℕ) → walked.WalkEnd → List Descriptor → (head found : ℕ) → Type 0
EndsChain g limit w ds head found =
    (w ≡ comes_to.Chain) × (chain_fault (places_in g) limit ds ≡ None) × (found ≡ head)

-- a pop goes on from a walk's load, which is mapped, with loads that were made ahead, to a chain without a
-- fault
abbrev pub ProceedsAt : Mapped → (limit : ℕ) → Queue → QueueWalk → SmallVec Descriptor → List AheadBytes →
    SmallVec Descriptor → (found : ℕ) → Type 0
ProceedsAt g limit q w old ahead new found =
    IsThere (places_in g) w × ProceedsAhead g limit q ahead old (step.Load w) new (step.Chain found None)

-- the same from the longest stretch on that a walk may ask for, in the chain of a head
pub record ProceedsFrom (g : Mapped) (limit : ℕ) (q : Queue) (head : ℕ) (walk : ChainWalk)
    (old : SmallVec Descriptor) (ahead : List AheadBytes) (new : SmallVec Descriptor) (found : ℕ) :
    Type 0 where
  pub n : ℕ
  pub some : 0 < n
  pub few : n ≤ 256
  pub inside : walk.index + n ≤ walk.table.entries
  pub is_longest : IsLongestStretch (places_in g) q old.items
      (at.Entries (stretch_of head walk n some few inside))
  pub proceeds : ProceedsAt g limit q (at.Entries (stretch_of head walk n some few inside)) old ahead new
      found

-- the same from a head on, whose chain can be pushed
abbrev pub ProceedsByHead : Mapped → (limit : ℕ) → Queue → ring.Walk → SmallVec Descriptor → List AheadBytes →
    SmallVec Descriptor → (found : ℕ) → Type 0
ProceedsByHead g limit q w old ahead new found =
    (head : ℕ) × (walk : ChainWalk) × (w ≡ waits.Chain head (shows.Wants walk))
    × (return_fault (places_in g) q ≡ None)
    × ProceedsFrom g limit q head walk old ahead new found
