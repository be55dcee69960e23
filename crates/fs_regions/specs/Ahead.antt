-- Loads that the caller made ahead of a pop, in the order in which the pop asks for them (VIRTIO 1.2,
-- 2.7.13).
use Rattle.std.specs.Prelude.{◌≡◌, ◌⊎◌, ℕ, ◌+◌, ◌%◌, ◌^◌, ◌<◌, min, List, [], ◌∷◌, ◌++◌, length, take}
use Rattle.std.specs.Prelude.{drop, None}
use Rattle.smallvec.specs.SmallVec.{SmallVec, HasRoomFor}
use Rattle.vm_iotlb.specs.declared.permissions.Permissions.TheVariants.{Read}
use Rattle.vm_memory_core.specs.Window.{Window}
use Rattle.vm_memory.specs.Memory.{location}
use Rattle.vm_memory.specs.Slices.{IsWindowAt}
use Rattle.fs_queue.specs.Chain.{Descriptor}
use Rattle.fs_queue.specs.Queue.{Queue}
use Rattle.fs_regions.specs.Places.{Mapped, left_in, places_in}
use Rattle.fs_regions.specs.declared.ahead.LoadAhead.{LoadAhead}
use Rattle.fs_regions.specs.declared.walk.QueueWalk.{QueueWalk}
use Rattle.fs_regions.specs.declared.step.CourseStep as comes
use Rattle.fs_regions.specs.declared.step.CourseStep.TheVariants as step
use Rattle.fs_regions.specs.Walks.{Loaded, nothing, asked_by, asked_entries, asked_len, ComesBy}
use Rattle.fs_regions.specs.Walks.{IsCourseStep, IsWalkAt}

-- the place of a window: the number of its block, and its offset there, added
abbrev pub place_of : Window → ℕ
place_of v = (v.block + v.offset) % 2 ^ 64

-- the longest window of the bytes that a walk asks for
abbrev pub IsWalkWindow : Mapped → QueueWalk → Window → Type 0
IsWalkWindow g walk v =
    IsWindowAt (location (places_in g) Read) (asked_by walk) (asked_len walk) v
    × (v.len ≡ min (asked_len walk) (left_in (places_in g) (asked_by walk)))

-- a load is of all bytes that a walk asks for, which lie in one piece
abbrev pub IsLoadOf : Mapped → QueueWalk → LoadAhead → Type 0
IsLoadOf g walk one =
    (v : Window)
    × IsWalkWindow g walk v
    × (one.at ≡ place_of v)
    × (one.len ≡ v.len)
    × (v.len ≡ asked_len walk)

-- a load has another place or length than the bytes that a walk asks for, or these don't lie in one piece
abbrev pub IsOtherLoad : Mapped → QueueWalk → LoadAhead → Type 0
IsOtherLoad g walk one =
    (0 < asked_len walk → location (places_in g) Read (asked_by walk) ≡ None)
    ⊎ (one.len ≡ asked_len walk → ⊥)
    ⊎ ((v : Window)
    × IsWalkWindow g walk v
    × ((v.len ≡ asked_len walk → ⊥) ⊎ (one.at ≡ place_of v → ⊥)))

-- a load that was made ahead, with its bytes
pub record AheadBytes : Type 0 where
  pub load : LoadAhead
  pub bytes : List ℕ

-- the loads that were made ahead, whose bytes lie one behind another
abbrev pub loads_ahead : List LoadAhead → (bytes : List ℕ) → List AheadBytes
loads_ahead [] bytes = []
loads_ahead (one ∷ ahead) bytes =
    record { load = one; bytes = take one.len bytes } ∷ loads_ahead ahead (drop one.len bytes)

-- loads on top of earlier ones, the last one first
abbrev pub last_first : List AheadBytes → (earlier : List AheadBytes) → List AheadBytes
last_first [] earlier = earlier
last_first (l ∷ ls) earlier = last_first ls (l ∷ earlier)

-- a pop that takes these loads, the last one first, is at this step, with these descriptors. Each was just
-- the one that the step before it asked for
abbrev pub StepsAhead : Mapped → (limit : ℕ) → Queue → List AheadBytes → List Descriptor →
    comes.CourseStep → Type 0
StepsAhead g limit q [] ds s = IsCourseStep (places_in g) limit q nothing ds s
StepsAhead g limit q (l ∷ taken) ds s =
    (walk : QueueWalk) × (before : List Descriptor)
    × StepsAhead g limit q taken before (step.Load walk)
    × IsLoadOf g walk l.load
    × (length l.bytes ≡ asked_len walk)
    × ((loaded : Loaded)
    → IsWalkAt (places_in g) q loaded before walk
    → ComesBy (places_in g) limit q loaded walk l.bytes ds s)

-- a walk doesn't take a load: it asks for another one, its bytes aren't all there, or its entries'
-- descriptors have no room
abbrev pub LeavesLoad : Mapped → QueueWalk → AheadBytes → (ds : SmallVec Descriptor) → Type 0
LeavesLoad g walk l ds =
    IsOtherLoad g walk l.load ⊎ (length l.bytes < l.load.len) ⊎ (HasRoomFor ds (asked_entries walk) → ⊥)

-- a step that asks for a load isn't at the next one of these
abbrev pub StopsBefore : Mapped → List AheadBytes → (ds : SmallVec Descriptor) → comes.CourseStep → Type 0
StopsBefore g (l ∷ more) ds (step.Load walk) = LeavesLoad g walk l ds
StopsBefore g _ ds _ = Unit {0}

-- a pop goes on from a step with loads that were made ahead, as far as each is the one that it asks for
pub record ProceedsAhead (g : Mapped) (limit : ℕ) (q : Queue) (ahead : List AheadBytes)
    (old : SmallVec Descriptor) (from : comes.CourseStep) (new : SmallVec Descriptor)
    (to : comes.CourseStep) : Type 0 where
  pub first : List AheadBytes
  pub more : List AheadBytes
  pub parts : ahead ≡ first ++ more
  pub steps : (taken : List AheadBytes) →
      StepsAhead g limit q taken old.items from →
      StepsAhead g limit q (last_first first taken) new.items to
  pub stops : StopsBefore g more new to

-- a pop begins, and goes on so
pub record BeginsAhead (g : Mapped) (limit : ℕ) (q : Queue) (ahead : List AheadBytes)
    (new : SmallVec Descriptor) (to : comes.CourseStep) : Type 0 where
  pub first : List AheadBytes
  pub more : List AheadBytes
  pub parts : ahead ≡ first ++ more
  pub steps : StepsAhead g limit q (last_first first []) new.items to
  pub stops : StopsBefore g more new to
