-- Windows of a range of guest memory, one after another.
use Rattle.std.specs.Prelude.{◌≡◌, ℕ, suc, ◌+◌, ◌^◌, ◌<◌, ◌≤◌, Bool, IfOk, List, [], ◌∷◌, ◌++◌, length, map}
use Rattle.std.specs.Prelude.{min, take, drop, Option, Some, None, if◌then◌else◌, is_some, Result, Ok, Err}
use Rattle.vm_memory_core.specs.Host.{Place}
use Rattle.vm_memory_core.specs.Window.{AllLieIn, Window, places, places_of}
use Rattle.vm_memory.specs.Layout.{Region, left_at, place}
use Rattle.vm_memory.specs.Memory.{addresses, after, circular, located, reached}
use Rattle.vm_memory.specs.declared.error.GuestMemoryError.{GuestMemoryError}
use Rattle.vm_memory.specs.declared.error.GuestMemoryError.TheVariants.{InvalidGuestAddress}

-- a window isn't empty, has the places of at most `most` addresses from `addr` on, and none of them is
-- past the greatest address
abbrev pub IsWindowAt : (ℕ → Option Place) → (addr most : ℕ) → Window → Type 0
IsWindowAt where_is addr most w =
    (0 < w.len)
    × (w.len ≤ most)
    × (addr + w.len ≤ 2 ^ 64)
    × (located where_is (addresses addr w.len) ≡ Some (places_of w))

-- windows of a range: the place of an address, the greatest length of a window from an address on, and
-- the addresses that are left
pub record Slices : Type 0 where
  pub where_is : ℕ → Option Place
  pub longest : ℕ → ℕ
  pub left : List ℕ

-- windows of n addresses from a on; 0 follows the greatest address
abbrev pub slices_from : (ℕ → Option Place) → (ℕ → ℕ) → (a n : ℕ) → Slices
slices_from where_is longest a n = record { where_is = where_is; longest = longest; left = circular a n }

-- windows of physical addresses: their layout, and the addresses that are left
pub record PhysicalSlices : Type 0 where
  pub layout : List Region
  pub left : List ℕ

-- windows of physical addresses, with the places of their layout
abbrev pub slices_in : PhysicalSlices → Slices
slices_in s = record { where_is = place s.layout; longest = left_at s.layout; left = s.left }

-- InvalidGuestAddress of the first of some addresses, if it has no place
abbrev pub error_of : (ℕ → Option Place) → List ℕ → Option GuestMemoryError
error_of where_is [] = None
error_of where_is (a ∷ rest) =
    if is_some (where_is a) then None else Some (InvalidGuestAddress (record { 0 = a }))

-- the error of the next address, if it has no place
abbrev pub first_error : Slices → Option GuestMemoryError
first_error s = error_of s.where_is s.left

-- the length of the next window: all addresses that are left, but at most the greatest length
abbrev pub next_len : (ℕ → ℕ) → List ℕ → ℕ
next_len longest [] = 0
next_len longest (a ∷ rest) = min (suc (length rest)) (longest a)

-- windows of some addresses from the first on, one after another, each the longest that is possible
abbrev pub AreLongest : (ℕ → ℕ) → List ℕ → List Window → Type 0
AreLongest longest left [] = Unit {0}
AreLongest longest left (w ∷ rest) =
    (0 < w.len) × (w.len ≡ next_len longest left) × AreLongest longest (drop w.len left) rest

-- true if the new windows are the old ones and those of the found places; false if there are no places
abbrev pub Joins : {E : Type 0} → (old new : List Window) → Option (List Place) → Result Bool E → Type 0
Joins old new found result =
    IfOk result (λ all. after (places old) found ≡ (if all then Some (places new) else None))

-- if the old windows lie in blocks of some lengths, so do the new ones
abbrev pub StayIn : List ℕ → (old new : List Window) → Type 0
StayIn lengths old new = AllLieIn lengths old → AllLieIn lengths new

-- the new windows are the old ones and the longest windows of some addresses
abbrev pub AddsLongest : (ℕ → ℕ) → List ℕ → (old new : List Window) → Type 0
AddsLongest longest left old new =
    (added : List Window) × (new ≡ old ++ added) × AreLongest longest left added

-- the next window is the longest, is not empty, and has the places of the first addresses; the other
-- addresses are left
abbrev pub TakesWindow : Slices → Window → Slices → Type 0
TakesWindow s w t =
    (0 < w.len)
    × (w.len ≡ next_len s.longest s.left)
    × (located s.where_is (take w.len s.left) ≡ Some (places_of w))
    × (t ≡ record s { left = drop w.len s.left })

-- no address is left after a call
abbrev pub IsUsedUp : Slices → Slices → Type 0
IsUsedUp s t = t ≡ record s { left = [] }

-- the next item, and the addresses left after it: a window, or the error of an address without a place,
-- which is the last item
abbrev pub GivesSlice : Slices → Option (Result Window GuestMemoryError) → Slices → Type 0
GivesSlice s None t = (s.left ≡ []) × IsUsedUp s t
GivesSlice s (Some (Ok w)) t = TakesWindow s w t
GivesSlice s (Some (Err e)) t = (first_error s ≡ Some e) × IsUsedUp s t

-- the next window, and the addresses left after it; none from the first address without a place on
abbrev pub GivesWindow : Slices → Option Window → Slices → Type 0
GivesWindow s None t = (reached s.where_is s.left ≡ 0) × IsUsedUp s t
GivesWindow s (Some w) t = TakesWindow s w t

-- an error as a list of one item, if there is an error
abbrev pub error_items : Option GuestMemoryError → List (Result Window GuestMemoryError)
error_items None = []
error_items (Some e) = Err e ∷ []

-- the items of the first n addresses: their longest windows, whose joined places are theirs. Then the
-- error of the next address, if it has no place
abbrev pub AreAllUpTo : Slices → (n : ℕ) → List (Result Window GuestMemoryError) → Type 0
AreAllUpTo s n items =
    (windows : List Window)
    × (located s.where_is (take n s.left) ≡ Some (places windows))
    × (items ≡ map (λ w. Ok w) windows ++ error_items (error_of s.where_is (drop n s.left)))
    × AreLongest s.longest s.left windows

-- all items: the longest windows up to the first address without a place, and then the error of that
-- address, if there is one
abbrev pub AreAllOf : Slices → List (Result Window GuestMemoryError) → Type 0
AreAllOf s items = AreAllUpTo s (reached s.where_is s.left) items

-- all windows up to the first address without a place, each the longest; their joined places are those
-- of the addresses
abbrev pub AreWindowsOf : Slices → List Window → Type 0
AreWindowsOf s windows =
    (located s.where_is (take (reached s.where_is s.left) s.left) ≡ Some (places windows))
    × AreLongest s.longest s.left windows
