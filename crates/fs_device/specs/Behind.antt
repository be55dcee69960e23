-- The reply buffer behind its first bytes.
use Rattle.std.specs.Prelude.{◌≡◌, ◌≤◌, ◌<◌, ℕ, List, length, min, take, drop}
use Rattle.fuse_fs.specs.Lengths.{first}
use Rattle.vm_memory_core.specs.Host.{Place}
use Rattle.vm_memory_core.specs.Window.{Window, places_of}
use Rattle.plain_machine.specs.Apart.{Apart}

-- a reply buffer has n places, and none of these is a byte of the places behind them
pub record HasBehind (room : List Place) (n : ℕ) : Type 0 where
  pub enough : n ≤ length room
  pub apart : Apart (take n room) (drop n room)

-- the rest of a reply buffer: its windows, the places that are left in them, in order, and for each
-- window with places left the number of these
pub record RoomLeft : Type 0 where
  pub windows : List Window
  pub places : List Place
  pub rooms : List ℕ

-- the next window of the rest: of the first window with places left, all of these, or the first `most`
pub record IsFrontWindow (r : RoomLeft) (most : ℕ) (f : Window) : Type 0 where
  pub places : places_of f ≡ take f.len r.places
  pub len : f.len ≡ min most (first r.rooms)
  pub some : 0 < first r.rooms
  pub within : first r.rooms ≤ length r.places
