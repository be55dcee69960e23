-- The host addresses of a chain's bytes, window by window, as C gets them.
use Rattle.std.specs.Prelude.{◌≡◌, ◌≤◌, ◌<◌, ◌+◌, ◌-◌, ◌++◌, ℕ, Bool, true, List, [], ◌∷◌, length, drop, min}
use Rattle.vm_memory_core.specs.Window.{Window}
use Rattle.fs_queue.specs.Taking.{all_reach, total_len, access_of, of_direction}
use Rattle.fs_regions.specs.Places.{places_in}
use Rattle.fs_regions.specs.Windows.{IsWindowFrom}
use Rattle.fs_chain.specs.Orders.{is_out}
use Rattle.fs_chain.specs.declared.chain_handle.ChainHandle.{ChainHandle}
use Rattle.fs_chain_c.specs.declared.windows.FsWindow.{FsWindow}
use Rattle.fs_chain_c.specs.Popping.{host_at}

-- a window of the bytes of one direction from byte `from` on, of 1 to `most` bytes; it ends with its
-- descriptor and its region at the latest
abbrev pub IsStretch : ChainHandle → (write_only : Bool) → (from most : ℕ) → FsWindow → Type 0
IsStretch w d from most filled =
    (is_out w.state ≡ true)
    × (v : Window)
    × IsWindowFrom w.regions d w.descriptors.items from v
    × (filled.at ≡ host_at v)
    × (filled.len ≡ min v.len most)
    × (0 < filled.len)

-- windows, one behind another
abbrev pub AreStretches : ChainHandle → (write_only : Bool) → (from most : ℕ) → List FsWindow → Type 0
AreStretches w d from most [] = Unit {0}
AreStretches w d from most (s ∷ ss) =
    IsStretch w d from most s × AreStretches w d (from + s.len) (most - s.len) ss

-- how many bytes they have
abbrev pub covered : List FsWindow → ℕ
covered [] = 0
covered (s ∷ ss) = s.len + covered ss

-- why the windows end at a byte: no chain is in flight, the bytes of this direction end before, or some of
-- them aren't mapped
abbrev pub HasNoMore : ChainHandle → (write_only : Bool) → (from : ℕ) → Type 0
HasNoMore w d from =
    is_out w.state ≡ true
    → all_reach (places_in w.regions) (access_of d) (of_direction d w.descriptors.items) ≡ true
    → total_len (of_direction d w.descriptors.items) ≤ from

-- the first of some windows are filled, as far as there are elements and bytes
abbrev pub FillsWindows : ChainHandle → (write_only : Bool) → (from most : ℕ) →
    (windows windows' : List FsWindow) → (count : ℕ) → Type 0
FillsWindows w d from most windows windows' count =
    (ss : List FsWindow)
    × (length ss ≡ count)
    × (count ≤ length windows)
    × (windows' ≡ ss ++ drop count windows)
    × AreStretches w d from most ss
    × (count < length windows → covered ss < most → HasNoMore w d (from + covered ss))
