-- How a reply buffer in host memory is filled.
use Rattle.std.specs.Prelude.{◌≡◌, ℕ, ◌≤◌, List, length, drop}
use Rattle.vm_memory_core.specs.Host.{Host, Place, shape}
use Rattle.vm_memory_core.specs.Window.{Stores}

-- these bytes are stored at the first places of a reply buffer, in order, and the places behind them
-- are left
pub record Fills (old : Host) (room : List Place) (bytes : List ℕ) (new : Host) (rest : List Place) :
    Type 0 where
  pub stored : Stores old new room bytes
  pub left : rest ≡ drop (length bytes) room
  pub fits : length bytes ≤ length room
  pub shape : shape new ≡ shape old
