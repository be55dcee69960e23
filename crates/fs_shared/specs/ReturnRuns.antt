-- Runs of the bytes that the return of a chain may write.
use Rattle.std.specs.Prelude.{◌≡◌, ℕ, List, length, map}
use Rattle.vm_memory_core.specs.Host.{lengths}
use Rattle.vm_memory_core.specs.Window.{places}
use Rattle.vm_memory.specs.Memory.{Memory}
use Rattle.fs_queue.specs.Queue.{Queue}
use Rattle.fs_queue.specs.Taking.{RequestAndRoom, room_of}
use Rattle.fs_queue.specs.Windows.{IsTaken, chain_places}
use Rattle.fs_queue.specs.Windows.{Taken}
use Rattle.fs_shared.specs.Pages.{page_of}
use Rattle.fs_shared.specs.Runs.{AreRuns}
use Rattle.plain_machine.specs.MarkedPages.{returned_addresses}
use Rattle.fs_shared.specs.Replay.{WritesPages}
use Rattle.fs_shared.specs.declared.return_pages.ReturnRuns.{ReturnRuns}

-- the runs are those of a taken chain's reply buffer, and those of its used element and used index
pub record AreReturnRuns (block_lengths : List ℕ) (t : Taken) (runs : ReturnRuns) : Type 0 where
  pub room : AreRuns (map (page_of block_lengths) (chain_places t.chain)) runs.room.items
  pub used : AreRuns (map (page_of block_lengths) (places t.return_windows.used.items)) runs.used.items

-- the pages are those that the return of any chain with these runs writes, with a reply of this length; used
-- element and used index have 10 bytes together
abbrev pub AreReturnPages : ReturnRuns → (reply_len : ℕ) → (pages : List ℕ) → Type 0
AreReturnPages runs reply_len pages =
    (m : Memory) (q : Queue) (fetched : RequestAndRoom) (t : Taken) (head : ℕ) (reply : List ℕ) →
    AreReturnRuns (lengths m.host) t runs →
    IsTaken m q fetched t →
    length (places t.return_windows.used.items) ≡ 10 →
    length reply ≡ reply_len →
    WritesPages m (returned_addresses q head (room_of fetched) reply) pages
