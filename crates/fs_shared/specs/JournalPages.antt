-- The pages of a journal's entries: each page in which the machine differs from the start is among them.
use Rattle.std.specs.Prelude.{◌≡◌, ◌≢◌, ℕ, List, drop, flat_map, take}
use Rattle.std.specs.List.{Contains}
use Rattle.vm_memory_core.specs.Host.{Host, Place, byte_at, lengths}
use Rattle.fs_shared.specs.Pages.{page_of}
use Rattle.plain_machine.specs.Step.{State}
use Rattle.fs_shared.specs.Replay.{ReplayEntry, Replays}

-- the pages of all entries
abbrev pub joined_pages : List ReplayEntry → List ℕ
joined_pages entries = flat_map (λ e. e.pages) entries

-- the blocks of two hosts have the same lengths, and the page of each byte that differs is in this list
pub record DiffersWithin (pages : List ℕ) (before after : Host) : Type 0 where
  pub block_lengths : lengths after ≡ lengths before
  pub bytes : (p : Place) → byte_at after p ≢ byte_at before p → Contains pages (page_of (lengths before) p)

-- a journal's pages include the page of each byte that differs between its start and the state it replays to
abbrev pub JournalsTellPages : Type 0
JournalsTellPages =
    (start after : State (Unit {0})) (journal : List ReplayEntry) → Replays start journal after →
    DiffersWithin (joined_pages journal) start.memory.host after.memory.host

-- the first entries of a journal replay to a state, and the others replay from it
abbrev pub JournalsSplit : Type 0
JournalsSplit =
    (start after : State (Unit {0})) (first : ℕ) (journal : List ReplayEntry) →
    Replays start journal after →
    (since : State (Unit {0}))
    × Replays start (take first journal) since
    × Replays since (drop first journal) after
