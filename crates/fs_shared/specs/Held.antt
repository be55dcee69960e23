-- The state under the lock, and its journal as a value of the definitions.
use Rattle.std.specs.Prelude.{◌≡◌, ℕ, Bool, false, List, map, IsSomeAnd, slice_get}
use Rattle.fs_queue.specs.Taking.{is_idle, offer}
use Rattle.plain_machine.specs.Step.{State}
use Rattle.plain_machine.specs.Run as run
use Rattle.plain_machine.specs.Run.{Command, Affects}
use Rattle.fs_device.specs.CommandView.{command_of}
use Rattle.fs_device.specs.DeviceView.{exchange_of}
use Rattle.fs_shared.specs.declared.entry.Outcome as outcome
use Rattle.fs_shared.specs.declared.entry.JournalEntry.{JournalEntry}
use Rattle.fs_shared.specs.declared.entry.Start.{Start}
use Rattle.fs_shared.specs.Replay.{Outcome, Done, Served, Stopped, ReplayEntry}

-- there is a queue of this number, and it isn't stopped
abbrev pub HasOpenQueue : {F : Type 0} → State F → ℕ → Type 0
HasOpenQueue s i = IsSomeAnd (slice_get s.queues i) (λ q. q.stopped ≡ false)

-- there is a queue of this number that isn't stopped, and it offers a chain or a refusal at its position
abbrev pub HasWaiting : {F : Type 0} → State F → ℕ → Type 0
HasWaiting s i =
    IsSomeAnd (slice_get s.queues i) (λ q. (q.stopped ≡ false) × (is_idle (offer s.memory s.limit q) ≡ false))

-- the machine would carry out this command, and not refuse it
abbrev pub WouldDo : {F : Type 0} → State F → Command → Type 0
WouldDo {F} s command = (next : State F) × Affects s command run.Done next

-- the outcome of a call, as a value of the definitions
abbrev pub came_of : outcome.Outcome → Outcome
came_of outcome.TheVariants.Done = Done
came_of (outcome.TheVariants.Served x notice) = Served (exchange_of x) notice
came_of (outcome.TheVariants.Stopped e) = Stopped e

-- an entry of the journal, as a value of the definitions
abbrev pub entry_of : JournalEntry → ReplayEntry
entry_of e =
    record {
      command = command_of e.command;
      outcome = came_of e.outcome;
      options = e.options.0;
      pages = e.pages.items;
    }

-- the journal, as a value of the definitions
abbrev pub journal_of : List JournalEntry → List ReplayEntry
journal_of entries = map entry_of entries

-- the parts of a state that no call on a shared device changes: the numbers of the IOMMU's table and of the
-- set of I/O pages, whether the IOMMU is on, the limit and the page size
pub record FixedParts : Type 0 where
  pub table : ℕ
  pub io_pages : ℕ
  pub translates : Bool
  pub limit : ℕ
  pub page_size : ℕ

-- these parts of a state
abbrev pub fixed_of : {F : Type 0} → State F → FixedParts
fixed_of s =
    record {
      table = s.memory.table;
      io_pages = s.memory.io_pages;
      translates = s.memory.translates;
      limit = s.limit;
      page_size = s.page_size;
    }

-- the state in which the journal began
abbrev pub start_of : Start → FixedParts → State (Unit {0})
start_of start fixed = record {
  memory = record {
    host = start.host;
    layout = start.layout;
    table = fixed.table;
    io_pages = fixed.io_pages;
    translates = fixed.translates;
  };
  queues = start.queues.items;
  options = start.options.0;
  files = tt;
  limit = fixed.limit;
  page_size = fixed.page_size;
}

-- the machine, the state in which the journal began, and the journal
pub record Held (F : Type 0) : Type 0 where
  pub machine : State F
  pub start : State (Unit {0})
  pub journal : List ReplayEntry
