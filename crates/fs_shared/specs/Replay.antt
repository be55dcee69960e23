-- The replay of a journal of single events from its start, for some answers of the file system.
use Rattle.std.specs.Prelude.{◌≡◌, ℕ, Bool, false, IsTrue, List, [], ◌∷◌, length}
use Rattle.std.specs.List.{filter_map}
use Rattle.vm_iotlb.specs.declared.permissions.Permissions.TheVariants.{Write}
use Rattle.vm_memory_core.specs.Host.{Place, lengths}
use Rattle.vm_memory.specs.Memory.{Memory, addresses, location, physical}
use Rattle.fs_queue.specs.Taking.{room_of, stops_queue}
use Rattle.server_meanings.specs.Serving.{May}
use Rattle.plain_machine.specs.declared.error.DeviceError.{DeviceError}
use Rattle.plain_machine.specs.declared.error.DeviceError.TheVariants as device
use Rattle.plain_machine.specs.Step as step
use Rattle.plain_machine.specs.Step.{State, Exchange, Calls, Step}
use Rattle.plain_machine.specs.Run as run
use Rattle.plain_machine.specs.Run.{Command, GuestWrite, SetLayout, Kick, Affects}
use Rattle.plain_machine.specs.MarkedPages.{returned_addresses}
use Rattle.plain_machine.specs.UsedLength.{IsOffered}
use Rattle.fs_shared.specs.Pages.{ArePagesOf}

-- the outcome of an event: a change was made, a chain was served (with whether to notify the driver), or a
-- refusal stopped the queue
pub data Outcome : Type 0 where
  Done : Outcome
  Served : Exchange → (notice : Bool) → Outcome
  Stopped : DeviceError → Outcome

-- an event, its outcome, the options after it, and the pages of blocks that it wrote, ascending
pub record ReplayEntry : Type 0 where
  pub command : Command
  pub outcome : Outcome
  pub options : ℕ
  pub pages : List ℕ

-- the file system that may give any answer
abbrev pub Anything : May (Unit {0})
Anything = λ before call answer after. Unit {0}

-- the state without its file system
abbrev pub forget : {F : Type 0} → State F → State (Unit {0})
forget s =
    record {
      memory = s.memory;
      queues = s.queues;
      options = s.options;
      files = tt;
      limit = s.limit;
      page_size = s.page_size;
    }

-- the places that a write to these addresses reaches
abbrev pub written_places : Memory → List ℕ → List Place
written_places m written = filter_map (location m Write) written

-- the pages are those of the places that a write to these addresses reaches
abbrev pub WritesPages : Memory → List ℕ → List ℕ → Type 0
WritesPages m written pages = ArePagesOf (lengths m.host) (written_places m written) pages

-- the pages are those that an exchange writes: its reply in the reply buffer, the used element and used index
abbrev pub ExchangesPages : {F : Type 0} → State F → ℕ → Exchange → List ℕ → Type 0
ExchangesPages s i x pages =
    (o : IsOffered s i x)
    × WritesPages s.memory (returned_addresses o.queue x.head (room_of o.fetched) x.reply) pages

-- whether a refusal is journaled: only if it stops the queue, for the others change nothing
abbrev pub is_journaled : DeviceError → Bool
is_journaled device.NoSuchQueue = false
is_journaled (device.Queue e) = stops_queue e

-- a kick is one step of a queue with this outcome and these pages
abbrev pub ReplaysKick : {F : Type 0} → May F → State F → ℕ → Outcome → List ℕ → State F → Type 0
ReplaysKick may s i Done pages after = ⊥
ReplaysKick may s i (Served x notice) pages after =
    (calls : Calls) × Step may s i calls (step.Exchanged x notice) after × ExchangesPages s i x pages
ReplaysKick may s i (Stopped e) pages after =
    IsTrue (is_journaled e) × Step may s i [] (step.Refused e) after × (pages ≡ [])

-- an event is a guest's write, a new layout, or a kick for one chain, with its outcome and pages
abbrev pub Plays : {F : Type 0} → May F → State F → Command → Outcome → List ℕ → State F → Type 0
Plays may s (GuestWrite a bytes) outcome pages after =
    (outcome ≡ Done)
    × Affects s (GuestWrite a bytes) run.Done after
    × WritesPages (physical s.memory) (addresses a (length bytes)) pages
Plays may s (SetLayout layout) outcome pages after =
    (outcome ≡ Done) × Affects s (SetLayout layout) run.Done after × (pages ≡ [])
Plays may s (Kick i most) outcome pages after = (most ≡ 1) × ReplaysKick may s i outcome pages after
Plays may s command outcome pages after = ⊥

-- a journal replays from one state to another
unfoldable pub Replays : State (Unit {0}) → List ReplayEntry → State (Unit {0}) → Type 0
Replays s [] after = after ≡ s
Replays s (e ∷ es) after =
    (mid : State (Unit {0}))
    × Plays Anything s e.command e.outcome e.pages mid
    × (e.options ≡ mid.options)
    × Replays mid es after
