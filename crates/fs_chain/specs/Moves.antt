-- A device that moves between chains, as an event of a run.
use Rattle.std.specs.Prelude.{◌≡◌, ℕ, List, [], map}
use Rattle.std.specs.List.{AllByRecursion}
use Rattle.vm_memory.specs.Memory.{Memory}
use Rattle.fs_queue.specs.Queue.{Queue}
use Rattle.fs_record.specs.Record.{IsRecord, Version}
use Rattle.server_meanings.specs.Serving.{May}
use Rattle.fs_chain.specs.Holds.{live_of}
use Rattle.fs_chain.specs.declared.queue.QueueState.{QueueState}
use Rattle.live_machine.specs.Live.{Happens, HasNoneInFlight, HasValidMaximum, LiveState, MovesDevice}

-- a queue as a record has it: its ring, its position, and whether it is stopped
abbrev pub recorded : QueueState → Queue
recorded q = (live_of q).queue

-- queues are reset from those of a record: each at its position, stopped or not
pub record AreResetBy (queues : List Queue) (kept : List QueueState) : Type 0 where
  pub same : map recorded kept ≡ queues
  pub positions_agree : AllByRecursion HasNoneInFlight (map live_of kept)
  pub few : AllByRecursion HasValidMaximum (map live_of kept)

-- making a record of a run's options and queues while no chain is in flight, and reading it elsewhere,
-- is the event `MovesDevice`. The options that are read are the run's. The queues that are reset from the
-- record are the run's from then on
abbrev pub HandleMovesDevice : {F : Type 0} → May F → Type 0
HandleMovesDevice {F} may =
    (s : LiveState F) (here there : List QueueState) (m : Memory) (bytes : List ℕ) (v v' : Version)
    (options : ℕ) (queues : List Queue) →
    s.chains ≡ [] →
    s.queues ≡ map live_of here →
    IsRecord bytes v s.options (map recorded here) →
    IsRecord bytes v' options queues →
    AreResetBy queues there →
    (options ≡ s.options)
    × Happens may s (MovesDevice m (map live_of there)) (record s { places = m; queues = map live_of there })
