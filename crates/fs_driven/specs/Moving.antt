-- A device moves while no chain is in flight: a driver's queues are restored from its record, over new
-- memory.
use Rattle.std.specs.Prelude.{◌≡◌, ◌&&◌, ◌==◌, ◌++◌, ℕ, suc, Bool, true, List, [], ◌∷◌, length, map}
use Rattle.std.specs.Prelude.{nat_lt, not, Option, Some, None, Result, Ok, Err, if◌then◌else◌}
use Rattle.vm_memory.specs.Memory.{Memory}
use Rattle.vm_memory.specs.Layout.{Region}
use Rattle.fs_regions.specs.Places.{places_in, untranslated}
use Rattle.live_machine.specs.Several.{LiveQueue}
use Rattle.live_machine.specs.Live.{LiveEvent, MovesDevice, Remaps, ResetsQueue}
use Rattle.fs_chain.specs.Holds.{live_of}
use Rattle.fs_chain.specs.Queues.{reset_to}
use Rattle.fs_chain.specs.declared.chain_handle.ChainHandle.{ChainHandle}
use Rattle.fs_chain.specs.declared.error.ChainError.{ChainError}
use Rattle.fs_chain.specs.declared.error.ChainError.TheVariants as error
use Rattle.fs_chain.specs.declared.queue.QueueState.{QueueState}
use Rattle.fs_driven.specs.Drivers.{Driver}
use Rattle.fs_driven.specs.NewMemory.{IsErrorOf, TakeMemory, remap_error}

-- from one chain to as many as the queue has descriptors may be in flight
abbrev pub has_valid_maximum : QueueState → Bool
has_valid_maximum q = not (nat_lt q.max_in_flight 1) && not (nat_lt q.layout.size q.max_in_flight)

-- so it is of each
abbrev pub have_valid_maximum : List QueueState → Bool
have_valid_maximum [] = true
have_valid_maximum (q ∷ qs) = has_valid_maximum q && have_valid_maximum qs

-- why a device doesn't move
abbrev pub move_error : List ChainHandle → List QueueState → List Region → Option ChainError
move_error ws qs regions = if have_valid_maximum qs then remap_error ws qs regions else Some error.BadArgument

-- a queue that is restored: it has the layout and the position of its record, and is stopped if it was
abbrev pub restored : QueueState → QueueState
restored q = record (reset_to q q.layout q.next_avail) { stopped = q.stopped }

-- each of these queues is reset, the first of which is queue i
abbrev pub resetting : (i : ℕ) → List LiveQueue → List LiveEvent
resetting i [] = []
resetting i (v ∷ vs) = ResetsQueue i v ∷ resetting (suc i) vs

-- the events of a move. If these are all queues of a run, they are restored with their device. If it has
-- more, these are reset, and the memory is another
abbrev pub moving : (queues : List LiveQueue) → (restored : List LiveQueue) → Memory → List LiveEvent
moving queues vs m =
    if length queues == length vs then MovesDevice m vs ∷ [] else resetting 0 vs ++ Remaps m ∷ []

-- they are the events of a move that is made; otherwise there are none
abbrev pub MoveEvents : (d d' : Driver) → List Region → Result (Unit {0}) ChainError → List LiveEvent → Type 0
MoveEvents d d' regions (Ok done) es =
    (es ≡ moving d.run.queues (map live_of d'.queues) (places_in (untranslated regions)))
    × (move_error d.handles d.queues regions ≡ None)
    × TakeMemory regions d.handles d'.handles
    × (d'.queues ≡ map restored d.queues)
    × (d.owned ≡ [])
    × (d'.owned ≡ [])
MoveEvents d d' regions (Err e) es =
    (es ≡ []) × (d' ≡ d) × IsErrorOf (move_error d.handles d.queues regions) (length regions) e
