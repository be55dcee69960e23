-- The events of the worked runs: up to a chain's return, and of the whole run.
use Rattle.std.specs.Prelude.{◌≡◌, ℕ, false, true, List, [], ◌∷◌, ◌++◌, None, Some, map, slice_get}
use Rattle.fs_queue.specs.Returning.{Store}
use Rattle.fs_regions.specs.declared.step.CourseStep.TheVariants as step
use Rattle.fuse_fs.specs.Calls.{Destroy, Done, FileRun}
use Rattle.vm_memory.specs.Memory.{Memory}
use Rattle.plain_machine.specs.Step.{Exchange, State}
use Rattle.server_meanings.specs.Examples.{le16}
use Rattle.server_meanings.specs.Serving.{May}
use Rattle.live_machine.specs.Live.{DecodesRequest, EndsPop, Happens, LiveEvent, LiveRun, LiveState}
use Rattle.live_machine.specs.Live.{FillsBuffer, InFlightChain, PushesChain, ReceivesAnswer, calls_in}
use Rattle.live_machine.specs.Overlap as overlap
use Rattle.live_machine.specs.Rounds.{BeginsEvent, CopiesByte, GuestWrites, MarksPages, Migration}
use Rattle.live_machine.specs.Rounds.{RoundMoment, StoresByte, TakesMarks}
use Rattle.live_machine.specs.Runs.{IsAStep, IsBefore}
use Rattle.live_machine.specs.Several.{LiveQueue}
use Rattle.worked_callers.specs.InARow.{first_asked}

-- the second chain is popped and returned while the call of the first one is pending, which is answered then
abbrev pub overlap_events : List LiveEvent
overlap_events =
    EndsPop 0 overlap.first_loads overlap.first_table (step.Chain 0 None)
    ∷ DecodesRequest overlap.first overlap.destroy (Destroy ∷ [])
    ∷ EndsPop 0 overlap.second_loads overlap.second_table (step.Chain 2 None)
    ∷ DecodesRequest overlap.second overlap.unknown []
    ∷ PushesChain overlap.second_asked overlap.second_exchange true 0 overlap.second_used (le16 0)
    ∷ ReceivesAnswer overlap.first_asked Destroy Done ∷ []

-- the first chain is returned
abbrev pub overlap_return : LiveEvent
overlap_return = PushesChain overlap.first_answered overlap.first_exchange true 0 overlap.first_used (le16 0)

-- these events of the device begin, one after another; its addresses are those of the memory
abbrev pub begun : List LiveEvent → List RoundMoment
begun es = map (λ e. BeginsEvent e (λ a. a)) es

-- a round takes the marks, and copies a byte. The run's events begin, the guest writes a byte, one of the
-- events' bytes is stored, and the caller marks a page
abbrev pub moments : List RoundMoment
moments =
    TakesMarks ∷ CopiesByte 0x4000 ∷ begun overlap_events
    ++ GuestWrites 0x3000 7 ∷ BeginsEvent overlap_return (λ a. a) ∷ StoresByte 0 ∷ MarksPages (4 ∷ []) ∷ []

-- before the first round each page is marked, and nothing is copied
abbrev pub all_marked : Migration
all_marked = record {
  bytes = λ a. 7;
  copy = λ a. 0;
  marked = λ page. true;
  to_copy = λ a. false;
  to_store = [];
  to_mark = [];
}

-- these events lead from one state to another, where the chain is returned. For each plain machine before the
-- chain, of which its calls are a run, the chain is a step by its own loads
abbrev pub LeadsToAStep : {F : Type 0} → (may : May F) → (start : LiveState F) → List LiveEvent →
    (after : LiveState F) → InFlightChain → Exchange → List Store → Type 0
LeadsToAStep {F} may start es after c x used =
    (now : LiveState F)
    × LiveRun may start es now
    × Happens may now (PushesChain c x true 0 used (le16 0)) after
    × ((m : State F) (files : F)
    → IsBefore now c m
    → FileRun may m.files (calls_in c.phase) files
    → (w : LiveQueue)
    × (slice_get now.queues c.queue ≡ Some w)
    × IsAStep may m files w c x 0 used (le16 0) true)

-- the first chain of InARow.antt, decoded
abbrev pub first_in_flight : {F : Type 0} → F → LiveState F
first_in_flight files = overlap.state files (overlap.at_positions 1 0) 1 (first_asked ∷ [])

-- two bytes are stored in its reply buffer
abbrev pub fills_at : (address : ℕ) → LiveEvent
fills_at address = FillsBuffer first_asked (record { address = address; bytes = 7 ∷ 0 ∷ [] } ∷ [])

-- the device after both chains of InARow.antt, over another memory
abbrev pub moved_to : {F : Type 0} → Memory → F → LiveState F
moved_to m files = record (overlap.state files (overlap.at_positions 2 2) 0 []) { places = m }
