-- A machine that is moved: each of its later runs could have been one of the old machine.
use Rattle.std.specs.Prelude.{◌≡◌, ◌⊎◌, ◌++◌, List, [], ◌∷◌, length, map, zip}
use Rattle.std.specs.List.{flat_map}
use Rattle.plain_machine.specs.Harvested.{Page}
use Rattle.fs_device.specs.Applying.{pages_put}
use Rattle.vm_memory_core.specs.Host.{Host}
use Rattle.server_meanings.specs.Serving.{May}
use Rattle.fs_device.specs.declared.command.Answer as said
use Rattle.plain_machine.specs.Step.{State}
use Rattle.plain_machine.specs.Run.{Command, Image, Harvest, Answer, Copied, Pages, Turns, Run, RunReported}
use Rattle.plain_machine.specs.Run.{with_host}
use Rattle.fs_device.specs.CommandView.{answer_of}
use Rattle.fs_device.specs.Moving.{RunsFromImage, pages_answered, pages_of_answer}

-- the pages in these answers, in order
abbrev pub pages_of_answers : List said.Answer → List Page
pages_of_answers answers = flat_map pages_of_answer (map answer_of answers)

-- the events between an image of the host and a last harvest, and the harvest
abbrev pub until_harvest : List (Command × Answer) → (last : List Page) → List (Command × Answer)
until_harvest events last = events ++ (Harvest, Pages last) ∷ []

-- each run there could have been a run here after these events and their exchanges: with the same
-- commands and answers, the same calls, exchanges and notifications behind them, and the same state at
-- the end
abbrev pub CouldRunHere : {F : Type 0} → May F → State F → List (Command × Answer) → (before : List Turns) →
    (there : State F) → Type 0
CouldRunHere {F} may s events before there =
    (later : List (Command × Answer)) (all_turns : List Turns) (end : State F) →
    RunReported may there later all_turns end →
    RunReported may s (events ++ later) (before ++ all_turns) end

-- a machine is moved by a run here from an image to a last harvest. The machine there is the one here
-- over the copy, with all harvested pages applied in order; it equals the one here, marks and all; and
-- each of its runs could have followed here
pub record IsMoved {F : Type 0} (may : May F) (s : State F) (events : List (Command
    × Answer)) (there : State F) : Type 0 where
  pub copy : Host
  pub last : List Page
  pub here : State F
  pub from : RunsFromImage may s copy (until_harvest events last) here
  pub over : there ≡ with_host here (pages_put copy (pages_answered (until_harvest events last)))
  pub same : there ≡ here
  pub carries_on : CouldRunHere may s ((Image, Copied copy) ∷ until_harvest events last) from.run.0 there

-- no command was done: an image was made or refused, and nothing else
abbrev pub StaysAtOnce : {F : Type 0} → May F → State F → (answers : List Answer) → State F → Type 0
StaysAtOnce may s answers after = (answers ≡ []) × (image : Answer) × Run may s ((Image, image) ∷ []) after

-- each command was done after an image, and then a harvest was made or refused
abbrev pub StaysAtLast :
    {F : Type 0} → May F → State F → List Command → (answers : List Answer) → State F → Type 0
StaysAtLast may s commands answers after =
    (length answers ≡ length commands)
    × (copy : Host) × (harvest : Answer)
    × Run may s ((Image, Copied copy) ∷ zip commands answers ++ (Harvest, harvest) ∷ []) after

-- the machine stayed, with none or all of the commands done
abbrev pub StaysHere :
    {F : Type 0} → May F → State F → List Command → (answers : List Answer) → State F → Type 0
StaysHere may s commands answers after =
    StaysAtOnce may s answers after ⊎ StaysAtLast may s commands answers after
