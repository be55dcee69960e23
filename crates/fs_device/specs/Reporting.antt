-- The file calls of a run: in their order they are a run of the file system, and each exchange follows
-- from the meaning of its request.
use Rattle.std.specs.Prelude.{◌≡◌, List, [], flat_map, Option, Some, None}
use Rattle.std.specs.List.{AllByRecursion}
use Rattle.fuse_fs.specs.Calls.{FileRun}
use Rattle.server_meanings.specs.Grammar.{meaning}
use Rattle.server_meanings.specs.Serving.{May, Setting, served}
use Rattle.plain_machine.specs.declared.fault.Fault.{Fault}
use Rattle.plain_machine.specs.declared.fault.Fault.TheVariants as fault
use Rattle.plain_machine.specs.Step.{State, Calls, served_exchange, calls_alone, answers_alone}
use Rattle.plain_machine.specs.Run.{Turn, Turns, Command, Answer, RunReported}

-- the calls of a kick, in their order
abbrev pub calls_of : Turns → Calls
calls_of turns = flat_map (λ t. t.calls) turns

-- the calls of a run, in their order
abbrev pub calls_of_all : List Turns → Calls
calls_of_all all_turns = flat_map calls_of all_turns

-- in some setting the request means these calls, each determined by the answers before it, and this
-- exchange
abbrev pub IsMeant : Turn → Type 0
IsMeant t = (s : Setting)
    × ((served s (meaning s.options t.exchange.request s.room) (answers_alone t.calls)).calls
    ≡ calls_alone t.calls)
    × (t.exchange ≡ served_exchange t.exchange.head t.exchange.request
    (served s (meaning s.options t.exchange.request s.room) (answers_alone t.calls)))

-- an exchange and its calls are as its fault says: a faulty chain makes no call
abbrev pub IsServedBy : Option Fault → Turn → Type 0
IsServedBy (Some (fault.Chain why)) t = t.calls ≡ []
IsServedBy (Some (fault.Served e)) t = IsMeant t
IsServedBy None t = IsMeant t

-- an exchange and its calls follow from the meaning of its request
abbrev pub IsServed : Turn → Type 0
IsServed t = IsServedBy t.exchange.fault t

-- theorem: all calls of a run are a run of the file system from its first state to its last, and each
-- exchange follows from its request's meaning in some setting
abbrev pub CallsAreOfRun : {F : Type 0} → May F → Type 0
CallsAreOfRun {F} may =
    (s after : State F) (events : List (Command × Answer)) (all_turns : List Turns) →
    RunReported may s events all_turns after →
    FileRun may s.files (calls_of_all all_turns) after.files
    × AllByRecursion (AllByRecursion IsServed) all_turns
