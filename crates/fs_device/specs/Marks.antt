-- Marks change nothing else: two states that differ only in marks allow the same runs.
use Rattle.std.specs.Prelude.{◌≡◌, Bool, false, List, [], ◌∷◌, map}
use Rattle.vm_memory_core.specs.Host.{Host, unmarked}
use Rattle.server_meanings.specs.Serving.{May}
use Rattle.plain_machine.specs.Step.{State}
use Rattle.plain_machine.specs.Run.{Command, Answer, Done, Bytes, NewBlockIs, Served, Copied, Pages}
use Rattle.plain_machine.specs.Run.{IsRefused, Turns, RunReported, with_host}

-- as many pages, with no mark set
abbrev pub none_marked : List Bool → List Bool
none_marked marks = map (λ _. false) marks

-- the host with no page marked, neither of a block nor of a set of I/O pages
abbrev pub without_marks : Host → Host
without_marks h = record h { blocks = map unmarked h.blocks; io_marks = map none_marked h.io_marks }

-- the state with no page of its host marked
abbrev pub without_its_marks : {F : Type 0} → State F → State F
without_its_marks s = with_host s (without_marks s.memory.host)

-- two states that differ only in marks
abbrev pub SameButMarks : {F : Type 0} → State F → State F → Type 0
SameButMarks a b = without_its_marks a ≡ without_its_marks b

-- the same answer, but for marks: two harvests may answer any pages, and the copies of two images may
-- differ in marks
abbrev pub SameAnswer : Answer → Answer → Type 0
SameAnswer (Pages pages) (Pages others) = Unit {0}
SameAnswer (Pages pages) answer = ⊥
SameAnswer (Copied copy) (Copied other) = without_marks copy ≡ without_marks other
SameAnswer (Copied copy) answer = ⊥
SameAnswer Done answer = answer ≡ Done
SameAnswer (Bytes bytes) answer = answer ≡ Bytes bytes
SameAnswer (NewBlockIs number) answer = answer ≡ NewBlockIs number
SameAnswer (Served kick) answer = answer ≡ Served kick
SameAnswer (IsRefused why) answer = answer ≡ IsRefused why

-- the same commands, each with the same answer
abbrev pub SameEvents : List (Command × Answer) → List (Command × Answer) → Type 0
SameEvents [] [] = Unit {0}
SameEvents [] (other ∷ others) = ⊥
SameEvents (event ∷ events) [] = ⊥
SameEvents (event ∷ events) (other ∷ others) =
    (other.0 ≡ event.0) × SameAnswer event.1 other.1 × SameEvents events others

-- theorem: two states that differ only in marks allow the same runs, up to the answers of harvests and
-- marks, with the same exchanges, notifications and calls behind the answers. The states afterwards
-- differ only in marks
abbrev pub MarksDoNotMatter : {F : Type 0} → May F → Type 0
MarksDoNotMatter {F} may =
    (a b after : State F) (events : List (Command × Answer)) (all_turns : List Turns) →
    SameButMarks a b →
    RunReported may a events all_turns after →
    (others : List (Command × Answer)) × (end : State F)
    × SameEvents events others
    × RunReported may b others all_turns end
    × SameButMarks after end
