-- A run doesn't depend on bytes that it doesn't read: two hosts that differ only in those allow the
-- same run, and afterwards differ only in bytes that the run didn't write.
use Rattle.std.specs.Prelude.{◌≡◌, ℕ, Bool, true, false, not, IsTrue, List, map, Some}
use Rattle.std.specs.List.{list_all}
use Rattle.vm_memory_core.specs.Host.{Host, Block, Place, with_blocks}
use Rattle.server_meanings.specs.Serving.{May}
use Rattle.plain_machine.specs.Step.{State}
use Rattle.plain_machine.specs.Run as run
use Rattle.plain_machine.specs.Run.{Command, Answer, Turns, RunReported, with_host}
use Rattle.fs_confinement.specs.ReadSet.{is_among, byte_of, run_touches, read_set, written_set}

-- a block with its bytes set to zero, of the same length, with its marks
abbrev pub zeroed : Block → Block
zeroed b = record b { bytes = map (λ _. 0) b.bytes }

-- a host with its bytes set to zero: it keeps the lengths of blocks, the marks, the tables and the I/O
-- pages
abbrev pub without_bytes : Host → Host
without_bytes h = with_blocks h (map zeroed h.blocks)

-- a state with the bytes of its host set to zero
abbrev pub without_its_bytes : {F : Type 0} → State F → State F
without_its_bytes s = with_host s (without_bytes s.memory.host)

-- two states that differ only in bytes of blocks: the layout, the table, the marks and the rest of the
-- device are the same
abbrev pub SameButBytes : {F : Type 0} → State F → State F → Type 0
SameButBytes a b = without_its_bytes a ≡ without_its_bytes b

-- two hosts have the same bytes at some places
abbrev pub AgreeOn : Host → Host → List Place → Type 0
AgreeOn g h ps =
    (block offset : ℕ) → is_among block offset ps ≡ true → byte_of g block offset ≡ byte_of h block offset

-- two hosts become two others and keep their difference: equal bytes stay equal, written bytes become
-- equal, and every other byte stays in both
pub record KeepDifference (g h g' h' : Host) (written : List Place) : Type 0 where
  pub same : (block offset : ℕ) →
      byte_of g block offset ≡ byte_of h block offset →
      byte_of g' block offset ≡ byte_of h' block offset
  pub new : (block offset : ℕ) →
      is_among block offset written ≡ true →
      byte_of g' block offset ≡ byte_of h' block offset
  pub old : (block offset byte : ℕ) →
      is_among block offset written ≡ false →
      byte_of g block offset ≡ Some byte →
      byte_of g' block offset ≡ Some byte
  pub other_old : (block offset byte : ℕ) →
      is_among block offset written ≡ false →
      byte_of h block offset ≡ Some byte →
      byte_of h' block offset ≡ Some byte

-- whether a command answers the bytes of all blocks or of the marked pages: an image or a harvest
abbrev pub copies : Command → Bool
copies run.Image = true
copies run.Harvest = true
copies _ = false

-- whether no command of a run is an image or a harvest
abbrev pub copies_nothing : List (Command × Answer) → Bool
copies_nothing events = list_all (λ e. not (copies e.0)) events

-- a run is allowed from another state too: the same commands with the same answers, exchanges,
-- notifications and calls. It touches the same places, and the states after it differ only in bytes
-- that differed before and weren't written
pub record AllowsToo {F : Type 0} (may : May F) (a b after : State F) (events : List (Command
    × Answer)) (all_turns : List Turns) (ran : RunReported may a events all_turns after) : Type 0 where
  pub end : State F
  pub run : RunReported may b events all_turns end
  pub touched : run_touches may b events all_turns end run ≡ run_touches may a events all_turns after
      ran
  pub rest : SameButBytes after end
  pub bytes : KeepDifference a.memory.host b.memory.host after.memory.host end.memory.host
      (written_set may a events all_turns after ran)

-- theorem: a run without an image and a harvest is allowed from each state that differs only in bytes
-- outside its read set
abbrev pub Confinement : {F : Type 0} → May F → Type 0
Confinement {F} may =
    (a b after : State F) (events : List (Command
    × Answer)) (all_turns : List Turns) (ran : RunReported may a events all_turns after) →
    IsTrue (copies_nothing events) →
    SameButBytes a b →
    AgreeOn a.memory.host b.memory.host (read_set may a events all_turns after ran) →
    AllowsToo may a b after events all_turns ran
