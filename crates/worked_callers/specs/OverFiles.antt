-- An answer of a file system, as a run over its states.
use Rattle.std.specs.Prelude.{◌≡◌, ℕ, List, [], ◌∷◌, ◌++◌}
use Rattle.fuse_fs.specs.Calls.{FileCall}
use Rattle.fuse_values.specs.Answers.{answer_of}
use Rattle.fuse_values.specs.declared.answer.FileAnswer as made_answer
use Rattle.server_meanings.specs.Serving.{May}
use Rattle.server_phases.specs.Answering.{ReportsBytes}
use Rattle.live_machine.specs.Files.{over}
use Rattle.live_machine.specs.Live.{Asked, InFlightChain, LiveRun, ReceivesAnswer, after_answer, asked_chain}
use Rattle.fs_chain.specs.Holds.{HoldsInFlight, RunState}
use Rattle.fs_chain.specs.declared.chain_handle.ChainHandle.{ChainHandle}

-- in each state of a run in which the handle has a decoded chain, there is a call. If the file system may
-- answer it so by now, its answer is a run over the file system's states. The handle has the chain then
abbrev pub AnswersOver :
    {F : Type 0} → May F → (old new : ChainHandle) → made_answer.FileAnswer → Type 0
AnswersOver {F} may old new answer =
    (s : RunState) (before behind : List InFlightChain) (c : InFlightChain) (request bytes : List ℕ)
    (options : ℕ) (files left : F) →
    s.chains ≡ before ++ c ∷ behind →
    c.phase ≡ Asked request options [] →
    HoldsInFlight s.page_size c old →
    ReportsBytes bytes answer →
    (call : FileCall)
    × (let calls = (call, answer_of bytes answer) ∷ [] in
    let after = after_answer s before behind c request options calls tt in
    HoldsInFlight s.page_size (asked_chain c request options calls) new
    × (may files call (answer_of bytes answer) left →
    LiveRun may (over s files) (ReceivesAnswer c call (answer_of bytes answer) ∷ []) (over after left)))
