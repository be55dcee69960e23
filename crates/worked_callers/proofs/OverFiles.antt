-- An answer to a chain is a run over each file system that may answer so.
use Rattle.std.proofs.Common.{[], ◌∷◌, refl}
use Rattle.fuse_fs.specs.Calls.{FileAnswer, FileCall}
use Rattle.fuse_values.specs.Answers.{answer_of}
use Rattle.fuse_values.specs.declared.answer.FileAnswer as made_answer
use Rattle.server_meanings.specs.Serving.{May}
use Rattle.live_machine.specs.Files.{RunsOverFiles}
use Rattle.live_machine.specs.Live.{ReceivesAnswer, after_answer}
use Rattle.fs_chain.specs.Holds.{AnswersInRun, RunState}
use Rattle.fs_chain.specs.declared.answering.Replied.{Replied}
use Rattle.fs_chain.specs.declared.chain_handle.ChainHandle.{ChainHandle}
use Rattle.worked_callers.specs.OverFiles.{AnswersOver}

pub over_files : {F : Type 0} (may : May F) → RunsOverFiles may → (old new : ChainHandle) (answer : made_answer.FileAnswer)
    (result : Replied) → AnswersInRun old new answer result → AnswersOver may old new answer
unfolding AnswersInRun
over_files may law old new answer result answers s before behind c request bytes options files left out phase holds returned_so =
    let is = answers s before behind c request bytes options out phase holds returned_so in
    let call : FileCall = is.0 in
    let made : FileAnswer = answer_of bytes answer in
    let after : RunState = after_answer s before behind c request options ((call, made) ∷ []) tt in (
      call,
      (
        is.1.1,
        λ may_so.
            law s after (ReceivesAnswer c call made ∷ []) files left (after, is.1.0, refl) (left, is.1.0.is_one, may_so, refl),
      ),
    )
