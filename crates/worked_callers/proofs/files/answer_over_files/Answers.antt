use Rattle.worked_callers.proofs.OverFiles.{over_files}
use Rattle.worked_callers.proofs.Results.{ok_more}
use Rattle.worked_callers.proofs.files.answer_over_files.Goals as goal

pub returns-clause-run : goal.returns-clause-run
returns-clause-run g c =
    ok_more c.answer.result _ _
    (λ returned answers.
    over_files g.F.FileSystemBase.may c.law_files.ensures c.args.handle.now c.answer.new.self c.args.answer returned answers)
    c.answer.ensures.step
