use Rattle.fs_device.specs.Applying.{pages_put}
use Rattle.fs_device.specs.Migrating.{pages_of_answers}
use Rattle.fs_device.proofs.MigrateLemmas.{LeftAnswered}
use Rattle.fs_device.proofs.migrating.put_answered.Given as goal

abbrev pub invariant-loop-answer : goal.invariant-loop-answer
invariant-loop-answer l =
    LeftAnswered l.initial.copy l.copy (pages_put l.initial.copy (pages_of_answers l.answers)) l.answers l.answer-index
