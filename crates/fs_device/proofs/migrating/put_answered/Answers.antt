use Rattle.std.proofs.Common.{◌≡◌, [], map, rules, refl}
use Rattle.vm_memory_core.specs.Host.{lengths}
use Rattle.fs_device.specs.PageView.{page_view}
use Rattle.fs_device.specs.CommandView.{answer_of}
use Rattle.fs_device.specs.Moving.{pages_of_answer}
use Rattle.fs_device.specs.Migrating.{pages_of_answers}
use Rattle.fs_device.proofs.MigrateLemmas.{renumbered, answered_all, answered_passed, answered_put}
use Rattle.fs_device.proofs.migrating.put_answered.Goals as goal
use Rattle.fs_device.proofs.migrating.put_answered.Goals.{in-Pages, in_default}

pub loop-answer-init : goal.loop-answer-init
loop-answer-init c = (refl, (λ i. renumbered (lengths c.args.copy.now) (pages_of_answers c.args.answers.now) 0 i c.requires), refl)

pub loop-answer-preserved : goal.loop-answer-preserved
loop-answer-preserved c =
    let first = c.args.copy.now in
    let now = c.loop-answer.copy in
    let a = c.answer-item.result in
    elim c.match-answer.branch [
      | in-Pages w ↦
          let has : pages_of_answer (answer_of a) ≡ map page_view w.deref.result.now = Prim.search rules in
          rw w.copy-is (answered_put first now w.apply.new.host _ c.args.answers.now c.loop-answer.answer-index a w.deref.result.now
          w.apply.result c.loop-answer-test.true c.answer-item.is has
          w.apply.ensures.outcome w.apply.ensures.ok w.apply.ensures.shape c.loop-answer.invariant)
      | in_default w ↦
          let none : pages_of_answer (answer_of a) ≡ [] = Prim.search rules in
          rw w.copy-is (answered_passed first now _ c.args.answers.now c.loop-answer.answer-index a c.loop-answer-test.true c.answer-item.is
          none c.loop-answer.invariant)
    ]

pub returns-clause-put : goal.returns-clause-put
returns-clause-put c = answered_all c.args.copy.now c.loop-answer.copy _ c.args.answers.now c.loop-answer.answer-index
    c.loop-answer-test.false c.loop-answer.invariant
