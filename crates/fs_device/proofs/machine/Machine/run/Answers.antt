use Rattle.std.proofs.Common.{◌≡◌, ◌∷◌, [], ◌++◌, ◌∙◌, length, append_assoc, append-nil, sym, ap, arith, rules}
use Rattle.std.specs.Vec.Iter.{into_iter_items}
use Rattle.fs_device.specs.CommandView.{answer_of, command_of}
use Rattle.fs_device.proofs.RunLemmas.{count_more, run_more, run_ends, nothing_left}
use Rattle.fs_device.proofs.machine.Machine.run.Goals as goal

pub loop-command-preserved : goal.loop-command-preserved
loop-command-preserved g c =
    let at = c.loop-command in
    let x = c.in-Some.command in
    let steps : into_iter_items at.command-iterator ≡ x ∷ into_iter_items c.next.new.self = c.in-Some.ensures.steps.0 in
    let pushed : c.push.new.self.items ≡ at.answers.items ++ c.perform-answer.result ∷ [] = rw c.unwrap.ensures at c.push.ensures.items in
    record {
      next = tt;
      finite = tt;
      all = append_assoc at.yielded (x ∷ []) _ ∙ rw (← steps) at.invariant.all;
      left = (
          let was = at.invariant.left in
          let gone = c.in-Some.ensures.steps.1 in
          let short = ap length steps in
          omega arith
          );
      count = rw pushed (count_more at.yielded at.answers.items x c.perform-answer.result at.invariant.count);
      room = Prim.search rules;
      run = rw pushed (run_more g.F.FileSystemBase.may command_of answer_of _ _ _ at.yielded at.answers.items x c.perform-answer.result
          at.invariant.count at.invariant.run c.perform-answer.ensures);
    }

pub returns-clause-run : goal.returns-clause-run
returns-clause-run g c =
    let at = c.loop-command in
    let none = c.in-None.ensures.steps in
    let empty : into_iter_items at.command-iterator ≡ [] = nothing_left _ (sym at.invariant.left ∙ none.0) in
    let all = sym (append-nil at.yielded) ∙ rw empty at at.invariant.all ∙ c.into_iter-command-iterator.ensures.into_iter_gives.0 in
    rw (← all) (run_ends g.F.FileSystemBase.may _ _ _ at.invariant.run)
