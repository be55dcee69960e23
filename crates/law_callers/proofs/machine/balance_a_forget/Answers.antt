use Rattle.std.proofs.Common.{arith, [], ◌∷◌}
use Rattle.plain_machine.specs.Run.{RunReported}
use Rattle.law_callers.specs.Worked.{forget_kick, forget_turn, forgotten, machine, with_forget}
use Rattle.law_callers.proofs.Steps.{forget_performed}
use Rattle.law_callers.proofs.machine.balance_a_forget.Goals as goal

pub returns : goal.returns
unfolding RunReported
returns g c before after so events later end run =
    let may = g.F.FileSystemBase.may in
    c.law_books.ensures (machine with_forget before) end (forget_kick ∷ events) ((forget_turn ∷ []) ∷ later) 5 (omega arith)
    (forgotten before after, forget_performed may before after so, run)
