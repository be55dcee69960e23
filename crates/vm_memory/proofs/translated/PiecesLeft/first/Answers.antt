use Rattle.std.proofs.Common.{arith}
use Rattle.vm_memory.proofs.TranslatedLemmas.{first_left}
use Rattle.vm_memory.proofs.translated.PiecesLeft.first.Goals as goal

pub returns-clause-first : goal.returns-clause-first
returns-clause-first c table a n some left =
    first_left table a n c.args.self.now.rest c.next.new.self c.next.result some (left.2 (omega arith)) c.next.ensures.steps
