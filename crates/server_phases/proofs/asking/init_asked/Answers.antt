use Rattle.std.proofs.Common.{refl, sym}
use Rattle.server_meanings.specs.Grammar.{Starts}
use Rattle.server_phases.proofs.asking.init_asked.Goals as goal

pub returns-clause-decoded : goal.returns-clause-decoded
returns-clause-decoded c = λ s m bytes place asks.
    rw (asks, c.bits.ensures)
    (Starts c.args.head.now.unique c.args.capable.0 c.args.readahead, refl, refl, tt, (refl, refl, c.requires), sym place)
