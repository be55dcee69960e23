use Rattle.server_phases.proofs.Reporting.{call_is_decoded}
use Rattle.server_phases.proofs.asking.called.Goals as goal

pub returns-clause-decoded : goal.returns-clause-decoded
returns-clause-decoded c = λ s m bytes call place asks shows e.
    rw (asks, c.awaits_of-awaits.ensures, c.from.ensures) (call_is_decoded s c.args.head.now bytes call c.args.made c.args.room place shows
    e)
