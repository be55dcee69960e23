use Rattle.server_phases.proofs.Reporting.{error_decoded}
use Rattle.server_phases.proofs.asking.refused.Goals as goal

pub returns-clause-decoded : goal.returns-clause-decoded
returns-clause-decoded c = λ page_size options m bytes e.
    rw (e, c.replied.ensures, c.error.ensures) (error_decoded page_size options c.args.room c.args.head.now.unique c.args.error bytes)
