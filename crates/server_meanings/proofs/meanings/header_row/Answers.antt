use Rattle.std.proofs.Common.{refl, ap}
use Rattle.server_meanings.proofs.ReadRows.{call_read, is_made}
use Rattle.server_meanings.proofs.meanings.header_row.Goals as goal

pub returns-clause-reads : goal.returns-clause-reads
returns-clause-reads g c = λ room.
    let shows = g.R.PlainValue.shows c.args.head.now in
    call_read g.S.Source.splits _ c.args.head.now _ (g.R.PlainValue.call c.args.head.now) _ refl c.value.ensures.reads (ap is_made shows.0)
    shows.1
