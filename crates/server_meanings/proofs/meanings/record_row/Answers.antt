use Rattle.std.proofs.Common.{refl, ap}
use Rattle.server_requests.specs.Reading.{value_of}
use Rattle.server_meanings.specs.Grammar.{given, one}
use Rattle.server_meanings.proofs.Serve.{ended_fault}
use Rattle.server_meanings.proofs.Rows.{record_asks}
use Rattle.server_meanings.proofs.ReadRows.{call_read, record_makes_none}
use Rattle.server_meanings.proofs.meanings.record_row.Goals as goal

pub returns-in-Ok-clause-reads : goal.returns-in-Ok-clause-reads
returns-in-Ok-clause-reads g c = λ room.
    let shows = g.R.RecordValue.shows c.args.head.now c.in-Ok.request in
    call_read g.S.Source.splits _ c.args.head.now _ (g.R.RecordValue.call c.args.head.now c.in-Ok.request) _
    (record_asks (given c.args.head.now c.args.options.0 room) g.R.Record.InRecord.shape g.R.RecordValue.call _ _ _ c.in-Ok.ensures.reads)
    c.value.ensures.reads (record_makes_none _ shows.0) shows.1

pub returns-clause-reads : goal.returns-clause-reads
returns-clause-reads g c = λ room. (
  λ other. ended_fault c.args.head.now.unique (λ x. one (given c.args.head.now c.args.options.0 room)
      (g.R.RecordValue.call c.args.head.now x.0) x.1) _ _ (ap value_of c.in-Err.ensures.reads),
  λ none. rw c.in-Err.ensures.fault refl,
)
