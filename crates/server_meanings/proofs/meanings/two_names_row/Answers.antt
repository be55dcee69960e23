use Rattle.std.proofs.Common.{sym, ap, ◌∙◌}
use Rattle.server_meanings.specs.Grammar.{Given, given}
use Rattle.server_requests.specs.Fronts.{with_bytes}
use Rattle.server_requests.specs.Reading.{two_names}
use Rattle.server_meanings.proofs.Rows.{bytes_read, bytes_fault}
use Rattle.server_meanings.proofs.Serve.{ask_of}
use Rattle.server_meanings.proofs.ReadRows.{call_read, is_made}
use Rattle.server_meanings.proofs.meanings.two_names_row.Goals as goal

pub returns-in-Ok-two_names-clause-reads : goal.returns-in-Ok-two_names-clause-reads
returns-in-Ok-two_names-clause-reads g c = λ room.
    let front = λ (x : Given). with_bytes g.R.Record.InRecord.shape g.R.Record.ByteValued.SIZE x.header.len in
    let shows = g.R.TwoNamesValue.shows c.args.head.now c.in-Ok.front.record _ in
    call_read g.S.Source.splits _ c.args.head.now _ (g.R.TwoNamesValue.call c.args.head.now c.in-Ok.front.record _) _
    (bytes_read (given c.args.head.now c.args.options.0 room) front (λ x r. two_names) g.R.TwoNamesValue.call _ c.in-Ok.front.record _
    c.in-Ok.ensures.reads
    ∙ ap (ask_of c.args.head.now.unique (g.R.TwoNamesValue.call c.args.head.now c.in-Ok.front.record)) (sym c.in-Ok-two_names.ensures.ok))
    c.value.ensures.reads (ap is_made shows.0) shows.1

pub returns-in-Err-two_names-clause-reads : goal.returns-in-Err-two_names-clause-reads
returns-in-Err-two_names-clause-reads g c = λ room.
    let front = λ (x : Given). with_bytes g.R.Record.InRecord.shape g.R.Record.ByteValued.SIZE x.header.len in (
      λ other. bytes_read (given c.args.head.now c.args.options.0 room) front (λ x r. two_names) g.R.TwoNamesValue.call _
          c.in-Ok.front.record _ c.in-Ok.ensures.reads
          ∙ ap (ask_of c.args.head.now.unique (g.R.TwoNamesValue.call c.args.head.now c.in-Ok.front.record))
          (sym c.in-Err-two_names.ensures.err.0),
      λ none. c.in-Err-two_names.ensures.err.1,
    )

pub returns-in-Err-clause-reads : goal.returns-in-Err-clause-reads
returns-in-Err-clause-reads g c = λ room.
    let front = λ (x : Given). with_bytes g.R.Record.InRecord.shape g.R.Record.ByteValued.SIZE x.header.len in (
      λ other. bytes_fault (given c.args.head.now c.args.options.0 room) front (λ x r. two_names) g.R.TwoNamesValue.call _ _
          (c.in-Err.ensures.fault other),
      λ none. c.in-Err.ensures.in_place none,
    )
