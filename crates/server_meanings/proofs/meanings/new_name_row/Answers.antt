use Rattle.std.proofs.Common.{sym, ap, ◌∙◌}
use Rattle.server_meanings.specs.Grammar.{Given, given}
use Rattle.server_requests.specs.Fronts.{counted_split, with_bytes}
use Rattle.server_requests.specs.Extras.{new_name}
use Rattle.server_meanings.proofs.Rows.{bytes_read, bytes_fault}
use Rattle.server_meanings.proofs.Serve.{ask_of}
use Rattle.server_meanings.proofs.ReadRows.{made_read, split_none}
use Rattle.server_meanings.proofs.meanings.new_name_row.Goals as goal

pub returns-in-Ok-new_name-clause-reads : goal.returns-in-Ok-new_name-clause-reads
returns-in-Ok-new_name-clause-reads g c = λ room.
    let front = λ (x : Given). with_bytes g.R.Record.InRecord.shape g.R.Record.ByteValued.SIZE x.header.len in
    let shows = g.R.NewNameValue.shows c.args.head.now c.in-Ok.front.record _ in
    made_read g.S.Source.splits _ c.args.head.now _ (g.R.NewNameValue.call c.args.head.now c.in-Ok.front.record _) _
    (bytes_read (given c.args.head.now c.args.options.0 room) front (λ x r. new_name x.options) g.R.NewNameValue.call _ c.in-Ok.front.record
    _ c.in-Ok.ensures.reads
    ∙ ap (ask_of c.args.head.now.unique (g.R.NewNameValue.call c.args.head.now c.in-Ok.front.record)) (sym c.in-Ok-new_name.ensures.reads))
    c.value-call.ensures.reads shows.1

pub returns-in-Err-new_name-clause-reads : goal.returns-in-Err-new_name-clause-reads
returns-in-Err-new_name-clause-reads g c = λ room.
    let front = λ (x : Given). with_bytes g.R.Record.InRecord.shape g.R.Record.ByteValued.SIZE x.header.len in (
      λ other. bytes_read (given c.args.head.now c.args.options.0 room) front (λ x r. new_name x.options) g.R.NewNameValue.call _
          c.in-Ok.front.record _ c.in-Ok.ensures.reads
          ∙ ap (ask_of c.args.head.now.unique (g.R.NewNameValue.call c.args.head.now c.in-Ok.front.record))
          (sym c.in-Err-new_name.ensures.fault.0),
      λ none. c.in-Err-new_name.ensures.fault.1,
    )

pub returns-in-Err-clause-reads : goal.returns-in-Err-clause-reads
returns-in-Err-clause-reads g c = λ room.
    let front = λ (x : Given). with_bytes g.R.Record.InRecord.shape g.R.Record.ByteValued.SIZE x.header.len in (
      λ other. bytes_fault (given c.args.head.now c.args.options.0 room) front (λ x r. new_name x.options) g.R.NewNameValue.call _ _
          (c.in-Err.ensures.fault other),
      λ none. c.in-Err.ensures.in_place (split_none g.S.Source.splits _
          (counted_split c.args.head.now.len g.R.Record.ByteValued.SIZE (g.S.Source.segments c.args.source)) none),
    )
