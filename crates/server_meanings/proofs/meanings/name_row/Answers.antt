use Rattle.std.proofs.Common.{sym, ap, ◌∙◌}
use Rattle.server_meanings.specs.Grammar.{given}
use Rattle.server_meanings.proofs.Serve.{ask_of}
use Rattle.server_meanings.proofs.Rows.{name_read, name_fault}
use Rattle.server_meanings.proofs.ReadRows.{call_read, is_made}
use Rattle.server_meanings.proofs.meanings.name_row.Goals as goal

pub returns-in-Ok-last_name-clause-reads : goal.returns-in-Ok-last_name-clause-reads
returns-in-Ok-last_name-clause-reads g c = λ room.
    let shows = g.R.NameValue.shows c.args.head.now c.in-Ok-last_name.name.bytes.now in
    call_read g.S.Source.splits _ c.args.head.now _ (g.R.NameValue.call c.args.head.now c.in-Ok-last_name.name.bytes.now) _
    (name_read (given c.args.head.now c.args.options.0 room) g.R.NameValue.call _ _ c.in-Ok.ensures.bytes
    ∙ ap (ask_of c.args.head.now.unique (g.R.NameValue.call c.args.head.now)) (sym c.in-Ok-last_name.ensures.ok))
    c.value.ensures.reads (ap is_made shows.0) shows.1

pub returns-in-Err-last_name-clause-reads : goal.returns-in-Err-last_name-clause-reads
returns-in-Err-last_name-clause-reads g c = λ room. (
  λ other. name_read (given c.args.head.now c.args.options.0 room) g.R.NameValue.call _ _ c.in-Ok.ensures.bytes
      ∙ ap (ask_of c.args.head.now.unique (g.R.NameValue.call c.args.head.now)) (sym c.in-Err-last_name.ensures.err.0),
  λ none. c.in-Err-last_name.ensures.err.1,
)

pub returns-in-Err-clause-reads : goal.returns-in-Err-clause-reads
returns-in-Err-clause-reads g c = λ room. (
  λ other. name_fault (given c.args.head.now c.args.options.0 room) g.R.NameValue.call _ _ (c.in-Err.ensures.fault other),
  λ none. c.in-Err.ensures.in_place (rw c.in-Err.ensures.segments at none),
)
