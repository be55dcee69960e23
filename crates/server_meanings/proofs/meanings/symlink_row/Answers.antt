use Rattle.std.proofs.Common.{refl, sym, ap, ◌∙◌}
use Rattle.fuse_fs.specs.Calls.{NewLink}
use Rattle.fuse_values.specs.Values.{received_extra}
use Rattle.server_meanings.specs.Grammar.{given}
use Rattle.server_requests.specs.Fronts.{counted_split}
use Rattle.server_calls.specs.Requests.{symlink_call}
use Rattle.server_meanings.proofs.Serve.{ask_of}
use Rattle.server_meanings.proofs.Rows.{symlink_read, symlink_fault}
use Rattle.server_meanings.proofs.ReadRows.{made_read, split_none}
use Rattle.server_meanings.proofs.meanings.symlink_row.Goals as goal

pub returns-in-Ok-new_link-clause-reads : goal.returns-in-Ok-new_link-clause-reads
returns-in-Ok-new_link-clause-reads g c = λ room.
    let parts = c.in-Ok-new_link.parts in
    let link : NewLink = record { name = parts.name.bytes.now; link = parts.link.bytes.now; extra = received_extra parts.received } in
    made_read g.S.Source.splits _ c.args.head.now _ (symlink_call c.args.head.now link) _
    (symlink_read (given c.args.head.now c.args.options.0 room) _ _ c.in-Ok.ensures.bytes
    ∙ ap (ask_of c.args.head.now.unique (symlink_call c.args.head.now)) (sym c.in-Ok-new_link.ensures.reads))
    c.symlink_value-call.ensures.reads (refl, refl)

pub returns-in-Err-new_link-clause-reads : goal.returns-in-Err-new_link-clause-reads
returns-in-Err-new_link-clause-reads g c = λ room. (
  λ other. symlink_read (given c.args.head.now c.args.options.0 room) _ _ c.in-Ok.ensures.bytes
      ∙ ap (ask_of c.args.head.now.unique (symlink_call c.args.head.now)) (sym c.in-Err-new_link.ensures.fault.0),
  λ none. c.in-Err-new_link.ensures.fault.1,
)

pub returns-in-Err-clause-reads : goal.returns-in-Err-clause-reads
returns-in-Err-clause-reads g c = λ room. (
  λ other. symlink_fault (given c.args.head.now c.args.options.0 room) _ _ (c.in-Err.ensures.fault other),
  λ none.
      let split = split_none g.S.Source.splits _ (counted_split c.args.head.now.len 0 (g.S.Source.segments c.args.source)) none in
      c.in-Err.ensures.in_place (rw c.in-Err.ensures.segments at split),
)
