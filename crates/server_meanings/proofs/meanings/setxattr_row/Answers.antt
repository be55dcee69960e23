use Rattle.std.proofs.Common.{refl, sym, ap, ◌∙◌}
use Rattle.fuse_in.specs.declared.nodes.SetxattrIn.{SetxattrIn}
use Rattle.server_meanings.specs.Grammar.{Given, given}
use Rattle.server_requests.specs.Fronts.{setxattr_front}
use Rattle.server_requests.specs.Reading.{name_and_value}
use Rattle.server_calls.specs.Requests.{setxattr_call}
use Rattle.server_meanings.proofs.Rows.{bytes_read, bytes_fault}
use Rattle.server_meanings.proofs.Serve.{ask_of}
use Rattle.server_meanings.proofs.ReadRows.{call_read}
use Rattle.server_meanings.proofs.meanings.setxattr_row.Goals as goal

pub returns-in-Ok-name_and_value-clause-reads : goal.returns-in-Ok-name_and_value-clause-reads
returns-in-Ok-name_and_value-clause-reads g c = λ room.
    let front = λ (x : Given). setxattr_front x.options x.header.len in
    let parts = λ (x : Given) (r : SetxattrIn). name_and_value r.size in
    call_read g.S.Source.splits _ c.args.head.now _ (setxattr_call c.args.head.now c.in-Ok.front.record _) _
    (bytes_read (given c.args.head.now c.args.options.0 room) front parts setxattr_call _ c.in-Ok.front.record _ c.in-Ok.ensures.reads
    ∙ ap (ask_of c.args.head.now.unique (setxattr_call c.args.head.now c.in-Ok.front.record)) (sym c.in-Ok-name_and_value.ensures.ok))
    c.setxattr_value-call.ensures.reads refl (refl, tt)

pub returns-in-Err-name_and_value-clause-reads : goal.returns-in-Err-name_and_value-clause-reads
returns-in-Err-name_and_value-clause-reads g c = λ room.
    let front = λ (x : Given). setxattr_front x.options x.header.len in
    let parts = λ (x : Given) (r : SetxattrIn). name_and_value r.size in (
      λ other. bytes_read (given c.args.head.now c.args.options.0 room) front parts setxattr_call _ c.in-Ok.front.record _
          c.in-Ok.ensures.reads
          ∙ ap (ask_of c.args.head.now.unique (setxattr_call c.args.head.now c.in-Ok.front.record))
          (sym c.in-Err-name_and_value.ensures.err.0),
      λ none. c.in-Err-name_and_value.ensures.err.1,
    )

pub returns-in-Err-clause-reads : goal.returns-in-Err-clause-reads
returns-in-Err-clause-reads g c = λ room.
    let front = λ (x : Given). setxattr_front x.options x.header.len in
    let parts = λ (x : Given) (r : SetxattrIn). name_and_value r.size in (
      λ other. bytes_fault (given c.args.head.now c.args.options.0 room) front parts setxattr_call _ _ (c.in-Err.ensures.fault other),
      λ none. c.in-Err.ensures.in_place none,
    )
