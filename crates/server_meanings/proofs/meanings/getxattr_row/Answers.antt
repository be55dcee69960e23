use Rattle.std.proofs.Common.{refl, sym, ap, ◌∙◌}
use Rattle.fuse_in.specs.declared.nodes.GetxattrIn.{GetxattrIn}
use Rattle.fuse_in.specs.Records.{getxattr_in}
use Rattle.server_meanings.specs.Grammar.{Given, given, at_most_a_mebibyte}
use Rattle.server_requests.specs.Fronts.{with_bytes}
use Rattle.server_requests.specs.Reading.{◌>>◌, last_name}
use Rattle.server_calls.specs.Requests.{getxattr_call}
use Rattle.server_meanings.proofs.Rows.{bytes_read, bytes_fault, sized, too_large}
use Rattle.server_meanings.proofs.Serve.{ask_of}
use Rattle.server_meanings.proofs.ReadRows.{call_read}
use Rattle.server_meanings.proofs.meanings.getxattr_row.Goals as goal

pub returns-in-Ok-last_name-clause-reads : goal.returns-in-Ok-last_name-clause-reads
returns-in-Ok-last_name-clause-reads g c = λ room.
    let front = λ (x : Given). with_bytes getxattr_in 8 x.header.len in
    let parts = λ (x : Given) (r : GetxattrIn). at_most_a_mebibyte r.size >> last_name in
    call_read g.S.Source.splits _ c.args.head.now _ (getxattr_call c.args.head.now c.in-Ok.front.record _) _
    (bytes_read (given c.args.head.now c.args.options.0 room) front parts getxattr_call _ c.in-Ok.front.record _ c.in-Ok.ensures.reads
    ∙ ap (ask_of c.args.head.now.unique (getxattr_call c.args.head.now c.in-Ok.front.record))
    (sized _ last_name _ c.if-front-gt-MAX_BUFFER_SIZE.false ∙ sym c.in-Ok-last_name.ensures.ok))
    c.value.ensures.reads refl (refl, tt)

pub returns-in-Err-last_name-clause-reads : goal.returns-in-Err-last_name-clause-reads
returns-in-Err-last_name-clause-reads g c = λ room.
    let front = λ (x : Given). with_bytes getxattr_in 8 x.header.len in
    let parts = λ (x : Given) (r : GetxattrIn). at_most_a_mebibyte r.size >> last_name in (
      λ other. bytes_read (given c.args.head.now c.args.options.0 room) front parts getxattr_call _ c.in-Ok.front.record _
          c.in-Ok.ensures.reads
          ∙ ap (ask_of c.args.head.now.unique (getxattr_call c.args.head.now c.in-Ok.front.record))
          (sized _ last_name _ c.if-front-gt-MAX_BUFFER_SIZE.false ∙ sym c.in-Err-last_name.ensures.err.0),
      λ none. c.in-Err-last_name.ensures.err.1,
    )

pub returns-in-Err-clause-reads : goal.returns-in-Err-clause-reads
returns-in-Err-clause-reads g c = λ room.
    let front = λ (x : Given). with_bytes getxattr_in 8 x.header.len in
    let parts = λ (x : Given) (r : GetxattrIn). at_most_a_mebibyte r.size >> last_name in (
      λ other. bytes_fault (given c.args.head.now c.args.options.0 room) front parts getxattr_call _ _ (c.in-Err.ensures.fault other),
      λ none. c.in-Err.ensures.in_place none,
    )

pub returns-then-front-gt-MAX_BUFFER_SIZE-clause-reads : goal.returns-then-front-gt-MAX_BUFFER_SIZE-clause-reads
returns-then-front-gt-MAX_BUFFER_SIZE-clause-reads g c = λ room.
    let front = λ (x : Given). with_bytes getxattr_in 8 x.header.len in
    let parts = λ (x : Given) (r : GetxattrIn). at_most_a_mebibyte r.size >> last_name in
    bytes_read (given c.args.head.now c.args.options.0 room) front parts getxattr_call _ c.in-Ok.front.record _ c.in-Ok.ensures.reads
    ∙ ap (ask_of c.args.head.now.unique (getxattr_call c.args.head.now c.in-Ok.front.record))
    (too_large _ last_name _ c.if-front-gt-MAX_BUFFER_SIZE.true)
