use Rattle.std.proofs.Common.{refl}
use Rattle.server_meanings.specs.Grammar.{given}
use Rattle.server_calls.specs.Requests.{listxattr_call}
use Rattle.server_meanings.proofs.Rows.{list_asks, list_large, list_short}
use Rattle.server_meanings.proofs.ReadRows.{call_read}
use Rattle.server_meanings.proofs.meanings.listxattr_row.Goals as goal

pub returns-in-Ok-clause-reads : goal.returns-in-Ok-clause-reads
returns-in-Ok-clause-reads g c = λ room.
    call_read g.S.Source.splits _ c.args.head.now _ (listxattr_call c.args.head.now c.in-Ok.request) _
    (list_asks (given c.args.head.now c.args.options.0 room) _ _ _ c.in-Ok.ensures.reads c.if-request-gt-MAX_BUFFER_SIZE.false)
    c.value.ensures.reads refl (refl, tt)

pub returns-then-request-gt-MAX_BUFFER_SIZE-clause-reads : goal.returns-then-request-gt-MAX_BUFFER_SIZE-clause-reads
returns-then-request-gt-MAX_BUFFER_SIZE-clause-reads g c = λ room.
    list_large (given c.args.head.now c.args.options.0 room) _ _ _ c.in-Ok.ensures.reads c.if-request-gt-MAX_BUFFER_SIZE.true

pub returns-clause-reads : goal.returns-clause-reads
returns-clause-reads g c = λ room.
    (λ other. list_short (given c.args.head.now c.args.options.0 room) _ _ c.in-Err.ensures.reads, λ none. rw c.in-Err.ensures.fault refl)
