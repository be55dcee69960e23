use Rattle.std.proofs.Common.{Some, sym}
use Rattle.server_meanings.specs.Grammar.{given}
use Rattle.server_meanings.proofs.Rows.{meant_long, meant_none, meant_row}
use Rattle.server_phases.proofs.session.Session.ask_head.Goals as goal

pub returns-then-head-gt-MAX_REQUEST_LEN-clause-decoded : goal.returns-then-head-gt-MAX_REQUEST_LEN-clause-decoded
returns-then-head-gt-MAX_REQUEST_LEN-clause-decoded c =
    c.refused.ensures.decoded c.args.self.now.page_size c.args.self.now.options.0 _ _
    (meant_long (given c.args.head.now c.args.self.now.options.0 c.args.room) c.args.source.bytes.now c.if-head-gt-MAX_REQUEST_LEN.true)

pub returns-in-Some-clause-decoded : goal.returns-in-Some-clause-decoded
returns-in-Some-clause-decoded c =
    let g = given c.args.head.now c.args.self.now.options.0 c.args.room in
    rw (meant_row g c.args.source.bytes.now (Some c.in-Some.opcode) c.if-head-gt-MAX_REQUEST_LEN.false (sym c.in-Some.ensures))
    c.ask_row.ensures.decoded

pub returns-in-None-clause-decoded : goal.returns-in-None-clause-decoded
returns-in-None-clause-decoded c =
    c.refused-in-None.ensures.decoded c.args.self.now.page_size c.args.self.now.options.0 _ _
    (meant_none (given c.args.head.now c.args.self.now.options.0 c.args.room) c.args.source.bytes.now c.if-head-gt-MAX_REQUEST_LEN.false
    (sym c.in-None.ensures))
