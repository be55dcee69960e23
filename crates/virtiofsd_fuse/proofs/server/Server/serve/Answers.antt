use Rattle.std.proofs.Common.{Some, sym}
use Rattle.server_meanings.specs.Grammar.{given}
use Rattle.server_meanings.specs.Serving.{setting}
use Rattle.server_meanings.proofs.Serve.{handles_reply}
use Rattle.server_meanings.proofs.Rows.{meant_long, meant_none, meant_row}
use Rattle.virtiofsd_fuse.proofs.server.Server.serve.Goals as goal

pub returns-then-head-gt-MAX_REQUEST_LEN-clause-handles : goal.returns-then-head-gt-MAX_REQUEST_LEN-clause-handles
returns-then-head-gt-MAX_REQUEST_LEN-clause-handles g c =
    let h = given c.args.head.now c.args.self.now.options.0 c.args.w.now.free in
    handles_reply g.F.FileSystemBase.may (setting c.args.self.now.page_size c.args.self.now.options.0 c.args.w.now.free) _ _ _ _ _
    (meant_long h c.args.r.left c.if-head-gt-MAX_REQUEST_LEN.true) c.reply_error.ensures.sent

pub returns-in-None-clause-handles : goal.returns-in-None-clause-handles
returns-in-None-clause-handles g c =
    let h = given c.args.head.now c.args.self.now.options.0 c.args.w.now.free in
    handles_reply g.F.FileSystemBase.may (setting c.args.self.now.page_size c.args.self.now.options.0 c.args.w.now.free) _ _ _ _ _
    (meant_none h c.args.r.left c.if-head-gt-MAX_REQUEST_LEN.false (sym c.in-None.ensures)) c.reply_error-in-None.ensures.sent

pub returns-in-Some-clause-handles : goal.returns-in-Some-clause-handles
returns-in-Some-clause-handles g c =
    let h = given c.args.head.now c.args.self.now.options.0 c.args.w.now.free in
    rw (meant_row h c.args.r.left (Some c.in-Some.opcode) c.if-head-gt-MAX_REQUEST_LEN.false (sym c.in-Some.ensures))
    c.dispatch.ensures.handles
