use Rattle.std.proofs.Common.{refl}
use Rattle.fuse_fs.specs.Calls.{Wants, Failed}
use Rattle.server_meanings.specs.Serving.{setting}
use Rattle.server_meanings.proofs.Serve.{handles_start}
use Rattle.virtiofsd_fuse.proofs.server.Server.start.Goals as goal

pub returns-in-Ok-clause-handles : goal.returns-in-Ok-clause-handles
returns-in-Ok-clause-handles g c =
    handles_start g.F.FileSystemBase.may (setting c.args.self.now.page_size c.args.self.now.options.0 c.args.w.now.free) _ _ _ _
    (Wants c.in-Ok.wanted.0) _ _ _ _ _
    refl c.in-Ok.ensures.suits c.in-Ok.ensures.may c.agree-options.ensures.options
    (rw (c.reply.ensures, c.start_bytes-bytes.ensures, c.agree-options.ensures.options) at c.reply_front.ensures.sent)

pub returns-in-Err-clause-handles : goal.returns-in-Err-clause-handles
returns-in-Err-clause-handles g c =
    handles_start g.F.FileSystemBase.may (setting c.args.self.now.page_size c.args.self.now.options.0 c.args.w.now.free) _ _ _ _
    (Failed c.in-Err.error) _ _ _ _ _
    refl c.in-Err.ensures.suits c.in-Err.ensures.may refl c.reply_error.ensures.sent
