use Rattle.std.proofs.Common.{refl}
use Rattle.server_meanings.specs.Serving.{setting}
use Rattle.server_meanings.proofs.Serve.{handles_same, handles_refusal, handles_reply}
use Rattle.virtiofsd_fuse.proofs.server.Server.init.Goals as goal

pub start-requires-clause-known : goal.start-requires-clause-known
start-requires-clause-known g c = (c.in-Start.ensures c.args.head.now c.args.self.now.options.0 c.args.w.now.free).1

pub returns-in-Start-clause-handles : goal.returns-in-Start-clause-handles
returns-in-Start-clause-handles g c =
    handles_same g.F.FileSystemBase.may _ _ _ _ _ _ _ _ (c.in-Start.ensures c.args.head.now c.args.self.now.options.0 c.args.w.now.free).0
    c.start.ensures.handles

pub returns-in-Versions-clause-handles : goal.returns-in-Versions-clause-handles
returns-in-Versions-clause-handles g c =
    handles_reply g.F.FileSystemBase.may (setting c.args.self.now.page_size c.args.self.now.options.0 c.args.w.now.free) _ _ _ _ _
    (c.in-Versions.ensures c.args.head.now c.args.self.now.options.0 c.args.w.now.free)
    (rw (c.reply.ensures, c.versions.ensures) at c.reply_front.ensures.sent)

pub returns-in-Error-clause-handles : goal.returns-in-Error-clause-handles
returns-in-Error-clause-handles g c =
    handles_reply g.F.FileSystemBase.may (setting c.args.self.now.page_size c.args.self.now.options.0 c.args.w.now.free) _ _ _ _ _
    (c.in-Error.ensures c.args.head.now c.args.self.now.options.0 c.args.w.now.free) c.reply_error.ensures.sent

pub returns-in-Fault-clause-handles : goal.returns-in-Fault-clause-handles
returns-in-Fault-clause-handles g c =
    handles_refusal g.F.FileSystemBase.may (setting c.args.self.now.page_size c.args.self.now.options.0 c.args.w.now.free) _ _ _ _
    (λ other. (c.in-Fault.ensures c.args.head.now c.args.self.now.options.0 c.args.w.now.free).0)

pub returns-in-Fault-clause-rest : goal.returns-in-Fault-clause-rest
returns-in-Fault-clause-rest g c = (refl, λ none. (c.in-Fault.ensures c.args.head.now c.args.self.now.options.0 c.args.w.now.free).1, refl)
