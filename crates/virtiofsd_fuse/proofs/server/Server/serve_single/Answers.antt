use Rattle.std.proofs.Common.{refl}
use Rattle.server_meanings.specs.Serving.{setting}
use Rattle.server_meanings.proofs.Serve.{handles_asked, handles_refusal, handles_reply, handles_silence}
use Rattle.virtiofsd_fuse.proofs.server.Server.serve_single.Goals as goal

pub perform-requires-clause-plain : goal.perform-requires-clause-plain
perform-requires-clause-plain g c = (c.in-Call.ensures.reads c.args.w.now.free).1.0

pub returns-in-Call-clause-handles : goal.returns-in-Call-clause-handles
returns-in-Call-clause-handles g c =
    handles_asked g.F.FileSystemBase.may _ _ _ _ _ _ _ _ _ _ (c.in-Call.ensures.reads c.args.w.now.free).0 refl c.perform.ensures.handles

pub returns-in-Call-clause-rest : goal.returns-in-Call-clause-rest
returns-in-Call-clause-rest g c =
    let rest = c.perform.ensures.rest in (rest.0, λ none. rest.1 ((c.in-Call.ensures.reads c.args.w.now.free).2 none), rest.2)

pub returns-in-Error-clause-handles : goal.returns-in-Error-clause-handles
returns-in-Error-clause-handles g c =
    handles_reply g.F.FileSystemBase.may (setting c.args.self.now.page_size c.args.self.now.options.0 c.args.w.now.free) _ _ _ _ _
    (c.in-Error.ensures.reads c.args.w.now.free) c.reply_error.ensures.sent

pub returns-in-Silence-clause-handles : goal.returns-in-Silence-clause-handles
returns-in-Silence-clause-handles g c =
    handles_silence g.F.FileSystemBase.may (setting c.args.self.now.page_size c.args.self.now.options.0 c.args.w.now.free) _ _ _ _
    (c.in-Silence.ensures.reads c.args.w.now.free) c.silence.ensures c.requires.fresh

pub returns-in-Fault-clause-handles : goal.returns-in-Fault-clause-handles
returns-in-Fault-clause-handles g c =
    handles_refusal g.F.FileSystemBase.may (setting c.args.self.now.page_size c.args.self.now.options.0 c.args.w.now.free) _ _ _ _
    (c.in-Fault.ensures.reads c.args.w.now.free).0

pub returns-in-Fault-clause-rest : goal.returns-in-Fault-clause-rest
returns-in-Fault-clause-rest g c = (refl, (c.in-Fault.ensures.reads c.args.w.now.free).1, refl)
