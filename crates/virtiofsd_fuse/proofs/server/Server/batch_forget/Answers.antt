use Rattle.std.proofs.Common.{refl}
use Rattle.server_meanings.specs.Serving.{setting}
use Rattle.server_meanings.proofs.Serve.{handles_same, handles_refusal, handles_reply}
use Rattle.virtiofsd_fuse.proofs.server.Server.batch_forget.Goals as goal

pub forget_pairs-requires-clause-few : goal.forget_pairs-requires-clause-few
forget_pairs-requires-clause-few g c = (c.in-Pairs.ensures.reads c.args.head.now c.args.self.now.options.0 c.args.w.now.free).1

pub returns-in-Pairs-clause-handles : goal.returns-in-Pairs-clause-handles
returns-in-Pairs-clause-handles g c =
    handles_same g.F.FileSystemBase.may _ _ _ _ _ _ _ _
    (c.in-Pairs.ensures.reads c.args.head.now c.args.self.now.options.0 c.args.w.now.free).0
    c.forget_pairs.ensures.handles

pub returns-in-Pairs-clause-rest : goal.returns-in-Pairs-clause-rest
returns-in-Pairs-clause-rest g c =
    let given = (c.in-Pairs.ensures.reads c.args.head.now c.args.self.now.options.0 c.args.w.now.free).0 in
    let rest = c.forget_pairs.ensures.rest in
    (rest.0, λ none. rest.1 (rw given at none), rest.2)

pub returns-in-Error-clause-handles : goal.returns-in-Error-clause-handles
returns-in-Error-clause-handles g c =
    handles_reply g.F.FileSystemBase.may (setting c.args.self.now.page_size c.args.self.now.options.0 c.args.w.now.free) _ _ _ _ _
    (c.in-Error.ensures.reads c.args.head.now c.args.self.now.options.0 c.args.w.now.free) c.reply_error.ensures.sent

pub returns-clause-handles : goal.returns-clause-handles
returns-clause-handles g c =
    handles_refusal g.F.FileSystemBase.may (setting c.args.self.now.page_size c.args.self.now.options.0 c.args.w.now.free) _ _ _ _
    (λ other. (c.in-Fault.ensures.reads c.args.head.now c.args.self.now.options.0 c.args.w.now.free).0)

pub returns-clause-rest : goal.returns-clause-rest
returns-clause-rest g c = (refl, λ none. (c.in-Fault.ensures.reads c.args.head.now c.args.self.now.options.0 c.args.w.now.free).1, refl)
