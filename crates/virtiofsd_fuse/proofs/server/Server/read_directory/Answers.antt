use Rattle.std.proofs.Common.{refl}
use Rattle.server_meanings.specs.Serving.{setting}
use Rattle.server_meanings.proofs.Serve.{handles_same, handles_refusal, handles_reply}
use Rattle.virtiofsd_fuse.proofs.server.Server.read_directory.Goals as goal

pub list-requires-clause-enough : goal.list-requires-clause-enough
list-requires-clause-enough g c =
    (rw c.available_bytes-room.ensures.free at (c.in-List.ensures c.args.with_nodes c.args.head.now c.args.self.now.options.0)).1

pub returns-in-List-clause-handles : goal.returns-in-List-clause-handles
returns-in-List-clause-handles g c =
    handles_same g.F.FileSystemBase.may _ _ _ _ _ _ _ _
    (rw c.available_bytes-room.ensures.free at (c.in-List.ensures c.args.with_nodes c.args.head.now c.args.self.now.options.0)).0
    c.list.ensures.handles

pub returns-in-Error-clause-handles : goal.returns-in-Error-clause-handles
returns-in-Error-clause-handles g c =
    handles_reply g.F.FileSystemBase.may (setting c.args.self.now.page_size c.args.self.now.options.0 c.args.w.now.free) _ _ _ _ _
    (rw c.available_bytes-room.ensures.free at (c.in-Error.ensures c.args.with_nodes c.args.head.now c.args.self.now.options.0))
    c.reply_error.ensures.sent

pub returns-in-Fault-clause-handles : goal.returns-in-Fault-clause-handles
returns-in-Fault-clause-handles g c =
    let given =
    rw c.available_bytes-room.ensures.free at (c.in-Fault.ensures c.args.with_nodes c.args.head.now c.args.self.now.options.0) in
    handles_refusal g.F.FileSystemBase.may (setting c.args.self.now.page_size c.args.self.now.options.0 c.args.w.now.free) _ _ _ _
    (λ other. given.0)

pub returns-in-Fault-clause-rest : goal.returns-in-Fault-clause-rest
returns-in-Fault-clause-rest g c = (refl, λ none. (c.in-Fault.ensures c.args.with_nodes c.args.head.now c.args.self.now.options.0).1, refl)
