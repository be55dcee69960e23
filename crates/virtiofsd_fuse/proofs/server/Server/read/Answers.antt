use Rattle.std.proofs.Common.{refl}
use Rattle.server_meanings.specs.Serving.{setting}
use Rattle.server_meanings.proofs.Serve.{handles_same, handles_refusal}
use Rattle.virtiofsd_fuse.proofs.server.Server.read.Goals as goal

pub read_data-requires-clause-enough : goal.read_data-requires-clause-enough
read_data-requires-clause-enough g c =
    (rw c.available_bytes-room.ensures.free at (c.in-Ok.ensures c.args.head.now c.args.self.now.options.0)).1

pub returns-in-Ok-clause-handles : goal.returns-in-Ok-clause-handles
returns-in-Ok-clause-handles g c =
    handles_same g.F.FileSystemBase.may _ _ _ _ _ _ _ _
    (rw c.available_bytes-room.ensures.free at (c.in-Ok.ensures c.args.head.now c.args.self.now.options.0)).0 c.read_data.ensures.handles

pub returns-in-Err-clause-handles : goal.returns-in-Err-clause-handles
returns-in-Err-clause-handles g c =
    let given = rw c.available_bytes-room.ensures.free at (c.in-Err.ensures c.args.head.now c.args.self.now.options.0) in
    handles_refusal g.F.FileSystemBase.may (setting c.args.self.now.page_size c.args.self.now.options.0 c.args.w.now.free) _ _ _ _
    (λ other. given.0)

pub returns-in-Err-clause-rest : goal.returns-in-Err-clause-rest
returns-in-Err-clause-rest g c = (refl, λ none. (c.in-Err.ensures c.args.head.now c.args.self.now.options.0).1, refl)
