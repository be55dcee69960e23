use Rattle.std.proofs.Common.{refl}
use Rattle.server_meanings.specs.Serving.{setting}
use Rattle.server_meanings.proofs.Serve.{handles_fault, handles_fits}
use Rattle.server_meanings.proofs.Rows.{meaning_head, meaning_fault}
use Rattle.server_meanings.proofs.Wanted.{takes_none}
use Rattle.virtiofsd_fuse.proofs.server.Server.handle_message.Goals as goal

pub returns-in-Ok-clause-handles : goal.returns-in-Ok-clause-handles
returns-in-Ok-clause-handles g c =
    rw (meaning_head c.args.self.now.options.0 c.args.w.now.free c.args.r.left _ _ c.in-Ok.ensures.reads) c.serve.ensures.handles

pub returns-in-Ok-clause-fits : goal.returns-in-Ok-clause-fits
returns-in-Ok-clause-fits g c = handles_fits g.F.FileSystemBase.may _ _ _ _ _ _ _ c.serve.ensures.handles

pub returns-in-Err-clause-handles : goal.returns-in-Err-clause-handles
returns-in-Err-clause-handles g c =
    rw c.in-Err.ensures.fault
    (handles_fault g.F.FileSystemBase.may (setting c.args.self.now.page_size c.args.self.now.options.0 c.args.w.now.free) _ _ _ _
    (meaning_fault _ _ _ _ c.in-Err.ensures.reads) refl)

pub returns-in-Ok-clause-memory : goal.returns-in-Ok-clause-memory
returns-in-Ok-clause-memory g c = λ none.
    c.serve.ensures.rest.1 (takes_none _ _ c.args.r _ _ _ c.in-Ok.ensures.reads c.in-Ok.ensures.segments none)
