use Rattle.std.proofs.Common.{refl}
use Rattle.fuse_fs.specs.Answers.{pair_numbers}
use Rattle.fuse_fs.specs.Calls.{Done}
use Rattle.server_meanings.specs.Grammar.{given}
use Rattle.server_calls.specs.Requests.{batch_forget_call}
use Rattle.server_meanings.specs.Serving.{setting}
use Rattle.server_meanings.proofs.Serve.{handles_one, handles_refusal}
use Rattle.server_meanings.proofs.Rows.{silent_returned}
use Rattle.server_meanings.proofs.ForgetLemmas.{forgets_ask, forgets_short}
use Rattle.virtiofsd_fuse.proofs.server.Server.forget_pairs.Goals as goal

pub returns-in-Ok-clause-handles : goal.returns-in-Ok-clause-handles
returns-in-Ok-clause-handles g c =
    handles_one g.F.FileSystemBase.may (setting c.args.self.now.page_size c.args.self.now.options.0 c.args.w.now.free) _
    c.args.head.now.unique
    (batch_forget_call c.args.head.now (pair_numbers g.F.Inode.FileNumber.number c.in-Ok.pairs.items)) Done _ _ _ _ _
    (forgets_ask c.args.count (given c.args.head.now c.args.self.now.options.0 c.args.w.now.free) _ _ _ c.requires.few c.in-Ok.ensures.ok)
    refl (rw c.from.ensures at c.batch_forget.ensures.may) refl refl
    (silent_returned c.args.w.now.free _ _ c.silence.ensures c.requires.fresh)

pub returns-in-Err-clause-handles : goal.returns-in-Err-clause-handles
returns-in-Err-clause-handles g c =
    handles_refusal g.F.FileSystemBase.may (setting c.args.self.now.page_size c.args.self.now.options.0 c.args.w.now.free) _ _ _ _
    (λ other. forgets_short c.args.count (given c.args.head.now c.args.self.now.options.0 c.args.w.now.free) _ _ c.requires.few
    (c.in-Err.ensures.err other))
