use Rattle.std.proofs.Common.{rules, refl, ap}
use Rattle.fuse_base.specs.Options.{FsOptions}
use Rattle.server_meanings.proofs.Serve.{handles_entry, handles_one}
use Rattle.virtiofsd_fuse.proofs.server.Server.perform_named.Goals as goal

pub returns-in-Lookup-clause-handles : goal.returns-in-Lookup-clause-handles
returns-in-Lookup-clause-handles g c = rw c.in-Lookup.is (
    handles_entry g.F.FileSystemBase.may _ _ _ _ _ _ _ _ _ _ _ _ refl (search rules) (search rules)
    (ap (λ (o : FsOptions). o.0) c.reply_entry.ensures.options) refl c.reply_entry.ensures.back c.reply_entry.ensures.sent)

pub returns-in-Unlink-clause-handles : goal.returns-in-Unlink-clause-handles
returns-in-Unlink-clause-handles g c = rw c.in-Unlink.is (
    handles_one g.F.FileSystemBase.may _ _ _ _ _ _ _ _ _ _ refl (search rules) (search rules) refl refl c.reply_answer.ensures.sent)

pub returns-in-Rmdir-clause-handles : goal.returns-in-Rmdir-clause-handles
returns-in-Rmdir-clause-handles g c = rw c.in-Rmdir.is (
    handles_one g.F.FileSystemBase.may _ _ _ _ _ _ _ _ _ _ refl (search rules) (search rules) refl refl
    c.reply_answer-in-Rmdir.ensures.sent)

pub returns-in-Removexattr-clause-handles : goal.returns-in-Removexattr-clause-handles
returns-in-Removexattr-clause-handles g c = rw c.in-Removexattr.is (
    handles_one g.F.FileSystemBase.may _ _ _ _ _ _ _ _ _ _ refl (search rules) (search rules) refl refl
    c.reply_answer-in-Removexattr.ensures.sent)
