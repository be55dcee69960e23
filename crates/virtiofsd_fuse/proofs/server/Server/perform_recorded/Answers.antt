use Rattle.std.proofs.Common.{rules, refl, ap}
use Rattle.fuse_base.specs.Options.{FsOptions}
use Rattle.server_meanings.proofs.Serve.{handles_entry, handles_one}
use Rattle.virtiofsd_fuse.proofs.server.Server.perform_recorded.Goals as goal

pub returns-in-Link-clause-handles : goal.returns-in-Link-clause-handles
returns-in-Link-clause-handles g c = rw c.in-Link.is (
    handles_entry g.F.FileSystemBase.may _ _ _ _ _ _ _ _ _ _ _ _ refl (search rules) (search rules)
    (ap (λ (o : FsOptions). o.0) c.reply_entry.ensures.options) refl c.reply_entry.ensures.back c.reply_entry.ensures.sent)

pub returns-in-Rename-clause-handles : goal.returns-in-Rename-clause-handles
returns-in-Rename-clause-handles g c = rw c.in-Rename.is (
    handles_one g.F.FileSystemBase.may _ _ _ _ _ _ _ _ _ _ refl (search rules) (search rules) refl refl c.reply_answer.ensures.sent)

pub returns-in-Setxattr-clause-handles : goal.returns-in-Setxattr-clause-handles
returns-in-Setxattr-clause-handles g c = rw c.in-Setxattr.is (
    handles_one g.F.FileSystemBase.may _ _ _ _ _ _ _ _ _ _ refl (search rules) (search rules) refl refl
    c.reply_answer-in-Setxattr.ensures.sent)

pub returns-in-Getxattr-clause-handles : goal.returns-in-Getxattr-clause-handles
returns-in-Getxattr-clause-handles g c = rw c.in-Getxattr.is (
    handles_one g.F.FileSystemBase.may _ _ _ _ _ _ _ _ _ _ refl (search rules) (search rules) refl refl
    c.reply_answer-in-Getxattr.ensures.sent)
