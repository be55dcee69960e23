use Rattle.std.proofs.Common.{rules, refl, ap}
use Rattle.fuse_base.specs.Options.{FsOptions}
use Rattle.server_meanings.proofs.Serve.{handles_entry}
use Rattle.virtiofsd_fuse.proofs.server.Server.perform_made.Goals as goal

pub returns-in-Ok-clause-handles : goal.returns-in-Ok-clause-handles
returns-in-Ok-clause-handles g c = rw c.in-Symlink.is (
    handles_entry g.F.FileSystemBase.may _ _ _ _ _ _ _ _ _ _ _ _ refl (search rules) (search rules)
    (ap (λ (o : FsOptions). o.0) c.reply_entry.ensures.options) refl c.reply_entry.ensures.back c.reply_entry.ensures.sent)

pub returns-in-Ok-owned_extensions-clause-handles : goal.returns-in-Ok-owned_extensions-clause-handles
returns-in-Ok-owned_extensions-clause-handles g c = rw c.in-Mknod.is (
    handles_entry g.F.FileSystemBase.may _ _ _ _ _ _ _ _ _ _ _ _ refl (search rules) (search rules)
    (ap (λ (o : FsOptions). o.0) c.reply_entry-in-Ok-owned_extensions.ensures.options) refl
    c.reply_entry-in-Ok-owned_extensions.ensures.back c.reply_entry-in-Ok-owned_extensions.ensures.sent)

pub returns-in-Ok-owned_extensions-2-clause-handles : goal.returns-in-Ok-owned_extensions-2-clause-handles
returns-in-Ok-owned_extensions-2-clause-handles g c = rw c.in-Mkdir.is (
    handles_entry g.F.FileSystemBase.may _ _ _ _ _ _ _ _ _ _ _ _ refl (search rules) (search rules)
    (ap (λ (o : FsOptions). o.0) c.reply_entry-in-Ok-owned_extensions-2.ensures.options) refl
    c.reply_entry-in-Ok-owned_extensions-2.ensures.back c.reply_entry-in-Ok-owned_extensions-2.ensures.sent)

pub returns-in-Ok-owned_extensions-3-clause-handles : goal.returns-in-Ok-owned_extensions-3-clause-handles
returns-in-Ok-owned_extensions-3-clause-handles g c = rw c.in-Create.is (
    handles_entry g.F.FileSystemBase.may _ _ _ _ _ _ _ _ _ _ _ _ refl (search rules) (search rules)
    (ap (λ (o : FsOptions). o.0) c.reply_entry-in-Ok-owned_extensions-3.ensures.options) refl
    c.reply_entry-in-Ok-owned_extensions-3.ensures.back c.reply_entry-in-Ok-owned_extensions-3.ensures.sent)
