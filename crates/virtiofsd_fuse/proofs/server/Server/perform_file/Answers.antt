use Rattle.std.proofs.Common.{rules, refl}
use Rattle.server_meanings.proofs.Serve.{handles_one}
use Rattle.virtiofsd_fuse.proofs.server.Server.perform_file.Goals as goal

pub returns-in-Release-clause-handles : goal.returns-in-Release-clause-handles
returns-in-Release-clause-handles g c = rw c.in-Release.is (
    handles_one g.F.FileSystemBase.may _ _ _ _ _ _ _ _ _ _ refl (search rules) (search rules) refl refl c.reply_answer.ensures.sent)

pub returns-in-Releasedir-clause-handles : goal.returns-in-Releasedir-clause-handles
returns-in-Releasedir-clause-handles g c = rw c.in-Releasedir.is (
    handles_one g.F.FileSystemBase.may _ _ _ _ _ _ _ _ _ _ refl (search rules) (search rules) refl refl
    c.reply_answer-in-Releasedir.ensures.sent)

pub returns-in-Fsync-clause-handles : goal.returns-in-Fsync-clause-handles
returns-in-Fsync-clause-handles g c = rw c.in-Fsync.is (
    handles_one g.F.FileSystemBase.may _ _ _ _ _ _ _ _ _ _ refl (search rules) (search rules) refl refl
    c.reply_answer-in-Fsync.ensures.sent)

pub returns-in-Fsyncdir-clause-handles : goal.returns-in-Fsyncdir-clause-handles
returns-in-Fsyncdir-clause-handles g c = rw c.in-Fsyncdir.is (
    handles_one g.F.FileSystemBase.may _ _ _ _ _ _ _ _ _ _ refl (search rules) (search rules) refl refl
    c.reply_answer-in-Fsyncdir.ensures.sent)

pub returns-in-Flush-clause-handles : goal.returns-in-Flush-clause-handles
returns-in-Flush-clause-handles g c = rw c.in-Flush.is (
    handles_one g.F.FileSystemBase.may _ _ _ _ _ _ _ _ _ _ refl (search rules) (search rules) refl refl
    c.reply_answer-in-Flush.ensures.sent)

pub returns-in-Fallocate-clause-handles : goal.returns-in-Fallocate-clause-handles
returns-in-Fallocate-clause-handles g c = rw c.in-Fallocate.is (
    handles_one g.F.FileSystemBase.may _ _ _ _ _ _ _ _ _ _ refl (search rules) (search rules) refl refl
    c.reply_answer-in-Fallocate.ensures.sent)

pub returns-in-Lseek-clause-handles : goal.returns-in-Lseek-clause-handles
returns-in-Lseek-clause-handles g c = rw c.in-Lseek.is (
    handles_one g.F.FileSystemBase.may _ _ _ _ _ _ _ _ _ _ refl (search rules) (search rules) refl refl
    c.reply_answer-in-Lseek.ensures.sent)

pub returns-in-CopyFileRange-clause-handles : goal.returns-in-CopyFileRange-clause-handles
returns-in-CopyFileRange-clause-handles g c = rw c.in-CopyFileRange.is (
    handles_one g.F.FileSystemBase.may _ _ _ _ _ _ _ _ _ _ refl (search rules) (search rules) refl refl
    c.reply_answer-in-CopyFileRange.ensures.sent)
