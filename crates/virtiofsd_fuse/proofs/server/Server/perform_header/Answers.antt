use Rattle.std.proofs.Common.{rules, refl}
use Rattle.server_meanings.specs.Serving.{setting}
use Rattle.server_meanings.proofs.Rows.{silent_returned}
use Rattle.fuse_fs.specs.Calls.{Destroy, Done}
use Rattle.server_meanings.proofs.Serve.{handles_one}
use Rattle.virtiofsd_fuse.proofs.server.Server.perform_header.Goals as goal

pub returns-in-Readlink-clause-handles : goal.returns-in-Readlink-clause-handles
returns-in-Readlink-clause-handles g c = rw c.in-Readlink.is (
    handles_one g.F.FileSystemBase.may _ _ _ _ _ _ _ _ _ _ refl (search rules) (search rules) refl refl c.reply_answer.ensures.sent)

pub returns-in-Statfs-clause-handles : goal.returns-in-Statfs-clause-handles
returns-in-Statfs-clause-handles g c = rw c.in-Statfs.is (
    handles_one g.F.FileSystemBase.may _ _ _ _ _ _ _ _ _ _ refl (search rules) (search rules) refl refl
    c.reply_answer-in-Statfs.ensures.sent)

pub returns-in-Syncfs-clause-handles : goal.returns-in-Syncfs-clause-handles
returns-in-Syncfs-clause-handles g c = rw c.in-Syncfs.is (
    handles_one g.F.FileSystemBase.may _ _ _ _ _ _ _ _ _ _ refl (search rules) (search rules) refl refl
    c.reply_answer-in-Syncfs.ensures.sent)

pub returns-in-Getlk-clause-handles : goal.returns-in-Getlk-clause-handles
returns-in-Getlk-clause-handles g c = rw c.in-Getlk.is (
    handles_one g.F.FileSystemBase.may _ _ _ _ _ _ _ _ _ _ refl (search rules) (search rules) refl refl
    c.reply_answer-in-Getlk.ensures.sent)

pub returns-in-Setlk-clause-handles : goal.returns-in-Setlk-clause-handles
returns-in-Setlk-clause-handles g c = rw c.in-Setlk.is (
    handles_one g.F.FileSystemBase.may _ _ _ _ _ _ _ _ _ _ refl (search rules) (search rules) refl refl
    c.reply_answer-in-Setlk.ensures.sent)

pub returns-in-Setlkw-clause-handles : goal.returns-in-Setlkw-clause-handles
returns-in-Setlkw-clause-handles g c = rw c.in-Setlkw.is (
    handles_one g.F.FileSystemBase.may _ _ _ _ _ _ _ _ _ _ refl (search rules) (search rules) refl refl
    c.reply_answer-in-Setlkw.ensures.sent)

pub returns-in-Bmap-clause-handles : goal.returns-in-Bmap-clause-handles
returns-in-Bmap-clause-handles g c = rw c.in-Bmap.is (
    handles_one g.F.FileSystemBase.may _ _ _ _ _ _ _ _ _ _ refl (search rules) (search rules) refl refl c.reply_answer-in-Bmap.ensures.sent)

pub returns-in-Ioctl-clause-handles : goal.returns-in-Ioctl-clause-handles
returns-in-Ioctl-clause-handles g c = rw c.in-Ioctl.is (
    handles_one g.F.FileSystemBase.may _ _ _ _ _ _ _ _ _ _ refl (search rules) (search rules) refl refl
    c.reply_answer-in-Ioctl.ensures.sent)

pub returns-in-Poll-clause-handles : goal.returns-in-Poll-clause-handles
returns-in-Poll-clause-handles g c = rw c.in-Poll.is (
    handles_one g.F.FileSystemBase.may _ _ _ _ _ _ _ _ _ _ refl (search rules) (search rules) refl refl c.reply_answer-in-Poll.ensures.sent)

pub returns-in-NotifyReply-clause-handles : goal.returns-in-NotifyReply-clause-handles
returns-in-NotifyReply-clause-handles g c = rw c.in-NotifyReply.is (
    handles_one g.F.FileSystemBase.may _ _ _ _ _ _ _ _ _ _ refl (search rules) (search rules) refl refl
    c.reply_answer-in-NotifyReply.ensures.sent)

pub returns-in-TmpFile-clause-handles : goal.returns-in-TmpFile-clause-handles
returns-in-TmpFile-clause-handles g c = rw c.in-TmpFile.is (
    handles_one g.F.FileSystemBase.may _ _ _ _ _ _ _ _ _ _ refl (search rules) (search rules) refl refl
    c.reply_answer-in-TmpFile.ensures.sent)

pub returns-in-Destroy-clause-handles : goal.returns-in-Destroy-clause-handles
returns-in-Destroy-clause-handles g c = rw c.in-Destroy.is (
    handles_one g.F.FileSystemBase.may (setting c.args.self.now.page_size c.args.self.now.options.0 c.args.w.now.free)
    _ c.args.unique Destroy Done _ _ _ _ _ refl refl c.destroy.ensures.may (search rules) refl
    (silent_returned c.args.w.now.free _ _ c.silence.ensures c.requires.fresh))
