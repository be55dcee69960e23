use Rattle.std.proofs.Common.{rules, refl}
use Rattle.server_meanings.specs.Serving.{setting}
use Rattle.server_meanings.proofs.Rows.{silent_returned}
use Rattle.fuse_fs.specs.Calls.{Forget, Done}
use Rattle.server_meanings.proofs.Serve.{handles_one}
use Rattle.virtiofsd_fuse.proofs.server.Server.perform_record.Goals as goal

pub returns-in-Getattr-clause-handles : goal.returns-in-Getattr-clause-handles
returns-in-Getattr-clause-handles g c = rw c.in-Getattr.is (
    handles_one g.F.FileSystemBase.may _ _ _ _ _ _ _ _ _ _ refl (search rules) (search rules) refl refl c.reply_answer.ensures.sent)

pub returns-in-Setattr-clause-handles : goal.returns-in-Setattr-clause-handles
returns-in-Setattr-clause-handles g c = rw c.in-Setattr.is (
    handles_one g.F.FileSystemBase.may _ _ _ _ _ _ _ _ _ _ refl (search rules) (search rules) refl refl
    c.reply_answer-in-Setattr.ensures.sent)

pub returns-in-Access-clause-handles : goal.returns-in-Access-clause-handles
returns-in-Access-clause-handles g c = rw c.in-Access.is (
    handles_one g.F.FileSystemBase.may _ _ _ _ _ _ _ _ _ _ refl (search rules) (search rules) refl refl
    c.reply_answer-in-Access.ensures.sent)

pub returns-in-Listxattr-clause-handles : goal.returns-in-Listxattr-clause-handles
returns-in-Listxattr-clause-handles g c = rw c.in-Listxattr.is (
    handles_one g.F.FileSystemBase.may _ _ _ _ _ _ _ _ _ _ refl (search rules) (search rules) refl refl
    c.reply_answer-in-Listxattr.ensures.sent)

pub returns-in-Open-clause-handles : goal.returns-in-Open-clause-handles
returns-in-Open-clause-handles g c = rw c.in-Open.is (
    handles_one g.F.FileSystemBase.may _ _ _ _ _ _ _ _ _ _ refl (search rules) (search rules) refl refl c.reply_answer-in-Open.ensures.sent)

pub returns-in-Opendir-clause-handles : goal.returns-in-Opendir-clause-handles
returns-in-Opendir-clause-handles g c = rw c.in-Opendir.is (
    handles_one g.F.FileSystemBase.may _ _ _ _ _ _ _ _ _ _ refl (search rules) (search rules) refl refl
    c.reply_answer-in-Opendir.ensures.sent)

pub returns-in-Forget-clause-handles : goal.returns-in-Forget-clause-handles
returns-in-Forget-clause-handles g c = rw c.in-Forget.is (
    handles_one g.F.FileSystemBase.may (setting c.args.self.now.page_size c.args.self.now.options.0 c.args.w.now.free)
    _ c.args.unique (Forget c.in-Forget.context c.in-Forget.node c.in-Forget.count) Done _ _ _ _ _ refl refl (search rules) refl refl
    (silent_returned c.args.w.now.free _ _ c.silence.ensures c.requires.fresh))
