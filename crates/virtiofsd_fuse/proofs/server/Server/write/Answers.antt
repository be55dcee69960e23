use Rattle.std.proofs.Common.{refl}
use Rattle.fuse_fs.specs.Answers.{written_answer}
use Rattle.server_meanings.specs.Grammar.{given}
use Rattle.server_calls.specs.Requests.{write_call}
use Rattle.server_meanings.specs.Serving.{setting}
use Rattle.server_meanings.proofs.Serve.{handles_one, handles_refusal}
use Rattle.server_meanings.proofs.Rows.{write_asks, write_short, write_suits}
use Rattle.virtiofsd_fuse.proofs.server.Server.write.Goals as goal

pub returns-in-Ok-clause-handles : goal.returns-in-Ok-clause-handles
returns-in-Ok-clause-handles g c =
    handles_one g.F.FileSystemBase.may (setting c.args.self.now.page_size c.args.self.now.options.0 c.args.w.now.free) _
    c.args.head.now.unique
    (write_call c.args.head.now c.in-Ok.request c.read_record.new.r.left) (written_answer c.make_write_call-answer.result) _ _ _ _ _
    (write_asks (given c.args.head.now c.args.self.now.options.0 c.args.w.now.free) _ _ _ c.in-Ok.ensures.reads)
    (write_suits c.args.head.now c.in-Ok.request c.read_record.new.r.left c.make_write_call-answer.result
    c.make_write_call-answer.ensures.errno c.make_write_call-answer.ensures.count)
    c.make_write_call-answer.ensures.may
    refl
    refl
    c.reply_answer.ensures.sent

pub returns-in-Err-clause-handles : goal.returns-in-Err-clause-handles
returns-in-Err-clause-handles g c =
    handles_refusal g.F.FileSystemBase.may (setting c.args.self.now.page_size c.args.self.now.options.0 c.args.w.now.free) _ _ _ _
    (λ other. write_short (given c.args.head.now c.args.self.now.options.0 c.args.w.now.free) _ _ c.in-Err.ensures.reads)
