use Rattle.std.proofs.Common.{◌≡◌, Ok, ◌+◌, ◌-◌, length, subst, refl, sym, ap, ◌∙◌, arith}
use Rattle.fuse_fs.specs.Answers.{data_answer}
use Rattle.server_calls.specs.Requests.{read_call}
use Rattle.server_meanings.specs.Serving.{setting}
use Rattle.server_meanings.proofs.Serve.{handles_one}
use Rattle.server_meanings.proofs.Rows.{moved_all, read_suits, read_returned_apart}
use Rattle.virtiofsd_fuse.proofs.server.Server.read_into.Goals as goal

pub returns-clause-handles : goal.returns-clause-handles
returns-clause-handles g c =
    let h = c.make_read_call-answer.ensures.read in
    let head = c.args.request.now.header in
    let asked = c.args.request.now.«record» in
    let answer = c.make_read_call-answer.result in
    let free = g.W.ZeroCopyWriter.room c.args.writer.now in
    let left : 16 + free - 16 ≡ free = omega arith in
    let none = h.5 c.requires.whole in
    let long : c.moved-len.result ≡ length h.0 = c.moved-len.ensures ∙ moved_all answer h.0 h.3 none in (
      h.0,
      h.1,
      h.2,
      ap (λ n. 16 + n) long,
      handles_one g.F.FileSystemBase.may (setting c.args.self.now.page_size c.args.self.now.options.0 (16 + free)) _ head.unique
          (read_call head (16 + free - 16) asked) (data_answer answer h.0) _ _ (Ok (16 + c.moved-len.result)) _ _
          refl
          (read_suits head (16 + free - 16) _ asked answer h.0 (left ∙ h.2) c.make_read_call-answer.ensures.errno)
          (subst (λ r. g.F.FileSystemBase.may c.args.self.now.fs (read_call head r asked) (data_answer answer h.0)
          c.make_read_call-answer.new.fs) (sym left) h.4)
          refl
          refl
          (read_returned_apart (16 + free) head.unique head (16 + free - 16) asked answer _ h.0 (16 + c.moved-len.result)
          c.data_header.ensures
          h.3 none (omega (arith, h.2))),
    )
