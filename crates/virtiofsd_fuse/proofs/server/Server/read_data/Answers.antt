use Rattle.std.proofs.Common.{◌≡◌, Ok, ◌+◌, ◌-◌, ◌≤◌, length, refl, sym, ◌∙◌, arith}
use Rattle.fuse_fs.specs.Answers.{data_answer}
use Rattle.server_calls.specs.Requests.{read_call}
use Rattle.server_meanings.specs.Serving.{setting}
use Rattle.server_meanings.proofs.Serve.{handles_one}
use Rattle.server_meanings.proofs.Rows.{read_suits, read_returned}
use Rattle.virtiofsd_fuse.proofs.server.Server.read_data.Goals as goal

pub returns-clause-handles : goal.returns-clause-handles
returns-clause-handles g c =
    let h = c.make_read_call-answer.ensures.read in
    let enough : 16 ≤ c.args.w.now.free = c.requires.enough in
    let front : length c.replace-writer.result.written ≡ 16 =
    rw (c.replace-writer.ensures.value, c.append.ensures.written, c.requires.fresh) refl in
    let place = c.append.ensures.free in
    let left : c.replace-writer.result.free ≡ c.args.w.now.free - 16 = rw c.replace-writer.ensures.value (omega (arith, place)) in
    let behind = h.2 in
    let fits : 16 + length h.0 ≤ c.args.w.now.free = omega (arith, behind, left, enough) in
    handles_one g.F.FileSystemBase.may (setting c.args.self.now.page_size c.args.self.now.options.0 c.args.w.now.free) _
    c.args.head.now.unique
    (read_call c.args.head.now (c.args.w.now.free - 16) c.args.request.now) (data_answer c.make_read_call-answer.result h.0) _ _
    (Ok c.reply_data.result) _ _
    refl
    (read_suits c.args.head.now _ _ c.args.request.now c.make_read_call-answer.result h.0 (sym left ∙ behind)
    c.make_read_call-answer.ensures.errno)
    (rw left at h.4)
    refl
    refl
    (read_returned c.args.w.now.free c.args.head.now.unique c.args.head.now
    (c.args.w.now.free - 16) c.args.request.now c.make_read_call-answer.result _ _ _ h.0 c.reply_data.result front h.1 fits
    c.reply_data.ensures.reply)
