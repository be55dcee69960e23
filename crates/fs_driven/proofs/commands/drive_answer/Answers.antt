use Rattle.fs_driven.proofs.Answering.{answer_result}
use Rattle.fs_driven.proofs.commands.drive_answer.Goals as goal

pub returns : goal.returns
returns c =
    let e = c.answer.ensures in
    record {
      step = answer_result c.args.handle.now c.answer.new.self c.args.queue.now c.args.ticket c.args.answer c.answer.result
          e.given e.mine e.taken e.refused e.same e.page_size e.stays e.step;
    }
