use Rattle.fs_driven.proofs.Decoding.{decode_result}
use Rattle.fs_driven.proofs.commands.drive_decode.Goals as goal

pub returns : goal.returns
returns c =
    let e = c.decode.ensures in
    record {
      step = decode_result c.args.handle.now c.decode.new.self c.args.queue.now c.args.session c.args.request c.decode.result
          e.error e.ok e.reports e.places e.wanted e.same e.stays e.session e.step;
    }
