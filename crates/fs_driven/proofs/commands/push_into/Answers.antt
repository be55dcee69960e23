use Rattle.std.proofs.Common.{◌≡◌, length, rules}
use Rattle.fs_driven.proofs.Ends.{push_result}
use Rattle.fs_driven.proofs.commands.push_into.Goals as goal

pub returns : goal.returns
returns c =
    let e = c.push.ensures in
    let len : length c.push.new.front ≡ length c.args.front.now = search rules in
    record {
      step = push_result c.args.handle.now c.push.new.self c.args.queue.now c.push.new.queue c.args.front.now c.push.new.front
          c.push.result len e.error e.ok e.same e.pushing e.queue e.stores e.front e.step;
    }
