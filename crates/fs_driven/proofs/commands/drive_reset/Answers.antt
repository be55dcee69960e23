use Rattle.std.proofs.Common.{◌<◌, ◌∙◌, Some, ap, get_or, length, rules}
use Rattle.fs_chain.specs.declared.queue.QueueState.{QueueState}
use Rattle.fs_driven.proofs.Lists.{got}
use Rattle.fs_driven.proofs.Resets.{reset_at}
use Rattle.fs_driven.proofs.commands.drive_reset.Goals as goal

pub returns-then-number-queues : goal.returns-then-number-queues
returns-then-number-queues c =
    let q = c.index-queues-number.result in
    let less : c.args.number < length c.args.queues.now = search rules in
    let queue : QueueState = get_or c.args.queues.now c.args.number q in
    record {
      step = reset_at c.args.on.now c.args.handles.now c.args.queues.now c.args.number queue c.reset.new.queue
          c.args.layout c.args.position c.reset.result
          (got c.args.queues.now c.args.number q less c.index-queues-number.is
          ∙ ap (λ (x : QueueState). Some x) c.index-queues-number.is) c.reset.ensures.step;
    }
