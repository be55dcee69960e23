use Rattle.std.proofs.Common.{◌<◌, length, rules}
use Rattle.fs_driven.proofs.Lists.{got}
use Rattle.fs_driven.proofs.Resets.{stored}
use Rattle.fs_driven.proofs.commands.drive_notify.Goals as goal

pub returns-then-number-queues : goal.returns-then-number-queues
returns-then-number-queues c =
    let q = c.index-queues-number.result in
    let less : c.args.number < length c.args.queues.now = search rules in
    record {
      step = stored c.args.queues.now c.args.number q c.args.wanted c.notification_store.result
          (got c.args.queues.now c.args.number q less c.index-queues-number.is) c.notification_store.ensures.store
          c.notification_store.ensures.step;
    }
