use Rattle.std.proofs.Common.{◌≡◌, ◌<◌, ℕ, false, get_or, length, rules, subst, sym}
use Rattle.fs_driven.specs.Events.{DrivesOne, is_of_queue}
use Rattle.fs_chain.specs.declared.chain_handle.ChainHandle.{ChainHandle}
use Rattle.fs_chain.specs.declared.queue.QueueState.{QueueState}
use Rattle.fs_driven.proofs.Lists.{at_place, got, number_at}
use Rattle.fs_driven.proofs.commands.drive.Goals as goal

pub returns-then-number-queues : goal.returns-then-number-queues
returns-then-number-queues c =
    let number : ℕ = get_or c.args.on.now c.args.k 0 in
    let handle : ChainHandle = c.index-handles-k.result in
    let queue : QueueState = c.index-queues-number.result in
    let less : c.args.k < length c.args.handles.now = search rules in
    let has_number : c.args.k < length c.args.on.now = search rules in
    let has_queue : number < length c.args.queues.now = search rules in
    let mine : is_of_queue c.args.command.now ≡ false = search rules in
    let one : DrivesOne c.args.page_size handle c.drive_one.new.handle queue c.drive_one.new.queue c.args.command.now
    c.drive_one.result =
    subst
    (λ (w : ChainHandle). DrivesOne c.args.page_size w c.drive_one.new.handle queue c.drive_one.new.queue
    c.args.command.now c.drive_one.result)
    (sym c.index-handles-k.is)
    (subst
    (λ (q : QueueState). DrivesOne c.args.page_size (get_or c.args.handles.now c.args.k handle) c.drive_one.new.handle q
    c.drive_one.new.queue c.args.command.now c.drive_one.result)
    (sym c.index-queues-number.is) c.drive_one.ensures.step) in
    record {
      step = at_place c.args.on.now c.args.page_size c.args.handles.now c.args.k handle c.drive_one.new.handle
          c.args.queues.now number queue c.drive_one.new.queue c.args.command.now c.drive_one.result
          (got c.args.handles.now c.args.k handle less c.index-handles-k.is)
          (got c.args.on.now c.args.k number has_number (number_at c.args.on.now c.args.k has_number))
          (got c.args.queues.now number queue has_queue c.index-queues-number.is) mine one;
    }
