use Rattle.std.proofs.Common.{◌≡◌, Some, ap, length, vec_len, arith, ◌∙◌, slice_get}
use Rattle.fs_queue.specs.Queue.{Queue}
use Rattle.fs_queue.specs.ReturningView.{put_back}
use Rattle.std.proofs.lemmas.Option.{slice_get_read}
use Rattle.fs_device.proofs.StepLemmas.{Fixed, advanced_parts, gives_back_parts}
use Rattle.fs_device.proofs.device.Device.give_back.Goals as goal

pub returns-clause-returns : goal.returns-clause-returns
returns-clause-returns g c m has host =
    let queues = c.self.inside.queues.items in
    let below = rw (← c.self.view_is) at c.requires.there in
    let there = slice_get_read queues (vec_len c.self.inside.queues) c.args.queue _ c.self.inside.queues.ok.0
    (omega (arith, below, c.self.inside.queues.ok.0)) c.index_mut.ensures.value in
    let fixed : Fixed = record { limit = c.self.inside.limit; page_size = c.self.inside.server.page_size } in
    gives_back_parts fixed m _ queues c.args.queue c.index_mut.result.now c.give_back.new.self
    (c.self.inside.server.options.0, c.self.inside.server.fs)
    c.args.taken.now c.args.self.now c.args.reply.now c.give_back.result
    c.self.view_is there (λ fetched taken. c.give_back.ensures.stored m fetched host taken)
    (λ fetched taken. c.give_back.ensures.wanted m fetched host taken) c.give_back.ensures.queue has

pub returns-clause-queues : goal.returns-clause-queues
returns-clause-queues g c =
    let queues = c.self.inside.queues.items in
    let below = rw (← c.self.view_is) at c.requires.there in
    let there = slice_get_read queues (vec_len c.self.inside.queues) c.args.queue _ c.self.inside.queues.ok.0
    (omega (arith, below, c.self.inside.queues.ok.0)) c.index_mut.ensures.value in
    let fixed : Fixed = record { limit = c.self.inside.limit; page_size = c.self.inside.server.page_size } in
    advanced_parts fixed queues c.args.queue _ c.give_back.new.self (c.self.inside.server.options.0, c.self.inside.server.fs)
    c.args.self.now c.self.view_is there c.give_back.ensures.queue

pub returns-clause-puts : goal.returns-clause-puts
returns-clause-puts g c q at =
    let queues = c.self.inside.queues.items in
    let below = rw (← c.self.view_is) at c.requires.there in
    let there = slice_get_read queues (vec_len c.self.inside.queues) c.args.queue _ c.self.inside.queues.ok.0
    (omega (arith, below, c.self.inside.queues.ok.0)) c.index_mut.ensures.value in
    let found : slice_get queues c.args.queue ≡ Some q = rw (← c.self.view_is) at at in
    let same : c.index_mut.result.now ≡ q = cc in
    c.give_back.ensures.puts
    ∙ ap (λ (o : Queue). put_back (g.H.HostBlocks.host c.args.host.now) o c.args.taken.now c.args.reply.now (length c.args.reply.now)) same
