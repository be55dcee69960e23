use Rattle.std.proofs.Common.{◌≡◌, Err, [], ap, length, refl, rules}
use Rattle.std.proofs.lemmas.Option.{slice_get_read}
use Rattle.vm_memory.specs.Memory.{Memory}
use Rattle.fs_queue.specs.declared.fault.QueueError.TheVariants as stop
use Rattle.plain_machine.specs.declared.error.DeviceError.TheVariants as device
use Rattle.fs_device.specs.DeviceView.{exchange_of, server_state}
use Rattle.plain_machine.specs.Step.{State}
use Rattle.fs_device.proofs.StepLemmas.{Fixed, exchanges, lacks_taken}
use Rattle.fs_device.proofs.device.Device.process_one.Goals as goal

pub returns-then-not-waits-clause-step : goal.returns-then-not-waits-clause-step
returns-then-not-waits-clause-step g c =
    let server = c.self.inside.server in
    ([], rw (← c.self.view_is) (rw c.if-not-waits.true at c.in_ok-waits.ensures.takes server.options.0 server.page_size server.fs))

pub returns-in_err-request-clause-step : goal.returns-in_err-request-clause-step
returns-in_err-request-clause-step g c =
    let server = c.self.inside.server in
    let taken = rw c.if-not-waits.false at c.in_ok-waits.ensures.takes server.options.0 server.page_size server.fs in
    let failed : c.from_residual-in_err-request.result ≡ Err (device.Queue stop.OutOfMemory) = search rules in
    rw failed ([], rw (← c.self.view_is) (lacks_taken g.F.FileSystemBase.may _ _ c.args.queue c.take_from.new.taken taken.0 taken.1))

pub returns-in_err-exchange-clause-step : goal.returns-in_err-exchange-clause-step
returns-in_err-exchange-clause-step g c =
    let server = c.self.inside.server in
    let taken = rw c.if-not-waits.false at c.in_ok-waits.ensures.takes server.options.0 server.page_size server.fs in
    let failed : c.from_residual-in_err-exchange.result ≡ Err (device.Queue stop.OutOfMemory) = search rules in
    let still = c.in_err-exchange.ensures.err in
    rw failed (
      [],
      rw (← c.self.view_is, still.0, still.1, c.serve.ensures.page_size)
          (lacks_taken g.F.FileSystemBase.may _ _ c.args.queue c.take_from.new.taken taken.0 taken.1),
    )

pub returns-clause-step : goal.returns-clause-step
returns-clause-step g c =
    let m = g.M.GuestMemory.memory c.args.mem.now (g.H.HostBlocks.host c.args.host.now) in
    let host : m.host ≡ (g.H.HostBlocks.host c.args.host.now) = ap (λ (x : Memory). x.host)
    (g.met.M.GuestMemory.over c.args.mem.now (g.H.HostBlocks.host c.args.host.now) (g.H.HostBlocks.host c.args.host.now)) in
    let over = g.met.M.GuestMemory.over c.args.mem.now (g.H.HostBlocks.host c.args.host.now)
    (g.H.HostBlocks.host c.give_back-notify.new.host) in
    let server = c.self.inside.server in
    let fixed : Fixed = record { limit = c.self.inside.limit; page_size = server.page_size } in
    let taken = rw c.if-not-waits.false at c.in_ok-waits.ensures.takes server.options.0 server.page_size server.fs in
    let has = taken.0 in
    let between = c.take_from.new.queues.items in
    let kept : between ≡ c.self.inside.queues.items = ap (λ (s : State g.row.F.Denot). s.queues) taken.1 in
    let there = rw c.if-not-waits.false at c.in_ok-waits.ensures.there in
    let at = slice_get_read between (length between) c.args.queue _ refl there c.index_mut.ensures.value in
    rw (← c.self.view_is, over, c.serve.ensures.page_size)
    (exchanges g.F.FileSystemBase.may fixed m _ c.self.inside.queues.items between c.args.queue
    c.index_mut.result.now c.give_back-notify.new.self
    (server.options.0, server.fs) (server_state c.serve.new.server) c.take_from.new.taken has (exchange_of c.in_ok-exchange.exchange)
    c.give_back-notify.result kept at
    (c.in_ok-exchange.ensures.exchange m has.queue has.fetched has.taken (c.in_ok-request.ensures.bytes m has.fetched host has.taken.chain))
    (λ taken. rw c.deref.ensures.value at c.give_back-notify.ensures.stored m has.fetched host taken)
    (λ taken. c.give_back-notify.ensures.wanted m has.fetched host taken) c.give_back-notify.ensures.queue)
