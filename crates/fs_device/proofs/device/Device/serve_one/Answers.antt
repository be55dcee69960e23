use Rattle.std.proofs.Common.{◌≡◌, Err, ℕ, List, [], ap, length, refl, rules, subst, sym}
use Rattle.std.proofs.lemmas.Option.{slice_get_read}
use Rattle.vm_memory_core.specs.Host.{Host}
use Rattle.vm_memory.specs.Memory.{Memory}
use Rattle.fs_queue.specs.Returning.{PutFrontLast}
use Rattle.fs_queue.specs.Windows.{chain_places}
use Rattle.fs_queue.specs.declared.fault.QueueError.TheVariants as stop
use Rattle.plain_machine.specs.declared.error.DeviceError.TheVariants as device
use Rattle.fs_device.specs.DeviceView.{server_state}
use Rattle.plain_machine.specs.Step.{Idle, Refused, State}
use Rattle.fs_device.specs.ReplyFront.{front_bytes, replied}
use Rattle.fs_device.proofs.ReadingLemmas.{returned_step_of}
use Rattle.fs_device.proofs.StepLemmas.{Fixed, lacks_taken}
use Rattle.fs_device.proofs.device.Device.serve_one.Goals as goal

pub returns-in_err-waits-clause-step : goal.returns-in_err-waits-clause-step
returns-in_err-waits-clause-step g c =
    let server = c.self.inside.server in
    let e = c.in_err-waits.field-0.0 in
    let failed : c.from_residual.result ≡ Err e = search rules in
    ([], Refused e, rw (← c.self.view_is) (c.in_err-waits.ensures.takes server.options.0 server.page_size server.fs), failed)

pub returns-then-not-waits-clause-step : goal.returns-then-not-waits-clause-step
returns-then-not-waits-clause-step g c =
    let server = c.self.inside.server in (
      [],
      Idle,
      rw (← c.self.view_is) (rw c.if-not-waits.true at c.in_ok-waits.ensures.takes server.options.0 server.page_size server.fs),
      refl,
    )

pub returns-in_err-answered-clause-step : goal.returns-in_err-answered-clause-step
returns-in_err-answered-clause-step g c =
    let server = c.self.inside.server in
    let taken = rw c.if-not-waits.false at c.in_ok-waits.ensures.takes server.options.0 server.page_size server.fs in
    let failed : c.from_residual-in_err-answered.result ≡ Err (device.Queue stop.OutOfMemory) = search rules in
    let still = c.in_err-answered.ensures.err in (
      [],
      Refused (device.Queue stop.OutOfMemory),
      rw (← c.self.view_is, still.0, still.1, still.2, c.answer_front.ensures.page_size)
          (lacks_taken g.F.FileSystemBase.may _ _ c.args.queue c.take_from.new.taken taken.0 taken.1),
      failed,
    )

pub returns-clause-step : goal.returns-clause-step
returns-clause-step g c =
    let m = g.M.GuestMemory.memory c.args.mem.now (g.H.HostBlocks.host c.args.host.now) in
    let host : m.host ≡ (g.H.HostBlocks.host c.args.host.now) = ap (λ (x : Memory). x.host)
    (g.met.M.GuestMemory.over c.args.mem.now (g.H.HostBlocks.host c.args.host.now) (g.H.HostBlocks.host c.args.host.now)) in
    let over = g.met.M.GuestMemory.over c.args.mem.now (g.H.HostBlocks.host c.args.host.now)
    (g.H.HostBlocks.host c.give_back_front-notify.new.host) in
    let server = c.self.inside.server in
    let fixed : Fixed = record { limit = c.self.inside.limit; page_size = server.page_size } in
    let taken = rw c.if-not-waits.false at c.in_ok-waits.ensures.takes server.options.0 server.page_size server.fs in
    let has = taken.0 in
    let place = c.take_from.new.taken in
    let between = c.take_from.new.queues.items in
    let kept : between ≡ c.self.inside.queues.items = ap (λ (s : State g.row.F.Denot). s.queues) taken.1 in
    let there = rw c.if-not-waits.false at c.in_ok-waits.ensures.there in
    let at = slice_get_read between (length between) c.args.queue _ refl there c.index_mut.ensures.value in
    let answered = c.in_ok-answered.answered in
    let new = g.H.HostBlocks.host c.answer_front.new.host in
    let exchanged = c.in_ok-answered.ensures.exchange m has.queue has.fetched host has.taken in
    let put = subst (λ (h : Host). PutFrontLast h new (chain_places place.chain) (front_bytes answered.front) exchanged.reply)
    (sym host) exchanged.put in
    let fronted = subst (λ (bytes : List ℕ). PutFrontLast m.host new (chain_places place.chain) bytes exchanged.reply)
    (sym c.bytes-front.ensures) put in
    returned_step_of g.F.FileSystemBase.may fixed m _ _ c.self.inside.queues.items between c.args.queue c.index_mut.result.now
    c.give_back_front-notify.new.self
    (server.options.0, server.fs) (server_state c.answer_front.new.server)
    place has (replied place.head has.fetched exchanged.reply answered.fault) c.give_back_front-notify.result _ _ _ kept at
    exchanged.served
    (λ taken. c.give_back_front-notify.ensures.stored m has.fetched exchanged.reply fronted exchanged.len taken)
    (λ taken. c.give_back_front-notify.ensures.wanted m has.fetched exchanged.reply fronted taken) c.give_back_front-notify.ensures.queue
    c.self.view_is over c.answer_front.ensures.page_size c.head-head.ensures
    (c.request_len-request_len.ensures m has.fetched has.taken.chain) (sym exchanged.len) refl refl
