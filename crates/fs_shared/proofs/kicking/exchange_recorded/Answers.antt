use Rattle.std.proofs.Common.{refl}
use Rattle.fs_device.specs.DeviceView.{exchange_of}
use Rattle.fs_device.specs.MachineView.{machine_of}
use Rattle.fs_device.proofs.StepLemmas.{step_of_device}
use Rattle.fs_shared.proofs.KickLemmas.{exchange_keeps}
use Rattle.fs_shared.proofs.kicking.exchange_recorded.Goals as goal

pub returns-clause-keeps : goal.returns-clause-keeps
returns-clause-keeps g c =
    let s = machine_of c.args.machine.now in
    let has = c.requires.taken in
    let answered = c.in_ok-exchange.ensures in
    let x = exchange_of c.in_ok-exchange.exchange in
    let request = c.in_ok-request.ensures.bytes s.memory has.fetched refl has.taken.chain in
    let step =
    step_of_device g.F.FileSystemBase.may s.memory _ c.args.machine.now.device c.answer.new.self c.give_back-notice.new.self c.args.queue
    c.args.taken.now has x c.give_back-notice.result
    (answered.answers s.memory has.queue has.fetched has.taken request) answered.same
    (λ has'. rw c.deref.ensures.value at c.give_back-notice.ensures.returns s.memory has' refl) in
    let recorded = c.recorded_exchange.ensures in
    exchange_keeps g.F.FileSystemBase.may s _ c.args.queue step.0 x c.give_back-notice.result c.args.taken.now has
    c.in_ok-request.request.bytes.items c.in_ok-room.room request
    (rw c.bytes.ensures at c.in_ok-room.ensures) c.requires.lies.return_windows.used_len step.1
    c.recorded_exchange.result recorded.entry recorded.entry_outcome recorded.pages recorded.receipt recorded.receipt_outcome
    recorded.receipt_pages
