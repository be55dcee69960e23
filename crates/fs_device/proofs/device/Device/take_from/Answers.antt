use Rattle.std.proofs.Common.{vec_len, arith}
use Rattle.std.proofs.lemmas.Option.{slice_get_past, slice_get_read}
use Rattle.fs_device.proofs.StepLemmas.{Fixed, empty_unless_taken, misses, refuses, takes_or_ends}
use Rattle.fs_device.proofs.device.Device.take_from.Goals as goal

pub returns-then-queue-len-clause-takes : goal.returns-then-queue-len-clause-takes
returns-then-queue-len-clause-takes g c options page_size files =
    misses g.F.FileSystemBase.may _ c.args.queue
    (slice_get_past c.args.queues.now.items c.args.queue (omega (arith, c.if-queue-len.true, c.len.ensures, c.args.queues.now.ok.0)))

pub returns-in-Ok-clause-takes : goal.returns-in-Ok-clause-takes
returns-in-Ok-clause-takes g c options page_size files =
    let queues = c.args.queues.now in
    let there = slice_get_read queues.items (vec_len queues) c.args.queue _ queues.ok.0 (omega arith) c.index_mut.ensures.value in
    let fixed : Fixed = record { limit = c.args.limit; page_size = page_size } in
    takes_or_ends g.F.FileSystemBase.may fixed (g.M.GuestMemory.memory c.args.mem.now (g.H.HostBlocks.host c.args.host.now)) queues.items
    c.args.queue
    c.index_mut.result.now c.take.new.self (options, files) c.take.new.taken c.in-Ok.waits
    there c.in-Ok.ensures.takes c.in-Ok.ensures.queue

pub returns-in-Err-clause-takes : goal.returns-in-Err-clause-takes
returns-in-Err-clause-takes g c options page_size files =
    let queues = c.args.queues.now in
    let there = slice_get_read queues.items (vec_len queues) c.args.queue _ queues.ok.0 (omega arith) c.index_mut.ensures.value in
    let fixed : Fixed = record { limit = c.args.limit; page_size = page_size } in
    refuses g.F.FileSystemBase.may fixed (g.M.GuestMemory.memory c.args.mem.now (g.H.HostBlocks.host c.args.host.now)) queues.items
    c.args.queue c.index_mut.result.now
    c.take.new.self (options, files) c.in-Err.error there
    c.in-Err.ensures.takes c.in-Err.ensures.queue

pub returns-in-Ok-clause-empty : goal.returns-in-Ok-clause-empty
returns-in-Ok-clause-empty g c = empty_unless_taken c.take.new.taken c.in-Ok.waits c.in-Ok.ensures.empty
