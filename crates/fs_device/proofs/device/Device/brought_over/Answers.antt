use Rattle.std.proofs.Common.{rules}
use Rattle.fs_device.proofs.MigrateLemmas.{brought}
use Rattle.fs_device.proofs.device.Device.brought_over.Goals as goal

pub returns-in-Ok-clause-options : goal.returns-in-Ok-clause-options
returns-in-Ok-clause-options g c =
    let got = c.in-Ok.ensures.ok in
    (brought c.save.result c.args.self.now c.page_size.result c.limit.result c.in-Ok.options.0 c.in-Ok.queues.items
    c.new-sink.result.inner.items
    c.save.new.sink.inner.items c.new-source.result.inner.now
    c.restore_record.new.source.inner.now got.0 c.new-sink.result.failed c.save.new.sink.failed c.law_record.ensures.reading
    (Prim.search rules)
    (Prim.search rules) c.save.ensures.leaves c.save.ensures.savable
    (Prim.search rules) (Prim.search rules) (Prim.search rules) got.1 got.2).0

pub returns-in-Ok-clause-queues : goal.returns-in-Ok-clause-queues
returns-in-Ok-clause-queues g c =
    let got = c.in-Ok.ensures.ok in
    (brought c.save.result c.args.self.now c.page_size.result c.limit.result c.in-Ok.options.0 c.in-Ok.queues.items
    c.new-sink.result.inner.items
    c.save.new.sink.inner.items c.new-source.result.inner.now
    c.restore_record.new.source.inner.now got.0 c.new-sink.result.failed c.save.new.sink.failed c.law_record.ensures.reading
    (Prim.search rules)
    (Prim.search rules) c.save.ensures.leaves c.save.ensures.savable
    (Prim.search rules) (Prim.search rules) (Prim.search rules) got.1 got.2).1
