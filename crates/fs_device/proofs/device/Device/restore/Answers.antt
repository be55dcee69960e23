use Rattle.std.proofs.Common.{◌≡◌, ℕ, bit_and, List, ap, sym, subst, ◌∙◌, rules}
use Rattle.fs_queue.specs.Queue.{Queue}
use Rattle.fs_record.specs.Record.{IsRecordFor}
use Rattle.server_meanings.proofs.Options.{known_bits_are}
use Rattle.fs_device.proofs.device.Device.restore.Goals as goal

-- the options of a record are known, so that the server keeps each of them
pub returns-in-Ok-clause-ok : goal.returns-in-Ok-clause-ok
returns-in-Ok-clause-ok g c =
    let got = c.in-Ok.ensures.ok in
    let made : c.new.result.options ≡ c.resume-server.result.options.0 = Prim.search rules in
    let options : c.new.result.options ≡ c.in-Ok.options.0 =
    made ∙ c.resume-server.ensures.options ∙ ap (bit_and c.in-Ok.options.0) (sym known_bits_are) ∙ got.2.2.2.0 in
    let queues : c.new.result.queues ≡ c.in-Ok.queues.items = Prim.search rules in
    let there = subst (λ (q : List Queue). IsRecordFor got.0 c.args.page_size c.args.limit c.in-Ok.options.0 q) (sym queues) got.2 in
    (got.0, got.1, subst (λ (o : ℕ). IsRecordFor got.0 c.args.page_size c.args.limit o c.new.result.queues) (sym options) there, got.3)
