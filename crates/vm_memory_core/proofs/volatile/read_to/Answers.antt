use Rattle.std.proofs.Common.{arith, ◌∙◌, ◌≡◌, ◌≤◌, ◌-◌, ◌+◌, length, take}
use Rattle.std.proofs.lemmas.List.{length-take-le}
use Rattle.std.proofs.lemmas.List.Edits.{length-between}
use Rattle.vm_memory_core.specs.Volatile.{moved}
use Rattle.vm_memory_core.proofs.ReadingLemmas.{lands, same_answer}
use Rattle.vm_memory_core.proofs.volatile.read_to.Goals as goal

pub returns-clause-reads : goal.returns-clause-reads
returns-clause-reads g c =
    let a = c.args in
    let e = c.read_volatile.ensures in
    let m = moved c.read_volatile.result in
    let now = c.read_volatile.new.buf in
    let k = a.offset + a.len - a.offset in
    let same : k ≡ a.len = omega arith in
    let size : length now ≡ k = c.read_volatile.auto.buf ∙ length-between a.block.now a.offset (a.offset + a.len) c.requires in
    let within : m ≤ length now = omega (arith, e.within, c.read_volatile.auto.buf) in
    let front : length (take m now) ≡ m = length-take-le m now within in (
      take m now,
      lands a.block.now now a.offset k m (k - m) (omega (arith, within, size)) size e.rest,
      front,
      omega (arith, front, within, size, same),
      rw (same_answer c.read_volatile.result now) (rw same at e.gives),
    )
