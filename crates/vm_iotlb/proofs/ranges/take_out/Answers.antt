use Rattle.std.specs.Prelude.{OnOk}
use Rattle.std.specs.Map.{values_of}
use Rattle.std.proofs.lemmas.Result.{on_err_weaker, on_ok_weaker}
use Rattle.vm_iotlb.specs.Keys.{AreKeyed}
use Rattle.vm_iotlb.specs.Ranges.{AreRanges}
use Rattle.vm_iotlb.proofs.CutLemmas.{has_range, head_taken, tail_free}
use Rattle.vm_iotlb.proofs.SplitLemmas.{split_carries_on}
use Rattle.vm_iotlb.proofs.TakeLemmas.{settled, taken_ranges, taken_table}
use Rattle.vm_iotlb.proofs.ranges.take_out.Goals as goal

pub part_from-requires : goal.part_from-requires
part_from-requires c =
    has_range c.args.ranges.now.entries c.args.end c.having-after.result c.requires.keyed c.requires.ranges c.having-after.ensures

pub exchange-requires-clause-free : goal.exchange-requires-clause-free
exchange-requires-clause-free c = rw c.part_from.ensures
    (tail_free c.args.ranges.now.entries c.args.end c.having-after.result c.requires.keyed c.requires.ranges c.having-after.ensures)

pub exchange-requires-clause-taken : goal.exchange-requires-clause-taken
exchange-requires-clause-taken c =
    rw c.part_up_to.ensures (head_taken c.args.ranges.now.entries c.reaching_from-before.result c.args.start c.reaching_from-before.ensures)

pub returns-clause-keyed : goal.returns-clause-keyed
returns-clause-keyed c =
    let ok = rw (c.part_up_to.ensures, c.part_from.ensures) at c.exchange.ensures.ok in
    let ranges : OnOk c.exchange.result (AreKeyed c.exchange.new.ranges.entries × AreRanges (values_of c.exchange.new.ranges.entries)) =
    on_ok_weaker c.exchange.result
    (λ now. taken_ranges c.args.ranges.now.entries c.exchange.new.ranges.entries c.args.start c.args.end
    c.reaching_from-before.result c.having-after.result c.requires.keyed c.requires.ranges c.requires.order c.reaching_from-before.ensures
    c.having-after.ensures c.exchange.ensures.ordered now) ok in
    (settled c.exchange.result c.args.ranges.now.entries c.exchange.new.ranges.entries c.requires.keyed c.requires.ranges ranges
    c.exchange.ensures.err).0

pub returns-clause-ranges : goal.returns-clause-ranges
returns-clause-ranges c =
    let ok = rw (c.part_up_to.ensures, c.part_from.ensures) at c.exchange.ensures.ok in
    let ranges : OnOk c.exchange.result (AreKeyed c.exchange.new.ranges.entries × AreRanges (values_of c.exchange.new.ranges.entries)) =
    on_ok_weaker c.exchange.result
    (λ now. taken_ranges c.args.ranges.now.entries c.exchange.new.ranges.entries c.args.start c.args.end
    c.reaching_from-before.result c.having-after.result c.requires.keyed c.requires.ranges c.requires.order c.reaching_from-before.ensures
    c.having-after.ensures c.exchange.ensures.ordered now) ok in
    (settled c.exchange.result c.args.ranges.now.entries c.exchange.new.ranges.entries c.requires.keyed c.requires.ranges ranges
    c.exchange.ensures.err).1

pub returns-clause-table : goal.returns-clause-table
returns-clause-table c =
    let ok = rw (c.part_up_to.ensures, c.part_from.ensures) at c.exchange.ensures.ok in
    on_ok_weaker c.exchange.result (λ now. taken_table c.args.ranges.now.entries c.exchange.new.ranges.entries c.args.start c.args.end
    c.reaching_from-before.result c.having-after.result c.requires.keyed c.requires.ranges c.requires.order c.reaching_from-before.ensures
    c.having-after.ensures c.exchange.ensures.ordered now) ok

pub returns-clause-memory : goal.returns-clause-memory
returns-clause-memory c =
    let memory = rw c.part_from.ensures at c.exchange.ensures.memory in
    on_err_weaker c.exchange.result (λ new. split_carries_on c.args.ranges.now.entries c.args.end c.having-after.result c.requires.keyed
    c.requires.ranges c.having-after.ensures (λ taken. new taken tt)) memory
