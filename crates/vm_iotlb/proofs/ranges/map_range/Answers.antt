use Rattle.std.proofs.Common.{arith}
use Rattle.std.specs.Prelude.{OnOk}
use Rattle.std.specs.Map.{values_of}
use Rattle.std.proofs.lemmas.Result.{on_err_weaker, on_ok_weaker}
use Rattle.vm_iotlb.specs.Keys.{AreKeyed}
use Rattle.vm_iotlb.specs.Ranges.{AreRanges}
use Rattle.vm_iotlb.proofs.CutLemmas.{has_range, reaches_range}
use Rattle.vm_iotlb.proofs.SetLemmas.{set_ranges, set_table}
use Rattle.vm_iotlb.proofs.SideLemmas.{left_low, left_taken, right_free, right_high}
use Rattle.vm_iotlb.proofs.SplitLemmas.{map_begins}
use Rattle.vm_iotlb.proofs.TakeLemmas.{settled}
use Rattle.vm_iotlb.proofs.ranges.map_range.Goals as goal

pub joined_left-left-requires-clause-before : goal.joined_left-left-requires-clause-before
joined_left-left-requires-clause-before c =
    reaches_range c.args.ranges.now.entries c.args.range.now.start c.reaching_from-before.result c.requires.keyed
    c.requires.ranges c.reaching_from-before.ensures

pub joined_right-right-requires-clause-after : goal.joined_right-right-requires-clause-after
joined_right-right-requires-clause-after c =
    has_range c.args.ranges.now.entries c.args.range.now.end c.having-after.result c.requires.keyed c.requires.ranges c.having-after.ensures

pub right_over-requires : goal.right_over-requires
right_over-requires c =
    has_range c.args.ranges.now.entries c.args.range.now.end c.having-after.result c.requires.keyed c.requires.ranges c.having-after.ensures

pub exchange-requires-clause-free : goal.exchange-requires-clause-free
exchange-requires-clause-free c = rw c.right_over.ensures
    (right_free c.args.ranges.now.entries c.args.range.now c.requires.keyed c.requires.ranges c.requires.range c.having-after.result
    c.having-after.ensures c.joined_right-right.result)

pub exchange-requires-clause-taken : goal.exchange-requires-clause-taken
exchange-requires-clause-taken c = rw c.left_over.ensures
    (left_taken c.args.ranges.now.entries c.args.range.now c.requires.keyed c.requires.ranges c.requires.range c.reaching_from-before.result
    c.reaching_from-before.ensures c.joined_left-left.result)

pub exchange-requires-clause-order : goal.exchange-requires-clause-order
exchange-requires-clause-order c =
    let low = left_low c.args.ranges.now.entries c.args.range.now c.requires.keyed c.requires.ranges c.requires.range
    c.reaching_from-before.result c.reaching_from-before.ensures
    c.joined_left-left.result c.joined_left-left.ensures in
    let high = right_high c.args.ranges.now.entries c.args.range.now c.requires.keyed c.requires.ranges c.requires.range
    c.having-after.result c.having-after.ensures c.joined_right-right.result
    c.joined_right-right.ensures in
    rw c.joined-new.ensures (omega (arith, low.0, high.0, c.requires.range.0))

pub returns-clause-keyed : goal.returns-clause-keyed
returns-clause-keyed c =
    let ok = rw (c.joined-new.ensures, c.left_over.ensures, c.right_over.ensures) at c.exchange.ensures.ok in
    let ranges : OnOk c.exchange.result (AreKeyed c.exchange.new.ranges.entries × AreRanges (values_of c.exchange.new.ranges.entries)) =
    on_ok_weaker c.exchange.result
    (λ now. set_ranges c.args.ranges.now.entries c.exchange.new.ranges.entries c.args.range.now c.reaching_from-before.result
    c.having-after.result
    c.joined_left-left.result c.joined_right-right.result
    c.requires.keyed c.requires.ranges c.requires.range c.reaching_from-before.ensures c.having-after.ensures c.joined_left-left.ensures
    c.joined_right-right.ensures
    c.exchange.ensures.ordered now) ok in
    (settled c.exchange.result c.args.ranges.now.entries c.exchange.new.ranges.entries c.requires.keyed c.requires.ranges ranges
    c.exchange.ensures.err).0

pub returns-clause-ranges : goal.returns-clause-ranges
returns-clause-ranges c =
    let ok = rw (c.joined-new.ensures, c.left_over.ensures, c.right_over.ensures) at c.exchange.ensures.ok in
    let ranges : OnOk c.exchange.result (AreKeyed c.exchange.new.ranges.entries × AreRanges (values_of c.exchange.new.ranges.entries)) =
    on_ok_weaker c.exchange.result
    (λ now. set_ranges c.args.ranges.now.entries c.exchange.new.ranges.entries c.args.range.now c.reaching_from-before.result
    c.having-after.result
    c.joined_left-left.result c.joined_right-right.result
    c.requires.keyed c.requires.ranges c.requires.range c.reaching_from-before.ensures c.having-after.ensures c.joined_left-left.ensures
    c.joined_right-right.ensures
    c.exchange.ensures.ordered now) ok in
    (settled c.exchange.result c.args.ranges.now.entries c.exchange.new.ranges.entries c.requires.keyed c.requires.ranges ranges
    c.exchange.ensures.err).1

pub returns-clause-table : goal.returns-clause-table
returns-clause-table c =
    let ok = rw (c.joined-new.ensures, c.left_over.ensures, c.right_over.ensures) at c.exchange.ensures.ok in
    on_ok_weaker c.exchange.result (λ now. set_table c.args.ranges.now.entries c.exchange.new.ranges.entries c.args.range.now
    c.reaching_from-before.result c.having-after.result
    c.joined_left-left.result c.joined_right-right.result
    c.requires.keyed c.requires.ranges c.requires.range c.reaching_from-before.ensures c.having-after.ensures c.joined_left-left.ensures
    c.joined_right-right.ensures c.exchange.ensures.ordered now) ok

pub returns-clause-memory : goal.returns-clause-memory
returns-clause-memory c =
    let memory = rw (c.joined-new.ensures, c.right_over.ensures) at c.exchange.ensures.memory in
    on_err_weaker c.exchange.result (map_begins c.args.ranges.now.entries c.args.range.now c.requires.keyed c.requires.ranges
    c.requires.range c.reaching_from-before.result c.having-after.result
    c.joined_left-left.result c.joined_right-right.result c.reaching_from-before.ensures c.having-after.ensures c.joined_left-left.ensures
    c.joined_right-right.ensures) memory
