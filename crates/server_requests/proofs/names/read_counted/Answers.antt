use Rattle.std.proofs.Common.{◌+◌, ◌-◌, ◌<◌, ◌≤◌, length, sym, arith}
use Rattle.std.specs.Cow.{cow_slice_items}
use Rattle.std.proofs.lemmas.Grind.{common_steps}
use Rattle.server_requests.proofs.NameLemmas.{counted_short, counted_none, counted_by}
use Rattle.fuse_fs.proofs.Lengths.{past_zero_of}
use Rattle.server_requests.proofs.Split.{split_memory}
use Rattle.server_requests.proofs.names.read_counted.Goals as goal

pub returns-in_default-clause-fault : goal.returns-in_default-clause-fault
returns-in_default-clause-fault c =
    let h : c.args.len < 40 + c.args.fixed = grind (arith, common_steps) in
    λ other. sym (counted_none _ _ _ h)

pub returns-then-left-count-clause-fault :
    goal.returns-then-left-count-clause-fault
returns-then-left-count-clause-fault c =
    let s = c.in-Some.ensures in
    let h : 40 + c.args.fixed ≤ c.args.len = omega arith in
    let few : length c.args.r.now.left < c.args.len - (40 + c.args.fixed) =
    omega (arith, c.available_bytes-left.ensures.left, c.if-left-count.true) in
    λ other. sym (counted_short _ _ _ h few)

pub returns-clause-bytes : goal.returns-clause-bytes
returns-clause-bytes c =
    let s = c.in-Some.ensures in
    let h : 40 + c.args.fixed ≤ c.args.len = omega arith in
    counted_by cow_slice_items c.args.len c.args.fixed c.in-Some.count _ _ c.read_bytes.result h (omega arith) c.read_bytes.ensures.ok

pub returns-clause-in_place : goal.returns-clause-in_place
returns-clause-in_place c = λ whole.
    let s = c.in-Some.ensures in
    split_memory c.read_bytes.result c.args.r.now.segments c.in-Some.count (c.args.len - 40 - c.args.fixed) c.read_bytes.ensures.err
    (omega (arith, c.available_bytes-left.ensures.left, c.available_bytes-left.ensures.segments.0, c.if-left-count.false))
    (omega arith) whole

pub returns-clause-segments : goal.returns-clause-segments
returns-clause-segments c = past_zero_of _ c.available_bytes-left.ensures.segments.1

pub returns-in_default-clause-segments : goal.returns-in_default-clause-segments
returns-in_default-clause-segments c = past_zero_of _ c.available_bytes-left.ensures.segments.1

pub returns-then-left-count-clause-segments : goal.returns-then-left-count-clause-segments
returns-then-left-count-clause-segments c = past_zero_of _ c.available_bytes-left.ensures.segments.1
