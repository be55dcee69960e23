use Rattle.std.proofs.Common.{◌≡◌, ◌+◌, ◌-◌, ◌<◌, ◌≤◌, ◌++◌, length, sym, arith}
use Rattle.std.proofs.lemmas.List.{take-append-drop}
use Rattle.std.proofs.lemmas.Grind.{common_steps}
use Rattle.server_requests.proofs.NameLemmas.{counted_short, counted_none, counted_front}
use Rattle.server_requests.proofs.source.FlatSource.counted.Goals as goal

pub returns-in_default-clause-fault : goal.returns-in_default-clause-fault
returns-in_default-clause-fault c =
    let h : c.args.len < 40 + c.args.fixed = grind (arith, common_steps) in
    λ other. sym (counted_none _ _ _ h)

pub returns-then-bytes-count-clause-fault : goal.returns-then-bytes-count-clause-fault
returns-then-bytes-count-clause-fault c =
    let s = c.in-Some.ensures in
    let h : 40 + c.args.fixed ≤ c.args.len = omega arith in
    let few : length c.args.self.bytes.now < c.args.len - (40 + c.args.fixed) = omega (arith, c.if-bytes-count.true) in
    λ other. sym (counted_short _ _ _ h few)

pub returns-clause-bytes : goal.returns-clause-bytes
returns-clause-bytes c =
    let s = c.in-Some.ensures in
    let h : 40 + c.args.fixed ≤ c.args.len = omega arith in
    let whole : c.args.self.bytes.now ≡ c.split_at.result.0.now ++ c.split_at.result.1.now =
    rw (c.split_at.ensures.front, c.split_at.ensures.back) (sym (take-append-drop c.in-Some.count c.args.self.bytes.now)) in
    sym (counted_front c.args.len c.args.fixed c.args.self.bytes.now c.split_at.result.0.now c.split_at.result.1.now h whole (omega arith))
