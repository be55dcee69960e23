use Rattle.std.proofs.Common.{ℕ, inl, inr, ap, sym, ◌∙◌, arith}
use Rattle.std.proofs.lemmas.Bool.{cases_lt}
use Rattle.std.proofs.lemmas.Map.Keys.{le_from_not_gt, ge_from_not_lt}
use Rattle.vm_iotlb.specs.Keys.{range_at}
use Rattle.vm_iotlb.proofs.MapLemmas.{key_at, none_some, not_gt, some_is}
use Rattle.vm_iotlb.proofs.ranges.last_up_to.Goals as goal

pub returns-in-Some : goal.returns-in-Some
returns-in-Some c =
    let entry : ℕ × _ = (c.in-Some.field-0-0.now, c.in-Some.range.now) in
    let part = c.range.ensures.in_range tt in
    let is = part.3 entry c.next_back.new.self c.in-Some.ensures.steps in
    let key = key_at c.args.ranges.now.entries entry.0 c.in-Some.range.now c.requires is.1 in
    let low = le_from_not_gt entry.0 c.args.addr is.0.1 in (
      omega arith,
      ap (range_at c.args.ranges.now.entries) (sym key) ∙ is.1,
      λ k s at within. let most = part.4 entry c.next_back.new.self c.in-Some.ensures.steps k (tt, not_gt k c.args.addr within)
          (some_is _ s at) in
          let below = ge_from_not_lt entry.0 k most in omega arith,
    )

pub returns-in-None : goal.returns-in-None
returns-in-None c = λ k s at.
    elim (cases_lt c.args.addr k) [
      | inl above ↦ above
      | inr within ↦
          absurd (none_some s (sym ((c.range.ensures.in_range tt).5 c.in-None.ensures.steps.0 k (tt, not_gt k c.args.addr within)) ∙ at))
    ]
