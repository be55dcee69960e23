use Rattle.std.proofs.Common.{◌≡◌, suc, ap, ◌∙◌, rules}
use Rattle.vm_atomic_bitmaps.specs.Counts.{first_pass, tally_of}
use Rattle.vm_atomic_bitmaps.specs.Passes.{Pass}
use Rattle.vm_atomic_bitmaps.proofs.PassParts.{at_clear_of}
use Rattle.worked_callers.proofs.marks.open.Goals as goal

pub returns-clause-second : goal.returns-clause-second
returns-clause-second c =
    let start : c.in_ok-bitmap.first ≡ record { name = c.in_ok-bitmap.bitmap.name; counts = first_pass c.in_ok-bitmap.bitmap.len } =
    search rules in
    let second : c.unwrap-second.result
    ≡ record { name = c.in_ok-bitmap.first.name; counts = Rattle.vm_atomic_bitmaps.specs.Counts.new_half c.in_ok-bitmap.first.counts } =
    search rules in (
      ap (λ (p : Pass). p.counts.parts) second ∙ ap (λ (p : Pass). p.counts.parts) start,
      ap (λ (p : Pass). p.counts.depth) second ∙ ap (λ (p : Pass). suc p.counts.depth) start,
      λ k. ap (λ (p : Pass). tally_of p.counts.pages k) second ∙ at_clear_of c.in_ok-bitmap.first.counts.pages k,
    )
