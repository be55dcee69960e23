use Rattle.std.proofs.Common.{◌≡◌, rules, ap, sym, subst}
use Rattle.vm_atomic_bitmaps.specs.Counts.{new_half}
use Rattle.vm_atomic_bitmaps.specs.Passes.{Pass}
use Rattle.fs_shared.specs.Portion.{HasSeenItsOwn}
use Rattle.fs_shared.proofs.Since.{own_first}
use Rattle.fs_shared.proofs.harvest.clear_pages.Goals as goal

pub invariant_of-harvest : goal.invariant_of-harvest
invariant_of-harvest c =
    let first = c.in_ok-bitmap.first in
    let second : c.unwrap-pass.result ≡ record { name = first.name; counts = new_half first.counts } = search rules in
    (search rules, subst HasSeenItsOwn (sym (ap (λ (q : Pass). q.counts.pages) second)) (own_first first.counts))
