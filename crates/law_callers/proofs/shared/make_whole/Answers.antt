use Rattle.std.proofs.Common.{refl, subst, sym}
use Rattle.vm_atomic_bitmaps.specs.Counts.{first_pass, new_half, preserved_half}
use Rattle.fs_shared.specs.Laws.{HaveSamePart}
use Rattle.fs_shared.specs.Marks.{Harvest}
use Rattle.fs_shared.specs.Portion.{Portion}
use Rattle.law_callers.proofs.Results.{if_ok_both}
use Rattle.law_callers.proofs.shared.make_whole.Goals as goal

pub returns : goal.returns
returns g c = if_ok_both c.new.result _ _ _ (λ made share harvest.
    c.law_passes_are_whole.ensures.whole made.0.len made.2.pass.counts made.1.pass.counts
    (subst (λ (h : Harvest). HaveSamePart (new_half (first_pass made.0.len)) h.pass.counts) (sym harvest) refl)
    (subst (λ (s : Portion). HaveSamePart (preserved_half (first_pass made.0.len)) s.pass.counts) (sym share) refl))
    c.new.ensures.whole c.new.ensures.harvest
