use Rattle.std.proofs.Common.{[], ◌∷◌, subst, sym}
use Rattle.fs_shared.specs.Marks.{HasMarked}
use Rattle.fs_shared.specs.Portion.{Portion}
use Rattle.law_callers.proofs.shared.write_twice.Goals as goal

pub returns-clause-first : goal.returns-clause-first
returns-clause-first g c =
    let r = c.in_ok-first.first in
    let law = c.law_marks_stay.ensures in
    let before = c.guest_write.new.share.pass.counts.pages in
    let after = c.guest_write-2.new.share.pass.counts.pages in
    let one = law.calls r c.args.share.now.pass.counts.pages before c.in_ok-first.ensures.pages in
    let two = law.later (r ∷ []) c.in_ok-second.second.pages.items before after c.in_ok-second.ensures.pages one in
    subst (λ (s : Portion). HasMarked s.pass.counts.pages (r ∷ [])) (sym c.meet.ensures.share)
    (law.meets (r ∷ []) after c.args.harvest.now.pass.counts.pages two)

pub returns-clause-second : goal.returns-clause-second
returns-clause-second g c =
    let r = c.in_ok-second.second in
    let law = c.law_marks_stay.ensures in
    let before = c.guest_write.new.share.pass.counts.pages in
    let after = c.guest_write-2.new.share.pass.counts.pages in
    let one = law.calls r before after c.in_ok-second.ensures.pages in
    subst (λ (s : Portion). HasMarked s.pass.counts.pages (r ∷ [])) (sym c.meet.ensures.share)
    (law.meets (r ∷ []) after c.args.harvest.now.pass.counts.pages one)
