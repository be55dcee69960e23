use Rattle.std.proofs.Common.{[], ◌∷◌, ◌∙◌, subst, sym}
use Rattle.fs_shared.specs.Marks.{Harvest, HasMarkedSince, kicked_pages}
use Rattle.fs_shared.specs.Portion.{Portion}
use Rattle.law_callers.proofs.shared.write_between_gathers.Goals as goal

pub returns-clause-since : goal.returns-clause-since
returns-clause-since g c other start differ =
    let law = c.law_marks_since.ensures in
    let r = c.in_ok-receipt.receipt in
    let taken = c.args.harvest.now.pass.counts.pages in
    let before = c.meet.new.share.pass.counts.pages in
    let written = c.guest_write.new.share.pass.counts.pages in
    let kicked = c.kick.new.share.pass.counts.pages in
    let met = c.meet-2.new.share.pass.counts.pages in
    let one = law.calls other start taken r before written (c.meet.ensures.seen other) c.in_ok-receipt.ensures.pages in
    let two = (law.later other start taken (r ∷ []) (kicked_pages c.kick.result) written kicked c.kick.ensures.pages).1 one in
    let three : HasMarkedSince other start taken met (r ∷ []) =
    subst (λ (s : Portion). HasMarkedSince other start taken s.pass.counts.pages (r ∷ [])) (sym c.meet-2.ensures.share)
    (law.meets other start taken (r ∷ []) kicked c.meet.new.harvest.pass.counts.pages two) in
    let four : HasMarkedSince other start c.meet-2.new.harvest.pass.counts.pages met (r ∷ []) =
    subst (λ (h : Harvest). HasMarkedSince other start h.pass.counts.pages met (r ∷ []))
    (sym (c.meet-2.ensures.harvest ∙ c.meet.ensures.harvest)) three in
    subst (λ (h : Harvest). HasMarkedSince other start h.pass.counts.pages met (r ∷ [])) (sym c.gather.ensures.harvest)
    (law.gathers other c.args.word c.gather.result start c.meet-2.new.harvest.pass.counts.pages met (r ∷ []) differ four)
