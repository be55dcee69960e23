use Rattle.std.proofs.Common.{[], ◌∷◌, ◌∙◌, Result, subst, sym}
use Rattle.plain_machine.specs.declared.refusal.Refusal.{Refusal}
use Rattle.fs_shared.specs.declared.entry.Receipt.{Receipt}
use Rattle.fs_shared.specs.Marks.{Harvest, HasMarkedSince, pages_of_result}
use Rattle.fs_shared.specs.Portion.{HasSeen, MarksPages, Portion}
use Rattle.law_callers.proofs.shared.write_apart_since.Goals as goal

pub returns-in-Ok-Ok : goal.returns-in-Ok-Ok
returns-in-Ok-Ok g c word start =
    let law = c.law_marks_since.ensures in
    let first = c.in-Ok-Ok.first in
    let second = c.in-Ok-Ok.second in
    let taken = c.meet-2.new.harvest.pass.counts.pages in
    let before = c.meet.new.share.pass.counts.pages in
    let others = c.meet-2.new.share.pass.counts.pages in
    let ts = c.guest_write-first.new.share.pass.counts.pages in
    let us = c.guest_write-second.new.share.pass.counts.pages in
    let seen : HasSeen word taken before = subst (λ (h : Harvest). HasSeen word h.pass.counts.pages before)
    (sym (c.meet-2.ensures.harvest ∙ c.meet.ensures.harvest)) (c.meet.ensures.seen word) in
    let saw : HasSeen word taken others = subst (λ (h : Harvest). HasSeen word h.pass.counts.pages others)
    (sym c.meet-2.ensures.harvest) (c.meet-2.ensures.seen word) in
    let one = subst (λ (x : Result Receipt Refusal). MarksPages (pages_of_result x) before ts) c.in-Ok-Ok.is-0
    c.guest_write-first.ensures.pages in
    let two = subst (λ (x : Result Receipt Refusal). MarksPages (pages_of_result x) others us) c.in-Ok-Ok.is-1
    c.guest_write-second.ensures.pages in
    let same = c.guest_write-second.ensures.own.pass.1 ∙ sym c.guest_write-first.ensures.own.pass.1 in
    subst (λ (s : Portion). HasMarkedSince word start taken s.pass.counts.pages (first ∷ second ∷ [])) (sym c.join_share.ensures.share)
    (law.joins word start taken (first ∷ []) (second ∷ []) ts us same
    (law.calls word start taken first before ts seen one)
    (law.calls word start taken second others us saw two))
