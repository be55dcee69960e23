use Rattle.std.proofs.Common.{[], ◌∷◌, ◌∙◌, Result, subst, sym}
use Rattle.plain_machine.specs.declared.refusal.Refusal.{Refusal}
use Rattle.fs_shared.specs.declared.entry.Receipt.{Receipt}
use Rattle.fs_shared.specs.Marks.{HasMarked, pages_of_result}
use Rattle.fs_shared.specs.Portion.{MarksPages, Portion}
use Rattle.law_callers.proofs.shared.write_apart.Goals as goal

pub returns-in-Ok-Ok : goal.returns-in-Ok-Ok
returns-in-Ok-Ok g c =
    let law = c.law_marks_stay.ensures in
    let first = c.in-Ok-Ok.first in
    let second = c.in-Ok-Ok.second in
    let ts = c.guest_write-first.new.share.pass.counts.pages in
    let us = c.guest_write-second.new.share.pass.counts.pages in
    let one = subst (λ (x : Result Receipt Refusal). MarksPages (pages_of_result x) c.split_share.new.share.pass.counts.pages
    c.guest_write-first.new.share.pass.counts.pages) c.in-Ok-Ok.is-0 c.guest_write-first.ensures.pages in
    let two = subst (λ (x : Result Receipt Refusal). MarksPages (pages_of_result x) c.in_ok-other.other.pass.counts.pages
    c.guest_write-second.new.share.pass.counts.pages) c.in-Ok-Ok.is-1 c.guest_write-second.ensures.pages in
    let same = c.guest_write-second.ensures.own.pass.1 ∙ sym c.guest_write-first.ensures.own.pass.1 in
    subst (λ (s : Portion). HasMarked s.pass.counts.pages (first ∷ second ∷ [])) (sym c.join_share.ensures.share)
    (law.joins (first ∷ []) (second ∷ []) ts us same
    (law.calls first c.split_share.new.share.pass.counts.pages ts one)
    (law.calls second c.in_ok-other.other.pass.counts.pages us two))
