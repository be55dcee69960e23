use Rattle.std.proofs.Common.{◌≡◌, ℕ, ◌≤◌, length, ap, sym, ◌∙◌, subst}
use Rattle.vm_atomic_bitmaps.specs.declared.counts.PageCounts.{PageCounts}
use Rattle.vm_atomic_bitmaps.specs.Counts.{both_of, both_passes, tally_of}
use Rattle.vm_atomic_bitmaps.specs.Passes.{Pass, SharedPages}
use Rattle.vm_atomic_bitmaps.specs.Steps.{SettlesAll}
use Rattle.vm_atomic_bitmaps.proofs.PassTotals.{length-each_tally}
use Rattle.fs_shared.specs.Portion.{Portion}
use Rattle.fs_device.specs.MachineView.{machine_of}
use Rattle.fs_shared.specs.Held.{fixed_of, journal_of, start_of}
use Rattle.fs_shared.specs.Marks.{Harvest}
use Rattle.fs_shared.specs.Replay.{forget}
use Rattle.fs_shared.proofs.Accounts.{accounts, accounts_since, leaves_marked}
use Rattle.fs_shared.proofs.Differing.{journals_tell_pages}
use Rattle.fs_shared.proofs.device.SharedDevice.into_parts_and_pages.Goals as goal

pub returns-clause-pages : goal.returns-clause-pages
returns-clause-pages g c =
    let p = c.open.result in
    journals_tell_pages (start_of p.start (fixed_of (machine_of p.machine))) (forget (machine_of p.machine)) (journal_of p.journal.items)
    c.open.ensures.replays

pub returns-clause-gathered : goal.returns-clause-gathered
returns-clause-gathered g c =
    let p = c.open.result in
    let share = c.args.share.pass in
    let h = c.args.harvest in
    let pass_is : c.into_pass.result ≡ share = c.into_pass.ensures ∙ ap (λ (s : Portion). s.pass) c.is_counted.ensures.share in
    let taken : c.take_in.new.self.pass.counts ≡ both_passes h.pass.counts share.counts =
    ap (λ (n : Harvest). n.pass.counts) c.take_in.ensures.harvest ∙ ap (λ (q : Pass). both_passes h.pass.counts q.counts) pass_is in
    let own : length c.take_in.new.self.pass.counts.pages ≡ h.bitmap.len =
    c.take_in.ensures.own.1 ∙ ap (λ (n : Harvest). n.bitmap.len) c.take_in.ensures.harvest in
    let mine : length h.pass.counts.pages ≡ h.bitmap.len =
    sym (length-each_tally (λ p t. both_of t (tally_of share.counts.pages p)) 0 h.pass.counts.pages)
    ∙ sym (ap (λ (v : PageCounts). length v.pages) taken) ∙ own in
    let theirs : length share.counts.pages ≡ h.bitmap.len =
    c.requires.share.pass.1 ∙ sym (ap (λ (b : SharedPages). b.len) c.requires.harvest) in
    accounts share h p.journal.items p.start.host p.machine.host c.gather_all.new.words mine theirs c.requires.share.none_cleared
    (subst (λ (v : PageCounts). SettlesAll v c.gather_all.new.words) taken c.gather_all.ensures.whole)
    (returns-clause-pages g c)

pub returns-clause-past : goal.returns-clause-past
returns-clause-past g c page beyond =
    let same = ap (λ (n : Harvest). n.bitmap.len) c.take_in.ensures.harvest ∙ ap (λ (b : SharedPages). b.len) c.requires.harvest in
    c.gather_all.ensures.past page (subst (λ (n : ℕ). n ≤ page) (sym same) beyond)

pub returns-clause-settles : goal.returns-clause-settles
returns-clause-settles g c =
    let share = c.args.share.pass in
    let h = c.args.harvest in
    let pass_is : c.into_pass.result ≡ share = c.into_pass.ensures ∙ ap (λ (s : Portion). s.pass) c.is_counted.ensures.share in
    let taken : c.take_in.new.self.pass.counts ≡ both_passes h.pass.counts share.counts =
    ap (λ (n : Harvest). n.pass.counts) c.take_in.ensures.harvest ∙ ap (λ (q : Pass). both_passes h.pass.counts q.counts) pass_is in
    subst (λ (v : PageCounts). SettlesAll v c.gather_all.new.words) taken c.gather_all.ensures.whole

pub returns-clause-left : goal.returns-clause-left
returns-clause-left g c =
    let share = c.args.share.pass in
    let h = c.args.harvest in
    let pass_is : c.into_pass.result ≡ share = c.into_pass.ensures ∙ ap (λ (s : Portion). s.pass) c.is_counted.ensures.share in
    let taken : c.take_in.new.self.pass.counts ≡ both_passes h.pass.counts share.counts =
    ap (λ (n : Harvest). n.pass.counts) c.take_in.ensures.harvest ∙ ap (λ (q : Pass). both_passes h.pass.counts q.counts) pass_is in
    let own : length c.take_in.new.self.pass.counts.pages ≡ h.bitmap.len =
    c.take_in.ensures.own.1 ∙ ap (λ (n : Harvest). n.bitmap.len) c.take_in.ensures.harvest in
    let mine : length h.pass.counts.pages ≡ h.bitmap.len =
    sym (length-each_tally (λ p t. both_of t (tally_of share.counts.pages p)) 0 h.pass.counts.pages)
    ∙ sym (ap (λ (v : PageCounts). length v.pages) taken) ∙ own in
    leaves_marked share h c.gather_all.new.words mine c.requires.share.none_cleared (returns-clause-settles g c)

pub returns-clause-since : goal.returns-clause-since
returns-clause-since g c =
    let p = c.open.result in
    let share = c.args.share.pass in
    let h = c.args.harvest in
    let theirs : length share.counts.pages ≡ h.bitmap.len =
    c.requires.share.pass.1 ∙ sym (ap (λ (b : SharedPages). b.len) c.requires.harvest) in
    accounts_since share h p.journal.items (forget (machine_of p.machine)) c.gather_all.new.words theirs (returns-clause-left g c)
