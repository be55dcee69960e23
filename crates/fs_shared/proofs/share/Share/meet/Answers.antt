use Rattle.std.proofs.Common.{ap, sym, ◌∙◌, subst}
use Rattle.vm_atomic_bitmaps.specs.Counts.{tally_of}
use Rattle.vm_atomic_bitmaps.specs.Passes.{Pass}
use Rattle.fs_shared.specs.Portion.{HasSeen, IsShareOf}
use Rattle.fs_shared.proofs.Marking.{none_by_met}
use Rattle.fs_shared.proofs.Since.{seen_by_meeting}
use Rattle.fs_shared.proofs.share.Share.meet.Goals as goal

pub returns-clause-own : goal.returns-clause-own
returns-clause-own g c = record {
  pass = c.meet_pass.ensures.own;
  none_cleared = λ p. ap (λ (q : Pass). (tally_of q.counts.pages p).off) c.meet_pass.ensures.pass
      ∙ none_by_met c.args.other.now.counts.pages c.self.inside.pass.counts.pages
      (subst (IsShareOf c.args.bitmap.now) (sym c.self.view_is) c.requires.own).none_cleared p;
}

pub returns-clause-seen : goal.returns-clause-seen
returns-clause-seen g c own word =
    let mine = c.self.inside.pass.counts.pages in
    let theirs = c.args.other.now.counts.pages in
    let share = subst (IsShareOf c.args.bitmap.now) (sym c.self.view_is) c.requires.own in
    subst (HasSeen word theirs) (sym (ap (λ (q : Pass). q.counts.pages) c.meet_pass.ensures.pass))
    (seen_by_meeting word theirs mine (c.requires.other.1 ∙ sym share.pass.1) own)
