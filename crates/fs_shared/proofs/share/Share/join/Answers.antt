use Rattle.std.proofs.Common.{ap, sym, ◌∙◌, subst}
use Rattle.vm_atomic_bitmaps.specs.Counts.{tally_of}
use Rattle.vm_atomic_bitmaps.specs.Passes.{Pass}
use Rattle.fs_shared.specs.Portion.{IsShareOf}
use Rattle.fs_shared.proofs.Marking.{none_by_both}
use Rattle.fs_shared.proofs.share.Share.join.Goals as goal

pub returns-clause-own : goal.returns-clause-own
returns-clause-own g c =
    let mine = c.self.inside.pass.counts.pages in
    let theirs = c.other.inside.pass.counts.pages in
    record {
      pass = c.join_pass.ensures.own;
      none_cleared = λ p. ap (λ (q : Pass). (tally_of q.counts.pages p).off) c.join_pass.ensures.pass
          ∙ none_by_both theirs mine (subst (IsShareOf c.args.bitmap.now) (sym c.self.view_is) c.requires.own).none_cleared
          (subst (IsShareOf c.args.bitmap.now) (sym c.other.view_is) c.requires.other).none_cleared p;
    }
