use Rattle.std.proofs.Common.{◌≡◌, ap, sym, ◌∙◌, subst}
use Rattle.vm_atomic_bitmaps.specs.Counts.{tally_of}
use Rattle.vm_atomic_bitmaps.specs.Passes.{Pass, IsPassOf}
use Rattle.fs_shared.specs.Portion.{Portion}
use Rattle.fs_shared.proofs.Marking.{none_by_new}
use Rattle.fs_shared.proofs.share.Share.split.Goals as goal

pub returns-clause-own_half : goal.returns-clause-own_half
returns-clause-own_half g c =
    let second = c.in_ok-pass.ensures in
    let same : c.new.result.pass ≡ c.in_ok-pass.pass = ap (λ (s : Portion). s.pass) c.new.ensures in
    record {
      pass = subst (IsPassOf c.args.bitmap.now) (sym same) second.own_second;
      none_cleared = λ p. ap (λ (q : Pass). (tally_of q.counts.pages p).off) (same ∙ second.second)
          ∙ none_by_new c.self.inside.pass.counts p;
    }
