use Rattle.std.proofs.Common.{ℕ, List, get_or, take, ap, sym, ◌∙◌, subst}
use Rattle.std.proofs.lemmas.List.{take_more}
use Rattle.vm_atomic_bitmaps.specs.Passes.{Pass, counting}
use Rattle.fs_shared.specs.Portion.{MarksPages}
use Rattle.fs_shared.specs.declared.share.Share.TheInside.{Inside}
use Rattle.fs_shared.proofs.Marking.{marks_more}
use Rattle.fs_shared.proofs.share.Share.mark.Goals as goal

pub loop-page-preserved : goal.loop-page-preserved
loop-page-preserved g c =
    let k = c.loop-page.page-index in
    let pages = c.args.pages.now in
    let before = c.loop-page.self-inside.pass in
    let after = c.set_bit.new.pass in
    let first = c.self.inside.pass.counts.pages in
    record {
      own = c.set_bit.ensures.own;
      self =
          ap (λ (q : Pass). record c.loop-page.self-inside { pass = q }) c.set_bit.ensures.pass
          ∙ ap (λ (s : Inside g.row.L.Denot). record s { pass = counting s.pass after.counts.pages }) c.loop-page.invariant.self;
      pages =
          subst (λ (xs : List ℕ). MarksPages xs first after.counts.pages) (sym (take_more pages k 0 c.loop-page-test.true))
          (marks_more before.counts (take k pages) (get_or pages k 0) first before.counts.pages after.counts.pages
          c.loop-page.invariant.pages c.set_bit.ensures.pages);
    }
