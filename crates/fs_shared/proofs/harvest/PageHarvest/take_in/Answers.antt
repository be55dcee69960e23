use Rattle.std.proofs.Common.{ap, sym, subst}
use Rattle.vm_atomic_bitmaps.specs.Passes.{IsPassOf, Pass, SharedPages}
use Rattle.fs_shared.specs.Portion.{HasSeenItsOwn}
use Rattle.fs_shared.proofs.Since.{own_takes_in}
use Rattle.fs_shared.proofs.harvest.PageHarvest.take_in.Goals as goal

pub invariant_of-self : goal.invariant_of-self
invariant_of-self c = (
  subst (λ (b : SharedPages). IsPassOf b c.join_pass.new.pass) c.deref.ensures c.join_pass.ensures.own,
  subst HasSeenItsOwn (sym (ap (λ (q : Pass). q.counts.pages) c.join_pass.ensures.pass))
      (own_takes_in c.args.pass.counts.pages c.self.inside.pass.counts.pages c.requires.none c.self.invariant.1),
)
