use Rattle.std.proofs.Common.{ap, sym, subst}
use Rattle.vm_atomic_bitmaps.specs.Counts.{in_word}
use Rattle.vm_atomic_bitmaps.specs.Passes.{IsPassOf, Pass, SharedPages}
use Rattle.fs_shared.specs.Portion.{HasSeenItsOwn}
use Rattle.fs_shared.proofs.Since.{own_gathers}
use Rattle.fs_shared.proofs.harvest.PageHarvest.gather.Goals as goal

pub invariant_of-self : goal.invariant_of-self
invariant_of-self c = (
  subst (λ (b : SharedPages). IsPassOf b c.gather.new.pass) c.deref.ensures c.gather.ensures.own,
  subst HasSeenItsOwn (sym (ap (λ (q : Pass). q.counts.pages) c.gather.ensures.pass))
      (own_gathers (in_word c.args.word) c.gather.result c.self.inside.pass.counts.pages c.self.invariant.1),
)
