use Rattle.std.proofs.Common.{arith, refl}
use Rattle.vm_memory_core.specs.Host.{lengths}
use Rattle.vm_memory.proofs.LayoutLemmas.{blocks_more, held_all, block_of}
use Rattle.vm_memory.proofs.held.GuestRegionCollectionHeldIn.is_held.Goals as goal

pub returns-then-not-has_block-clause-held : goal.returns-then-not-has_block-clause-held
returns-then-not-has_block-clause-held g c = (
  λ no. absurd (cc no),
  λ held. c.if-not-has_block.ensures.1 (block_of (lengths (g.H.HostBlocks.host c.args.h.now)) c.args.self.now c.loop-at.at _ held
      c.region.ensures),
)

pub loop-at-preserved : goal.loop-at-preserved
loop-at-preserved g c =
    blocks_more (lengths (g.H.HostBlocks.host c.args.h.now)) c.args.self.now c.loop-at.at _ c.loop-at.invariant c.region.ensures
    (c.if-not-has_block.ensures.0 refl)

pub returns-clause-held : goal.returns-clause-held
returns-clause-held g c = (
  λ yes. held_all (lengths (g.H.HostBlocks.host c.args.h.now)) c.args.self.now (λ k within. c.loop-at.invariant k (omega arith)),
  λ held. refl,
)
