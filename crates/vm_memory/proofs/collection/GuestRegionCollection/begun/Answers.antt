use Rattle.std.proofs.Common.{◌≡◌, ℕ, ◌+◌, ◌-◌, ◌/◌, arith}
use Rattle.vm_memory.proofs.LayoutLemmas.{start_at-get}
use Rattle.vm_memory.proofs.collection.GuestRegionCollection.begun.Goals as goal

pub loop-low-preserved-then-start_addr-addr : goal.loop-low-preserved-then-start_addr-addr
loop-low-preserved-then-start_addr-addr g c =
    let middle : ℕ = c.loop-low.low + (c.loop-low.high - c.loop-low.low) / 2 in
    let begins = start_at-get c.args.self.now middle _ c.region.ensures in
    let back : middle + 1 - 1 ≡ middle = omega arith in
    record {
      order = omega arith;
      most = omega arith;
      below = λ some. rw back (omega arith);
      above = c.loop-low.invariant.above;
      layout = c.loop-low.invariant.layout;
    }

pub loop-low-preserved : goal.loop-low-preserved
loop-low-preserved g c =
    let middle : ℕ = c.loop-low.low + (c.loop-low.high - c.loop-low.low) / 2 in
    let begins = start_at-get c.args.self.now middle _ c.region.ensures in
    record {
      order = omega arith;
      most = omega arith;
      below = c.loop-low.invariant.below;
      above = λ within. omega arith;
      layout = c.loop-low.invariant.layout;
    }
