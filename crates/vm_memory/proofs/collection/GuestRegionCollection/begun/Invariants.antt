use Rattle.std.proofs.Common.{◌<◌, ◌≤◌, ◌-◌, length}
use Rattle.vm_memory.specs.Layout.{start_at, IsLayout}
use Rattle.vm_memory.proofs.collection.GuestRegionCollection.begun.Given as goal

abbrev pub invariant-loop-low : goal.invariant-loop-low
invariant-loop-low g l = record {
  order : l.low ≤ l.high;
  most : l.high ≤ length l.self;
  below : 0 < l.low → start_at l.self (l.low - 1) ≤ l.addr;
  above : l.high < length l.self → l.addr < start_at l.self l.high;
  layout : IsLayout l.self;
}

abbrev pub decreases-loop-low : goal.decreases-loop-low
decreases-loop-low g l = l.high - l.low
