use Rattle.std.proofs.Common.{◌≡◌, ◌≤◌, IfSome}
use Rattle.fs_queue.specs.Chain.{first_visit}
use Rattle.fs_queue.specs.Loads.{ahead_at}
use Rattle.fs_queue.specs.SteppingView.{ahead_of, IfWants}
use Rattle.fs_queue.specs.WalkingView.{at_position, AllEndIn64Bits, AreTheTable, EndsIn64Bits}
use Rattle.fs_queue.proofs.GivenLemmas.{CameKept, loads_left}
use Rattle.fs_queue.proofs.by_loads.walk_chain.Given as goal

abbrev pub invariant-steps : goal.invariant-steps
invariant-steps g l = record {
  came :
      CameKept (g.M.GuestMemory.memory l.mem (g.H.HostBlocks.host l.host)) l.fn.layout.size
      (ahead_at l.fn.layout.size (first_visit (at_position l.fn.layout 0) l.fn.head))
      l.fn.descriptors.capacity l.kept l.descriptors.items (ahead_of l.progress);
  capacity : l.fn.descriptors.capacity ≤ l.descriptors.capacity;
  size : IfWants l.progress (λ w. w.size ≡ l.fn.layout.size);
  ends : EndsIn64Bits l.whole_of;
  whole : IfSome l.whole (λ b. AreTheTable (g.M.GuestMemory.memory l.mem (g.H.HostBlocks.host l.host)) l.whole_of b.now);
  fit : AllEndIn64Bits l.descriptors.items;
}

abbrev pub decreases-steps : goal.decreases-steps
decreases-steps g l = loads_left l.progress
