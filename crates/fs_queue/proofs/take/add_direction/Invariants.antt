use Rattle.std.proofs.Common.{◌≡◌, ◌+◌, ◌<◌, ◌^◌, ◌++◌, drop}
use Rattle.vm_memory_core.specs.Host.{lengths}
use Rattle.vm_memory_core.specs.Window.{places, AllLieIn}
use Rattle.vm_memory.specs.Memory.{addresses, located, location, after}
use Rattle.fs_queue.specs.Taking.{of_direction, access_of, addresses_of}
use Rattle.fs_queue.proofs.take.add_direction.Given as goal

abbrev pub invariant-loop-descriptor : goal.invariant-loop-descriptor
invariant-loop-descriptor g l = record {
  found :
      after (places l.windows.items)
      (located (location (g.M.GuestMemory.memory l.mem (g.H.HostBlocks.host l.host)) (access_of l.write_only))
      (addresses l.range.start l.range.len ++ addresses_of (of_direction l.write_only (drop l.descriptor-index l.descriptors))))
      ≡ located (location (g.M.GuestMemory.memory l.mem (g.H.HostBlocks.host l.host)) (access_of l.write_only))
      (addresses_of (of_direction l.write_only l.descriptors));
  lie : AllLieIn (lengths (g.H.HostBlocks.host l.host)) l.windows.items;
  range : l.range.start + l.range.len < 2 ^ 64;
}
