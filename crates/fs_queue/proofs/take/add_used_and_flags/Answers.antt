use Rattle.vm_iotlb.specs.declared.permissions.Permissions.TheVariants.{Read}
use Rattle.vm_memory_core.specs.Host.{lengths}
use Rattle.vm_memory.specs.Memory.{addresses, located, location}
use Rattle.fs_queue.specs.WalkingView.{at_position}
use Rattle.fs_queue.proofs.TakeLemmas.{after_empty, length-range, length-used, none_lies}
use Rattle.fs_queue.proofs.take.add_used_and_flags.Goals as goal

pub returns-clause-lie : goal.returns-clause-lie
returns-clause-lie g c =
    let m = g.M.GuestMemory.memory c.args.mem.now (g.H.HostBlocks.host c.args.host.now) in
    let flags = after_empty (located (location m Read) (addresses c.avail-flags.result 2)) _
    (rw (c.requires.none.1, c.if-not-branch-2.false) at c.in_ok-add_windows.ensures.found) in
    record {
      used = c.add_used.ensures.lie;
      flags = c.add_windows.ensures.lie (rw c.requires.none.1 (none_lies (lengths (g.H.HostBlocks.host c.args.host.now))));
      used_len = length-used m (at_position c.args.layout c.args.position) _ (rw c.if-not-branch.false at c.in_ok-add_used.ensures.found);
      flags_len = length-range 2 c.avail-flags.result (location m Read) _ flags;
    }
