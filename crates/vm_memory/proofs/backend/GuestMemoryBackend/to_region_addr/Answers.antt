use Rattle.std.proofs.Common.{arith}
use Rattle.vm_memory.proofs.Places.{start_below}
use Rattle.vm_memory.proofs.backend.GuestMemoryBackend.to_region_addr.Goals as goal

pub overflow_sub-offset : goal.overflow_sub-offset
overflow_sub-offset g c =
    let low = start_below (g.Self.GuestMemoryBackend.layout c.args.self.now) c.args.addr.0 _ c.in-Some.ensures.found in
    omega arith
