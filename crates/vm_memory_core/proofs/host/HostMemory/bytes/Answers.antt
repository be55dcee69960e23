use Rattle.vm_memory_core.proofs.Stores.{loaded_at}
use Rattle.vm_memory_core.proofs.host.HostMemory.bytes.Goals as goal

pub returns-clause-bytes : goal.returns-clause-bytes
returns-clause-bytes g c =
    loaded_at _ _ c.args.window _ _ _ _ _ c.block.ensures c.block_offset.ensures c.len.ensures.len c.self.view_is c.requires c.index.ensures
    c.bytes.ensures
