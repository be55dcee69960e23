use Rattle.std.proofs.Common.{None, ap, refl, ◌∙◌}
use Rattle.vm_memory_core.specs.Host.{shape}
use Rattle.vm_memory_core.specs.Window.{Window}
use Rattle.vm_memory_core.proofs.Stores.{set_stored, shape-set_all}
use Rattle.vm_memory_core.proofs.host.HostMemory.write_block.Goals as goal

pub returns-in-Some-clause-set : goal.returns-in-Some-clause-set
returns-in-Some-clause-set g c =
    let w : Window = record { block = c.args.block; offset = c.args.offset; len = _; io = None } in
    set_stored _ _ w c.args.bytes.now _ _ c.self.view_is (c.in-Some.ensures.found.0 refl) refl c.index_mut.ensures.value c.set.ensures

pub returns-in-Some-clause-shape : goal.returns-in-Some-clause-shape
returns-in-Some-clause-shape g c = ap shape (returns-in-Some-clause-set g c) ∙ shape-set_all _ _
