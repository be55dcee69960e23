use Rattle.std.proofs.Common.{List, Err, refl, subst}
use Rattle.vm_memory_core.specs.Host.{lengths}
use Rattle.vm_memory.specs.Collecting.{Removes}
use Rattle.vm_memory.specs.Layout.{Region, is_region}
use Rattle.plain_machine.specs.Run.{effect}
use Rattle.fs_device.proofs.LayoutLemmas.{held_without, found_any, has_none, lacks_room}
use Rattle.fs_device.proofs.machine.Machine.remove_region.Goals as goal

pub invariant_of-self : goal.invariant_of-self
invariant_of-self g c =
    let held = c.args.self.now.held in
    let there = lengths c.args.self.now.host in
    record {
      held = rw (c.set_backend.ensures, c.in-Ok.ensures.1, c.get_backend.ensures)
          (held_without there c.args.base c.args.size c.args.self.now.mem.backend held.0, held.1, held.2);
    }

pub returns-in-Ok : goal.returns-in-Ok
unfolding effect
returns-in-Ok g c =
    rw (
      found_any (is_region c.args.base c.args.size) c.args.self.now.mem.backend _ (rw c.get_backend.ensures at c.in-Ok.ensures.0),
      c.set_backend.ensures,
      c.in-Ok.ensures.1,
      c.get_backend.ensures,
    ) refl

pub returns-in-NoMemoryRegion : goal.returns-in-NoMemoryRegion
unfolding effect
returns-in-NoMemoryRegion g c =
    let is = subst (λ (l : List Region). Removes c.args.base c.args.size l (Err c.in-Err.error)) c.get_backend.ensures c.in-Err.ensures in
    rw (has_none c.args.base c.args.size c.args.self.now.mem.backend c.in-Err.error c.in-NoMemoryRegion.is is) refl

pub returns : goal.returns
returns g c =
    let is = subst (λ (l : List Region). Removes c.args.base c.args.size l (Err c.in-Err.error)) c.get_backend.ensures c.in-Err.ensures in
    (lacks_room c.args.base c.args.size c.args.self.now.mem.backend c.in-Err.error c.in_default.not-NoMemoryRegion is, refl)
