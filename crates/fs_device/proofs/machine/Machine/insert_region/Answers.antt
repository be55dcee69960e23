use Rattle.std.proofs.Common.{◌≡◌, ◌∙◌, List, false, sym, refl, subst}
use Rattle.std.specs.List.{list_any}
use Rattle.vm_memory_core.specs.Host.{lengths}
use Rattle.vm_memory.specs.Layout.{Region, overlap}
use Rattle.plain_machine.specs.Run.{effect}
use Rattle.fs_device.specs.MachineView.{machine_of}
use Rattle.fs_device.proofs.LayoutLemmas.{held_with, unknown, known, past_end, within, proceeds, has_block}
use Rattle.fs_device.proofs.machine.Machine.insert_region.Goals as goal
use Rattle.vm_memory.proofs.LayoutLemmas.{HasBlock}

pub returns-in_default : goal.returns-in_default
unfolding effect
returns-in_default g c = sym (unknown (machine_of c.args.self.now) c.args.base c.args.block c.in_default.ensures)

pub returns-in_default-new : goal.returns-in_default-new
unfolding effect
returns-in_default-new g c =
    let m = c.in-Some.region in
    rw (known (machine_of c.args.self.now) c.args.base c.args.block m c.in-Some.ensures, past_end c.args.base m c.in_default-new.ensures)
    refl

pub invariant_of-self : goal.invariant_of-self
invariant_of-self g c =
    let r = c.in-Ok.region.value in
    let new : r ≡ c.in-Some-new.region = c.in-Ok.ensures.ok in
    let there = lengths c.args.self.now.host in
    let here = subst (HasBlock there) (sym new) (has_block c.args.self.now.host c.args.base c.args.block c.in-Some.region
    c.in-Some-new.region c.in-Some.ensures c.in-Some-new.ensures) in
    let held = c.args.self.now.held in
    record {
      held = rw (c.set_backend.ensures, c.in-Ok-insert_region.ensures.1, c.get_backend-2.ensures)
          (held_with there r c.args.self.now.mem.backend here held.0, held.1, held.2);
    }

pub returns-in-Ok-insert_region : goal.returns-in-Ok-insert_region
unfolding effect
returns-in-Ok-insert_region g c =
    let m = c.in-Some.region in
    let is = within c.args.base m c.in-Some-new.region c.in-Some-new.ensures in
    rw (
      known (machine_of c.args.self.now) c.args.base c.args.block m c.in-Some.ensures,
      is.0,
      is.1,
      ← c.in-Ok.ensures.ok,
      ← c.get_backend-2.ensures,
      c.in-Ok-insert_region.ensures.0,
      c.set_backend.ensures,
      c.in-Ok-insert_region.ensures.1,
    ) refl

pub returns-then-overlaps_any : goal.returns-then-overlaps_any
unfolding effect
returns-then-overlaps_any g c =
    let m = c.in-Some.region in
    let is = within c.args.base m c.in-Some-new.region c.in-Some-new.ensures in
    let common = sym c.overlaps_any.ensures ∙ c.if-overlaps_any.true in
    rw (known (machine_of c.args.self.now) c.args.base c.args.block m c.in-Some.ensures, is.0, is.1, ← c.get_backend.ensures, common) refl

pub returns-in_default-new-2 : goal.returns-in_default-new-2
returns-in_default-new-2 g c =
    let apart = subst (λ (l : List Region). list_any (overlap c.in-Some-new.region) l ≡ false) c.get_backend.ensures
    (sym c.overlaps_any.ensures ∙ c.if-overlaps_any.false) in (
      proceeds c.args.self.now.host c.args.self.now.mem.backend c.args.base c.args.block c.in-Some.region c.in-Some-new.region
          c.in-Some.ensures
          c.in-Some-new.ensures apart,
      refl,
    )

pub returns-in-Err : goal.returns-in-Err
returns-in-Err g c =
    let apart = subst (λ (l : List Region). list_any (overlap c.in-Some-new.region) l ≡ false) c.get_backend.ensures
    (sym c.overlaps_any.ensures ∙ c.if-overlaps_any.false) in (
      proceeds c.args.self.now.host c.args.self.now.mem.backend c.args.base c.args.block c.in-Some.region c.in-Some-new.region
          c.in-Some.ensures
          c.in-Some-new.ensures apart,
      refl,
    )
