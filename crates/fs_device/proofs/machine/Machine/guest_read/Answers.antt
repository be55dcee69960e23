use Rattle.std.proofs.Common.{◌≡◌, ◌∙◌, sym, refl, rules, length}
use Rattle.std.specs.Vec.{with_items}
use Rattle.std.proofs.lemmas.List.{with_items_is}
use Rattle.vm_memory.specs.Memory.{addresses}
use Rattle.plain_machine.specs.Run.{effect}
use Rattle.fs_device.proofs.machine.Machine.guest_read.Goals as goal

pub returns-then-not-reaches : goal.returns-then-not-reaches
unfolding effect
returns-then-not-reaches g c = rw (sym c.reaches.ensures ∙ c.if-not-reaches.true) refl

pub returns-then-len-eq0 : goal.returns-then-len-eq0
unfolding effect addresses
returns-then-len-eq0 g c = rw (sym c.reaches.ensures ∙ c.if-not-reaches.false, c.if-len-eq0.true, c.new.ensures.items) refl

pub returns : goal.returns
unfolding effect
returns g c =
    let items : (with_items c.in-Ok.bytes c.fill.new.buffer).items ≡ c.fill.new.buffer =
    with_items_is c.in-Ok.bytes c.fill.new.buffer (c.fill.auto.buffer ∙ c.deref_mut.ensures.len) in
    let size : length c.deref_mut.result.now ≡ c.args.len = Prim.search rules in
    rw (sym c.reaches.ensures ∙ c.if-not-reaches.false, items, c.fill.ensures, size) refl
