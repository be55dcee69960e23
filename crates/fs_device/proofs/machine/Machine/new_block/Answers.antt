use Rattle.std.proofs.Common.{refl}
use Rattle.vm_bitmaps.specs.Pages.{pages_of}
use Rattle.plain_machine.specs.Run.{effect}
use Rattle.fs_device.proofs.LayoutLemmas.{no_bytes, page_count-is}
use Rattle.fs_device.proofs.MappingLemmas.{kept_behind}
use Rattle.fs_device.proofs.machine.Machine.new_block.Goals as goal

pub returns-then-len-eq0 : goal.returns-then-len-eq0
unfolding effect
returns-then-len-eq0 g c = rw c.if-len-eq0.true refl

pub invariant_of-self : goal.invariant_of-self
invariant_of-self g c = record {
  held = kept_behind (pages_of 4096) c.args.len c.args.self.now.host c.new_block.new.self c.args.self.now.mem.backend _
      c.args.self.now.mem.io_bitmap c.new_block.result
      c.new_block.ensures.ok c.new_block.ensures.err c.args.self.now.held;
}

pub returns-in-Ok : goal.returns-in-Ok
unfolding effect
returns-in-Ok g c = rw (no_bytes c.args.len c.if-len-eq0.false, c.in-Ok.ensures.number, c.in-Ok.ensures.ok, page_count-is c.args.len) refl
