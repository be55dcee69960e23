use Rattle.std.specs.Prelude.{if◌then◌else◌, IfOk}
use Rattle.std.proofs.Common.{◌≡◌, Bool, List, Option, Some, None, ◌+◌, ◌<◌, ◌^◌, ◌∙◌, drop, sym, ap, subst, arith}
use mathlib.Core.Bool.{beq}
use Rattle.vm_memory_core.specs.Window.{places}
use Rattle.vm_memory_core.specs.Host.{Place, lengths}
use Rattle.vm_memory.specs.Memory.{addresses, location}
use Rattle.vm_memory_core.proofs.WindowLemmas.{drop_item}
use Rattle.fs_queue.specs.Chain.{Descriptor}
use Rattle.fs_queue.specs.WalkingView.{AllEndIn64Bits}
use Rattle.fs_queue.specs.Taking.{access_of, addresses_of, of_direction}
use Rattle.fs_queue.proofs.TakeLemmas.{direction_begun, direction_next, direction_other, direction_done, none_lies}
use Rattle.fs_queue.proofs.take.add_direction.Goals as goal
use Rattle.fs_queue.proofs.take.add_direction.Goals.{
  else-is_write_only-write_only-via-then-is_write_only-write_only+in_ok-extend_range+else-not-branch,
}
use Rattle.fs_queue.proofs.take.add_direction.Goals.{else-is_write_only-write_only-via-else-is_write_only-write_only}

pub loop-descriptor-init : goal.loop-descriptor-init
loop-descriptor-init g c = rw c.requires.none
    (record { found = direction_begun _ _; lie = none_lies (lengths (g.H.HostBlocks.host c.args.host.now)); range = omega arith })

pub extend_range-requires-clause-descriptor : goal.extend_range-requires-clause-descriptor
unfolding AllEndIn64Bits
extend_range-requires-clause-descriptor g c =
    subst (λ (d : Descriptor). d.addr + d.len < 2 ^ 64) (sym c.descriptor-item.is)
    (c.requires.fits _ c.descriptor-item.result c.loop-descriptor-test.true)

pub returns-then-not-branch-clause-found : goal.returns-then-not-branch-clause-found
returns-then-not-branch-clause-found g c =
    let next = drop_item c.args.descriptors.now c.loop-descriptor.descriptor-index c.descriptor-item.result c.loop-descriptor-test.true
    c.descriptor-item.is in
    let kept = ap (λ x. beq x c.args.write_only) (sym c.is_write_only.ensures) ∙ c.if-is_write_only-write_only.true in
    let lost = rw (c.if-not-branch.true, c.access_of-access.ensures) at
    (c.in_ok-extend_range.ensures.found
    (addresses_of (of_direction c.args.write_only (drop (c.loop-descriptor.descriptor-index + 1) c.args.descriptors.now)))) in
    sym (sym (direction_next (location (g.M.GuestMemory.memory c.args.mem.now (g.H.HostBlocks.host c.args.host.now))
    (access_of c.args.write_only)) c.args.write_only
    c.args.descriptors.now c.loop-descriptor.descriptor-index _ _ (places c.loop-descriptor.windows.items) next kept ∙ lost)
    ∙ c.loop-descriptor.invariant.found)

pub loop-descriptor-preserved : goal.loop-descriptor-preserved
loop-descriptor-preserved g c =
    let next = drop_item c.args.descriptors.now c.loop-descriptor.descriptor-index c.descriptor-item.result c.loop-descriptor-test.true
    c.descriptor-item.is in
    elim c.else-is_write_only-write_only.branch [
      | else-is_write_only-write_only-via-then-is_write_only-write_only+in_ok-extend_range+else-not-branch w ↦
          let kept = ap (λ x. beq x c.args.write_only) (sym c.is_write_only.ensures) ∙ w.if-is_write_only-write_only.true in
          let found = rw (w.if-not-branch.false, c.access_of-access.ensures) at
          (w.in_ok-extend_range.ensures.found
          (addresses_of (of_direction c.args.write_only (drop (c.loop-descriptor.descriptor-index + 1) c.args.descriptors.now)))) in
          rw (w.windows-is, w.range-is) (record {
            found = sym (direction_next (location (g.M.GuestMemory.memory c.args.mem.now (g.H.HostBlocks.host c.args.host.now))
                (access_of c.args.write_only))
                c.args.write_only c.args.descriptors.now c.loop-descriptor.descriptor-index _ _ (places c.loop-descriptor.windows.items)
                next kept ∙ found) ∙ c.loop-descriptor.invariant.found;
            lie = w.extend_range.ensures.lie c.loop-descriptor.invariant.lie;
            range = w.extend_range.ensures.range;
          })
      | else-is_write_only-write_only-via-else-is_write_only-write_only w ↦
          let other = ap (λ x. beq x c.args.write_only) (sym c.is_write_only.ensures) ∙ w.if-is_write_only-write_only.false in
          rw (w.windows-is, w.range-is) (record {
            found = sym (direction_other (location (g.M.GuestMemory.memory c.args.mem.now (g.H.HostBlocks.host c.args.host.now))
                (access_of c.args.write_only))
                c.args.write_only c.args.descriptors.now c.loop-descriptor.descriptor-index _ _ (places c.loop-descriptor.windows.items)
                next other) ∙ c.loop-descriptor.invariant.found;
            lie = c.loop-descriptor.invariant.lie;
            range = c.loop-descriptor.invariant.range;
          })
    ]

pub returns-clause-found : goal.returns-clause-found
returns-clause-found g c =
    let whole = sym (direction_done (location (g.M.GuestMemory.memory c.args.mem.now (g.H.HostBlocks.host c.args.host.now))
    (access_of c.args.write_only))
    c.args.write_only c.args.descriptors.now c.loop-descriptor.descriptor-index
    (addresses c.loop-descriptor.range.start c.loop-descriptor.range.len)
    (places c.loop-descriptor.windows.items) c.loop-descriptor-test.false)
    ∙ c.loop-descriptor.invariant.found in
    subst (λ (o : Option (List Place)). IfOk c.add_windows.result
    (λ (found : Bool). o ≡ (if found then Some (places c.add_windows.new.windows.items) else None))) whole
    (rw c.access_of-access.ensures at c.add_windows.ensures.found)
