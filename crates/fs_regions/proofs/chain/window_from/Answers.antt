use Rattle.std.proofs.Common.{◌≡◌, ◌∙◌, ◌+◌, ◌-◌, ◌∷◌, drop, true, false, sym, ap, arith}
use mathlib.Core.Bool.{beq}
use Rattle.vm_memory_core.proofs.WindowLemmas.{drop_item}
use Rattle.fs_queue.specs.Chain.{Descriptor, is_writable}
use Rattle.fs_regions.proofs.Directions.{Skips, window_if, hole_if, skips_on, skips_other, beyond_if, unmapped_if}
use Rattle.fs_regions.proofs.chain.window_from.Goals as goal
use Rattle.fs_regions.proofs.chain.window_from.Goals.{then-is_write_only-write_only+else-skip-len, else-is_write_only-write_only}

pub returns-then-skip-len-clause-some : goal.returns-then-skip-len-clause-some
returns-then-skip-len-clause-some c =
    let item = drop_item c.args.descriptors.now c.loop-descriptor.descriptor-index c.descriptor-item.result c.loop-descriptor-test.true
    c.descriptor-item.is in
    let this : beq (is_writable c.descriptor-item.result) c.args.write_only ≡ true =
    ap (λ x. beq x c.args.write_only) (sym c.is_write_only.ensures) ∙ c.if-is_write_only-write_only.true in
    window_if c.args.regions.now c.args.write_only c.args.descriptors.now c.args.from c.loop-descriptor.skip c.descriptor-item.result
    (drop (c.loop-descriptor.descriptor-index + 1) c.args.descriptors.now) c.window_at.result
    c.descriptor.inside.addr c.from-len.result this (ap (λ (d : Descriptor). d.addr) c.descriptor.view_is)
    (c.from-len.ensures ∙ ap (λ (d : Descriptor). d.len) c.descriptor.view_is) c.if-skip-len.true
    (rw item at c.loop-descriptor.invariant) (rw c.access_of.ensures at c.window_at.ensures.some) c.window_at.ensures.longest

pub returns-then-skip-len-clause-none : goal.returns-then-skip-len-clause-none
returns-then-skip-len-clause-none c = λ none all.
    let item = drop_item c.args.descriptors.now c.loop-descriptor.descriptor-index c.descriptor-item.result c.loop-descriptor-test.true
    c.descriptor-item.is in
    let this : beq (is_writable c.descriptor-item.result) c.args.write_only ≡ true =
    ap (λ x. beq x c.args.write_only) (sym c.is_write_only.ensures) ∙ c.if-is_write_only-write_only.true in
    absurd (hole_if c.args.regions.now c.args.write_only c.args.descriptors.now c.args.from c.loop-descriptor.skip c.descriptor-item.result
    (drop (c.loop-descriptor.descriptor-index + 1) c.args.descriptors.now)
    c.descriptor.inside.addr c.from-len.result this (ap (λ (d : Descriptor). d.addr) c.descriptor.view_is)
    (c.from-len.ensures ∙ ap (λ (d : Descriptor). d.len) c.descriptor.view_is) c.if-skip-len.true
    (rw item at c.loop-descriptor.invariant) all (rw c.access_of.ensures at (c.window_at.ensures.none none)))

pub returns-then-skip-descriptor-clause-unmapped : goal.returns-then-skip-descriptor-clause-unmapped
returns-then-skip-descriptor-clause-unmapped c = λ none.
    let item = drop_item c.args.descriptors.now c.loop-descriptor.descriptor-index c.descriptor-item.result c.loop-descriptor-test.true
    c.descriptor-item.is in
    let this : beq (is_writable c.descriptor-item.result) c.args.write_only ≡ true =
    ap (λ x. beq x c.args.write_only) (sym c.is_write_only.ensures) ∙ c.if-is_write_only-write_only.true in
    let beyond = c.if-skip-descriptor.true in
    beyond_if c.args.regions.now c.args.write_only c.args.descriptors.now c.args.from c.loop-descriptor.skip c.descriptor-item.result
    (drop (c.loop-descriptor.descriptor-index + 1) c.args.descriptors.now)
    c.descriptor.inside.addr c.from-len.result this (ap (λ (d : Descriptor). d.addr) c.descriptor.view_is)
    (c.from-len.ensures ∙ ap (λ (d : Descriptor). d.len) c.descriptor.view_is) c.if-skip-len.true
    (rw item at c.loop-descriptor.invariant) (omega (arith, beyond))

pub returns-then-skip-len-clause-unmapped : goal.returns-then-skip-len-clause-unmapped
returns-then-skip-len-clause-unmapped c = λ none.
    let item = drop_item c.args.descriptors.now c.loop-descriptor.descriptor-index c.descriptor-item.result c.loop-descriptor-test.true
    c.descriptor-item.is in
    let this : beq (is_writable c.descriptor-item.result) c.args.write_only ≡ true =
    ap (λ x. beq x c.args.write_only) (sym c.is_write_only.ensures) ∙ c.if-is_write_only-write_only.true in
    unmapped_if c.args.regions.now c.args.write_only c.args.descriptors.now c.args.from c.loop-descriptor.skip c.descriptor-item.result
    (drop (c.loop-descriptor.descriptor-index + 1) c.args.descriptors.now)
    c.descriptor.inside.addr c.from-len.result this (ap (λ (d : Descriptor). d.addr) c.descriptor.view_is)
    (c.from-len.ensures ∙ ap (λ (d : Descriptor). d.len) c.descriptor.view_is) c.if-skip-len.true
    (rw item at c.loop-descriptor.invariant) (rw c.access_of.ensures at (c.window_at.ensures.none none))

pub loop-descriptor-preserved : goal.loop-descriptor-preserved
loop-descriptor-preserved c =
    let item = drop_item c.args.descriptors.now c.loop-descriptor.descriptor-index c.descriptor-item.result c.loop-descriptor-test.true
    c.descriptor-item.is in
    let skips : Skips c.args.regions.now c.args.write_only c.args.descriptors.now c.args.from c.loop-descriptor.skip
    (c.descriptor-item.result ∷ drop (c.loop-descriptor.descriptor-index + 1) c.args.descriptors.now) =
    rw item at c.loop-descriptor.invariant in
    elim c.if-is_write_only-write_only.branch [
      | then-is_write_only-write_only+else-skip-len w ↦
          let this : beq (is_writable c.descriptor-item.result) c.args.write_only ≡ true =
          ap (λ x. beq x c.args.write_only) (sym c.is_write_only.ensures) ∙ w.if-is_write_only-write_only.true in
          let long : w.from-len.result ≡ c.descriptor-item.result.len =
          w.from-len.ensures ∙ ap (λ (d : Descriptor). d.len) c.descriptor.view_is in
          let on = skips_on c.args.regions.now c.args.write_only c.args.descriptors.now c.args.from c.loop-descriptor.skip
          c.descriptor-item.result
          (drop (c.loop-descriptor.descriptor-index + 1) c.args.descriptors.now)
          this (rw long at w.if-skip-len.false) skips in
          rw (w.skip-is ∙ ap (λ n. c.loop-descriptor.skip - n) long) on
      | else-is_write_only-write_only w ↦
          let other : beq (is_writable c.descriptor-item.result) c.args.write_only ≡ false =
          ap (λ x. beq x c.args.write_only) (sym c.is_write_only.ensures) ∙ w.if-is_write_only-write_only.false in
          rw w.skip-is (skips_other c.args.regions.now c.args.write_only c.args.descriptors.now c.args.from c.loop-descriptor.skip
          c.descriptor-item.result
          (drop (c.loop-descriptor.descriptor-index + 1) c.args.descriptors.now) other skips)
    ]
