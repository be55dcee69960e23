use Rattle.std.proofs.Common.{◌≡◌, ◌∙◌, ℕ, ◌+◌, ◌-◌, ◌%◌, ◌^◌, ◌∷◌, [], take, drop, true, false, sym, ap, subst, arith}
use mathlib.Core.Bool.{beq}
use Rattle.vm_memory_core.proofs.WindowLemmas.{drop_item}
use Rattle.fs_queue.specs.Chain.{Descriptor, is_writable}
use Rattle.fs_queue.specs.Taking.{addresses_of, of_direction}
use Rattle.vm_memory.specs.Memory.{addresses}
use Rattle.fs_regions.specs.Places.{untranslated}
use Rattle.fs_regions.proofs.Directions.{Skips, range_of, skips_on, skips_other, stands}
use Rattle.fs_regions.proofs.chain.range_from.Goals as goal
use Rattle.fs_regions.proofs.chain.range_from.Goals.{then-is_write_only-write_only+else-skip-len, else-is_write_only-write_only}

pub returns-then-skip-len-clause-some : goal.returns-then-skip-len-clause-some
returns-then-skip-len-clause-some c =
    let item = drop_item c.args.descriptors.now c.loop-descriptor.descriptor-index c.descriptor-item.result c.loop-descriptor-test.true
    c.descriptor-item.is in
    let this : beq (is_writable c.descriptor-item.result) c.args.write_only ≡ true =
    ap (λ x. beq x c.args.write_only) (sym c.is_write_only.ensures) ∙ c.if-is_write_only-write_only.true in
    let long : c.from-len.result ≡ c.descriptor-item.result.len =
    c.from-len.ensures ∙ ap (λ (d : Descriptor). d.len) c.descriptor.view_is in
    let d = c.descriptor-item.result in
    let rest = drop (c.loop-descriptor.descriptor-index + 1) c.args.descriptors.now in
    let skips : Skips (untranslated []) c.args.write_only c.args.descriptors.now c.args.from c.loop-descriptor.skip (d ∷ rest) =
    rw item at c.loop-descriptor.invariant in
    let P : ℕ → Type 0 =
    λ n. take (n - c.loop-descriptor.skip) (drop c.args.from (addresses_of (of_direction c.args.write_only c.args.descriptors.now)))
    ≡ addresses (d.addr + c.loop-descriptor.skip) (n - c.loop-descriptor.skip) in
    let there = range_of (untranslated []) c.args.write_only c.args.descriptors.now c.args.from c.loop-descriptor.skip d rest this
    (rw long at c.if-skip-len.true) skips in (
      omega (arith, c.if-skip-len.true),
      d.addr + c.loop-descriptor.skip,
      ap (λ n. (n + c.loop-descriptor.skip) % 2 ^ 64) (ap (λ (x : Descriptor). x.addr) c.descriptor.view_is),
      subst P (sym long) there,
      d,
      c.loop-descriptor.skip,
      stands (untranslated []) c.args.write_only c.args.descriptors.now c.args.from c.loop-descriptor.skip d rest this
          (rw long at c.if-skip-len.true) skips,
      ap (λ n. n - c.loop-descriptor.skip) long,
    )

pub loop-descriptor-preserved : goal.loop-descriptor-preserved
loop-descriptor-preserved c =
    let item = drop_item c.args.descriptors.now c.loop-descriptor.descriptor-index c.descriptor-item.result c.loop-descriptor-test.true
    c.descriptor-item.is in
    let skips : Skips (untranslated []) c.args.write_only c.args.descriptors.now c.args.from c.loop-descriptor.skip
    (c.descriptor-item.result ∷ drop (c.loop-descriptor.descriptor-index + 1) c.args.descriptors.now) =
    rw item at c.loop-descriptor.invariant in
    elim c.if-is_write_only-write_only.branch [
      | then-is_write_only-write_only+else-skip-len w ↦
          let this : beq (is_writable c.descriptor-item.result) c.args.write_only ≡ true =
          ap (λ x. beq x c.args.write_only) (sym c.is_write_only.ensures) ∙ w.if-is_write_only-write_only.true in
          let long : w.from-len.result ≡ c.descriptor-item.result.len =
          w.from-len.ensures ∙ ap (λ (d : Descriptor). d.len) c.descriptor.view_is in
          let on = skips_on (untranslated []) c.args.write_only c.args.descriptors.now c.args.from c.loop-descriptor.skip
          c.descriptor-item.result
          (drop (c.loop-descriptor.descriptor-index + 1) c.args.descriptors.now)
          this (rw long at w.if-skip-len.false) skips in
          rw (w.skip-is ∙ ap (λ n. c.loop-descriptor.skip - n) long) on
      | else-is_write_only-write_only w ↦
          let other : beq (is_writable c.descriptor-item.result) c.args.write_only ≡ false =
          ap (λ x. beq x c.args.write_only) (sym c.is_write_only.ensures) ∙ w.if-is_write_only-write_only.false in
          rw w.skip-is (skips_other (untranslated []) c.args.write_only c.args.descriptors.now c.args.from c.loop-descriptor.skip
          c.descriptor-item.result
          (drop (c.loop-descriptor.descriptor-index + 1) c.args.descriptors.now) other skips)
    ]
