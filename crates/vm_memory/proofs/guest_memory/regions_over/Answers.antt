use Rattle.std.proofs.Common.{inr, refl, ◌∙◌, arith, ap, length}
use Rattle.std.proofs.lemmas.Option.{slice_get-get_or}
use Rattle.vm_memory_core.specs.Host.{Host}
use Rattle.vm_memory.proofs.MakingLemmas.{no_range, all_more, grown_more, length-grown_by, regions_more, shared-push, refused_at}
use Rattle.vm_memory.proofs.guest_memory.regions_over.Goals as goal

pub returns-in_default : goal.returns-in_default
returns-in_default g c =
    let made = c.in-Ok.ensures.made in (
      c.loop-range.range-index,
      _,
      slice_get-get_or c.args.ranges.now c.loop-range.range-index no_range c.loop-range-test.true,
      made.0,
      inr (
        all_more c.args.ranges.now c.loop-range.range-index no_range _ c.loop-range-test.true refl c.loop-range.invariant.good
            made.0 made.1,
        grown_more g.B.NewBitmap.count c.args.host.now c.loop-range.host c.from_range.new.h c.args.ranges.now c.loop-range.range-index
            no_range _ c.loop-range-test.true
            refl c.loop-range.invariant.host made.3,
      ),
    )

pub returns-in-Err-push : goal.returns-in-Err-push
returns-in-Err-push g c =
    let made = c.in-Ok.ensures.made in (
      c.loop-range.range-index,
      _,
      slice_get-get_or c.args.ranges.now c.loop-range.range-index no_range c.loop-range-test.true,
      made.0,
      inr (
        all_more c.args.ranges.now c.loop-range.range-index no_range _ c.loop-range-test.true refl c.loop-range.invariant.good
            made.0 made.1,
        grown_more g.B.NewBitmap.count c.args.host.now c.loop-range.host c.from_range.new.h c.args.ranges.now c.loop-range.range-index
            no_range _ c.loop-range-test.true
            refl c.loop-range.invariant.host made.3,
      ),
    )

pub loop-range-preserved : goal.loop-range-preserved
loop-range-preserved g c =
    let made = c.in-Ok.ensures.made in
    let count = length-grown_by g.B.NewBitmap.count c.args.host.now c.args.ranges.now c.loop-range.range-index (omega arith) in
    record {
      good = all_more c.args.ranges.now c.loop-range.range-index no_range _ c.loop-range-test.true refl c.loop-range.invariant.good
          made.0 made.1;
      host = grown_more g.B.NewBitmap.count c.args.host.now c.loop-range.host c.from_range.new.h c.args.ranges.now
          c.loop-range.range-index no_range _
          c.loop-range-test.true refl c.loop-range.invariant.host made.3;
      made = regions_more _ _ c.args.ranges.now c.loop-range.range-index (length c.args.host.now.blocks) _ no_range _ c.in-Ok.region
          c.loop-range-test.true refl c.loop-range.invariant.made made.2
          (ap (λ (h : Host). length h.blocks) c.loop-range.invariant.host ∙ count)
          (shared-push c.loop-range.regions.items c.push.new.self.items c.in-Ok-new.region c.in-Ok.region c.in-Ok-push.ensures.items
          c.in-Ok-new.ensures.ok);
    }

pub returns-in-Err : goal.returns-in-Err
returns-in-Err g c = refused_at g.B.NewBitmap.count c.args.host.now c.loop-range.host c.from_range.new.h c.args.ranges.now
    c.loop-range.range-index no_range _ c.in-Err.error c.loop-range-test.true
    refl c.loop-range.invariant.good c.loop-range.invariant.host c.in-Err.ensures.made
