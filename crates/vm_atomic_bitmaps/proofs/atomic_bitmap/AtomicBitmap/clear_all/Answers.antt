use Rattle.std.proofs.Common.{◌≡◌, ◌+◌, ◌*◌, List, ap, sym, subst, ◌∙◌, arith}
use Rattle.vm_atomic_bitmaps.specs.declared.counts.Tally.{Tally}
use Rattle.vm_atomic_bitmaps.specs.Counts.{cleared_by, in_word}
use Rattle.vm_atomic_bitmaps.specs.Passes.{Pass, ChangesRun, ByClearing, counting}
use Rattle.vm_atomic_bitmaps.proofs.PageRuns.{gathers_word, is_cleared, run_then}
use Rattle.vm_atomic_bitmaps.proofs.atomic_bitmap.AtomicBitmap.clear_all.Goals as goal

pub loop-i-preserved : goal.loop-i-preserved
loop-i-preserved c =
    let i = c.loop-i.i in
    let cur = c.loop-i.pass.counts.pages in
    let new = c.gather.new.pass.counts.pages in
    let v = c.loop-i.pass.counts in
    let one = gathers_word (ByClearing v) cur i c.gather.result
    (λ p within here. is_cleared v i c.gather.result p c.gather.ensures.word within here) in
    let step = subst (λ (l : List Tally). ChangesRun (ByClearing v) cur l (64 * i) (64 * i + 64))
    (sym (ap (λ (p : Pass). p.counts.pages) c.gather.ensures.pass)) one in
    let its = subst (λ (q : Pass). ChangesRun (ByClearing q.counts) cur new (64 * i) (64 * i + 64)) c.loop-i.invariant.1 step in
    let run = run_then (ByClearing c.args.pass.now.counts) c.args.pass.now.counts.pages cur new 0 (64 * i) (64 * i) (64 * i + 64)
    c.loop-i.invariant.2 its
    (omega arith) (omega arith) (λ p a b. b) (omega arith) in
    let next : 64 * i + 64 ≡ 64 * (i + 1) = omega arith in
    let t = c.loop-i-test.true in
    let w = c.words.ensures in (
      omega arith,
      c.gather.ensures.pass ∙ ap (λ (q : Pass). counting q (cleared_by (in_word i) c.gather.result q.counts.pages)) c.loop-i.invariant.1
          ∙ ap (counting c.args.pass.now) (sym (ap (λ (p : Pass). p.counts.pages) c.gather.ensures.pass)),
      subst (ChangesRun (ByClearing c.args.pass.now.counts) c.args.pass.now.counts.pages new 0) next run,
    )
