use Rattle.std.proofs.Common.{◌≡◌, ℕ, ◌+◌, ◌*◌, ◌<◌, length, List, ap, sym, subst, set, ◌∙◌, arith}
use Rattle.std.proofs.lemmas.List.{length-set}
use Rattle.vm_bitmaps.specs.Words.{page_bit}
use Rattle.vm_atomic_bitmaps.specs.Counts.{tally_of, IsWhole}
use Rattle.vm_atomic_bitmaps.specs.Steps.{Settles}
use Rattle.vm_atomic_bitmaps.specs.Passes.{Pass, ChangesRun, ByGathering, counting}
use Rattle.vm_atomic_bitmaps.proofs.PageRuns.{into_before, run_as, run_then, settles_more}
use Rattle.vm_atomic_bitmaps.proofs.AllowedSteps.{rest_after}
use Rattle.vm_atomic_bitmaps.proofs.atomic_bitmap.AtomicBitmap.take_all.Goals as goal

pub loop-i-preserved : goal.loop-i-preserved
loop-i-preserved c =
    let i = c.loop-i.i in
    let before = c.loop-i.words in
    let bits = c.take_into.ensures.words.0 in
    let is : c.take_into.new.words ≡ set before i bits = c.take_into.ensures.words.1 in
    let old = c.args.pass.now.counts.pages in
    let cur = c.loop-i.pass.counts.pages in
    let new = c.take_into.new.pass.counts.pages in
    let inside : i < length before = c.loop-i-test.true in
    let count = c.loop-i.invariant.0 in
    let same : length c.take_into.new.words ≡ length before = ap length is ∙ length-set before i bits in
    let preserved = run_as (ByGathering before) (ByGathering (set before i bits)) old cur 0 (64 * i)
    (λ p t u low e. into_before before i bits p t u low e) c.loop-i.invariant.3 in
    let preserved' = subst (λ (l : List ℕ). ChangesRun (ByGathering l) old cur 0 (64 * i)) (sym is) preserved in
    let run = run_then (ByGathering c.take_into.new.words) old cur new 0 (64 * i) (64 * i) (64 * i + 64) preserved'
    c.take_into.ensures.pages
    (omega arith) (omega arith) (λ p a b. b) (omega arith) in
    let next : 64 * i + 64 ≡ 64 * (i + 1) = omega arith in (
      omega arith,
      omega arith,
      c.take_into.ensures.pass ∙ ap (λ (q : Pass). counting q new) c.loop-i.invariant.2,
      subst (ChangesRun (ByGathering c.take_into.new.words) old new 0) next run,
      λ p l. ap (λ (ws : List ℕ). page_bit ws p) is ∙ rest_after c.args.self.now.len before i bits inside c.loop-i.invariant.4
          (λ q far here z. c.take_into.ensures.words.2 q far here) p l,
      λ whole p l low. subst (λ (ws : List ℕ). Settles (tally_of old p) (page_bit ws p)) (sym is)
          (settles_more old cur before i bits inside c.loop-i.invariant.3
          (λ q here short. c.take_into.ensures.words.3 (subst (λ (q : Pass). IsWhole q.counts) (sym c.loop-i.invariant.2) whole)
          q short here)
          (c.loop-i.invariant.5 whole) p l (omega arith)),
    )

pub returns-clause-whole : goal.returns-clause-whole
returns-clause-whole c =
    let count = c.loop-i.invariant.0 in
    let long = c.requires.own.1 in
    let over = c.loop-i-test.false in
    λ whole p l. c.loop-i.invariant.5 whole p l (omega arith)
