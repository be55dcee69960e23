use Rattle.std.proofs.Common.{◌≡◌, ℕ, ◌+◌, ◌*◌, ◌/◌, ap, subst, refl, ◌∙◌, min, max, arith}
use Rattle.vm_atomic_bitmaps.specs.Passes.{Pass, ChangesRun, ByChange, counting}
use Rattle.vm_atomic_bitmaps.proofs.PageRuns.{run_none, run_then}
use Rattle.vm_atomic_bitmaps.proofs.atomic_bitmap.AtomicBitmap.change_run.Goals as goal

pub loop-word-init : goal.loop-word-init
loop-word-init c = let h = c.requires.ordered in (
  omega arith,
  omega arith,
  refl,
  run_none (ByChange c.args.change c.args.pass.now.counts) c.args.pass.now.counts.pages c.args.first
      (min (c.args.last + 1) (64 * (c.args.first / 64))) (omega arith),
)

pub change_in_word-requires-clause-own : goal.change_in_word-requires-clause-own
change_in_word-requires-clause-own c =
    (ap (λ (p : Pass). p.name) c.loop-word.invariant.2 ∙ c.requires.own.0, c.loop-word.invariant.3.count ∙ c.requires.own.1)

pub loop-word-preserved : goal.loop-word-preserved
loop-word-preserved c =
    let w = c.loop-word-test.true in
    let i0 = c.loop-word.invariant.0 in
    let new = c.change_in_word.new.pass.counts.pages in
    let lo : ℕ = max c.args.first (64 * c.loop-word.word) in
    let hi : ℕ = min (c.args.last + 1) (64 * c.loop-word.word + 64) in
    let o = c.requires.ordered in
    let same = c.loop-word.invariant.2 in
    let one = subst (λ (q : Pass). ChangesRun (ByChange c.args.change q.counts) c.loop-word.pass.counts.pages new lo hi) same
    c.change_in_word.ensures.pages in
    let run = run_then (ByChange c.args.change c.args.pass.now.counts) c.args.pass.now.counts.pages c.loop-word.pass.counts.pages new
    c.args.first
    (min (c.args.last + 1) (64 * c.loop-word.word)) lo hi c.loop-word.invariant.3 one
    (omega arith) (omega arith) (λ p a b. omega arith) (omega arith) in
    let next : hi ≡ min (c.args.last + 1) (64 * (c.loop-word.word + 1)) = omega arith in (
      omega arith,
      omega arith,
      c.change_in_word.ensures.pass ∙ ap (λ (q : Pass). counting q new) c.loop-word.invariant.2,
      subst (λ (n : ℕ). ChangesRun (ByChange c.args.change c.args.pass.now.counts) c.args.pass.now.counts.pages new c.args.first n) next
          run,
    )
