use Rattle.std.proofs.Common.{◌+◌, ◌*◌, ◌<◌, length, List, ap, sym, subst, set, arith}
use Rattle.vm_atomic_bitmaps.specs.declared.counts.Tally.{Tally}
use Rattle.vm_atomic_bitmaps.specs.Passes.{Pass, ChangesRun, ByGathering}
use Rattle.vm_atomic_bitmaps.proofs.PageRuns.{gathers_word, is_gathered}
use Rattle.vm_atomic_bitmaps.proofs.atomic_bitmap.AtomicBitmap.take_into.Goals as goal

pub returns-clause-pages : goal.returns-clause-pages
returns-clause-pages c =
    let words = c.args.words.now in
    let w = c.args.word in
    let inside : w < length words = let a = c.requires.inside in let b = c.requires.room in omega arith in
    let run = gathers_word (ByGathering (set words w c.gather.result)) c.args.pass.now.counts.pages w c.gather.result
    (λ p within here. is_gathered words w c.gather.result p _ inside here) in
    subst (λ (l : List Tally). ChangesRun (ByGathering (set words w c.gather.result)) c.args.pass.now.counts.pages l (64 * w) (64 * w + 64))
    (sym (ap (λ (p : Pass). p.counts.pages) c.gather.ensures.pass)) run
