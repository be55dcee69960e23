use Rattle.std.proofs.Common.{ℕ, List, ap, sym, subst, ◌∙◌, arith}
use Rattle.vm_atomic_bitmaps.specs.declared.counts.Tally.{Tally}
use Rattle.vm_atomic_bitmaps.specs.declared.ranges.PageChange.{PageChange}
use Rattle.vm_atomic_bitmaps.specs.Counts.{marked_by, cleared_by, picks}
use Rattle.vm_atomic_bitmaps.specs.Passes.{Pass, ByMark, ByClearing, ByChange, ChangesInWord}
use Rattle.vm_atomic_bitmaps.proofs.PageRuns.{none_of_past, marks_bits, clears_bits}
use Rattle.vm_atomic_bitmaps.proofs.atomic_bitmap.AtomicBitmap.change_in_word.Goals as goal

pub mark_word-requires-clause-past : goal.mark_word-requires-clause-past
mark_word-requires-clause-past c =
    let bits_are = c.bits_in_word-from.ensures in
    let end = bits_are.end in
    let within = c.requires.within in
    none_of_past c.args.self.now.len c.args.word c.bits_in_word-from.result.0 c.bits_in_word-from.result.1 bits_are.bits.1 (omega arith)
    c.mask-bits.result c.mask-bits.ensures

pub returns-in-Mark-clause-pages : goal.returns-in-Mark-clause-pages
returns-in-Mark-clause-pages c =
    let v = c.args.pass.now.counts in
    let bits_are = c.bits_in_word-from.ensures in
    let run = marks_bits v c.args.word c.bits_in_word-from.result.0 c.bits_in_word-from.result.1 c.mark_word.result _ _ bits_are.bits.1
    bits_are.first bits_are.end c.mark_word.ensures.word in
    let bits = ap (λ (m : ℕ). marked_by (picks c.args.word m 1) c.mark_word.result v.pages) c.mask-bits.ensures in
    subst (λ (k : PageChange). ChangesInWord (ByChange k v) v.pages c.mark_word.new.pass.counts.pages c.args.word c.args.first c.args.last)
    (sym c.in-Mark.is)
    (subst (λ (l : List Tally). ChangesInWord (ByMark v) v.pages l c.args.word c.args.first c.args.last)
    (sym (ap (λ (p : Pass). p.counts.pages) c.mark_word.ensures.pass ∙ bits)) run)

pub returns-in-Clear-clause-pages : goal.returns-in-Clear-clause-pages
returns-in-Clear-clause-pages c =
    let v = c.args.pass.now.counts in
    let bits_are = c.bits_in_word-from.ensures in
    let run = clears_bits v c.args.word c.bits_in_word-from.result.0 c.bits_in_word-from.result.1 c.clear_word.result _ _ bits_are.bits.1
    bits_are.first bits_are.end c.clear_word.ensures.word in
    let bits = ap (λ (m : ℕ). cleared_by (picks c.args.word m 1) c.clear_word.result v.pages) c.mask-bits.ensures in
    subst (λ (k : PageChange). ChangesInWord (ByChange k v) v.pages c.clear_word.new.pass.counts.pages c.args.word c.args.first c.args.last)
    (sym c.in-Clear.is)
    (subst (λ (l : List Tally). ChangesInWord (ByClearing v) v.pages l c.args.word c.args.first c.args.last)
    (sym (ap (λ (p : Pass). p.counts.pages) c.clear_word.ensures.pass ∙ bits)) run)
