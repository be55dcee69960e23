use Rattle.std.proofs.Common.{◌≡◌, ap, ◌∙◌, length, replicate}
use Rattle.vm_bitmaps.specs.Pages.{words_of, mark_of}
use Rattle.vm_bitmaps.specs.Words.{page_bit, bit_of}
use Rattle.vm_bitmaps.proofs.PageMarks.{clean_zeros, words_of-is, length-words_of, page_bit-is, cleared_set}
use Rattle.vm_bitmaps.proofs.SummaryLemmas.{zeros_summary}
use Rattle.vm_bitmaps.proofs.page_bitmap.PageBitmap.get_and_reset.Goals as goal

-- the words after the write
words_are : (c : goal.After-replace) → c.replace.new.dest.items ≡ replicate (length c.self.inside.words.items) 0
words_are c = ap (λ v. v.items) c.replace.ensures.after ∙ c.in_ok-fresh.ensures.zeros

pub invariant_of-self : goal.invariant_of-self
invariant_of-self c =
    rw (words_are c, c.fill.ensures.items (λ y e. e)) (
      c.self.invariant.0,
      c.self.invariant.1,
      clean_zeros _ _ c.self.invariant.2.count,
      zeros_summary _ _ (c.self.inside.summary.ok.0 ∙ c.self.invariant.3.count),
    )

pub returns-clause-words : goal.returns-clause-words
returns-clause-words c =
    ap (λ v. v.items) c.replace.ensures.value ∙ words_of-is c.self.inside.len c.self.inside.words.items c.self.invariant.2
    c.in_ok-fresh.ensures.fits ∙ ap (λ b. words_of b.marks) c.self.view_is

pub returns-clause-count : goal.returns-clause-count
returns-clause-count c =
    c.replace.result.ok.0 ∙ ap length (returns-clause-words c) ∙ length-words_of c.args.self.now.marks

pub returns-clause-bits : goal.returns-clause-bits
returns-clause-bits c p =
    ap (λ v. page_bit v.items p) c.replace.ensures.value ∙ page_bit-is c.self.inside.len c.self.inside.words.items p c.self.invariant.2
    ∙ ap (λ b. bit_of (mark_of b.marks p)) c.self.view_is

pub returns-clause-ok : goal.returns-clause-ok
returns-clause-ok c =
    cleared_set c.self.inside.page_size c.self.inside.byte_size c.self.inside.len c.self.inside.words.items c.replace.new.dest.items
    (length c.self.inside.words.items)
    c.args.self.now c.self.view_is c.self.invariant.1 (words_are c)
