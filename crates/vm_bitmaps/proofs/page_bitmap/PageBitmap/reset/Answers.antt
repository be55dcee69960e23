use Rattle.std.proofs.Common.{◌≡◌, ap, ◌∙◌, length, ℕ, List, replicate}
use Rattle.std.specs.Vec.{with_items}
use Rattle.std.proofs.lemmas.List.{with_items_is}
use Rattle.vm_bitmaps.proofs.PageMarks.{clean_zeros, cleared_set}
use Rattle.vm_bitmaps.proofs.SummaryLemmas.{zeros_summary}
use Rattle.vm_bitmaps.proofs.page_bitmap.PageBitmap.reset.Goals as goal

-- the words and the summary after the write
words_are : (c : goal.After-self-2-1) →
    (with_items c.self.inside.words c.clear_words.new.words).items ≡ replicate (length c.self.inside.words.items) 0
words_are c =
    with_items_is c.self.inside.words c.clear_words.new.words (c.clear_words.auto.words ∙ c.deref_mut.ensures.len)
    ∙ c.clear_words.ensures.words
    ∙ ap (λ (l : List ℕ). replicate {A = ℕ} (length l) 0) c.deref_mut.ensures.value

summary_is : (c : goal.After-self-2-1) →
    (with_items c.self.inside.summary c.clear_words.new.summary).items ≡ replicate (length c.self.inside.summary.items) 0
summary_is c =
    with_items_is c.self.inside.summary c.clear_words.new.summary (c.clear_words.auto.summary ∙ c.deref_mut-2.ensures.len)
    ∙ c.clear_words.ensures.summary
    ∙ ap (λ (l : List ℕ). replicate {A = ℕ} (length l) 0) c.deref_mut-2.ensures.value

pub invariant_of-self : goal.invariant_of-self
invariant_of-self c =
    rw (words_are c, summary_is c)
    (c.self.invariant.0, c.self.invariant.1, clean_zeros _ _ c.self.invariant.2.count, zeros_summary _ _ c.self.invariant.3.count)

pub returns : goal.returns
returns c =
    cleared_set c.self.inside.page_size c.self.inside.byte_size c.self.inside.len c.self.inside.words.items
    (with_items c.self.inside.words c.clear_words.new.words).items
    (length c.self.inside.words.items) c.args.self.now c.self.view_is c.self.invariant.1 (words_are c)
