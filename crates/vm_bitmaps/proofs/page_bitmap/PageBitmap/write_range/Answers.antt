use Rattle.std.proofs.Common.{◌≡◌, ap, ◌∙◌, arith, ◌/◌, ◌+◌, min, ◌-◌}
use Rattle.std.specs.Vec.{with_items}
use Rattle.std.proofs.lemmas.List.{with_items_is}
use Rattle.vm_bitmaps.specs.Words.{WritesRun}
use Rattle.vm_bitmaps.proofs.PageMarks.{none_written, past_written, some_written}
use Rattle.vm_bitmaps.proofs.SummaryLemmas.{written_clean}
use Rattle.vm_bitmaps.proofs.page_bitmap.PageBitmap.write_range.Goals as goal

pub returns-then-len-eq0 : goal.returns-then-len-eq0
returns-then-len-eq0 c = none_written c.args.mark c.args.self.now c.args.start c.args.len c.if-len-eq0.true

pub returns-then-first-self : goal.returns-then-first-self
returns-then-first-self c =
    let old = c.self.inside in
    past_written c.args.mark c.args.self.now old.page_size old.byte_size old.len old.words.items c.args.start c.args.len c.self.view_is
    c.self.invariant.0
    (rw (← c.page_of-first.ensures) c.if-first-self.true)

-- the words and the summary after pages were marked
words_marked : (c : goal.After-self-then-mark-1) → (with_items c.self.inside.words c.mark_run.new.words).items ≡ c.mark_run.new.words
words_marked c = with_items_is c.self.inside.words c.mark_run.new.words (c.mark_run.auto.words ∙ c.deref_mut.ensures.len)

summary_marked :
    (c : goal.After-self-then-mark-1) → (with_items c.self.inside.summary c.mark_run.new.summary).items ≡ c.mark_run.new.summary
summary_marked c = with_items_is c.self.inside.summary c.mark_run.new.summary (c.mark_run.auto.summary ∙ c.deref_mut-then-mark.ensures.len)

pub invariant_of-self : goal.invariant_of-self
invariant_of-self c =
    rw (words_marked c, summary_marked c) (
      c.self.invariant.0,
      c.self.invariant.1,
      written_clean c.self.inside.len c.self.inside.words.items _ c.mark_run.new.words c.page_of-first.result c.min-last.result _
          c.self.invariant.2 c.deref_mut.ensures.value c.mark_run.ensures.run
          c.mark_run.auto.words (omega arith),
      c.mark_run.ensures.summary,
    )

run_marked : (c : goal.After-self-then-mark-1) →
    WritesRun c.self.inside.words.items (with_items c.self.inside.words c.mark_run.new.words).items (c.args.start / c.self.inside.page_size)
    (c.min-last.result + 1) c.args.mark
run_marked c = rw (words_marked c, ← c.deref_mut.ensures.value, ← c.page_of-first.ensures, c.if-mark.true) c.mark_run.ensures.run

pub returns-then-mark : goal.returns-then-mark
returns-then-mark c =
    let old = c.self.inside in
    some_written c.args.mark c.args.self.now old.page_size old.byte_size old.len old.words.items _ c.args.start c.args.len c.min-last.result
    c.self.view_is c.self.invariant.0 (omega arith) (omega arith) (omega arith)
    (c.min-last.ensures ∙ ap (λ m. min m (old.len - 1)) c.last_page.ensures) (run_marked c)

-- the same after pages were cleared
words_cleared : (c : goal.After-self-else-mark-2-1) → (with_items c.self.inside.words c.clear_run.new.words).items ≡ c.clear_run.new.words
words_cleared c = with_items_is c.self.inside.words c.clear_run.new.words (c.clear_run.auto.words ∙ c.deref_mut-else-mark.ensures.len)

summary_cleared :
    (c : goal.After-self-else-mark-2-1) → (with_items c.self.inside.summary c.clear_run.new.summary).items ≡ c.clear_run.new.summary
summary_cleared c =
    with_items_is c.self.inside.summary c.clear_run.new.summary (c.clear_run.auto.summary ∙ c.deref_mut-else-mark-2.ensures.len)

pub invariant_of-self-else-mark : goal.invariant_of-self-else-mark
invariant_of-self-else-mark c =
    rw (words_cleared c, summary_cleared c) (
      c.self.invariant.0,
      c.self.invariant.1,
      written_clean c.self.inside.len c.self.inside.words.items _ c.clear_run.new.words c.page_of-first.result c.min-last.result _
          c.self.invariant.2 c.deref_mut-else-mark.ensures.value
          c.clear_run.ensures.run c.clear_run.auto.words (omega arith),
      c.clear_run.ensures.summary,
    )

run_cleared : (c : goal.After-self-else-mark-2-1) →
    WritesRun c.self.inside.words.items (with_items c.self.inside.words c.clear_run.new.words).items
    (c.args.start / c.self.inside.page_size) (c.min-last.result + 1) c.args.mark
run_cleared c =
    rw (words_cleared c, ← c.deref_mut-else-mark.ensures.value, ← c.page_of-first.ensures, c.if-mark.false) c.clear_run.ensures.run

pub returns-else-mark : goal.returns-else-mark
returns-else-mark c =
    let old = c.self.inside in
    some_written c.args.mark c.args.self.now old.page_size old.byte_size old.len old.words.items _ c.args.start c.args.len c.min-last.result
    c.self.view_is c.self.invariant.0 (omega arith) (omega arith) (omega arith)
    (c.min-last.ensures ∙ ap (λ m. min m (old.len - 1)) c.last_page.ensures) (run_cleared c)
