use Rattle.std.proofs.Common.{◌≡◌, ℕ, ◌+◌, ◌*◌, ◌<◌, ◌≤◌, length, List, refl, ap, sym, subst, set, inl, inr, ◌∙◌, arith}
use Rattle.std.proofs.lemmas.Bool.{cases_lt}
use Rattle.std.specs.Int.{div_ceil}
use Rattle.std.proofs.lemmas.List.{length-set}
use Rattle.vm_atomic_bitmaps.specs.declared.counts.Tally.{Tally}
use Rattle.vm_atomic_bitmaps.specs.Counts.{IsWhole, cleared_by, in_word}
use Rattle.vm_atomic_bitmaps.specs.Passes.{SharedPages, ByGathering, ChangesRun, counting}
use Rattle.vm_atomic_bitmaps.proofs.PageRuns.{gathers_word, into_before, is_gathered, run_as, run_none, run_then, settles_more}
use Rattle.fs_shared.specs.Marks.{Harvest}
use Rattle.fs_shared.proofs.Gathering.{none_past, past_more}
use Rattle.fs_shared.proofs.harvest.PageHarvest.gather_all.Goals as goal

pub loop-word-init : goal.loop-word-init
loop-word-init c = record {
  room = refl;
  self = refl;
  pages = run_none (ByGathering c.args.words.now) c.args.self.now.pass.counts.pages 0 (64 * 0) (omega arith);
  settled = λ whole p within low. absurd (omega arith);
  past = λ p beyond low. absurd (omega arith);
}

pub gather-requires : goal.gather-requires
gather-requires c =
    let same : c.loop-word.self.bitmap.len ≡ c.args.self.now.bitmap.len = ap (λ (h : Harvest). h.bitmap.len) c.loop-word.invariant.self in
    let there = c.words-word-end.ensures
    ∙ ap (λ (b : SharedPages). div_ceil b.len 64) (c.deref.ensures ∙ ap (λ (h : Harvest). h.bitmap) c.self.view_is) in
    subst (λ (n : ℕ). c.loop-word.word < div_ceil n 64) (sym same) (subst (λ (n : ℕ). c.loop-word.word < n) there c.loop-word-test.true)

pub loop-word-preserved : goal.loop-word-preserved
loop-word-preserved c =
    let w = c.loop-word.word in
    let before = c.loop-word.words in
    let bits = c.gather.result in
    let after = set before w bits in
    let first = c.args.self.now.pass.counts in
    let cur = c.loop-word.self.pass.counts in
    let new = c.gather.new.self.pass.counts.pages in
    let recorded = c.loop-word.invariant in
    let step = c.gather.ensures.harvest in
    let taken = cleared_by (in_word w) bits cur.pages in
    let there = c.words-word-end.ensures
    ∙ ap (λ (b : SharedPages). div_ceil b.len 64) (c.deref.ensures ∙ ap (λ (h : Harvest). h.bitmap) c.self.view_is) in
    let inside : w < length before = let t = c.loop-word-test.true in let r = recorded.room in let room = c.requires in omega arith in
    let runs = run_as (ByGathering before) (ByGathering after) first.pages cur.pages 0 (64 * w)
    (λ p t u low e. into_before before w bits p t u low e) recorded.pages in
    let word = gathers_word (ByGathering after) cur.pages w bits (λ p within here. is_gathered before w bits p _ inside here) in
    let word' = subst (λ (l : List Tally). ChangesRun (ByGathering after) cur.pages l (64 * w) (64 * w + 64))
    (sym (ap (λ (h : Harvest). h.pass.counts.pages) c.gather.ensures.harvest)) word in
    let run = run_then (ByGathering after) first.pages cur.pages new 0 (64 * w) (64 * w) (64 * w + 64) runs word' (omega arith)
    (omega arith) (λ p a b. b) (omega arith) in
    let next : 64 * w + 64 ≡ 64 * (w + 1) = omega arith in
    record {
      room = length-set before w bits ∙ recorded.room;
      self =
          step ∙ ap (λ (h : Harvest). record h { pass = counting h.pass taken }) recorded.self
          ∙ ap (λ (l : List Tally). record c.args.self.now { pass = counting c.args.self.now.pass l })
          (sym (ap (λ (h : Harvest). h.pass.counts.pages) step));
      pages = subst (ChangesRun (ByGathering after) first.pages new 0) next run;
      settled = λ whole p within low. settles_more first.pages cur.pages before w bits inside recorded.pages
          (λ q here short. c.gather.ensures.word (subst (λ (h : Harvest). IsWhole h.pass.counts) (sym recorded.self) whole) q short here)
          (recorded.settled whole) p within (omega arith);
      past = λ p beyond low. past_more before w bits c.args.self.now.bitmap.len inside
          (λ q short here. c.gather.ensures.past q
          (subst (λ (n : ℕ). n ≤ q) (sym (ap (λ (h : Harvest). h.bitmap.len) recorded.self)) short) here)
          recorded.past p beyond (omega arith);
    }

pub returns-clause-past : goal.returns-clause-past
returns-clause-past c p beyond =
    let there = c.words-word-end.ensures
    ∙ ap (λ (b : SharedPages). div_ceil b.len 64) (c.deref.ensures ∙ ap (λ (h : Harvest). h.bitmap) c.self.view_is) in
    let over = c.loop-word-test.false in
    let room = c.loop-word.invariant.room in
    let asked = c.requires in
    elim (cases_lt p (64 * c.loop-word.word)) [
      | inl low ↦ c.loop-word.invariant.past p beyond low
      | inr high ↦ none_past c.loop-word.words p (omega arith)
    ]

pub returns-clause-whole : goal.returns-clause-whole
returns-clause-whole c whole p within =
    let there = c.words-word-end.ensures ∙ ap (λ (b : SharedPages). div_ceil b.len 64) c.deref.ensures in
    let own = c.self.invariant.0.1 in
    let long : length c.args.self.now.pass.counts.pages ≡ length c.self.inside.pass.counts.pages =
    ap (λ (h : Harvest). length h.pass.counts.pages) (sym c.self.view_is) in
    let over = c.loop-word-test.false in
    c.loop-word.invariant.settled whole p within (omega arith)

pub returns-clause-taken : goal.returns-clause-taken
returns-clause-taken c p below =
    let there = c.words-word-end.ensures
    ∙ ap (λ (b : SharedPages). div_ceil b.len 64) (c.deref.ensures ∙ ap (λ (h : Harvest). h.bitmap) c.self.view_is) in
    let own = c.self.invariant.0.1 in
    let long : length c.args.self.now.pass.counts.pages ≡ length c.self.inside.pass.counts.pages =
    ap (λ (h : Harvest). length h.pass.counts.pages) (sym c.self.view_is) in
    let same = ap (λ (h : Harvest). h.bitmap.len) c.self.view_is in
    let over = c.loop-word-test.false in
    ap (λ (t : Tally). t.off) (c.loop-word.invariant.pages.inside p (omega arith) (omega arith) (omega arith))
