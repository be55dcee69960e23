use Rattle.std.proofs.Common.{◌≡◌, ℕ, ◌*◌, ◌<◌, ◌≤◌, length}
use Rattle.vm_bitmaps.specs.Words.{page_bit}
use Rattle.vm_atomic_bitmaps.specs.Counts.{tally_of, IsWhole}
use Rattle.vm_atomic_bitmaps.specs.Steps.{Settles}
use Rattle.vm_atomic_bitmaps.specs.Passes.{ByGathering, ChangesRun, counting}
use Rattle.fs_shared.proofs.harvest.PageHarvest.gather_all.Given as goal

-- the words so far
abbrev pub invariant-loop-word : goal.invariant-loop-word
invariant-loop-word l = record {
  room : length l.words ≡ length l.initial.words;
  self : l.self ≡ record l.initial.self { pass = counting l.initial.self.pass l.self.pass.counts.pages };
  pages : ChangesRun (ByGathering l.words) l.initial.self.pass.counts.pages l.self.pass.counts.pages 0 (64 * l.word);
  settled :
      IsWhole l.initial.self.pass.counts → (p : ℕ) → p < length l.initial.self.pass.counts.pages → p < 64 * l.word →
      Settles (tally_of l.initial.self.pass.counts.pages p) (page_bit l.words p);
  past : (p : ℕ) → l.initial.self.bitmap.len ≤ p → p < 64 * l.word → page_bit l.words p ≡ 0;
}
