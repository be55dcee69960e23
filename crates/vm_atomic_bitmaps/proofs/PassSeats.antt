-- What a pass of a bitmap has for its seat, and what stays of it.
use Rattle.std.proofs.Common.{◌≡◌, ℕ, ◌<◌, List, length, sym, ap, subst, ◌∙◌, arith}
use Rattle.std.specs.Int.{div_ceil}
use Rattle.atomic_table.specs.Seated.{TableId}
use Rattle.vm_atomic_bitmaps.specs.declared.counts.Tally.{Tally}
use Rattle.vm_atomic_bitmaps.specs.declared.counts.PageCounts.{PageCounts}
use Rattle.vm_atomic_bitmaps.specs.Rule.{table_words}
use Rattle.vm_atomic_bitmaps.specs.Passes.{SharedPages, Pass, IsPassOf, counting}

-- a seat of this table: it counts as many pages as the table's key tells, and the bitmap's words are words of the table
pub record SeatOf (n m : TableId) (v : PageCounts) (key len : ℕ) : Type 0 where
  pub table : n ≡ m
  pub long : length v.pages ≡ key
  pub key_is : key ≡ len
  pub some_word : 0 < m.words
  pub word : (i : ℕ) → i < div_ceil len 64 → i < m.words
  pub inside : (i : ℕ) → i < div_ceil len 64 → i < div_ceil key 64

pub seat_of : (n m : TableId) (v : PageCounts) (size bytes len key : ℕ) (p : Pass) (b : SharedPages) → record { name = n; counts = v } ≡ p
    → record { name = m; page_size = size; byte_size = bytes; len = len } ≡ b → key ≡ len → m.words ≡ table_words len → IsPassOf b p
    → SeatOf n m v key b.len
seat_of n m v size bytes len key p b vp vb key_is words_is own =
    let same_len : len ≡ b.len = ap (λ (c : SharedPages). c.len) vb in
    let whole : key ≡ b.len = key_is ∙ same_len in record {
      table = ap (λ (q : Pass). q.name) vp ∙ own.0 ∙ sym (ap (λ (c : SharedPages). c.name) vb);
      long = ap (λ (q : Pass). length q.counts.pages) vp ∙ own.1 ∙ sym whole;
      key_is = whole;
      some_word = omega (arith, words_is);
      word = λ i l. let w : i < div_ceil len 64 = subst (λ (k : ℕ). i < div_ceil k 64) (sym same_len) l in omega (arith, words_is);
      inside = λ i l. subst (λ (k : ℕ). i < div_ceil k 64) (sym whole) l;
    }

-- the pass stays this bitmap's where it counts as many pages
pub own_after : (b : SharedPages) (old new : Pass) (pages : List Tally) → IsPassOf b old → new ≡ counting old pages →
    length pages ≡ length old.counts.pages → IsPassOf b new
own_after b old new pages own step count =
    (ap (λ (p : Pass). p.name) step ∙ own.0, ap (λ (p : Pass). length p.counts.pages) step ∙ count ∙ own.1)
