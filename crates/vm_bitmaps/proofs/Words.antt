-- writing runs of pages in words
use Rattle.std.proofs.Common.{◌≡◌, ℕ, zero, suc, ◌+◌, ◌-◌, ◌*◌, ◌/◌, ◌%◌, ◌^◌, ◌<◌, ◌≤◌, inl, inr, Bool, true, false, List, ◌++◌, length}
use Rattle.std.proofs.Common.{get_or, set, take, drop}
use Rattle.std.proofs.Common.{replicate, ap, sym, ◌∙◌, arith, bit_and, bit_or, ◌≢◌}
use Rattle.std.specs.Int.{bit_at, w64, bit_not}
use Rattle.std.proofs.lemmas.Nat.{pow-add, pow_pos, shl_whole}
use Rattle.std.proofs.lemmas.Nat.Bits.{ones_shr, bit_at_or, bit_at_and, bit_at_not, bit_at-lt, bit_at_above, bit_at_mask_inside}
use Rattle.std.proofs.lemmas.Nat.Bits.{bit_at_mask_below, bit_at_mask_above, bit_at_ones, bit_at-zero}
use Rattle.std.proofs.lemmas.List.{get_or-set_same, get_or-set_other, get_or-take, get_or-drop, get_or-append_right, get_or_append_left}
use Rattle.std.proofs.lemmas.List.{get_or-replicate}
use Rattle.std.proofs.lemmas.List.{length-replicate, length-append, length-take-le}
use Rattle.std.proofs.lemmas.Bool.{cases_lt, cases_eq}
use Rattle.vm_bitmaps.specs.Words.{page_bit, bit_of, WritesRun, WritesBits}

less_one : (a b : ℕ) → (a - 1) * b ≡ a * b - b
less_one zero b = let none : zero - 1 ≡ zero = omega arith in ap (λ m. m * b) none ∙ omega arith
less_one (suc a) b = let one : suc a - 1 ≡ a = omega arith in ap (λ m. m * b) one ∙ omega arith

-- a run of n ones from bit k on, as the code makes it
mask_of : (n k : ℕ) → n + k ≤ 64 → (2 ^ 64 - 1) / 2 ^ (64 - n) * 2 ^ k % 2 ^ 64 ≡ 2 ^ (n + k) - 2 ^ k
mask_of n k w =
    let ones : (2 ^ 64 - 1) / 2 ^ (64 - n) ≡ 2 ^ (64 - (64 - n)) - 1 = ones_shr 64 (64 - n) (omega arith) in
    let same : 2 ^ (64 - (64 - n)) ≡ 2 ^ n = ap (λ m. 2 ^ m) (omega arith) in
    let pos : 0 < 2 ^ n = pow_pos n in
    let product : 2 ^ (n + k) ≡ 2 ^ n * 2 ^ k = pow-add 2 n k in
    let whole : (2 ^ n - 1) * 2 ^ k % 2 ^ 64 ≡ (2 ^ n - 1) * 2 ^ k = shl_whole (2 ^ n - 1) n k 64 (omega arith) w in
    let one : (2 ^ 64 - 1) / 2 ^ (64 - n) ≡ 2 ^ n - 1 = ones ∙ ap (λ m. m - 1) same in
    ap (λ m. m * 2 ^ k % 2 ^ 64) one ∙ whole ∙ less_one (2 ^ n) (2 ^ k) ∙ ap (λ m. m - 2 ^ k) (sym product)

pub mask_is : (from to : ℕ) → from < to → to ≤ 64 → (2 ^ 64 - 1) / 2 ^ (64 - (to - from)) * 2 ^ from % 2 ^ 64 ≡ 2 ^ to - 2 ^ from
mask_is from to l w = mask_of (to - from) from (omega arith) ∙ ap (λ m. 2 ^ m - 2 ^ from) (omega arith)

pub set_bits : (word from to run : ℕ) → from < to → to ≤ 64 → run ≡ 2 ^ to - 2 ^ from → WritesBits word (bit_or word run) from to true
set_bits word from to run l w e = record {
  inside = λ k low high.
      let one : bit_at run k ≡ 1 = ap (λ m. bit_at m k) e ∙ bit_at_mask_inside from to k low high in
      let small : bit_at word k < 2 = bit_at-lt word k in
      bit_at_or word run k ∙ omega arith;
  below = λ k low.
      let none : bit_at run k ≡ 0 = ap (λ m. bit_at m k) e ∙ bit_at_mask_below from to k low in
      bit_at_or word run k ∙ omega arith;
  above = λ k high.
      let none : bit_at run k ≡ 0 = ap (λ m. bit_at m k) e ∙ bit_at_mask_above from to k high in
      bit_at_or word run k ∙ omega arith;
}

-- a bit that the run leaves out stays
outside : (word run k : ℕ) → word < 2 ^ 64 → run < 2 ^ 64 → bit_at run k ≡ 0 → bit_at (bit_and word (bit_not w64 run)) k ≡ bit_at word k
outside word run k fits runs none =
    let small : bit_at word k < 2 = bit_at-lt word k in
    elim (cases_lt k 64) [
      | inl l ↦ let flip : bit_at (bit_not w64 run) k ≡ 1 - bit_at run k = bit_at_not w64 run k runs l in
          bit_at_and word (bit_not w64 run) k ∙ omega arith
      | inr g ↦ let past : bit_at word k ≡ 0 = bit_at_above word 64 k fits g in bit_at_and word (bit_not w64 run) k ∙ omega arith
    ]

pub clear_bits : (word from to run : ℕ) → word < 2 ^ 64 → run < 2 ^ 64 → from < to → to ≤ 64 → run ≡ 2 ^ to - 2 ^ from →
    WritesBits word (bit_and word (bit_not w64 run)) from to false
clear_bits word from to run fits runs l w e = record {
  inside = λ k low high.
      let one : bit_at run k ≡ 1 = ap (λ m. bit_at m k) e ∙ bit_at_mask_inside from to k low high in
      let flip : bit_at (bit_not w64 run) k ≡ 1 - bit_at run k = bit_at_not w64 run k runs (omega arith) in
      bit_at_and word (bit_not w64 run) k ∙ omega arith;
  below = λ k low. outside word run k fits runs (ap (λ m. bit_at m k) e ∙ bit_at_mask_below from to k low);
  above = λ k high. outside word run k fits runs (ap (λ m. bit_at m k) e ∙ bit_at_mask_above from to k high);
}

-- the bits of the one word that is written
here : (words : List ℕ) (i word p : ℕ) → i < length words → p / 64 ≡ i → page_bit (set words i word) p ≡ bit_at word (p % 64)
unfolding page_bit
here words i word p l e =
    ap (λ j. bit_at (get_or (set words i word) j 0) (p % 64)) e ∙ ap (λ m. bit_at m (p % 64)) (get_or-set_same words i word 0 l)

elsewhere : (words : List ℕ) (i word p : ℕ) → p / 64 ≢ i → page_bit (set words i word) p ≡ page_bit words p
unfolding page_bit
elsewhere words i word p ne = ap (λ m. bit_at m (p % 64)) (get_or-set_other words i (p / 64) word 0 ne)

was_here : (words : List ℕ) (i p : ℕ) → p / 64 ≡ i → bit_at (get_or words i 0) (p % 64) ≡ page_bit words p
unfolding page_bit
was_here words i p e = ap (λ j. bit_at (get_or words j 0) (p % 64)) (sym e)

pub one_word : (words : List ℕ) (i from to word : ℕ) (mark : Bool) → i < length words → from < to → to ≤ 64 →
    WritesBits (get_or words i 0) word from to mark → WritesRun words (set words i word) (64 * i + from) (64 * i + to) mark
one_word words i from to word mark l some w b = record {
  inside = λ p low high. let at : p / 64 ≡ i = omega arith in here words i word p l at ∙ b.inside (p % 64) (omega arith) (omega arith);
  below = λ p low. elim (cases_eq (p / 64) i) [
    | inl at ↦ here words i word p l at ∙ b.below (p % 64) (omega arith) ∙ was_here words i p at
    | inr ne ↦ elsewhere words i word p ne
  ];
  above = λ p high. elim (cases_eq (p / 64) i) [
    | inl at ↦ here words i word p l at ∙ b.above (p % 64) (omega arith) ∙ was_here words i p at
    | inr ne ↦ elsewhere words i word p ne
  ];
}

-- the words that are filled, and the others
filled : (words : List ℕ) (from to word j : ℕ) → from ≤ j → j < to → to ≤ length words →
    get_or (take from words ++ replicate (to - from) word ++ drop to words) j 0 ≡ word
filled words from to word j low high w =
    let n : length (take from words) ≡ from = length-take-le from words (omega arith) in
    let m : length (replicate (to - from) word) ≡ to - from = length-replicate (to - from) word in
    let k : length (take from words ++ replicate (to - from) word) ≡ length (take from words) + length (replicate (to - from) word) =
    length-append (take from words) (replicate (to - from) word) in
    get_or_append_left (take from words ++ replicate (to - from) word) (drop to words) 0 j (omega arith) ∙
    get_or-append_right (take from words) (replicate (to - from) word) from j 0 n low ∙
    get_or-replicate (to - from) (j - from) word 0 (omega arith)

preserved_before : (words : List ℕ) (from to word j : ℕ) → j < from → from ≤ to → to ≤ length words →
    get_or (take from words ++ replicate (to - from) word ++ drop to words) j 0 ≡ get_or words j 0
preserved_before words from to word j low o w =
    let n : length (take from words) ≡ from = length-take-le from words (omega arith) in
    let m : length (replicate (to - from) word) ≡ to - from = length-replicate (to - from) word in
    let k : length (take from words ++ replicate (to - from) word) ≡ length (take from words) + length (replicate (to - from) word) =
    length-append (take from words) (replicate (to - from) word) in
    get_or_append_left (take from words ++ replicate (to - from) word) (drop to words) 0 j (omega arith) ∙
    get_or_append_left (take from words) (replicate (to - from) word) 0 j (omega arith) ∙
    get_or-take from words j 0 low

preserved_after : (words : List ℕ) (from to word j : ℕ) → to ≤ j → from ≤ to → to ≤ length words →
    get_or (take from words ++ replicate (to - from) word ++ drop to words) j 0 ≡ get_or words j 0
preserved_after words from to word j high o w =
    let n : length (take from words) ≡ from = length-take-le from words (omega arith) in
    let m : length (replicate (to - from) word) ≡ to - from = length-replicate (to - from) word in
    let k : length (take from words ++ replicate (to - from) word) ≡ length (take from words) + length (replicate (to - from) word) =
    length-append (take from words) (replicate (to - from) word) in
    get_or-append_right (take from words ++ replicate (to - from) word) (drop to words) to j 0 (omega arith) high ∙
    get_or-drop to words (j - to) 0 ∙ ap (λ i. get_or words i 0) (omega arith)

pub whole_words : (words : List ℕ) (from to word : ℕ) (mark : Bool) → from ≤ to → to ≤ length words →
    ((k : ℕ) → k < 64 → bit_at word k ≡ bit_of mark) →
    WritesRun words (take from words ++ replicate (to - from) word ++ drop to words) (64 * from) (64 * to) mark
unfolding page_bit
whole_words words from to word mark o w bits = record {
  inside = λ p low high. ap (λ m. bit_at m (p % 64)) (filled words from to word (p / 64) (omega arith) (omega arith) w)
      ∙ bits (p % 64) (omega arith);
  below = λ p low. ap (λ m. bit_at m (p % 64)) (preserved_before words from to word (p / 64) (omega arith) o w);
  above = λ p high. ap (λ m. bit_at m (p % 64)) (preserved_after words from to word (p / 64) (omega arith) o w);
}

-- the bits of a word that is all ones, or all zeros
pub all_ones : (k : ℕ) → k < 64 → bit_at (2 ^ 64 - 1) k ≡ bit_of true
all_ones k l = bit_at_ones 64 k l

pub all_zeros : (k : ℕ) → k < 64 → bit_at 0 k ≡ bit_of false
all_zeros k l = bit_at-zero k
