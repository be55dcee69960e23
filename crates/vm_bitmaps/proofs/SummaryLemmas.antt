-- words with a summary
use Rattle.std.proofs.Common.{◌≡◌, ◌≢◌, ℕ, ◌+◌, ◌-◌, ◌*◌, ◌/◌, ◌%◌, ◌^◌, ◌<◌, ◌≤◌, inl, inr, Bool, true, false, cond, eqb, ltb, List}
use Rattle.std.proofs.Common.{length, get_or, replicate, refl}
use Rattle.std.proofs.Common.{ap, sym, subst, ◌∙◌, arith, Option, Some, None}
use Rattle.std.specs.Int.{bit_at, div_ceil}
use Rattle.std.proofs.Math.Nat.{div-div-eq-div-mul}
use Rattle.std.proofs.lemmas.List.{length-replicate, get_or_past}
use Rattle.std.proofs.lemmas.Nat.{pow-add}
use Rattle.std.proofs.lemmas.Nat.Bits.{bit_at-zero, bit_at_above, same_from_bits_below}
use Rattle.std.proofs.lemmas.Bool.{cases_lt, cases_eq, lt-ltb, le-ltb}
use Rattle.vm_bitmaps.specs.Pages.{IsNextMarked}
use Rattle.vm_bitmaps.specs.Words.{page_bit, bit_of, marks_of, IsClean, WritesRun}
use Rattle.vm_bitmaps.specs.Summary.{IsSummary, Summarizes, IsFirstSet, IsNextSet}
use Rattle.vm_bitmaps.proofs.PageMarks.{mark_of-marks_of, page_bit-at, page_bit-zeros, get_or-zeros}

-- ---- words and their bits

-- a bit of a word that is 0
bit_none : (words : List ℕ) (p w : ℕ) → p / 64 ≡ w → get_or words w 0 ≡ 0 → page_bit words p ≡ 0
unfolding page_bit
bit_none words p w at e =
    ap (λ j. bit_at (get_or words j 0) (p % 64)) at ∙ ap (λ m. bit_at m (p % 64)) e ∙ bit_at-zero (p % 64)

-- a word with a bit that is set
word_some : (words : List ℕ) (p w : ℕ) → p / 64 ≡ w → page_bit words p ≡ 1 → 0 < get_or words w 0
word_some words p w at e = elim (cases_lt 0 (get_or words w 0)) [
  | inl l ↦ l
  | inr g ↦ let z : page_bit words p ≡ 0 = bit_none words p w at (omega arith) in absurd (omega arith)
]

-- a word whose bits are 0
word_none : (words : List ℕ) (w : ℕ) → get_or words w 0 < 2 ^ 64 → ((p : ℕ) → p / 64 ≡ w → page_bit words p ≡ 0) → get_or words w 0 ≡ 0
word_none words w fits none =
    same_from_bits_below 64 (get_or words w 0) 0 fits (omega arith)
    (λ j l. sym (page_bit-at words w j l) ∙ none (64 * w + j) (omega arith) ∙ sym (bit_at-zero j))

same_word : (old new : List ℕ) (w : ℕ) → get_or old w 0 < 2 ^ 64 → get_or new w 0 < 2 ^ 64 →
    ((p : ℕ) → p / 64 ≡ w → page_bit new p ≡ page_bit old p) → get_or new w 0 ≡ get_or old w 0
same_word old new w fo fn same =
    same_from_bits_below 64 (get_or new w 0) (get_or old w 0) fn fo
    (λ j l. sym (page_bit-at new w j l) ∙ same (64 * w + j) (omega arith) ∙ page_bit-at old w j l)

-- ---- what a summary tells

reported_one : (n : ℕ) → 0 < n → bit_of (ltb 0 n) ≡ 1
reported_one n h = ap bit_of (lt-ltb 0 n h)

reported_none : (n : ℕ) → n ≡ 0 → bit_of (ltb 0 n) ≡ 0
reported_none n e = ap bit_of (le-ltb 0 n (omega arith))

-- of a word that is not told of
not_reported : (words summary : List ℕ) (w : ℕ) → Summarizes words summary w → page_bit summary w ≡ 0 → get_or words w 0 ≡ 0
not_reported words summary w reports none = elim (cases_lt 0 (get_or words w 0)) [
  | inl l ↦ let one = reported_one (get_or words w 0) l in absurd (omega arith)
  | inr g ↦ omega arith
]

is_some_word : (words summary : List ℕ) (w : ℕ) → Summarizes words summary w → page_bit summary w ≡ 1 → 0 < get_or words w 0
is_some_word words summary w reports one = elim (cases_lt 0 (get_or words w 0)) [
  | inl l ↦ l
  | inr g ↦ let z = reported_none (get_or words w 0) (omega arith) in absurd (omega arith)
]

reports_same : (old new summary : List ℕ) (w : ℕ) → Summarizes old summary w → get_or new w 0 ≡ get_or old w 0 → Summarizes new summary w
reports_same old new summary w reports same = reports ∙ ap (λ n. bit_of (ltb 0 n)) (sym same)

-- the same run by equal ends
pub run_moved : (old new : List ℕ) (a b c d : ℕ) (mark : Bool) → a ≡ b → c ≡ d → WritesRun old new a c mark → WritesRun old new b d mark
run_moved old new a b c d mark from to run = subst (λ i. WritesRun old new i d mark) from (subst (λ i. WritesRun old new a i mark) to run)

-- ---- marks

-- the summary after a run of pages was marked, and told of
pub marked_summary : (old new before after : List ℕ) (first last : ℕ) → first ≤ last → WritesRun old new first (last + 1) true →
    ((w : ℕ) → get_or old w 0 < 2 ^ 64) → ((w : ℕ) → get_or new w 0 < 2 ^ 64) → length new ≡ length old → length after ≡ length before →
    WritesRun before after (first / 64) (last / 64 + 1) true → IsSummary old before → IsSummary new after
marked_summary old new before after first last order run fo fn len room reported s = record {
  count = room ∙ s.count ∙ ap (λ n. div_ceil n 64) (sym len);
  reports = λ w. elim (cases_lt w (first / 64)) [
    | inl low ↦ reported.below w low
        ∙ reports_same old new before w (s.reports w) (same_word old new w (fo w) (fn w) (λ p at. run.below p (omega arith)))
    | inr from ↦ elim (cases_lt (last / 64) w) [
      | inl high ↦ reported.above w (omega arith)
          ∙ reports_same old new before w (s.reports w) (same_word old new w (fo w) (fn w) (λ p at. run.above p (omega arith)))
      | inr to ↦ elim (cases_lt first (64 * w)) [
        | inl past ↦ reported.inside w from (omega arith)
            ∙ sym (reported_one (get_or new w 0) (word_some new (64 * w) w (omega arith) (run.inside (64 * w) (omega arith) (omega arith))))
        | inr here ↦ reported.inside w from (omega arith)
            ∙ sym (reported_one (get_or new w 0) (word_some new first w (omega arith) (run.inside first (omega arith) (omega arith))))
      ]
    ]
  ];
}

-- the summary after a run of pages was marked in a word that it tells of
pub reported_summary : (old new summary : List ℕ) (first last : ℕ) → first ≤ last → first / 64 ≡ last / 64 → 0 < get_or old (first / 64) 0 →
    WritesRun old new first (last + 1) true → ((w : ℕ) → get_or old w 0 < 2 ^ 64) → ((w : ℕ) → get_or new w 0 < 2 ^ 64) →
    length new ≡ length old →
    IsSummary old summary → IsSummary new summary
reported_summary old new summary first last order one some run fo fn len s = record {
  count = s.count ∙ ap (λ n. div_ceil n 64) (sym len);
  reports = λ w. elim (cases_eq w (first / 64)) [
    | inl is ↦
        let was : 0 < get_or old w 0 = subst (λ i. 0 < get_or old i 0) (sym is) some in
        s.reports w ∙ reported_one (get_or old w 0) was
        ∙ sym (reported_one (get_or new w 0) (word_some new first w (sym is) (run.inside first (omega arith) (omega arith))))
    | inr ne ↦ reports_same old new summary w (s.reports w) (same_word old new w (fo w) (fn w) (λ p at. elim (cases_lt p first) [
      | inl low ↦ run.below p low
      | inr from ↦ run.above p (omega arith)
    ]))
  ];
}

put : (b : Bool) (x : ℕ) → x ≡ 0 → cond b 1 x ≡ bit_of b
put true x e = refl
put false x e = e

put_same : (b : Bool) (x : ℕ) → x ≡ bit_of b → cond b 1 x ≡ bit_of b
put_same true x e = refl
put_same false x e = e

-- ---- clears

-- the summary after a run of pages was cleared: it told of no word of the run, and then of the first and the last where they aren't 0
pub cleared_summary : (old new s0 s1 s2 s3 : List ℕ) (first last : ℕ) → first ≤ last → WritesRun old new first (last + 1) false →
    ((w : ℕ) → get_or old w 0 < 2 ^ 64) → ((w : ℕ) → get_or new w 0 < 2 ^ 64) → length new ≡ length old → length s3 ≡ length s0 →
    WritesRun s0 s1 (first / 64) (last / 64 + 1) false →
    page_bit s2 (first / 64) ≡ cond (ltb 0 (get_or new (first / 64) 0)) 1 (page_bit s1 (first / 64)) →
    ((w : ℕ) → w ≢ first / 64 → page_bit s2 w ≡ page_bit s1 w) →
    page_bit s3 (last / 64) ≡ cond (ltb 0 (get_or new (last / 64) 0)) 1 (page_bit s2 (last / 64)) →
    ((w : ℕ) → w ≢ last / 64 → page_bit s3 w ≡ page_bit s2 w) →
    IsSummary old s0 → IsSummary new s3
cleared_summary old new s0 s1 s2 s3 first last order run fo fn len room none told2 others2 told3 others3 s =
    let head = first / 64 in
    let tail = last / 64 in
    let at_head : Summarizes new s2 head =
    told2 ∙ put (ltb 0 (get_or new head 0)) (page_bit s1 head) (none.inside head (omega arith) (omega arith)) in
    let at_tail : Summarizes new s3 tail = elim (cases_eq tail head) [
      | inl e ↦ told3 ∙ put_same (ltb 0 (get_or new tail 0)) (page_bit s2 tail) (subst (λ i. Summarizes new s2 i) (sym e) at_head)
      | inr ne ↦ told3 ∙ put (ltb 0 (get_or new tail 0)) (page_bit s2 tail) (others2 tail ne ∙ none.inside tail (omega arith) (omega arith))
    ] in
    record {
      count = room ∙ s.count ∙ ap (λ n. div_ceil n 64) (sym len);
      reports = λ w. elim (cases_lt w head) [
        | inl low ↦ others3 w (λ e. absurd (omega arith)) ∙ others2 w (λ e. absurd (omega arith)) ∙ none.below w low ∙
            reports_same old new s0 w (s.reports w) (same_word old new w (fo w) (fn w) (λ p at. run.below p (omega arith)))
        | inr from ↦ elim (cases_lt tail w) [
          | inl high ↦ others3 w (λ e. absurd (omega arith)) ∙ others2 w (λ e. absurd (omega arith)) ∙ none.above w (omega arith) ∙
              reports_same old new s0 w (s.reports w) (same_word old new w (fo w) (fn w) (λ p at. run.above p (omega arith)))
          | inr to ↦ elim (cases_eq w tail) [
            | inl is ↦ subst (λ i. Summarizes new s3 i) (sym is) at_tail
            | inr ne ↦ others3 w ne ∙ elim (cases_eq w head) [
              | inl is ↦ subst (λ i. Summarizes new s2 i) (sym is) at_head
              | inr other ↦ others2 w other ∙ none.inside w from (omega arith) ∙
                  sym (reported_none (get_or new w 0) (word_none new w (fn w) (λ p at. run.inside p (omega arith) (omega arith))))
            ]
          ]
        ]
      ];
    }

-- no word is told of where none has a page
pub zeros_summary : (n k : ℕ) → k ≡ div_ceil n 64 → IsSummary (replicate n 0) (replicate k 0)
zeros_summary n k e = record {
  count = length-replicate k 0 ∙ e ∙ ap (λ m. div_ceil m 64) (sym (length-replicate {A = ℕ} n 0));
  reports = λ w. page_bit-zeros k w ∙ sym (reported_none (get_or (replicate n 0) w 0) (get_or-zeros n w));
}

-- ---- the next page

-- a word that was shifted
shifted : (n a k : ℕ) → bit_at (n / 2 ^ a) k ≡ bit_at n (a + k)
shifted n a k = ap (λ m. m % 2) (div-div-eq-div-mul n (2 ^ a) (2 ^ k) ∙ ap (λ m. n / m) (sym (pow-add 2 a k)))

shifted_page :
    (words : List ℕ) (from k : ℕ) → from % 64 + k < 64 → bit_at (get_or words (from / 64) 0 / 2 ^ (from % 64)) k ≡ page_bit words (from + k)
unfolding page_bit
shifted_page words from k l =
    let word : (from + k) / 64 ≡ from / 64 = omega arith in
    let bit : (from + k) % 64 ≡ from % 64 + k = omega arith in
    shifted (get_or words (from / 64) 0) (from % 64) k ∙ ap (λ j. bit_at (get_or words (from / 64) 0) j) (sym bit)
    ∙ ap (λ j. bit_at (get_or words j 0) ((from + k) % 64)) (sym word)

-- nothing is left of the word of a page, from the page on
pub rest_none : (words : List ℕ) (from rest : ℕ) → rest ≡ get_or words (from / 64) 0 / 2 ^ (from % 64) → rest ≡ 0 →
    IsFirstSet words from (64 * (from / 64) + 64) None
rest_none words from rest is none p low high =
    let same : from + (p - from) ≡ p = omega arith in
    let bit : bit_at rest (p - from) ≡ 0 = ap (λ m. bit_at m (p - from)) none ∙ bit_at-zero (p - from) in
    ap (page_bit words) (sym same) ∙ sym (shifted_page words from (p - from) (omega arith)) ∙ ap (λ m. bit_at m (p - from)) (sym is) ∙ bit

-- where the lowest bit of what is left of a word stands
pub rest_below : (words : List ℕ) (from rest t : ℕ) → get_or words (from / 64) 0 < 2 ^ 64 →
    rest ≡ get_or words (from / 64) 0 / 2 ^ (from % 64) → bit_at rest t ≡ 1 → from % 64 + t < 64
rest_below words from rest t fits is one = elim (cases_lt (from % 64 + t) 64) [
  | inl l ↦ l
  | inr g ↦
      let none : bit_at rest t ≡ 0 = ap (λ m. bit_at m t) is ∙ shifted (get_or words (from / 64) 0) (from % 64) t
      ∙ bit_at_above (get_or words (from / 64) 0) 64 (from % 64 + t) fits g in
      absurd (omega arith)
]

pub rest_some : (words : List ℕ) (from rest t : ℕ) → get_or words (from / 64) 0 < 2 ^ 64 →
    rest ≡ get_or words (from / 64) 0 / 2 ^ (from % 64) → bit_at rest t ≡ 1 →
    ((k : ℕ) → k < t → bit_at rest k ≡ 0) → IsFirstSet words from (64 * (from / 64) + 64) (Some (from + t))
rest_some words from rest t fits is one lowest =
    let below = rest_below words from rest t fits is one in (
      omega arith,
      omega arith,
      sym (shifted_page words from t below) ∙ ap (λ m. bit_at m t) (sym is) ∙ one,
      λ q low high.
          let same : from + (q - from) ≡ q = omega arith in
          ap (page_bit words) (sym same) ∙ sym (shifted_page words from (q - from) (omega arith)) ∙ ap (λ m. bit_at m (q - from)) (sym is)
          ∙ lowest (q - from) (omega arith),
    )

-- past the last word
pub past_words : (words : List ℕ) (p : ℕ) → length words ≤ p / 64 → page_bit words p ≡ 0
past_words words p g = bit_none words p (p / 64) refl (get_or_past words (p / 64) 0 g)

-- no page of a word that isn't told of
pub skipped : (words summary : List ℕ) (p : ℕ) → IsSummary words summary → page_bit summary (p / 64) ≡ 0 → page_bit words p ≡ 0
skipped words summary p s none = bit_none words p (p / 64) refl (not_reported words summary (p / 64) (s.reports (p / 64)) none)

-- after the word of a page no word is told of
pub next_none : (words summary : List ℕ) (from : ℕ) → IsSummary words summary → IsFirstSet words from (64 * (from / 64) + 64) None →
    IsNextSet summary (from / 64 + 1) None → IsNextSet words from None
next_none words summary from s here none p low = elim (cases_lt p (64 * (from / 64) + 64)) [
  | inl near ↦ here p low near
  | inr far ↦ skipped words summary p s (none (p / 64) (omega arith))
]

-- the first page of the next word that is told of
pub next_some : (words summary : List ℕ) (from w : ℕ) (found : Option ℕ) → ((i : ℕ) → get_or words i 0 < 2 ^ 64) → IsSummary words summary →
    IsFirstSet words from (64 * (from / 64) + 64) None → IsNextSet summary (from / 64 + 1) (Some w) →
    IsFirstSet words (64 * w) (64 * (64 * w / 64) + 64) found → IsNextSet words from found
next_some words summary from w None fits s here next first =
    let at : 64 * w / 64 ≡ w = omega arith in
    let some = is_some_word words summary w (s.reports w) next.1 in
    let none : get_or words w 0 ≡ 0 = word_none words w (fits w) (λ p e. first p (omega arith) (omega arith)) in
    absurd (omega arith)
next_some words summary from w (Some page) fits s here next first =
    let at : 64 * w / 64 ≡ w = omega arith in
    let after = next.0 in
    let start = first.0 in
    let end = first.1 in (
      omega arith,
      first.2,
      λ q low high. elim (cases_lt q (64 * w)) [
        | inr from_there ↦ first.3 q from_there high
        | inl before ↦ elim (cases_lt q (64 * (from / 64) + 64)) [
          | inl near ↦ here q low near
          | inr far ↦ skipped words summary q s (next.2 (q / 64) (omega arith) (omega arith))
        ]
      ],
    )

-- ---- what a write leaves

-- no bit past the last page is set after a run of pages is written
pub written_clean : (n : ℕ) (items old new : List ℕ) (first last : ℕ) (mark : Bool) → IsClean n items → old ≡ items →
    WritesRun old new first (last + 1) mark →
    length new ≡ length old → last < n → IsClean n new
written_clean n items old new first last mark clean is run len below = record {
  count = len ∙ ap length is ∙ clean.count;
  rest = λ p g. run.above p (omega arith) ∙ ap (λ l. page_bit l p) is ∙ clean.rest p g;
}

-- ---- words that are cleared one after another

-- the next marked page is the next one whose bit is set
pub next_marked_is : (n : ℕ) (words : List ℕ) (from : ℕ) (found : Option ℕ) → IsClean n words → IsNextSet words from found →
    IsNextMarked (marks_of n words) from found
next_marked_is n words from None clean none = λ p low. mark_of-marks_of n words p clean ∙ ap (λ b. eqb b 1) (none p low)
next_marked_is n words from (Some page) clean next = (
  next.0,
  mark_of-marks_of n words page clean ∙ ap (λ b. eqb b 1) next.1,
  λ q low high. mark_of-marks_of n words q clean ∙ ap (λ b. eqb b 1) (next.2 q low high),
)
