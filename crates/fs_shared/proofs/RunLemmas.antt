-- runs of bytes in pages
use Rattle.std.specs.List.Sorted.{IsStrictlyIncreasing}
use Rattle.std.proofs.Common.{◌≡◌, ◌≤◌, ◌<◌, ◌+◌, ◌-◌, ◌/◌, ◌%◌, ℕ, zero, suc, Bool, true, false, List, [], ◌∷◌, ◌++◌, length, map, take}
use Rattle.std.proofs.Common.{drop, Option, Some}
use Rattle.std.proofs.Common.{inl, inr, get_or, ap, sym, refl, ◌∙◌, subst, arith, append_assoc, append-nil, slice_get, length-append}
use Rattle.std.specs.Prelude.{◌↔◌, nat_lt, option_map, if◌then◌else◌}
use Rattle.std.specs.List.{AllByRecursion, Contains, filter}
use Rattle.std.proofs.lemmas.Bool.Decides.{nat_tests}
use Rattle.std.proofs.lemmas.Grind.{flat_map-append}
use Rattle.std.proofs.lemmas.List.{map-append, take-append-drop, take-append-le, take_all, take-map, take_more}
use Rattle.std.proofs.lemmas.List.Elements.{Contains-append_left, Contains-append_right, Contains-append_cases, filter-append}
use Rattle.std.proofs.Math.Seq.{take-append-add}
use Rattle.vm_memory_core.specs.Host.{Block, Place, page_count}
use Rattle.vm_memory_core.specs.Window.{Window, places, places_of, span}
use Rattle.vm_memory_core.proofs.WindowLemmas.{length-span}
use Rattle.vm_memory_core.specs.declared.window.IoMarks.{IoMarks}
use Rattle.fs_shared.specs.declared.runs.PageRun.{PageRun}
use Rattle.fs_shared.specs.Pages.{ArePagesOf, first_page, page_of}
use Rattle.fs_shared.specs.Runs.{begun, AreRuns}

-- ---- the numbers of pages

first_zero : (ls : List ℕ) → first_page ls 0 ≡ 0
unfolding first_page
first_zero [] = refl
first_zero (n ∷ ns) = refl

pub no_pages : (ls : List ℕ) → first_page ls 0 ≡ 0
no_pages ls = first_zero ls

next_first : (bs : List Block) (k n : ℕ) → Some n ≡ option_map (λ (b : Block). length b.bytes) (slice_get bs k) →
    first_page (map (λ (b : Block). length b.bytes) bs) (suc k) ≡ first_page (map (λ (b : Block). length b.bytes) bs) k + page_count n
unfolding first_page
next_first [] k n is = absurd (cc)
next_first (b ∷ bs) zero n is =
    let same : n ≡ length b.bytes = cc in
    let none = first_zero (map (λ (b : Block). length b.bytes) bs) in
    omega (arith, same, none)
next_first (b ∷ bs) (suc k) n is =
    let rest = next_first bs k n is in
    omega (arith, rest)

pub first_next : (bs : List Block) (k n j : ℕ) → Some n ≡ option_map (λ (b : Block). length b.bytes) (slice_get bs k) → j ≡ suc k →
    first_page (map (λ (b : Block). length b.bytes) bs) j ≡ first_page (map (λ (b : Block). length b.bytes) bs) k + page_count n
first_next bs k n j is next = ap (first_page (map (λ (b : Block). length b.bytes) bs)) next ∙ next_first bs k n is

-- ---- bytes that lie in one page

pub span_in_page : (ls : List ℕ) (block offset : ℕ) (io : Option IoMarks) (n q : ℕ) → ((k : ℕ) → k < n → (offset + k) / 4096 ≡ q) →
    AllByRecursion (λ page. page ≡ first_page ls block + q) (map (page_of ls) (span block offset io n))
unfolding span
span_in_page ls block offset io zero q all = tt
span_in_page ls block offset io (suc n) q all = (
  (
      let here = all 0 (omega arith) in
      omega (arith, here)
      ),
  span_in_page ls block (offset + 1) io n q (λ k below. (
      let there = all (k + 1) (omega (arith, below)) in
      let same : offset + 1 + k ≡ offset + (k + 1) = omega arith in
      ap (λ o. o / 4096) same ∙ there
      )),
)

pub length_span : (ls : List ℕ) (block offset : ℕ) (io : Option IoMarks) (n : ℕ) → length (map (page_of ls) (span block offset io n)) ≡ n
unfolding span
length_span ls block offset io zero = refl
length_span ls block offset io (suc n) =
    let rest = length_span ls block (offset + 1) io n in
    omega (arith, rest)

pub span_parts : (ls : List ℕ) (block offset : ℕ) (io : Option IoMarks) (n m : ℕ) →
    map (page_of ls) (span block offset io (n + m)) ≡ map (page_of ls) (span block offset io n)
    ++ map (page_of ls) (span block (offset + n) io m)
unfolding span
span_parts ls block offset io zero m =
    let none : 0 + m ≡ m = omega arith in
    let start : offset + 0 ≡ offset = omega arith in
    rw (none, start) refl
span_parts ls block offset io (suc n) m =
    let more : suc n + m ≡ suc (n + m) = omega arith in
    let start : offset + suc n ≡ offset + 1 + n = omega arith in
    rw (more, start) (ap (λ (rest : List ℕ). (first_page ls block + offset / 4096) ∷ rest) (span_parts ls block (offset + 1) io n m))

-- ---- runs

same_of : (p x : ℕ) (xs : List ℕ) → AllByRecursion (λ y. y ≡ p) xs → Contains xs x → x ≡ p
same_of p x [] all (k, below, is) = absurd (omega (arith, below))
same_of p x (y ∷ ys) all (zero, below, is) = sym is ∙ all.0
same_of p x (y ∷ ys) all (suc k, below, is) = same_of p x ys all.1 (k, omega (arith, below), is)

take_same : (p n : ℕ) (xs : List ℕ) → AllByRecursion (λ y. y ≡ p) xs → AllByRecursion (λ y. y ≡ p) (take n xs)
take_same p (suc n) (x ∷ xs) all = (all.0, take_same p n xs all.1)
take_same p _ _ all = tt

head_of : (p x n : ℕ) (xs : List ℕ) → AllByRecursion (λ y. y ≡ p) xs → 0 < length xs → 0 < n → x ≡ p → Contains (take n xs) x
head_of p x n [] all some more is = absurd (omega (arith, some))
head_of p x zero (y ∷ ys) all some more is = absurd (omega (arith, more))
head_of p x (suc n) (y ∷ ys) all some more is = (0, omega arith, all.0 ∙ sym is)

begun_more : (n : ℕ) (runs : List PageRun) (r : PageRun) → begun n (runs ++ r ∷ []) ≡ begun n runs ++ begun n (r ∷ [])
begun_more n runs r =
    ap (map (λ (r : PageRun). r.page)) (filter-append (λ (r : PageRun). nat_lt r.from n) runs (r ∷ []))
    ∙ map-append (λ (r : PageRun). r.page) (filter (λ (r : PageRun). nat_lt r.from n) runs)
    (filter (λ (r : PageRun). nat_lt r.from n) (r ∷ []))

one_begun : (n : ℕ) (r : PageRun) (b : Bool) → nat_lt r.from n ≡ b → begun n (r ∷ []) ≡ (if b then r.page ∷ [] else [])
one_begun n r true is = rw is refl
one_begun n r false is = rw is refl

or_more : (before more : List ℕ) (runs : List PageRun) (r : PageRun) (n x : ℕ) → AreRuns before runs → r.from ≡ length before →
    AllByRecursion (λ y. y ≡ r.page) more → 0 < length more →
    (b : Bool) → nat_lt r.from n ≡ b → Contains (begun n (runs ++ r ∷ [])) x ↔ Contains (take n (before ++ more)) x
or_more before more runs r n x is from same some true lt =
    let below : r.from < n = grind (arith, nat_tests) in
    let left : begun n (runs ++ r ∷ []) ≡ begun n runs ++ r.page ∷ [] =
    begun_more n runs r ∙ ap (λ (xs : List ℕ). begun n runs ++ xs) (one_begun n r true lt) in
    let count : n ≡ length before + (n - length before) = omega (arith, below, from) in
    let right : take n (before ++ more) ≡ before ++ take (n - length before) more =
    ap (λ k. take k (before ++ more)) count ∙ take-append-add before more (n - length before) in
    let whole : take n before ≡ before = take_all n before (omega (arith, below, from)) in (
      (λ has. subst (λ (xs : List ℕ). Contains xs x) (sym right) (
          elim (Contains-append_cases (begun n runs) (r.page ∷ []) x (subst (λ (xs : List ℕ). Contains xs x) left has)) [
            | inl old ↦ Contains-append_left before (take (n - length before) more) x
                (subst (λ (xs : List ℕ). Contains xs x) whole ((is n x).0 old))
            | inr new ↦ Contains-append_right before (take (n - length before) more) x (head_of r.page x (n - length before) more same some
                (omega (arith, below, from)) (same_of r.page x (r.page ∷ []) (refl, tt) new))
          ]
          )),
      (λ has. subst (λ (xs : List ℕ). Contains xs x) (sym left) (
          elim (Contains-append_cases before (take (n - length before) more) x (subst (λ (xs : List ℕ). Contains xs x) right has)) [
            | inl old ↦ Contains-append_left (begun n runs) (r.page ∷ []) x
                ((is n x).1 (subst (λ (xs : List ℕ). Contains xs x) (sym whole) old))
            | inr new ↦ Contains-append_right (begun n runs) (r.page ∷ []) x (
              0,
              omega arith,
              sym (same_of r.page x (take (n - length before) more) (take_same r.page (n - length before) more same) new),
            )
          ]
          )),
    )
or_more before more runs r n x is from same some false lt =
    let late : n ≤ r.from = grind (arith, nat_tests) in
    let past : n ≤ length before = omega (arith, late, from) in
    let left : begun n (runs ++ r ∷ []) ≡ begun n runs =
    begun_more n runs r ∙ ap (λ (xs : List ℕ). begun n runs ++ xs) (one_begun n r false lt) ∙ append-nil (begun n runs) in
    let right : take n (before ++ more) ≡ take n before = take-append-le n before more past in (
      (λ has. subst (λ (xs : List ℕ). Contains xs x) (sym right) ((is n x).0 (subst (λ (xs : List ℕ). Contains xs x) left has))),
      (λ has. subst (λ (xs : List ℕ). Contains xs x) (sym left) ((is n x).1 (subst (λ (xs : List ℕ). Contains xs x) right has))),
    )

-- one run more, of bytes in one page
pub runs_more : (before more : List ℕ) (runs : List PageRun) (r : PageRun) → AreRuns before runs → r.from ≡ length before →
    AllByRecursion (λ y. y ≡ r.page) more → 0 < length more → AreRuns (before ++ more) (runs ++ r ∷ [])
runs_more before more runs r is from same some n x = or_more before more runs r n x is from same some (nat_lt r.from n) refl

-- the next bytes of a window
pub next_run :
    (ls : List ℕ) (block offset : ℕ) (io : Option IoMarks) (done count from : ℕ) (before : List ℕ) (runs : List PageRun) (r : PageRun) →
    AreRuns (before ++ map (page_of ls) (span block offset io done)) runs → length before ≡ from → r.from ≡ from + done →
    r.page ≡ first_page ls block + (offset + done) / 4096 →
    0 < count → (offset + done) % 4096 + count ≤ 4096 →
    AreRuns (before ++ map (page_of ls) (span block offset io (done + count))) (runs ++ r ∷ [])
next_run ls block offset io done count from before runs r is begins at page some fits =
    let first = map (page_of ls) (span block offset io done) in
    let more = map (page_of ls) (span block (offset + done) io count) in
    let all : before ++ map (page_of ls) (span block offset io (done + count)) ≡ (before ++ first) ++ more =
    ap (λ (xs : List ℕ). before ++ xs) (span_parts ls block offset io done count) ∙ sym (append_assoc before first more) in
    let length_first = length_span ls block offset io done in
    let length_more = length_span ls block (offset + done) io count in
    let whole = length-append before first in
    let same : AllByRecursion (λ y. y ≡ r.page) more =
    subst (λ p. AllByRecursion (λ y. y ≡ p) more) (sym page)
    (span_in_page ls block (offset + done) io count ((offset + done) / 4096) (λ k below. omega (arith, below, fits))) in
    subst (λ (xs : List ℕ). AreRuns xs (runs ++ r ∷ [])) (sym all)
    (runs_more (before ++ first) more runs r is (omega (arith, whole, length_first, begins, at)) same (omega (arith, length_more, some)))

-- ---- the windows so far

take_item : {X : Type 0} (xs : List X) (i : ℕ) (x : X) → i < length xs → x ≡ get_or xs i x → take (i + 1) xs ≡ take i xs ++ x ∷ []
take_item {X} xs i x lt is = take_more xs i x lt ∙ ap (λ (y : X). take i xs ++ y ∷ []) (sym is)

pub windows_more : (ls : List ℕ) (ws : List Window) (i : ℕ) (w : Window) → i < length ws → w ≡ get_or ws i w →
    map (page_of ls) (places (take (i + 1) ws)) ≡ map (page_of ls) (places (take i ws)) ++ map (page_of ls) (places_of w)
windows_more ls ws i w lt is =
    ap (λ (xs : List Window). map (page_of ls) (places xs)) (take_item ws i w lt is)
    ∙ ap (map (page_of ls)) (flat_map-append places_of (take i ws) (w ∷ [])
    ∙ ap (λ (xs : List Place). places (take i ws) ++ xs) (append-nil (places_of w)))
    ∙ map-append (page_of ls) (places (take i ws)) (places_of w)

pub places_more : (ws : List Window) (i : ℕ) (w : Window) → i < length ws → w ≡ get_or ws i w →
    length (places (take (i + 1) ws)) ≡ length (places (take i ws)) + w.len
places_more ws i w lt is =
    let all = ap (λ (xs : List Window). length (places xs)) (take_item ws i w lt is) in
    let parts = ap (λ (xs : List Place). length xs) (flat_map-append places_of (take i ws) (w ∷ [])) in
    let last : length (places (w ∷ [])) ≡ w.len =
    ap (λ (xs : List Place). length xs) (append-nil (places_of w)) ∙ length-span w.len w.block w.offset w.io in
    let whole = length-append (places (take i ws)) (places (w ∷ [])) in
    omega (arith, all, parts, last, whole)

pub places_left : (ws : List Window) (i : ℕ) → length (places (take i ws)) ≤ length (places ws)
places_left ws i =
    let all = ap (λ (xs : List Window). length (places xs)) (take-append-drop i ws) in
    let parts = ap (λ (xs : List Place). length xs) (flat_map-append places_of (take i ws) (drop i ws)) in
    let whole = length-append (places (take i ws)) (places (drop i ws)) in
    omega (arith, all, parts, whole)

take_none : (n : ℕ) → take {A = ℕ} n [] ≡ []
take_none zero = refl
take_none (suc n) = refl

pub no_runs : AreRuns [] []
no_runs n x = (
  (λ has. subst (λ (xs : List ℕ). Contains xs x) (sym (take_none n)) has),
  (λ has. subst (λ (xs : List ℕ). Contains xs x) (take_none n) has),
)

-- ---- the pages of both

pub both_pages : (ls : List ℕ) (firsts lasts : List Place) (first last : List PageRun) (n m : ℕ) (pages : List ℕ) →
    AreRuns (map (page_of ls) firsts) first → AreRuns (map (page_of ls) lasts) last →
    IsStrictlyIncreasing pages → ((page : ℕ) → Contains pages page ↔ Contains (begun n first ++ begun m last) page) →
    ArePagesOf ls (take n firsts ++ take m lasts) pages
both_pages ls firsts lasts first last n m pages one two ascending all =
    let whole : map (page_of ls) (take n firsts ++ take m lasts) ≡ take n (map (page_of ls) firsts) ++ take m (map (page_of ls) lasts) =
    map-append (page_of ls) (take n firsts) (take m lasts)
    ∙ ap (λ (xs : List ℕ). xs ++ map (page_of ls) (take m lasts)) (sym (take-map (page_of ls) n firsts))
    ∙ ap (λ (xs : List ℕ). take n (map (page_of ls) firsts) ++ xs) (sym (take-map (page_of ls) m lasts)) in
    record {
      ascending = ascending;
      all = λ page. (
        (λ has. subst (λ (xs : List ℕ). Contains xs page) (sym whole) (
            elim (Contains-append_cases (begun n first) (begun m last) page ((all page).0 has)) [
              | inl old ↦
                  Contains-append_left (take n (map (page_of ls) firsts)) (take m (map (page_of ls) lasts)) page ((one n page).0 old)
              | inr new ↦
                  Contains-append_right (take n (map (page_of ls) firsts)) (take m (map (page_of ls) lasts)) page ((two m page).0 new)
            ]
            )),
        (λ has. (all page).1 (
            elim (Contains-append_cases (take n (map (page_of ls) firsts)) (take m (map (page_of ls) lasts)) page
            (subst (λ (xs : List ℕ). Contains xs page) whole has)) [
              | inl old ↦ Contains-append_left (begun n first) (begun m last) page ((one n page).1 old)
              | inr new ↦ Contains-append_right (begun n first) (begun m last) page ((two m page).1 new)
            ]
            )),
      );
    }
