-- The counts of passes for each page: whether they marked it, how often they set and cleared it, how often
-- all passes did as far as they have seen, and how many of their steps met it.
use Rattle.std.specs.Prelude.{◌≡◌, ℕ, suc, ◌+◌, ◌-◌, ◌*◌, ◌/◌, ◌%◌, ◌^◌, max, Bool, true, false, cond, nat_eq}
use Rattle.std.specs.Prelude.{List, [], ◌∷◌, slice_index_or, replicate}
use Rattle.std.specs.Int.{bit_at}
use Rattle.vm_atomic_bitmaps.specs.declared.counts.Tally.{Tally}
use Rattle.vm_atomic_bitmaps.specs.declared.counts.PageCounts.{PageCounts}

-- the tally of a page of which nothing is counted
abbrev pub no_tally : Tally
no_tally = record { marked = false; on = 0; off = 0; held = 0; seen = 0; mark_steps = 0; clear_steps = 0 }

-- the tally of page p; past the list it is no_tally
abbrev pub tally_of : List Tally → (p : ℕ) → Tally
tally_of pages p = slice_index_or pages p no_tally

-- f of each page's number and tally; the first page of the list has the number k
abbrev pub each_tally : (ℕ → Tally → Tally) → (k : ℕ) → List Tally → List Tally
each_tally f k [] = []
each_tally f k (t ∷ ts) = f k t ∷ each_tally f (suc k) ts

-- the tally of a page after a mark that found its bit `was`. The page is now set, so all passes set it at
-- least once more than the pass has seen it cleared
abbrev pub after_mark : (was : ℕ) → Tally → Tally
after_mark was t =
    record {
      marked = true;
      on = t.on + (1 - was);
      off = t.off;
      held = max t.held (t.seen + 1);
      seen = t.seen;
      mark_steps = t.mark_steps + 1;
      clear_steps = t.clear_steps;
    }

-- the tally of a page after a gather or a clear that found its bit `was`. The page is now clear, so all
-- passes cleared it at least as often as the pass has seen it set
abbrev pub after_clearing : (was : ℕ) → Tally → Tally
after_clearing was t =
    record {
      marked = t.marked;
      on = t.on;
      off = t.off + was;
      held = t.held;
      seen = max t.held (t.seen + was);
      mark_steps = t.mark_steps;
      clear_steps = t.clear_steps + 1;
    }

-- the tally of a page after a load that found its bit `was`. All passes set the page `was` times more than
-- they cleared it, so `held` becomes `seen` plus `was`
abbrev pub after_read : (was : ℕ) → Tally → Tally
after_read was t =
    record {
      marked = t.marked;
      on = t.on;
      off = t.off;
      held = max t.held (t.seen + was);
      seen = max t.seen (t.held - was);
      mark_steps = t.mark_steps;
      clear_steps = t.clear_steps;
    }

-- page p is in word i
abbrev pub in_word : (i p : ℕ) → Bool
in_word i p = nat_eq (p / 64) i

-- page p is in word i, and its bit in the mask is b
abbrev pub picks : (i mask b p : ℕ) → Bool
picks i mask b p = cond (in_word i p) (nat_eq (bit_at mask (p % 64)) b) false

-- the tallies after a step that marks the pages with `hit` of a word that was `found`
abbrev pub marked_by : (hit : ℕ → Bool) (found : ℕ) → List Tally → List Tally
marked_by hit found = each_tally (λ p t. cond (hit p) (after_mark (bit_at found (p % 64)) t) t) 0

-- the tallies after a step that clears the pages with `hit` of a word that was `found`
abbrev pub cleared_by : (hit : ℕ → Bool) (found : ℕ) → List Tally → List Tally
cleared_by hit found = each_tally (λ p t. cond (hit p) (after_clearing (bit_at found (p % 64)) t) t) 0

-- the tallies after a step that reads the pages with `hit` of a word that was `found`
abbrev pub read_by : (hit : ℕ → Bool) (found : ℕ) → List Tally → List Tally
read_by hit found = each_tally (λ p t. cond (hit p) (after_read (bit_at found (p % 64)) t) t) 0

-- the tallies of two passes for a page, joined: `held` and `seen` are the greater ones, other counts add up
abbrev pub both_of : Tally → Tally → Tally
both_of t u = record {
  marked = cond t.marked true u.marked;
  on = t.on + u.on;
  off = t.off + u.off;
  held = max t.held u.held;
  seen = max t.seen u.seen;
  mark_steps = t.mark_steps + u.mark_steps;
  clear_steps = t.clear_steps + u.clear_steps;
}

-- `held` and `seen` of a tally, without the pass's own steps
abbrev pub only_seen : Tally → Tally
only_seen t =
    record { marked = false; on = 0; off = 0; held = t.held; seen = t.seen; mark_steps = 0; clear_steps = 0 }

-- the tally t with `held` and `seen` raised to those of u
abbrev pub met_of : Tally → Tally → Tally
met_of t u =
    record {
      marked = t.marked;
      on = t.on;
      off = t.off;
      held = max t.held u.held;
      seen = max t.seen u.seen;
      mark_steps = t.mark_steps;
      clear_steps = t.clear_steps;
    }

-- the tallies, each joined with that of another pass
abbrev pub joined_with : List Tally → List Tally → List Tally
joined_with us = each_tally (λ p t. both_of t (tally_of us p)) 0

-- the tallies, each with `held` and `seen` raised to those of another pass
abbrev pub met_with : List Tally → List Tally → List Tally
met_with us = each_tally (λ p t. met_of t (tally_of us p)) 0

-- a list of no_tally of the same length
abbrev pub clear_of : List Tally → List Tally
clear_of = each_tally (λ p t. no_tally) 0

-- the tallies, each with `held` and `seen` alone
abbrev pub seen_of : List Tally → List Tally
seen_of = each_tally (λ p t. only_seen t) 0

-- the first pass of a bitmap with len pages: it has counted nothing, and has every part
abbrev pub first_pass : (len : ℕ) → PageCounts
first_pass len = record { pages = replicate len no_tally; parts = 1; depth = 0 }

-- a pass after it was joined into another: no tallies and no part
abbrev pub spent : PageCounts
spent = record { pages = []; parts = 0; depth = 0 }

-- the same pass with other tallies
abbrev pub with_pages : PageCounts → List Tally → PageCounts
with_pages v pages = record { pages = pages; parts = v.parts; depth = v.depth }

-- a pass after a split: it keeps its tallies and half of its part
abbrev pub preserved_half : PageCounts → PageCounts
preserved_half v = record { pages = v.pages; parts = v.parts; depth = suc v.depth }

-- the new pass of a split: it has counted nothing, and has the other half
abbrev pub new_half : PageCounts → PageCounts
new_half v = record { pages = clear_of v.pages; parts = v.parts; depth = suc v.depth }

-- a pass's `held` and `seen`, with no part
abbrev pub telling : PageCounts → PageCounts
telling v = record { pages = seen_of v.pages; parts = 0; depth = 0 }

-- two passes joined: their tallies are joined, and their parts added
abbrev pub both_passes : PageCounts → PageCounts → PageCounts
both_passes v w =
    record {
      pages = joined_with w.pages v.pages;
      parts = v.parts * 2 ^ w.depth + w.parts * 2 ^ v.depth;
      depth = v.depth + w.depth;
    }

-- the pass has every part, so no other pass has marked, set or cleared a page
abbrev pub IsWhole : PageCounts → Type 0
IsWhole v = v.parts ≡ 2 ^ v.depth
