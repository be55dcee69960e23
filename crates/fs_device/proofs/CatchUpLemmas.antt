-- an image that differs from a host on marked pages alone, and catches up when those are put in
use Rattle.std.proofs.Common.{◌≡◌, ℕ, Bool, true, false, ◌+◌, ◌*◌, ◌-◌, ◌/◌, ◌<◌, ◌≤◌, ◌++◌, suc, List, [], ◌∷◌, length, map, take}
use Rattle.std.proofs.Common.{drop, get_or, refl, ap, sym, ◌∙◌, arith, ⊎_elim, append_assoc, length-append, length-drop}
use Rattle.std.specs.Prelude.{slice_range, if◌then◌else◌}
use Rattle.std.proofs.lemmas.List.{ext_get_or, length-take, get_or_append_left, get_or-append_right, get_or-take, get_or-drop, length_push}
use Rattle.std.proofs.lemmas.Bool.{cases_lt}
use Rattle.vm_memory_core.specs.Host.{Block, Host, changed_at, page_count, with_blocks}
use Rattle.plain_machine.specs.Harvested.{Page, block_pages, host_pages, harvested}
use Rattle.fs_device.specs.Applying.{page_put, pages_put, with_page}

-- ---- one page

abbrev page_bytes : List ℕ → (at : ℕ) → List ℕ
page_bytes from at = slice_range from at (at + 4096)

-- what a list has once a page of another is put in
abbrev turned : (to from : List ℕ) → (at : ℕ) → List ℕ
turned to from at = with_page to at (page_bytes from at)

module _ (to from : List ℕ) (at : ℕ) where
  abbrev page : List ℕ
  page = page_bytes from at

  abbrev rest : List ℕ
  rest = drop (at + length page) to

  length-turned : length to ≡ length from → length (turned to from at) ≡ length to
  length-turned same =
      let a = length-take (at + 4096 - at) (drop at from) in
      let b = length-drop at from in
      let f : length (turned to from at) ≡ length (take at to ++ page) + length rest = length-append (take at to ++ page) rest in
      f ∙ omega (arith, a, b, length-take at to, length-drop (at + length page) to, length-append (take at to) page)

  joined : (o : ℕ) → get_or (turned to from at) o 0 ≡ get_or (take at to ++ (page ++ rest)) o 0
  joined o = ap (λ (l : List ℕ). get_or l o 0) (append_assoc (take at to) page rest)

  before_page : (o : ℕ) → o < length to → o < at → get_or (turned to from at) o 0 ≡ get_or to o 0
  before_page o within low =
      let c = length-take at to in
      joined o ∙ get_or_append_left (take at to) (page ++ rest) 0 o (omega arith) ∙ get_or-take at to o 0 low

  in_page : (o : ℕ) → length to ≡ length from → o < length to → at ≤ o → o < at + 4096 → get_or (turned to from at) o 0 ≡ get_or from o 0
  in_page o same within low high =
      let a = length-take (at + 4096 - at) (drop at from) in
      let b = length-drop at from in
      let c = length-take at to in
      let e : at + (o - at) ≡ o = omega arith in
      joined o
      ∙ get_or-append_right (take at to) (page ++ rest) at o 0 (omega arith) low
      ∙ get_or_append_left page rest 0 (o - at) (omega arith)
      ∙ get_or-take (at + 4096 - at) (drop at from) (o - at) 0 (omega arith)
      ∙ get_or-drop at from (o - at) 0
      ∙ ap (λ k. get_or from k 0) e

  after_page : (o : ℕ) → length to ≡ length from → o < length to → at + 4096 ≤ o → get_or (turned to from at) o 0 ≡ get_or to o 0
  after_page o same within high =
      let a = length-take (at + 4096 - at) (drop at from) in
      let b = length-drop at from in
      let c = length-take at to in
      let e : at + length page + (o - at - length page) ≡ o = omega arith in
      joined o
      ∙ get_or-append_right (take at to) (page ++ rest) at o 0 (omega arith) (omega arith)
      ∙ get_or-append_right page rest (length page) (o - at) 0 refl (omega arith)
      ∙ get_or-drop (at + length page) to (o - at - length page) 0
      ∙ ap (λ k. get_or to k 0) e

-- ---- the marked pages of a block

-- the bytes once the marked pages of others, numbered from q on, are put in
abbrev all_turned : (from : List ℕ) → (q : ℕ) → List Bool → (to : List ℕ) → List ℕ
all_turned from q [] to = to
all_turned from q (m ∷ marks) to = all_turned from (q + 1) marks (if m then turned to from (q * 4096) else to)

-- bytes are the others' before a page, and on each page from there on that isn't marked
record SameOff (to from : List ℕ) (q : ℕ) (marks : List Bool) : Type 0 where
  pub len : length to ≡ length from
  pub before : (o : ℕ) → o < length to → o < q * 4096 → get_or to o 0 ≡ get_or from o 0
  pub off : (o : ℕ) → o < length to → q * 4096 ≤ o → get_or marks (o / 4096 - q) false ≡ false → get_or to o 0 ≡ get_or from o 0

next_mark : (marks : List Bool) (m : Bool) (q o : ℕ) → (q + 1) * 4096 ≤ o → get_or marks (o / 4096 - (q + 1)) false ≡ false →
    get_or (m ∷ marks) (o / 4096 - q) false ≡ false
next_mark marks m q o high e =
    let k : o / 4096 - q ≡ suc (o / 4096 - (q + 1)) = omega arith in
    ap (λ i. get_or (m ∷ marks) i false) k ∙ e

first_mark : (marks : List Bool) (m : Bool) (q o : ℕ) → q * 4096 ≤ o → o < (q + 1) * 4096 → m ≡ false →
    get_or (m ∷ marks) (o / 4096 - q) false ≡ false
first_mark marks m q o low high e =
    let k : o / 4096 - q ≡ 0 = omega arith in
    ap (λ i. get_or (m ∷ marks) i false) k ∙ e

turn_more : (to from : List ℕ) (q : ℕ) (marks : List Bool) → SameOff to from q (true ∷ marks) →
    SameOff (turned to from (q * 4096)) from (q + 1) marks
turn_more to from q marks s =
    let n = length-turned to from (q * 4096) s.len in
    record {
      len = n ∙ s.len;
      before = λ o within low.
          let inside : o < length to = omega (arith, n, within) in
          ⊎_elim
          (λ (h : o < q * 4096). before_page to from (q * 4096) o inside h ∙ s.before o inside h)
          (λ (h : q * 4096 ≤ o). in_page to from (q * 4096) o s.len inside h (omega (arith, h, low)))
          (cases_lt o (q * 4096));
      off = λ o within high e.
          let inside : o < length to = omega (arith, n, within) in
          after_page to from (q * 4096) o s.len inside (omega (arith, high))
          ∙ s.off o inside (omega (arith, high)) (next_mark marks true q o high e);
    }

stay_more : (to from : List ℕ) (q : ℕ) (marks : List Bool) → SameOff to from q (false ∷ marks) → SameOff to from (q + 1) marks
stay_more to from q marks s = record {
  len = s.len;
  before = λ o within low.
      ⊎_elim
      (λ (h : o < q * 4096). s.before o within h)
      (λ (h : q * 4096 ≤ o). s.off o within h (first_mark marks false q o h low refl))
      (cases_lt o (q * 4096));
  off = λ o within high e. s.off o within (omega (arith, high)) (next_mark marks false q o high e);
}

all_same : (to from : List ℕ) (q : ℕ) (marks : List Bool) → SameOff to from q marks → all_turned from q marks to ≡ from
all_same to from q [] s =
    ext_get_or 0 to from s.len
    (λ o within. ⊎_elim (λ (h : o < q * 4096). s.before o within h) (λ (h : q * 4096 ≤ o). s.off o within h refl) (cases_lt o (q * 4096)))
all_same to from q (true ∷ marks) s = all_same (turned to from (q * 4096)) from (q + 1) marks (turn_more to from q marks s)
all_same to from q (false ∷ marks) s = all_same to from (q + 1) marks (stay_more to from q marks s)

-- ---- blocks

-- a block of an image against one of a host: as long, with as many marks, one for each page, of which none is set; its bytes
-- are the host's on each page that isn't marked there
pub record BlockTracks (a b : Block) : Type 0 where
  pub len : length a.bytes ≡ length b.bytes
  pub clear : a.marks ≡ map (λ _. false) b.marks
  pub sized : length b.marks ≡ page_count (length b.bytes)
  pub same : (o : ℕ) → get_or b.marks (o / 4096) false ≡ false → get_or a.bytes o 0 ≡ get_or b.bytes o 0

abbrev pub BlocksTrack : List Block → List Block → Type 0
BlocksTrack [] [] = Unit {0}
BlocksTrack (a ∷ as') (b ∷ bs) = BlockTracks a b × BlocksTrack as' bs
BlocksTrack _ _ = ⊥

-- an image against a host: what differs lies on a marked page
pub record Tracks (image host : Host) : Type 0 where
  pub blocks : BlocksTrack image.blocks host.blocks
  pub tables : image.tables ≡ host.tables
  pub io_marks : image.io_marks ≡ host.io_marks

-- a block with other bytes
abbrev refilled : Block → List ℕ → Block
refilled b bytes = record b { bytes = bytes }

block_same : (a b : Block) → BlockTracks a b → refilled a (all_turned b.bytes 0 b.marks a.bytes) ≡ refilled a b.bytes
block_same a b f = ap (refilled a) (all_same a.bytes b.bytes 0 b.marks (record {
  len = f.len;
  before = λ o within low. absurd (omega (arith, low));
  off = λ o within low e. let k : o / 4096 - 0 ≡ o / 4096 = omega arith in f.same o (ap (λ i. get_or b.marks i false) (sym k) ∙ e);
}))

at_front : (front back : List Block) (b : Block) (f : Block → Block) → changed_at (front ++ b ∷ back) (length front) f ≡ front ++ f b ∷ back
at_front [] back b f = refl
at_front (x ∷ front) back b f = ap (λ (l : List Block). x ∷ l) (at_front front back b f)

-- the marked pages of others are put into a block
pages_turn : (h : Host) (front back : List Block) (b : Block) (from : List ℕ) (q : ℕ) (marks : List Bool) →
    pages_put (with_blocks h (front ++ b ∷ back)) (block_pages (length front) from q marks)
    ≡ with_blocks h (front ++ refilled b (all_turned from q marks b.bytes) ∷ back)
unfolding pages_put block_pages
pages_turn h front back b from q [] = refl
pages_turn h front back b from q (true ∷ marks) =
    ap (λ (l : List Block). pages_put (with_blocks h l) (block_pages (length front) from (q + 1) marks))
    (at_front front back b (λ (k : Block). refilled k (turned k.bytes from (q * 4096))))
    ∙ pages_turn h front back (refilled b (turned b.bytes from (q * 4096))) from (q + 1) marks
pages_turn h front back b from q (false ∷ marks) = pages_turn h front back b from (q + 1) marks

-- pages put in after others
pub pages_put-append : (h : Host) (xs ys : List Page) → pages_put h (xs ++ ys) ≡ pages_put (pages_put h xs) ys
unfolding pages_put
pages_put-append h [] ys = refl
pages_put-append h (x ∷ xs) ys = pages_put-append (page_put h x) xs ys

-- the blocks of an image with the bytes of a host's
abbrev pub caught_up : List Block → List Block → List Block
caught_up [] bs = []
caught_up (a ∷ as') [] = a ∷ as'
caught_up (a ∷ as') (b ∷ bs) = refilled a b.bytes ∷ caught_up as' bs

blocks_turn : (h : Host) (front xs ys : List Block) → BlocksTrack xs ys →
    pages_put (with_blocks h (front ++ xs)) (host_pages (length front) ys) ≡ with_blocks h (front ++ caught_up xs ys)
unfolding pages_put host_pages
blocks_turn h front [] [] f = refl
blocks_turn h front (a ∷ xs) (b ∷ ys) f =
    let next = refilled a b.bytes in
    let one : front ++ next ∷ xs ≡ (front ++ next ∷ []) ++ xs = sym (append_assoc front (next ∷ []) xs) in
    let count = length_push front next in
    pages_put-append (with_blocks h (front ++ a ∷ xs)) (block_pages (length front) b.bytes 0 b.marks) (host_pages (length front + 1) ys)
    ∙ ap (λ (k : Host). pages_put k (host_pages (length front + 1) ys))
    (pages_turn h front xs a b.bytes 0 b.marks ∙ ap (λ (k : Block). with_blocks h (front ++ k ∷ xs)) (block_same a b f.0)
    ∙ ap (with_blocks h) one)
    ∙ ap (λ n. pages_put (with_blocks h ((front ++ next ∷ []) ++ xs)) (host_pages n ys)) (sym count)
    ∙ blocks_turn h (front ++ next ∷ []) xs ys f.1
    ∙ ap (with_blocks h) (append_assoc front (next ∷ []) (caught_up xs ys))
blocks_turn h front _ _ f = absurd f

-- with the marked pages put in, an image has the bytes of the host
pub harvest_restores :
    (image host : Host) → Tracks image host → pages_put image (harvested host) ≡ with_blocks image (caught_up image.blocks host.blocks)
harvest_restores image host f = blocks_turn image [] image.blocks host.blocks f.blocks
