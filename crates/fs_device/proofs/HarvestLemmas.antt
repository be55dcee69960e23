-- the marked pages, one page and one block further
use Rattle.std.proofs.Common.{◌≡◌, ℕ, Bool, true, false, ◌+◌, ◌-◌, ◌<◌, ◌≤◌, inl, inr, ◌++◌, zero, suc, List, [], ◌∷◌, length, map, take}
use Rattle.std.proofs.Common.{drop, get_or, refl, ap, sym, ◌∙◌, arith, append_assoc, append-nil, add-one, Option, Some, None}
use Rattle.std.specs.Prelude.{slice_get, unwrap_or, if◌then◌else◌}
use Rattle.std.specs.Option.{option_map}
use Rattle.std.proofs.lemmas.Bool.{cases_lt}
use Rattle.std.proofs.lemmas.List.{drop_more, drop_all, get_or_past}
use Rattle.std.proofs.lemmas.Option.{slice_get-get_or, unwrap_or-slice_get}
use Rattle.vm_bitmaps.specs.Pages.{IsNextMarked, mark_of}
use Rattle.vm_memory_core.specs.Host.{Block, Host, Shape, changed_at, cleared, shape, unmarked, with_blocks}
use Rattle.plain_machine.specs.Harvested.{Page, block_pages, host_pages, page_copied}

mark_is : (marks : List Bool) (p : ℕ) → p < length marks → unwrap_or (slice_get marks p) false ≡ get_or marks p false
mark_is marks p h = ap (λ (o : Option Bool). unwrap_or o false) (slice_get-get_or marks p false h)

pages_next :
    (block : ℕ) (bytes : List ℕ) (p : ℕ) (marks : List Bool) (m : Bool) → p < length marks → unwrap_or (slice_get marks p) false ≡ m →
    block_pages block bytes p (drop p marks) ≡ (if m then page_copied block bytes p ∷ [] else [])
    ++ block_pages block bytes (p + 1) (drop (p + 1) marks)
unfolding block_pages
pages_next block bytes p marks m h e =
    let next = drop_more marks p false h in
    let here : get_or marks p false ≡ m = sym (mark_is marks p h) ∙ e in
    rw (next, here)

page_marked : (block : ℕ) (bytes : List ℕ) (p : ℕ) (marks : List Bool) (old : List Page) (x : Page) (whole : List Page) → p < length marks →
    unwrap_or (slice_get marks p) false ≡ true →
    x ≡ page_copied block bytes p → old ++ block_pages block bytes p (drop p marks) ≡ whole →
    (old ++ x ∷ []) ++ block_pages block bytes (p + 1) (drop (p + 1) marks) ≡ whole
page_marked block bytes p marks old x whole h e is all =
    append_assoc old (x ∷ []) (block_pages block bytes (p + 1) (drop (p + 1) marks))
    ∙ ap (λ (y : Page). old ++ (y ∷ [] ++ block_pages block bytes (p + 1) (drop (p + 1) marks))) is
    ∙ sym (ap (λ (r : List Page). old ++ r) (pages_next block bytes p marks true h e)) ∙ all

pages_done : (block : ℕ) (bytes : List ℕ) (p : ℕ) (marks : List Bool) (old whole : List Page) → length marks ≤ p →
    old ++ block_pages block bytes p (drop p marks) ≡ whole → old ≡ whole
unfolding block_pages
pages_done block bytes p marks old whole h all =
    sym (append-nil old) ∙ ap (λ (r : List Page). old ++ r) (sym (ap (block_pages block bytes p) (drop_all p marks h))) ∙ all

-- pages that aren't marked are passed over
pages_skipped : (n block : ℕ) (bytes : List ℕ) (p : ℕ) (marks : List Bool) → p + n ≤ length marks →
    ((q : ℕ) → p ≤ q → q < p + n → mark_of marks q ≡ false) →
    block_pages block bytes p (drop p marks) ≡ block_pages block bytes (p + n) (drop (p + n) marks)
pages_skipped zero block bytes p marks within none =
    let same : p ≡ p + zero = omega arith in
    ap (λ k. block_pages block bytes k (drop k marks)) same
pages_skipped (suc n) block bytes p marks within none =
    let same : p + 1 + n ≡ p + suc n = omega arith in
    pages_next block bytes p marks false (omega arith) (none p (omega arith) (omega arith))
    ∙ pages_skipped n block bytes (p + 1) marks (omega arith) (λ q low high. none q (omega arith) (omega arith))
    ∙ ap (λ k. block_pages block bytes k (drop k marks)) same

skipped_to : (block : ℕ) (bytes : List ℕ) (from page : ℕ) (marks : List Bool) (old whole : List Page) → from ≤ page → page ≤ length marks →
    ((q : ℕ) → from ≤ q → q < page → mark_of marks q ≡ false) → old ++ block_pages block bytes from (drop from marks) ≡ whole →
    old ++ block_pages block bytes page (drop page marks) ≡ whole
skipped_to block bytes from page marks old whole order within none all =
    let same : from + (page - from) ≡ page = omega arith in
    let past = pages_skipped (page - from) block bytes from marks (omega arith) (λ q low high. none q low (omega arith)) in
    sym (ap (λ (r : List Page). old ++ r) (past ∙ ap (λ k. block_pages block bytes k (drop k marks)) same)) ∙ all

-- a page that is marked is one of the pages
pub marked_inside : (marks : List Bool) (p : ℕ) → mark_of marks p ≡ true → p < length marks
marked_inside marks p marked = elim (cases_lt p (length marks)) [
  | inl l ↦ l
  | inr g ↦ let none : mark_of marks p ≡ false = unwrap_or-slice_get marks p false ∙ get_or_past marks p false g in absurd (cc)
]

-- the next marked page is added
pub next_added : (block : ℕ) (bytes : List ℕ) (from page : ℕ) (marks : List Bool) (old : List Page) (x : Page) (whole : List Page) →
    IsNextMarked marks from (Some page) →
    x ≡ page_copied block bytes page → old ++ block_pages block bytes from (drop from marks) ≡ whole →
    (old ++ x ∷ []) ++ block_pages block bytes (page + 1) (drop (page + 1) marks) ≡ whole
next_added block bytes from page marks old x whole next is all =
    let inside = marked_inside marks page next.1 in
    page_marked block bytes page marks old x whole inside next.1 is
    (skipped_to block bytes from page marks old whole next.0 (omega arith) next.2 all)

-- no marked page is left
pub none_left : (block : ℕ) (bytes : List ℕ) (from : ℕ) (marks : List Bool) (old whole : List Page) → IsNextMarked marks from None →
    old ++ block_pages block bytes from (drop from marks) ≡ whole → old ≡ whole
none_left block bytes from marks old whole none all = elim (cases_lt (length marks) from) [
  | inl past ↦ pages_done block bytes from marks old whole (omega arith) all
  | inr within ↦ pages_done block bytes (length marks) marks old whole (omega arith)
      (skipped_to block bytes from (length marks) marks old whole within (omega arith) (λ q low high. none q low) all)
]

abbrev pub no_block : Block
no_block = record { bytes = []; marks = [] }

-- one block further
pub block_next : (blocks : List Block) (i : ℕ) (bytes : List ℕ) (marks : List Bool) (old new whole : List Page) → i < length blocks →
    Some bytes ≡ option_map (λ b. b.bytes) (slice_get blocks i) → Some marks ≡ option_map (λ b. b.marks) (slice_get blocks i) →
    new ≡ old ++ block_pages i bytes 0 marks → old ++ host_pages i (drop i blocks) ≡ whole →
    new ++ host_pages (i + 1) (drop (i + 1) blocks) ≡ whole
unfolding host_pages
block_next blocks i bytes marks old new whole h eb em is all =
    let b : Block = get_or blocks i no_block in
    let found : slice_get blocks i ≡ Some b = slice_get-get_or blocks i no_block h in
    let same_bytes : Some bytes ≡ Some b.bytes = eb ∙ ap (option_map (λ (k : Block). k.bytes)) found in
    let same_marks : Some marks ≡ Some b.marks = em ∙ ap (option_map (λ (k : Block). k.marks)) found in
    let same : block_pages i bytes 0 marks ≡ block_pages i b.bytes 0 b.marks =
    ap (λ (x : List ℕ). block_pages i x 0 marks) (some_is bytes b.bytes same_bytes) ∙ ap (block_pages i b.bytes 0)
    (some_is marks b.marks same_marks) in
    ap (λ (r : List Page). r ++ host_pages (i + 1) (drop (i + 1) blocks)) (is ∙ ap (λ (r : List Page). old ++ r) same)
    ∙ append_assoc old (block_pages i b.bytes 0 b.marks) (host_pages (i + 1) (drop (i + 1) blocks))
    ∙ sym (ap (λ (l : List Block). old ++ host_pages i l) (drop_more blocks i no_block h)) ∙ all
  where
    some_is : {X : Type 0} (x y : X) → Some x ≡ Some y → x ≡ y
    some_is x y e = cc

pub blocks_done :
    (blocks : List Block) (i : ℕ) (old whole : List Page) → length blocks ≤ i → old ++ host_pages i (drop i blocks) ≡ whole → old ≡ whole
unfolding host_pages
blocks_done blocks i old whole h all =
    sym (append-nil old) ∙ ap (λ (r : List Page). old ++ r) (sym (ap (host_pages i) (drop_all i blocks h))) ∙ all

-- a block that is there has its bytes
pub not_none :
    {A B : Type 0} (f : A → B) (blocks : List A) (i : ℕ) (d : A) → i < length blocks → None ≡ option_map f (slice_get blocks i) → ⊥
not_none f blocks i d h e =
    let found = slice_get-get_or blocks i d h in
    let no = e ∙ ap (option_map f) found in
    absurd (cc)

cleared_at : (l : List Block) (i : ℕ) → i < length l →
    changed_at (map unmarked (take i l) ++ drop i l) i unmarked ≡ map unmarked (take (suc i) l) ++ drop (suc i) l
cleared_at [] i h = absurd (omega arith)
cleared_at (x ∷ l) zero h = refl
cleared_at (x ∷ l) (suc i) h = ap (λ (r : List Block). unmarked x ∷ r) (cleared_at l i (omega arith))

-- the first blocks without their marks
abbrev cleared_to : Host → ℕ → Host
cleared_to h i = with_blocks h (map unmarked (take i h.blocks) ++ drop i h.blocks)

pub cleared_step : (h now new : Host) (i : ℕ) → i < length h.blocks → now ≡ cleared_to h i →
    new ≡ with_blocks now (changed_at now.blocks i unmarked) → new ≡ cleared_to h (i + 1)
cleared_step h now new i lt e is =
    is ∙ ap (λ (k : Host). with_blocks k (changed_at k.blocks i unmarked)) e ∙ ap (with_blocks h) (rw add-one (cleared_at h.blocks i lt))

lengths-unmarked : (l : List Block) → map (λ (b : Block). length b.bytes) (map unmarked l) ≡ map (λ (b : Block). length b.bytes) l
lengths-unmarked [] = refl
lengths-unmarked (b ∷ l) = ap (λ (r : List ℕ). length b.bytes ∷ r) (lengths-unmarked l)

-- no mark belongs to the shape
pub shape-cleared : (h : Host) → shape (cleared h) ≡ shape h
shape-cleared h = ap (λ (n : List ℕ). let s : Shape = record (shape h) { block_lengths = n } in s) (lengths-unmarked h.blocks)
