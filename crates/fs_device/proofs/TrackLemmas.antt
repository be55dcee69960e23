-- how an image goes on to track a host: from the copy on, through each store and each harvest
use Rattle.std.proofs.Common.{◌≡◌, ℕ, Bool, true, false, ◌+◌, ◌*◌, ◌-◌, ◌/◌, ◌<◌, ◌≤◌, ◌++◌, zero, suc, List, [], ◌∷◌, length, map, drop}
use Rattle.std.proofs.Common.{get_or, set, refl, ap, sym, ◌∙◌, subst, arith, ⊎_elim, append_assoc, length-drop, Option, Some, None}
use Rattle.std.specs.Prelude.{◌≢◌, slice_get, slice_range, option_and_then}
use Rattle.std.specs.List.{AllByRecursion}
use Rattle.std.proofs.lemmas.List.{length-map, length-set, length-take, get_or-set_same, get_or-set_other, length_push, set_past}
use Rattle.std.proofs.lemmas.Bool.{cases_lt, cases_eq, le-leb, true_from_ne_false}
use Rattle.std.proofs.lemmas.Option.{slice_get-get_or, slice_get_past}
use Rattle.vm_memory_core.specs.Host.{Block, Host, Shape, Place, IoAddress, byte_at, changed_at, cleared, lengths, marked, page_count}
use Rattle.vm_memory_core.specs.Host.{unmarked, with_byte, with_mark_by}
use Rattle.vm_memory_core.specs.Window.{put_byte}
use Rattle.fs_device.specs.declared.applying.ApplyError.{ApplyError}
use Rattle.plain_machine.specs.Harvested.{Page, block_pages, host_pages, harvested}
use Rattle.fs_device.specs.Applying.{first_refused, or_later, pages_put, refused_by}
use Rattle.fs_device.proofs.HarvestLemmas.{shape-cleared}
use Rattle.fs_device.proofs.CatchUpLemmas.{BlockTracks, BlocksTrack, Tracks, harvest_restores, caught_up}

-- ---- from the copy on

all_clear : (x y : List Bool) → length x ≡ length y → map (λ _. false) x ≡ map (λ _. false) y
all_clear [] [] e = refl
all_clear (a ∷ x) (b ∷ y) e = ap (λ (l : List Bool). false ∷ l) (all_clear x y (omega arith))
all_clear _ _ e = absurd (omega arith)

-- a block has a mark for each of its pages
abbrev pub IsSized : Block → Type 0
IsSized b = length b.marks ≡ page_count (length b.bytes)

blocks_begin : (l : List Block) → AllByRecursion IsSized l → BlocksTrack (map unmarked l) (map unmarked l)
blocks_begin [] sized = tt
blocks_begin (b ∷ l) sized =
    let n = length-map b.marks (λ _. false) in (
      record { len = refl; clear = all_clear b.marks (map (λ _. false) b.marks) (sym n); sized = n ∙ sized.0; same = λ o e. refl },
      blocks_begin l sized.1,
    )

-- an image tracks a host from when it is made
pub tracks_copy : (h : Host) → AllByRecursion IsSized h.blocks → Tracks (cleared h) (cleared h)
tracks_copy h sized = record { blocks = blocks_begin h.blocks sized; tables = refl; io_marks = refl }

blocks_sized : (xs ys : List Block) → BlocksTrack xs ys → AllByRecursion IsSized ys
blocks_sized [] [] f = tt
blocks_sized (a ∷ xs) (b ∷ ys) f = (f.0.sized, blocks_sized xs ys f.1)
blocks_sized _ _ f = absurd f

-- a host that an image tracks has a mark for each page of a block
pub tracks-sized : (image host : Host) → Tracks image host → AllByRecursion IsSized host.blocks
tracks-sized image host f = blocks_sized image.blocks host.blocks f.blocks

-- ---- a harvest

blocks_same : (xs ys : List Block) → BlocksTrack xs ys → caught_up xs ys ≡ map unmarked ys
blocks_same [] [] f = refl
blocks_same (a ∷ xs) (b ∷ ys) f =
    ap (λ (m : List Bool). let k : Block = record { bytes = b.bytes; marks = m } in k ∷ caught_up xs ys) f.0.clear
    ∙ ap (λ (l : List Block). unmarked b ∷ l) (blocks_same xs ys f.1)
blocks_same _ _ f = absurd f

-- with the marked pages put in, an image is the host, marks and all, once it is harvested
pub harvest_is_host : (image host : Host) → Tracks image host → pages_put image (harvested host) ≡ cleared host
harvest_is_host image host f =
    harvest_restores image host f
    ∙ ap (λ (l : List Block). let k : Host = record { blocks = l; tables = image.tables; io_marks = image.io_marks } in k)
    (blocks_same image.blocks host.blocks f.blocks)
    ∙ ap (λ t. let k : Host = record { blocks = map unmarked host.blocks; tables = t; io_marks = image.io_marks } in k) f.tables
    ∙ ap (λ (m : List (List Bool)). let k : Host = record { blocks = map unmarked host.blocks; tables = host.tables; io_marks = m } in k)
    f.io_marks

-- so it goes on to track it
pub tracks_harvest : (image host : Host) → Tracks image host → Tracks (pages_put image (harvested host)) (cleared host)
tracks_harvest image host f =
    subst (λ (h : Host). Tracks h (cleared host)) (sym (harvest_is_host image host f)) (tracks_copy host (tracks-sized image host f))

-- ---- stores

mark_stays :
    (marks : List Bool) (i j : ℕ) → get_or (set marks i true) j false ≡ false → (get_or marks j false ≡ false) × (i ≡ j → length marks ≤ i)
mark_stays marks i j e =
    ⊎_elim
    (λ (h : j ≡ i).
    ⊎_elim
    (λ (l : i < length marks). absurd (let t = get_or-set_same marks i true false l in
    let s : get_or (set marks i true) i false ≡ false = ap (λ k. get_or (set marks i true) k false) (sym h) ∙ e in cc))
    (λ (l : length marks ≤ i). (ap (λ (m : List Bool). get_or m j false) (sym (set_past marks i true l)) ∙ e, λ _. l))
    (cases_lt i (length marks)))
    (λ (h : j ≡ i → ⊥). (sym (get_or-set_other marks i j true false h) ∙ e, λ k. absurd (h (sym k))))
    (cases_eq j i)

-- the block once a byte is stored, and its page marked
abbrev byte_stored : ℕ → ℕ → Block → Block
byte_stored o byte b = record { bytes = set b.bytes o byte; marks = marked b.marks o }

block_stored : (a b : Block) (o byte : ℕ) → BlockTracks a b → BlockTracks a (byte_stored o byte b)
block_stored a b o byte f =
    let n = length-set b.bytes o byte in
    let k = length-set b.marks (o / 4096) true in
    record {
      len = f.len ∙ sym n;
      clear = f.clear ∙ all_clear b.marks (set b.marks (o / 4096) true) (sym k);
      sized = k ∙ f.sized ∙ ap page_count (sym n);
      same = λ i e.
          let was = mark_stays b.marks (o / 4096) (i / 4096) e in
          ⊎_elim
          (λ (h : i ≡ o).
          let past = was.1 (ap (λ k. k / 4096) (sym h)) in
          let none : length b.bytes ≤ o = omega (arith, past, f.sized) in
          f.same i was.0 ∙ ap (λ (l : List ℕ). get_or l i 0) (sym (set_past b.bytes o byte none)))
          (λ (h : i ≡ o → ⊥). f.same i was.0 ∙ sym (get_or-set_other b.bytes o i byte 0 h))
          (cases_eq i o);
    }

blocks_stored : (xs ys : List Block) (i o byte : ℕ) → BlocksTrack xs ys →
    BlocksTrack xs (changed_at (changed_at ys i (λ b. record b { bytes = set b.bytes o byte })) i
    (λ b. record b { marks = marked b.marks o }))
blocks_stored [] [] i o byte f = tt
blocks_stored (a ∷ xs) (b ∷ ys) zero o byte f = (block_stored a b o byte f.0, f.1)
blocks_stored (a ∷ xs) (b ∷ ys) (suc i) o byte f = (f.0, blocks_stored xs ys i o byte f.1)
blocks_stored _ _ i o byte f = absurd f

-- a byte that is stored marks its page
pub tracks_store : (image host : Host) (p : Place) (byte : ℕ) → p.io ≡ None → Tracks image host → Tracks image (put_byte host p byte)
tracks_store image host p byte plain f =
    subst (λ (io : Option IoAddress). Tracks image (with_mark_by io p (with_byte host p byte))) (sym plain)
    (record { blocks = blocks_stored image.blocks host.blocks p.block p.offset byte f.blocks; tables = f.tables; io_marks = f.io_marks })

-- ---- what is stale is marked

block_stale : (a b : Block) (o : ℕ) → BlockTracks a b → slice_get a.bytes o ≢ slice_get b.bytes o → slice_get b.marks (o / 4096) ≡ Some true
block_stale a b o f stale =
    ⊎_elim
    (λ (h : o < length b.bytes).
    slice_get-get_or b.marks (o / 4096) false (omega (arith, h, f.sized))
    ∙ ap Some (true_from_ne_false (get_or b.marks (o / 4096) false) (λ e.
    stale (slice_get-get_or a.bytes o 0 (omega (arith, h, f.len)) ∙ ap Some (f.same o e) ∙ sym (slice_get-get_or b.bytes o 0 h)))))
    (λ (h : length b.bytes ≤ o).
    absurd (stale (slice_get_past a.bytes o (omega (arith, h, f.len)) ∙ sym (slice_get_past b.bytes o h))))
    (cases_lt o (length b.bytes))

blocks_stale : (xs ys : List Block) (i o : ℕ) → BlocksTrack xs ys →
    option_and_then (λ (b : Block). slice_get b.bytes o) (slice_get xs i)
    ≢ option_and_then (λ (b : Block). slice_get b.bytes o) (slice_get ys i) →
    option_and_then (λ (b : Block). slice_get b.marks (o / 4096)) (slice_get ys i) ≡ Some true
blocks_stale [] [] i o f stale = absurd (stale refl)
blocks_stale (a ∷ xs) (b ∷ ys) zero o f stale = block_stale a b o f.0 stale
blocks_stale (a ∷ xs) (b ∷ ys) (suc i) o f stale = blocks_stale xs ys i o f.1 stale
blocks_stale _ _ i o f stale = absurd f

-- a place where an image differs lies on a marked page
pub stale_marked : (image host : Host) (p : Place) → Tracks image host → byte_at image p ≢ byte_at host p →
    option_and_then (λ (b : Block). slice_get b.marks (p.offset / 4096)) (slice_get host.blocks p.block) ≡ Some true
stale_marked image host p f stale = blocks_stale image.blocks host.blocks p.block p.offset f.blocks stale

-- ---- the pages have their places

blocks_lengths : (xs ys : List Block) → BlocksTrack xs ys → map (λ (b : Block). length b.bytes) xs ≡ map (λ (b : Block). length b.bytes) ys
blocks_lengths [] [] f = refl
blocks_lengths (a ∷ xs) (b ∷ ys) f =
    ap (λ n. n ∷ map (λ (k : Block). length k.bytes) xs) f.0.len ∙ ap (λ (l : List ℕ). length b.bytes ∷ l) (blocks_lengths xs ys f.1)
blocks_lengths _ _ f = absurd f

-- an image has the lengths of the host
pub tracks-lengths : (image host : Host) → Tracks image host → lengths image ≡ lengths host
tracks-lengths image host f = blocks_lengths image.blocks host.blocks f.blocks

-- the pages of a harvest leave an image its lengths
pub harvest-lengths : (image host : Host) → Tracks image host → lengths (pages_put image (harvested host)) ≡ lengths image
harvest-lengths image host f =
    tracks-lengths (pages_put image (harvested host)) (cleared host) (tracks_harvest image host f)
    ∙ ap (λ (s : Shape). s.block_lengths) (shape-cleared host) ∙ sym (tracks-lengths image host f)

-- pages of which none is refused, however they are numbered
abbrev pub HavePlaces : List ℕ → List Page → Type 0
HavePlaces ls ps = (i : ℕ) → first_refused ls i ps ≡ None

-- neither a page nor one of those after it is refused
pub neither_none : (o later : Option ApplyError) → o ≡ None → later ≡ None → or_later o later ≡ None
neither_none None later e h = h
neither_none (Some x) later e h = absurd (cc)

pub both_none : (o later : Option ApplyError) → or_later o later ≡ None → (o ≡ None) × (later ≡ None)
both_none None later e = (refl, e)
both_none (Some x) later e = absurd (cc)

places_more : (ls : List ℕ) (p : Page) (ps : List Page) → ((i : ℕ) → refused_by (slice_get ls p.block) i p ≡ None) → HavePlaces ls ps →
    HavePlaces ls (p ∷ ps)
unfolding first_refused
places_more ls p ps here later i =
    neither_none (refused_by (slice_get ls p.block) i p) (first_refused ls (i + 1) ps) (here i) (later (i + 1))

places_joined :
    (ls : List ℕ) (xs ys : List Page) (i : ℕ) → first_refused ls i xs ≡ None → HavePlaces ls ys → first_refused ls i (xs ++ ys) ≡ None
unfolding first_refused
places_joined ls [] ys i e later = later i
places_joined ls (p ∷ xs) ys i e later =
    let both = both_none (refused_by (slice_get ls p.block) i p) (first_refused ls (i + 1) xs) e in
    neither_none (refused_by (slice_get ls p.block) i p) (first_refused ls (i + 1) (xs ++ ys)) both.0
    (places_joined ls xs ys (i + 1) both.1 later)

-- pages that have their places after others that have theirs
pub places-append : (ls : List ℕ) (xs ys : List Page) → HavePlaces ls xs → HavePlaces ls ys → HavePlaces ls (xs ++ ys)
places-append ls xs ys one other i = places_joined ls xs ys i (one i) other

no_page : (ls : List ℕ) → HavePlaces ls []
unfolding first_refused
no_page ls i = refl

page_placed : (ls : List ℕ) (n : ℕ) (from : List ℕ) (q i : ℕ) → slice_get ls n ≡ Some (length from) → q < page_count (length from) →
    refused_by (slice_get ls n) i (record { block = n; offset = q * 4096; bytes = slice_range from (q * 4096) (q * 4096 + 4096) }) ≡ None
page_placed ls n from q i at low =
    let a = length-take (q * 4096 + 4096 - q * 4096) (drop (q * 4096) from) in
    let b = length-drop (q * 4096) from in
    let fits = le-leb (q * 4096 + length (slice_range from (q * 4096) (q * 4096 + 4096))) (length from) (omega (arith, a, b, low)) in
    rw (at, fits) refl

block_placed : (ls : List ℕ) (n : ℕ) (from : List ℕ) (q : ℕ) (marks : List Bool) → slice_get ls n ≡ Some (length from) →
    q + length marks ≡ page_count (length from) →
    HavePlaces ls (block_pages n from q marks)
unfolding block_pages
block_placed ls n from q [] at all = no_page ls
block_placed ls n from q (true ∷ marks) at all =
    places_more ls (record { block = n; offset = q * 4096; bytes = slice_range from (q * 4096) (q * 4096 + 4096) })
    (block_pages n from (q + 1) marks)
    (λ i. page_placed ls n from q i at (omega (arith, all))) (block_placed ls n from (q + 1) marks at (omega (arith, all)))
block_placed ls n from q (false ∷ marks) at all = block_placed ls n from (q + 1) marks at (omega (arith, all))

at_seam : (front back : List ℕ) (x : ℕ) → slice_get (front ++ x ∷ back) (length front) ≡ Some x
at_seam [] back x = refl
at_seam (y ∷ front) back x = at_seam front back x

blocks_placed : (front : List ℕ) (xs ys : List Block) → BlocksTrack xs ys →
    HavePlaces (front ++ map (λ (b : Block). length b.bytes) ys) (host_pages (length front) ys)
unfolding host_pages
blocks_placed front [] [] f = no_page (front ++ [])
blocks_placed front (a ∷ xs) (b ∷ ys) f =
    let n = length b.bytes in
    let back = map (λ (k : Block). length k.bytes) ys in
    let later = subst (λ k. HavePlaces ((front ++ n ∷ []) ++ back) (host_pages k ys)) (length_push front n)
    (blocks_placed (front ++ n ∷ []) xs ys f.1) in
    places-append (front ++ n ∷ back) (block_pages (length front) b.bytes 0 b.marks) (host_pages (length front + 1) ys)
    (block_placed (front ++ n ∷ back) (length front) b.bytes 0 b.marks (at_seam front back n) (omega (arith, f.0.sized)))
    (subst (λ (l : List ℕ). HavePlaces l (host_pages (length front + 1) ys)) (append_assoc front (n ∷ []) back) later)
blocks_placed front _ _ f = absurd f

-- the marked pages of a host have their places in an image that tracks it
pub harvest_placed : (image host : Host) → Tracks image host → HavePlaces (lengths image) (harvested host)
harvest_placed image host f =
    subst (λ (l : List ℕ). HavePlaces l (harvested host)) (sym (tracks-lengths image host f))
    (blocks_placed [] image.blocks host.blocks f.blocks)
