-- pages that are looked at and put in, one further
use Rattle.std.proofs.Common.{◌≡◌, ℕ, ◌+◌, ◌≤◌, ◌<◌, Bool, true, false, List, [], ◌∷◌, length, map, drop, get_or, Option, Some, None, Ok}
use Rattle.std.proofs.Common.{◌↔◌, IsTrue, slice_get, set, Err, refl, ap, sym, ◌∙◌, arith, nat_le, if◌then◌else◌}
use Rattle.std.specs.Bool.{OnTrue}
use Rattle.std.specs.List.{zip}
use Rattle.std.proofs.lemmas.List.{drop_all, get_or_default, get_or-map, length-map}
use Rattle.std.proofs.lemmas.Bool.{OnTrue_at, leb-true}
use Rattle.std.proofs.lemmas.List.Edits.{sets-eq}
use Rattle.std.proofs.lemmas.Option.{get_or_from_slice_get, slice_get_within}
use Rattle.vm_memory_core.specs.Host.{Block, Host, Shape, lengths, shape, with_blocks}
use Rattle.vm_memory_core.specs.Window.{Window, LiesIn, set_all, span}
use Rattle.vm_memory_core.proofs.WindowLemmas.{drop_item}
use Rattle.vm_memory_core.proofs.Stores.{changed_at-set, set_all-span, set_in, within_block}
use Rattle.fs_device.specs.declared.applying.ApplyError.{ApplyError}
use Rattle.fs_device.specs.declared.applying.ApplyError.TheVariants.{OutOfRange}
use Rattle.fs_device.specs.declared.harvested.HarvestedPage.{HarvestedPage}
use Rattle.plain_machine.specs.Harvested.{Page}
use Rattle.fs_device.specs.PageView.{page_view}
use Rattle.fs_device.specs.Applying.{applied, first_refused, or_later, page_put, pages_put, refused_by, with_page}

-- the next page of a list
pub next_page : (pages : List HarvestedPage) (i : ℕ) (p : HarvestedPage) → i < length pages → p ≡ get_or pages i p →
    drop i (map page_view pages) ≡ page_view p ∷ drop (i + 1) (map page_view pages)
next_page pages i p lt is =
    let count = length-map pages page_view in
    drop_item (map page_view pages) i (page_view p) (omega arith) (ap page_view is ∙ sym (get_or-map page_view pages i p (page_view p) lt))

none_after : (o : Option ApplyError) (later : Option ApplyError) → Ok tt ≡ applied o → or_later o later ≡ later
none_after None later e = refl
none_after (Some x) later e = absurd (cc)

some_first : (o : Option ApplyError) (later : Option ApplyError) (e : ApplyError) → Err e ≡ applied o → or_later o later ≡ Some e
some_first None later e h = absurd (cc)
some_first (Some x) later e h = cc

-- one page further, if it has its place
pub has_place : (ls : List ℕ) (pages : List HarvestedPage) (i : ℕ) (p : HarvestedPage) (all : Option ApplyError) → i < length pages →
    p ≡ get_or pages i p →
    Ok tt ≡ applied (refused_by (slice_get ls p.block) i (page_view p)) → first_refused ls i (drop i (map page_view pages)) ≡ all →
    first_refused ls (i + 1) (drop (i + 1) (map page_view pages)) ≡ all
unfolding first_refused
has_place ls pages i p all lt is ok e =
    let later = first_refused ls (i + 1) (drop (i + 1) (map page_view pages)) in
    sym (none_after (refused_by (slice_get ls p.block) i (page_view p)) later ok)
    ∙ sym (ap (first_refused ls i) (next_page pages i p lt is)) ∙ e

-- the first page that has none
pub has_no_place : (ls : List ℕ) (pages : List HarvestedPage) (i : ℕ) (p : HarvestedPage) (all : Option ApplyError) (why : ApplyError) →
    i < length pages → p ≡ get_or pages i p →
    Err why ≡ applied (refused_by (slice_get ls p.block) i (page_view p)) → first_refused ls i (drop i (map page_view pages)) ≡ all →
    Err why ≡ applied all
unfolding first_refused
has_no_place ls pages i p all why lt is fails e =
    let later = first_refused ls (i + 1) (drop (i + 1) (map page_view pages)) in
    sym (ap applied (sym e ∙ ap (first_refused ls i) (next_page pages i p lt is)
    ∙ some_first (refused_by (slice_get ls p.block) i (page_view p)) later why fails))

-- all pages have their places
pub all_have_places : (ls : List ℕ) (pages : List HarvestedPage) (i : ℕ) (all : Option ApplyError) → length pages ≤ i →
    first_refused ls i (drop i (map page_view pages)) ≡ all → Ok tt ≡ applied all
unfolding first_refused
all_have_places ls pages i all ge e =
    let count = length-map pages page_view in
    sym (ap applied (sym e ∙ ap (first_refused ls i) (drop_all i (map page_view pages) (omega arith))))

-- ---- pages are put in

abbrev window_of : Page → Window
window_of p = record { block = p.block; offset = p.offset; len = length p.bytes; io = None }

within :
    (fits : Bool) (i : ℕ) (later : Option ApplyError) → or_later (if fits then None else Some (OutOfRange i)) later ≡ None → fits ≡ true
within true i later e = refl
within false i later e = absurd (cc)

lies_in : (ls : List ℕ) (i : ℕ) (p : Page) (later : Option ApplyError) (o : Option ℕ) → slice_get ls p.block ≡ o →
    or_later (refused_by o i p) later ≡ None → LiesIn ls (window_of p)
lies_in ls i p later None at e = absurd (cc)
lies_in ls i p later (Some len) at e =
    let room = leb-true (p.offset + length p.bytes) len (within (nat_le (p.offset + length p.bytes) len) i later e) in
    (slice_get_within ls p.block len at, omega (arith, room, get_or_from_slice_get ls p.block len 0 at))

-- a page that isn't refused lies in its block
lies : (ls : List ℕ) (i : ℕ) (p : Page) (later : Option ApplyError) → or_later (refused_by (slice_get ls p.block) i p) later ≡ None →
    LiesIn ls (window_of p)
lies ls i p later e = lies_in ls i p later (slice_get ls p.block) refl e

later_none : (o later : Option ApplyError) → or_later o later ≡ None → later ≡ None
later_none None later e = e
later_none (Some x) later e = absurd (cc)

abbrev no_block : Block
no_block = record { bytes = []; marks = [] }

abbrev put_in : Page → Block → Block
put_in p b = record b { bytes = with_page b.bytes p.offset p.bytes }

-- bytes that are set at the places of a page put it in
set_puts : (h : Host) (p : Page) → LiesIn (lengths h) (window_of p) →
    set_all h (zip (span p.block p.offset None (length p.bytes)) p.bytes) ≡ page_put h p
set_puts h p has =
    let count = length-map h.blocks (λ (b : Block). length b.bytes) in
    let k : Block = get_or h.blocks p.block no_block in
    let here : k ≡ get_or h.blocks p.block k = get_or_default h.blocks p.block no_block k (omega (arith, has.0, count)) in
    let room = within_block h (window_of p) k has here in
    set_all-span p.bytes h p.block p.offset (length p.bytes) (omega arith)
    ∙ ap (with_blocks h)
    (changed_at-set h.blocks p.block (set_in p.offset p.bytes) no_block
    ∙ ap (λ (l : List ℕ). let b : Block = record k { bytes = l } in set h.blocks p.block b) (sets-eq p.bytes k.bytes p.offset room.1)
    ∙ sym (changed_at-set h.blocks p.block (put_in p) no_block))

-- what is left of pages: it leaves the whole, has its places, and the host its shape
abbrev pub Left : (first now whole : Host) → List HarvestedPage → ℕ → Type 0
Left first now whole pages i =
    (pages_put now (drop i (map page_view pages)) ≡ whole) × (first_refused (lengths now) i (drop i (map page_view pages)) ≡ None)
    × (shape now ≡ shape first)

-- one page further
pub put_more : (first now new whole : Host) (pages : List HarvestedPage) (i : ℕ) (p : HarvestedPage) (bytes : List ℕ) (done : Bool) →
    i < length pages → p ≡ get_or pages i p →
    bytes ≡ p.bytes.items →
    (IsTrue done ↔ LiesIn (lengths now) (record { block = p.block; offset = p.offset; len = length bytes; io = None })) →
    OnTrue done (new ≡ set_all now (zip (span p.block p.offset None (length bytes)) bytes)) → shape new ≡ shape now →
    Left first now whole pages i → Left first new whole pages (i + 1)
unfolding pages_put first_refused
put_more first now new whole pages i p bytes done lt is same found stored shape_kept left =
    let v = page_view p in
    let rest = drop (i + 1) (map page_view pages) in
    let next = next_page pages i p lt is in
    let refusals = sym (ap (first_refused (lengths now) i) next) ∙ left.1 in
    let later = first_refused (lengths now) (i + 1) rest in
    let has : LiesIn (lengths now) (window_of v) = lies (lengths now) i v later refusals in
    let was : IsTrue done = found.1 (rw same has) in
    let put : new ≡ page_put now v =
    OnTrue_at was stored ∙ ap (λ (l : List ℕ). set_all now (zip (span p.block p.offset None (length l)) l)) same ∙ set_puts now v has in
    let kept : lengths new ≡ lengths now = ap (λ (s : Shape). s.block_lengths) shape_kept in (
      ap (λ (h : Host). pages_put h rest) put ∙ sym (ap (pages_put now) next) ∙ left.0,
      ap (λ (ls : List ℕ). first_refused ls (i + 1) rest) kept
          ∙ later_none (refused_by (slice_get (lengths now) p.block) i v) later refusals,
      shape_kept ∙ left.2,
    )

-- nothing is left
pub all_put : (first now whole : Host) (pages : List HarvestedPage) (i : ℕ) → length pages ≤ i → Left first now whole pages i → now ≡ whole
unfolding pages_put
all_put first now whole pages i ge left =
    let count = length-map pages page_view in
    sym (ap (pages_put now) (drop_all i (map page_view pages) (omega arith))) ∙ left.0
