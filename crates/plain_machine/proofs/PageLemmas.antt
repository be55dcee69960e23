-- which pages stores mark
use Rattle.std.proofs.Common.{◌≡◌, ℕ, zero, suc, ◌^◌, ◌/◌, Bool, true, false, ◌||◌, ◌&&◌, not, nat_lt, List, [], ◌∷◌, ◌++◌, map, set}
use Rattle.std.proofs.Common.{Option, Some, None, refl, ap, sym, ◌∙◌, subst, ⊎_elim}
use Rattle.std.specs.Prelude.{if◌then◌else◌, ◌==◌, ◌≢◌, slice_get, slice_set, option_map, option_and_then, is_some}
use Rattle.std.specs.List.{list_any}
use Rattle.std.proofs.lemmas.Bool.{cases_eq, eq-eqb, ne_eqb}
use Rattle.std.proofs.Math.Bool.{and-false, or-false, or-true, or_assoc}
use Rattle.std.proofs.lemmas.List.Folds.{list_any-append}
use Rattle.vm_iotlb.specs.declared.range.IotlbRange.{IotlbRange}
use Rattle.vm_iotlb.specs.declared.permissions.Permissions.TheVariants.{Write}
use Rattle.vm_memory_core.specs.Host.{Host, Block, Place, IoAddress, changed_at, with_byte, with_mark_by}
use Rattle.vm_memory_core.specs.Window.{put_byte}
use Rattle.vm_memory.specs.Layout.{place}
use Rattle.vm_memory.specs.Memory.{Memory, for_io, location, place_behind, stored, stored_all, stored_at, table_of}
use Rattle.fs_queue.specs.Taking.{room_of}
use Rattle.fs_queue.specs.Returning.{writes}
use Rattle.server_meanings.specs.Serving.{May}
use Rattle.plain_machine.specs.MarkedPages.{block_mark, io_mark, is_in_page, marks_block, marks_io, marked_by, returned_addresses, Marks}
use Rattle.plain_machine.specs.MarkedPages.{StepsMark, WritesMark}
use Rattle.plain_machine.proofs.PlainPlaces.{IsPlain, plain_place}
use Rattle.plain_machine.proofs.UsedLemmas.{exchange_returns, step_offers}

-- ---- lists

changed_here : {X : Type 0} (l : List X) (i : ℕ) (f : X → X) → slice_get (changed_at l i f) i ≡ option_map f (slice_get l i)
changed_here (x ∷ l) (suc i) f = changed_here l i f
changed_here _ _ f = refl

changed_there : {X : Type 0} (l : List X) (i j : ℕ) (f : X → X) → i ≢ j → slice_get (changed_at l i f) j ≡ slice_get l j
changed_there (x ∷ l) zero zero f apart = absurd (apart refl)
changed_there (x ∷ l) (suc i) (suc j) f apart = changed_there l i j f (λ e. apart (ap suc e))
changed_there _ _ _ f apart = refl

-- what is seen of an element after one is changed: that one, or another
pub changed_seen : {X Y : Type 0} (seen : Option X → Y) (l : List X) (i j : ℕ) (f : X → X) (after : Bool → Y) →
    seen (option_map f (slice_get l j)) ≡ after true → seen (slice_get l j) ≡ after false →
    seen (slice_get (changed_at l i f) j) ≡ after (i == j)
changed_seen seen l i j f after here there =
    ⊎_elim
    (λ (e : i ≡ j). ap seen (ap (λ (k : ℕ). slice_get (changed_at l k f) j) e ∙ changed_here l j f) ∙ here ∙ ap after (sym (eq-eqb i j e)))
    (λ (apart : i ≢ j). ap seen (changed_there l i j f apart) ∙ there ∙ ap after (sym (ne_eqb i j apart)))
    (cases_eq i j)

set_here : {X : Type 0} (l : List X) (i : ℕ) (x : X) → slice_get (slice_set l i x) i ≡ option_map (λ _. x) (slice_get l i)
set_here (y ∷ l) (suc i) x = set_here l i x
set_here _ _ x = refl

-- another element than the one that is set
pub set_there : {X : Type 0} (l : List X) (i j : ℕ) (x : X) → i ≢ j → slice_get (slice_set l i x) j ≡ slice_get l j
set_there (y ∷ l) zero zero x apart = absurd (apart refl)
set_there (y ∷ l) (suc i) (suc j) x apart = set_there l i j x (λ e. apart (ap suc e))
set_there _ _ _ x apart = refl

-- an element after one is set
pub set_seen : {X : Type 0} (l : List X) (i j : ℕ) (x : X) (after : Bool → Option X) →
    option_map (λ _. x) (slice_get l j) ≡ after true → slice_get l j ≡ after false → slice_get (slice_set l i x) j ≡ after (i == j)
set_seen l i j x after here there =
    ⊎_elim
    (λ (e : i ≡ j). ap (λ (k : ℕ). slice_get (slice_set l k x) j) e ∙ set_here l j x ∙ here ∙ ap after (sym (eq-eqb i j e)))
    (λ (apart : i ≢ j). set_there l i j x apart ∙ there ∙ ap after (sym (ne_eqb i j apart)))
    (cases_eq i j)

-- ---- a mark, as it was or set

-- after one write, which marks the page or doesn't
abbrev or_set : Bool → Option Bool → Option Bool
or_set here old = option_map (λ was. was || here) old

is_set : (o : Option Bool) → option_map (λ was. true) o ≡ or_set true o
is_set None = refl
is_set (Some b) = ap Some (sym (or-true b))

stays : (o : Option Bool) → o ≡ or_set false o
stays None = refl
stays (Some b) = ap Some (sym (or-false b))

more_set : (a b : Bool) (o : Option Bool) → or_set b (or_set a o) ≡ or_set (a || b) o
more_set a b None = refl
more_set a b (Some c) = ap Some (or_assoc c a b)

-- the page k is set, and this is looked at
page_set : (marks : List Bool) (k page : ℕ) → slice_get (slice_set marks k true) page ≡ or_set (k == page) (slice_get marks page)
page_set marks k page =
    set_seen marks k page true (λ (here : Bool). or_set here (slice_get marks page)) (is_set (slice_get marks page))
    (stays (slice_get marks page))

-- ---- a block's page

-- the mark of a page of what may be a block
abbrev page_in : ℕ → Option Block → Option Bool
page_in page o = option_and_then (λ b. slice_get b.marks page) o

page_marked : (k page : ℕ) (o : Option Block) →
    page_in page (option_map (λ (b : Block). record b { marks = slice_set b.marks k true }) o) ≡ or_set (k == page) (page_in page o)
page_marked k page None = refl
page_marked k page (Some b) = page_set b.marks k page

byte_marks_none : (o : Option Block) (offset byte page : ℕ) →
    page_in page (option_map (λ (b : Block). record b { bytes = slice_set b.bytes offset byte }) o) ≡ page_in page o
byte_marks_none None offset byte page = refl
byte_marks_none (Some b) offset byte page = refl

-- a byte that is put marks no page by itself
byte_put : (h : Host) (p : Place) (byte block page : ℕ) → block_mark (with_byte h p byte) block page ≡ block_mark h block page
byte_put h p byte block page =
    changed_seen (page_in page) h.blocks p.block block (λ b. record b { bytes = slice_set b.bytes p.offset byte })
    (λ (here : Bool). block_mark h block page) (byte_marks_none (slice_get h.blocks block) p.offset byte page) refl

-- the page of a place is marked, and this is looked at
block_marked : (h : Host) (p : Place) (block page : ℕ) →
    block_mark (with_mark_by None p h) block page ≡ or_set (is_in_page block page (Some p)) (block_mark h block page)
block_marked h p block page =
    changed_seen (page_in page) h.blocks p.block block (λ b. record b { marks = slice_set b.marks (p.offset / 4096) true })
    (λ (here : Bool). or_set (here && (p.offset / 4096 == page)) (block_mark h block page))
    (page_marked (p.offset / 4096) page (slice_get h.blocks block)) (stays (block_mark h block page))

-- ---- an I/O page

-- the mark of a page of what may be a set
abbrev io_page_in : ℕ → Option (List Bool) → Option Bool
io_page_in page o = option_and_then (λ marks. slice_get marks page) o

-- where the address is one
page_if : (fits : Bool) (marks : List Bool) (k page : ℕ) →
    slice_get (if fits then slice_set marks k true else marks) page ≡ or_set (fits && (k == page)) (slice_get marks page)
page_if true marks k page = page_set marks k page
page_if false marks k page = stays (slice_get marks page)

io_page_marked : (fits : Bool) (k page : ℕ) (o : Option (List Bool)) →
    io_page_in page (option_map (λ marks. if fits then slice_set marks k true else marks) o) ≡ or_set
    (fits && (k == page)) (io_page_in page o)
io_page_marked fits k page None = refl
io_page_marked fits k page (Some marks) = page_if fits marks k page

-- the page of an I/O address is marked, and this is looked at
io_marked : (h : Host) (a : IoAddress) (p : Place) (set page : ℕ) →
    io_mark (with_mark_by (Some a) p h) set page
    ≡ or_set ((a.set == set) && (nat_lt a.address (2 ^ 64) && (a.address / 4096 == page))) (io_mark h set page)
io_marked h a p set page =
    changed_seen (io_page_in page) h.io_marks a.set set
    (λ marks. if nat_lt a.address (2 ^ 64) then slice_set marks (a.address / 4096) true else marks)
    (λ (here : Bool). or_set (here && (nat_lt a.address (2 ^ 64) && (a.address / 4096 == page))) (io_mark h set page))
    (io_page_marked (nat_lt a.address (2 ^ 64)) (a.address / 4096) page (slice_get h.io_marks set)) (stays (io_mark h set page))

-- ---- one store

-- with the IOMMU off, at a place whose own page is marked
plain_block : (h : Host) (p : Place) (byte block page : ℕ) → p.io ≡ None →
    block_mark (put_byte h p byte) block page ≡ or_set (is_in_page block page (Some p)) (block_mark h block page)
plain_block h p byte block page plain =
    ap (λ (io : Option IoAddress). block_mark (with_mark_by io p (with_byte h p byte)) block page) plain
    ∙ block_marked (with_byte h p byte) p block page
    ∙ ap (or_set (is_in_page block page (Some p))) (byte_put h p byte block page)

plain_io : (h : Host) (p : Place) (byte set page : ℕ) → p.io ≡ None → io_mark (put_byte h p byte) set page ≡ io_mark h set page
plain_io h p byte set page plain = ap (λ (io : Option IoAddress). io_mark (with_mark_by io p (with_byte h p byte)) set page) plain

off_block : (m : Memory) (byte : ℕ) (o : Option Place) (block page : ℕ) → IsPlain o →
    block_mark (stored_at m byte o).host block page ≡ or_set (is_in_page block page o) (block_mark m.host block page)
off_block m byte None block page plain = stays (block_mark m.host block page)
off_block m byte (Some p) block page plain = plain_block m.host p byte block page plain

off_io : (m : Memory) (byte : ℕ) (o : Option Place) (set page : ℕ) → IsPlain o →
    io_mark (stored_at m byte o).host set page ≡ or_set false (io_mark m.host set page)
off_io m byte None set page plain = stays (io_mark m.host set page)
off_io m byte (Some p) set page plain = plain_io m.host p byte set page plain ∙ stays (io_mark m.host set page)

-- with the IOMMU on, at a place whose I/O page is marked
on_block : (m : Memory) (byte address : ℕ) (o : Option Place) (block page : ℕ) →
    block_mark (stored_at m byte (for_io m.io_pages address o)).host block page ≡ or_set false (block_mark m.host block page)
on_block m byte address None block page = stays (block_mark m.host block page)
on_block m byte address (Some p) block page = byte_put m.host p byte block page ∙ stays (block_mark m.host block page)

on_io : (m : Memory) (byte address : ℕ) (o : Option Place) (set page : ℕ) →
    io_mark (stored_at m byte (for_io m.io_pages address o)).host set page
    ≡ or_set ((m.io_pages == set) && (is_some (for_io m.io_pages address o) && (nat_lt address (2 ^ 64) && (address / 4096 == page))))
    (io_mark m.host set page)
on_io m byte address None set page =
    stays (io_mark m.host set page) ∙ ap (λ (b : Bool). or_set b (io_mark m.host set page)) (sym (and-false (m.io_pages == set)))
on_io m byte address (Some p) set page = io_marked (with_byte m.host p byte) (record { set = m.io_pages; address = address }) p set page

-- either way
one_block : (m : Memory) (write : ℕ × ℕ) (block page : ℕ) (on : Bool) → m.translates ≡ on →
    block_mark (stored_at m write.1 (if on then for_io m.io_pages write.0 (place_behind m.layout Write (table_of m write.0))
    else place m.layout write.0)).host block page
    ≡ or_set (not on && is_in_page block page (place m.layout write.0)) (block_mark m.host block page)
one_block m write block page true is = on_block m write.1 write.0 (place_behind m.layout Write (table_of m write.0)) block page
one_block m write block page false is = off_block m write.1 (place m.layout write.0) block page (plain_place m.layout write.0)

one_io : (m : Memory) (write : ℕ × ℕ) (set page : ℕ) (on : Bool) → m.translates ≡ on →
    let there = if on then for_io m.io_pages write.0 (place_behind m.layout Write (table_of m write.0)) else place m.layout write.0 in
    io_mark (stored_at m write.1 there).host set page
    ≡ or_set (on && ((m.io_pages == set) && (is_some there && (nat_lt write.0 (2 ^ 64) && (write.0 / 4096 == page)))))
    (io_mark m.host set page)
one_io m write set page true is = on_io m write.1 write.0 (place_behind m.layout Write (table_of m write.0)) set page
one_io m write set page false is = off_io m write.1 (place m.layout write.0) set page (plain_place m.layout write.0)

-- ---- stores in order

-- all of a memory that decides what a write marks: its blocks and marks left out
abbrev pub ways : Memory → Memory
ways m = record m { host = record m.host { blocks = []; io_marks = [] } }

tables_stay : (io : Option IoAddress) (p : Place) (h : Host) → (with_mark_by io p h).tables ≡ h.tables
tables_stay None p h = refl
tables_stay (Some a) p h = refl

way_stays : (m : Memory) (byte : ℕ) (o : Option Place) → ways (stored_at m byte o) ≡ ways m
way_stays m byte None = refl
way_stays m byte (Some p) = ap (λ (tables : List (List IotlbRange)).
    record m { host = record m.host { blocks = []; tables = tables; io_marks = [] } }) (tables_stay p.io p (with_byte m.host p byte))

pub ways_stay : (m : Memory) (ws : List (ℕ × ℕ)) → ways (stored_all m ws) ≡ ways m
unfolding stored_all
ways_stay m [] = refl
ways_stay m (w ∷ ws) = ways_stay (stored m w) ws ∙ way_stays m w.1 (location m Write w.0)

-- nothing is written
pub none_written : (m : Memory) → Marks m [] m.host
none_written m =
    record { blocks = λ block page. stays (block_mark m.host block page); io_sets = λ set page. stays (io_mark m.host set page) }

pub writes_mark : WritesMark
unfolding stored_all
writes_mark m [] = none_written m
writes_mark m (w ∷ ws) =
    let next = stored m w in
    let rest = writes_mark next ws in
    let same : ways next ≡ ways m = way_stays m w.1 (location m Write w.0) in
    let later = map (λ (w : ℕ × ℕ). w.0) ws in record {
      blocks = λ block page.
          rest.blocks block page
          ∙ ap (λ (k : Memory). marked_by (marks_block k block page) later (block_mark next.host block page)) same
          ∙ ap (marked_by (marks_block m block page) later) (one_block m w block page m.translates refl)
          ∙ more_set (marks_block m block page w.0) (list_any (marks_block m block page) later) (block_mark m.host block page);
      io_sets = λ set page.
          rest.io_sets set page
          ∙ ap (λ (k : Memory). marked_by (marks_io k set page) later (io_mark next.host set page)) same
          ∙ ap (marked_by (marks_io m set page) later) (one_io m w set page m.translates refl)
          ∙ more_set (marks_io m set page w.0) (list_any (marks_io m set page) later) (io_mark m.host set page);
    }

-- what is written later marks besides
pub marks_join :
    (m n : Memory) (xs ys : List ℕ) (after : Host) → ways n ≡ ways m → Marks m xs n.host → Marks n ys after → Marks m (xs ++ ys) after
marks_join m n xs ys after same first later = record {
  blocks = λ block page.
      later.blocks block page
      ∙ ap (λ (k : Memory). marked_by (marks_block k block page) ys (block_mark n.host block page)) same
      ∙ ap (marked_by (marks_block m block page) ys) (first.blocks block page)
      ∙ more_set (list_any (marks_block m block page) xs) (list_any (marks_block m block page) ys) (block_mark m.host block page)
      ∙ ap (λ (b : Bool). or_set b (block_mark m.host block page)) (sym (list_any-append (marks_block m block page) xs ys));
  io_sets = λ set page.
      later.io_sets set page
      ∙ ap (λ (k : Memory). marked_by (marks_io k set page) ys (io_mark n.host set page)) same
      ∙ ap (marked_by (marks_io m set page) ys) (first.io_sets set page)
      ∙ more_set (list_any (marks_io m set page) xs) (list_any (marks_io m set page) ys) (io_mark m.host set page)
      ∙ ap (λ (b : Bool). or_set b (io_mark m.host set page)) (sym (list_any-append (marks_io m set page) xs ys));
}

-- ---- steps

pub steps_mark : {F : Type 0} (may : May F) → StepsMark may
steps_mark may s after i calls x notice step =
    let found = step_offers may s after i calls x notice step in
    let o = found.0 in
    let is = exchange_returns may s i o.queue x.head o.fetched calls x notice after found.1 in (
      o,
      subst (λ (m : Memory). Marks s.memory (returned_addresses o.queue x.head (room_of o.fetched) x.reply) m.host) (sym is)
          (writes_mark s.memory (writes o.queue x.head (room_of o.fetched) x.reply)),
    )
