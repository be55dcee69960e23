-- bytes put at places of one block, one after another, are a run of bytes
use Rattle.std.proofs.Common.{◌≡◌, ℕ, ◌+◌, ◌-◌, ◌/◌, ◌^◌, ◌<◌, ◌≤◌, Bool, List, [], ◌∷◌, ◌++◌, length, map, replicate, set, get_or, take}
use Rattle.std.proofs.Common.{drop, refl, ap, sym, ◌∙◌}
use Rattle.std.proofs.Common.{arith, zero, suc, add-one, length-set, length-append, length-drop, true, false, nat_lt, if◌then◌else◌, Option}
use Rattle.std.proofs.Common.{None, Some}
use Rattle.std.specs.Prelude.{IfSome, slice_get, unwrap_or}
use Rattle.std.specs.Option.{is_none, option_and_then}
use Rattle.std.specs.List.{zip}
use Rattle.std.proofs.lemmas.List.{drop_more, get_or-map, get_or-append_right, get_or_append_left, length-map, length-take-le}
use Rattle.std.proofs.lemmas.List.{set-append_left, set-append_right, take-append-drop}
use Rattle.std.proofs.lemmas.Option.{slice_get-get_or}
use Rattle.std.proofs.lemmas.Bool.{le-ltb, lt-ltb, cond-true}
use Rattle.std.proofs.lemmas.List.Edits.{sets, sets-eq}
use Rattle.vm_bitmaps.specs.Pages.{marked_at, marked_range}
use Rattle.vm_memory_core.specs.Host.{Host, Block, IoAddress, Place, Shape, changed_at, marked, unmarked, lengths, shape, with_blocks}
use Rattle.vm_memory_core.specs.Host.{with_byte, with_mark_by}
use Rattle.vm_memory_core.specs.Window.{Window, io_address, span, places_of, LiesIn, byte_in, put_byte, put_all, set_all}
use Rattle.vm_memory_core.specs.Putting.{block_put, io_marked, io_marked_by, marked_if, put_in_block}
use Rattle.vm_memory_core.specs.declared.window.IoMarks.{IoMarks}

length_if : (b : Bool) (x y : List Bool) (n : ℕ) → length x ≡ n → length y ≡ n → length (if b then x else y) ≡ n
length_if true x y n p q = p
length_if false x y n p q = q

-- no mark changes how many there are
pub length-marked_range : (n s : ℕ) (m : List Bool) (o : ℕ) → length (marked_range s m o n) ≡ length m
unfolding marked_range
length-marked_range zero s m o = refl
length-marked_range (suc n) s m o =
    length-marked_range n s (marked_at s m o) (o + 1)
    ∙ length_if (nat_lt o (2 ^ 64)) (set m (o / s) true) m (length m) (length-set m (o / s) true) refl

-- a buffer that was written over as a whole keeps its length
pub length_written :
    (n : ℕ) (new old : List ℕ) → length new ≡ length old → n ≡ length old → length (take n (new ++ drop (length new) old)) ≡ length old
length_written n new old e f =
    let front = length-append new (drop (length new) old) in
    let back = length-drop (length new) old in
    length-take-le n (new ++ drop (length new) old) (omega arith) ∙ f

-- n pages marked one after another, byte by byte
unfoldable pub marks_each : List Bool → ℕ → ℕ → List Bool
marks_each m offset zero = m
marks_each m offset (suc n) = marks_each (marked m offset) (offset + 1) n

at_below : (s : ℕ) (m : List Bool) (o : ℕ) → o < 2 ^ 64 → marked_at s m o ≡ set m (o / s) true
at_below s m o l = cond-true (nat_lt o (2 ^ 64)) (set m (o / s) true) m (lt-ltb o (2 ^ 64) l)

-- past 2^64 no byte has one
pub marked_range-past : (n : ℕ) (m : List Bool) (o : ℕ) → 2 ^ 64 ≤ o → marked_range 4096 m o n ≡ m
unfolding marked_range
marked_range-past zero m o h = refl
marked_range-past (suc n) m o h =
    let off : nat_lt o (2 ^ 64) ≡ false = le-ltb o (2 ^ 64) h in
    ap (λ b. marked_range 4096 (if b then set m (o / 4096) true else m) (o + 1) n) off ∙ marked_range-past n m (o + 1) (omega arith)

-- below 2^64 each byte has its page
marked_range-is : (n : ℕ) (m : List Bool) (o : ℕ) → o + n ≤ 2 ^ 64 → marked_range 4096 m o n ≡ marks_each m o n
unfolding marked_range marks_each
marked_range-is zero m o h = refl
marked_range-is (suc n) m o h = rw (at_below 4096 m o (omega arith)) (marked_range-is n (marked m o) (o + 1) (omega arith))

abbrev block_with : List ℕ → List Bool → Block
block_with bytes marks = record { bytes = bytes; marks = marks }

-- what one block holds once bytes are put in it from offset on, its pages marked or not
abbrev pub stored_in : Bool → ℕ → List ℕ → Block → Block
stored_in mark offset xs b = block_with (sets b.bytes offset xs) (if mark then marks_each b.marks offset (length xs) else b.marks)

changed_at-same : {X : Type 0} (l : List X) (i : ℕ) → changed_at l i (λ x. x) ≡ l
changed_at-same [] i = refl
changed_at-same (x ∷ l) zero = refl
changed_at-same {X} (x ∷ l) (suc i) = ap (λ (r : List X). x ∷ r) (changed_at-same l i)

-- to change an element to itself changes nothing
pub changed_at-id : {X : Type 0} (l : List X) (i : ℕ) (f : X → X) → ((x : X) → f x ≡ x) → changed_at l i f ≡ l
changed_at-id [] i f e = refl
changed_at-id {X} (x ∷ l) zero f e = ap (λ (y : X). y ∷ l) (e x)
changed_at-id {X} (x ∷ l) (suc i) f e = ap (λ (r : List X). x ∷ r) (changed_at-id l i f e)

changed_at-changed_at : {X : Type 0} (l : List X) (i : ℕ) (f g : X → X) → changed_at (changed_at l i f) i g ≡ changed_at l i (λ x. g (f x))
changed_at-changed_at [] i f g = refl
changed_at-changed_at (x ∷ l) zero f g = refl
changed_at-changed_at {X} (x ∷ l) (suc i) f g = ap (λ (r : List X). x ∷ r) (changed_at-changed_at l i f g)

pub changed_at-set : {X : Type 0} (l : List X) (i : ℕ) (f : X → X) (d : X) → changed_at l i f ≡ set l i (f (get_or l i d))
changed_at-set [] i f d = refl
changed_at-set (x ∷ l) zero f d = refl
changed_at-set {X} (x ∷ l) (suc i) f d = ap (λ (r : List X). x ∷ r) (changed_at-set l i f d)

abbrev with_both : Host → List Block → List (List Bool) → Host
with_both h blocks io = record h { blocks = blocks; io_marks = io }

-- a store to a span of one block changes that block, and the set of I/O pages that it marks, alone
pub put_all-span :
    (xs : List ℕ) (h : Host) (b offset : ℕ) (io : Option IoMarks) (n : ℕ) → length xs ≤ n → IfSome io (λ m. m.from ≤ offset) →
    put_all h (zip (span b offset io n) xs)
    ≡ io_marked_by io (with_blocks h (changed_at h.blocks b (stored_in (is_none io) offset xs))) offset (length xs)
unfolding put_all span marks_each marked_range
put_all-span [] h b offset None zero le from = ap (with_blocks h) (sym (changed_at-same h.blocks b))
put_all-span [] h b offset None (suc n) le from = ap (with_blocks h) (sym (changed_at-same h.blocks b))
put_all-span [] h b offset (Some m) zero le from =
    ap (λ (l : List Block). with_both h l h.io_marks) (sym (changed_at-same h.blocks b))
    ∙ ap (with_both h (changed_at h.blocks b (λ k. k))) (sym (changed_at-same h.io_marks m.set))
put_all-span [] h b offset (Some m) (suc n) le from =
    ap (λ (l : List Block). with_both h l h.io_marks) (sym (changed_at-same h.blocks b))
    ∙ ap (with_both h (changed_at h.blocks b (λ k. k))) (sym (changed_at-same h.io_marks m.set))
put_all-span (x ∷ xs) h b offset io zero le from = absurd (omega arith)
put_all-span (x ∷ xs) h b offset None (suc n) le from =
    let p : Place = record { block = b; offset = offset; io = None } in
    let f : Block → Block = λ (k : Block). block_with (set k.bytes offset x) k.marks in
    let g : Block → Block = λ (k : Block). block_with k.bytes (marked k.marks offset) in
    put_all-span xs (put_byte h p x) b (offset + 1) None n (omega arith) tt
    ∙ ap (with_blocks h)
    (ap (λ (l : List Block). changed_at l b (stored_in true (offset + 1) xs)) (changed_at-changed_at h.blocks b f g)
    ∙ changed_at-changed_at h.blocks b (λ (k : Block). g (f k)) (stored_in true (offset + 1) xs)
    ∙ ap (λ j. changed_at h.blocks b (λ (k : Block). block_with (sets (set k.bytes offset x) j xs)
    (marks_each (marked k.marks offset) (offset + 1) (length xs)))) (add-one offset))
put_all-span (x ∷ xs) h b offset (Some m) (suc n) le from =
    let a = m.base + (offset - m.from) in
    let p : Place = record { block = b; offset = offset; io = Some (record { set = m.set; address = a }) } in
    let f : Block → Block = λ (k : Block). block_with (set k.bytes offset x) k.marks in
    let one : List Bool → List Bool = λ marks. marked_at 4096 marks a in
    let next : m.base + (offset + 1 - m.from) ≡ a + 1 = omega (arith, from) in
    put_all-span xs (put_byte h p x) b (offset + 1) (Some m) n (omega arith) (omega (arith, from))
    ∙ ap (λ (l : List Block). with_both h l
    (changed_at (changed_at h.io_marks m.set one) m.set (λ marks. marked_range 4096 marks (m.base + (offset + 1 - m.from)) (length xs))))
    (changed_at-changed_at h.blocks b f (stored_in false (offset + 1) xs)
    ∙ ap (λ j. changed_at h.blocks b (λ (k : Block). block_with (sets (set k.bytes offset x) j xs) k.marks)) (add-one offset))
    ∙ ap (with_both h (changed_at h.blocks b (stored_in false offset (x ∷ xs))))
    (changed_at-changed_at h.io_marks m.set one (λ marks. marked_range 4096 marks (m.base + (offset + 1 - m.from)) (length xs))
    ∙ ap (λ i. changed_at h.io_marks m.set (λ marks. marked_range 4096 (one marks) i (length xs))) next)

-- the bytes of a span are a run of the block's bytes
pub bytes_in-span :
    (h : Host) (b n offset : ℕ) (io : Option IoMarks) (k : Block) → slice_get h.blocks b ≡ Some k → offset + n ≤ length k.bytes →
    map (byte_in h) (span b offset io n) ≡ take n (drop offset k.bytes)
unfolding span
bytes_in-span h b zero offset io k at le = refl
bytes_in-span h b (suc n) offset io k at le =
    let there = drop_more k.bytes offset 0 (omega arith) in
    let got = slice_get-get_or k.bytes offset 0 (omega arith) in
    let byte : byte_in h (record { block = b; offset = offset; io = io_address offset io }) ≡ get_or k.bytes offset 0 =
    ap (λ (o : Option Block). unwrap_or (option_and_then (λ (c : Block). slice_get c.bytes offset) o) 0) at
    ∙ ap (λ (o : Option ℕ). unwrap_or o 0) got in
    rw (there, byte) (ap (λ (r : List ℕ). get_or k.bytes offset 0 ∷ r) (bytes_in-span h b n (offset + 1) io k at (omega arith)))

lengths-changed_at : (l : List Block) (i : ℕ) (f : Block → Block) → ((k : Block) → length (f k).bytes ≡ length k.bytes) →
    map (λ (k : Block). length k.bytes) (changed_at l i f) ≡ map (λ (k : Block). length k.bytes) l
lengths-changed_at [] i f e = refl
lengths-changed_at (x ∷ l) zero f e = ap (λ n. n ∷ map (λ (k : Block). length k.bytes) l) (e x)
lengths-changed_at (x ∷ l) (suc i) f e = ap (λ (r : List ℕ). length x.bytes ∷ r) (lengths-changed_at l i f e)

-- blocks of the same lengths leave the shape as it was
shape-blocks : (h : Host) (l : List Block) → map (λ (k : Block). length k.bytes) l ≡ lengths h → shape (with_blocks h l) ≡ shape h
shape-blocks h l e = ap (λ (n : List ℕ). let s : Shape = record (shape h) { block_lengths = n } in s) e

sizes-changed_at : (l : List (List Bool)) (i : ℕ) (f : List Bool → List Bool) → ((m : List Bool) → length (f m) ≡ length m) →
    map length (changed_at l i f) ≡ map length l
sizes-changed_at [] i f e = refl
sizes-changed_at (x ∷ l) zero f e = ap (λ n. n ∷ map length l) (e x)
sizes-changed_at (x ∷ l) (suc i) f e = ap (λ (r : List ℕ). length x ∷ r) (sizes-changed_at l i f e)

-- no mark changes the shape
shape-with_mark : (io : Option IoAddress) (p : Place) (h : Host) → shape (with_mark_by io p h) ≡ shape h
shape-with_mark None p h =
    shape-blocks h (changed_at h.blocks p.block (λ (k : Block). block_with k.bytes (marked k.marks p.offset)))
    (lengths-changed_at h.blocks p.block (λ (k : Block). block_with k.bytes (marked k.marks p.offset)) (λ k. refl))
shape-with_mark (Some a) p h =
    ap (λ (n : List ℕ). let s : Shape = record (shape h) { io_sizes = n } in s)
    (sizes-changed_at h.io_marks a.set (λ marks. marked_at 4096 marks a.address)
    (λ m. length_if (nat_lt a.address (2 ^ 64)) (set m (a.address / 4096) true) m (length m) (length-set m (a.address / 4096) true) refl))

-- no store changes the shape
pub shape-put_all : (ws : List (Place × ℕ)) (h : Host) → shape (put_all h ws) ≡ shape h
unfolding put_all
shape-put_all [] h = refl
shape-put_all (w ∷ ws) h =
    shape-put_all ws (put_byte h w.0 w.1)
    ∙ shape-with_mark w.0.io w.0 (with_byte h w.0 w.1)
    ∙ shape-blocks h (with_byte h w.0 w.1).blocks
    (lengths-changed_at h.blocks w.0.block (λ (k : Block). block_with (set k.bytes w.0.offset w.1) k.marks)
    (λ k. length-set k.bytes w.0.offset w.1))

abbrev no_block : Block
no_block = block_with [] []

-- a window that blocks of these lengths have lies in its block
pub within_block : (h : Host) (w : Window) (k : Block) → LiesIn (lengths h) w → k ≡ get_or h.blocks w.block k →
    (w.block < length h.blocks) × (w.offset + w.len ≤ length k.bytes)
within_block h w k has at =
    let blocks = h.blocks in
    let len : (Block → ℕ) = λ (c : Block). length c.bytes in
    let count = length-map blocks len in
    let inside : w.block < length blocks = omega (arith, has.0) in
    let there = get_or-map len blocks w.block k 0 inside in
    let bytes : length k.bytes ≡ length (get_or blocks w.block k).bytes = ap len at in
    (inside, omega (arith, has.1))

-- the same, where block, offset and length were asked of the window
pub room_at : (h : Host) (w : Window) (k : Block) (b o n : ℕ) → b ≡ w.block → o ≡ w.offset → n ≡ w.len → LiesIn (lengths h) w →
    k ≡ get_or h.blocks b k →
    o + n ≤ length k.bytes
room_at h w k b o n be oe ne has here =
    let room = within_block h w k has (here ∙ ap (λ i. get_or h.blocks i k) be) in
    omega (arith, room.1)

get_or-same : {X : Type 0} (l : List X) (i : ℕ) (d : X) → get_or l i d ≡ get_or l i (get_or l i d)
get_or-same [] i d = refl
get_or-same (x ∷ l) zero d = refl
get_or-same (x ∷ l) (suc i) d = get_or-same l i d

-- pages marked one range at once, or byte by byte
marks_put : (io : Option IoMarks) (m : List Bool) (o n : ℕ) → o + n ≤ 2 ^ 64 →
    marked_if (is_none io) m o n ≡ (if is_none io then marks_each m o n else m)
marks_put None m o n le = marked_range-is n m o le
marks_put (Some i) m o n le = refl

-- a block that has room for bytes gets them at once, or byte by byte
block_put-is : (io : Option IoMarks) (o : ℕ) (xs : List ℕ) (b : Block) → o + length xs ≤ length b.bytes → o + length xs ≤ 2 ^ 64 →
    block_put (is_none io) o xs b ≡ stored_in (is_none io) o xs b
block_put-is io o xs b fits le =
    ap (λ (l : List ℕ). block_with l (marked_if (is_none io) b.marks o (length xs))) (sym (sets-eq xs b.bytes o fits))
    ∙ ap (block_with (sets b.bytes o xs)) (marks_put io b.marks o (length xs) le)

-- a store is what it leaves in its block, and then the I/O pages that it marks
pub put_parts : (h : Host) (w : Window) (xs : List ℕ) → LiesIn (lengths h) w → length xs ≤ w.len → w.offset + length xs ≤ 2 ^ 64 →
    IfSome w.io (λ m. m.from ≤ w.offset) → io_marked (put_in_block h w xs) w (length xs) ≡ put_all h (zip (places_of w) xs)
put_parts h w xs has le fits from =
    let k = get_or h.blocks w.block no_block in
    let room = within_block h w k has (get_or-same h.blocks w.block no_block) in
    ap (λ (l : List Block). io_marked_by w.io (with_blocks h l) w.offset (length xs))
    (changed_at-set h.blocks w.block (block_put (is_none w.io) w.offset xs) no_block
    ∙ ap (set h.blocks w.block) (block_put-is w.io w.offset xs k (omega (arith, room.1)) fits)
    ∙ sym (changed_at-set h.blocks w.block (stored_in (is_none w.io) w.offset xs) no_block))
    ∙ sym (put_all-span xs h w.block w.offset w.io w.len le from)

-- what a store leaves in its block, as the code leaves it
pub stored : (h inside : Host) (w : Window) (xs : List ℕ) (old new : Block) → inside ≡ h → old ≡ get_or inside.blocks w.block old →
    new.bytes ≡ take w.offset old.bytes ++ xs ++ drop (w.offset + length xs) old.bytes →
    new.marks ≡ marked_if (is_none w.io) old.marks w.offset (length xs) →
    with_blocks inside (set inside.blocks w.block new) ≡ put_in_block h w xs
stored h inside w xs old new same at e m =
    let here : old ≡ get_or h.blocks w.block old = at ∙ ap (λ (k : Host). get_or k.blocks w.block old) same in
    let new-is : new ≡ block_put (is_none w.io) w.offset xs old =
    ap (λ (l : List ℕ). block_with l new.marks) e
    ∙ ap (block_with (take w.offset old.bytes ++ xs ++ drop (w.offset + length xs) old.bytes)) m in
    ap (λ (k : Host). with_blocks k (set k.blocks w.block new)) same
    ∙ ap (with_blocks h)
    (ap (λ (c : Block). set h.blocks w.block c) (new-is ∙ ap (block_put (is_none w.io) w.offset xs) here)
    ∙ sym (changed_at-set h.blocks w.block (block_put (is_none w.io) w.offset xs) old))

-- what a read of one block gives
pub loaded : (h inside : Host) (w : Window) (k : Block) (bytes : List ℕ) → inside ≡ h → LiesIn (lengths h) w →
    k ≡ get_or inside.blocks w.block k → bytes ≡ take w.len (drop w.offset k.bytes) → bytes ≡ map (byte_in h) (places_of w)
loaded h inside w k bytes same has at e =
    let here : k ≡ get_or h.blocks w.block k = at ∙ ap (λ (i : Host). get_or i.blocks w.block k) same in
    let room = within_block h w k has here in
    let found : slice_get h.blocks w.block ≡ Some k = slice_get-get_or h.blocks w.block k room.0 ∙ ap Some (sym here) in
    e ∙ sym (bytes_in-span h w.block w.len w.offset w.io k found room.1)

-- the same, where block, offset and I/O pages were asked of the window
pub stored_at : (h inside : Host) (w : Window) (xs : List ℕ) (old new : Block) (b o : ℕ) (plain : Bool) → b ≡ w.block → o ≡ w.offset →
    plain ≡ is_none w.io →
    inside ≡ h → old ≡ get_or inside.blocks b old →
    new.bytes ≡ take o old.bytes ++ xs ++ drop (o + length xs) old.bytes → new.marks ≡ marked_if plain old.marks o (length xs) →
    with_blocks inside (set inside.blocks b new) ≡ put_in_block h w xs
stored_at h inside w xs old new b o plain be oe pe same here e m =
    rw be (stored h inside w xs old new same (rw be at here) (rw oe at e) (rw (oe, pe) at m))

pub loaded_at : (h inside : Host) (w : Window) (k : Block) (bytes : List ℕ) (b o n : ℕ) → b ≡ w.block → o ≡ w.offset → n ≡ w.len →
    inside ≡ h → LiesIn (lengths h) w → k ≡ get_or inside.blocks b k → bytes ≡ take n (drop o k.bytes) →
    bytes ≡ map (byte_in h) (places_of w)
loaded_at h inside w k bytes b o n be oe ne same has here e =
    loaded h inside w k bytes same has (rw be at here) (rw (oe, ne) at e)

pub changed_at-past : {X : Type 0} (l : List X) (i : ℕ) (f : X → X) → length l ≤ i → changed_at l i f ≡ l
changed_at-past [] i f h = refl
changed_at-past (x ∷ l) zero f h = absurd (omega arith)
changed_at-past {X} (x ∷ l) (suc i) f h = ap (λ (r : List X). x ∷ r) (changed_at-past l i f (omega arith))

-- no page marked, of as many as there were
pub clear-is : (m : List Bool) (n : ℕ) → n ≡ length m → replicate n false ≡ map (λ b. false) m
clear-is [] zero e = refl
clear-is [] (suc n) e = absurd (omega arith)
clear-is (b ∷ m) zero e = absurd (omega arith)
clear-is (b ∷ m) (suc n) e = ap (λ (r : List Bool). false ∷ r) (clear-is m n (omega arith))

-- one block without its marks
pub reset_in : (h inside : Host) (i : ℕ) (old new : Block) → inside ≡ h → old ≡ get_or inside.blocks i old → new ≡ unmarked old →
    with_blocks inside (set inside.blocks i new) ≡ with_blocks h (changed_at h.blocks i unmarked)
reset_in h inside i old new same here e =
    let there : old ≡ get_or h.blocks i old = here ∙ ap (λ (k : Host). get_or k.blocks i old) same in
    ap (λ (k : Host). with_blocks k (set k.blocks i new)) same
    ∙ ap (with_blocks h) (ap (λ (c : Block). set h.blocks i c) (e ∙ ap unmarked there) ∙ sym (changed_at-set h.blocks i unmarked old))

-- no mark belongs to the shape
pub shape-unmarked : (h : Host) (i : ℕ) → shape (with_blocks h (changed_at h.blocks i unmarked)) ≡ shape h
shape-unmarked h i = shape-blocks h (changed_at h.blocks i unmarked) (lengths-changed_at h.blocks i unmarked (λ k. refl))

-- what one block holds once bytes are set in it from offset on
abbrev pub set_in : ℕ → List ℕ → Block → Block
set_in offset xs b = block_with (sets b.bytes offset xs) b.marks

-- bytes set in a span of one block change that block alone
pub set_all-span : (xs : List ℕ) (h : Host) (b offset n : ℕ) → length xs ≤ n →
    set_all h (zip (span b offset None n) xs) ≡ with_blocks h (changed_at h.blocks b (set_in offset xs))
unfolding set_all span
set_all-span [] h b offset zero le = ap (with_blocks h) (sym (changed_at-same h.blocks b))
set_all-span [] h b offset (suc n) le = ap (with_blocks h) (sym (changed_at-same h.blocks b))
set_all-span (x ∷ xs) h b offset zero le = absurd (omega arith)
set_all-span (x ∷ xs) h b offset (suc n) le =
    let p : Place = record { block = b; offset = offset; io = None } in
    let f : Block → Block = λ (k : Block). block_with (set k.bytes offset x) k.marks in
    set_all-span xs (with_byte h p x) b (offset + 1) n (omega arith)
    ∙ ap (with_blocks h)
    (changed_at-changed_at h.blocks b f (set_in (offset + 1) xs)
    ∙ ap (λ j. changed_at h.blocks b (λ (k : Block). block_with (sets (set k.bytes offset x) j xs) k.marks)) (add-one offset))

-- setting bytes leaves the shape as it was
pub shape-set_all : (ws : List (Place × ℕ)) (h : Host) → shape (set_all h ws) ≡ shape h
unfolding set_all
shape-set_all [] h = refl
shape-set_all (w ∷ ws) h =
    shape-set_all ws (with_byte h w.0 w.1)
    ∙ shape-blocks h (with_byte h w.0 w.1).blocks
    (lengths-changed_at h.blocks w.0.block (λ (k : Block). block_with (set k.bytes w.0.offset w.1) k.marks)
    (λ k. length-set k.bytes w.0.offset w.1))

-- what setting bytes of one block leaves, as the code leaves it
pub set_stored : (h inside : Host) (w : Window) (xs : List ℕ) (old new : Block) →
    inside ≡ h → LiesIn (lengths h) w → length xs ≡ w.len → old ≡ get_or inside.blocks w.block old →
    new ≡ block_with (take w.offset old.bytes ++ xs ++ drop (w.offset + length xs) old.bytes) old.marks →
    with_blocks inside (set inside.blocks w.block new) ≡ set_all h (zip (span w.block w.offset None (length xs)) xs)
set_stored h inside w xs old new same has le at e =
    let here : old ≡ get_or h.blocks w.block old = at ∙ ap (λ (k : Host). get_or k.blocks w.block old) same in
    let room = within_block h w old has here in
    let new-is : new ≡ set_in w.offset xs old =
    e ∙ ap (λ (l : List ℕ). block_with l old.marks) (sym (sets-eq xs old.bytes w.offset (omega (arith, room.1)))) in
    ap (λ (k : Host). with_blocks k (set k.blocks w.block new)) same
    ∙ ap (with_blocks h)
    (ap (λ (c : Block). set h.blocks w.block c) (new-is ∙ ap (set_in w.offset xs) here)
    ∙ sym (changed_at-set h.blocks w.block (set_in w.offset xs) old))
    ∙ sym (set_all-span xs h w.block w.offset (length xs) (omega arith))

-- blocks cut in two
pub seam_of : (l low high : List Block) (d : ℕ) → low ≡ take d l → high ≡ drop d l → l ≡ low ++ high
seam_of l low high d front back =
    sym (take-append-drop d l) ∙ ap (λ (m : List Block). m ++ drop d l) (sym front) ∙ ap (λ (m : List Block). low ++ m) (sym back)

-- the blocks on both sides of a seam
pub set-back : (l low high : List Block) (d : ℕ) (x : Block) → l ≡ low ++ high → length low ≡ d → low ++ set high 0 x ≡ set l d x
set-back l low high d x e n =
    let none : d - d ≡ 0 = omega arith in
    sym (ap (λ (m : List Block). set m d x) e ∙ set-append_right low high d d x n (omega arith) ∙ ap (λ i. low ++ set high i x) none)

pub set-front : (l low high : List Block) (i : ℕ) (x : Block) → l ≡ low ++ high → i < length low → set low i x ++ high ≡ set l i x
set-front l low high i x e h = sym (ap (λ (m : List Block). set m i x) e ∙ set-append_left low high i x h)

pub read-back : (l low high : List Block) (d : ℕ) (x : Block) → l ≡ low ++ high → length low ≡ d → get_or high 0 x ≡ get_or l d x
read-back l low high d x e n =
    let none : d - d ≡ 0 = omega arith in
    sym (ap (λ (m : List Block). get_or m d x) e ∙ get_or-append_right low high d d x n (omega arith) ∙ ap (λ i. get_or high i x) none)

pub read-front : (l low high : List Block) (i : ℕ) (x : Block) → l ≡ low ++ high → i < length low → get_or low i x ≡ get_or l i x
read-front l low high i x e h = sym (ap (λ (m : List Block). get_or m i x) e ∙ get_or_append_left low high x i h)
