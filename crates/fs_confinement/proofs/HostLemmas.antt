-- stores to two hosts that differ in bytes alone
use Rattle.std.proofs.Common.{◌≡◌, ℕ, zero, suc, Bool, true, false, ◌||◌, List, [], ◌∷◌, ◌++◌, map, Option, Some, None, refl, ap, sym, ◌∙◌}
use Rattle.std.proofs.Common.{◌&&◌, ◌==◌, if◌then◌else◌, slice_get, slice_set, option_map, option_and_then, subst}
use Rattle.std.specs.List.{flat_map}
use Rattle.std.proofs.lemmas.Bool.{eq-eqb, or_left, or_right, or_parts}
use Rattle.std.proofs.Math.Bool.{or-false}
use Rattle.std.proofs.lemmas.Option.{slice_get-map}
use Rattle.std.proofs.lemmas.List.{map-append}
use Rattle.std.proofs.lemmas.List.Folds.{list_any-append}
use Rattle.std.proofs.Math.Seq.{map-set_same}
use Rattle.vm_iotlb.specs.declared.permissions.Permissions.{Permissions}
use Rattle.vm_iotlb.specs.declared.permissions.Permissions.TheVariants.{Read, Write}
use Rattle.vm_memory_core.specs.Host.{Host, Place, IoAddress, Block, byte_at, marked, with_block, with_byte, with_mark_by}
use Rattle.vm_memory_core.specs.Window.{put_byte}
use Rattle.vm_memory.specs.Memory.{Memory, location, stored_at, stored, stored_all}
use Rattle.plain_machine.proofs.PageLemmas.{changed_seen, set_seen, ways_stay}
use Rattle.fs_device.proofs.MarkLemmas.{changed_after, changed_same}
use Rattle.fs_device.proofs.NodeLemmas.{either_way}
use Rattle.fs_confinement.specs.ReadSet.{place_if, places_for, is_at, is_among, byte_of}
use Rattle.fs_confinement.specs.Confinement.{zeroed, without_bytes, AgreeOn, KeepDifference}

-- ---- sets of places

among-append :
    (block offset : ℕ) (ps qs : List Place) → is_among block offset (ps ++ qs) ≡ (is_among block offset ps || is_among block offset qs)
among-append block offset ps qs = list_any-append (is_at block offset) ps qs

-- hosts that agree on some places agree on each part of them
pub agree_front : (g h : Host) (ps qs : List Place) → AgreeOn g h (ps ++ qs) → AgreeOn g h ps
agree_front g h ps qs all block offset is =
    all block offset (among-append block offset ps qs ∙ or_left (is_among block offset ps) (is_among block offset qs) is)

pub agree_back : (g h : Host) (ps qs : List Place) → AgreeOn g h (ps ++ qs) → AgreeOn g h qs
agree_back g h ps qs all block offset is =
    all block offset (among-append block offset ps qs ∙ or_right (is_among block offset ps) (is_among block offset qs) is)

at_itself : (p : Place) → is_at p.block p.offset p ≡ true
at_itself p =
    ap (λ (b : Bool). b && (p.offset == p.offset)) (eq-eqb p.block p.block refl) ∙ eq-eqb p.offset p.offset refl

-- the byte at a place on which they agree
pub agree_at : (g h : Host) (p : Place) → AgreeOn g h (p ∷ []) → byte_at g p ≡ byte_at h p
agree_at g h p all = all p.block p.offset (or_left (is_at p.block p.offset p) false (at_itself p))

-- ---- one store

-- a byte that is put changes no more of a host without its bytes than a mark
zeroed_byte : (offset x : ℕ) (b : Block) → zeroed (record b { bytes = slice_set b.bytes offset x }) ≡ zeroed b
zeroed_byte offset x b = ap (λ (bytes : List ℕ). record b { bytes = bytes }) (map-set_same (λ (y : ℕ). 0) b.bytes offset x 0 refl)

mark_aside : (io : Option IoAddress) (p : Place) (h : Host) → without_bytes (with_mark_by io p h) ≡ with_mark_by io p (without_bytes h)
mark_aside None p h =
    ap (λ (blocks : List Block). record h { blocks = blocks })
    (changed_after zeroed (λ b. record b { marks = marked b.marks p.offset }) (λ b. record b { marks = marked b.marks p.offset }) h.blocks
    p.block (λ b. refl))
mark_aside (Some a) p h = refl

put_aside : (h : Host) (p : Place) (x : ℕ) → without_bytes (put_byte h p x) ≡ with_mark_by p.io p (without_bytes h)
put_aside h p x =
    mark_aside p.io p (with_byte h p x)
    ∙ ap (λ (blocks : List Block). with_mark_by p.io p (record h { blocks = blocks }))
    (changed_same zeroed (λ b. record b { bytes = slice_set b.bytes p.offset x }) h.blocks p.block (zeroed_byte p.offset x))

-- a block's byte
abbrev byte_in_block : ℕ → Option Block → Option ℕ
byte_in_block offset o = option_and_then (λ (b : Block). slice_get b.bytes offset) o

zeroed_at :
    (offset : ℕ) (o : Option Block) → byte_in_block offset (option_map zeroed o) ≡ option_map {U = ℕ} (λ _. 0) (byte_in_block offset o)
zeroed_at offset None = refl
zeroed_at offset (Some b) = slice_get-map (λ (y : ℕ). 0) b.bytes offset

-- whether there is a byte is told by the host without its bytes
there_alike : (g h : Host) → without_bytes g ≡ without_bytes h → (block offset : ℕ) →
    option_map {U = ℕ} (λ _. 0) (byte_of g block offset) ≡ option_map {U = ℕ} (λ _. 0) (byte_of h block offset)
there_alike g h same block offset =
    sym (zeroed_at offset (slice_get g.blocks block))
    ∙ ap (byte_in_block offset) (sym (slice_get-map zeroed g.blocks block))
    ∙ ap (λ (k : Host). byte_of k block offset) same
    ∙ ap (byte_in_block offset) (slice_get-map zeroed h.blocks block) ∙ zeroed_at offset (slice_get h.blocks block)

whatever :
    (x : ℕ) (o p : Option ℕ) → option_map {U = ℕ} (λ _. 0) o ≡ option_map {U = ℕ} (λ _. 0) p → option_map (λ _. x) o ≡ option_map (λ _. x) p
whatever x None (Some b) e = absurd (cc)
whatever x (Some a) None e = absurd (cc)
whatever x _ _ e = refl

marks_stay : (offset : ℕ) (marks : Block → List Bool) (o : Option Block) →
    byte_in_block offset (option_map (λ (b : Block). record b { marks = marks b }) o) ≡ byte_in_block offset o
marks_stay offset marks None = refl
marks_stay offset marks (Some b) = refl

marked_byte :
    (io : Option IoAddress) (p : Place) (h : Host) (block offset : ℕ) → byte_of (with_mark_by io p h) block offset ≡ byte_of h block offset
marked_byte (Some a) p h block offset = refl
marked_byte None p h block offset =
    changed_seen (byte_in_block offset) h.blocks p.block block (λ b. record b { marks = marked b.marks p.offset })
    (λ (here : Bool). byte_of h block offset) (marks_stay offset (λ (b : Block). marked b.marks p.offset) (slice_get h.blocks block)) refl

-- what a store leaves at an offset of a block
abbrev if_there : Bool → ℕ → Option ℕ → Option ℕ
if_there here x old = if here then option_map (λ _. x) old else old

byte_set : (at offset x : ℕ) (o : Option Block) → byte_in_block offset
    (option_map (λ (b : Block). record b { bytes = slice_set b.bytes at x }) o) ≡ if_there (at == offset) x (byte_in_block offset o)
byte_set at offset x None = sym (either_way (at == offset) None)
byte_set at offset x (Some b) =
    set_seen b.bytes at offset x (λ (here : Bool). if_there here x (slice_get b.bytes offset)) refl refl

with_byte_at : (h : Host) (p : Place) (x block offset : ℕ) →
    byte_of (with_byte h p x) block offset ≡ if_there (is_at block offset p) x (byte_of h block offset)
with_byte_at h p x block offset =
    changed_seen (byte_in_block offset) h.blocks p.block block (λ b. record b { bytes = slice_set b.bytes p.offset x })
    (λ (here : Bool). if_there (here && (p.offset == offset)) x (byte_of h block offset))
    (byte_set p.offset offset x (slice_get h.blocks block)) refl

put_at : (h : Host) (p : Place) (x block offset : ℕ) →
    byte_of (put_byte h p x) block offset ≡ if_there (is_at block offset p) x (byte_of h block offset)
put_at h p x block offset = marked_byte p.io p (with_byte h p x) block offset ∙ with_byte_at h p x block offset

-- ---- differences that stay

pub nothing_differs : (g h : Host) → KeepDifference g h g h []
nothing_differs g h = record {
  same = λ block offset e. e;
  new = λ block offset e. absurd (cc);
  old = λ block offset byte e is. is;
  other_old = λ block offset byte e is. is;
}

-- one change after the other
pub keep_both : {g h g' h' g'' h'' : Host} (ps qs : List Place) → KeepDifference g h g' h' ps → KeepDifference g' h' g'' h'' qs →
    KeepDifference g h g'' h'' (ps ++ qs)
keep_both {g} {h} {g'} {h'} {g''} {h''} ps qs first later = record {
  same = λ block offset e. later.same block offset (first.same block offset e);
  new = λ block offset e.
      by_part block offset (is_among block offset ps) refl (sym (among-append block offset ps qs) ∙ e);
  old = λ block offset byte e is.
      let apart = or_parts (is_among block offset ps) (is_among block offset qs) (sym (among-append block offset ps qs) ∙ e) in
      later.old block offset byte apart.1 (first.old block offset byte apart.0 is);
  other_old = λ block offset byte e is.
      let apart = or_parts (is_among block offset ps) (is_among block offset qs) (sym (among-append block offset ps qs) ∙ e) in
      later.other_old block offset byte apart.1 (first.other_old block offset byte apart.0 is);
}
  where
    by_part : (block offset : ℕ) (b : Bool) → is_among block offset ps ≡ b → (b || is_among block offset qs) ≡ true →
        byte_of g'' block offset ≡ byte_of h'' block offset
    by_part block offset true is e = later.same block offset (first.new block offset is)
    by_part block offset false is e = later.new block offset e

-- hosts that agree on some places do so after changes that keep differences
pub agree_later : {g h g' h' : Host} (ps qs : List Place) → KeepDifference g h g' h' ps → AgreeOn g h qs → AgreeOn g' h' qs
agree_later ps qs keep agree block offset is = keep.same block offset (agree block offset is)

put_keeps :
    (g h : Host) → without_bytes g ≡ without_bytes h → (p : Place) (x : ℕ) → KeepDifference g h (put_byte g p x) (put_byte h p x) (p ∷ [])
put_keeps g h same p x = record {
  same = λ block offset e. put_at g p x block offset ∙ ap (if_there (is_at block offset p) x) e ∙ sym (put_at h p x block offset);
  new = λ block offset e.
      let here : is_at block offset p ≡ true = sym (or-false (is_at block offset p)) ∙ e in
      put_at g p x block offset ∙ ap (λ (b : Bool). if_there b x (byte_of g block offset)) here
      ∙ whatever x (byte_of g block offset) (byte_of h block offset) (there_alike g h same block offset)
      ∙ sym (put_at h p x block offset ∙ ap (λ (b : Bool). if_there b x (byte_of h block offset)) here);
  old = λ block offset byte e is.
      let apart : is_at block offset p ≡ false = sym (or-false (is_at block offset p)) ∙ e in
      put_at g p x block offset ∙ ap (λ (b : Bool). if_there b x (byte_of g block offset)) apart ∙ is;
  other_old = λ block offset byte e is.
      let apart : is_at block offset p ≡ false = sym (or-false (is_at block offset p)) ∙ e in
      put_at h p x block offset ∙ ap (λ (b : Bool). if_there b x (byte_of h block offset)) apart ∙ is;
}

-- ---- memories

-- a memory over its host without bytes: where addresses are is told by it
abbrev pub bare : Memory → Memory
bare m = record m { host = without_bytes m.host }

pub same_hosts : (m n : Memory) → bare m ≡ bare n → without_bytes m.host ≡ without_bytes n.host
same_hosts m n same = ap (λ (k : Memory). k.host) same

stored_at_aside : (m n : Memory) → bare m ≡ bare n → (x : ℕ) (o : Option Place) → bare (stored_at m x o) ≡ bare (stored_at n x o)
stored_at_aside m n same x None = same
stored_at_aside m n same x (Some p) =
    ap (λ (h : Host). record m { host = h }) (put_aside m.host p x)
    ∙ ap (λ (k : Memory). record k { host = with_mark_by p.io p k.host }) same
    ∙ sym (ap (λ (h : Host). record n { host = h }) (put_aside n.host p x))

stored_at_keeps : (m n : Memory) → bare m ≡ bare n → (x : ℕ) (o : Option Place) →
    KeepDifference m.host n.host (stored_at m x o).host (stored_at n x o).host (place_if o)
stored_at_keeps m n same x None = nothing_differs m.host n.host
stored_at_keeps m n same x (Some p) = put_keeps m.host n.host (same_hosts m n same) p x

stored_aside : (m n : Memory) → bare m ≡ bare n → (w : ℕ × ℕ) → bare (stored m w) ≡ bare (stored n w)
stored_aside m n same w =
    stored_at_aside m n same w.1 (location m Write w.0) ∙ ap (λ (k : Memory). bare (stored_at n w.1 (location k Write w.0))) same

-- where addresses are doesn't change by stores
pub locations_stay : (ws : List (ℕ × ℕ)) (m : Memory) → location (stored_all m ws) ≡ location m
locations_stay ws m = ap {B = Permissions → ℕ → Option Place} location (ways_stay m ws)

abbrev places_by : (ℕ → Option Place) → List ℕ → List Place
places_by where_is as' = flat_map (λ a. place_if (where_is a)) as'

-- stores to memories that differ in bytes alone leave such ones
pub stores_aside : (ws : List (ℕ × ℕ)) (m n : Memory) → bare m ≡ bare n → bare (stored_all m ws) ≡ bare (stored_all n ws)
unfolding stored_all
stores_aside [] m n same = same
stores_aside (w ∷ ws) m n same = stores_aside ws (stored m w) (stored n w) (stored_aside m n same w)

-- and keep differences, but for what they write
pub stores_keep : (ws : List (ℕ × ℕ)) (m n : Memory) → bare m ≡ bare n →
    KeepDifference m.host n.host (stored_all m ws).host (stored_all n ws).host (places_for m Write (map (λ w. w.0) ws))
unfolding stored_all
stores_keep [] m n same = nothing_differs m.host n.host
stores_keep (w ∷ ws) m n same =
    let there : location m Write w.0 ≡ location n Write w.0 = ap (λ (k : Memory). location k Write w.0) same in
    let first : KeepDifference m.host n.host (stored m w).host (stored n w).host (place_if (location m Write w.0)) =
    subst (λ (o : Option Place). KeepDifference m.host n.host (stored m w).host (stored_at n w.1 o).host (place_if (location m Write w.0)))
    there
    (stored_at_keeps m n same w.1 (location m Write w.0)) in
    let later = stores_keep ws (stored m w) (stored n w) (stored_aside m n same w) in
    subst (λ (where_is : Permissions → ℕ → Option Place).
    KeepDifference m.host n.host (stored_all (stored m w) ws).host (stored_all (stored n w) ws).host
    (place_if (location m Write w.0) ++ places_by (where_is Write) (map (λ w. w.0) ws)))
    (locations_stay (w ∷ []) m) (keep_both (place_if (location m Write w.0)) _ first later)

-- hosts that agree on the places of some addresses do so after stores to them
pub agree_stored : (ws : List (ℕ × ℕ)) (m n : Memory) → bare m ≡ bare n → (as' : List ℕ) → AgreeOn m.host n.host (places_for m Read as') →
    AgreeOn (stored_all m ws).host (stored_all n ws).host (places_for (stored_all m ws) Read as')
agree_stored ws m n same as' agree =
    subst (λ (where_is : Permissions → ℕ → Option Place). AgreeOn (stored_all m ws).host (stored_all n ws).host
    (places_by (where_is Read) as')) (sym (locations_stay ws m))
    (agree_later (places_for m Write (map (λ w. w.0) ws)) (places_for m Read as') (stores_keep ws m n same) agree)

-- a new block is the same in both hosts, and no byte that was there changes
block_kept : (l : List Block) (b : Block) (block offset byte : ℕ) → byte_in_block offset (slice_get l block) ≡ Some byte →
    byte_in_block offset (slice_get (l ++ b ∷ []) block) ≡ Some byte
block_kept [] b block offset byte e = absurd (cc)
block_kept (x ∷ l) b zero offset byte e = e
block_kept (x ∷ l) b (suc block) offset byte e = block_kept l b block offset byte e

more_same : (l k : List Block) (b : Block) (block offset : ℕ) → map zeroed l ≡ map zeroed k →
    byte_in_block offset (slice_get l block) ≡ byte_in_block offset (slice_get k block) →
    byte_in_block offset (slice_get (l ++ b ∷ []) block) ≡ byte_in_block offset (slice_get (k ++ b ∷ []) block)
more_same [] [] b block offset same e = refl
more_same (x ∷ l) (y ∷ k) b zero offset same e = e
more_same (x ∷ l) (y ∷ k) b (suc block) offset same e = more_same l k b block offset (cc) e
more_same _ _ b block offset same e = absurd (cc)

pub block_keeps : (g h : Host) (b : Block) → without_bytes g ≡ without_bytes h → KeepDifference g h (with_block g b) (with_block h b) []
block_keeps g h b same = record {
  same = λ block offset e. more_same g.blocks h.blocks b block offset (ap (λ (k : Host). k.blocks) same) e;
  new = λ block offset e. absurd (cc);
  old = λ block offset byte e is. block_kept g.blocks b block offset byte is;
  other_old = λ block offset byte e is. block_kept h.blocks b block offset byte is;
}

pub block_aside : (h : Host) (b : Block) → without_bytes (with_block h b) ≡ with_block (without_bytes h) (zeroed b)
block_aside h b = ap (λ (blocks : List Block). record h { blocks = blocks }) (map-append zeroed h.blocks (b ∷ []))
