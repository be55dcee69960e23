-- which bytes stores change
use Rattle.std.proofs.Common.{arith, ⊎_elim, ◌+◌, inl, inr, ◌≡◌, ◌⊎◌, ◌/◌, ℕ, zero, suc, Bool, List, [], ◌∷◌, length, map, Option, Some}
use Rattle.std.proofs.Common.{None, refl, ap, ◌∙◌, subst}
use Rattle.std.specs.Prelude.{slice_get, slice_set, option_and_then}
use Rattle.std.specs.List.{Contains, cons_option, filter_map}
use Rattle.std.proofs.lemmas.Bool.{cases_eq}
use Rattle.std.proofs.lemmas.List.Elements.{Contains-append_right}
use Rattle.vm_iotlb.specs.declared.range.IotlbRange.{IotlbRange}
use Rattle.vm_iotlb.specs.declared.permissions.Permissions.TheVariants.{Write}
use Rattle.vm_memory_core.specs.Host.{Host, Block, IoAddress, Place, byte_at, changed_at, lengths, with_byte, with_mark_by}
use Rattle.vm_memory_core.specs.Window.{put_byte}
use Rattle.vm_memory.specs.Memory.{Memory, location, stored, stored_at, stored_all}
use Rattle.fs_shared.specs.Pages.{first_page, page_of}

-- ---- one byte of a host

-- the byte of a block
abbrev byte_of : ℕ → Option Block → Option ℕ
byte_of offset block = option_and_then (λ b. slice_get b.bytes offset) block

set_other : (xs : List ℕ) (i j x : ℕ) → (i ≡ j → ⊥) → slice_get (slice_set xs i x) j ≡ slice_get xs j
set_other (z ∷ xs) zero zero x other = absurd (other refl)
set_other (z ∷ xs) (suc i) (suc j) x other = set_other xs i j x (λ e. other (ap suc e))
set_other _ _ _ x other = refl

set_length : (xs : List ℕ) (i x : ℕ) → length (slice_set xs i x) ≡ length xs
set_length (z ∷ xs) (suc i) x = ap suc (set_length xs i x)
set_length _ _ x = refl

marks_keep : (l : List Block) (i j offset : ℕ) (f : List Bool → List Bool) →
    byte_of offset (slice_get (changed_at l i (λ (b : Block). record b { marks = f b.marks })) j) ≡ byte_of offset (slice_get l j)
marks_keep (b ∷ l) zero zero offset f = refl
marks_keep (b ∷ l) (suc i) (suc j) offset f = marks_keep l i j offset f
marks_keep _ _ _ offset f = refl

one_keeps : (l : List Block) (i j at offset x : ℕ) → (i ≡ j → at ≡ offset → ⊥) →
    byte_of offset (slice_get (changed_at l i (λ (b : Block). record b { bytes = slice_set b.bytes at x })) j)
    ≡ byte_of offset (slice_get l j)
one_keeps (b ∷ l) zero zero at offset x other = set_other b.bytes at offset x (other refl)
one_keeps (b ∷ l) (suc i) (suc j) at offset x other = one_keeps l i j at offset x (λ e. other (ap suc e))
one_keeps _ _ _ at offset x other = refl

mark_keeps : (io : Option IoAddress) (p : Place) (h : Host) (r : Place) → byte_at (with_mark_by io p h) r ≡ byte_at h r
mark_keeps None p h r = marks_keep h.blocks p.block r.block r.offset _
mark_keeps (Some a) p h r = refl

put_keeps : (h : Host) (q p : Place) (x : ℕ) → (q.block ≡ p.block → q.offset ≡ p.offset → ⊥) → byte_at (put_byte h q x) p ≡ byte_at h p
put_keeps h q p x other = mark_keeps q.io q (with_byte h q x) p ∙ one_keeps h.blocks q.block p.block q.offset p.offset x other

same_page : (ls : List ℕ) (q p : Place) → q.block ≡ p.block → q.offset ≡ p.offset → page_of ls q ≡ page_of ls p
same_page ls q p block offset =
    ap (λ (k : ℕ). first_page ls k + q.offset / 4096) block ∙ ap (λ (k : ℕ). first_page ls p.block + k / 4096) offset

-- a byte that is put changes no other place
put_or : (ls : List ℕ) (h : Host) (q p : Place) (x : ℕ) → (byte_at (put_byte h q x) p ≡ byte_at h p) ⊎ (page_of ls q ≡ page_of ls p)
put_or ls h q p x =
    ⊎_elim
    (λ (block : q.block ≡ p.block).
    ⊎_elim (λ (offset : q.offset ≡ p.offset). inr (same_page ls q p block offset))
    (λ (apart : q.offset ≡ p.offset → ⊥). inl (put_keeps h q p x (λ b o. apart o))) (cases_eq q.offset p.offset))
    (λ (apart : q.block ≡ p.block → ⊥). inl (put_keeps h q p x (λ b o. apart b)))
    (cases_eq q.block p.block)

-- ---- stores

-- what stood at a place in a memory stands there in a host, or the place lies in a page of these
abbrev pub RecordedOr : List ℕ → Place → Memory → List Place → Host → Type 0
RecordedOr ls p m written after = (byte_at after p ≡ byte_at m.host p) ⊎ Contains (map (page_of ls) written) (page_of ls p)

put_then : (ls : List ℕ) (p q : Place) (m : Memory) (byte : ℕ) (later : List Place) (after : Host) →
    RecordedOr ls p (stored_at m byte (Some q)) later after → RecordedOr ls p m (q ∷ later) after
put_then ls p q m byte later after (inr page) = inr (Contains-append_right (page_of ls q ∷ []) (map (page_of ls) later) (page_of ls p) page)
put_then ls p q m byte later after (inl recorded) =
    ⊎_elim
    (λ (same : byte_at (put_byte m.host q byte) p ≡ byte_at m.host p). inl (recorded ∙ same))
    (λ (page : page_of ls q ≡ page_of ls p). inr (0, omega arith, page))
    (put_or ls m.host q p byte)

one_then : (ls : List ℕ) (p : Place) (m : Memory) (byte : ℕ) (o : Option Place) (later : List Place) (after : Host) →
    RecordedOr ls p (stored_at m byte o) later after → RecordedOr ls p m (cons_option o later) after
one_then ls p m byte None later after rest = rest
one_then ls p m byte (Some q) later after rest = put_then ls p q m byte later after rest

with_tables : (h : Host) (p : Place) (x : ℕ) (io : Option IoAddress) → p.io ≡ io → (put_byte h p x).tables ≡ h.tables
with_tables h p x None e = rw e refl
with_tables h p x (Some a) e = rw e refl

same_location : (m : Memory) (h : Host) → h.tables ≡ m.host.tables → location (record m { host = h }) Write ≡ location m Write
same_location m h e = ap (λ (t : List (List IotlbRange)). location (record m { host = record h { tables = t } }) Write) e

-- a store leaves where addresses are
location_stays : (m : Memory) (x : ℕ) (o : Option Place) → location (stored_at m x o) Write ≡ location m Write
location_stays m x None = refl
location_stays m x (Some p) = same_location m (put_byte m.host p x) (with_tables m.host p x p.io refl)

-- the places that writes store to
abbrev pub places_stored : Memory → List (ℕ × ℕ) → List Place
places_stored m ws = filter_map (location m Write) (map (λ w. w.0) ws)

pub stores_or : (ls : List ℕ) (p : Place) (m : Memory) (ws : List (ℕ × ℕ)) → RecordedOr ls p m (places_stored m ws) (stored_all m ws).host
unfolding stored_all
stores_or ls p m [] = inl refl
stores_or ls p m (w ∷ ws) =
    let later : List ℕ = map (λ (w : ℕ × ℕ). w.0) ws in
    let there = location m Write w.0 in
    subst (λ (f : ℕ → Option Place). RecordedOr ls p m (cons_option there (filter_map f later)) (stored_all (stored m w) ws).host)
    (location_stays m w.1 there)
    (one_then ls p m w.1 there (filter_map (location (stored m w) Write) later) (stored_all (stored m w) ws).host
    (stores_or ls p (stored m w) ws))

-- ---- the lengths of blocks stay

changed_length : (l : List Block) (i : ℕ) (g : Block → Block) → ((b : Block) → length (g b).bytes ≡ length b.bytes) →
    map (λ (b : Block). length b.bytes) (changed_at l i g) ≡ map (λ (b : Block). length b.bytes) l
changed_length [] i g same = refl
changed_length (b ∷ l) zero g same = ap (λ (n : ℕ). n ∷ map (λ (b : Block). length b.bytes) l) (same b)
changed_length (b ∷ l) (suc i) g same = ap (λ (ns : List ℕ). length b.bytes ∷ ns) (changed_length l i g same)

marked_lengths : (io : Option IoAddress) (p : Place) (h : Host) → lengths (with_mark_by io p h) ≡ lengths h
marked_lengths None p h = changed_length h.blocks p.block _ (λ b. refl)
marked_lengths (Some a) p h = refl

stored_lengths : (m : Memory) (x : ℕ) (o : Option Place) → lengths (stored_at m x o).host ≡ lengths m.host
stored_lengths m x None = refl
stored_lengths m x (Some p) =
    marked_lengths p.io p (with_byte m.host p x) ∙ changed_length m.host.blocks p.block _ (λ b. set_length b.bytes p.offset x)

pub stores_lengths : (m : Memory) (ws : List (ℕ × ℕ)) → lengths (stored_all m ws).host ≡ lengths m.host
unfolding stored_all
stores_lengths m [] = refl
stores_lengths m (w ∷ ws) = stores_lengths (stored m w) ws ∙ stored_lengths m w.1 (location m Write w.0)
