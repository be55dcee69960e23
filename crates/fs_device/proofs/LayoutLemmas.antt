-- blocks and layouts that change under a machine
use Rattle.std.proofs.Common.{◌≡◌, ℕ, zero, suc, Bool, true, false, ◌+◌, ◌<◌, ◌≤◌, ◌^◌, List, [], ◌∷◌, ◌++◌, length, map, ap, sym, ◌∙◌}
use Rattle.std.proofs.Common.{option_map, IsSome, IsTrue, Result, Ok, Err, replicate, ◌==◌, ◌||◌, not, nat_lt, cond, find, slice_get}
use Rattle.std.proofs.Common.{slice_index_or, if◌then◌else◌, refl, arith, Option, Some, None, length-append, subst}
use Rattle.std.specs.declared.alloc.AllocError.{AllocError}
use Rattle.std.specs.Result.{IfOk, OnErr}
use Rattle.std.proofs.lemmas.List.{map-append}
use Rattle.std.specs.List.{list_all, list_any}
use Rattle.std.proofs.lemmas.Bool.{eqb-true, and_parts}
use Rattle.std.proofs.lemmas.Bool.Decides.{nat_tests}
use Rattle.vm_memory_core.specs.Host.{Block, Host, lengths, with_block, page_count}
use Rattle.vm_memory.specs.Collecting.{Removes}
use Rattle.vm_memory.specs.declared.error.GuestRegionCollectionError.{GuestRegionCollectionError}
use Rattle.vm_memory.specs.declared.error.GuestRegionCollectionError.TheVariants as fault
use Rattle.vm_memory.specs.Layout.{Region, fits, overlap, with_region, is_region, without_region, IsLayout, AreHeld, Backing}
use Rattle.vm_bitmaps.specs.Pages.{pages_of}
use Rattle.vm_memory.specs.Making.{backing_at, region_over}
use Rattle.plain_machine.specs.declared.refusal.Refusal.TheVariants as why
use Rattle.plain_machine.specs.Step.{State}
use Rattle.plain_machine.specs.Run.{is_known, has_len, some_overlap, fits_in, block_fits_in, insert_block, insert, no}
use Rattle.vm_memory.proofs.ChangeLemmas.{above_all}
use Rattle.vm_memory.proofs.LayoutLemmas.{HasBlock}

-- ---- one more block

index_before : (xs ys : List ℕ) (i : ℕ) → i < length xs → slice_index_or (xs ++ ys) i 0 ≡ slice_index_or xs i 0
index_before [] ys i h = absurd (omega arith)
index_before (x ∷ xs) ys zero h = refl
index_before (x ∷ xs) ys (suc i) h = index_before xs ys i (omega arith)

pub held_grown : (xs ys : List ℕ) (l : List Region) → AreHeld xs l → AreHeld (xs ++ ys) l
held_grown xs ys [] held = tt
held_grown xs ys (r ∷ l) held =
    let count = length-append xs ys in
    (omega (arith, held.0, count), index_before xs ys r.block held.0 ∙ held.1, held_grown xs ys l held.2)

-- the blocks hold the layout as before, whether or not there is one more
pub kept : (count : ℕ → ℕ) (n : ℕ) (old new : Host) (l : List Region) (made : Result ℕ AllocError) →
    IfOk made (λ number. new ≡ with_block old (record { bytes = replicate n 0; marks = replicate (count n) false })) →
    OnErr made (new ≡ old) →
    AreHeld (lengths old) l → AreHeld (lengths new) l
kept count n old new l (Ok number) ok err held =
    let block : Block = record { bytes = replicate n 0; marks = replicate (count n) false } in
    let more : lengths new ≡ lengths old ++ length block.bytes ∷ [] =
    ap lengths ok ∙ map-append (λ (b : Block). length b.bytes) old.blocks (block ∷ []) in
    subst (λ (xs : List ℕ). AreHeld xs l) (sym more) (held_grown (lengths old) (length block.bytes ∷ []) l held)
kept count n old new l (Err e) ok err held = subst (λ (h : Host). AreHeld (lengths h) l) (sym err) held

pub page_count-is : (n : ℕ) → pages_of 4096 n ≡ page_count n
page_count-is n = omega arith

pub no_bytes : (n : ℕ) → (n ≡ 0 → ⊥) → (n == 0) ≡ false
no_bytes n some = grind (arith, nat_tests)

-- ---- one region more or less

pub held_with : (xs : List ℕ) (r : Region) (l : List Region) → HasBlock xs r → AreHeld xs l → AreHeld xs (with_region r l)
held_with xs r [] here held = (here.0, here.1, tt)
held_with xs r (s ∷ l) here held =
    elim (nat_lt r.start s.start) as (λ b. AreHeld xs (if b then r ∷ s ∷ l else s ∷ with_region r l)) [
      | true ↦ (here.0, here.1, held)
      | false ↦ (held.0, held.1, held_with xs r l here held.2)
    ]

pub held_without : (xs : List ℕ) (base size : ℕ) (l : List Region) → AreHeld xs l → AreHeld xs (without_region base size l)
held_without xs base size [] held = tt
held_without xs base size (r ∷ l) held =
    elim (not (is_region base size r)) as (λ b. AreHeld xs (cond b (r ∷ without_region base size l) (without_region base size l))) [
      | true ↦ (held.0, held.1, held_without xs base size l held.2)
      | false ↦ held_without xs base size l held.2
    ]

pub found_any : {X : Type 0} (p : X → Bool) (l : List X) (x : X) → find p l ≡ Some x → list_any p l ≡ true
found_any p [] x e = absurd (cc)
found_any p (y ∷ l) x e =
    elim (p y) as (λ b. (if b then Some y else find p l) ≡ Some x → (b || list_any p l) ≡ true) [
      | true ↦ λ here. refl
      | false ↦ λ more. found_any p l x more
    ] e

pub found_none : {X : Type 0} (p : X → Bool) (l : List X) → find p l ≡ None → list_any p l ≡ false
found_none p [] e = refl
found_none p (y ∷ l) e =
    elim (p y) as (λ b. (if b then Some y else find p l) ≡ None → (b || list_any p l) ≡ false) [
      | true ↦ λ here. absurd (cc)
      | false ↦ λ more. found_none p l more
    ] e

found_some : {X : Type 0} (p : X → Bool) (l : List X) → IsSome (find p l) → list_any p l ≡ true
found_some p [] e = absurd (cc)
found_some p (y ∷ l) e =
    elim (p y) as (λ b. IsSome (if b then Some y else find p l) → (b || list_any p l) ≡ true) [
      | true ↦ λ here. refl
      | false ↦ λ more. found_some p l more
    ] e

-- a region that isn't taken out is there unless the layout has none
pub lacks_room : (base size : ℕ) (l : List Region) (e : GuestRegionCollectionError) → (e ≡ fault.NoMemoryRegion → ⊥) →
    Removes base size l (Err e) → IsTrue (list_any (is_region base size) l)
lacks_room base size l fault.NoMemoryRegion other is = absurd (other refl)
lacks_room base size l fault.OutOfMemory other is = found_some (is_region base size) l is.0
lacks_room base size l _ other is = absurd is

pub has_none : (base size : ℕ) (l : List Region) (e : GuestRegionCollectionError) → e ≡ fault.NoMemoryRegion → Removes base size l (Err e) →
    list_any (is_region base size) l ≡ false
has_none base size l e none is =
    found_none (is_region base size) l (subst (λ (k : GuestRegionCollectionError). Removes base size l (Err k)) none is)

-- ---- known blocks

abbrev lengths_in : List Block → List ℕ
lengths_in blocks = map (λ (b : Block). length b.bytes) blocks

pub block_there : (blocks : List Block) (i : ℕ) (b : Block) → slice_get blocks i ≡ Some b →
    (i < length (lengths_in blocks)) × (slice_index_or (lengths_in blocks) i 0 ≡ length b.bytes)
block_there [] i b e = absurd (cc)
block_there (x ∷ blocks) zero b e =
    let same : x ≡ b = cc in
    (omega arith, ap (λ (y : Block). length y.bytes) same)
block_there (x ∷ blocks) (suc i) b e =
    let more = block_there blocks i b e in
    (omega (arith, more.0), more.1)

known_of : (blocks : List Block) (i n : ℕ) → i < length (lengths_in blocks) → slice_index_or (lengths_in blocks) i 0 ≡ n →
    has_len n (slice_get blocks i) ≡ true
known_of [] i n h e = absurd (omega arith)
known_of (x ∷ blocks) zero n h e = grind (arith, nat_tests)
known_of (x ∷ blocks) (suc i) n h e = known_of blocks i n (omega arith) e

has_of : (blocks : List Block) (i n : ℕ) → has_len n (slice_get blocks i) ≡ true →
    (i < length (lengths_in blocks)) × (slice_index_or (lengths_in blocks) i 0 ≡ n)
has_of [] i n e = absurd (cc)
has_of (x ∷ blocks) zero n e = (omega arith, eqb-true _ _ e)
has_of (x ∷ blocks) (suc i) n e =
    let more = has_of blocks i n e in
    (omega (arith, more.0), more.1)

pub all_known : (h : Host) (l : List Region) → AreHeld (lengths h) l → list_all (is_known h) l ≡ true
all_known h [] held = refl
all_known h (r ∷ l) held = rw (known_of h.blocks r.block r.size held.0 held.1, all_known h l held.2) refl

all_held : (h : Host) (l : List Region) → list_all (is_known h) l ≡ true → AreHeld (lengths h) l
all_held h [] known = tt
all_held h (r ∷ l) known =
    let parts = and_parts _ _ known in
    let here = has_of h.blocks r.block r.size parts.0 in
    (here.0, here.1, all_held h l parts.1)

pub not_known : (h : Host) (l : List Region) → (AreHeld (lengths h) l → ⊥) → list_all (is_known h) l ≡ false
not_known h l none =
    elim (list_all (is_known h) l) as (λ b. list_all (is_known h) l ≡ b → b ≡ false) [
      | true ↦ λ known. absurd (none (all_held h l known))
      | false ↦ λ known. refl
    ] refl

-- ---- a region over a block

abbrev pub over : ℕ → Backing → Region
over base m = record { start = base; size = m.size; block = m.block }

abbrev with_number : ℕ → Block → Backing
with_number block b = record { size = length b.bytes; block = block }

unknown_in : {F : Type 0} (s : State F) (base block : ℕ) (o : Option Block) → None ≡ option_map (with_number block) o →
    insert_block s base block o ≡ no why.UnknownBlock s
unknown_in s base block None e = refl
unknown_in s base block (Some b) e = absurd (cc)

-- no block of this number
pub unknown : {F : Type 0} (s : State F) (base block : ℕ) → None ≡ backing_at s.memory.host block →
    insert_block s base block (slice_get s.memory.host.blocks block) ≡ no why.UnknownBlock s
unknown s base block e = unknown_in s base block (slice_get s.memory.host.blocks block) e

known_in : {F : Type 0} (s : State F) (base block : ℕ) (m : Backing) (o : Option Block) → Some m ≡ option_map (with_number block) o →
    insert_block s base block o ≡ insert s (over base m)
known_in s base block m None e = absurd (cc)
known_in s base block m (Some b) e =
    let same : with_number block b ≡ m = cc in
    ap (λ (k : Backing). insert s (over base k)) same

-- the block of this number
pub known : {F : Type 0} (s : State F) (base block : ℕ) (m : Backing) → Some m ≡ backing_at s.memory.host block →
    insert_block s base block (slice_get s.memory.host.blocks block) ≡ insert s (over base m)
known s base block m e = known_in s base block m (slice_get s.memory.host.blocks block) e

-- its last address doesn't fit
pub past_end : (base : ℕ) (m : Backing) → None ≡ region_over m base → fits (over base m) ≡ false
past_end base m e =
    elim (fits (over base m)) as (λ b. None ≡ (if b then Some (over base m) else None) → b ≡ false) [
      | true ↦ λ none. absurd (cc)
      | false ↦ λ none. refl
    ] e

-- its last address fits
pub within : (base : ℕ) (m : Backing) (r : Region) → Some r ≡ region_over m base → (fits (over base m) ≡ true) × (over base m ≡ r)
within base m r e =
    elim (fits (over base m)) as (λ b. Some r ≡ (if b then Some (over base m) else None) → (b ≡ true) × (over base m ≡ r)) [
      | true ↦ λ some. (refl, cc)
      | false ↦ λ some. absurd (cc)
    ] e

proceeds_of : (layout : List Region) (base block : ℕ) (m : Backing) (o : Option Block) → Some m ≡ option_map (with_number block) o →
    block_fits_in layout base block o ≡ fits_in layout (over base m)
proceeds_of layout base block m None e = absurd (cc)
proceeds_of layout base block m (Some b) e =
    let same : with_number block b ≡ m = cc in
    ap (λ (k : Backing). fits_in layout (over base k)) same

-- it may be there too
pub proceeds : (h : Host) (layout : List Region) (base block : ℕ) (m : Backing) (r : Region) → Some m ≡ backing_at h block →
    Some r ≡ region_over m base → list_any (overlap r) layout ≡ false →
    IsTrue (block_fits_in layout base block (slice_get h.blocks block))
proceeds h layout base block m r there made apart =
    let is = within base m r made in
    let alone : list_any (overlap (over base m)) layout ≡ false =
    subst (λ (k : Region). list_any (overlap k) layout ≡ false) (sym is.1) apart in
    let enters : fits_in layout (over base m) ≡ true = rw (is.0, alone) refl in
    proceeds_of layout base block m (slice_get h.blocks block) there ∙ enters

has_in : (blocks : List Block) (block : ℕ) (m : Backing) (o : Option Block) → slice_get blocks block ≡ o →
    Some m ≡ option_map (with_number block) o →
    (m.block < length (lengths_in blocks)) × (slice_index_or (lengths_in blocks) m.block 0 ≡ m.size)
has_in blocks block m None there e = absurd (cc)
has_in blocks block m (Some b) there e =
    let same : with_number block b ≡ m = cc in
    subst (λ (k : Backing). (k.block < length (lengths_in blocks)) × (slice_index_or (lengths_in blocks) k.block 0 ≡ k.size)) same
    (block_there blocks block b there)

pub has_block : (h : Host) (base block : ℕ) (m : Backing) (r : Region) → Some m ≡ backing_at h block → Some r ≡ region_over m base →
    HasBlock (lengths h) r
has_block h base block m r there e =
    subst (HasBlock (lengths h)) (within base m r e).1 (has_in h.blocks block m (slice_get h.blocks block) refl there)

-- ---- a layout's regions fit, and are apart

pub all_fit : (l : List Region) → IsLayout l → list_all fits l ≡ true
all_fit [] is = refl
all_fit (r ∷ l) is =
    let end : r.start + r.size ≤ 2 ^ 64 = is.1 in
    let here : fits r ≡ true = grind (arith, nat_tests) in
    rw (here, all_fit l is.3) refl

pub all_apart : (l : List Region) → IsLayout l → some_overlap l ≡ false
all_apart [] is = refl
all_apart (r ∷ l) is = rw (above_all l r (r.start + r.size) is.2 (omega arith), all_apart l is.3) refl
