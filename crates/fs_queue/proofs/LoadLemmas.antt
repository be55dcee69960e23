-- what a memory has that holds a load and nothing else
use Rattle.std.proofs.Common.{◌≡◌, ℕ, Bool, true, false, suc, ◌+◌, ◌-◌, ◌^◌, ◌<◌, ◌≤◌, List, [], ◌∷◌, length, take, drop, Option, Some}
use Rattle.std.proofs.Common.{None, refl, ap, sym, ◌∙◌, arith}
use Rattle.std.specs.Prelude.{is_some, if◌then◌else◌, nat_lt, nat_le, not}
use Rattle.std.specs.Int.{w16, w32, w64, from_le_bytes}
use Rattle.std.specs.List.{list_all}
use Rattle.std.proofs.lemmas.Bool.Decides.{nat_tests}
use Rattle.std.proofs.lemmas.Bool.{and_parts, ltb-true}
use Rattle.std.proofs.lemmas.List.{take_all}
use Rattle.vm_values.specs.Fields.{AllFit, spelled}
use Rattle.vm_iotlb.specs.declared.permissions.Permissions.TheVariants.{Read}
use Rattle.vm_memory_core.specs.Window.{span}
use Rattle.vm_memory_core.proofs.Stores.{bytes_in-span}
use Rattle.vm_memory.specs.Layout.{Region, place}
use Rattle.vm_memory.specs.Memory.{Memory, addresses, bytes, located, location, number, reach}
use Rattle.vm_memory.proofs.Places.{located_in, bytes-located}
use Rattle.fs_queue.specs.declared.fault.ChainFault.TheVariants.{TableUnreachable}
use Rattle.fs_queue.specs.Records.{descriptor}
use Rattle.fs_queue.specs.Chain.{Descriptor, Visit, WalkStep, Faulty, Stops, descriptor_at, is_indirect, indirect_step, ordinary_step}
use Rattle.fs_queue.specs.Chain.{walk_step}
use Rattle.fs_queue.specs.Chain.{entry_address}
use Rattle.fs_queue.specs.Loads.{Load, holding, step_by, IsEntryOf}
use Rattle.fs_queue.proofs.ReadLemmas.{decoded, front_bytes, back_bytes, length-bytes}
use Rattle.fs_queue.proofs.TakeLemmas.{reach-range}

-- a memory of one load
abbrev pub memory_with : ℕ → Option (List ℕ) → Memory
memory_with a came = holding (record { address = a; came = came } ∷ [])

abbrev region : ℕ → List ℕ → Region
region a bs = record { start = a; size = length bs; block = 0 }

-- the places of what was loaded
places_with : (a : ℕ) (bs : List ℕ) → 0 < length bs → a + length bs < 2 ^ 64 →
    located (place (region a bs ∷ [])) (addresses a (length bs)) ≡ Some (span 0 0 None (length bs))
places_with a bs some fits =
    let none : a - a ≡ 0 = omega arith in
    let whole : a - a + length bs ≤ length bs = omega arith in
    rw none at (located_in (region a bs ∷ []) 0 a (length bs) (region a bs) (some, omega (arith, fits), tt, tt) (omega arith)
    (omega arith) whole)

-- each can be read
pub reach_with : (a : ℕ) (bs : List ℕ) → 0 < length bs → a + length bs < 2 ^ 64 → reach (memory_with a (Some bs)) Read a (length bs) ≡ true
reach_with a bs some fits = reach-range (memory_with a (Some bs)) Read a (length bs) fits ∙ ap is_some (places_with a bs some fits)

-- and they are what was loaded
pub bytes_with : (a : ℕ) (bs : List ℕ) → 0 < length bs → a + length bs < 2 ^ 64 → bytes (memory_with a (Some bs)) a (length bs) ≡ bs
bytes_with a bs some fits =
    bytes-located (addresses a (length bs)) (memory_with a (Some bs)) (span 0 0 None (length bs)) (places_with a bs some fits)
    ∙ bytes_in-span (memory_with a (Some bs)).host 0 (length bs) 0 None (record { bytes = bs; marks = [] }) refl (omega arith)
    ∙ take_all (length bs) bs (omega arith)

-- if nothing is, nothing can be read
pub reach_none : (a n : ℕ) → reach (memory_with a None) Read a (suc n) ≡ false
unfolding addresses place
reach_none a n = grind arith

-- an entry of a table depends on its bytes alone
same_entry : (m h : Memory) (a : ℕ) → bytes m a 16 ≡ bytes h a 16 → descriptor_at m a ≡ descriptor_at h a
same_entry m h a same =
    let p1 : bytes m a 8 ≡ bytes h a 8 = sym (front_bytes m a 8 8) ∙ ap (take 8) same ∙ front_bytes h a 8 8 in
    let back : bytes m (a + 8) 8 ≡ bytes h (a + 8) 8 = sym (back_bytes m a 8 8) ∙ ap (drop 8) same ∙ back_bytes h a 8 8 in
    let p2 : bytes m (a + 8) 4 ≡ bytes h (a + 8) 4 = sym (front_bytes m (a + 8) 4 4) ∙ ap (take 4) back ∙ front_bytes h (a + 8) 4 4 in
    let last : bytes m (a + 12) 4 ≡ bytes h (a + 12) 4 = sym (back_bytes m a 12 4) ∙ ap (drop 12) same ∙ back_bytes h a 12 4 in
    let p3 : bytes m (a + 12) 2 ≡ bytes h (a + 12) 2 = sym (front_bytes m (a + 12) 2 2) ∙ ap (take 2) last ∙ front_bytes h (a + 12) 2 2 in
    let p4 : bytes m (a + 14) 2 ≡ bytes h (a + 14) 2 = sym (back_bytes m a 14 2) ∙ ap (drop 14) same ∙ back_bytes h a 14 2 in
    let n1 : number m w64 a ≡ number h w64 a = ap (from_le_bytes w64) p1 in
    let n2 : number m w32 (a + 8) ≡ number h w32 (a + 8) = ap (from_le_bytes w32) p2 in
    let n3 : number m w16 (a + 12) ≡ number h w16 (a + 12) = ap (from_le_bytes w16) p3 in
    let n4 : number m w16 (a + 14) ≡ number h w16 (a + 14) = ap (from_le_bytes w16) p4 in
    cc

-- what a step comes to in a memory, by whether its entry can be read and what it is
abbrev pub step_at : (size : ℕ) → Visit → Option Descriptor → WalkStep
step_at size v None = if v.table.indirect then Faulty TableUnreachable else Stops
step_at size v (Some d) = if is_indirect d then indirect_step v d else ordinary_step size v d

step_reads : (m : Memory) (size : ℕ) (v : Visit) → v.index < v.table.entries →
    walk_step m size v ≡ step_at size v (if reach m Read (entry_address v) 16 then Some (descriptor_at m (entry_address v)) else None)
step_reads m size v inside =
    let in_table : nat_le v.table.entries v.index ≡ false = grind (arith, nat_tests) in
    rw in_table (by_reach (reach m Read (entry_address v) 16))
  where
    by_reach : (b : Bool) → (if not b then (if v.table.indirect then Faulty TableUnreachable else Stops)
        else if is_indirect (descriptor_at m (entry_address v)) then indirect_step v (descriptor_at m (entry_address v))
        else ordinary_step size v (descriptor_at m (entry_address v)))
        ≡ step_at size v (if b then Some (descriptor_at m (entry_address v)) else None)
    by_reach true = refl
    by_reach false = refl

-- a step by a load that found no place
pub step_lost :
    (size : ℕ) (v : Visit) → v.index < v.table.entries → walk_step (memory_with (entry_address v) None) size v ≡ step_at size v None
step_lost size v inside =
    let m = memory_with (entry_address v) None in
    step_reads m size v inside
    ∙ ap (λ b. step_at size v (if b then Some (descriptor_at m (entry_address v)) else None)) (reach_none (entry_address v) 15)

-- a step by bytes that came
step_came : (size : ℕ) (v : Visit) (bs : List ℕ) → v.index < v.table.entries → entry_address v + 16 < 2 ^ 64 → length bs ≡ 16 →
    let m = memory_with (entry_address v) (Some bs) in
    (bytes m (entry_address v) 16 ≡ bs) × (walk_step m size v ≡ step_at size v (Some (descriptor_at m (entry_address v))))
step_came size v bs inside fits len =
    let m = memory_with (entry_address v) (Some bs) in
    let some : 0 < length bs = omega (arith, len) in
    let ends : entry_address v + length bs < 2 ^ 64 = omega (arith, len, fits) in
    let there : reach m Read (entry_address v) 16 ≡ true =
    ap (λ n. reach m Read (entry_address v) n) (sym len) ∙ reach_with (entry_address v) bs some ends in (
      ap (λ n. bytes m (entry_address v) n) (sym len) ∙ bytes_with (entry_address v) bs some ends,
      step_reads m size v inside ∙ ap (λ b. step_at size v (if b then Some (descriptor_at m (entry_address v)) else None)) there,
    )

-- a step by the bytes that spell an entry
pub step_spelled :
    (size : ℕ) (v : Visit) (bs : List ℕ) (d : Descriptor) → v.index < v.table.entries → entry_address v + 16 < 2 ^ 64 → length bs ≡ 16 →
    bs ≡ spelled (descriptor d) → AllFit (descriptor d) →
    walk_step (memory_with (entry_address v) (Some bs)) size v ≡ step_at size v (Some d)
step_spelled size v bs d inside fits len is fit =
    let m = memory_with (entry_address v) (Some bs) in
    let came = step_came size v bs inside fits len in
    came.1 ∙ ap (λ (x : Descriptor). step_at size v (Some x)) (sym (decoded m (entry_address v) d (sym is ∙ sym came.0) fit))

still_at : (m : Memory) (size : ℕ) (v : Visit) (b : Bool) → v.index < v.table.entries → reach m Read (entry_address v) 16 ≡ b →
    walk_step (memory_with (entry_address v) (if b then Some (bytes m (entry_address v) 16) else None)) size v ≡ walk_step m size v
still_at m size v true inside there =
    let fits : entry_address v + 16 < 2 ^ 64 = ltb-true (entry_address v + 16) (2 ^ 64)
    (and_parts (nat_lt (entry_address v + 16) (2 ^ 64))
    (list_all (λ x. is_some (location m Read x)) (addresses (entry_address v) 16)) there).0 in
    let came = step_came size v (bytes m (entry_address v) 16) inside fits (length-bytes m (entry_address v) 16) in
    came.1 ∙ ap (λ (x : Descriptor). step_at size v (Some x))
    (same_entry (memory_with (entry_address v) (Some (bytes m (entry_address v) 16))) m (entry_address v) came.0)
    ∙ sym (step_reads m size v inside ∙ ap (λ b. step_at size v (if b then Some (descriptor_at m (entry_address v)) else None)) there)
still_at m size v false inside there =
    step_lost size v inside
    ∙ sym (step_reads m size v inside ∙ ap (λ b. step_at size v (if b then Some (descriptor_at m (entry_address v)) else None)) there)

-- a step by a load that found what a memory has is the memory's
pub step_still : (m : Memory) (size : ℕ) (v : Visit) (l : Load) → v.index < v.table.entries → l.address ≡ entry_address v → IsEntryOf m l →
    step_by size v l ≡ walk_step m size v
step_still m size v l inside at is =
    let came : l.came ≡ (if reach m Read (entry_address v) 16 then Some (bytes m (entry_address v) 16) else None) =
    is ∙ ap (λ a. if reach m Read a 16 then Some (bytes m a 16) else None) at in
    ap (λ a. walk_step (memory_with a l.came) size v) at
    ∙ ap (λ (o : Option (List ℕ)). walk_step (memory_with (entry_address v) o) size v) came
    ∙ still_at m size v (reach m Read (entry_address v) 16) inside refl
