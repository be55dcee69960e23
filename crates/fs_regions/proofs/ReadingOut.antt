-- entries that are read out of a stretch are the memory's
use Rattle.std.proofs.Common.{◌≡◌, ℕ, Bool, true, false, ◌+◌, ◌-◌, ◌^◌, ◌≤◌, ◌++◌, List, [], ◌∷◌, length, take, drop, Some, None, refl, ap}
use Rattle.std.proofs.Common.{sym, ◌∙◌, subst, arith}
use Rattle.std.specs.Prelude.{if◌then◌else◌, is_some, nat_lt, All}
use Rattle.std.specs.List.{list_all}
use Rattle.std.proofs.lemmas.Bool.{and_parts, ltb-true}
use Rattle.std.proofs.lemmas.List.Elements.{All-head, All-tail}
use Rattle.vm_iotlb.specs.declared.permissions.Permissions.TheVariants.{Read}
use Rattle.vm_memory.specs.Memory.{Memory, addresses, bytes, location, reach}
use Rattle.vm_memory.proofs.Places.{addresses-append}
use Rattle.fs_queue.specs.Loads.{Load, AreEntriesOf, IsEntryOf, IsLoadOf}
use Rattle.fs_queue.proofs.ReadLemmas.{back_bytes, front_bytes}
use Rattle.fs_queue.proofs.TakeLemmas.{list_all-append, reach-each}
use Rattle.fs_regions.specs.Laws.{ReadOutIsTheMemorys}
use Rattle.fs_regions.specs.Walks.{IsReadOut}

-- the end of a range that can be read
back_reaches : (m : Memory) (a j k : ℕ) → reach m Read a (j + k) ≡ true → reach m Read (a + j) k ≡ true
back_reaches m a j k there =
    let has : Memory → ℕ → Bool = λ n x. is_some (location n Read x) in
    let parts = and_parts (nat_lt (a + (j + k)) (2 ^ 64)) (list_all (has m) (addresses a (j + k))) there in
    let ends = ltb-true (a + (j + k)) (2 ^ 64) parts.0 in
    let split : list_all (has m) (addresses a (j + k)) ≡ list_all (has m) (addresses a j ++ addresses (a + j) k) =
    ap (list_all (has m)) (addresses-append j k a) in
    reach-each m Read (a + j) k (omega (arith, ends))
    ∙ (and_parts (list_all (has m) (addresses a j)) (list_all (has m) (addresses (a + j) k))
    (list_all-append (addresses a j) (addresses (a + j) k) (location m Read) ∙ sym split ∙ parts.1)).1

-- and its beginning
front_reaches : (m : Memory) (a j k : ℕ) → reach m Read a (j + k) ≡ true → reach m Read a j ≡ true
front_reaches m a j k there =
    let has : Memory → ℕ → Bool = λ n x. is_some (location n Read x) in
    let parts = and_parts (nat_lt (a + (j + k)) (2 ^ 64)) (list_all (has m) (addresses a (j + k))) there in
    let ends = ltb-true (a + (j + k)) (2 ^ 64) parts.0 in
    let split : list_all (has m) (addresses a (j + k)) ≡ list_all (has m) (addresses a j ++ addresses (a + j) k) =
    ap (list_all (has m)) (addresses-append j k a) in
    reach-each m Read a j (omega (arith, ends))
    ∙ (and_parts (list_all (has m) (addresses a j)) (list_all (has m) (addresses (a + j) k))
    (list_all-append (addresses a j) (addresses (a + j) k) (location m Read) ∙ sym split ∙ parts.1)).0

-- sixteen bytes of a range
sixteen_of : (m : Memory) (a n offset : ℕ) → offset + 16 ≤ n → reach m Read a n ≡ true →
    (reach m Read (a + offset) 16 ≡ true) × (bytes m (a + offset) 16 ≡ take 16 (drop offset (bytes m a n)))
sixteen_of m a n offset inside there =
    let rest = n - offset - 16 in
    let split : n ≡ offset + (16 + rest) = omega (arith, inside) in
    let all : reach m Read a (offset + (16 + rest)) ≡ true = ap (reach m Read a) (sym split) ∙ there in (
      front_reaches m (a + offset) 16 rest (back_reaches m a offset (16 + rest) all),
      sym (ap (λ k. take 16 (drop offset (bytes m a k))) split ∙ ap (take 16) (back_bytes m a offset (16 + rest))
          ∙ front_bytes m (a + offset) 16 rest),
    )

was_read : (m : Memory) (a : ℕ) (bs : List ℕ) (b : Bool) → Some bs ≡ (if b then Some (bytes m a (length bs)) else None) →
    (b ≡ true) × (bs ≡ bytes m a (length bs))
was_read m a bs true is = (refl, cc)
was_read m a bs false is = absurd (cc)

-- a load that is read out
load_is : (m : Memory) (from : ℕ) (bs : List ℕ) (l : Load) → IsLoadOf m (length bs) (record { address = from; came = Some bs }) →
    IsReadOut from bs l → IsEntryOf m l
load_is m from bs l stretch out =
    let had = was_read m from bs (reach m Read from (length bs)) stretch in
    let entry = sixteen_of m from (length bs) out.0 out.2 had.0 in
    let came : l.came ≡ Some (bytes m (from + out.0) 16) =
    out.3 ∙ ap (λ (x : List ℕ). Some (take 16 (drop out.0 x))) had.1 ∙ ap Some (sym entry.1) in
    let here : l.came ≡ (if reach m Read (from + out.0) 16 then Some (bytes m (from + out.0) 16) else None) =
    came ∙ sym (ap (λ (b : Bool). if b then Some (bytes m (from + out.0) 16) else None) entry.0) in
    subst (λ x. l.came ≡ (if reach m Read x 16 then Some (bytes m x 16) else None)) (sym out.1) here

all_are : (m : Memory) (from : ℕ) (bs : List ℕ) (ls : List Load) → IsLoadOf m (length bs) (record { address = from; came = Some bs }) →
    All (IsReadOut from bs) ls → AreEntriesOf m ls
all_are m from bs [] stretch all = tt
all_are m from bs (l ∷ ls) stretch all = (
  load_is m from bs l stretch (All-head (IsReadOut from bs) l ls all),
  all_are m from bs ls stretch (All-tail (IsReadOut from bs) l ls all),
)

pub read_out_is_the_memorys : ReadOutIsTheMemorys
read_out_is_the_memorys m from bs ls stretch out = all_are m from bs ls stretch out.each
