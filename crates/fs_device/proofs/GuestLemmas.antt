-- what a guest reads and writes of its own memory
use Rattle.std.proofs.Common.{◌≡◌, ℕ, Bool, true, false, ◌+◌, ◌^◌, ◌<◌, nat_lt, eqb, List, [], ◌∷◌, ◌++◌, Some, None, length, map, is_some}
use Rattle.std.proofs.Common.{take, drop, zip, append-nil, ap, sym, ◌∙◌, refl, arith}
use Rattle.std.specs.List.{list_all}
use Rattle.std.proofs.lemmas.Bool.{and_parts, eqb-true, lt-ltb, ltb-true}
use Rattle.std.proofs.lemmas.List.{take_all, drop_all}
use Rattle.vm_iotlb.specs.declared.permissions.Permissions.{Permissions}
use Rattle.vm_iotlb.specs.declared.permissions.Permissions.TheVariants.{Read, Write}
use Rattle.vm_memory_core.specs.Host.{Host}
use Rattle.vm_memory_core.specs.Window.{put_byte}
use Rattle.vm_memory.specs.Layout.{Region, place}
use Rattle.vm_memory.specs.Memory.{Memory, memory_of, memory_behind, addresses, circular, reached, reach, byte, bytes, stored_all}
use Rattle.vm_memory.specs.Memory.{stored_at}
use Rattle.vm_memory.proofs.Places.{circular-is, length-circular, length-addresses, list_all-reached}
use Rattle.plain_machine.specs.Run.{guest_written}

pub reach_fits : (h : Host) (l : List Region) (access : Permissions) (a n : ℕ) → a + n < 2 ^ 64 →
    list_all (λ (x : ℕ). is_some (place l x)) (circular a n) ≡ reach (memory_of h l) access a n
reach_fits h l access a n fits = rw (lt-ltb (a + n) (2 ^ 64) fits, circular-is n a fits) refl

-- a range that is reached ends below 2^64
pub reach_ends : (h : Host) (l : List Region) (access : Permissions) (a n : ℕ) → reach (memory_of h l) access a n ≡ true → a + n < 2 ^ 64
reach_ends h l access a n all = ltb-true (a + n) (2 ^ 64) (and_parts (nat_lt (a + n) (2 ^ 64)) _ all).0

-- a range is reached where each of its addresses is
reach-is :
    (h : Host) (l : List Region) (a n : ℕ) → a + n < 2 ^ 64 → reach (memory_of h l) Read a n ≡ eqb (reached (place l) (circular a n)) n
reach-is h l a n fits =
    rw (lt-ltb (a + n) (2 ^ 64) fits) (list_all-reached (addresses a n) (place l)
    ∙ ap (eqb (reached (place l) (addresses a n))) (length-addresses n a)
    ∙ ap (λ (xs : List ℕ). eqb (reached (place l) xs) n) (sym (circular-is n a fits)))

-- a buffer that was read to its end
read_all : (m : Memory) (a n k : ℕ) (old new : List ℕ) → a + n < 2 ^ 64 → length old ≡ n → k ≡ n →
    new ≡ map (byte m) (take k (circular a n)) ++ drop k old → new ≡ bytes m a n
read_all m a n k old new fits size all is =
    let front : take k (circular a n) ≡ addresses a n =
    take_all k (circular a n) (omega (arith, length-circular n a)) ∙ circular-is n a fits in
    let back : drop k old ≡ [] = drop_all k old (omega arith) in
    is ∙ rw (front, back) (append-nil (map (byte m) (addresses a n)))

-- all of it was done
all_reached : (h : Host) (l : List Region) (a n : ℕ) → reach (memory_of h l) Read a n ≡ true → reached (place l) (circular a n) ≡ n
all_reached h l a n all = eqb-true _ _ (sym (reach-is h l a n (reach_ends h l Read a n all)) ∙ all)

pub filled : (h : Host) (l : List Region) (a n : ℕ) (old new : List ℕ) → length old ≡ n → reach (memory_of h l) Read a n ≡ true →
    new ≡ map (byte (memory_of h l)) (take (reached (place l) (circular a n)) (circular a n))
    ++ drop (reached (place l) (circular a n)) old →
    new ≡ bytes (memory_of h l) a n
filled h l a n old new size all is = read_all (memory_of h l) a n _ old new (reach_ends h l Read a n all) size (all_reached h l a n all) is

-- the host after writes, whatever table isn't used
pub stores_alike : (h : Host) (l : List Region) (table set : ℕ) (writes : List (ℕ × ℕ)) →
    (stored_all (memory_of h l) writes).host ≡ (stored_all (memory_behind h l table set false) writes).host
unfolding stored_all
stores_alike h l table set [] = refl
stores_alike h l table set (write ∷ writes) =
    elim (place l write.0) as (λ o. (stored_all (stored_at (memory_of h l) write.1 o) writes).host
    ≡ (stored_all (stored_at (memory_behind h l table set false) write.1 o) writes).host) [
      | None ↦ stores_alike h l table set writes
      | Some p ↦ stores_alike (put_byte h p write.1) l table set writes
    ]

pub written :
    (h h' : Host) (l : List Region) (table set : ℕ) (on : Bool) (a : ℕ) (bs : List ℕ) → reach (memory_of h l) Write a (length bs) ≡ true →
    memory_of h' l ≡ stored_all (memory_of h l) (zip (take (reached (place l) (circular a (length bs))) (circular a (length bs))) bs) →
    memory_behind h' l table set on ≡ guest_written (memory_behind h l table set on) a bs
written h h' l table set on a bs all is =
    let n = length bs in
    let whole : take (reached (place l) (circular a n)) (circular a n) ≡ addresses a n =
    ap (λ (k : ℕ). take k (circular a n)) (all_reached h l a n all) ∙ take_all n (circular a n) (omega (arith, length-circular n a))
    ∙ circular-is n a (reach_ends h l Write a n all) in
    let host : h' ≡ (stored_all (memory_of h l) (zip (addresses a n) bs)).host =
    ap (λ (m : Memory). m.host) is ∙ ap (λ (as' : List ℕ). (stored_all (memory_of h l) (zip as' bs)).host) whole in
    ap (λ (x : Host). memory_behind x l table set on) (host ∙ stores_alike h l table set (zip (addresses a n) bs))
