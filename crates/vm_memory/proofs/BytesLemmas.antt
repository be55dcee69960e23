-- accesses to bytes, by the places that they reach
use Rattle.std.proofs.Common.{◌≡◌, ℕ, true, false, ◌≤◌, ◌++◌, List, [], ◌∷◌, length, take, drop, map, refl, ap, sym, ◌∙◌, arith, suc, Some}
use Rattle.std.proofs.Common.{None, inl, inr}
use Rattle.std.specs.Prelude.{◌==◌, if◌then◌else◌, is_some, Result, Ok, Err}
use Rattle.std.specs.List.{zip}
use Rattle.std.proofs.lemmas.Bool.{cases_eq}
use Rattle.std.proofs.lemmas.Bool.Decides.{nat_tests}
use Rattle.vm_values.specs.declared.address.GuestAddress.{GuestAddress}
use Rattle.vm_iotlb.specs.declared.permissions.Permissions.{Permissions}
use Rattle.vm_iotlb.specs.declared.permissions.Permissions.TheVariants.{Read, Write}
use Rattle.vm_memory_core.specs.Host.{Host, Place}
use Rattle.vm_memory_core.specs.Window.{byte_in, put_all}
use Rattle.vm_memory_core.specs.Access.{count_of, in_full, read_over, written_over, ReadsSome, ReadsAll, WritesSome, WritesAll}
use Rattle.vm_memory.specs.Layout.{Region, place}
use Rattle.vm_memory.specs.Memory.{Memory, memory_of, circular, located, location, reached, byte, stored_all, transferred}
use Rattle.vm_memory.specs.Bytes.{MayReach, and_after, places_at, reached_by, reached_from, unless_none}
use Rattle.vm_memory.specs.RangeAnswers.{CannotGive}
use Rattle.vm_memory.specs.ReachedBytesProof.{length-places_at}
use Rattle.vm_memory.specs.declared.error.GuestMemoryError.{GuestMemoryError}
use Rattle.vm_memory.specs.declared.error.GuestMemoryError.TheVariants.{InvalidGuestAddress, PartialBuffer}
use Rattle.vm_memory.proofs.Places.{Where, bytes-located, stored_all-zip, length-circular}

-- as many as are reached
pub count-places_at : (xs : List ℕ) (f : Where) → length (places_at f xs) ≡ reached f xs
unfolding places_at reached
count-places_at [] f = refl
count-places_at (a ∷ xs) f =
    elim (f a) as (λ o. length (and_after o (places_at f xs)) ≡ (if is_some o then suc (reached f xs) else 0)) [
      | None ↦ refl
      | Some p ↦ ap suc (count-places_at xs f)
    ]

-- those that are reached have these places
pub located-reached : (xs : List ℕ) (f : Where) → located f (take (reached f xs) xs) ≡ Some (places_at f xs)
unfolding places_at reached located
located-reached [] f = refl
located-reached (a ∷ xs) f =
    elim (f a) as (λ o. f a ≡ o →
    located f (take (if is_some o then suc (reached f xs) else 0) (a ∷ xs)) ≡ Some (and_after o (places_at f xs))) [
      | None ↦ λ e. refl
      | Some p ↦ λ e. rw (e, located-reached xs f)
    ] refl

abbrev pub asked : GuestAddress → ℕ → ℕ → Result ℕ GuestMemoryError
asked addr n done = if n == 0 then Ok 0 else if done == 0 then Err (InvalidGuestAddress addr) else Ok done

-- what a transfer answers is how many places are reached
pub some-count : (addr : GuestAddress) (n done : ℕ) (ps : List Place) → done ≡ length ps → length ps ≤ n →
    asked addr n done ≡ count_of (unless_none addr n ps)
some-count addr n done [] e h =
    ap (asked addr n) e ∙ elim (n == 0) as (λ b. (if b then Ok 0 else Err (InvalidGuestAddress addr))
    ≡ count_of (if b then Ok [] else Err (InvalidGuestAddress addr))) [ true ↦ refl | false ↦ refl ]
some-count addr n done (p ∷ ps) e h =
    let some : (n == 0) ≡ false = grind (arith, nat_tests) in
    let there : (done == 0) ≡ false = grind (arith, nat_tests) in
    rw (some, there) (ap Ok e)

-- what a whole transfer answers
pub all-count : (addr : GuestAddress) (n done : ℕ) (ps : List Place) → done ≡ length ps → length ps ≤ n →
    transferred addr n done ≡ in_full (λ n k. PartialBuffer n k) n (unless_none addr n ps)
all-count addr n done [] e h =
    elim (cases_eq n 0) [
      | inl none ↦
          let all : (done == n) ≡ true = grind (arith, nat_tests) in
          let zero_asked : (n == 0) ≡ true = grind (arith, nat_tests) in
          let zero_there : (0 == n) ≡ true = grind (arith, nat_tests) in
          rw (all, zero_asked, zero_there)
      | inr some ↦
          let part : (done == n) ≡ false = grind (arith, nat_tests) in
          let none : (done == 0) ≡ true = grind (arith, nat_tests) in
          let asked_some : (n == 0) ≡ false = grind (arith, nat_tests) in
          rw (part, none, asked_some)
    ]
all-count addr n done (p ∷ ps) e h =
    let there : (done == 0) ≡ false = grind (arith, nat_tests) in
    rw there (ap (λ k. if k == n then Ok tt else Err (PartialBuffer n k)) e)

over_places : (h : Host) (addr : GuestAddress) (n : ℕ) (ps : List Place) (old : List ℕ) →
    map (byte_in h) ps ++ drop (length ps) old ≡ read_over h (unless_none addr n ps) old
over_places h addr n [] old =
    elim (n == 0) as (λ b. old ≡ read_over h (if b then Ok [] else Err (InvalidGuestAddress addr)) old) [ true ↦ refl | false ↦ refl ]
over_places h addr n (p ∷ ps) old = refl

-- what was read
pub read-reached : (m : Memory) (addr : GuestAddress) (n : ℕ) (xs old : List ℕ) →
    map (byte m) (take (reached (location m Read) xs) xs) ++ drop (reached (location m Read) xs) old
    ≡ read_over m.host (unless_none addr n (places_at (location m Read) xs)) old
read-reached m addr n xs old =
    let count = count-places_at xs (location m Read) in
    let got = bytes-located (take (reached (location m Read) xs) xs) m (places_at (location m Read) xs)
    (located-reached xs (location m Read)) in
    ap (λ (l : List ℕ). l ++ drop (reached (location m Read) xs) old) got
    ∙ ap (λ k. map (byte_in m.host) (places_at (location m Read) xs) ++ drop k old) (sym count)
    ∙ over_places m.host addr n (places_at (location m Read) xs) old

put_places : (h : Host) (addr : GuestAddress) (n : ℕ) (ps : List Place) (bytes : List ℕ) →
    put_all h (zip ps bytes) ≡ written_over h (unless_none addr n ps) bytes
unfolding put_all
put_places h addr n [] bytes =
    elim (n == 0) as (λ b. h ≡ written_over h (if b then Ok [] else Err (InvalidGuestAddress addr)) bytes) [ true ↦ refl | false ↦ refl ]
put_places h addr n (p ∷ ps) bytes = refl

-- what was stored
pub stored-placed : (l : List Region) (old new : Host) (xs bytes : List ℕ) →
    memory_of new l ≡ stored_all (memory_of old l) (zip (take (reached (place l) xs) xs) bytes) →
    new ≡ put_all old (zip (places_at (place l) xs) bytes)
stored-placed l old new xs bytes e =
    ap (λ (m : Memory). m.host)
    (e ∙ stored_all-zip (take (reached (place l) xs) xs) (places_at (place l) xs) bytes l old (located-reached xs (place l)))

places_le : (f : Where) (addr n : ℕ) → length (places_at f (circular addr n)) ≤ n
places_le f addr n =
    let all = length-places_at (circular addr n) f in
    let count = length-circular n addr in
    omega (arith, all, count)

abbrev Reaching : Type 1
Reaching = Result (List Place) GuestMemoryError → Type 0

-- ---- the four accesses to a memory

pub reads_some_of : (m : Memory) (Reaches : Reaching) (addr : GuestAddress) (old new : List ℕ) (done : ℕ)
    (result : Result ℕ GuestMemoryError) → Reaches (reached_from m Read addr (length old)) →
    done ≡ reached (location m Read) (circular addr.0 (length old)) →
    new ≡ map (byte m) (take done (circular addr.0 (length old))) ++ drop done old → result ≡ asked addr (length old) done →
    ReadsSome Reaches m.host old new result
reads_some_of m Reaches addr old new done result may count got is =
    let xs : List ℕ = circular addr.0 (length old) in
    let f : Where = location m Read in
    record {
      places = reached_from m Read addr (length old);
      may = may;
      count = is ∙ some-count addr (length old) done (places_at f xs) (count ∙ sym (count-places_at xs f))
          (places_le f addr.0 (length old));
      bytes = got ∙ ap (λ k. map (byte m) (take k xs) ++ drop k old) count ∙ read-reached m addr (length old) xs old;
    }

pub reads_all_of :
    (m : Memory) (Reaches : Reaching) (addr : GuestAddress) (old new : List ℕ) (done : ℕ) (result : Result (Unit {0}) GuestMemoryError) →
    Reaches (reached_from m Read addr (length old)) →
    done ≡ reached (location m Read) (circular addr.0 (length old)) →
    new ≡ map (byte m) (take done (circular addr.0 (length old))) ++ drop done old → result ≡ transferred addr (length old) done →
    ReadsAll Reaches (λ n k. PartialBuffer n k) m.host old new result
reads_all_of m Reaches addr old new done result may count got is =
    let xs : List ℕ = circular addr.0 (length old) in
    let f : Where = location m Read in
    record {
      places = reached_from m Read addr (length old);
      may = may;
      outcome = is ∙ all-count addr (length old) done (places_at f xs) (count ∙ sym (count-places_at xs f))
          (places_le f addr.0 (length old));
      bytes = got ∙ ap (λ k. map (byte m) (take k xs) ++ drop k old) count ∙ read-reached m addr (length old) xs old;
    }

pub writes_some_of :
    (m : Memory) (Reaches : Reaching) (new : Host) (addr : GuestAddress) (bytes : List ℕ) (done : ℕ) (result : Result ℕ GuestMemoryError) →
    Reaches (reached_from m Write addr (length bytes)) →
    done ≡ reached (location m Write) (circular addr.0 (length bytes)) →
    new ≡ put_all m.host (zip (places_at (location m Write) (circular addr.0 (length bytes))) bytes) →
    result ≡ asked addr (length bytes) done →
    WritesSome Reaches bytes m.host new result
writes_some_of m Reaches new addr bytes done result may count put is =
    let xs : List ℕ = circular addr.0 (length bytes) in
    let f : Where = location m Write in
    record {
      places = reached_from m Write addr (length bytes);
      may = may;
      count = is ∙ some-count addr (length bytes) done (places_at f xs) (count ∙ sym (count-places_at xs f))
          (places_le f addr.0 (length bytes));
      stored = put ∙ put_places m.host addr (length bytes) (places_at f xs) bytes;
    }

pub writes_all_of : (m : Memory) (Reaches : Reaching) (new : Host) (addr : GuestAddress) (bytes : List ℕ) (done : ℕ)
    (result : Result (Unit {0}) GuestMemoryError) →
    Reaches (reached_from m Write addr (length bytes)) → done ≡ reached (location m Write) (circular addr.0 (length bytes)) →
    new ≡ put_all m.host (zip (places_at (location m Write) (circular addr.0 (length bytes))) bytes) →
    result ≡ transferred addr (length bytes) done →
    WritesAll Reaches (λ n k. PartialBuffer n k) bytes m.host new result
writes_all_of m Reaches new addr bytes done result may count put is =
    let xs : List ℕ = circular addr.0 (length bytes) in
    let f : Where = location m Write in
    record {
      places = reached_from m Write addr (length bytes);
      may = may;
      outcome = is ∙ all-count addr (length bytes) done (places_at f xs) (count ∙ sym (count-places_at xs f))
          (places_le f addr.0 (length bytes));
      stored = put ∙ put_places m.host addr (length bytes) (places_at f xs) bytes;
    }

-- ---- the same of addresses that aren't translated

pub reads_some : (l : List Region) (h : Host) (addr : GuestAddress) (old new : List ℕ) (done : ℕ) (result : Result ℕ GuestMemoryError) →
    done ≡ reached (place l) (circular addr.0 (length old)) →
    new ≡ map (byte (memory_of h l)) (take done (circular addr.0 (length old))) ++ drop done old → result ≡ asked addr (length old) done →
    ReadsSome (λ places. places ≡ reached_by l addr (length old)) h old new result
reads_some l h addr old new done result count got is =
    reads_some_of (memory_of h l) (λ places. places ≡ reached_by l addr (length old)) addr old new done result refl count got is

pub reads_all : (l : List Region) (h : Host) (addr : GuestAddress) (old new : List ℕ) (result : Result (Unit {0}) GuestMemoryError) →
    (let xs = circular addr.0 (length old) in let n = reached (place l) xs in new ≡ map (byte (memory_of h l)) (take n xs) ++ drop n old) →
    result ≡ transferred addr (length old) (reached (place l) (circular addr.0 (length old))) →
    ReadsAll (λ places. places ≡ reached_by l addr (length old)) (λ n k. PartialBuffer n k) h old new result
reads_all l h addr old new result got is =
    reads_all_of (memory_of h l) (λ places. places ≡ reached_by l addr (length old)) addr old new
    (reached (place l) (circular addr.0 (length old))) result refl refl got is

pub writes_some :
    (l : List Region) (old new : Host) (addr : GuestAddress) (bytes : List ℕ) (done : ℕ) (result : Result ℕ GuestMemoryError) →
    done ≡ reached (place l) (circular addr.0 (length bytes)) →
    memory_of new l ≡ stored_all (memory_of old l) (zip (take done (circular addr.0 (length bytes))) bytes) →
    result ≡ asked addr (length bytes) done →
    WritesSome (λ places. places ≡ reached_by l addr (length bytes)) bytes old new result
writes_some l old new addr bytes done result count put is =
    let xs : List ℕ = circular addr.0 (length bytes) in
    writes_some_of (memory_of old l) (λ places. places ≡ reached_by l addr (length bytes)) new addr bytes done result refl count
    (stored-placed l old new xs bytes (put ∙ ap (λ k. stored_all (memory_of old l) (zip (take k xs) bytes)) count)) is

pub writes_all : (l : List Region) (old new : Host) (addr : GuestAddress) (bytes : List ℕ) (result : Result (Unit {0}) GuestMemoryError) →
    (let xs = circular addr.0 (length bytes) in
    memory_of new l ≡ stored_all (memory_of old l) (zip (take (reached (place l) xs) xs) bytes)) →
    result ≡ transferred addr (length bytes) (reached (place l) (circular addr.0 (length bytes))) →
    WritesAll (λ places. places ≡ reached_by l addr (length bytes)) (λ n k. PartialBuffer n k) bytes old new result
writes_all l old new addr bytes result put is =
    let xs : List ℕ = circular addr.0 (length bytes) in
    writes_all_of (memory_of old l) (λ places. places ≡ reached_by l addr (length bytes)) new addr bytes (reached (place l) xs) result refl
    refl (stored-placed l old new xs bytes put) is

-- ---- accesses that are refused

pub refused_read : (m : Memory) (access : Permissions) (addr : GuestAddress) (old : List ℕ) (e : GuestMemoryError) →
    CannotGive m access addr.0 (length old) e →
    (result : Result ℕ GuestMemoryError) → result ≡ Err e → ReadsSome (MayReach m access addr (length old)) m.host old old result
refused_read m access addr old e cannot result is = record { places = Err e; may = inr cannot; count = is; bytes = refl }

pub refused_read_slice : (m : Memory) (access : Permissions) (addr : GuestAddress) (old : List ℕ) (e : GuestMemoryError) →
    CannotGive m access addr.0 (length old) e →
    (result : Result (Unit {0}) GuestMemoryError) → result ≡ Err e →
    ReadsAll (MayReach m access addr (length old)) (λ n k. PartialBuffer n k) m.host old old result
refused_read_slice m access addr old e cannot result is = record { places = Err e; may = inr cannot; outcome = is; bytes = refl }

pub refused_write : (m : Memory) (access : Permissions) (addr : GuestAddress) (bytes : List ℕ) (e : GuestMemoryError) →
    CannotGive m access addr.0 (length bytes) e →
    (result : Result ℕ GuestMemoryError) → result ≡ Err e → WritesSome (MayReach m access addr (length bytes)) bytes m.host m.host result
refused_write m access addr bytes e cannot result is = record { places = Err e; may = inr cannot; count = is; stored = refl }

pub refused_write_slice : (m : Memory) (access : Permissions) (addr : GuestAddress) (bytes : List ℕ) (e : GuestMemoryError) →
    CannotGive m access addr.0 (length bytes) e →
    (result : Result (Unit {0}) GuestMemoryError) → result ≡ Err e →
    WritesAll (MayReach m access addr (length bytes)) (λ n k. PartialBuffer n k) bytes m.host m.host result
refused_write_slice m access addr bytes e cannot result is = record { places = Err e; may = inr cannot; outcome = is; stored = refl }
