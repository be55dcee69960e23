-- the places that a return writes
use Rattle.std.proofs.Common.{◌≡◌, ◌+◌, ℕ, zero, suc, List, [], ◌∷◌, ◌++◌, length, map, take, ap, sym, refl, ◌∙◌, Option, Some, Ok}
use Rattle.std.proofs.Common.{Err, Result, append_assoc, arith}
use Rattle.std.specs.Prelude.{option_and_then, option_map}
use Rattle.std.specs.List.{filter_map, zip}
use Rattle.std.specs.Int.{w16, w32, to_le_bytes}
use Rattle.std.proofs.lemmas.List.{map-append, take_all}
use Rattle.std.proofs.lemmas.List.Elements.{filter_map-append}
use Rattle.vm_iotlb.specs.declared.permissions.Permissions.TheVariants.{Write}
use Rattle.vm_memory_core.specs.Host.{Place}
use Rattle.vm_memory_core.specs.Window.{places}
use Rattle.vm_memory.specs.Memory.{Memory, addresses, located, location}
use Rattle.fs_queue.specs.declared.chain.Chain.{Chain}
use Rattle.fs_queue.specs.Windows.{Taken}
use Rattle.fs_queue.specs.declared.fault.ChainFault.{ChainFault}
use Rattle.fs_queue.specs.Queue.{Queue, element_at, index_at}
use Rattle.fs_queue.specs.Returning.{next_position}
use Rattle.fs_queue.specs.Taking.{RequestAndRoom, IsRequest, CannotFetch, room_of}
use Rattle.fs_queue.specs.Windows.{HoldsChain, IsTaken, chain_places, used_addresses}
use Rattle.plain_machine.specs.MarkedPages.{returned_addresses}
use Rattle.fs_shared.specs.Replay.{written_places}

firsts : (a b : List ℕ) → map (λ (w : ℕ × ℕ). w.0) (zip a b) ≡ take (length b) a
firsts [] [] = refl
firsts [] (y ∷ b) = refl
firsts (x ∷ a) [] = refl
firsts (x ∷ a) (y ∷ b) = ap (λ (xs : List ℕ). x ∷ xs) (firsts a b)

length_addresses : (a n : ℕ) → length (addresses a n) ≡ n
unfolding addresses
length_addresses a zero = refl
length_addresses a (suc n) = ap suc (length_addresses (a + 1) n)

pub all_firsts : (a n : ℕ) (b : List ℕ) → length b ≡ n → map (λ (w : ℕ × ℕ). w.0) (zip (addresses a n) b) ≡ addresses a n
all_firsts a n b same =
    let long = length_addresses a n in
    firsts (addresses a n) b ∙ take_all (length b) (addresses a n) (omega (arith, long, same))

-- the addresses are those of the room that the reply takes, and of the used element and the used index
addresses_of_return :
    (q : Queue) (head : ℕ) (room reply : List ℕ) → returned_addresses q head room reply ≡ take (length reply) room ++ used_addresses q
addresses_of_return q head room reply =
    let element = zip (addresses (element_at q) 8) (to_le_bytes w32 head ++ to_le_bytes w32 (length reply)) in
    let index = zip (addresses (index_at q) 2) (to_le_bytes w16 (next_position q)) in
    map-append (λ (w : ℕ × ℕ). w.0) (zip room reply ++ element) index
    ∙ ap (λ (xs : List ℕ). xs ++ map (λ (w : ℕ × ℕ). w.0) index) (map-append (λ (w : ℕ × ℕ). w.0) (zip room reply) element)
    ∙ ap (λ (xs : List ℕ). (xs ++ map (λ (w : ℕ × ℕ). w.0) element) ++ map (λ (w : ℕ × ℕ). w.0) index) (firsts room reply)
    ∙ ap (λ (xs : List ℕ). (take (length reply) room ++ xs) ++ map (λ (w : ℕ × ℕ). w.0) index)
    (all_firsts (element_at q) 8 (to_le_bytes w32 head ++ to_le_bytes w32 (length reply)) refl)
    ∙ ap (λ (xs : List ℕ). (take (length reply) room ++ addresses (element_at q) 8) ++ xs)
    (all_firsts (index_at q) 2 (to_le_bytes w16 (next_position q)) refl)
    ∙ append_assoc (take (length reply) room) (addresses (element_at q) 8) (addresses (index_at q) 2)

-- ---- the places of addresses that have one each

by_first : (f : ℕ → Option Place) (n a : ℕ) (as' : List ℕ) (ps : List Place) →
    ((qs : List Place) → located f as' ≡ Some qs → filter_map f (take n as') ≡ take n qs) →
    (o : Option Place) → f a ≡ o → (l : Option (List Place)) → located f as' ≡ l →
    option_and_then (λ p. option_map (λ ps. p ∷ ps) l) o ≡ Some ps → filter_map f (take (suc n) (a ∷ as')) ≡ take (suc n) ps
by_first f n a as' ps rest (Some p) here (Some qs) there is =
    let all : p ∷ qs ≡ ps = cc in
    rw (← all, here) (ap (λ (xs : List Place). p ∷ xs) (rest qs there))
by_first f n a as' ps rest _ here _ there is = absurd (cc)

located_first :
    (f : ℕ → Option Place) (n : ℕ) (as' : List ℕ) (ps : List Place) → located f as' ≡ Some ps → filter_map f (take n as') ≡ take n ps
unfolding located
located_first f zero as' ps is = refl
located_first f (suc n) [] ps is =
    let none : [] ≡ ps = cc in
    rw (← none) refl
located_first f (suc n) (a ∷ as') ps is =
    by_first f n a as' ps (λ qs there. located_first f n as' qs there) (f a) refl (located f as') refl is

by_whole : (f : ℕ → Option Place) (a : ℕ) (as' : List ℕ) (ps : List Place) →
    ((qs : List Place) → located f as' ≡ Some qs → filter_map f as' ≡ qs) →
    (o : Option Place) → f a ≡ o → (l : Option (List Place)) → located f as' ≡ l →
    option_and_then (λ p. option_map (λ ps. p ∷ ps) l) o ≡ Some ps → filter_map f (a ∷ as') ≡ ps
by_whole f a as' ps rest (Some p) here (Some qs) there is =
    let all : p ∷ qs ≡ ps = cc in
    rw (← all, here) (ap (λ (xs : List Place). p ∷ xs) (rest qs there))
by_whole f a as' ps rest _ here _ there is = absurd (cc)

-- the places of addresses that each have one
pub whole : (f : ℕ → Option Place) (as' : List ℕ) (ps : List Place) → located f as' ≡ Some ps → filter_map f as' ≡ ps
unfolding located
whole f [] ps is =
    let none : [] ≡ ps = cc in
    none
whole f (a ∷ as') ps is = by_whole f a as' ps (λ qs there. whole f as' qs there) (f a) refl (located f as') refl is

of_room : (m : Memory) (n : ℕ) (fetched : RequestAndRoom) (c : Result Chain ChainFault) → HoldsChain m fetched c →
    filter_map (location m Write) (take n (room_of fetched)) ≡ take n (chain_places c)
of_room m n (IsRequest request room) (Ok c) holds = located_first (location m Write) n room (places c.writable.items) holds.1
of_room m zero (CannotFetch why) (Err fault) holds = refl
of_room m (suc n) (CannotFetch why) (Err fault) holds = refl
of_room m n (IsRequest request room) (Err fault) holds = absurd holds
of_room m n (CannotFetch why) (Ok c) holds = absurd holds

-- a return writes these places
pub places_of_return : (m : Memory) (q : Queue) (fetched : RequestAndRoom) (t : Taken) (head : ℕ) (reply : List ℕ) → IsTaken m q fetched t →
    length (places t.return_windows.used.items) ≡ 10 →
    written_places m (returned_addresses q head (room_of fetched) reply) ≡ take (length reply) (chain_places t.chain)
    ++ take 10 (places t.return_windows.used.items)
places_of_return m q fetched t head reply is ten =
    let f = location m Write in
    let used = places t.return_windows.used.items in
    ap (filter_map f) (addresses_of_return q head (room_of fetched) reply)
    ∙ filter_map-append f (take (length reply) (room_of fetched)) (used_addresses q)
    ∙ ap (λ (xs : List Place). xs ++ filter_map f (used_addresses q)) (of_room m (length reply) fetched t.chain is.chain)
    ∙ ap (λ (xs : List Place). take (length reply) (chain_places t.chain) ++ xs)
    (whole f (used_addresses q) used is.return_windows.used ∙ sym (take_all 10 used (omega (arith, ten))))
