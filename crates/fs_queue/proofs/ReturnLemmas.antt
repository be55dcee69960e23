-- the stores of a return are the writes at their addresses
use Rattle.std.proofs.Common.{◌≡◌, ℕ, ◌+◌, [], ◌∷◌, ◌++◌, List, length, map, drop, append_assoc, append-nil, length-append, arith, refl, ap}
use Rattle.std.proofs.Common.{sym, ◌∙◌, Ok, Err, Option, Some, None}
use Rattle.std.specs.Prelude.{Result}
use Rattle.std.specs.List.{zip}
use Rattle.std.proofs.lemmas.List.{take_at, drop_at}
use Rattle.std.specs.Int.{w16, w32, to_le_bytes}
use Rattle.vm_iotlb.specs.declared.permissions.Permissions.TheVariants.{Read, Write}
use Rattle.vm_iotlb.specs.declared.range.IotlbRange.{IotlbRange}
use Rattle.vm_memory_core.specs.Host.{Host, IoAddress, Place}
use Rattle.vm_memory_core.specs.Window.{Window, places, byte_in, put_byte, put_all}
use Rattle.vm_memory_core.proofs.WindowLemmas.{zip-append}
use Rattle.vm_memory.specs.Memory.{Memory, addresses, located, location, stored_at, stored_all, bytes}
use Rattle.vm_memory.proofs.Places.{parts, length-addresses, stored_all-append, bytes-located, put_none, addresses-append}
use Rattle.fs_queue.specs.declared.chain.Chain.{Chain}
use Rattle.fs_queue.specs.declared.returning.Return.{Return}
use Rattle.fs_queue.specs.declared.fault.ChainFault.{ChainFault}
use Rattle.fs_queue.specs.Queue.{Queue, element_at, index_at}
use Rattle.fs_queue.specs.Taking.{RequestAndRoom, IsRequest, CannotFetch, room_of}
use Rattle.fs_queue.specs.Returning.{next_position, returned, used_bytes, wants_notice, notifies, Store, stores_after_reply}
use Rattle.fs_queue.specs.Returning.{ReturnsByStores}
use Rattle.fs_queue.specs.ReturningView.{put_back, stores_of}
use Rattle.fs_queue.specs.Windows.{Taken, HoldsChain, IsTaken, chain_places, used_addresses}

-- a memory over another host
abbrev pub over : Memory → Host → Memory
over m h = record m { host = h }

-- ---- stores keep tables, so each address stays where it is

with_tables : (h : Host) (p : Place) (x : ℕ) (io : Option IoAddress) → p.io ≡ io → (put_byte h p x).tables ≡ h.tables
with_tables h p x None e = rw e refl
with_tables h p x (Some a) e = rw e refl

put_tables : (h : Host) (p : Place) (x : ℕ) → (put_byte h p x).tables ≡ h.tables
put_tables h p x = with_tables h p x p.io refl

pub all_tables : (ws : List (Place × ℕ)) (h : Host) → (put_all h ws).tables ≡ h.tables
unfolding put_all
all_tables [] h = refl
all_tables (w ∷ ws) h = all_tables ws (put_byte h w.0 w.1) ∙ put_tables h w.0 w.1

pub same_location : (m : Memory) (h : Host) → h.tables ≡ m.host.tables → location (over m h) ≡ location m
same_location m h e = ap (λ (t : List (List IotlbRange)). location (over m (record h { tables = t }))) e

stored_one : (a x : ℕ) (as' xs : List ℕ) (ps qs : List Place) (p : Place) (m : Memory) → location m Write a ≡ Some p → ps ≡ p ∷ qs →
    stored_all (over m (put_byte m.host p x)) (zip as' xs) ≡ over m (put_all (put_byte m.host p x) (zip qs xs)) →
    stored_all m (zip (a ∷ as') (x ∷ xs)) ≡ over m (put_all m.host (zip ps (x ∷ xs)))
unfolding stored_all put_all
stored_one a x as' xs ps qs p m at is ih =
    ap (λ (o : Option Place). stored_all (stored_at m x o) (zip as' xs)) at ∙ ih
    ∙ sym (ap (λ (rs : List Place). over m (put_all m.host (zip rs (x ∷ xs)))) is)

-- stores at addresses are stores at their places
pub stored_located : (as' : List ℕ) (ps : List Place) (xs : List ℕ) (m : Memory) → located (location m Write) as' ≡ Some ps →
    stored_all m (zip as' xs) ≡ over m (put_all m.host (zip ps xs))
unfolding located stored_all put_all
stored_located [] ps xs m e = let none : [] ≡ ps = cc in rw (← none)
stored_located (a ∷ as') ps [] m e = ap (over m) (put_none ps m.host)
stored_located (a ∷ as') ps (x ∷ xs) m e =
    let s = parts (location m Write a) (located (location m Write) as') ps e in
    let kept = same_location m (put_byte m.host s.0 x) (put_tables m.host s.0 x) in
    stored_one a x as' xs ps s.1 s.0 m s.2 s.4
    (stored_located as' s.1 xs (over m (put_byte m.host s.0 x)) (ap (λ f. located (f Write) as') kept ∙ s.3))

-- ---- the stores of a return

room_stored : (m : Memory) (reply : List ℕ) (fetched : RequestAndRoom) (chain : Result Chain ChainFault) → HoldsChain m fetched chain →
    stored_all m (zip (room_of fetched) reply) ≡ over m (put_all m.host (zip (chain_places chain) reply))
unfolding stored_all put_all
room_stored m reply (IsRequest request room) (Ok c) held = stored_located room (places c.writable.items) reply m held.1
room_stored m reply (CannotFetch why) (Err fault) held = refl
room_stored m reply _ _ held = absurd held

-- a store through windows that were held before
stored_held : (m : Memory) (h h' : Host) (as' xs : List ℕ) (ws vs : List Window) → h.tables ≡ m.host.tables →
    located (location m Write) as' ≡ Some (places vs) →
    ws ≡ vs → h' ≡ put_all h (zip (places ws) xs) → stored_all (over m h) (zip as' xs) ≡ over m h'
stored_held m h h' as' xs ws vs kept at e is =
    stored_located as' (places vs) xs (over m h) (ap (λ f. located (f Write) as') (same_location m h kept) ∙ at)
    ∙ ap (over m) (ap (λ (v : List Window). put_all h (zip (places v) xs)) (sym e) ∙ sym is)

-- the used element and the used index at their addresses, at once
zip_used : (a b x y : List ℕ) → length a ≡ length x → zip (a ++ b) (x ++ y) ≡ zip a x ++ zip b y
zip_used a b x y e =
    zip-append a b (x ++ y) (length x) (omega (arith, e, length-append x y))
    ∙ ap (λ (l : List ℕ). zip a l ++ zip b (drop (length x) (x ++ y))) (take_at x y (length x) refl)
    ∙ ap (λ (l : List ℕ). zip a x ++ zip b l) (drop_at x y (length x) refl)

pub returned_is : (m : Memory) (h0 h1 h2 : Host) (q : Queue) (fetched : RequestAndRoom) (t : Taken) (reply bytes : List ℕ)
    (ws : List Window) → m.host ≡ h0 → IsTaken m q fetched t →
    h1 ≡ put_all h0 (zip (chain_places t.chain) reply) →
    ws ≡ t.return_windows.used.items → bytes ≡ to_le_bytes w32 t.head ++ to_le_bytes w32 (length reply)
    ++ to_le_bytes w16 (next_position q) → h2 ≡ put_all h1 (zip (places ws) bytes) →
    over m h2 ≡ returned m q t.head (room_of fetched) reply
returned_is m h0 h1 h2 q fetched t reply bytes ws host taken a e1 e2 b =
    let room : List (ℕ × ℕ) = zip (room_of fetched) reply in
    let element : List ℕ = to_le_bytes w32 t.head ++ to_le_bytes w32 (length reply) in
    let index : List ℕ = to_le_bytes w16 (next_position q) in
    let at_used : List (ℕ × ℕ) = zip (used_addresses q) bytes in
    let stored : h1 ≡ put_all m.host (zip (chain_places t.chain) reply) =
    a ∙ ap (λ (h : Host). put_all h (zip (chain_places t.chain) reply)) (sym host) in
    let t1 : h1.tables ≡ m.host.tables = ap (λ (h : Host). h.tables) stored ∙ all_tables (zip (chain_places t.chain) reply) m.host in
    let first : stored_all m room ≡ over m h1 = room_stored m reply fetched t.chain taken.chain ∙ ap (over m) (sym stored) in
    let second : stored_all (over m h1) at_used ≡ over m h2 =
    stored_held m h1 h2 (used_addresses q) bytes ws t.return_windows.used.items t1 taken.return_windows.used e1 b in
    let cut : at_used ≡ zip (addresses (element_at q) 8) element ++ zip (addresses (index_at q) 2) index =
    ap (zip (used_addresses q)) e2
    ∙ zip_used (addresses (element_at q) 8) (addresses (index_at q) 2) element index (length-addresses 8 (element_at q)) in
    let joined : room ++ zip (addresses (element_at q) 8) element ++ zip (addresses (index_at q) 2) index ≡ room ++ at_used =
    append_assoc room (zip (addresses (element_at q) 8) element) (zip (addresses (index_at q) 2) index)
    ∙ ap (λ (l : List (ℕ × ℕ)). room ++ l) (sym cut) in
    sym (ap (stored_all m) joined
    ∙ stored_all-append room at_used m
    ∙ ap (λ (n : Memory). stored_all n at_used) first ∙ second)

pub notice_is : (m : Memory) (h2 : Host) (q : Queue) (fetched : RequestAndRoom) (t : Taken) (flags : List ℕ) (fs : List Window) →
    h2.tables ≡ m.host.tables → IsTaken m q fetched t →
    fs ≡ t.return_windows.flags.items → flags ≡ map (byte_in h2) (places fs) → notifies flags ≡ wants_notice (over m h2) q
notice_is m h2 q fetched t flags fs kept taken e f =
    let read : bytes (over m h2) q.avail 2 ≡ flags =
    bytes-located (addresses q.avail 2) (over m h2) (places t.return_windows.flags.items)
    (ap (λ g. located (g Read) (addresses q.avail 2)) (same_location m h2 kept) ∙ taken.return_windows.flags)
    ∙ ap (λ (ws : List Window). map (byte_in h2) (places ws)) (sym e) ∙ sym f in
    ap notifies (sym read)

-- both stores keep the tables
pub kept_tables : (m : Memory) (h0 h1 h2 : Host) (ws1 ws2 : List (Place × ℕ)) → m.host ≡ h0 → h1 ≡ put_all h0 ws1 → h2 ≡ put_all h1 ws2
    → h2.tables ≡ m.host.tables
kept_tables m h0 h1 h2 ws1 ws2 host a b =
    ap (λ (h : Host). h.tables) b ∙ all_tables ws2 h1 ∙ ap (λ (h : Host). h.tables) a ∙ all_tables ws1 h0
    ∙ ap (λ (h : Host). h.tables) (sym host)

-- the bytes of three stores, one after another
abbrev joined : List Store → List ℕ
joined (a ∷ b ∷ c ∷ []) = a.bytes ++ b.bytes ++ c.bytes
joined _ = []

-- those of a return
pub used_bytes_are : (r : Return) (q : Queue) (head len : ℕ) (bs : List ℕ) → stores_of r ≡ stores_after_reply q head len →
    bs ≡ to_le_bytes w32 r.head.value ++ to_le_bytes w32 r.len.value ++ to_le_bytes w16 r.index.value →
    bs ≡ to_le_bytes w32 head ++ to_le_bytes w32 len ++ to_le_bytes w16 (next_position q)
used_bytes_are r q head len bs is e = e ∙ ap joined is

-- a reply, and then the bytes of a return, at the places that were taken
pub put_back_is : (h0 h1 h2 : Host) (q : Queue) (t : Taken) (front bytes : List ℕ) (len : ℕ) (ws : List Window) →
    h1 ≡ put_all h0 (zip (chain_places t.chain) front) →
    ws ≡ t.return_windows.used.items → bytes ≡ used_bytes q t.head len → h2 ≡ put_all h1 (zip (places ws) bytes) →
    h2 ≡ put_back h0 q t front len
put_back_is h0 h1 h2 q t front bytes len ws a e1 e2 b =
    b
    ∙ ap (λ (h : Host). put_all h (zip (places ws) bytes)) a
    ∙ ap (λ (v : List Window). put_all (put_all h0 (zip (chain_places t.chain) front)) (zip (places v) bytes)) e1
    ∙ ap (λ (l : List ℕ). put_all (put_all h0 (zip (chain_places t.chain) front)) (zip (places t.return_windows.used.items) l)) e2

-- the writes of a used element are those of its halves
pub returns_by_stores : ReturnsByStores
returns_by_stores q head room reply =
    let id = to_le_bytes w32 head in
    let len = to_le_bytes w32 (length reply) in
    let index = zip (addresses (index_at q) 2) (to_le_bytes w16 (next_position q)) in
    let a = zip (addresses (element_at q) 4) id in
    let b = zip (addresses (element_at q + 4) 4) len in
    let halves : zip (addresses (element_at q) 8) (id ++ len) ≡ a ++ b =
    ap (λ (l : List ℕ). zip l (id ++ len)) (addresses-append 4 4 (element_at q))
    ∙ zip_used (addresses (element_at q) 4) (addresses (element_at q + 4) 4) id len (length-addresses 4 (element_at q)) in
    ap (λ (l : List (ℕ × ℕ)). zip room reply ++ l ++ index) halves
    ∙ append_assoc (zip room reply) (a ++ b) index
    ∙ ap (λ (l : List (ℕ × ℕ)). zip room reply ++ l)
    (append_assoc a b index ∙ ap (λ (l : List (ℕ × ℕ)). a ++ (b ++ l)) (sym (append-nil index)))
