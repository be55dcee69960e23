-- what is read of a memory, and what a store leaves, whichever pages are marked
use Rattle.std.proofs.Common.{◌≡◌, ℕ, zero, suc, ◌+◌, ◌*◌, Bool, true, false, List, [], ◌∷◌, map, Option, Some, None, refl, ap, sym, ◌∙◌}
use Rattle.std.specs.Prelude.{◌-◌, ◌%◌, ◌^◌, ◌&&◌, ◌||◌, ◌==◌, not, nat_le, nat_lt, if◌then◌else◌, slice_get, slice_set, option_map}
use Rattle.std.specs.Prelude.{option_and_then, unwrap_or, flat_map}
use Rattle.std.specs.Int.{Width, w16, w32, w64, byte_len, from_le_bytes}
use Rattle.std.proofs.lemmas.Option.{slice_get-map}
use Rattle.std.proofs.Math.Seq.{map-set_same}
use mathlib.Core.Path.{fun_ext}
use Rattle.vm_iotlb.specs.declared.permissions.Permissions.TheVariants.{Read, Write}
use Rattle.vm_bitmaps.specs.Pages.{marked_at}
use Rattle.vm_memory_core.specs.Host.{Host, Place, IoAddress, Block, changed_at, byte_at, with_byte, with_mark_by, unmarked, marked}
use Rattle.vm_memory_core.specs.Window.{put_byte}
use Rattle.vm_memory.specs.Memory.{Memory, location, addresses, reach, byte, stored_at, stored, stored_all}
use Rattle.fs_queue.specs.declared.fault.ChainFault.TheVariants.{OverLimit, RequestUnreachable, RoomUnreachable, NextOutOfTable}
use Rattle.fs_queue.specs.declared.fault.ChainFault.TheVariants.{TableUnreachable}
use Rattle.fs_queue.specs.declared.fault.QueueError.TheVariants as stop
use Rattle.fs_queue.specs.Queue.{Queue, has_bit, avail_index_at, ring_entry_at, element_at, index_at}
use Rattle.fs_queue.specs.NextAvail.{NextAvail, next_avail}
use Rattle.fs_queue.specs.NextAvail as avail
use Rattle.fs_queue.specs.Chain.{Descriptor, Visit, WalkStep, Faulty, Stops, Found, IsChain, descriptor_at, is_indirect, indirect_step}
use Rattle.fs_queue.specs.Chain.{ordinary_step, walk_step, next_visit, onward, path, first_visit, walk, found, after_walk_step, chain}
use Rattle.fs_queue.specs.Taking.{readable, writable, total_len, all_reach, RequestAndRoom, IsRequest, CannotFetch, request_and_room, Offer}
use Rattle.fs_queue.specs.Taking.{Offers, Refuses, offer_of, on_head, on_next_avail, offer}
use Rattle.fs_queue.specs.Returning.{wants_notice}
use Rattle.fs_device.specs.Marks.{none_marked, without_marks}

-- ---- lists

-- one element is changed, seen by a function of each
pub changed_same : {X Y : Type 0} (f : X → Y) (g : X → X) (l : List X) (i : ℕ) → ((x : X) → f (g x) ≡ f x) →
    map f (changed_at l i g) ≡ map f l
changed_same f g [] i e = refl
changed_same {X} {Y} f g (x ∷ l) zero e = ap (λ (y : Y). y ∷ map f l) (e x)
changed_same {X} {Y} f g (x ∷ l) (suc i) e = ap (λ (r : List Y). f x ∷ r) (changed_same f g l i e)

pub changed_after : {X Y : Type 0} (f : X → Y) (g : X → X) (h : Y → Y) (l : List X) (i : ℕ) → ((x : X) → f (g x) ≡ h (f x)) →
    map f (changed_at l i g) ≡ changed_at (map f l) i h
changed_after f g h [] i e = refl
changed_after {X} {Y} f g h (x ∷ l) zero e = ap (λ (y : Y). y ∷ map f l) (e x)
changed_after {X} {Y} f g h (x ∷ l) (suc i) e = ap (λ (r : List Y). f x ∷ r) (changed_after f g h l i e)

either_same : {X Y : Type 0} (f : X → Y) (b : Bool) (x y z : X) → f x ≡ f z → f y ≡ f z → f (if b then x else y) ≡ f z
either_same f true x y z p q = p
either_same f false x y z p q = q

marked_once : (marks : List Bool) (page : ℕ) → none_marked (slice_set marks page true) ≡ none_marked marks
marked_once marks page = map-set_same (λ (b : Bool). false) marks page true false refl

-- ---- hosts

marked_block : (offset : ℕ) (b : Block) → unmarked (record b { marks = marked b.marks offset }) ≡ unmarked b
marked_block offset b = ap (λ (marks : List Bool). record b { marks = marks }) (marked_once b.marks _)

marked_pages : (address : ℕ) (marks : List Bool) → none_marked (marked_at 4096 marks address) ≡ none_marked marks
marked_pages address marks = either_same none_marked (nat_lt address (2 ^ 64)) _ marks marks (marked_once marks _) refl

marks_aside : (io : Option IoAddress) (p : Place) (h : Host) → without_marks (with_mark_by io p h) ≡ without_marks h
marks_aside None p h = ap (λ (blocks : List Block). record (without_marks h) { blocks = blocks })
    (changed_same unmarked _ h.blocks p.block (marked_block p.offset))
marks_aside (Some a) p h = ap (λ (io_marks : List (List Bool)). record (without_marks h) { io_marks = io_marks })
    (changed_same none_marked _ h.io_marks a.set (marked_pages a.address))

-- a byte that is put is the byte that stands there, marks apart
put_aside : (h : Host) (p : Place) (x : ℕ) → without_marks (put_byte h p x) ≡ with_byte (without_marks h) p x
put_aside h p x =
    marks_aside p.io p (with_byte h p x)
    ∙ ap (λ (blocks : List Block). record (without_marks h) { blocks = blocks })
    (changed_after unmarked _ (λ b. record b { bytes = slice_set b.bytes p.offset x }) h.blocks p.block (λ b. refl))

block_byte_kept : (o : Option Block) (offset : ℕ) → option_and_then (λ (b : Block). slice_get b.bytes offset) (option_map unmarked o)
    ≡ option_and_then (λ (b : Block). slice_get b.bytes offset) o
block_byte_kept None offset = refl
block_byte_kept (Some b) offset = refl

byte_kept : (h : Host) (p : Place) → byte_at (without_marks h) p ≡ byte_at h p
byte_kept h p =
    ap (λ (o : Option Block). option_and_then (λ b. slice_get b.bytes p.offset) o) (slice_get-map unmarked h.blocks p.block)
    ∙ block_byte_kept (slice_get h.blocks p.block) p.offset

-- ---- memories

-- a memory over its host with no page marked
abbrev pub unmarked_memory : Memory → Memory
unmarked_memory m = record m { host = without_marks m.host }

bytes_kept : (m : Memory) → byte (unmarked_memory m) ≡ byte m
bytes_kept m =
    ap {B = ℕ → ℕ} (λ (f : Place → Option ℕ) (a : ℕ). unwrap_or (option_and_then f (location m Read a)) 0) (fun_ext (byte_kept m.host))

stored_aside : (m n : Memory) → unmarked_memory m ≡ unmarked_memory n → (x : ℕ) (o : Option Place) →
    unmarked_memory (stored_at m x o) ≡ unmarked_memory (stored_at n x o)
stored_aside m n same x None = same
stored_aside m n same x (Some p) =
    ap (λ (h : Host). record m { host = h }) (put_aside m.host p x) ∙ ap (λ (k : Memory). record k { host = with_byte k.host p x }) same
    ∙ sym (ap (λ (h : Host). record n { host = h }) (put_aside n.host p x))

-- stores to memories that differ in marks alone leave such ones
pub stores_aside : (writes : List (ℕ × ℕ)) (m n : Memory) → unmarked_memory m ≡ unmarked_memory n →
    unmarked_memory (stored_all m writes) ≡ unmarked_memory (stored_all n writes)
unfolding stored_all
stores_aside [] m n same = same
stores_aside (write ∷ writes) m n same =
    let there : location m Write write.0 ≡ location n Write write.0 = ap (λ (k : Memory). location k Write write.0) same in
    stores_aside writes (stored m write) (stored n write)
    (stored_aside m n same write.1 (location m Write write.0) ∙ ap (λ (o : Option Place). unmarked_memory (stored_at n write.1 o)) there)

-- ---- chains

-- the number at an address, by the bytes at all of them
abbrev number_by : (ℕ → ℕ) → Width → ℕ → ℕ
number_by f w a = from_le_bytes w (map f (addresses a (byte_len w)))

abbrev descriptor_by : (ℕ → ℕ) → ℕ → Descriptor
descriptor_by f a =
    record { addr = number_by f w64 a; len = number_by f w32 (a + 8); flags = number_by f w16 (a + 12); next = number_by f w16 (a + 14) }

descriptor_kept : (m : Memory) (a : ℕ) → descriptor_at (unmarked_memory m) a ≡ descriptor_at m a
descriptor_kept m a = ap (λ (f : ℕ → ℕ). descriptor_by f a) (bytes_kept m)

abbrev walk_step_by : (size : ℕ) (reached : Bool) → Visit → Descriptor → WalkStep
walk_step_by size reached v d =
    if nat_le v.table.entries v.index then Faulty NextOutOfTable
    else if not reached then (if v.table.indirect then Faulty TableUnreachable else Stops)
    else if is_indirect d then indirect_step v d
    else ordinary_step size v d

walk_step_kept : (m : Memory) (size : ℕ) (v : Visit) → walk_step (unmarked_memory m) size v ≡ walk_step m size v
walk_step_kept m size v =
    ap (walk_step_by size (reach m Read (v.table.address + 16 * v.index) 16) v) (descriptor_kept m (v.table.address + 16 * v.index))

path_kept : (m : Memory) (size n : ℕ) (v : Visit) → path (unmarked_memory m) size n v ≡ path m size n v
unfolding path
path_kept m size zero v = refl
path_kept m size (suc n) v =
    ap (λ (w : WalkStep). v ∷ onward (path (unmarked_memory m) size n) (next_visit v w)) (walk_step_kept m size v)
    ∙ ap (λ (f : Visit → List Visit). v ∷ onward f (next_visit v (walk_step m size v))) (fun_ext (path_kept m size n))

found_kept : (m : Memory) (size : ℕ) (vs : List Visit) → found (unmarked_memory m) size vs ≡ found m size vs
unfolding found
found_kept m size [] = refl
found_kept m size (v ∷ vs) =
    ap (λ (w : WalkStep). after_walk_step w (found (unmarked_memory m) size vs)) (walk_step_kept m size v)
    ∙ ap (after_walk_step (walk_step m size v)) (found_kept m size vs)

chain_kept : (m : Memory) (q : Queue) (head : ℕ) → chain (unmarked_memory m) q head ≡ chain m q head
chain_kept m q head =
    ap (found (unmarked_memory m) q.size) (path_kept m q.size (q.size + 2) (first_visit q head)) ∙ found_kept m q.size
    (walk m q head)

-- ---- offers

abbrev asked_with : Memory → ℕ → List Descriptor → (ℕ → ℕ) → RequestAndRoom
asked_with m limit ds f =
    if nat_lt limit (total_len (readable ds)) || nat_lt limit (total_len (writable ds)) then CannotFetch OverLimit
    else if not (all_reach m Read (readable ds)) then CannotFetch RequestUnreachable
    else if not (all_reach m Write (writable ds)) then CannotFetch RoomUnreachable
    else IsRequest (flat_map (λ d. map f (addresses d.addr d.len)) (readable ds)) (flat_map (λ d. addresses d.addr d.len) (writable ds))

asked_kept : (m : Memory) (limit : ℕ) (ds : List Descriptor)
    → request_and_room (unmarked_memory m) limit ds ≡ request_and_room m limit ds
asked_kept m limit ds = ap (asked_with m limit ds) (bytes_kept m)

found_offered : (m : Memory) (limit head : ℕ) (o : Found) → offer_of (unmarked_memory m) limit head o ≡ offer_of m limit head o
found_offered m limit head (IsChain ds) = ap (Offers head) (asked_kept m limit ds)
found_offered m limit head _ = refl

abbrev after_return_places : Memory → Queue → Offer → Offer
after_return_places m q o =
    if not (reach m Write (element_at q) 8 && reach m Write (index_at q) 2) then Refuses stop.UsedUnreachable
    else if not (reach m Read q.avail 2) then Refuses stop.AvailFlagsUnreachable
    else o

head_kept : (m : Memory) (limit : ℕ) (q : Queue) (head : ℕ) → on_head (unmarked_memory m) limit q head ≡ on_head m limit q head
head_kept m limit q head = ap (after_return_places m q) (ap (offer_of (unmarked_memory m) limit head) (chain_kept m q head)
    ∙ found_offered m limit head (chain m q head))

on_next_avail_kept :
    (m : Memory) (limit : ℕ) (q : Queue) (l : NextAvail) → on_next_avail (unmarked_memory m) limit q l ≡ on_next_avail m limit q l
on_next_avail_kept m limit q (avail.Head head) = head_kept m limit q head
on_next_avail_kept m limit q _ = refl

abbrev waiting_by : (ℕ → ℕ) → Queue → ℕ
waiting_by f q = (number_by f w16 (avail_index_at q) + (2 ^ 16 - q.position)) % 2 ^ 16

abbrev head_by : (ℕ → ℕ) → Queue → ℕ
head_by f q = number_by f w16 (ring_entry_at q)

abbrev next_avail_by : Memory → Queue → (ℕ → ℕ) → NextAvail
next_avail_by m q f =
    if not (reach m Read (avail_index_at q) 2) then avail.Refused stop.AvailIndexUnreachable
    else if waiting_by f q == 0 then avail.Idle
    else if nat_lt q.size (waiting_by f q) then avail.Refused stop.AvailTooFar
    else if not (reach m Read (ring_entry_at q) 2) then avail.Refused stop.RingEntryUnreachable
    else if nat_le q.size (head_by f q) then avail.Refused stop.HeadOutOfTable
    else avail.Head (head_by f q)

next_avail_kept : (m : Memory) (q : Queue) → next_avail (unmarked_memory m) q ≡ next_avail m q
next_avail_kept m q = ap (next_avail_by m q) (bytes_kept m)

offer_kept : (m : Memory) (limit : ℕ) (q : Queue) → offer (unmarked_memory m) limit q ≡ offer m limit q
unfolding offer
offer_kept m limit q =
    ap (λ (l : NextAvail). if q.stopped then Refuses stop.Stopped else on_next_avail (unmarked_memory m) limit q l)
    (next_avail_kept m q)
    ∙ ap (λ (o : Offer). if q.stopped then Refuses stop.Stopped else o) (on_next_avail_kept m limit q (next_avail m q))

wants_kept : (m : Memory) (q : Queue) → wants_notice (unmarked_memory m) q ≡ wants_notice m q
wants_kept m q = ap (λ (f : ℕ → ℕ). not (has_bit (number_by f w16 q.avail) 0)) (bytes_kept m)

-- ---- memories that differ in marks alone

module _ (m n : Memory) (same : unmarked_memory m ≡ unmarked_memory n) where
  -- have the same bytes
  pub bytes_same : byte m ≡ byte n
  bytes_same = sym (bytes_kept m) ∙ ap byte same ∙ bytes_kept n

  -- offer the same
  pub offers_same : (limit : ℕ) (q : Queue) → offer m limit q ≡ offer n limit q
  offers_same limit q = sym (offer_kept m limit q) ∙ ap (λ (k : Memory). offer k limit q) same ∙ offer_kept n limit q

  -- want the same notices
  pub notices_same : (q : Queue) → wants_notice m q ≡ wants_notice n q
  notices_same q = sym (wants_kept m q) ∙ ap (λ (k : Memory). wants_notice k q) same ∙ wants_kept n q
