-- the first miss among some areas, and refusals and faults without a miss
use Rattle.std.proofs.Common.{◌≡◌, ℕ, Bool, true, false, ◌++◌, List, [], ◌∷◌, Option, Some, None, refl, ap, sym, ◌∙◌, subst}
use Rattle.std.specs.Prelude.{if◌then◌else◌, ◌==◌, ◌&&◌, ◌||◌, not, nat_le, nat_lt}
use Rattle.std.specs.Option.{option_or}
use Rattle.vm_iotlb.specs.declared.iova.IovaRange.{IovaRange}
use Rattle.vm_iotlb.specs.declared.permissions.Permissions.{Permissions}
use Rattle.vm_iotlb.specs.declared.permissions.Permissions.TheVariants.{Read, Write}
use Rattle.vm_memory.specs.Memory.{Memory, reach}
use Rattle.fs_queue.specs.declared.fault.ChainFault.{ChainFault}
use Rattle.fs_queue.specs.declared.fault.ChainFault.TheVariants as fault
use Rattle.fs_queue.specs.declared.fault.QueueError.{QueueError}
use Rattle.fs_queue.specs.declared.fault.QueueError.TheVariants as stop
use Rattle.fs_queue.specs.Queue.{Queue, avail_index_at, element_at, head, index_at, ring_entry_at, waiting}
use Rattle.fs_queue.specs.NextAvail.{NextAvail, Idle, Head, Refused, next_avail}
use Rattle.fs_queue.specs.Chain.{Descriptor}
use Rattle.fs_queue.specs.Loads.{asks_entry, entry_load, holding, index_load, is_whole}
use Rattle.fs_queue.specs.OfferLoads.{available_by, without_entry}
use Rattle.fs_queue.specs.Taking.{all_reach, chain_fault, readable, return_fault, total_len, writable}
use Rattle.fs_regions.specs.Misses.{Area, OfBuffers, OfReturn, first_miss, miss_of}
use Rattle.fs_regions.specs.Walks.{Loaded, MissesNothing, RefusalIsNoMiss, RingIsNoMiss, TestIsNoMiss}

assoc : {A : Type 0} (a b c : Option A) → option_or a (option_or b c) ≡ option_or (option_or a b) c
assoc None b c = refl
assoc (Some x) b c = refl

or_none : {A : Type 0} (a : Option A) → option_or a None ≡ a
or_none None = refl
or_none (Some x) = refl

pub first_in_both : (m : Memory) (xs ys : List Area) → first_miss m (xs ++ ys) ≡ option_or (first_miss m xs) (first_miss m ys)
first_in_both m [] ys = refl
first_in_both m (x ∷ xs) ys =
    ap (option_or (miss_of m x)) (first_in_both m xs ys) ∙ assoc (miss_of m x) (first_miss m xs) (first_miss m ys)

-- of one area, by the address that the code has
pub first_of_one : (m : Memory) (a b n : ℕ) (access : Permissions) (o : Option (IovaRange × Permissions)) → b ≡ a →
    o ≡ miss_of m (record { from = b; len = n; access = access }) →
    first_miss m (record { from = a; len = n; access = access } ∷ []) ≡ o
first_of_one m a b n access o at is =
    or_none (miss_of m (record { from = a; len = n; access = access }))
    ∙ ap (λ (x : ℕ). miss_of m (record { from = x; len = n; access = access })) (sym at) ∙ sym is

-- ---- the refusals of the ring

abbrev IsRingError : NextAvail → Type 0
IsRingError (Refused stop.UsedUnreachable) = ⊥
IsRingError (Refused stop.AvailFlagsUnreachable) = ⊥
IsRingError (Refused stop.DescriptorUnreachable) = ⊥
IsRingError _ = Unit {0}

by_tests : (a b c d e : Bool) (h : ℕ) →
    IsRingError (if not a then Refused stop.AvailIndexUnreachable else if b then Idle else if c then Refused stop.AvailTooFar
    else if not d then Refused stop.RingEntryUnreachable else if e then Refused stop.HeadOutOfTable else Head h)
by_tests true false false true false h = tt
by_tests a b c d e h = tt

next_error : (m : Memory) (q : Queue) → IsRingError (next_avail m q)
next_error m q =
    by_tests (reach m Read (avail_index_at q) 2) (waiting m q == 0) (nat_lt q.size (waiting m q)) (reach m Read (ring_entry_at q) 2)
    (nat_le q.size (head m q)) (head m q)

by_loads : (a b c : Bool) (x y n : NextAvail) (entry : Option (List ℕ)) → IsRingError x → IsRingError y →
    (if not a then None else if not b then without_entry entry x else if not c then None else Some y) ≡ Some n → IsRingError n
by_loads true false c x y n None hx hy e = let same : x ≡ n = cc in subst IsRingError same hx
by_loads true true true x y n entry hx hy e = let same : y ≡ n = cc in subst IsRingError same hy
by_loads a b c x y n entry hx hy e = absurd (cc)

waits_error : (q : Queue) (index entry : Option (List ℕ)) (n : NextAvail) → available_by q index entry ≡ Some n → IsRingError n
waits_error q index entry n by =
    by_loads (is_whole 2 index) (asks_entry (next_avail (holding (index_load q index ∷ [])) q)) (is_whole 2 entry)
    (next_avail (holding (index_load q index ∷ [])) q) (next_avail (holding (index_load q index ∷ entry_load q entry ∷ [])) q) n entry
    (next_error (holding (index_load q index ∷ [])) q) (next_error (holding (index_load q index ∷ entry_load q entry ∷ [])) q) by

by_error : (m : Memory) (limit : ℕ) (q : Queue) (loaded : Loaded) (e : QueueError) → IsRingError (Refused e) → RingIsNoMiss m q loaded →
    RefusalIsNoMiss m limit q loaded e
by_error m limit q loaded stop.UsedUnreachable is none = absurd is
by_error m limit q loaded stop.AvailFlagsUnreachable is none = absurd is
by_error m limit q loaded stop.DescriptorUnreachable is none = absurd is
by_error m limit q loaded e is none = none

pub ring_no_miss : (m : Memory) (limit : ℕ) (q : Queue) (loaded : Loaded) (e : QueueError) →
    available_by q loaded.index loaded.entry ≡ Some (Refused e) → RingIsNoMiss m q loaded → RefusalIsNoMiss m limit q loaded e
ring_no_miss m limit q loaded e by none =
    by_error m limit q loaded e (waits_error q loaded.index loaded.entry (Refused e) by) none

-- ---- what a push needs

abbrev IsReturnError : QueueError → Type 0
IsReturnError stop.UsedUnreachable = Unit {0}
IsReturnError stop.AvailFlagsUnreachable = Unit {0}
IsReturnError _ = ⊥

return_error : (a b : Bool) (e : QueueError) →
    (if not a then Some stop.UsedUnreachable else if not b then Some stop.AvailFlagsUnreachable else None) ≡ Some e → IsReturnError e
return_error false b e is = let same : stop.UsedUnreachable ≡ e = cc in subst IsReturnError same tt
return_error true false e is = let same : stop.AvailFlagsUnreachable ≡ e = cc in subst IsReturnError same tt
return_error true true e is = absurd (cc)

by_return : (m : Memory) (limit : ℕ) (q : Queue) (loaded : Loaded) (e : QueueError) → IsReturnError e →
    MissesNothing m limit q loaded [] OfReturn → RefusalIsNoMiss m limit q loaded e
by_return m limit q loaded stop.UsedUnreachable is none = none
by_return m limit q loaded stop.AvailFlagsUnreachable is none = none
by_return m limit q loaded e is none = absurd is

pub return_no_miss : (m : Memory) (limit : ℕ) (q : Queue) (loaded : Loaded) (e : QueueError) → return_fault m q ≡ Some e →
    MissesNothing m limit q loaded [] OfReturn → RefusalIsNoMiss m limit q loaded e
return_no_miss m limit q loaded e why none =
    by_return m limit q loaded e
    (return_error (reach m Write (element_at q) 8 && reach m Write (index_at q) 2) (reach m Read q.avail 2) e why) none

-- ---- request and reply buffer

abbrev IsBufferFault : ChainFault → Type 0
IsBufferFault fault.OverLimit = Unit {0}
IsBufferFault fault.RequestUnreachable = Unit {0}
IsBufferFault fault.RoomUnreachable = Unit {0}
IsBufferFault _ = ⊥

buffer_fault : (a b c : Bool) (f : ChainFault) →
    (if a then Some fault.OverLimit else if not b then Some fault.RequestUnreachable
    else if not c then Some fault.RoomUnreachable else None)
    ≡ Some f → IsBufferFault f
buffer_fault true b c f is = let same : fault.OverLimit ≡ f = cc in subst IsBufferFault same tt
buffer_fault false false c f is = let same : fault.RequestUnreachable ≡ f = cc in subst IsBufferFault same tt
buffer_fault false true false f is = let same : fault.RoomUnreachable ≡ f = cc in subst IsBufferFault same tt
buffer_fault false true true f is = absurd (cc)

by_buffers : (m : Memory) (limit : ℕ) (q : Queue) (loaded : Loaded) (ds : List Descriptor) (f : ChainFault) → IsBufferFault f →
    MissesNothing m limit q loaded ds (OfBuffers ds) → TestIsNoMiss m limit q loaded f
by_buffers m limit q loaded ds fault.OverLimit is none = tt
by_buffers m limit q loaded ds fault.RequestUnreachable is none = (ds, none)
by_buffers m limit q loaded ds fault.RoomUnreachable is none = (ds, none)
by_buffers m limit q loaded ds f is none = absurd is

pub buffers_no_miss : (m : Memory) (limit : ℕ) (q : Queue) (loaded : Loaded) (ds : List Descriptor) (f : ChainFault) →
    chain_fault m limit ds ≡ Some f → MissesNothing m limit q loaded ds (OfBuffers ds) → TestIsNoMiss m limit q loaded f
buffers_no_miss m limit q loaded ds f why none =
    by_buffers m limit q loaded ds f
    (buffer_fault (nat_lt limit (total_len (readable ds)) || nat_lt limit (total_len (writable ds))) (all_reach m Read (readable ds))
    (all_reach m Write (writable ds)) f why) none
