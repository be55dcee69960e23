-- How a chain is pushed, in two calls, and how it is dropped.
use Rattle.std.specs.Prelude.{◌≡◌, ◌⊎◌, ◌<◌, ℕ, true, false, List, length, min, Some, None, if◌then◌else◌}
use Rattle.std.specs.Int.{w16, to_le_bytes}
use Rattle.vm_memory_core.specs.Window.{Window}
use Rattle.vm_iotlb.specs.declared.permissions.Permissions.{Permissions}
use Rattle.vm_iotlb.specs.declared.permissions.Permissions.TheVariants.{Read, Write}
use Rattle.vm_memory.specs.Memory.{location}
use Rattle.vm_memory.specs.Slices.{IsWindowAt}
use Rattle.fs_regions.specs.Places.{Mapped, left_in, places_in}
use Rattle.fs_chain.specs.declared.error.ChainError.{ChainError}
use Rattle.fs_chain.specs.declared.error.ChainError.TheVariants.{ShortBuffer}
use Rattle.fs_chain.specs.declared.queue.QueueState.{QueueState}
use Rattle.fs_chain.specs.declared.pushing.PushStores.{PushStores}
use Rattle.fs_chain.specs.declared.state.ChainState.TheVariants as at
use Rattle.fs_chain.specs.Numbers.{chain_error_number}
use Rattle.fs_chain.specs.Events.{notifies_of}
use Rattle.fs_chain.specs.Orders.{end_error, give_up_error, has_ring, is_out, push_error, push_refusal}
use Rattle.fs_chain.specs.Queues.{gave, gave_up}
use Rattle.fs_chain.specs.Pushes.{IfReplied, IsFreed, PushesBy, put_front}
use Rattle.fs_chain.specs.declared.chain_handle.ChainHandle.{ChainHandle}
use Rattle.fs_chain_c.specs.declared.queue.FsQueue.{FsQueue}
use Rattle.fs_chain_c.specs.declared.pushing.FsStores.{FsStores}
use Rattle.fs_chain_c.specs.Queues.{IsQueueState, IsQueue, flag, put}
use Rattle.fs_chain_c.specs.Statuses.{queue_status}
use Rattle.fs_chain_c.specs.Popping.{host_at}

-- ---- the stores of a push

-- nothing is to be stored
abbrev pub no_stores : FsStores
no_stores =
    record {
      front_len = 0;
      id_at = 0;
      len_at = 0;
      id = 0;
      len = 0;
      index_at = 0;
      index = 0;
      seen_at = 0;
      element_guest = 0;
      index_guest = 0;
    }

-- `len` bytes from a guest address on are mapped for an access, in one piece of host memory from this host
-- address on
abbrev pub StandsHere : Mapped → Permissions → (guest len here : ℕ) → Type 0
StandsHere regions access guest len here =
    (v : Window)
    × IsWindowAt (location (places_in regions) access) guest len v
    × (v.len ≡ len)
    × (here ≡ host_at v)

-- the stores of a push, by their host addresses, and the guest addresses of the used element and index
abbrev pub FillsStores : Mapped → PushStores → FsStores → Type 0
FillsStores regions s filled =
    (filled.front_len ≡ s.front_len)
    × StandsHere regions Write s.used.head.address 4 filled.id_at
    × (filled.id ≡ s.used.head.value)
    × StandsHere regions Write s.used.len.address 4 filled.len_at
    × (filled.len ≡ s.used.len.value)
    × StandsHere regions Write s.used.index.address 2 filled.index_at
    × (filled.index ≡ s.used.index.value)
    × StandsHere regions Read s.seen_at 2 filled.seen_at
    × (filled.element_guest ≡ s.used.head.address)
    × (filled.index_guest ≡ s.used.index.address)

-- `len` bytes from a guest address on aren't mapped in one piece: the first isn't mapped, or the piece ends
-- before the last
abbrev pub IsNotHere : Mapped → Permissions → (guest len : ℕ) → Type 0
IsNotHere regions access guest len =
    (location (places_in regions) access guest ≡ None)
    ⊎ ((v : Window)
    × IsWindowAt (location (places_in regions) access) guest len v
    × (v.len ≡ min len (left_in (places_in regions) guest))
    × (v.len ≡ len → ⊥))

-- some of the stores aren't mapped
abbrev pub HaveNoPlaces : Mapped → PushStores → Type 0
HaveNoPlaces regions s =
    IsNotHere regions Write s.used.head.address 4
    ⊎ IsNotHere regions Write s.used.len.address 4
    ⊎ IsNotHere regions Write s.used.index.address 2
    ⊎ IsNotHere regions Read s.seen_at 2

-- a chain with a reply is being pushed by these stores, and the reply's front is at the front of the buffer;
-- 77 if the stores aren't mapped
abbrev pub PushesSo : ChainHandle → QueueState → (front : List ℕ) → FsStores → (status : ℕ) → ChainHandle →
    (front' : List ℕ) → Type 0
PushesSo b k front filled status b' front' =
    (s : PushStores)
    × IfReplied b.state (λ out reply. b' ≡ record b { state = at.Pushing out })
    × IfReplied b.state (λ out reply. PushesBy k out reply s)
    × IfReplied b.state (λ out reply. front' ≡ put_front reply front)
    × (((status ≡ 0) × FillsStores b'.regions s filled)
    ⊎ ((status ≡ 77) × (filled ≡ no_stores) × HaveNoPlaces b'.regions s))

-- the same over the core's queue, on which no other push begins until this one ends. The queue's rings are
-- where they were when the chain was popped. An error changes nothing, and a buffer of 160 bytes is never too
-- short
abbrev pub PushesChecked : ChainHandle → FsQueue → QueueState → (front : List ℕ) → FsStores → (status : ℕ)
    → ChainHandle → FsQueue → (front' : List ℕ) → Type 0
PushesChecked b q k front filled status b' q' front' =
    ((push_refusal b.state k (length front) ≡ None)
    × PushesSo b k front filled status b' front'
    × (q' ≡ put q (record k { pushing = true }))
    × (has_ring b.state b.regions ≡ true))
    ⊎ ((e : ChainError)
    × (push_error (has_ring b.state b.regions) b.state k (length front) ≡ Some e)
    × (e ≡ ShortBuffer → length front < 160)
    × (status ≡ chain_error_number e)
    × (filled ≡ no_stores)
    × (b' ≡ b)
    × (q' ≡ q)
    × (front' ≡ front))

-- the same over a queue of C's; the status of the first cause, if the numbers aren't a queue's
abbrev pub PushesHandle : ChainHandle → FsQueue → (front : List ℕ) → FsStores → (status : ℕ) → ChainHandle →
    FsQueue → (front' : List ℕ) → Type 0
PushesHandle b q front filled status b' q' front' =
    ((IsQueue q → ⊥)
    × (status ≡ queue_status q)
    × (filled ≡ no_stores)
    × (b' ≡ b)
    × (q' ≡ q)
    × (front' ≡ front))
    ⊎ (IsQueue q × (k : QueueState) × IsQueueState q k
    × PushesChecked b q k front filled status b' q' front')

-- ---- the end of a push

-- nothing changes, and this is the status
abbrev pub RefusesPush : ChainHandle → FsQueue → (why status : ℕ) → ChainHandle → FsQueue → Type 0
RefusesPush b q why status b' q' = (status ≡ why) × (b' ≡ b) × (q' ≡ q)

-- the stores are made: the chain is freed, and the core's queue pushes its next chain at the next position;
-- on an error nothing changes
abbrev pub EndsChecked :
    ChainHandle → FsQueue → QueueState → (seen notify status : ℕ) → ChainHandle → FsQueue → Type 0
EndsChecked b q k seen notify status b' q' =
    ((end_error b.state k ≡ None)
    × (status ≡ 0)
    × (notify ≡ flag (notifies_of k (to_le_bytes w16 seen)))
    × IsFreed b b'
    × (q' ≡ put q (gave k)))
    ⊎ ((e : ChainError)
    × (end_error b.state k ≡ Some e)
    × (notify ≡ 0)
    × RefusesPush b q (chain_error_number e) status b' q')

-- the same over a queue of C's; the status of the first cause, if the numbers aren't a queue's
abbrev pub EndsHandlePush : ChainHandle → FsQueue → (seen notify status : ℕ) → ChainHandle → FsQueue → Type 0
EndsHandlePush b q seen notify status b' q' =
    ((IsQueue q → ⊥) × (notify ≡ 0) × RefusesPush b q (queue_status q) status b' q')
    ⊎ (IsQueue q × (k : QueueState) × IsQueueState q k × EndsChecked b q k seen notify status b' q')

-- ---- a dropped chain

-- the core's queue after a drop: its next pop returns the dropped chain again
abbrev pub dropped : ChainHandle → QueueState → QueueState
dropped b k = if is_out b.state then gave_up k else k

-- a drop over the core's queue; on an error nothing changes
abbrev pub DropsChecked : ChainHandle → FsQueue → QueueState → (status : ℕ) → ChainHandle → FsQueue → Type 0
DropsChecked b q k status b' q' =
    ((give_up_error b.state k ≡ None) × (status ≡ 0) × IsFreed b b' × (q' ≡ put q (dropped b k)))
    ⊎ ((e : ChainError)
    × (give_up_error b.state k ≡ Some e)
    × RefusesPush b q (chain_error_number e) status b' q')

-- the same over a queue of C's; the status of the first cause, if the numbers aren't a queue's. If no chain
-- is in flight, a pop under way ends, and the queue's numbers don't matter
abbrev pub DropsHandleChain : ChainHandle → FsQueue → (status : ℕ) → ChainHandle → FsQueue → Type 0
DropsHandleChain b q status b' q' =
    ((is_out b.state ≡ false) × (status ≡ 0) × IsFreed b b' × (q' ≡ q))
    ⊎ ((is_out b.state ≡ true) × (IsQueue q → ⊥) × RefusesPush b q (queue_status q) status b' q')
    ⊎ ((is_out b.state ≡ true)
    × IsQueue q
    × (k : QueueState)
    × IsQueueState q k
    × DropsChecked b q k status b' q')
