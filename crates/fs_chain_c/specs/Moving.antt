-- A device that moves: C saves a record, and restores it elsewhere. The theorems end in what the event of a
-- move needs (`HandleMovesDevice` of `fs_chain`).
use Rattle.std.specs.Prelude.{◌≡◌, ◌≤◌, ◌<◌, ◌^◌, ◌++◌, ℕ, List, [], ◌∷◌, drop, is_some, length, map, take}
use Rattle.std.specs.List.{AllByRecursion}
use Rattle.fs_queue.specs.Queue.{Queue}
use Rattle.fs_queue.specs.WalkingView.{at_position}
use Rattle.fs_record.specs.Record.{IsRecord, Version}
use Rattle.fs_chain.specs.declared.queue.QueueState.{QueueState}
use Rattle.fs_chain_c.specs.declared.device.FsDevice.{FsDevice}
use Rattle.fs_chain_c.specs.declared.queue.FsQueue.{FsQueue}
use Rattle.fs_chain_c.specs.Queues.{IsQueueState}
use Rattle.fs_chain_c.specs.Records.{Restores, Saves}

-- one of the core's queues as a record has it: its ring, its position, and whether it is stopped
abbrev pub recorded : QueueState → Queue
recorded k = record (at_position k.layout k.next_avail) { stopped = is_some k.stopped }

-- the core's queues have these numbers, one by one
abbrev pub AreQueueStates : List FsQueue → List QueueState → Type 0
AreQueueStates [] [] = Unit {0}
AreQueueStates [] (k ∷ ks) = ⊥
AreQueueStates (q ∷ qs) [] = ⊥
AreQueueStates (q ∷ qs) (k ∷ ks) = IsQueueState q k × AreQueueStates qs ks

-- the numbers are those of a queue of the core's
abbrev pub HasState : FsQueue → Type 0
HasState q = (k : QueueState) × IsQueueState q k

-- size and positions of C's numbers are of 16 bits
abbrev pub HasItsWidths : FsQueue → Type 0
HasItsWidths q = (q.size < 2 ^ 16) × (q.next_avail < 2 ^ 16) × (q.next_used < 2 ^ 16)

-- no chain is in flight: the next chain is popped and pushed at the same position
abbrev pub HasNoChain : QueueState → Type 0
HasNoChain k = (k.next_used ≡ k.next_avail) × (k.next_avail < 2 ^ 16)

-- from one chain to as many as the queue has descriptors may be in flight
abbrev pub HasFittingMaximum : QueueState → Type 0
HasFittingMaximum k = (1 ≤ k.max_in_flight) × (k.max_in_flight ≤ k.layout.size)

-- `pk_save` writes a record of the device's options and of the core's queues, none of which has a chain in
-- flight
abbrev pub SavesARecord : Type 0
SavesARecord =
    (d : FsDevice) (qs : List FsQueue) (ks : List QueueState) (buffer buffer' : List ℕ) (len : ℕ)
    → Saves d qs buffer 0 len buffer'
    → AllByRecursion HasItsWidths qs
    → AreQueueStates qs ks
    → (bytes : List ℕ) × (v : Version)
    × (buffer' ≡ bytes ++ drop len buffer)
    × (len ≡ length bytes)
    × IsRecord bytes v d.options (map recorded ks)
    × AllByRecursion HasNoChain ks

-- `pk_restore_unnumbered` reads a record: the device has its options, and the core's queues are reset from
-- it, each to its position, stopped or not
abbrev pub RestoresARecord : Type 0
RestoresARecord =
    (d d' : FsDevice) (queues queues' : List FsQueue) (ks : List QueueState) (saved : List ℕ) (count : ℕ)
    → Restores d queues saved 0 count d' queues'
    → AreQueueStates (take count queues') ks
    → (bytes : List ℕ) × (rest : List ℕ) × (v : Version)
    × (saved ≡ bytes ++ rest)
    × IsRecord bytes v d'.options (map recorded ks)
    × AllByRecursion HasNoChain ks
    × AllByRecursion HasFittingMaximum ks

-- a device restores the options and queues that one saved, by one record: from any bytes that begin with the
-- `len` bytes that `pk_save` wrote
abbrev pub MovesByRecord : Type 0
MovesByRecord =
    (d there d' : FsDevice) (qs olds queues' : List FsQueue) (here ks : List QueueState)
    (buffer saved rest : List ℕ) (len count : ℕ)
    → Saves d qs buffer 0 len saved
    → AllByRecursion HasItsWidths qs
    → AreQueueStates qs here
    → Restores there olds (take len saved ++ rest) 0 count d' queues'
    → AreQueueStates (take count queues') ks
    → (bytes : List ℕ) × (v : Version)
    × IsRecord bytes v d.options (map recorded here)
    × IsRecord bytes v d'.options (map recorded ks)
    × (d'.options ≡ d.options)
    × (map recorded ks ≡ map recorded here)
    × AllByRecursion HasNoChain ks
    × AllByRecursion HasFittingMaximum ks
