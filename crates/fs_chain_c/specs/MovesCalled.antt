-- What `law_moves` says of real calls of `pk_save` and `pk_restore_unnumbered`.
use Rattle.std.specs.Prelude.{◌≡◌, ◌++◌, ℕ, List, drop, length, map, take}
use Rattle.std.specs.List.{AllByRecursion}
use Rattle.fs_record.specs.Record.{IsRecord, Version}
use Rattle.fs_chain.specs.declared.queue.QueueState.{QueueState}
use Rattle.fs_chain_c.specs.declared.device.FsDevice.{FsDevice}
use Rattle.fs_chain_c.specs.declared.queue.FsQueue.{FsQueue}
use Rattle.fs_chain_c.specs.Moving.{AreQueueStates, HasNoChain, HasFittingMaximum, recorded}

-- a save writes a record of the device's options and of the core's queues, none of which has a chain in
-- flight
abbrev pub SavesQueues :
    FsDevice → List FsQueue → (buffer : List ℕ) → (len : ℕ) → (buffer' : List ℕ) → Type 0
SavesQueues d qs buffer len buffer' =
    (ks : List QueueState)
    × AreQueueStates qs ks
    × (bytes : List ℕ) × (v : Version)
    × (buffer' ≡ bytes ++ drop len buffer)
    × (len ≡ length bytes)
    × IsRecord bytes v d.options (map recorded ks)
    × AllByRecursion HasNoChain ks

-- the bytes begin with a record of the device's options and of the core's first `count` queues
abbrev pub RestoresQueues : FsDevice → List FsQueue → (saved : List ℕ) → (count : ℕ) → Type 0
RestoresQueues d' queues' saved count =
    (ks : List QueueState)
    × AreQueueStates (take count queues') ks
    × (bytes : List ℕ) × (rest : List ℕ) × (v : Version)
    × (saved ≡ bytes ++ rest)
    × IsRecord bytes v d'.options (map recorded ks)
    × AllByRecursion HasNoChain ks
    × AllByRecursion HasFittingMaximum ks

-- both devices have the options and the queues of one record
abbrev pub MovesQueues : FsDevice → List FsQueue → FsDevice → List FsQueue → (count : ℕ) → Type 0
MovesQueues d qs d' queues' count =
    (here : List QueueState) × (ks : List QueueState)
    × AreQueueStates qs here
    × AreQueueStates (take count queues') ks
    × (bytes : List ℕ) × (v : Version)
    × IsRecord bytes v d.options (map recorded here)
    × IsRecord bytes v d'.options (map recorded ks)
    × (d'.options ≡ d.options)
    × (map recorded ks ≡ map recorded here)
    × AllByRecursion HasNoChain ks
    × AllByRecursion HasFittingMaximum ks
