-- The store by which C enables or disables available buffer notifications.
use Rattle.std.specs.Prelude.{◌≡◌, ◌⊎◌, ℕ, not, ◌==◌, Option, Some, None}
use Rattle.std.specs.Int.{w16, to_le_bytes}
use Rattle.vm_iotlb.specs.declared.permissions.Permissions.TheVariants.{Write}
use Rattle.fs_queue.specs.Returning.{Store}
use Rattle.fs_regions.specs.Places.{Mapped}
use Rattle.fs_chain.specs.declared.error.ChainError.TheVariants.{WrongOrder}
use Rattle.fs_chain.specs.declared.queue.QueueState.{QueueState}
use Rattle.fs_chain.specs.declared.chain_handle.ChainHandle.{ChainHandle}
use Rattle.fs_chain.specs.Events.{notification_store}
use Rattle.fs_chain.specs.Numbers.{chain_error_number}
use Rattle.fs_chain_c.specs.declared.notifications.FsStore.{FsStore}
use Rattle.fs_chain_c.specs.declared.queue.FsQueue.{FsQueue}
use Rattle.fs_chain_c.specs.Handles.{OnHandle}
use Rattle.fs_chain_c.specs.Queues.{IsQueueState, IsQueue}
use Rattle.fs_chain_c.specs.Statuses.{queue_status}
use Rattle.fs_chain_c.specs.Pushing.{IsNotHere, StandsHere}

-- nothing is to be stored
abbrev pub no_store : FsStore
no_store = record { at = 0; value = 0; len = 0 }

-- a store of two bytes at its host address, or of length 0 if there is none; 77 if its address isn't mapped
abbrev pub FillsStore : Mapped → Option Store → FsStore → (status : ℕ) → Type 0
FillsStore regions None filled status = (status ≡ 0) × (filled ≡ no_store)
FillsStore regions (Some s) filled status =
    ((status ≡ 0)
    × StandsHere regions Write s.address 2 filled.at
    × (s.bytes ≡ to_le_bytes w16 filled.value)
    × (filled.len ≡ 2))
    ⊎ ((status ≡ 77) × IsNotHere regions Write s.address 2 × (filled ≡ no_store))

-- the store for a queue of C's; the status of the first cause, if the numbers aren't a queue's
abbrev pub SetsNotification : ChainHandle → FsQueue → (enabled : ℕ) → FsStore → (status : ℕ) → Type 0
SetsNotification b q enabled filled status =
    ((IsQueue q → ⊥) × (status ≡ queue_status q) × (filled ≡ no_store))
    ⊎ (IsQueue q
    × (k : QueueState)
    × IsQueueState q k
    × FillsStore b.regions (notification_store k (not (enabled == 0))) filled status)

-- the same with a handle, which doesn't change
abbrev pub SetsNotifying :
    Option ChainHandle → FsQueue → (enabled : ℕ) → (status : ℕ) → FsStore → Option ChainHandle → Type 0
SetsNotifying before q enabled status filled after =
    OnHandle (λ b b'. SetsNotification b q enabled filled status
    × (b' ≡ b)) ((status ≡ chain_error_number WrongOrder)
    × (filled ≡ no_store)) before after
