-- A pop by loads that C makes: in parts, if a load crosses the end of a region or of a mapping.
use Rattle.std.specs.Prelude.{◌≡◌, ◌+◌, ◌%◌, ◌^◌, ◌⊎◌, ℕ, List, Some}
use Rattle.vm_memory_core.specs.Window.{Window}
use Rattle.fs_queue.specs.Numbers.{chain_fault_number, queue_number}
use Rattle.fs_regions.specs.Ahead.{AheadBytes}
use Rattle.fs_chain.specs.Ahead.{PopsAhead, ahead_error}
use Rattle.fs_chain.specs.declared.error.ChainError.{ChainError}
use Rattle.fs_chain.specs.declared.loads.LoadOutcome as outcome
use Rattle.fs_chain.specs.declared.loads.LoadOutcome.TheVariants as proceeds
use Rattle.fs_chain.specs.declared.queue.QueueState.{QueueState}
use Rattle.fs_chain.specs.declared.popping.PopOutcome.{PopOutcome}
use Rattle.fs_chain.specs.declared.popping.PopOutcome.TheVariants as comes
use Rattle.fs_chain.specs.declared.chain_handle.ChainHandle.{ChainHandle}
use Rattle.fs_chain.specs.Loads.{ProceedsSo, HasNoPlace, IsLoadWindow, IsSame, RefusesAPop, came}
use Rattle.fs_chain.specs.Numbers.{chain_error_number}
use Rattle.fs_chain_c.specs.declared.queue.FsQueue.{FsQueue}
use Rattle.fs_chain_c.specs.declared.popping.FsPopResult.{FsPopResult}
use Rattle.fs_chain_c.specs.Iotlbs.{access_number}
use Rattle.fs_chain_c.specs.Queues.{IsBegun, IsQueueState, put}
use Rattle.fs_chain_c.specs.Statuses.{begun_status}

-- the host address of a window: the number of its region, and its offset there
abbrev pub host_at : Window → ℕ
host_at v = (v.block + v.offset) % 2 ^ 64

-- ---- the result

-- the result without a load and without a chain
abbrev pub no_step : FsPopResult
no_step =
    record {
      load_at = 0;
      load_len = 0;
      request_len = 0;
      reply_len = 0;
      fault = 0;
      head = 0;
      ticket = 0;
      miss_at = 0;
      miss_len = 0;
      miss_access = 0;
    }

-- the result that asks for a load, by its host address and length
abbrev pub load_step : Window → FsPopResult
load_step v = record no_step { load_at = host_at v; load_len = v.len }

-- the load that a pop still needs; 77 if its address isn't mapped
abbrev pub FillsLoad : ChainHandle → FsPopResult → (status : ℕ) → Type 0
FillsLoad b step status =
    ((v : Window) × IsLoadWindow b (came b) v × (status ≡ 32) × (step ≡ load_step v))
    ⊎ (HasNoPlace b (came b) × (status ≡ 77) × (step ≡ no_step))

-- the load that a pop still needs after a refused call; nothing, if it needs none or the address isn't mapped
abbrev pub FillsWanted : ChainHandle → FsPopResult → Type 0
FillsWanted b step =
    ((v : Window) × IsLoadWindow b (came b) v × (step ≡ load_step v))
    ⊎ (HasNoPlace b (came b) × (step ≡ no_step))

-- the result of a pop and its status: a load, no chain (33), a miss (39), a refusal, a chain, or a faulty
-- chain
abbrev pub FillsOutcome : ChainHandle → outcome.LoadOutcome → FsPopResult → (status : ℕ) → Type 0
FillsOutcome b proceeds.Part step status = FillsLoad b step status
FillsOutcome b (proceeds.On (comes.Load n)) step status = FillsLoad b step status
FillsOutcome b (proceeds.On comes.Idle) step status = (status ≡ 33) × (step ≡ no_step)
FillsOutcome b (proceeds.On (comes.Missing range access)) step status =
    (status ≡ 39)
    × (step ≡ record no_step {
      miss_at = range.base.0;
      miss_len = range.length;
      miss_access = access_number access;
    })
FillsOutcome b (proceeds.On (comes.Refused e)) step status = (status ≡ queue_number e) × (step ≡ no_step)
FillsOutcome b (proceeds.On (comes.Chain head request room)) step status =
    (status ≡ 0)
    × (step ≡ record no_step { head = head; request_len = request; reply_len = room; ticket = b.ticket })
FillsOutcome b (proceeds.On (comes.Faulty head fault)) step status =
    (status ≡ 0) × (step ≡ record no_step { head = head; fault = chain_fault_number fault })

-- ---- a pop

-- a pop over the core's queue; on an error nothing changes, and the result is the load that the pop
-- still needs
abbrev pub PopsChecked : ChainHandle → FsQueue → QueueState → (loaded : List ℕ) → FsPopResult →
    (status : ℕ) → ChainHandle → FsQueue → Type 0
PopsChecked b q k loaded step status b' q' =
    ((result : outcome.LoadOutcome) × (k' : QueueState)
    × ProceedsSo b k loaded result b' k'
    × FillsOutcome b' result step status
    × (q' ≡ put q k'))
    ⊎ ((e : ChainError)
    × RefusesAPop b k loaded e
    × (status ≡ chain_error_number e)
    × FillsWanted b' step
    × IsSame b b'
    × (q' ≡ q))

-- a pop over a queue of C's; the status of the first cause, if the numbers aren't those of a queue that was
-- begun
abbrev pub PopsHandle :
    ChainHandle → FsQueue → (loaded : List ℕ) → FsPopResult → (status : ℕ) → ChainHandle → FsQueue → Type 0
PopsHandle b q loaded step status b' q' =
    ((IsBegun q → ⊥) × (status ≡ begun_status q) × (step ≡ no_step) × (b' ≡ b) × (q' ≡ q))
    ⊎ (IsBegun q × (k : QueueState) × IsQueueState q k × PopsChecked b q k loaded step status b' q')

-- a pop over the core's queue by loads that were made ahead: calls of `pop` one after another. On an error
-- nothing changes, and the result is the load that the pop still needs
abbrev pub PopsCheckedAhead : ChainHandle → FsQueue → QueueState → (ahead : List AheadBytes) →
    FsPopResult → (status : ℕ) → ChainHandle → FsQueue → Type 0
PopsCheckedAhead b q k ahead step status b' q' =
    ((result : PopOutcome) × (k' : QueueState)
    × PopsAhead ahead b b' k k' (proceeds.On result)
    × FillsOutcome b' (proceeds.On result) step status
    × (q' ≡ put q k'))
    ⊎ ((e : ChainError)
    × (ahead_error b.state k ≡ Some e)
    × (status ≡ chain_error_number e)
    × FillsWanted b' step
    × (b' ≡ b)
    × (q' ≡ q))

-- such a pop over a queue of C's; the status of the first cause, if the numbers aren't those of a queue that
-- was begun
abbrev pub PopsHandleAhead : ChainHandle → FsQueue → (ahead : List AheadBytes) → FsPopResult → (status : ℕ) →
    ChainHandle → FsQueue → Type 0
PopsHandleAhead b q ahead step status b' q' =
    ((IsBegun q → ⊥) × (status ≡ begun_status q) × (step ≡ no_step) × (b' ≡ b) × (q' ≡ q))
    ⊎ (IsBegun q × (k : QueueState) × IsQueueState q k × PopsCheckedAhead b q k ahead step status b' q')
