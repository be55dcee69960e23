-- The effects of the exports on the `ChainHandle` of a handle.
use Rattle.std.specs.Prelude.{◌≡◌, ◌⊎◌, ◌-◌, ◌^◌, ℕ, Bool, true, false, List, [], min, Option, Some, None}
use Rattle.memory_requests.specs.Refused.{RoomWasRefused}
use Rattle.vm_memory.specs.Layout.{Region}
use Rattle.fs_regions.specs.Ahead.{AheadBytes}
use Rattle.fs_regions.specs.Places.{untranslated}
use Rattle.fs_chain.specs.declared.error.ChainError.{ChainError}
use Rattle.fs_chain.specs.declared.error.ChainError.TheVariants.{ChainInFlight, OutOfMemory}
use Rattle.fs_chain.specs.declared.error.ChainError.TheVariants.{WrongOrder}
use Rattle.fs_chain.specs.declared.state.ChainState.TheVariants as at
use Rattle.fs_chain.specs.Numbers.{chain_error_number}
use Rattle.fs_chain.specs.Orders.{is_free, memory_error}
use Rattle.fs_chain.specs.Pushes.{IsFreed}
use Rattle.fs_chain.specs.declared.chain_handle.ChainHandle.{ChainHandle}
use Rattle.fs_chain_c.specs.declared.device.FsDevice.{FsDevice}
use Rattle.fs_chain_c.specs.declared.handle.FsChain.{FsChain}
use Rattle.fs_chain_c.specs.declared.memory.FsRegion.{FsRegion}
use Rattle.fs_chain_c.specs.declared.queue.FsQueue.{FsQueue}
use Rattle.fs_chain_c.specs.declared.status.StatusRefusal.{StatusRefusal}
use Rattle.fs_chain_c.specs.declared.status.StatusRefusal.TheVariants.{Of, Invalid}
use Rattle.fs_chain_c.specs.declared.pushing.FsStores.{FsStores}
use Rattle.fs_chain_c.specs.declared.popping.FsPopResult.{FsPopResult}
use Rattle.fs_chain_c.specs.declared.windows.FsWindow.{FsWindow}
use Rattle.fs_chain_c.specs.Memory.{IsDevice, IsMemory, IsNoMemory}
use Rattle.fs_chain_c.specs.Owned.{null}
use Rattle.fs_chain_c.specs.Statuses.{device_status, refusal_status}
use Rattle.fs_chain_c.specs.Pushing.{DropsHandleChain, EndsHandlePush, PushesHandle, no_stores}
use Rattle.fs_chain_c.specs.Popping.{PopsHandle, PopsHandleAhead, no_step}
use Rattle.fs_chain_c.specs.Windows.{FillsWindows}

-- a call has this effect on a handle's `ChainHandle`, or none if the handle has none. The handle
-- neither gains nor loses its `ChainHandle` by the call
abbrev pub OnHandle : (Does : ChainHandle → ChainHandle → Type 0) → (Nothing : Type 0) → Option ChainHandle →
    Option ChainHandle → Type 0
OnHandle Does Nothing None None = Nothing
OnHandle Does Nothing None (Some b') = ⊥
OnHandle Does Nothing (Some b) None = ⊥
OnHandle Does Nothing (Some b) (Some b') = Does b b'

-- a handle without a `ChainHandle`: all its numbers are zero
abbrev pub IsZeros : FsChain → Type 0
IsZeros c = (c.held.value ≡ None) × (c.held.at ≡ null) × (c.state ≡ 0)

-- ---- setting the memory

-- a new `ChainHandle`: it never had a chain, and has no memory
abbrev pub IsNewHandle : ChainHandle → Type 0
IsNewHandle b =
    (b.regions ≡ untranslated [])
    × (b.limit ≡ 0x101000)
    × (b.descriptors.items ≡ [])
    × (b.state ≡ at.Free)
    × (b.part.items ≡ [])
    × (b.session.page_size ≡ 4096)
    × (b.session.options.0 ≡ 0)
    × (b.ticket ≡ 1)
    × (b.list_len ≡ 0)

-- the next pops use these regions, with the device's limit, and no table translates their addresses
abbrev pub ProceedsOver : ChainHandle → FsDevice → List FsRegion → ChainHandle → Type 0
ProceedsOver b d regions b' =
    (memory_error b.state d.limit ≡ None)
    × IsDevice d
    × IsMemory regions b'.regions.layout
    × ((b'.regions.table ≡ None) × (b'.regions.away ≡ false))
    × (b'.limit ≡ d.limit)
    × (b'.state ≡ b.state)
    × (b'.part ≡ b.part)
    × (b'.session ≡ b.session)
    × (b'.ticket ≡ b.ticket)
    × (b'.list_len ≡ b.list_len)

-- why the memory isn't set, in this order: the numbers aren't a device's; the regions aren't a memory; a pop
-- is under way or a chain in flight
abbrev pub RefusesMemory : ChainHandle → FsDevice → List FsRegion → StatusRefusal → Type 0
RefusesMemory b d regions why =
    ((why ≡ Invalid device_status) × (IsDevice d → ⊥))
    ⊎ (IsDevice d × IsNoMemory regions why)
    ⊎ (IsDevice d
    × ((memory : List Region) × IsMemory regions memory)
    × (e : ChainError)
    × (why ≡ Of e)
    × (memory_error b.state d.limit ≡ Some e))

-- a `ChainHandle`'s memory is set, or a status is returned and nothing changes
abbrev pub SetsHandle : ChainHandle → FsDevice → List FsRegion → (status : ℕ) → ChainHandle → Type 0
SetsHandle b d regions status b' =
    ((status ≡ 0) × ProceedsOver b d regions b')
    ⊎ ((why : StatusRefusal) × (status ≡ refusal_status why) × RefusesMemory b d regions why × (b' ≡ b))

-- why no `ChainHandle` is made: the numbers aren't a device's; the regions aren't a memory; or they are, and
-- the allocation of the `ChainHandle` failed
abbrev pub RefusesNew : FsDevice → List FsRegion → StatusRefusal → Type 0
RefusesNew d regions why =
    ((why ≡ Invalid device_status) × (IsDevice d → ⊥))
    ⊎ (IsDevice d × IsNoMemory regions why)
    ⊎ ((why ≡ Of OutOfMemory)
    × IsDevice d
    × ((memory : List Region) × IsMemory regions memory)
    × RoomWasRefused 1)

-- a new `ChainHandle` with its memory, or none is made
abbrev pub MakesHandle : FsDevice → List FsRegion → (status : ℕ) → Option ChainHandle → Type 0
MakesHandle d regions status None =
    (why : StatusRefusal) × (status ≡ refusal_status why) × RefusesNew d regions why
MakesHandle d regions status (Some b') =
    (b : ChainHandle) × IsNewHandle b × (status ≡ 0) × ProceedsOver b d regions b'

-- a handle's memory is set: a handle without a `ChainHandle` gets a new one
abbrev pub SetsMemory :
    Option ChainHandle → FsDevice → List FsRegion → (status : ℕ) → Option ChainHandle → Type 0
SetsMemory None d regions status after = MakesHandle d regions status after
SetsMemory (Some b) d regions status None = ⊥
SetsMemory (Some b) d regions status (Some b') = SetsHandle b d regions status b'

-- ---- the other calls

-- the next chain of a `ChainHandle` gets this ticket. Or a pop is under way or a chain in flight, and nothing
-- changes
abbrev pub NumbersHandle : ChainHandle → (first status : ℕ) → ChainHandle → Type 0
NumbersHandle b first status b' =
    ((is_free b.state ≡ true) × (status ≡ 0) × (b' ≡ record b { ticket = first }))
    ⊎ ((is_free b.state ≡ false) × (status ≡ chain_error_number ChainInFlight) × (b' ≡ b))

abbrev pub Numbers : Option ChainHandle → (first status : ℕ) → Option ChainHandle → Type 0
Numbers before first status after =
    OnHandle (λ b b'. NumbersHandle b first status b') (status ≡ chain_error_number WrongOrder) before after

-- the handle pops a chain, by the bytes of the last load
abbrev pub Pops : Option ChainHandle → FsQueue → (loaded : List ℕ) → (status : ℕ) → FsPopResult →
    Option ChainHandle → FsQueue → Type 0
Pops before q loaded status step after q' =
    OnHandle (λ b b'. PopsHandle b q loaded step status b' q') ((status ≡ chain_error_number WrongOrder)
    × (step ≡ no_step)
    × (q' ≡ q)) before after

-- the handle pops a chain by loads that were made ahead
abbrev pub PopsAheadOf : Option ChainHandle → FsQueue → (ahead : List AheadBytes) → (status : ℕ) →
    FsPopResult → Option ChainHandle → FsQueue → Type 0
PopsAheadOf before q ahead status step after q' =
    OnHandle (λ b b'. PopsHandleAhead b q ahead step status b' q') ((status ≡ chain_error_number WrongOrder)
    × (step ≡ no_step)
    × (q' ≡ q)) before after

-- the handle drops its chain
abbrev pub DropsChain : Option ChainHandle → FsQueue → (status : ℕ) → Option ChainHandle → FsQueue → Type 0
DropsChain before q status after q' =
    OnHandle (λ b b'. DropsHandleChain b q status b' q') ((status ≡ 0) × (q' ≡ q)) before after

-- the handle's chain is abandoned, and no queue changes
abbrev pub AbandonsChain : Option ChainHandle → Option ChainHandle → Type 0
AbandonsChain before after = OnHandle IsFreed (Unit {0}) before after

-- C gets the host windows of the chain's bytes in one direction; the handle doesn't change
abbrev pub ReportsStretches : Option ChainHandle → (write_only : Bool) → (from most : ℕ) →
    (windows : List FsWindow) → (count : ℕ) → Option ChainHandle → (windows' : List FsWindow) → Type 0
ReportsStretches before d from most windows count after windows' =
    OnHandle (λ b b'. FillsWindows b d from (min most (2 ^ 64 - 1 - from)) windows windows' count
    × (b' ≡ b)) ((count ≡ 0)
    × (windows' ≡ windows)) before after

-- the handle pushes its chain: C gets the stores
abbrev pub Pushes : Option ChainHandle → FsQueue → (front : List ℕ) → (status : ℕ) → FsStores →
    Option ChainHandle → FsQueue → (front' : List ℕ) → Type 0
Pushes before q front status filled after q' front' =
    OnHandle (λ b b'. PushesHandle b q front filled status b' q' front')
    ((status ≡ chain_error_number WrongOrder)
    × (filled ≡ no_stores)
    × (q' ≡ q)
    × (front' ≡ front)) before after

-- C has made the stores of the push
abbrev pub EndsPush :
    Option ChainHandle → FsQueue → (seen status notify : ℕ) → Option ChainHandle → FsQueue → Type 0
EndsPush before q seen status notify after q' =
    OnHandle (λ b b'. EndsHandlePush b q seen notify status b' q') ((status ≡ chain_error_number WrongOrder)
    × (notify ≡ 0)
    × (q' ≡ q)) before after
