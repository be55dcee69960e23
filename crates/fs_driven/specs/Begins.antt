-- A driver's commands from new handles on, for a program that performs them.
use Rattle.std.specs.Prelude.{◌≡◌, ◌≤◌, ◌^◌, ℕ, List, [], ◌∷◌, None}
use Rattle.fs_regions.specs.Places.{Mapped, places_in}
use Rattle.fs_chain.specs.Holds.{RunState}
use Rattle.fs_chain.specs.declared.chain_handle.ChainHandle.{ChainHandle}
use Rattle.fs_chain.specs.declared.queue.QueueState.{QueueState}
use Rattle.fs_chain.specs.declared.state.ChainState.TheVariants as at
use Rattle.fs_driven.specs.Drivers.{AreQueues, HasRun, driver, no_pop}
use Rattle.fs_driven.specs.Events.{Called, EventsOfAll, Unseen, seen_of}

-- a free handle over this memory, with this limit
abbrev pub IsFreeOver : Mapped → (limit : ℕ) → ChainHandle → Type 0
IsFreeOver regions limit w =
    (w.state ≡ at.Free) × (w.regions ≡ regions) × (w.limit ≡ limit) × (limit ≤ 2 ^ 31)

-- calls of two new handles are a run from any state over their memory in which no chain is in flight, and the
-- run's events are theirs
unfoldable pub RunsFromNew : (on : List ℕ) → (page_size limit : ℕ) → (first second : Mapped) →
    (qs qs' : List QueueState) → (ws : List ChainHandle) → List Called → Type 0
RunsFromNew on page_size limit first second qs qs' ws calls =
    (zs : List (Called × Unseen)) →
    seen_of zs ≡ calls →
    (s : RunState) →
    s.chains ≡ [] →
    AreQueues s qs →
    s.page_size ≡ page_size →
    s.limit ≡ limit →
    s.places ≡ places_in first →
    s.places ≡ places_in second →
    (one : ChainHandle)
    × (other : ChainHandle)
    × IsFreeOver first limit one
    × IsFreeOver second limit other
    × HasRun s on page_size qs' ws
    (λ es d. EventsOfAll on page_size (driver s (one ∷ other ∷ []) qs [] (λ _. no_pop) (λ _. None)) zs es d)
