-- Theorems of what a handle holds of a run: the loads of its pop, and a chain without a reply.
use Rattle.std.specs.Prelude.{◌≡◌, ◌≤◌, ◌<◌, ◌+◌, ℕ, true, List, length, Option, Some, None, is_some}
use Rattle.vm_iotlb.specs.declared.permissions.Permissions.TheVariants.{Read}
use Rattle.vm_memory.specs.Memory.{location}
use Rattle.fs_queue.specs.Chain.{Descriptor}
use Rattle.fs_regions.specs.Places.{places_in}
use Rattle.fs_regions.specs.Walks.{Loaded, asked_by, asked_len}
use Rattle.live_machine.specs.Live.{InFlightChain}
use Rattle.fs_chain.specs.Holds.{HasUnreplied, HoldsInFlight, HoldsPop, Pop}
use Rattle.fs_chain.specs.Pops.{AddsSo}
use Rattle.fs_chain.specs.declared.chain_handle.ChainHandle.{ChainHandle}
use Rattle.fs_chain.specs.declared.popping.PopOutcome as walked
use Rattle.fs_chain.specs.declared.loads.LoadOutcome.TheVariants as outcomes
use Rattle.fs_chain.specs.declared.state.ChainState as state
use Rattle.fs_chain.specs.declared.state.ChainState.TheVariants as at

-- one load, if it was made
abbrev pub one_if : Option (List ℕ) → ℕ
one_if None = 0
one_if (Some bytes) = 1

-- the loads of a pop: of the available index, of the available ring's entry, and one for each entry of a
-- table, also if one load brought several entries
abbrev pub load_count : Loaded → ℕ
load_count loaded = one_if loaded.index + one_if loaded.entry + length loaded.entries

-- a pop under way has made fewer loads than its queue has descriptors, and four
abbrev pub LoadsAreFew : Type 0
LoadsAreFew =
    (limit : ℕ) (p : Pop) (w : ChainHandle) →
    (held : HoldsPop limit p w) →
    load_count p.loaded + 1 ≤ held.course.layout.size + 4

-- each whole load that it is given counts
abbrev pub LoadsCount : Type 0
LoadsCount =
    (limit : ℕ) (p : Pop) (w : ChainHandle) (ds : List Descriptor) (result : walked.PopOutcome)
    (bytes : List ℕ)
    (loaded : Loaded) →
    HoldsPop limit p w →
    AddsSo w.state (outcomes.On result) ds p.loaded bytes loaded →
    load_count p.loaded + 1 ≤ load_count loaded

-- each byte of the load that it asks for is mapped, so no call is refused because it isn't
abbrev pub AskedIsMapped : Type 0
AskedIsMapped =
    (limit : ℕ) (p : Pop) (w : ChainHandle) (i : ℕ) →
    (held : HoldsPop limit p w) →
    i < asked_len held.walk →
    is_some (location (places_in w.regions) Read (asked_by held.walk + i)) ≡ true

-- ---- a chain without a reply

-- a chain is in flight, and its reply isn't known
abbrev pub IsWithoutReply : state.ChainState → Type 0
IsWithoutReply (at.Popped out) = Unit {0}
IsWithoutReply (at.Decoded out waiting) = Unit {0}
IsWithoutReply (at.Listing out listing) = Unit {0}
IsWithoutReply _ = ⊥

-- the caller may reply to each chain of a run that a handle holds so
abbrev pub HeldIsUnreplied : Type 0
HeldIsUnreplied =
    (page_size : ℕ) (c : InFlightChain) (w : ChainHandle) →
    IsWithoutReply w.state →
    HoldsInFlight page_size c w →
    HasUnreplied c w.state
