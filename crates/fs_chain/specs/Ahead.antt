-- A pop by loads that the caller made ahead: calls of `pop` one after another, each with its load.
use Rattle.std.specs.Prelude.{◌≡◌, ◌++◌, List, [], ◌∷◌, length, Option, Some}
use Rattle.vm_memory_core.specs.Window.{Window}
use Rattle.fs_regions.specs.Ahead.{AheadBytes, LeavesLoad, last_first, place_of}
use Rattle.fs_regions.specs.declared.ahead.LoadAhead.{LoadAhead}
use Rattle.fs_chain.specs.declared.error.ChainError.{ChainError}
use Rattle.fs_chain.specs.declared.error.ChainError.TheVariants.{WrongOrder}
use Rattle.fs_chain.specs.declared.loads.LoadOutcome as outcome
use Rattle.fs_chain.specs.declared.queue.QueueState.{QueueState}
use Rattle.fs_chain.specs.declared.chain_handle.ChainHandle.{ChainHandle}
use Rattle.fs_chain.specs.declared.state.ChainState as state
use Rattle.fs_chain.specs.declared.state.ChainState.TheVariants as at
use Rattle.fs_chain.specs.Loads.{ProceedsSo, IsLoadWindow, came}
use Rattle.fs_chain.specs.Orders.{IfPopping, begin_error}
use Rattle.fs_chain.specs.Pops.{BeginsPopBy, WantsBytes}

-- why a pop can't begin, with loads ahead
abbrev pub ahead_error : state.ChainState → QueueState → Option ChainError
ahead_error at.Free q = begin_error q 0
ahead_error _ q = Some WrongOrder

-- a load is of the bytes that a pop still needs: their place, and all of them
abbrev pub IsWantedLoad : ChainHandle → LoadAhead → Type 0
IsWantedLoad w one =
    (v : Window) × IsLoadWindow w (came w) v × (one.at ≡ place_of v) × (one.len ≡ v.len)

-- a pop by calls of `pop` that weren't refused, the last one first. The first call has no bytes; each later
-- one has those of a load which was made ahead, and is just the one that the call before it asked for
abbrev pub WalksAhead : (taken : List AheadBytes) → (old new : ChainHandle) → (before after : QueueState) →
    outcome.LoadOutcome → Type 0
WalksAhead [] old new before after result = BeginsPopBy old new before after result
WalksAhead (l ∷ taken) old new before after result =
    (w : ChainHandle) × (q : QueueState) × (earlier : outcome.LoadOutcome)
    × WalksAhead taken old w before q earlier
    × WantsBytes earlier
    × IsWantedLoad w l.load
    × (length l.bytes ≡ l.load.len)
    × ProceedsSo w q l.bytes result new after

-- a pop that asks for a load doesn't take the next one of these
abbrev pub StopsAt : List AheadBytes → ChainHandle → Type 0
StopsAt [] w = Unit {0}
StopsAt (l ∷ more) w = IfPopping w.state (λ walk. LeavesLoad w.regions walk l w.descriptors)

-- a pop takes the first of these loads, as many as it asks for one after another
pub record PopsAhead (ahead : List AheadBytes) (old new : ChainHandle) (before after : QueueState)
    (result : outcome.LoadOutcome) : Type 0 where
  pub first : List AheadBytes
  pub more : List AheadBytes
  pub parts : ahead ≡ first ++ more
  pub walks : WalksAhead (last_first first []) old new before after result
  pub stops : StopsAt more new
