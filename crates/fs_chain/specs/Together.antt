-- Several handles of one run: a call of one of them leaves the others what they hold.
use Rattle.std.specs.Prelude.{◌≡◌, ℕ, List, [], ◌∷◌, ◌++◌, Option, Some, None, map, slice_get}
use Rattle.std.specs.List.{AllByRecursion}
use Rattle.vm_memory_core.specs.Host.{changed_at}
use Rattle.live_machine.specs.Live.{InFlightChain}
use Rattle.fs_chain.specs.Holds.{HoldsInFlight, RunState}
use Rattle.fs_chain.specs.declared.chain_handle.ChainHandle.{ChainHandle}

-- a chain of a run, and the number of the handle that has it; None if its handle was freed
pub record Owned : Type 0 where
  pub handle : Option ℕ
  pub chain : InFlightChain

abbrev pub IsHeldBy : (page_size : ℕ) → List ChainHandle → Option ℕ → InFlightChain → Type 0
IsHeldBy page_size ws None c = Unit {0}
IsHeldBy page_size ws (Some k) c = (w : ChainHandle) × (slice_get ws k ≡ Some w) × HoldsInFlight page_size c w

-- handle k has none of these chains
abbrev pub IsNot : ℕ → Option ℕ → Type 0
IsNot k None = Unit {0}
IsNot k (Some j) = j ≡ k → ⊥

abbrev pub HasNone : ℕ → List Owned → Type 0
HasNone k os = AllByRecursion (λ o. IsNot k o.handle) os

-- nor has this one, if it is one
abbrev pub HasNoneLeft : Option ℕ → List Owned → Type 0
HasNoneLeft None os = Unit {0}
HasNoneLeft (Some k) os = HasNone k os

-- no handle has two
abbrev pub EachHasOne : List Owned → Type 0
EachHasOne [] = Unit {0}
EachHasOne (o ∷ os) = HasNoneLeft o.handle os × EachHasOne os

-- the chains of a run are those of some handles, each its own
pub record Together (s : RunState) (ws : List ChainHandle) (os : List Owned) : Type 0 where
  pub chains : s.chains ≡ map (λ o. o.chain) os
  pub held : AllByRecursion (λ o. IsHeldBy s.page_size ws o.handle o.chain) os
  pub once : EachHasOne os

-- the handles after a call of handle k
abbrev pub with_handle : List ChainHandle → ℕ → ChainHandle → List ChainHandle
with_handle ws k w = changed_at ws k (λ _. w)

-- handle k has its chain in the run
abbrev pub FindsOwn : Type 0
FindsOwn =
    (s : RunState) (ws : List ChainHandle) (ob oh : List Owned) (k : ℕ) (w : ChainHandle)
    (c : InFlightChain) →
    Together s ws (ob ++ (record { handle = Some k; chain = c }) ∷ oh) →
    slice_get ws k ≡ Some w →
    (s.chains ≡ map (λ o. o.chain) ob ++ c ∷ map (λ o. o.chain) oh) × HoldsInFlight s.page_size c w

-- a call of handle k after which it has its chain in another phase
abbrev pub KeepsOthers : Type 0
KeepsOthers =
    (s after : RunState) (ws : List ChainHandle) (ob oh : List Owned) (k : ℕ) (w new : ChainHandle)
    (c c' : InFlightChain) →
    Together s ws (ob ++ (record { handle = Some k; chain = c }) ∷ oh) →
    slice_get ws k ≡ Some w →
    after.page_size ≡ s.page_size →
    after.chains ≡ map (λ o. o.chain) ob ++ c' ∷ map (λ o. o.chain) oh →
    HoldsInFlight s.page_size c' new →
    Together after (with_handle ws k new) (ob ++ (record { handle = Some k; chain = c' }) ∷ oh)

-- one after which it has none
abbrev pub LeavesOthers : Type 0
LeavesOthers =
    (s after : RunState) (ws : List ChainHandle) (ob oh : List Owned) (k : ℕ) (new : ChainHandle)
    (c : InFlightChain) →
    Together s ws (ob ++ (record { handle = Some k; chain = c }) ∷ oh) →
    after.page_size ≡ s.page_size →
    after.chains ≡ map (λ o. o.chain) ob ++ map (λ o. o.chain) oh →
    Together after (with_handle ws k new) (ob ++ oh)

-- one by which it got a chain
abbrev pub JoinsOthers : Type 0
JoinsOthers =
    (s after : RunState) (ws : List ChainHandle) (os : List Owned) (k : ℕ) (w new : ChainHandle)
    (c : InFlightChain) →
    Together s ws os →
    HasNone k os →
    slice_get ws k ≡ Some w →
    after.page_size ≡ s.page_size →
    after.chains ≡ s.chains ++ c ∷ [] →
    HoldsInFlight s.page_size c new →
    Together after (with_handle ws k new) (os ++ (record { handle = Some k; chain = c }) ∷ [])
