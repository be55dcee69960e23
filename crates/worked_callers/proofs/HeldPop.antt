-- A pop that begins and asks for a load is held in each run with its queue, memory and limit.
use Rattle.std.proofs.Common.{◌≡◌, ◌≤◌, ◌^◌, ℕ, [], subst}
use Rattle.fs_regions.specs.Places.{places_in}
use Rattle.fs_regions.specs.Walks.{nothing}
use Rattle.fs_chain.specs.Holds.{BeginsAPop, HoldsPop, IsRunQueue, RunState, PopsBy, pop_of}
use Rattle.fs_chain.specs.declared.chain_handle.ChainHandle.{ChainHandle}
use Rattle.fs_chain.specs.declared.loads.LoadOutcome as outcome
use Rattle.fs_chain.specs.declared.loads.LoadOutcome.TheVariants as outcomes
use Rattle.fs_chain.specs.declared.popping.PopOutcome.TheVariants as shows
use Rattle.fs_chain.specs.declared.queue.QueueState.{QueueState}
use Rattle.fs_chain.specs.declared.state.ChainState as state
use Rattle.fs_chain.specs.declared.state.ChainState.TheVariants as at

pub held_first : (old new : ChainHandle) (q q' : QueueState) (result : outcome.LoadOutcome) (n : ℕ) (s : RunState) (i : ℕ)
    → old.state ≡ at.Free → result ≡ outcomes.On (shows.Load n) → PopsBy old.state old new q q' [] result
    → IsRunQueue s i q → s.places ≡ places_in old.regions → s.limit ≡ old.limit → s.limit ≤ 2 ^ 31
    → HoldsPop s.limit (pop_of q nothing) new
unfolding BeginsAPop
held_first old new q q' result n s i free is pops there places limit small =
    let begins : BeginsAPop old new q q' result = subst (λ (st : state.ChainState). PopsBy st old new q q' [] result) free pops in
    let asks : BeginsAPop old new q q' (outcomes.On (shows.Load n)) =
    subst (λ (t : outcome.LoadOutcome). BeginsAPop old new q q' t) is begins in
    (asks s i there places limit small).0
