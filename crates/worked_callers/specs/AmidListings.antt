-- A push amid a listing of another handle of one run.
use Rattle.std.specs.Prelude.{ℕ, Bool, List, [], ◌∷◌, ◌++◌, length, Some}
use Rattle.fs_queue.specs.Returning.{stores_after_reply}
use Rattle.server_phases.specs.Gathering.{Brought}
use Rattle.plain_machine.specs.Step.{Calls, Exchange}
use Rattle.live_machine.specs.Live.{Happens, InFlightChain, PushedWith, PushesChain, after_push}
use Rattle.live_machine.specs.Several.{returning}
use Rattle.fs_chain.specs.Holds.{IsRunQueue, RunState, any_files, live_of}
use Rattle.fs_chain.specs.HoldsListings.{HoldsListing}
use Rattle.fs_chain.specs.Together.{Owned, Together}
use Rattle.fs_chain.specs.declared.chain_handle.ChainHandle.{ChainHandle}
use Rattle.fs_chain.specs.declared.queue.QueueState.{QueueState}

-- the chain of handle k
abbrev pub own : ℕ → InFlightChain → Owned
own k c = record { handle = Some k; chain = c }

-- in each state of a run of two handles, of which the first one lists, the push of the second one's chain is
-- an event. The first one has both entries then, and its chain
abbrev pub PushesAmid : (old new : ChainHandle) → (was now : ChainHandle) → (q q' : QueueState) →
    (list list' : List ℕ) → (one other : Brought) → (seen : List ℕ) → (notice : Bool) → Type 0
PushesAmid old new was now q q' list list' one other seen notice =
    (s : RunState) (c d : InFlightChain) (es : List Brought) (calls : Calls) (x : Exchange) (last : ℕ) →
    Together s (old ∷ was ∷ []) (own 0 c ∷ own 1 d ∷ []) →
    HoldsListing s.page_size c es calls list old →
    IsRunQueue s d.queue q →
    PushedWith s.page_size d d.phase x →
    let after = after_push s (c ∷ []) [] d (live_of q) in
    Happens any_files s
    (PushesChain d x notice last (stores_after_reply (returning (live_of q)) d.head (length x.reply)) seen)
    after
    × IsRunQueue after d.queue q'
    × HoldsListing s.page_size c (es ++ one ∷ other ∷ []) calls list' new
    × Together after (new ∷ now ∷ []) (own 0 c ∷ [])
