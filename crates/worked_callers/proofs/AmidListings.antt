-- A push amid a listing of another handle of one run.
use Rattle.std.proofs.Common.{◌≡◌, ℕ, Bool, List, [], ◌∷◌, ◌++◌, refl, subst, append_assoc}
use Rattle.server_phases.specs.Gathering.{Brought}
use Rattle.plain_machine.specs.Step.{Calls}
use Rattle.live_machine.specs.Live.{InFlightChain, after_push}
use Rattle.fs_chain.specs.Holds.{EndsPushInRun, RunState, live_of}
use Rattle.fs_chain.specs.HoldsListings.{AddingIs, AddsEntryInRun, HoldsListing, ListingIsHeld}
use Rattle.fs_chain.specs.Together.{FindsOwn, KeepsOthers, LeavesOthers, Together}
use Rattle.fs_chain.specs.declared.chain_handle.ChainHandle.{ChainHandle}
use Rattle.fs_chain.specs.declared.listing.AddOutcome.{AddOutcome}
use Rattle.fs_chain.specs.declared.listing.AddOutcome.TheVariants as added
use Rattle.fs_chain.specs.declared.queue.QueueState.{QueueState}
use Rattle.worked_callers.specs.AmidListings.{PushesAmid, own}

-- an entry that was added
added_one : (old new : ChainHandle) (list list' : List ℕ) (e : Brought) (result : AddOutcome) → AddsEntryInRun old new list list' e result
    → result ≡ added.In → (page_size : ℕ) (c : InFlightChain) (es : List Brought) (calls : Calls)
    → HoldsListing page_size c es calls list old → HoldsListing page_size c (es ++ e ∷ []) calls list' new
unfolding AddsEntryInRun
added_one old new list list' e result adds is page_size c es calls held =
    subst (λ (r : AddOutcome). AddingIs page_size c es calls list list' e new r) is (adds page_size c es calls held)

pub push_amid : (old mid new was now : ChainHandle) (q q' : QueueState) (list between list' : List ℕ) (one other : Brought)
    (seen : List ℕ) (first second : AddOutcome) (notice : Bool)
    → FindsOwn → KeepsOthers → LeavesOthers → ListingIsHeld
    → AddsEntryInRun old mid list between one first → EndsPushInRun was q q' seen notice → AddsEntryInRun mid new between list' other second
    → first ≡ added.In → second ≡ added.In → PushesAmid old new was now q q' list list' one other seen notice
unfolding EndsPushInRun
push_amid old mid new was now q q' list between list' one other seen first second notice finds keeps leaves is_held adds pushes adds_more
    is_in is_in_too s c d es calls x last all lists there proceeds =
    let has_one = added_one old mid list between one first adds is_in s.page_size c es calls lists in
    let has_both = added_one mid new between list' other second adds_more is_in_too s.page_size c (es ++ one ∷ []) calls has_one in
    let own_one = finds s (old ∷ was ∷ []) [] (own 1 d ∷ []) 0 old c all refl in
    let amid : Together s (mid ∷ was ∷ []) (own 0 c ∷ own 1 d ∷ []) =
    keeps s s (old ∷ was ∷ []) [] (own 1 d ∷ []) 0 old mid c c all refl refl own_one.0
    (is_held s.page_size c (es ++ one ∷ []) calls between mid has_one) in
    let own_other = finds s (mid ∷ was ∷ []) (own 0 c ∷ []) [] 1 was d amid refl in
    let happens = pushes s (c ∷ []) [] d x last own_other.0 there own_other.1 proceeds in
    let after : RunState = after_push s (c ∷ []) [] d (live_of q) in
    let left : Together after (mid ∷ now ∷ []) (own 0 c ∷ []) =
    leaves s after (mid ∷ was ∷ []) (own 0 c ∷ []) [] 1 now d amid refl refl in (
      happens.0,
      happens.1,
      subst (λ (l : List Brought). HoldsListing s.page_size c l calls list' new) (append_assoc es (one ∷ []) (other ∷ [])) has_both,
      keeps after after (mid ∷ now ∷ []) [] [] 0 mid new c c left refl refl refl
          (is_held s.page_size c ((es ++ one ∷ []) ++ other ∷ []) calls list' new has_both),
    )
