-- What the calls of a listing do to its handle, for the functions that make them.
use Rattle.std.specs.Prelude.{◌≡◌, ◌⊎◌, ◌≤◌, ◌<◌, ◌^◌, ℕ, true, List, [], ◌∷◌, ◌++◌, length, take, drop}
use Rattle.std.specs.Prelude.{Option, Some, None, Result, Ok, Err, IfOk, OnErr}
use Rattle.std.specs.List.{AllByRecursion}
use Rattle.server_phases.specs.Gathering.{Brought}
use Rattle.live_machine.specs.Live.{InFlightChain}
use Rattle.fs_chain.specs.HoldsListings.{AddsEntryInRun, EndsListingInRun, FailsListingInRun, HoldsListing}
use Rattle.fs_chain.specs.HoldsListings.{IsLeftOut}
use Rattle.fs_chain.specs.Listings.{AddsTo, EndsByEntries, EndsByError, adding_error}
use Rattle.fs_chain.specs.Orders.{is_listing}
use Rattle.fs_chain.specs.Tickets.{UnlessRefused, ticket_error}
use Rattle.fs_chain.specs.Walks.{IsAllButPlace}
use Rattle.fs_chain.specs.declared.chain_handle.ChainHandle.{ChainHandle}
use Rattle.fs_chain.specs.declared.error.ChainError.{ChainError}
use Rattle.fs_chain.specs.declared.listing.AddOutcome.{AddOutcome}
use Rattle.fs_chain.specs.declared.listing.AddOutcome.TheVariants as added
use Rattle.fs_driven.specs.Entries.{added_as, all_brought, brought_of, refused_by}
use Rattle.fs_driven.specs.Kept.{IsSameHeld}
use Rattle.fs_driven.specs.declared.entries.ListedEntry.{ListedEntry}

-- an entry is refused before or after it was looked at
abbrev pub BringsSo : (old new : ChainHandle) → (ticket : ℕ) → (list list' : List ℕ) → ListedEntry →
    (name : List ℕ) → Result AddOutcome ChainError → Type 0
BringsSo old new ticket list list' e name result =
    UnlessRefused {A = AddOutcome} (adding_error old ticket (length list)) result
    ((new ≡ old) × (list' ≡ list))
    (AddsTo old.state new.state list list' (brought_of e name)
    (λ l. added_as e.node l (length list) (length name)) result)

-- the number of an entry's node has 64 bits
abbrev pub HasNumber : Brought → Type 0
HasNumber e = e.1.inode < 2 ^ 64

-- an entry was brought to a listing
pub record BringsOne (old new : ChainHandle) (ticket : ℕ) (list list' : List ℕ) (e : ListedEntry)
    (name : List ℕ) (result : Result AddOutcome ChainError) : Type 0 where
  pub step : IfOk result (λ why. AddsEntryInRun old new list list' (brought_of e name) why)
  pub so : BringsSo old new ticket list list' e name result
  pub stays : IsAllButPlace old new
  pub number : HasNumber (brought_of e name)

-- a listing of a run has these entries. By the result of the first of those that are left it gathers no more
abbrev pub HasGathered : (page_size : ℕ) → InFlightChain → (es left : List Brought) → (list : List ℕ) →
    Result AddOutcome ChainError → ChainHandle → Type 0
HasGathered page_size c es left list (Ok added.In) w =
    HoldsListing page_size c es [] list w × AllByRecursion HasNumber es × (left ≡ [])
HasGathered page_size c es [] list result w = ⊥
HasGathered page_size c es (e ∷ left) list (Err x) w =
    HoldsListing page_size c es [] list w × AllByRecursion HasNumber es
HasGathered page_size c es (e ∷ left) list (Ok why) w =
    (held : HoldsListing page_size c es [] list w)
    × AllByRecursion HasNumber es
    × IsLeftOut why held.listing list e
    × HasNumber e

-- the call with this number is a listing
abbrev pub IsGathering : ChainHandle → (ticket : ℕ) → Type 0
IsGathering w ticket = (is_listing w.state ≡ true) × (ticket_error w.state w.ticket ticket ≡ None)

-- there was no entry, or the first one was refused
abbrev pub BringsNothing : (old new : ChainHandle) → (ticket : ℕ) → (list list' : List ℕ) →
    List ListedEntry → (names : List ℕ) → (n : ℕ) → Result AddOutcome ChainError → Type 0
BringsNothing old new ticket list list' [] names n (Ok added.In) = (n ≡ 0) × (new ≡ old) × (list' ≡ list)
BringsNothing old new ticket list list' (e ∷ entries) names n (Err x) =
    (n ≡ 0)
    × IsSameHeld old new
    × (new.ticket ≡ old.ticket)
    × (list' ≡ list)
    × BringsSo old new ticket list list' e (take e.name_len names) (Err x)
BringsNothing old new ticket list list' entries names n result = ⊥

-- entries were brought to a listing, of which the first n were added
pub record BringsAll (old new : ChainHandle) (ticket : ℕ) (list list' : List ℕ)
    (entries : List ListedEntry) (names : List ℕ) (n : ℕ) (result : Result AddOutcome ChainError) : Type
    0 where
  pub few : n ≤ length entries
  pub step : (page_size : ℕ) (c : InFlightChain) (es : List Brought) →
      HoldsListing page_size c es [] list old →
      AllByRecursion HasNumber es →
      HasGathered page_size c (es ++ take n (all_brought entries names)) (drop n (all_brought entries names))
      list'
      result new
  pub stays : IsAllButPlace old new
  pub moved : (IsGathering new ticket × (is_listing old.state ≡ true) × (refused_by n result ≡ None))
      ⊎ BringsNothing old new ticket list list' entries names n result

-- a listing ends with its entries, or with an error
abbrev pub EndsSo : Option ℕ → (old new : ChainHandle) → (ticket : ℕ) → Result ℕ ChainError → Type 0
EndsSo None old new ticket result =
    UnlessRefused (ticket_error old.state old.ticket ticket) result (new ≡ old)
    (EndsByEntries old.state new.state result)
    × OnErr result (new ≡ old)
    × IsAllButPlace old new
    × IfOk result (λ len. EndsListingInRun old new len)
EndsSo (Some errno) old new ticket result =
    UnlessRefused (ticket_error old.state old.ticket ticket) result (new ≡ old)
    (EndsByError errno old.state new.state result)
    × OnErr result (new ≡ old)
    × IsAllButPlace old new
    × IfOk result (λ len. FailsListingInRun errno old new len)
    × (1 ≤ errno)
    × (errno ≤ 4095)

-- it does, unless its first entry was refused
abbrev pub EndsUnless : Option ChainError → Option ℕ → (old new : ChainHandle) → (ticket : ℕ) →
    Result ℕ ChainError → Type 0
EndsUnless (Some e) errno old new ticket result = (result ≡ Err e) × (new ≡ old)
EndsUnless None errno old new ticket result = EndsSo errno old new ticket result
