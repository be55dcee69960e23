-- A listing that a handle gathers in a run: its entries, its file calls, and its end. The caller
-- makes these calls without the handle, to which it passes the entries alone.
use Rattle.std.specs.Prelude.{◌≡◌, ℕ, Bool, true, false, IsTrue, List, [], ◌∷◌, ◌++◌, length, take, Option}
use Rattle.std.specs.Prelude.{Some}
use Rattle.fs_queue.specs.Taking.{addresses_of, writable}
use Rattle.fuse_fs.specs.Calls.{FileAnswer, FileCall, HasEntry, Listed, suits}
use Rattle.server_replies.specs.Entries.{EIO, EOVERFLOW, is_dot}
use Rattle.server_meanings.specs.Grammar.{Lists, meaning}
use Rattle.server_meanings.specs.Grammar as grammar
use Rattle.server_meanings.specs.Listings.{ListRequest, readdir_call}
use Rattle.server_phases.specs.Gathering.{Brought, EndsList, FailsList, IsListingFor}
use Rattle.server_phases.specs.Gathering as gathering
use Rattle.server_phases.specs.declared.listing.Listing.{Listing}
use Rattle.plain_machine.specs.Step.{Calls, calls_alone}
use Rattle.live_machine.specs.Live.{Asked, Happens, InFlightChain, ReceivesAnswer, after_answer, asked_chain}
use Rattle.fs_chain.specs.Holds.{HoldsInFlight, HoldsUnanswered, IsDecodedIn, IsOutAs, RunState, any_files}
use Rattle.fs_chain.specs.Holds.{served_so}
use Rattle.fs_chain.specs.Orders.{front_of}
use Rattle.fs_chain.specs.ListingCalls.{Ending, EndsThere, FailsAt, FullAt, NotFound, Unreadable}
use Rattle.fs_chain.specs.ListingCalls.{calls_so_far, listing_calls, node_back}
use Rattle.fs_chain.specs.declared.chain_handle.ChainHandle.{ChainHandle}
use Rattle.fs_chain.specs.declared.listing.AddOutcome.{AddOutcome}
use Rattle.fs_chain.specs.declared.listing.AddOutcome.TheVariants as added
use Rattle.fs_chain.specs.declared.state.ChainReply.{ChainReply}
use Rattle.fs_chain.specs.declared.state.ChainState.TheVariants as at
use Rattle.fs_chain.specs.declared.state.InFlight.{InFlight}

-- a handle gathers a listing of a run. These entries were added, and are at the front of the caller's list;
-- these calls of the chain were answered
pub record HoldsListing (page_size : ℕ) (c : InFlightChain) (es : List Brought) (calls : Calls)
    (list : List ℕ) (w : ChainHandle) : Type 0 where
  pub out : InFlight
  pub listing : Listing
  pub state : w.state ≡ at.Listing out listing
  pub is_out : IsOutAs c out
  pub request : List ℕ
  pub options : ℕ
  pub session : IsDecodedIn page_size options w.session
  pub unique : ℕ
  pub asked : ListRequest
  pub means : meaning options request out.room_len ≡ grammar.Asks (Lists unique asked)
  pub is_for : IsListingFor listing out.room_len (Lists unique asked)
  pub holds : gathering.Holds listing list es
  pub phase : c.phase ≡ Asked request options calls

-- ---- the handle's calls

-- an entry that isn't in the list ends it, or fails it with this error
abbrev pub IsLeftOut : AddOutcome → Listing → (list : List ℕ) → Brought → Type 0
IsLeftOut added.In listing list e = ⊥
IsLeftOut added.Full listing list e = EndsList listing list e
IsLeftOut added.NoRoom listing list e = FailsList listing list e EIO
IsLeftOut added.TooLong listing list e = FailsList listing list e EOVERFLOW

-- an entry is added to the listing, or it isn't, and the listing stays
abbrev pub AddingIs : (page_size : ℕ) → InFlightChain → List Brought → Calls → (list list' : List ℕ) →
    Brought →
    ChainHandle → AddOutcome → Type 0
AddingIs page_size c es calls list list' e new added.In =
    HoldsListing page_size c (es ++ e ∷ []) calls list' new
AddingIs page_size c es calls list list' e new why =
    (held : HoldsListing page_size c es calls list new)
    × IsLeftOut why held.listing list e
    × (list' ≡ list)

-- so it is for an entry that is brought to a listing that the handle gathers
unfoldable pub AddsEntryInRun : (old new : ChainHandle) → (list list' : List ℕ) → Brought → AddOutcome →
    Type 0
AddsEntryInRun old new list list' e result =
    (page_size : ℕ) (c : InFlightChain) (es : List Brought) (calls : Calls) →
    HoldsListing page_size c es calls list old →
    AddingIs page_size c es calls list list' e new result

-- a listing may end so by the entries that were added
abbrev pub MayEnd : Listing → (list : List ℕ) → Ending → Type 0
MayEnd listing list EndsThere = Unit {0}
MayEnd listing list (FullAt e behind) = EndsList listing list e
MayEnd listing list _ = ⊥

-- a listing may fail so with this error
abbrev pub MayFail : (errno : ℕ) → Listing → (list : List ℕ) → Ending → Type 0
MayFail errno listing list (FailsAt e behind error) = (error ≡ errno) × FailsList listing list e errno
MayFail errno listing list (NotFound d behind error) =
    (error ≡ errno) × (listing.with_nodes ≡ true) × (is_dot d.name ≡ false)
MayFail errno listing list (Unreadable error) = error ≡ errno
MayFail errno listing list _ = ⊥

-- the listing has its reply: the handle keeps the front, and the first `len` bytes of the list are the data.
-- No call of it is pending
pub record HasListed (page_size : ℕ) (c : InFlightChain) (calls : Calls) (list : List ℕ) (request : List ℕ)
    (options : ℕ) (out : InFlight) (len : ℕ) (new : ChainHandle) : Type 0 where
  pub holds : HoldsInFlight page_size c new
  pub kept : ChainReply
  pub state : new.state ≡ at.Replied out kept
  pub reply : (served_so page_size options request out.room_len calls).reply ≡ front_of kept
      ++ take len list
  pub none_pending :
      (served_so page_size options request (length (addresses_of (writable c.descriptors))) calls).calls
      ≡ calls_alone calls

-- the end of a listing whose calls were answered
unfoldable pub EndsListingInRun : (old new : ChainHandle) → (len : ℕ) → Type 0
EndsListingInRun old new len =
    (page_size : ℕ) (c : InFlightChain) (es : List Brought) (ending : Ending) (calls : Calls) (list : List ℕ)
    → (held : HoldsListing page_size c es calls list old) →
    MayEnd held.listing list ending →
    calls ≡ listing_calls (readdir_call held.asked) held.asked.with_nodes es ending →
    HasListed page_size c calls list held.request held.options held.out len new

-- the same, of one that failed
unfoldable pub FailsListingInRun : (errno : ℕ) → (old new : ChainHandle) → (len : ℕ) → Type 0
FailsListingInRun errno old new len =
    (page_size : ℕ) (c : InFlightChain) (es : List Brought) (ending : Ending) (calls : Calls) (list : List ℕ)
    → (held : HoldsListing page_size c es calls list old) →
    MayFail errno held.listing list ending →
    calls ≡ listing_calls (readdir_call held.asked) held.asked.with_nodes es ending →
    HasListed page_size c calls list held.request held.options held.out len new

-- ---- the file calls

-- a handle with a listing of which no call was answered gathers it, in any list
abbrev pub BeginsListing : Type 0
BeginsListing =
    (page_size : ℕ) (c : InFlightChain) (w : ChainHandle) (out : InFlight) (listing : Listing)
    (list : List ℕ) →
    w.state ≡ at.Listing out listing →
    HoldsUnanswered page_size c w →
    HoldsListing page_size c [] [] list w

-- so does one that decoded a request that asks for a listing
abbrev pub GathersDecoded : Type 0
GathersDecoded =
    (page_size options : ℕ) (c : InFlightChain) (w : ChainHandle) (request list : List ℕ) (unique : ℕ)
    (asked : ListRequest) →
    c.phase ≡ Asked request options [] →
    meaning options request (length (addresses_of (writable c.descriptors)))
    ≡ grammar.Asks (Lists unique asked) →
    HoldsUnanswered page_size c w →
    HoldsListing page_size c [] [] list w

-- one that gathers a listing holds its chain, as among several handles
abbrev pub ListingIsHeld : Type 0
ListingIsHeld =
    (page_size : ℕ) (c : InFlightChain) (es : List Brought) (calls : Calls) (list : List ℕ)
    (w : ChainHandle) →
    HoldsListing page_size c es calls list w →
    HoldsInFlight page_size c w

-- a call of the listing is answered: the event `ReceivesAnswer`. The handle holds what it held
abbrev pub ListingCallIs : (s : RunState) (before behind : List InFlightChain) (c : InFlightChain)
    (es : List Brought) (earlier : Calls) (list : List ℕ) (w : ChainHandle) (request : List ℕ) (options : ℕ)
    (call : FileCall) (answer : FileAnswer) → Type 0
ListingCallIs s before behind c es earlier list w request options call answer =
    let calls = earlier ++ (call, answer) ∷ [] in
    Happens any_files s (ReceivesAnswer c call answer)
    (after_answer s before behind c request options calls tt)
    × HoldsListing s.page_size (asked_chain c request options calls) es calls list w

-- so it is for the reading of the directory, with any answer
abbrev pub ReadsDirectory : Type 0
ReadsDirectory =
    (s : RunState) (before behind : List InFlightChain) (c : InFlightChain) (es : List Brought)
    (list : List ℕ)
    (w : ChainHandle) (answer : FileAnswer) →
    s.chains ≡ before ++ c ∷ behind →
    (held : HoldsListing s.page_size c es [] list w) →
    IsTrue (suits (readdir_call held.asked) answer) →
    ListingCallIs s before behind c es [] list w held.request held.options (readdir_call held.asked) answer

-- for that and the look-ups of the entries, of which the next one may be looked up before it is added, or not
-- found
abbrev pub LooksUpEntries : Type 0
LooksUpEntries =
    (s : RunState) (before behind : List InFlightChain) (c : InFlightChain) (es : List Brought)
    (others : List Listed) (next : Option FileAnswer) (list : List ℕ) (w : ChainHandle)
    (earlier later : Calls)
    (call : FileCall) (answer : FileAnswer) →
    s.chains ≡ before ++ c ∷ behind →
    (held : HoldsListing s.page_size c es earlier list w) →
    calls_so_far (readdir_call held.asked) held.asked.with_nodes es others next
    ≡ earlier ++ (call, answer) ∷ later →
    IsTrue (suits call answer) →
    ListingCallIs s before behind c es earlier list w held.request held.options call answer

-- the calls of a listing up to an entry that isn't added: with its look-up, and the FORGET of its node
abbrev pub calls_left_out :
    FileCall → (with_nodes : Bool) → List Brought → Brought → (others : List Listed) → Calls
calls_left_out call with_nodes es e others =
    calls_so_far call with_nodes es (e.0 ∷ others) (Some (HasEntry e.1)) ++ node_back call with_nodes e

-- and for these
abbrev pub LeavesOut : Type 0
LeavesOut =
    (s : RunState) (before behind : List InFlightChain) (c : InFlightChain) (es : List Brought) (e : Brought)
    (others : List Listed) (why : AddOutcome) (list : List ℕ) (w : ChainHandle) (earlier later : Calls)
    (call : FileCall) (answer : FileAnswer) →
    s.chains ≡ before ++ c ∷ behind →
    (held : HoldsListing s.page_size c es earlier list w) →
    IsLeftOut why held.listing list e →
    calls_left_out (readdir_call held.asked) held.asked.with_nodes es e others
    ≡ earlier ++ (call, answer) ∷ later →
    IsTrue (suits call answer) →
    ListingCallIs s before behind c es earlier list w held.request held.options call answer
