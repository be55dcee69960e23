-- Listings that the caller answers entry by entry: the result for an entry, and the reply that is kept.
use Rattle.std.specs.Prelude.{◌≡◌, ℕ, ◌++◌, ◌&&◌, not, ◌==◌, [], ◌∷◌, List, true, false, nat_lt, take, Option}
use Rattle.std.specs.Prelude.{Some, None, Result, Ok, Err, if◌then◌else◌}
use Rattle.std.specs.Option.{option_or}
use Rattle.fuse_fs.specs.Calls.{Entries, Failed, Listed}
use Rattle.server_replies.specs.Entries.{is_dot}
use Rattle.server_replies.specs.WholeReplies.{listing_bytes}
use Rattle.server_meanings.specs.Grammar.{FileCommand}
use Rattle.server_meanings.specs.Serving.{Setting, commanded}
use Rattle.server_phases.specs.declared.listing.Listing.{Listing}
use Rattle.server_phases.specs.declared.listing.ListingReply.{ListingReply}
use Rattle.server_phases.specs.declared.listing.NotAdded as reason
use Rattle.server_phases.specs.declared.listing.NotAdded.TheVariants as not_added
use Rattle.server_phases.specs.Gathering.{Brought, EndsList, FailsList, Holds, IsListingFor, StaysBut}
use Rattle.server_phases.specs.Gathering.{all_bytes, all_found, bytes_of, entries_of, error_of, look_up}
use Rattle.server_phases.specs.Gathering.{look_ups, put_at, served_list}
use Rattle.server_phases.specs.Waiting.{first_call}
use Rattle.fs_chain.specs.declared.error.ChainError.{ChainError}
use Rattle.fs_chain.specs.declared.error.ChainError.TheVariants as error
use Rattle.fs_chain.specs.declared.listing.AddOutcome.{AddOutcome}
use Rattle.fs_chain.specs.declared.listing.AddOutcome.TheVariants as added
use Rattle.fs_chain.specs.declared.state.InFlight.{InFlight}
use Rattle.fs_chain.specs.declared.state.ChainState as state
use Rattle.fs_chain.specs.declared.state.ChainState.TheVariants as at
use Rattle.fs_chain.specs.declared.chain_handle.ChainHandle.{ChainHandle}
use Rattle.fs_chain.specs.Tickets.{ticket_error}

-- the result that is returned for an entry
abbrev pub added_of : Result (Unit {0}) reason.NotAdded → Result AddOutcome ChainError
added_of (Ok done) = Ok added.In
added_of (Err not_added.OtherKind) = Err error.OtherKind
added_of (Err not_added.Full) = Ok added.Full
added_of (Err not_added.NoRoom) = Ok added.NoRoom
added_of (Err not_added.TooLong) = Ok added.TooLong
added_of (Err not_added.ShortList) = Err error.ShortBuffer

-- how an entry changes a listing and its list, and the consequences if it isn't added. If it is added, its
-- bytes are put into the list behind the entries before it; no other byte changes
pub record Adds (old new : Listing) (list list' : List ℕ) (e : Brought)
    (outcome : Result (Unit {0}) reason.NotAdded) : Type 0 where
  pub put : outcome ≡ Ok tt →
      list' ≡ put_at old.len (bytes_of old.with_nodes e) list
  pub holds : outcome ≡ Ok tt →
      (es : List Brought) →
      Holds old list es →
      Holds new list' (es ++ e ∷ [])
  pub full : outcome ≡ Err not_added.Full →
      EndsList old list e
  pub fails : (why : reason.NotAdded) (errno : ℕ) →
      outcome ≡ Err why →
      error_of why ≡ Some errno →
      FailsList old list e errno
  pub same : (why : reason.NotAdded) →
      outcome ≡ Err why →
      (new ≡ old) × (list' ≡ list)
  pub stays : StaysBut old new

-- the caller adds an entry to the listing that is being answered, with this result; every other state
-- refuses it
abbrev pub AddsTo : (old new : state.ChainState) → (list list' : List ℕ) → Brought →
    (outcome : Listing → Result (Unit {0}) reason.NotAdded) → Result AddOutcome ChainError → Type 0
AddsTo (at.Listing out l) new list list' e outcome result =
    (result ≡ added_of (outcome l))
    × ((now : Listing) × (new ≡ at.Listing out now) × Adds l now list list' e (outcome l))
AddsTo (at.Decoded out w) new list list' e outcome result =
    (result ≡ Err error.OtherKind) × (new ≡ at.Decoded out w) × (list' ≡ list)
AddsTo old new list list' e outcome result =
    (result ≡ Err error.WrongOrder) × (new ≡ old) × (list' ≡ list)

-- the length of the list that has the listing's entries, after a call that added one or none
abbrev pub list_after : (before len : ℕ) → Result AddOutcome ChainError → ℕ
list_after before len (Ok added.In) = len
list_after before len _ = before

-- why an entry can't be added to a list of this length: the entries so far are in a list of another
-- length. `before` is 0 if there are none
abbrev pub list_error : state.ChainState → (before len : ℕ) → Option ChainError
list_error (at.Listing out l) before len =
    if not (before == 0) && not (before == len) then Some error.BadArgument else None
list_error _ before len = None

-- why an entry with this number can't be added: no call is in flight, another one is, or the list is
-- another one
abbrev pub adding_error : ChainHandle → (ticket len : ℕ) → Option ChainError
adding_error w ticket len =
    option_or (ticket_error w.state w.ticket ticket) (list_error w.state w.list_len len)

-- the handle keeps a listing's reply: its front, and how many bytes of the list are its data
abbrev pub answered_by : InFlight → ListingReply → state.ChainState
answered_by out reply = at.Replied out (record { front = Some reply.front; behind = reply.len })

-- the reply to a listing that has these entries
abbrev pub IsListReply : Listing → ListingReply → Type 0
IsListReply l reply =
    (s : Setting) (command : FileCommand) (list : List ℕ) (es : List Brought)
    → IsListingFor l s.room command
    → Holds l list es
    → commanded s command (Entries (entries_of es) ∷ all_found l.with_nodes es)
    ≡ served_list (first_call command ∷ look_ups command es) s.options reply list

-- how a listing that failed ends. The reply is the error alone; if READDIRPLUS has entries already, it is
-- these entries, since the client holds their nodes
pub record IsFailedReply (l : Listing) (errno : ℕ) (reply : ListingReply) : Type 0 where
  pub bytes : (list : List ℕ) (es : List Brought)
      → Holds l list es
      → reply.front ++ take reply.len list
      ≡ listing_bytes l.unique l.with_nodes (all_bytes l.with_nodes es) (Some errno)
  pub alone : (l.with_nodes && nat_lt 0 l.len) ≡ false
      → (s : Setting) (command : FileCommand) (list : List ℕ)
      → IsListingFor l s.room command
      → commanded s command (Failed errno ∷ []) ≡ served_list (first_call command ∷ []) s.options reply list
  pub looked_up : l.with_nodes ≡ true
      → (s : Setting) (command : FileCommand) (list : List ℕ) (es : List Brought) (d : Listed)
      → IsListingFor l s.room command
      → Holds l list es
      → is_dot d.name ≡ false
      → commanded s command (Entries (entries_of es ++ d ∷ []) ∷ (all_found true es ++ Failed errno ∷ []))
      ≡ served_list (first_call command ∷ (look_ups command es ++ look_up command d)) s.options reply list

-- a listing that is being answered ends with its reply; every other state refuses
abbrev pub RepliesBy :
    (Listing → ListingReply → Type 0) → (old new : state.ChainState) → Result ℕ ChainError → Type 0
RepliesBy P (at.Listing out l) new result =
    (reply : ListingReply) × (result ≡ Ok reply.len) × (new ≡ answered_by out reply) × P l reply
RepliesBy P (at.Decoded out w) new result = (result ≡ Err error.OtherKind) × (new ≡ at.Decoded out w)
RepliesBy P old new result = (result ≡ Err error.WrongOrder) × (new ≡ old)

-- it ends with the entries so far
abbrev pub EndsByEntries : (old new : state.ChainState) → Result ℕ ChainError → Type 0
EndsByEntries old new result = RepliesBy IsListReply old new result

-- it ends with an error
abbrev pub EndsByError : (errno : ℕ) → (old new : state.ChainState) → Result ℕ ChainError → Type 0
EndsByError errno old new result = RepliesBy (λ l reply. IsFailedReply l errno reply) old new result
