-- The decoding of a chain's request: its result, and the state that the handle keeps.
use Rattle.std.specs.Prelude.{◌≡◌, ℕ, min, false, nat_lt, List, length, Option, Some, None, if◌then◌else◌}
use Rattle.fuse_fs.specs.declared.answers.Context.{Context}
use Rattle.fuse_values.specs.declared.call.FileCall.{FileCall}
use Rattle.fuse_values.specs.Places.{CallStandsIn}
use Rattle.fuse_values.specs.Values.{call_of}
use Rattle.server_requests.specs.Fronts.{first_name_at}
use Rattle.server_meanings.specs.Grammar.{Meaning, Asks, FileCommand}
use Rattle.server_meanings.specs.Serving.{Setting}
use Rattle.server_phases.specs.declared.asking.DecodedRequest.{DecodedRequest}
use Rattle.server_phases.specs.declared.asking.DecodedRequest.TheVariants as asked
use Rattle.server_phases.specs.declared.listing.Listing.{Listing}
use Rattle.server_phases.specs.declared.waiting.Waiting.{Waiting}
use Rattle.server_phases.specs.Asking.{AsksCall, ReportsData, IsDecoded, front_suffices}
use Rattle.server_phases.specs.Gathering.{IsListingFor, is_list_command}
use Rattle.server_phases.specs.Waiting.{WaitsFor, first_call}
use Rattle.fs_chain.specs.declared.decoding.Decoded.{Decoded}
use Rattle.fs_chain.specs.declared.decoding.Decoded.TheVariants as reports
use Rattle.fs_chain.specs.declared.state.InFlight.{InFlight}
use Rattle.fs_chain.specs.declared.state.ChainState as state
use Rattle.fs_chain.specs.declared.state.ChainState.TheVariants as at
use Rattle.fs_chain.specs.Walks.{no_reply}

-- the request is a listing: the handle keeps it without entries, and returns its first file call
abbrev pub AsksListing : Setting → Meaning → (bytes : List ℕ) → FileCall → Listing → Type 0
AsksListing s m bytes made l =
    (command : FileCommand)
    × (m ≡ Asks command)
    × (call_of bytes made ≡ first_call command)
    × ReportsData bytes made
    × IsListingFor l s.room command
    × (l.len ≡ 0)

-- no command that the call may belong to is a listing
abbrev pub WaitsForNoListing : Waiting → Type 0
WaitsForNoListing w = (command : FileCommand) → WaitsFor w command → is_list_command command ≡ false

-- the returned call is the command's first one; the handle keeps it, or its listing, until it is answered
abbrev pub KeepsCall : Setting → Meaning → (bytes : List ℕ) → FileCall → InFlight → state.ChainState → Type 0
KeepsCall s m bytes made out (at.Decoded kept w) =
    (kept ≡ out) × AsksCall s m bytes made w × WaitsForNoListing w
KeepsCall s m bytes made out (at.Listing kept l) = (kept ≡ out) × AsksListing s m bytes made l
KeepsCall s m bytes made out _ = ⊥

-- the result for a reply that is kept, or for silence
abbrev pub asked_of : Option (List ℕ) → DecodedRequest
asked_of None = asked.Silence
asked_of (Some front) = asked.Reply front

-- no file call is made, and the handle keeps the reply, if there is one
abbrev pub KeepsReply : Setting → Meaning → (bytes : List ℕ) → InFlight → state.ChainState → Type 0
KeepsReply s m bytes out (at.Replied kept reply) =
    (kept ≡ out) × (reply.behind ≡ 0) × IsDecoded s m bytes (asked_of reply.front)
KeepsReply s m bytes out _ = ⊥

-- a request with this meaning has this result, and its chain this state afterwards
abbrev pub ReportsMeaning :
    Setting → Meaning → (bytes : List ℕ) → InFlight → Decoded → state.ChainState → Type 0
ReportsMeaning s m bytes out (reports.Call made) kept = KeepsCall s m bytes made out kept
ReportsMeaning s m bytes out (reports.More wanted) kept = kept ≡ at.Popped out
ReportsMeaning s m bytes out reports.Nothing kept = KeepsReply s m bytes out kept
ReportsMeaning s m bytes out (reports.Fault e) kept =
    (kept ≡ at.Replied out no_reply) × IsDecoded s m bytes (asked.Fault e)

-- a call's names, values, pairs and label are in the request at their places, with these options
abbrev pub ReportStandsIn : (options : ℕ) → (request : List ℕ) → Decoded → Type 0
ReportStandsIn options request (reports.Call made) = CallStandsIn request (first_name_at options request) made
ReportStandsIn options request _ = Unit {0}

-- the call in flight keeps this context; a listing keeps none
abbrev pub IsKeptFor : Context → state.ChainState → Type 0
IsKeptFor who (at.Decoded out w) = w.context ≡ who
IsKeptFor who _ = Unit {0}

-- how many bytes of a request the library needs if these don't suffice to decode it: first those before a
-- WRITE's data, then all of them
abbrev pub wanted : (len whole : ℕ) → ℕ
wanted len whole = if nat_lt len 80 then min whole 80 else whole

-- how many bytes are needed, if the result asks for more
abbrev pub wanted_by : Decoded → Option ℕ
wanted_by (reports.More n) = Some n
wanted_by _ = None

-- how many bytes are needed after these first ones; none if they suffice
abbrev pub wanted_after : (front : List ℕ) → (whole : ℕ) → Option ℕ
wanted_after front whole = if front_suffices front whole then None else Some (wanted (length front) whole)

-- P, if a chain is in flight and its request wasn't decoded
abbrev pub IfUndecoded : state.ChainState → (InFlight → Type 0) → Type 0
IfUndecoded (at.Popped out) P = P out
IfUndecoded _ P = Unit {0}
