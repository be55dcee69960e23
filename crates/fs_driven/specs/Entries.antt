-- The entries of a listing as one command of a driver brings them: how the listing ends, and its events.
use Rattle.std.specs.Prelude.{◌≡◌, ℕ, ◌==◌, List, [], ◌∷◌, ◌++◌, drop, take, Option, Some, None}
use Rattle.std.specs.Prelude.{Result, Ok, Err, if◌then◌else◌}
use Rattle.fuse_fs.specs.Calls.{Listed}
use Rattle.fuse_fs.specs.declared.answers.Entry.{Entry}
use Rattle.server_replies.specs.Entries.{EIO, EOVERFLOW, no_node}
use Rattle.server_phases.specs.Gathering.{Brought, added_found, added_plain, entries_of}
use Rattle.server_phases.specs.declared.listing.Listing.{Listing}
use Rattle.server_phases.specs.declared.listing.NotAdded.{NotAdded}
use Rattle.plain_machine.specs.Step.{Calls}
use Rattle.live_machine.specs.Live.{InFlightChain, LiveEvent, ReceivesAnswer, asked_chain}
use Rattle.fs_chain.specs.ListingCalls.{Ending, EndsThere, FailsAt, FullAt, Unreadable}
use Rattle.fs_chain.specs.declared.error.ChainError.{ChainError}
use Rattle.fs_chain.specs.declared.listing.AddOutcome.{AddOutcome}
use Rattle.fs_chain.specs.declared.listing.AddOutcome.TheVariants as added
use Rattle.fs_driven.specs.declared.entries.ListedEntry.{ListedEntry}

-- an entry without a node of its own
abbrev pub node_or : Listed → Option (Entry ℕ) → Entry ℕ
node_or d None = no_node d
node_or d (Some node) = node

-- an entry of the directory with this name
abbrev pub listed_as : ListedEntry → (name : List ℕ) → Listed
listed_as e name = record { ino = e.ino; offset = e.offset; kind = e.type_; name = name }

-- the entry that is brought to a listing
abbrev pub brought_of : ListedEntry → (name : List ℕ) → Brought
brought_of e name = (listed_as e name, node_or (listed_as e name) e.node)

-- entries, whose names lie one behind another
abbrev pub all_brought : List ListedEntry → (names : List ℕ) → List Brought
all_brought [] names = []
all_brought (e ∷ entries) names =
    brought_of e (take e.name_len names) ∷ all_brought entries (drop e.name_len names)

-- an entry with a node is added to a READDIRPLUS, another one to a READDIR
abbrev pub added_as :
    Option (Entry ℕ) → Listing → (list_len name_len : ℕ) → Result (Unit {0}) NotAdded
added_as None l list_len name_len = added_plain l list_len name_len
added_as (Some node) l list_len name_len = added_found l list_len name_len

-- a listing goes on, if its first entry is refused
abbrev pub refused_by : (added : ℕ) → Result AddOutcome ChainError → Option ChainError
refused_by added (Ok result) = None
refused_by added (Err e) = if added == 0 then Some e else None

-- the error with which a listing fails after this result, if it does. `failure`: that of its directory
abbrev pub errno_after : Result AddOutcome ChainError → (failure : Option ℕ) → Option ℕ
errno_after (Ok added.In) failure = failure
errno_after (Ok added.Full) failure = None
errno_after (Ok added.NoRoom) failure = Some EIO
errno_after (Ok added.TooLong) failure = Some EOVERFLOW
errno_after (Err e) failure = Some EIO

-- how a listing ends by the result of the first of these entries, if there is one. All are in the directory.
-- Of one that the list has no place for, say, the directory can't be read on
abbrev pub ending_of : Result AddOutcome ChainError → (left : List Brought) → (failure : Option ℕ) → Ending
ending_of (Ok added.In) left None = EndsThere
ending_of (Ok added.In) left (Some errno) = Unreadable errno
ending_of (Ok added.Full) (e ∷ left) failure = FullAt e (entries_of left)
ending_of (Ok added.NoRoom) (e ∷ left) failure = FailsAt e (entries_of left) EIO
ending_of (Ok added.TooLong) (e ∷ left) failure = FailsAt e (entries_of left) EOVERFLOW
ending_of last left failure = Unreadable EIO

-- each entry was added, or the result is that of one that wasn't
abbrev pub IsOfLast : Result AddOutcome ChainError → (left : List Brought) → Type 0
IsOfLast (Ok added.In) left = left ≡ []
IsOfLast last [] = ⊥
IsOfLast last (e ∷ left) = Unit {0}

-- the calls of a chain are answered one behind another, after these
abbrev pub answers_of : InFlightChain → (request : List ℕ) → (options : ℕ) → (earlier later : Calls) →
    List LiveEvent
answers_of c request options earlier [] = []
answers_of c request options earlier (step ∷ later) =
    ReceivesAnswer (asked_chain c request options earlier) step.0 step.1
    ∷ answers_of c request options (earlier ++ step ∷ []) later
