-- Listings that the caller answers entry by entry, and the server's result for them.
use Rattle.std.specs.Prelude.{◌≡◌, ℕ, ◌+◌, ◌-◌, ◌^◌, ◌≤◌, Bool, true, false, not, ◌&&◌, nat_lt, nat_le, List}
use Rattle.std.specs.Prelude.{[], ◌∷◌, ◌++◌, length, take, drop, map, Option, Some, None, Result, Ok, Err}
use Rattle.std.specs.Prelude.{if◌then◌else◌}
use Rattle.fuse_fs.specs.declared.answers.Entry.{Entry}
use Rattle.fuse_fs.specs.Calls.{FileCall, FileAnswer, Listed, Lookup, HasEntry, Entries}
use Rattle.server_replies.specs.Entries.{entry_len, entry_bytes, is_dot, no_node, EIO, EOVERFLOW}
use Rattle.server_replies.specs.WholeReplies.{listing_bytes}
use Rattle.server_meanings.specs.Grammar.{FileCommand, Lists}
use Rattle.server_meanings.specs.Listings.{forget_lookup}
use Rattle.server_meanings.specs.Serving.{ServedMessage, Setting, commanded}
use Rattle.server_phases.specs.declared.listing.Listing.{Listing}
use Rattle.server_phases.specs.declared.listing.ListingReply.{ListingReply}
use Rattle.server_phases.specs.declared.listing.NotAdded.{NotAdded}
use Rattle.server_phases.specs.declared.listing.NotAdded.TheVariants as not_added
use Rattle.server_phases.specs.Waiting.{first_call}

-- an entry with the answer of its lookup, if there was one
abbrev pub Brought : Type 0
Brought = Listed × Entry ℕ

-- an entry is looked up in READDIRPLUS, unless it is `.` or `..`
abbrev pub is_looked_up : (with_nodes : Bool) → Listed → Bool
is_looked_up with_nodes d = with_nodes && not (is_dot d.name)

-- the node of an entry in the reply
abbrev pub node_of : Brought → Entry ℕ
node_of e = if is_dot e.0.name then no_node e.0 else e.1

-- the bytes of an entry in the list
abbrev pub bytes_of : (with_nodes : Bool) → Brought → List ℕ
bytes_of with_nodes e = entry_bytes with_nodes (node_of e) e.0

-- the bytes of entries, one behind another
abbrev pub all_bytes : (with_nodes : Bool) → List Brought → List ℕ
all_bytes with_nodes [] = []
all_bytes with_nodes (e ∷ es) = bytes_of with_nodes e ++ all_bytes with_nodes es

-- the answer of an entry's lookup, if there was one
abbrev pub found_of : (with_nodes : Bool) → Brought → List FileAnswer
found_of with_nodes e = if is_looked_up with_nodes e.0 then HasEntry e.1 ∷ [] else []

-- the answers of the lookups, in their order
abbrev pub all_found : (with_nodes : Bool) → List Brought → List FileAnswer
all_found with_nodes [] = []
all_found with_nodes (e ∷ es) = found_of with_nodes e ++ all_found with_nodes es

-- the LOOKUP of an entry in a listing, if it is looked up
abbrev pub look_up : FileCommand → Listed → List FileCall
look_up (Lists unique l) d = if is_looked_up l.with_nodes d then Lookup l.context l.node d.name ∷ [] else []
look_up command d = []

-- the LOOKUPs of the entries, in their order
abbrev pub look_ups : FileCommand → List Brought → List FileCall
look_ups command [] = []
look_ups command (e ∷ es) = look_up command e.0 ++ look_ups command es

-- the FORGET of an entry's node in READDIRPLUS: node 0 for `.` and `..`
abbrev pub forget_listed : FileCommand → Brought → List FileCall
forget_listed (Lists unique l) e = if l.with_nodes then forget_lookup l.context (node_of e).inode
    ∷ [] else []
forget_listed command e = []

-- the entries without their nodes
abbrev pub entries_of : List Brought → List Listed
entries_of es = map (λ e. e.0) es

-- a listing belongs to this command and this room: `room` of the listing is the room behind the header
abbrev pub IsListingFor : Listing → (room : ℕ) → FileCommand → Type 0
IsListingFor l room (Lists unique asked) =
    (l.unique ≡ unique)
    × (l.with_nodes ≡ asked.with_nodes)
    × (l.size ≡ asked.size)
    × (l.room ≡ room - 16)
    × (16 ≤ room)
IsListingFor l room command = ⊥

-- a command is a listing
abbrev pub is_list_command : FileCommand → Bool
is_list_command (Lists unique l) = true
is_list_command command = false

-- the bytes of the entries so far are at the front of a list
pub record Holds (l : Listing) (list : List ℕ) (es : List Brought) : Type 0 where
  pub long : l.len ≡ length (all_bytes l.with_nodes es)
  pub stands : take l.len list ≡ all_bytes l.with_nodes es

-- an entry that doesn't fit in the size ends the list. The reply has the entries before it, and in
-- READDIRPLUS its node is forgotten; the entries behind it don't matter
abbrev pub EndsList : Listing → (list : List ℕ) → Brought → Type 0
EndsList l list e =
    (s : Setting) (command : FileCommand) (es : List Brought) (behind : List Listed)
    (answers : List FileAnswer)
    → IsListingFor l s.room command
    → Holds l list es
    →
    let before = commanded s command (Entries (entries_of es) ∷ all_found l.with_nodes es) in
    commanded s command (Entries (entries_of es ++ e.0 ∷ behind)
    ∷ (all_found l.with_nodes es ++ (found_of l.with_nodes e ++ answers)))
    ≡ record before { calls = before.calls ++ (look_up command e.0 ++ forget_listed command e) }

-- an entry fails the list with this error. The reply is that of an error after the entries before
-- it, and in READDIRPLUS its node is forgotten; the entries behind it don't matter
abbrev pub FailsList : Listing → (list : List ℕ) → Brought → (errno : ℕ) → Type 0
FailsList l list e errno =
    (s : Setting) (command : FileCommand) (es : List Brought) (behind : List Listed)
    (answers : List FileAnswer)
    → IsListingFor l s.room command
    → Holds l list es
    →
    commanded s command (Entries (entries_of es ++ e.0 ∷ behind)
    ∷ (all_found l.with_nodes es ++ (found_of l.with_nodes e ++ answers)))
    ≡ record {
      calls = first_call command
          ∷ (look_ups command es ++ (look_up command e.0 ++ forget_listed command e));
      options = s.options;
      reply = listing_bytes l.unique l.with_nodes (all_bytes l.with_nodes es) (Some errno);
      fault = None;
    }

-- the error with which an entry that wasn't added fails the list, if it does
abbrev pub error_of : NotAdded → Option ℕ
error_of not_added.NoRoom = Some EIO
error_of not_added.TooLong = Some EOVERFLOW
error_of _ = None

-- an entry of the listing's kind is added, or the first of these holds: its name is too long, or it
-- doesn't fit in the rest of the size, of the room, or of the list
abbrev pub placed : Listing → (list_len : ℕ) → (name_len : ℕ) → Result (Unit {0}) NotAdded
placed l list_len name_len =
    if nat_le (2 ^ 32) name_len then Err not_added.TooLong
    else if nat_lt (l.size - l.len) (entry_len l.with_nodes name_len) then Err not_added.Full
    else if nat_lt (l.room - l.len) (entry_len l.with_nodes name_len) then Err not_added.NoRoom
    else if nat_lt list_len (l.len + entry_len l.with_nodes name_len) then Err not_added.ShortList
    else Ok tt

-- an entry without a node is added, unless the listing is a READDIRPLUS
abbrev pub added_plain : Listing → (list_len : ℕ) → (name_len : ℕ) → Result (Unit {0}) NotAdded
added_plain l list_len name_len = if l.with_nodes then Err not_added.OtherKind else placed l list_len name_len

-- an entry with a node is added, unless the listing is a READDIR
abbrev pub added_found : Listing → (list_len : ℕ) → (name_len : ℕ) → Result (Unit {0}) NotAdded
added_found l list_len name_len = if l.with_nodes then placed l list_len name_len else Err not_added.OtherKind

-- a list in which these bytes replace those from `at` on
abbrev pub put_at : (at : ℕ) → (bytes list : List ℕ) → List ℕ
put_at at bytes list = take at list ++ bytes ++ drop (at + length bytes) list

-- only the length of a listing has changed
abbrev pub StaysBut : (old new : Listing) → Type 0
StaysBut old new =
    (new.unique ≡ old.unique)
    × (new.with_nodes ≡ old.with_nodes)
    × (new.size ≡ old.size)
    × (new.room ≡ old.room)

-- the server's result of these calls: the reply with the first `len` bytes of the list as its data
abbrev pub served_list : List FileCall → (options : ℕ) → ListingReply → (list : List ℕ) → ServedMessage
served_list calls options reply list =
    record { calls = calls; options = options; reply = reply.front ++ take reply.len list; fault = None }
