-- A request decoded for the owner of the files.
use Rattle.std.specs.Prelude.{◌≡◌, ◌==◌, ◌<◌, ◌*◌, ℕ, Bool, true, false, ◌||◌, ◌&&◌, List, [], ◌++◌}
use Rattle.std.specs.Prelude.{length, take, drop, nat_lt, nat_le, Some, None, Ok, if◌then◌else◌}
use Rattle.fuse_values.specs.declared.call.FileCall.{FileCall}
use Rattle.fuse_values.specs.declared.call.FileCall.TheVariants as value
use Rattle.fuse_values.specs.Places.{CallStandsIn}
use Rattle.fuse_values.specs.Values.{call_of, pairs_in}
use Rattle.fuse_in.specs.declared.session.InHeader.{InHeader}
use Rattle.fuse_in.specs.Records.{in_header}
use Rattle.fuse_fs.specs.declared.answers.Context.{Context}
use Rattle.fuse_fs.specs.Answers.{context_of}
use Rattle.server_requests.specs.Fronts.{first_name_at}
use Rattle.server_requests.specs.Reading.{Parser, record_parser}
use Rattle.server_segments.specs.declared.error.Error.TheVariants.{EncodeMessage}
use Rattle.server_meanings.specs.DataApart.{begins_a_write}
use Rattle.server_meanings.specs.Grammar.{Meaning, Asks, FileCommand, Given, ended, given}
use Rattle.server_meanings.specs.Serving.{Setting, setting, served, ServedMessage, no_reply}
use Rattle.server_phases.specs.declared.waiting.Waiting.{Waiting}
use Rattle.server_phases.specs.declared.asking.DecodedRequest.{DecodedRequest}
use Rattle.server_phases.specs.declared.asking.DecodedRequest.TheVariants as asked
use Rattle.server_phases.specs.declared.asking.AskedFront.{AskedFront}
use Rattle.server_phases.specs.declared.asking.AskedFront.TheVariants as asked_front
use Rattle.server_phases.specs.Waiting.{WaitsFor, first_call}

-- a WRITE has the number of its data bytes, and a BATCH_FORGET has 16 bytes a pair and no more
abbrev pub ReportsData : (bytes : List ℕ) → FileCall → Type 0
ReportsData bytes (value.Write context node handle len size offset owner delayed kill flags) =
    len ≡ length bytes
ReportsData bytes (value.BatchForget context counts) =
    length counts.bytes.now ≡ 16 * length (pairs_in counts.bytes.now)
ReportsData bytes _ = Unit {0}

-- the meaning is a command: the call is its first call, and the state has the command's kind of
-- answer and the room. bytes: the data of a WRITE
abbrev pub AsksCall : Setting → Meaning → (bytes : List ℕ) → FileCall → Waiting → Type 0
AsksCall s m bytes made w =
    (command : FileCommand)
    × (m ≡ Asks command)
    × (call_of bytes made ≡ first_call command)
    × ReportsData bytes made
    × WaitsFor w command
    × (w.room ≡ s.room)

-- the result of a request without a call: this reply
abbrev pub all_reply : (options : ℕ) → List ℕ → ServedMessage
all_reply options reply = record { calls = []; options = options; reply = reply; fault = None }

-- a request with this meaning is decoded: its first call, or the server's result without a call
abbrev pub IsDecoded : Setting → Meaning → (bytes : List ℕ) → DecodedRequest → Type 0
IsDecoded s m bytes (asked.Call made w) = AsksCall s m bytes made w
IsDecoded s m bytes (asked.Reply reply) = (served s m [] ≡ all_reply s.options reply) × (0 < length reply)
IsDecoded s m bytes asked.Silence = served s m [] ≡ all_reply s.options []
IsDecoded s m bytes (asked.Fault e) = served s m [] ≡ no_reply [] s.options (Some e)

-- a call's names, values, pairs and label are in the request at their places, the first one at this offset
abbrev pub DecodedStandsIn : (request : List ℕ) → (first : ℕ) → DecodedRequest → Type 0
DecodedStandsIn request first (asked.Call made w) = CallStandsIn request first made
DecodedStandsIn request first asked = Unit {0}

-- and the request is any header (struct fuse_in_header, 40 bytes) with the bytes behind it
abbrev pub StandsBehindHeader : (bytes : List ℕ) → (first : ℕ) → DecodedRequest → Type 0
StandsBehindHeader bytes first asked =
    (header : List ℕ) → length header ≡ 40 → DecodedStandsIn (header ++ bytes) first asked

-- a call that waits has this caller
abbrev pub IsAskedBy : Context → DecodedRequest → Type 0
IsAskedBy who (asked.Call made w) = w.context ≡ who
IsAskedBy who asked = Unit {0}

-- a call that waits has the sender of the request as its caller (struct fuse_in_header: uid, gid, pid)
abbrev pub HasAsker : (request : List ℕ) → DecodedRequest → Type 0
HasAsker request asked =
    (h : InHeader) (more : List ℕ) →
    record_parser in_header request ≡ Ok (h, more) →
    IsAskedBy (context_of h) asked

-- a reply without a call, or a fault if it doesn't fit
abbrev pub decoded_reply : (room : ℕ) → List ℕ → DecodedRequest
decoded_reply room reply =
    if nat_lt room (length reply) then asked.Fault EncodeMessage else asked.Reply reply

-- a request is decoded by a row of the grammar; bytes: those behind its header
abbrev pub IsRowDecoded : (page_size options : ℕ) → InHeader → (room : ℕ) → (Given → Parser Meaning) →
    (bytes : List ℕ) → DecodedRequest → Type 0
IsRowDecoded page_size options h room row bytes asked =
    IsDecoded (setting page_size options room) (ended h.unique (row (given h options room) bytes))
    (drop 40 bytes) asked

-- these are the first bytes of a request
abbrev pub IsRequestFront : (front request : List ℕ) → Type 0
IsRequestFront front request = take (length front) request ≡ front

-- the first bytes are enough to decode a request of `len` bytes: all of them, or all before the
-- data of a WRITE
abbrev pub front_suffices : (front : List ℕ) → (len : ℕ) → Bool
front_suffices front len =
    length front == len || (nat_le 80 (length front) && nat_le (length front) len && begins_a_write front)

-- the request was decoded from its first bytes
abbrev pub is_decoded : AskedFront → Bool
is_decoded (asked_front.Decoded asked) = true
is_decoded asked_front.More = false

-- a request with this meaning is decoded from its first bytes, if these are enough
abbrev pub IsDecodedByFront : Setting → Meaning → (bytes : List ℕ) → AskedFront → Type 0
IsDecodedByFront s m bytes (asked_front.Decoded asked) = IsDecoded s m bytes asked
IsDecodedByFront s m bytes asked_front.More = Unit {0}

-- a call decoded from the first bytes has its names, values, pairs and label there
abbrev pub FrontStandsIn : (options : ℕ) → (front : List ℕ) → AskedFront → Type 0
FrontStandsIn options front (asked_front.Decoded asked) =
    DecodedStandsIn front (first_name_at options front) asked
FrontStandsIn options front asked_front.More = Unit {0}

-- a call decoded from the first bytes has the sender of the request as its caller
abbrev pub HasAskerByFront : (request : List ℕ) → AskedFront → Type 0
HasAskerByFront request (asked_front.Decoded asked) = HasAsker request asked
HasAskerByFront request asked_front.More = Unit {0}

-- the bytes behind two headers have the same first 40 bytes, the record of a WRITE, or are equally short
abbrev pub BeginsRecord : (front bytes : List ℕ) → Type 0
BeginsRecord front bytes = take 40 front ≡ take 40 bytes
