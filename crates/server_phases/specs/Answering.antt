-- The result of an answer: the reply, the options after it, and the FORGET of an entry that doesn't fit.
use Rattle.std.specs.Prelude.{◌≡◌, ℕ, ◌+◌, ◌^◌, Bool, true, false, not, ◌&&◌, nat_lt, nat_le, List, [], ◌∷◌}
use Rattle.std.specs.Prelude.{◌++◌, length, Option, Some, None, if◌then◌else◌}
use Rattle.fuse_fs.specs.declared.answers.Context.{Context}
use Rattle.fuse_fs.specs.Calls as call
use Rattle.fuse_fs.specs.Calls.{AnswerForm, IsDone, IsNeverGood, IsEntry, IsAttr, IsOpen, IsCreate, IsBytes}
use Rattle.fuse_fs.specs.Calls.{IsBytesOrCount, IsStats, IsWritten, IsOffset, IsEntries, IsInitOptions}
use Rattle.fuse_fs.specs.Calls.{is_of, suits}
use Rattle.fuse_values.specs.declared.answer.FileAnswer.{FileAnswer}
use Rattle.fuse_values.specs.declared.answer.FileAnswer.TheVariants as value
use Rattle.fuse_values.specs.Answers.{answer_of}
use Rattle.server_calls.specs.Requests.{forget_node, entry_node}
use Rattle.server_segments.specs.declared.error.Error.TheVariants.{EncodeMessage}
use Rattle.server_meanings.specs.Grammar.{FileCommand}
use Rattle.server_meanings.specs.Serving.{Setting, ServedMessage, commanded}
use Rattle.server_phases.specs.declared.answering.Answered.{Answered}
use Rattle.server_phases.specs.declared.answering.AnswerRefusal.{AnswerRefusal}
use Rattle.server_phases.specs.declared.answering.AnswerRefusal.TheVariants as refused
use Rattle.server_phases.specs.declared.answering.Sent.{Sent}
use Rattle.server_phases.specs.declared.answering.Sent.TheVariants as sent
use Rattle.server_phases.specs.declared.waiting.Awaits.{Awaits}
use Rattle.server_phases.specs.declared.waiting.Awaits.TheVariants as awaits
use Rattle.server_phases.specs.Waiting.{first_call}

-- the form of a successful answer that a call can have
abbrev pub kind_for : Awaits → AnswerForm
kind_for awaits.Entry = IsEntry
kind_for awaits.Create = IsCreate
kind_for awaits.Attr = IsAttr
kind_for awaits.Open = IsOpen
kind_for awaits.Bytes = IsBytes
kind_for (awaits.FileBytes most) = IsBytes
kind_for awaits.BytesOrCount = IsBytesOrCount
kind_for awaits.Stats = IsStats
kind_for awaits.Written = IsWritten
kind_for awaits.Offset = IsOffset
kind_for (awaits.Entries with_nodes size) = IsEntries
kind_for (awaits.InitOptions capable readahead) = IsInitOptions
kind_for awaits.Failure = IsNeverGood
kind_for _ = IsDone

-- the call can't fail
abbrev pub fails_never : Awaits → Bool
fails_never awaits.Forgotten = true
fails_never awaits.End = true
fails_never _ = false

-- the call has no reply if it succeeds
abbrev pub reports_nothing : Awaits → Bool
reports_nothing awaits.Forgotten = true
reports_nothing awaits.NoReply = true
reports_nothing awaits.End = true
reports_nothing _ = false

-- the options after a call: none after DESTROY
abbrev pub leaves_options : ℕ → Awaits → ℕ
leaves_options options awaits.End = 0
leaves_options options _ = options

-- the call answers an entry
abbrev pub brings_entry : Awaits → Bool
brings_entry awaits.Entry = true
brings_entry awaits.Create = true
brings_entry _ = false

-- the call can have this answer
abbrev pub takes : Awaits → call.FileAnswer → Bool
takes w (call.Failed errno) = not (fails_never w) && nat_lt 0 errno && nat_lt errno 4096
takes (awaits.FileBytes most) (call.Bytes bytes) = nat_le (length bytes) most
takes w answer = is_of (kind_for w) answer

-- an answer that is data has the length of these bytes; another answer has no bytes
abbrev pub ReportsBytes : (bytes : List ℕ) → FileAnswer → Type 0
ReportsBytes bytes (value.Bytes len) = len ≡ length bytes
ReportsBytes bytes _ = bytes ≡ []

-- FORGET of 1 for a node and its caller, if there is one
abbrev pub forget_calls : Option (Context × ℕ) → List call.FileCall
forget_calls None = []
forget_calls (Some node) = call.Forget node.0 node.1 1 ∷ []

-- the calls that were made, the options, and the reply, whose data behind the front are `bytes`
abbrev pub served_by : List call.FileCall → (options : ℕ) → Sent → (bytes : List ℕ) → ServedMessage
served_by calls options (sent.Reply front) bytes =
    record { calls = calls; options = options; reply = front ++ bytes; fault = None }
served_by calls options sent.NoRoom bytes =
    record { calls = calls; options = options; reply = []; fault = Some EncodeMessage }

-- the result of an answer to a command's first call is that of the server with this one answer
abbrev pub Gives : Setting → FileCommand → (bytes : List ℕ) → FileAnswer → Answered → (options : ℕ) → Type 0
Gives s command bytes answer given options =
    commanded s command (answer_of bytes answer ∷ [])
    ≡ served_by (first_call command ∷ forget_calls given.forget) options given.sent bytes

-- FORGET of 1 for the entry in an answer, if the call answers an entry
abbrev pub back_by : Bool → Context → call.FileAnswer → List call.FileCall
back_by entry who answer = if entry then forget_node who (entry_node answer) else []

-- the length of an answer that is data
abbrev pub data_of : FileAnswer → Option ℕ
data_of (value.Bytes len) = Some len
data_of _ = None

-- the options of client and server, and the client's readahead in bytes, if the call is INIT's
abbrev pub init_offer_of : Awaits → Option (ℕ × ℕ)
init_offer_of (awaits.InitOptions capable readahead) = Some (capable, readahead)
init_offer_of _ = None

-- an answer is data whose reply fits in the reply buffer, but not in its header's 32-bit length
-- (struct fuse_out_header, len)
abbrev pub is_too_long : (room : ℕ) → FileAnswer → Bool
is_too_long room (value.Bytes len) = nat_le (16 + len) room && nat_le (2 ^ 32) (16 + len)
is_too_long room _ = false

-- an answer is refused: the call can't have it, or can have it but its reply is too long
abbrev pub IsRefusedFor : AnswerRefusal → call.FileCall → (room : ℕ) → (bytes : List ℕ) → FileAnswer → Type 0
IsRefusedFor refused.OtherKind asked room bytes answer = suits asked (answer_of bytes answer) ≡ false
IsRefusedFor refused.TooLong asked room bytes answer =
    (suits asked (answer_of bytes answer) ≡ true) × (is_too_long room answer ≡ true)
