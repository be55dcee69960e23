-- The server's calls and reply for a meaning, from the answers so far.
use Rattle.std.specs.Prelude.{◌≡◌, ℕ, ◌-◌, nat_lt, List, [], ◌∷◌, map, length, Option, Some}
use Rattle.std.specs.Prelude.{None, Result, Ok, Err, if◌then◌else◌, bit_and, bit_or, MatchBool}
use Rattle.fuse_fs.specs.Calls.{FileCall, FileAnswer, FileRun, Init, Failed, Done}
use Rattle.fuse_fs.specs.Calls.{Entries, Wants}
use Rattle.server_segments.specs.declared.error.Error.{Error}
use Rattle.server_segments.specs.declared.error.Error.TheVariants.{EncodeMessage}
use Rattle.server_meanings.specs.Listings.{ListRequest, ListingResult, list_entries, readdir_call}
use Rattle.server_meanings.specs.Grammar.{Meaning, IsFault, Replies, IsSilent, Asks, FileCommand, One, Starts}
use Rattle.server_meanings.specs.Grammar.{Lists, default_options}
use Rattle.server_replies.specs.WholeReplies.{reply_bytes, error_bytes, started_bytes, bytes_of_answer}
use Rattle.server_replies.specs.WholeReplies.{listing_bytes}
use Rattle.server_calls.specs.Requests.{is_silent, options_after, forget_entry}
pub use Rattle.server_segments.specs.Errors.{is_memory, lacks_memory}

-- a result of serving: the calls so far, the last of which may still wait for its answer, the
-- options after them, the reply, and the fault if there is one
pub record ServedMessage : Type 0 where
  pub calls : List FileCall
  pub options : ℕ
  pub reply : List ℕ
  pub fault : Option Error

-- the reply to a call's answer
abbrev pub answer_bytes : ℕ → FileCall → FileAnswer → List ℕ
answer_bytes unique call answer = bytes_of_answer (is_silent call) unique answer

-- the agreed options: those of the client that the file system wants or that are agreed by default
abbrev pub agreed : (capable wanted : ℕ) → ℕ
agreed capable wanted = bit_and capable (bit_or wanted default_options)

-- the reply to an answer of INIT
abbrev pub start_answered : (page_size unique capable readahead : ℕ) → FileAnswer → List ℕ
start_answered page_size unique capable readahead (Wants wanted) =
    reply_bytes unique (started_bytes page_size readahead (agreed capable wanted))
start_answered page_size unique capable readahead (Failed errno) = error_bytes unique errno
start_answered page_size unique capable readahead _ = []

-- the options after an answer of INIT
abbrev pub start_options : (options capable : ℕ) → FileAnswer → ℕ
start_options options capable (Wants wanted) = agreed capable wanted
start_options options capable _ = options

-- a result without a reply: a fault, or silence
abbrev pub no_reply : List FileCall → ℕ → Option Error → ServedMessage
no_reply calls options fault = record { calls = calls; options = options; reply = []; fault = fault }

-- a result with the whole reply, or the fault EncodeMessage if it is longer than the reply buffer
abbrev pub replied : (room : ℕ) → List FileCall → ℕ → List ℕ → ServedMessage
replied room calls options bytes =
    if nat_lt room (length bytes) then no_reply calls options (Some EncodeMessage)
    else record { calls = calls; options = options; reply = bytes; fault = None }

-- the input of serving besides a meaning: page size, agreed options and the reply buffer's length
pub record Setting : Type 0 where
  pub page_size : ℕ
  pub options : ℕ
  pub room : ℕ

-- these three as a setting
abbrev pub setting : (page_size options room : ℕ) → Setting
setting page_size options room = record { page_size = page_size; options = options; room = room }

-- the result of a listing that ended: its calls and its reply
abbrev pub list_ended : Setting → ℕ → ListRequest → ListingResult → ServedMessage
list_ended s unique l w =
    replied s.room (readdir_call l ∷ w.calls) s.options (listing_bytes unique l.with_nodes w.bytes w.error)

-- the result of a listing by its answers, the first of which is the list of entries
abbrev pub list_answered : Setting → ℕ → ListRequest → FileAnswer → List FileAnswer → ServedMessage
list_answered s unique l (Entries ds) answers =
    list_ended s unique l (list_entries l ds l.size (s.room - 16) answers)
list_answered s unique l (Failed errno) answers =
    replied s.room (readdir_call l ∷ []) s.options (error_bytes unique errno)
list_answered s unique l _ answers = no_reply (readdir_call l ∷ []) s.options None

-- the calls that undo a reply, if it is longer than the reply buffer; else none
abbrev pub undone : (room : ℕ) → (reply : List ℕ) → (undo : List FileCall) → List FileCall
undone room reply undo = if nat_lt room (length reply) then undo else []

-- the result of one answered call; an entry whose reply doesn't fit in the reply buffer is forgotten
abbrev pub one_answered : Setting → ℕ → FileCall → FileAnswer → ServedMessage
one_answered s unique call answer =
    let bytes = answer_bytes unique call answer in
    replied s.room (call ∷ undone s.room bytes (forget_entry call answer))
    (options_after s.options call) bytes

-- the result of a command by its answers so far; without an answer there is no reply yet
abbrev pub commanded : Setting → FileCommand → List FileAnswer → ServedMessage
commanded s (One unique call) [] = no_reply (call ∷ []) s.options None
commanded s (One unique call) (answer ∷ answers) = one_answered s unique call answer
commanded s (Starts unique capable readahead) [] = no_reply (Init capable ∷ []) s.options None
commanded s (Starts unique capable readahead) (answer ∷ answers) =
    replied s.room (Init capable ∷ []) (start_options s.options capable answer)
    (start_answered s.page_size unique capable readahead answer)
commanded s (Lists unique l) [] = no_reply (readdir_call l ∷ []) s.options None
commanded s (Lists unique l) (answer ∷ answers) = list_answered s unique l answer answers

-- the result of a meaning by the answers so far
abbrev pub served : Setting → Meaning → List FileAnswer → ServedMessage
served s (IsFault fault) answers = no_reply [] s.options (Some fault)
served s (Replies bytes) answers = replied s.room [] s.options bytes
served s IsSilent answers = no_reply [] s.options None
served s (Asks command) answers = commanded s command answers

-- the server's return value and written bytes, after these calls, as a result of serving
abbrev pub served_of : List FileCall → (options : ℕ) → Result ℕ Error → (written : List ℕ) → ServedMessage
served_of calls options (Ok n) written =
    record { calls = calls; options = options; reply = written; fault = None }
served_of calls options (Err fault) written = no_reply calls options (Some fault)

-- the answers that a file system may give: state before, call, answer, state after
abbrev pub May : Type 0 → Type 1
May F = F → FileCall → FileAnswer → F → Type 0

-- calls with the answer Done
abbrev pub all_done : List FileCall → List (FileCall × FileAnswer)
all_done calls = map (λ call. (call, Done)) calls

-- a request is served: the file system may answer its calls so, from one state to another, and the
-- result is that of these answers
pub record Serves {F : Type 0} (may : May F) (s : Setting) (m : Meaning) (before : F)
    (result : Result ℕ Error) (written : List ℕ) (options : ℕ) (after : F) : Type 0 where
  pub steps : List (FileCall × FileAnswer)
  pub run : FileRun may before steps after
  pub gives :
      served s m (map (λ step. step.1) steps) ≡ served_of (map (λ step. step.0) steps) options result written

-- a request is served, or an allocation failed and nothing has changed
abbrev pub Handles : {F : Type 0} → May F → Setting → Meaning → F → Result ℕ Error → List ℕ → ℕ → F → Type 0
Handles may s m before result written options after =
    MatchBool (lacks_memory result) ((options ≡ s.options)
    × (after ≡ before)) (Serves may s m before result written options after)
