-- a reply's header has its length
use Rattle.std.proofs.Common.{◌≡◌, ℕ, ◌-◌, ◌<◌, ◌≤◌, Bool, true, false, List, [], ◌∷◌, length, Ok, Err, refl, ap}
use Rattle.std.proofs.Common.{sym, arith}
use Rattle.std.specs.Prelude.{if◌then◌else◌, Result, nat_lt}
use Rattle.std.specs.Int.{w32, to_le_bytes}
use Rattle.std.proofs.lemmas.Bool.{ltb-false}
use Rattle.vm_values.specs.Fields.{field_bytes}
use Rattle.fuse_fs.specs.Calls.{FileCall, FileAnswer}
use Rattle.fuse_fs.specs.Calls as call
use Rattle.server_calls.specs.Requests.{is_silent}
use Rattle.server_replies.specs.WholeReplies.{reply_bytes, error_bytes, data_reply, bytes_of_answer, listing_bytes, listing_answer}
use Rattle.server_replies.specs.WholeReplies.{started_bytes, versions_bytes}
use Rattle.server_replies.proofs.ReplyLemmas.{length_reply, length_error}
use Rattle.server_meanings.specs.Grammar.{Meaning, Replies, Asks, FileCommand, One, Starts, Lists, meaning}
use Rattle.server_meanings.specs.Listings.{ListRequest, list_entries}
use Rattle.server_meanings.specs.Serving.{Setting, served, replied, commanded, list_answered, start_answered, answer_bytes, agreed}
use Rattle.server_meanings.proofs.EachMeaning.{meaning_holds}
use Rattle.plain_machine.specs.UsedLength.{header_length}

-- the bytes of a reply, if there are any, begin with their number
abbrev pub IsHeaded : List ℕ → Type 0
IsHeaded bytes = 0 < length bytes → header_length bytes ≡ to_le_bytes w32 (length bytes)

none_headed : IsHeaded []
none_headed some = absurd (omega (arith, some))

reply_headed : (unique : ℕ) (body : List ℕ) → IsHeaded (reply_bytes unique body)
unfolding reply_bytes field_bytes
reply_headed unique body some = ap (to_le_bytes w32) (sym (length_reply unique body))

error_headed : (unique errno : ℕ) → IsHeaded (error_bytes unique errno)
unfolding error_bytes field_bytes
error_headed unique errno some = ap (to_le_bytes w32) (sym (length_error unique errno))

-- ---- the replies to answers

unless_silent : (silent : Bool) (unique : ℕ) (body : List ℕ) → IsHeaded (if silent then [] else reply_bytes unique body)
unless_silent true unique body = none_headed
unless_silent false unique body = reply_headed unique body

answer_headed : (silent : Bool) (unique : ℕ) (a : FileAnswer) → IsHeaded (bytes_of_answer silent unique a)
answer_headed silent unique (call.Failed errno) = error_headed unique errno
answer_headed silent unique _ = unless_silent silent unique _

start_headed : (page_size unique capable readahead : ℕ) (a : FileAnswer) → IsHeaded (start_answered page_size unique capable readahead a)
start_headed page_size unique capable readahead (call.Wants wanted) =
    reply_headed unique (started_bytes page_size readahead (agreed capable wanted))
start_headed page_size unique capable readahead (call.Failed errno) = error_headed unique errno
start_headed page_size unique capable readahead _ = none_headed

data_headed : (unique : ℕ) (r : Result ℕ ℕ) (bytes : List ℕ) → IsHeaded (data_reply unique r bytes)
data_headed unique (Ok n) bytes = reply_headed unique bytes
data_headed unique (Err errno) bytes = error_headed unique errno

-- ---- what a meaning replies

-- a reply that asks no file system begins with its header
abbrev pub RepliesHeaded : Meaning → Type 0
RepliesHeaded (Replies bytes) = IsHeaded bytes
RepliesHeaded _ = Unit {0}

-- a reply begins with its header, and has room
abbrev HeadedIn : (room : ℕ) → List ℕ → Type 0
HeadedIn room bytes = IsHeaded bytes × (length bytes ≤ room)

nothing_headed : (room : ℕ) → HeadedIn room []
nothing_headed room = (none_headed, omega arith)

unless_long :
    (room : ℕ) (calls : List FileCall) (options : ℕ) (bytes : List ℕ) (long : Bool) → nat_lt room (length bytes) ≡ long → IsHeaded bytes →
    HeadedIn room (if long then [] else bytes)
unless_long room calls options bytes true is headed = nothing_headed room
unless_long room calls options bytes false is headed = (headed, ltb-false room (length bytes) is)

which_reply : (room : ℕ) (calls : List FileCall) (options : ℕ) (bytes : List ℕ) (long : Bool) → HeadedIn room (if long then [] else bytes)
    → nat_lt room (length bytes) ≡ long →
    HeadedIn room (replied room calls options bytes).reply
which_reply room calls options bytes true headed is = rw is headed
which_reply room calls options bytes false headed is = rw is headed

replied_headed : (room : ℕ) (calls : List FileCall) (options : ℕ) (bytes : List ℕ) → IsHeaded bytes →
    HeadedIn room (replied room calls options bytes).reply
replied_headed room calls options bytes headed =
    which_reply room calls options bytes (nat_lt room (length bytes))
    (unless_long room calls options bytes (nat_lt room (length bytes)) refl headed) refl

listing_headed : (s : Setting) (unique : ℕ) (l : ListRequest) (a : FileAnswer) (answers : List FileAnswer) →
    HeadedIn s.room (list_answered s unique l a answers).reply
listing_headed s unique l (call.Entries ds) answers =
    let w = list_entries l ds l.size (s.room - 16) answers in
    replied_headed s.room _ s.options (listing_bytes unique l.with_nodes w.bytes w.error)
    (data_headed unique (listing_answer (length w.bytes) l.with_nodes w.error) w.bytes)
listing_headed s unique l (call.Failed errno) answers =
    replied_headed s.room _ s.options (error_bytes unique errno) (error_headed unique errno)
listing_headed s unique l _ answers = nothing_headed s.room

command_headed : (s : Setting) (command : FileCommand) (answers : List FileAnswer) → HeadedIn s.room (commanded s command answers).reply
command_headed s (One unique c) [] = nothing_headed s.room
command_headed s (One unique c) (a ∷ answers) =
    replied_headed s.room _ _ (answer_bytes unique c a) (answer_headed (is_silent c) unique a)
command_headed s (Starts unique capable readahead) [] = nothing_headed s.room
command_headed s (Starts unique capable readahead) (a ∷ answers) =
    replied_headed s.room _ _ (start_answered s.page_size unique capable readahead a)
    (start_headed s.page_size unique capable readahead a)
command_headed s (Lists unique l) [] = nothing_headed s.room
command_headed s (Lists unique l) (a ∷ answers) = listing_headed s unique l a answers

-- what is served begins with its header, and has room
served_headed : (s : Setting) (m : Meaning) (answers : List FileAnswer) → RepliesHeaded m → HeadedIn s.room (served s m answers).reply
served_headed s (Replies bytes) answers h = replied_headed s.room [] s.options bytes h
served_headed s (Asks command) answers h = command_headed s command answers
served_headed s _ answers h = nothing_headed s.room

-- ---- what a request means

meaning_headed : (options room : ℕ) (bs : List ℕ) → RepliesHeaded (meaning options bs room)
meaning_headed options room bs =
    meaning_holds (λ o m. RepliesHeaded m) options room (record {
      faults = λ o e. tt;
      sends = λ o unique errno. error_headed unique errno;
      silent = tt;
      versions = λ unique. reply_headed unique versions_bytes;
      asks = λ o command may. tt;
    }) bs

-- the reply to a request begins with its header, and has room
pub whole_headed : (s : Setting) (options room : ℕ) (bs : List ℕ) (answers : List FileAnswer) →
    IsHeaded (served s (meaning options bs room) answers).reply ×
    (length (served s (meaning options bs room) answers).reply ≤ s.room)
whole_headed s options room bs answers = served_headed s (meaning options bs room) answers (meaning_headed options room bs)
