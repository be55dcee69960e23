-- What a call waits for decides what comes of its answer.
use Rattle.std.proofs.Common.{◌≡◌, ◌+◌, ◌<◌, ◌≤◌, ℕ, Bool, true, false, List, [], ◌∷◌, length, Some, None, cond, refl, sym, ap, subst, ◌∙◌}
use Rattle.std.proofs.Common.{arith}
use Rattle.std.specs.Prelude.{nat_lt, nat_le}
use Rattle.std.proofs.lemmas.Bool.{lt-ltb, le-ltb}
use Rattle.std.proofs.lemmas.Bool.Decides.{nat_tests}
use Rattle.fuse_fs.specs.declared.answers.Context.{Context}
use Rattle.fuse_fs.specs.Calls.{FileCall, FileAnswer, Lookup, Symlink, Mknod, Mkdir, Link, Create, Destroy}
use Rattle.fuse_fs.specs.Calls.{Failed}
use Rattle.fuse_values.specs.declared.answer.FileAnswer as made
use Rattle.fuse_values.specs.declared.answer.FileAnswer.TheVariants as value
use Rattle.fuse_values.specs.Answers.{answer_of}
use Rattle.server_calls.specs.Requests.{is_silent, options_after, forget_entry, forget_node, entry_node}
use Rattle.server_replies.specs.WholeReplies.{reply_bytes, error_bytes, bytes_of_answer}
use Rattle.server_replies.proofs.ReplyLemmas.{length_reply}
use Rattle.server_segments.specs.declared.error.Error.TheVariants.{EncodeMessage}
use Rattle.server_meanings.specs.Grammar.{FileCommand, One, Starts, Lists}
use Rattle.server_meanings.specs.Listings.{readdir_call}
use Rattle.server_meanings.specs.Serving.{Setting, ServedMessage, commanded, replied, undone}
use Rattle.server_phases.specs.declared.answering.Sent.TheVariants as sent
use Rattle.server_phases.specs.declared.waiting.Awaits.{Awaits}
use Rattle.server_phases.specs.declared.waiting.Awaits.TheVariants as awaits
use Rattle.server_phases.specs.declared.waiting.Waiting.{Waiting}
use Rattle.server_calls.specs.Callers.{IsFor}
use Rattle.server_phases.specs.Waiting.{awaits_of, WaitsFor, first_call}
use Rattle.server_phases.specs.Answering.{ReportsBytes, reports_nothing, leaves_options, brings_entry, takes, back_by, served_by, data_of}
use Rattle.server_phases.specs.Answering.{init_offer_of}

silent_same : (call : FileCall) → is_silent call ≡ reports_nothing (awaits_of call)
silent_same Destroy = refl
silent_same _ = refl

options_same : (options : ℕ) (call : FileCall) → options_after options call ≡ leaves_options options (awaits_of call)
options_same options Destroy = refl
options_same options _ = refl

back_same : (who : Context) (call : FileCall) (answer : FileAnswer) → IsFor who call →
    forget_entry call answer ≡ back_by (brings_entry (awaits_of call)) who answer
back_same who (Lookup c n name) answer e = ap (λ (w : Context). forget_node w (entry_node answer)) e
back_same who (Symlink c l n name x) answer e = ap (λ (w : Context). forget_node w (entry_node answer)) e
back_same who (Mknod c n name m r u x) answer e = ap (λ (w : Context). forget_node w (entry_node answer)) e
back_same who (Mkdir c n name m u x) answer e = ap (λ (w : Context). forget_node w (entry_node answer)) e
back_same who (Link c o n name) answer e = ap (λ (w : Context). forget_node w (entry_node answer)) e
back_same who (Create c n name m k f u x) answer e = ap (λ (w : Context). forget_node w (entry_node answer)) e
back_same who _ answer e = refl

pub none_back : (t : Bool) (undo : List FileCall) → undo ≡ [] → cond t undo [] ≡ []
none_back true undo e = e
none_back false undo e = refl

-- data that has room, or has none
pub data_by : (t : Bool) (room options : ℕ) (call : FileCall) (reply : List ℕ) → nat_lt room (length reply) ≡ t
    → replied room (call ∷ undone room reply []) options reply
    ≡ cond t (served_by (call ∷ []) options sent.NoRoom []) (record { calls = call ∷ []; options = options; reply = reply; fault = None })
data_by true room options call reply e = rw e refl
data_by false room options call reply e = rw e refl

pub data_fits : (room unique options : ℕ) (call : FileCall) (bytes : List ℕ) (len : ℕ) → len ≡ length bytes → nat_le (16 + len) room ≡ true
    → replied room (call ∷ undone room (reply_bytes unique bytes) []) options (reply_bytes unique bytes)
    ≡ record { calls = call ∷ []; options = options; reply = reply_bytes unique bytes; fault = None }
data_fits room unique options call bytes len e t =
    let fits : 16 + len ≤ room = grind (arith, nat_tests, t) in
    data_by false room options call (reply_bytes unique bytes)
    (le-ltb room (length (reply_bytes unique bytes)) (omega (arith, length_reply unique bytes, e, fits)))

pub data_long : (room unique options : ℕ) (call : FileCall) (bytes : List ℕ) (len : ℕ) → len ≡ length bytes → nat_le (16 + len) room ≡ false
    → replied room (call ∷ undone room (reply_bytes unique bytes) []) options (reply_bytes unique bytes)
    ≡ record { calls = call ∷ []; options = options; reply = []; fault = Some EncodeMessage }
data_long room unique options call bytes len e t =
    let long : room < 16 + len = grind (arith, nat_tests, t) in
    data_by true room options call (reply_bytes unique bytes)
    (lt-ltb room (length (reply_bytes unique bytes)) (omega (arith, length_reply unique bytes, e, long)))

-- the reply to what a call waits for, without data
abbrev pub Placed : Setting → Waiting → FileCall → FileAnswer → ServedMessage → Type 0
Placed s w call a given =
    replied s.room (call ∷ undone s.room (bytes_of_answer (reports_nothing w.awaits) w.unique a)
    (back_by (brings_entry w.awaits) w.context a))
    (leaves_options s.options w.awaits) (bytes_of_answer (reports_nothing w.awaits) w.unique a) ≡ given

-- a listing waits for no value of an answer but an error
failed_list : (s : Setting) (w : Waiting) (unique : ℕ) (call : FileCall) (with_nodes : Bool) (size errno : ℕ) (given : ServedMessage)
    → w.unique ≡ unique
    → w.awaits ≡ awaits.Entries with_nodes size → Placed s w call (Failed errno) given
    → replied s.room (call ∷ []) s.options (error_bytes unique errno) ≡ given
failed_list s w unique call with_nodes size errno given a b h =
    let bytes = error_bytes unique errno in
    let none = none_back (nat_lt s.room (length bytes)) [] refl in
    let h1 : Placed s (record { unique = unique; context = w.context; awaits = awaits.Entries with_nodes size; room = w.room }) call
    (Failed errno) given =
    subst (λ (u : ℕ). Placed s (record { unique = u; context = w.context; awaits = awaits.Entries with_nodes size; room = w.room }) call
    (Failed errno) given) a
    (subst (λ (x : Awaits). Placed s (record { unique = w.unique; context = w.context; awaits = x; room = w.room }) call (Failed errno)
    given) b h) in
    ap (λ (l : List FileCall). replied s.room (call ∷ l) s.options bytes) (sym none) ∙ h1

pub single_gives : (s : Setting) (w : Waiting) (command : FileCommand) (bytes : List ℕ) (answer : made.FileAnswer) (given : ServedMessage)
    → WaitsFor w command
    → ReportsBytes bytes answer → takes w.awaits (answer_of bytes answer) ≡ true → data_of answer ≡ None → init_offer_of w.awaits ≡ None
    → Placed s w (first_call command) (answer_of bytes answer) given → commanded s command (answer_of bytes answer ∷ []) ≡ given
single_gives s w (One unique call) bytes answer given waits t taken plain single h =
    let a = answer_of bytes answer in
    let h1 : Placed s (record { unique = unique; context = w.context; awaits = awaits_of call; room = w.room }) call a given =
    subst (λ (u : ℕ). Placed s (record { unique = u; context = w.context; awaits = awaits_of call; room = w.room }) call a given) waits.0
    (subst (λ (x : Awaits). Placed s (record { unique = w.unique; context = w.context; awaits = x; room = w.room }) call a given)
    waits.1 h) in
    rw (silent_same call, back_same w.context call a waits.2, options_same s.options call) h1
single_gives s w (Starts unique capable readahead) bytes answer given waits t taken plain single h =
    let clash : Some (capable, readahead) ≡ None = ap init_offer_of (sym waits.1) ∙ single in absurd (cc)
single_gives s w (Lists unique l) bytes (value.Failed errno) given waits t taken plain single h =
    failed_list s w unique (readdir_call l) l.with_nodes l.size errno given waits.0 waits.1 h
single_gives s w (Lists unique l) bytes answer given waits t taken plain single h =
    let clash : false ≡ true = ap (λ (a : Awaits). takes a (answer_of bytes answer)) (sym waits.1) ∙ taken in absurd (cc)

-- data or none, the answer says so
pub no_data : (bytes : List ℕ) (answer : made.FileAnswer) → ReportsBytes bytes answer → data_of answer ≡ None → bytes ≡ []
no_data bytes (value.Bytes len) t e = absurd (cc)
no_data bytes _ t e = t
