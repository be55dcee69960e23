-- What a request is decoded to: a reply without a call, or one call.
use Rattle.std.proofs.Common.{◌≡◌, ◌+◌, ◌*◌, ◌<◌, ◌≤◌, ◌^◌, ℕ, zero, suc, drop, Bool, true, false, List, [], ◌++◌, length, Ok, Err, cond}
use Rattle.std.proofs.Common.{refl, ap, subst, sym, ◌∙◌, arith}
use Rattle.std.specs.Prelude.{◌/◌, nat_le, nat_lt}
use Rattle.std.proofs.lemmas.Bool.Decides.{nat_tests}
use Rattle.fuse_in.specs.declared.session.InHeader.{InHeader}
use Rattle.fuse_in.specs.Records.{in_header}
use Rattle.fuse_fs.specs.Answers.{context_of}
use Rattle.fuse_fs.specs.Calls.{FileCall, Init, Readdir}
use Rattle.fuse_values.specs.declared.call.FileCall as made
use Rattle.fuse_values.specs.declared.call.FileCall.TheVariants as value
use Rattle.fuse_values.specs.Values.{call_of, pairs_in, pairs_of}
use Rattle.fuse_wire.specs.Opcodes.{opcode_of}
use Rattle.server_requests.specs.Fronts.{first_name_at, forget_pair, record_len}
use Rattle.server_requests.specs.Reading.{Faults, many, record_parser, value_of}
use Rattle.server_calls.specs.Callers.{CallShows, is_plain}
use Rattle.server_calls.specs.Requests.{batch_forget_call}
use Rattle.server_replies.specs.WholeReplies.{error_bytes, reply_bytes, versions_bytes}
use Rattle.server_replies.proofs.ReplyLemmas.{length_error, length_reply}
use Rattle.server_segments.specs.declared.error.Error.{Error}
use Rattle.server_segments.specs.declared.error.Error.TheVariants.{EncodeMessage}
use Rattle.server_meanings.specs.Grammar.{Meaning, IsFault, IsSilent, Replies, Asks, One, Given, ended, forgets_asked, one}
use Rattle.server_meanings.specs.Serving.{Setting, setting}
use Rattle.server_meanings.proofs.Serve.{ask_of, ended_ask, ended_fault}
use Rattle.server_phases.specs.declared.asking.DecodedRequest.{DecodedRequest}
use Rattle.server_phases.specs.declared.asking.DecodedRequest.TheVariants as asked
use Rattle.server_phases.specs.Asking.{DecodedStandsIn, IsDecoded, IsAskedBy, HasAsker, ReportsData, StandsBehindHeader, decoded_reply}
use Rattle.server_phases.specs.Waiting.{awaits_of, is_one_call}

reply_by : (t : Bool) (page_size options room : ℕ) (reply bytes : List ℕ) → nat_lt room (length reply) ≡ t → 0 < length reply
    → IsDecoded (setting page_size options room) (Replies reply) bytes (cond t (asked.Fault EncodeMessage) (asked.Reply reply))
reply_by true page_size options room reply bytes e some = rw e refl
reply_by false page_size options room reply bytes e some = (rw e refl, some)

-- an immediate reply, if it has room
pub reply_decoded : (page_size options room : ℕ) (reply bytes : List ℕ) → 0 < length reply →
    IsDecoded (setting page_size options room) (Replies reply) bytes (decoded_reply room reply)
reply_decoded page_size options room reply bytes some = reply_by (nat_lt room (length reply)) page_size options room reply bytes refl some

-- the same of an error
pub error_decoded : (page_size options room unique errno : ℕ) (bytes : List ℕ)
    → IsDecoded (setting page_size options room) (Replies (error_bytes unique errno)) bytes (decoded_reply room (error_bytes unique errno))
error_decoded page_size options room unique errno bytes =
    reply_decoded page_size options room (error_bytes unique errno) bytes (omega (arith, length_error unique errno))

-- what has no names is decoded from any bytes
pub behind_any : (bytes : List ℕ) (first : ℕ) (a : DecodedRequest) → ((request : List ℕ) (at : ℕ) → DecodedStandsIn request at a)
    → StandsBehindHeader bytes first a
behind_any bytes first a any = λ header forty. any (header ++ bytes) first

first_by : (options : ℕ) (request left : List ℕ) (head : InHeader) → Ok (head, left) ≡ record_parser in_header request →
    40 + record_len options (opcode_of head.opcode) ≡ first_name_at options request
unfolding first_name_at
first_by options request left head e = rw (← e) refl

-- what is decoded behind a header that was read has its first name where the request's header says
pub placed_by : (options : ℕ) (request left : List ℕ) (head : InHeader) (a : DecodedRequest)
    → Ok (head, left) ≡ record_parser in_header request → (header : List ℕ) → header ++ left ≡ request
    → DecodedStandsIn (header ++ left) (40 + record_len options (opcode_of head.opcode)) a
    → DecodedStandsIn request (first_name_at options request) a
placed_by options request left head a reads header whole stands =
    subst (λ (n : ℕ). DecodedStandsIn request n a) (first_by options request left head reads)
    (subst (λ (l : List ℕ). DecodedStandsIn l (40 + record_len options (opcode_of head.opcode)) a) whole stands)

-- what is kept of a call names who sent the header
pub has_asker : (request left : List ℕ) (head : InHeader) (a : DecodedRequest) → Ok (head, left) ≡ record_parser in_header request →
    IsAskedBy (context_of head) a → HasAsker request a
has_asker request left head a reads by = λ h more e.
    let both = reads ∙ e in
    let pair : ◌≡◌ {A = InHeader × List ℕ} (head, left) (h, more) = cc in
    let same : head ≡ h = ap (λ (x : InHeader × List ℕ). x.0) pair in
    subst (λ (x : InHeader). IsAskedBy (context_of x) a) same by

single : (c : FileCall) → is_plain c ≡ true → is_one_call c ≡ true
single (Init capable) e = absurd (cc)
single (Readdir c n h s o) e = absurd (cc)
single _ e = refl

plain_not : (c d : FileCall) → c ≡ d → is_plain c ≡ false → is_plain d ≡ true → ⊥
plain_not c d e not_c is_d = let same : false ≡ true = sym not_c ∙ ap is_plain e ∙ is_d in absurd (cc)

-- the value of such a call holds no data
plain_by : (call : made.FileCall) (bytes : List ℕ) (c : FileCall) → call_of [] call ≡ c → is_plain c ≡ true →
    (call_of bytes call ≡ c) × ReportsData bytes call
plain_by (value.Write x n h b s o w d k f) bytes c e p = absurd (plain_not _ c e refl p)
plain_by (value.BatchForget x counts) bytes c e p = absurd (plain_not _ c e refl p)
plain_by call bytes c e p = (e, tt)

-- one call, with the answer that it waits for
pub call_is_decoded : (s : Setting) (h : InHeader) (bytes : List ℕ) (c : FileCall) (call : made.FileCall) (room : ℕ) → s.room ≡ room
    → CallShows h c → call_of [] call ≡ c
    → IsDecoded s (Asks (One h.unique c)) bytes
    (asked.Call call (record { unique = h.unique; context = context_of h; awaits = awaits_of (call_of [] call); room = room }))
call_is_decoded s h bytes c call room place shows e =
    let w = plain_by call bytes c e shows.0 in
    (One h.unique c, refl, w.0, w.1, (refl, ap awaits_of e, shows.1, single c shows.0), sym place)

-- a fault
pub fault_decoded : (s : Setting) (m : Meaning) (e : Error) → m ≡ IsFault e → IsDecoded s m [] (asked.Fault e)
fault_decoded s m e h = rw h refl

-- no reply
pub silence_decoded : (s : Setting) (m : Meaning) → m ≡ IsSilent → IsDecoded s m [] asked.Silence
silence_decoded s m h = rw h refl

-- a reply with the version
pub versions_decoded : (page_size options room unique : ℕ) (bytes : List ℕ)
    → IsDecoded (setting page_size options room) (Replies (reply_bytes unique versions_bytes)) bytes
    (decoded_reply room (reply_bytes unique versions_bytes))
versions_decoded page_size options room unique bytes =
    reply_decoded page_size options room (reply_bytes unique versions_bytes) bytes (omega (arith, length_reply unique versions_bytes))

length_pairs : (n : ℕ) (bytes : List ℕ) → length (pairs_of n bytes) ≡ n
unfolding pairs_of
length_pairs zero bytes = refl
length_pairs (suc n) bytes = ap suc (length_pairs n (drop 16 bytes))

-- 16 bytes a pair, and no more
pub whole_pairs : (count : ℕ) (bytes : List ℕ) → length bytes ≡ 16 * count → length bytes ≡ 16 * length (pairs_in bytes)
whole_pairs count bytes e =
    let n : length bytes / 16 ≡ count = rw e (omega arith) in
    e ∙ ap (λ k. 16 * k) (sym (length_pairs (length bytes / 16) bytes ∙ n))

-- the pairs of a BATCH_FORGET
pub forgets_read :
    (count : ℕ) (g : Given) (bytes : List ℕ) (pairs : List (ℕ × ℕ)) → count ≤ 65536 → Ok pairs ≡ value_of (many count forget_pair bytes)
    → ended g.header.unique (forgets_asked count g bytes) ≡ Asks (One g.header.unique (batch_forget_call g.header pairs))
forgets_read count g bytes pairs h e =
    let few : nat_le (count * 16) (2 ^ 20) ≡ true = grind (arith, nat_tests) in
    rw few (ended_ask g.header.unique (batch_forget_call g.header) (many count forget_pair bytes)
    ∙ ap (ask_of g.header.unique (batch_forget_call g.header)) (sym e))

pub forgets_cut :
    (count : ℕ) (g : Given) (bytes : List ℕ) (f : Error) → count ≤ 65536 → Err (Faults f) ≡ value_of (many count forget_pair bytes)
    → ended g.header.unique (forgets_asked count g bytes) ≡ IsFault f
forgets_cut count g bytes f h e =
    let few : nat_le (count * 16) (2 ^ 20) ≡ true = grind (arith, nat_tests) in
    rw few (ended_fault g.header.unique (λ x. one g (batch_forget_call g.header x.0) x.1) f (many count forget_pair bytes) e)
