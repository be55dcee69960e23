-- The decoding of a chain that the handle holds.
use Rattle.std.proofs.Common.{arith, append-nil, ◌≡◌, ◌+◌, ◌≤◌, ◌^◌, ℕ, List, [], ◌∷◌, ◌++◌, length, Option, Some, None, refl, subst}
use Rattle.std.proofs.Common.{drop, IfOk, OnOk, Result, Ok, Err, sym, ap, take, ◌∙◌}
use Rattle.fs_queue.specs.Taking.{readable, total_len}
use Rattle.fuse_fs.specs.Calls.{FileCall}
use Rattle.fuse_values.specs.Values.{call_of}
use Rattle.fuse_values.specs.declared.call.FileCall as made_call
use Rattle.server_meanings.specs.Grammar.{Asks, FileCommand, Lists, Meaning, One, Starts, meaning}
use Rattle.server_meanings.specs.Listings.{ListRequest}
use Rattle.server_meanings.specs.Serving.{ServedMessage, Setting, served, setting}
use Rattle.server_meanings.specs.Serving as serving_words
use Rattle.server_meanings.proofs.Serve.{served_fits}
use Rattle.server_phases.specs.Asking.{IsDecoded, IsRequestFront}
use Rattle.server_phases.specs.Gathering.{IsListingFor}
use Rattle.server_phases.specs.Waiting.{first_call}
use Rattle.server_phases.specs.declared.listing.Listing.{Listing}
use Rattle.server_phases.specs.declared.session.Session.{Session}
use Rattle.live_machine.specs.Live.{DecodesRequest, Fetched, Happens, InFlightChain, Phase, after_decoding, asked_chain, room_of}
use Rattle.live_machine.specs.Live.{room_of_phase}
use Rattle.live_machine.proofs.Queues.{none_some}
use Rattle.fs_chain.specs.Decoding.{IfUndecoded, KeepsCall, KeepsReply, ReportsMeaning, asked_of}
use Rattle.fs_chain.specs.Holds.{any_files, DecodesInRun, DecodingIs, IsDecodedIn, IsHeldIn, IsOutAs, IsUnanswered, KeepsReplyOf, RunState}
use Rattle.fs_chain.specs.Holds.{calls_decoded}
use Rattle.fs_chain.specs.Orders.{ask_error, front_in, front_len, front_of}
use Rattle.fs_chain.specs.Walks.{no_reply}
use Rattle.fs_chain.specs.declared.chain_handle.ChainHandle.{ChainHandle}
use Rattle.fs_chain.specs.declared.decoding.Decoded.{Decoded}
use Rattle.fs_chain.specs.declared.decoding.Decoded.TheVariants as asks
use Rattle.fs_chain.specs.declared.error.ChainError.{ChainError}
use Rattle.fs_chain.specs.declared.error.ChainError.TheVariants as error
use Rattle.fs_chain.specs.declared.state.ChainReply.{ChainReply}
use Rattle.fs_chain.specs.declared.state.ChainState as state
use Rattle.fs_chain.specs.declared.state.ChainState.TheVariants as at
use Rattle.fs_chain.specs.declared.state.InFlight.{InFlight}
use Rattle.fs_chain.proofs.Replies.{isnt_cut}
use Rattle.fs_chain.proofs.Held.{out_in}

-- ---- the pending call

first_waits : (s : Setting) (command : FileCommand) → (served s (Asks command) []).calls ≡ first_call command ∷ []
first_waits s (One unique call) = refl
first_waits s (Starts unique capable readahead) = refl
first_waits s (Lists unique l) = refl

pub call_waits : (s : Setting) (m : Meaning) (command : FileCommand) (c : FileCall) → m ≡ Asks command → c ≡ first_call command →
    c ∷ [] ≡ (served s m []).calls
call_waits s m command c is made =
    ap (λ (k : FileCall). k ∷ []) made ∙ sym (ap (λ (k : Meaning). (served s k []).calls) is ∙ first_waits s command)

-- ---- a reply without a call

-- a reply that is a front alone, and fits
pub keeps_front : (s : Setting) (m : Meaning) (calls : List FileCall) (given : ServedMessage) (out kept_out : InFlight)
    (kept : ChainReply)
    → kept_out ≡ out → kept.behind ≡ 0 → given.reply ≡ front_of kept → length given.reply ≤ out.room_len
    → out.room_len ≤ 2 ^ 31
    → KeepsReplyOf given.reply out kept
keeps_front s m calls given out kept_out kept same none is fits small =
    let zero : front_len kept + 0 ≡ front_len kept = omega arith in
    let len_is : front_len kept + kept.behind ≡ length given.reply =
    ap (λ (n : ℕ). front_len kept + n) none ∙ zero ∙ sym (ap length is) in
    record {
      behind = [];
      bytes = is ∙ sym (append-nil (front_of kept));
      len = isnt_cut out kept (length given.reply) len_is fits small;
    }

-- ---- what is kept

-- the result is the server's, and the handle holds the decoded chain
abbrev DecodedSo : (page_size options : ℕ) → (request : List ℕ) → InFlightChain → InFlight → Decoded → state.ChainState → Session → Type 0
DecodedSo page_size options request c out made st session =
    (calls_decoded (drop 80 request) made ≡ (served (setting page_size options out.room_len) (meaning options request out.room_len)
    []).calls)
    × IsHeldIn page_size (asked_chain c request options []) (asked_chain c request options []).phase st session
    × IsUnanswered (asked_chain c request options []).phase st

list_command : (l : Listing) (room : ℕ) (command : FileCommand) → IsListingFor l room command →
    (unique : ℕ) × (a : ListRequest) × (command ≡ Lists unique a) × IsListingFor l room (Lists unique a)
list_command l room (Lists unique a) is = (unique, a, refl, is)
list_command l room _ is = absurd is

by_call : (page_size options : ℕ) (request : List ℕ) (c : InFlightChain) (out : InFlight) (made : made_call.FileCall)
    (st : state.ChainState) (session : Session) → IsOutAs c out → IsDecodedIn page_size options session
    → KeepsCall (setting page_size options out.room_len) (meaning options request out.room_len) (drop 80 request) made out st
    → DecodedSo page_size options request c out (asks.Call made) st session
by_call page_size options request c out made (at.Decoded kept w) session is_out decoded keeps =
    let a = keeps.1 in
    let P : InFlight → Type 0 = λ o. IsHeldIn page_size (asked_chain c request options []) (asked_chain c request options []).phase
    (at.Decoded o w) session in (
      call_waits (setting page_size options out.room_len) (meaning options request out.room_len) a.0 (call_of (drop 80 request) made) a.1
          a.2,
      subst P (sym keeps.0) (
        out_in c _ _ is_out,
        refl,
        decoded,
        made,
        a,
        keeps.2,
      ),
      refl,
    )
by_call page_size options request c out made (at.Listing kept l) session is_out decoded keeps =
    let a = keeps.1 in
    let list = list_command l out.room_len a.0 a.4 in
    let P : InFlight → Type 0 = λ o. IsHeldIn page_size (asked_chain c request options []) (asked_chain c request options []).phase
    (at.Listing o l) session in (
      call_waits (setting page_size options out.room_len) (meaning options request out.room_len) a.0 (call_of (drop 80 request) made) a.1
          a.2,
      subst P (sym keeps.0) (
        out_in c _ _ is_out,
        decoded,
        list.0,
        list.1,
        a.1 ∙ ap Asks list.2,
        list.3,
        [],
        [],
        record { long = a.5; stands = ap (λ (n : ℕ). take n []) a.5 },
      ),
      (refl, a.5),
    )
by_call page_size options request c out made st session is_out decoded keeps = absurd keeps

-- by a reply that is known
known : (page_size options : ℕ) (request : List ℕ) (c : InFlightChain) (out kept : InFlight) (reply : ChainReply) (session : Session)
    (given : ServedMessage) → IsOutAs c out → kept ≡ out → reply.behind ≡ 0
    → served (setting page_size options out.room_len) (meaning options request out.room_len) [] ≡ given → given.calls ≡ []
    → given.reply ≡ front_of reply
    → ([] ≡ (served (setting page_size options out.room_len) (meaning options request out.room_len) []).calls)
    × IsHeldIn page_size (asked_chain c request options []) (asked_chain c request options []).phase (at.Replied kept reply) session
known page_size options request c out kept reply session given is_out same none serving no_calls is =
    let s = setting page_size options out.room_len in
    let m = meaning options request out.room_len in
    let fits : length given.reply ≤ out.room_len =
    subst (λ (x : ServedMessage). length x.reply ≤ out.room_len) serving (served_fits s m []) in
    let keeps : KeepsReplyOf given.reply out reply = keeps_front s m [] given out kept reply same none is fits is_out.small in
    let P : InFlight → Type 0 = λ o. IsHeldIn page_size (asked_chain c request options []) (asked_chain c request options []).phase
    (at.Replied o reply) session in (
      sym (ap (λ (k : ServedMessage). k.calls) serving ∙ no_calls),
      subst P (sym same) (
        out_in c _ _ is_out,
        subst (λ (x : ServedMessage). KeepsReplyOf x.reply out reply) (sym serving) keeps,
        ap (λ (k : ServedMessage). k.calls) serving ∙ no_calls,
      ),
    )

by_front : (page_size options : ℕ) (request : List ℕ) (c : InFlightChain) (out kept : InFlight) (reply : ChainReply)
    (session : Session)
    (f : Option (List ℕ)) → IsOutAs c out → kept ≡ out → reply.behind ≡ 0 → reply.front ≡ f
    → IsDecoded (setting page_size options out.room_len) (meaning options request out.room_len) (drop 80 request) (asked_of f)
    → ([] ≡ (served (setting page_size options out.room_len) (meaning options request out.room_len) []).calls)
    × IsHeldIn page_size (asked_chain c request options []) (asked_chain c request options []).phase (at.Replied kept reply) session
by_front page_size options request c out kept reply session None is_out same none front result =
    known page_size options request c out kept reply session
    (record { calls = []; options = options; reply = []; fault = None }) is_out same none result refl (sym (ap front_in front))
by_front page_size options request c out kept reply session (Some bytes) is_out same none front result =
    known page_size options request c out kept reply session
    (record { calls = []; options = options; reply = bytes; fault = None }) is_out same none result.0 refl (sym (ap front_in front))

by_reply : (page_size options : ℕ) (request : List ℕ) (c : InFlightChain) (out : InFlight) (st : state.ChainState) (session : Session)
    → IsOutAs c out
    → KeepsReply (setting page_size options out.room_len) (meaning options request out.room_len) (drop 80 request) out st
    → DecodedSo page_size options request c out asks.Nothing st session
by_reply page_size options request c out (at.Replied kept reply) session is_out keeps =
    let so = by_front page_size options request c out kept reply session reply.front is_out keeps.0 keeps.1 refl keeps.2 in
    (so.0, so.1, refl)
by_reply page_size options request c out st session is_out keeps = absurd keeps

-- ---- the result

-- a decoding with these calls is an event
decoded_event : (s : RunState) (before behind : List InFlightChain) (c : InFlightChain) (request : List ℕ) (out : InFlight)
    (result : Decoded)
    → s.chains ≡ before ++ c ∷ behind → c.phase ≡ Fetched → IsOutAs c out → length request ≡ total_len (readable c.descriptors)
    → calls_decoded (drop 80 request) result
    ≡ (served (setting s.page_size s.options out.room_len) (meaning s.options request out.room_len) []).calls
    → Happens any_files s (DecodesRequest c request (calls_decoded (drop 80 request) result)) (after_decoding s before behind c request)
decoded_event s before behind c request out result is fresh is_out len calls =
    let room : length (room_of c) ≡ out.room_len =
    ap (λ (p : Phase). length (room_of_phase p c.descriptors)) fresh ∙ is_out.room_len in
    record {
      before = before;
      behind = behind;
      out = is;
      fresh = fresh;
      whole = len;
      reports = calls ∙ ap (λ (n : ℕ). (served (setting s.page_size s.options n) (meaning s.options request n) []).calls) (sym room);
      state = refl;
    }

by_decoded : (s : RunState) (before behind : List InFlightChain) (c : InFlightChain) (request : List ℕ) (out : InFlight) (new : ChainHandle)
    (result : Decoded)
    → s.chains ≡ before ++ c ∷ behind → c.phase ≡ Fetched → IsOutAs c out → IsDecodedIn s.page_size s.options new.session
    → length request ≡ total_len (readable c.descriptors)
    → ReportsMeaning (setting s.page_size s.options out.room_len) (meaning s.options request out.room_len) (drop 80 request) out result
    new.state
    → DecodingIs s before behind c request new result
by_decoded s before behind c request out new (asks.More n) is fresh is_out session len reports =
    let P : state.ChainState → Type 0 = λ st. IsHeldIn s.page_size c c.phase st new.session in
    let Q : Phase → Type 0 = λ p. IsHeldIn s.page_size c p (at.Popped out) new.session in
    subst P (sym reports) (subst Q (sym fresh) is_out)
by_decoded s before behind c request out new (asks.Call made) is fresh is_out session len reports =
    let so = by_call s.page_size s.options request c out made new.state new.session is_out session reports in
    (decoded_event s before behind c request out (asks.Call made) is fresh is_out len so.0, (so.1, so.2))
by_decoded s before behind c request out new asks.Nothing is fresh is_out session len reports =
    let so = by_reply s.page_size s.options request c out new.state new.session is_out reports in
    (decoded_event s before behind c request out asks.Nothing is fresh is_out len so.0, (so.1, so.2))
by_decoded s before behind c request out new (asks.Fault e) is fresh is_out session len reports =
    let so = known s.page_size s.options request c out out no_reply new.session
    (serving_words.no_reply [] s.options (Some e)) is_out refl refl reports.1 refl refl in (
      decoded_event s before behind c request out (asks.Fault e) is fresh is_out len so.0,
      (
        subst (λ (st : state.ChainState). IsHeldIn s.page_size (asked_chain c request s.options [])
            (asked_chain c request s.options []).phase st new.session) (sym reports.0) so.1,
        subst (λ (st : state.ChainState). IsUnanswered (asked_chain c request s.options []).phase st) (sym reports.0) refl,
      ),
    )

popped_phase : (page_size : ℕ) (c : InFlightChain) (p : Phase) (out : InFlight) (session : Session) →
    IsHeldIn page_size c p (at.Popped out) session → (p ≡ Fetched) × IsOutAs c out
popped_phase page_size c Fetched out session held = (refl, held)
popped_phase page_size c p out session held = absurd held

-- what a decoding from this state says
abbrev ShowsDecoded : state.ChainState → Session → (front : List ℕ) → Decoded → (new : ChainHandle) → Type 0
ShowsDecoded st session front result new =
    IfUndecoded st (λ out. (whole : List ℕ) → out.request_len ≡ length whole → IsRequestFront front whole →
    ReportsMeaning (setting session.page_size session.options.0 out.room_len) (meaning session.options.0 whole out.room_len) (drop 80 whole)
    out result new.state)

by_state : (st : state.ChainState) (was : Session) (new : ChainHandle) (session : Session) (front : List ℕ) (result : Decoded)
    → ask_error st (length front) ≡ None → ShowsDecoded st session front result new → new.session ≡ session
    → (s : RunState) (before behind : List InFlightChain) (c : InFlightChain) (request : List ℕ)
    → s.chains ≡ before ++ c ∷ behind → IsHeldIn s.page_size c c.phase st was → IsDecodedIn s.page_size s.options session
    → length request ≡ total_len (readable c.descriptors) → IsRequestFront front request
    → DecodingIs s before behind c request new result
by_state (at.Popped out) was new session front result clear shows kept s before behind c request is held decoded len begins =
    let so = popped_phase s.page_size c c.phase out was held in
    let is_out : IsOutAs c out = so.1 in
    let by = shows request (is_out.request_len ∙ sym len) begins in
    let reports : ReportsMeaning (setting s.page_size s.options out.room_len) (meaning s.options request out.room_len) (drop 80 request) out
    result
    new.state =
    subst (λ (p : ℕ). ReportsMeaning (setting p s.options out.room_len) (meaning s.options request out.room_len) (drop 80 request) out
    result
    new.state) decoded.0
    (subst (λ (a : ℕ). ReportsMeaning (setting session.page_size a out.room_len) (meaning a request out.room_len) (drop 80 request) out
    result
    new.state) decoded.1 by) in
    let there : IsDecodedIn s.page_size s.options new.session = subst (IsDecodedIn s.page_size s.options) (sym kept) decoded in
    by_decoded s before behind c request out new result is so.0 is_out there len reports
by_state st was new session front result clear shows kept s before behind c request is held decoded len begins =
    absurd (none_some error.WrongOrder (sym clear))

pub decodes : (old new : ChainHandle) (session : Session) (front : List ℕ) (result : Decoded)
    → ask_error old.state (length front) ≡ None → ShowsDecoded old.state session front result new → new.session ≡ session
    → DecodesInRun old new session front result
unfolding DecodesInRun
decodes old new session front result clear shows kept s before behind c request is held decoded len begins =
    by_state old.state old.session new session front result clear shows kept s before behind c request is held decoded len begins

-- by its state, and its result
pub decodes_from : (old new : ChainHandle) (session : Session) (front : List ℕ) (r : Result Decoded ChainError) (out : InFlight)
    → old.state ≡ at.Popped out → OnOk r (ask_error (at.Popped out) (length front) ≡ None)
    → IfOk r (λ result. ShowsDecoded (at.Popped out) session front result new) → OnOk r (new.session ≡ session)
    → IfOk r (λ result. DecodesInRun old new session front result)
decodes_from old new session front (Ok result) out is clear shows kept =
    decodes old new session front result (subst (λ (st : state.ChainState). ask_error st (length front) ≡ None) (sym is) clear)
    (subst (λ (st : state.ChainState). ShowsDecoded st session front result new) (sym is) shows) kept
decodes_from old new session front (Err e) out is clear shows kept = tt
