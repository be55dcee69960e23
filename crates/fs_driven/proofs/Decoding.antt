-- A decoding drives the run.
use Rattle.std.proofs.Common.{◌≡◌, ℕ, Bool, true, false, List, [], ◌∷◌, ◌++◌, length, Option, Some, None, slice_get, refl, subst, sym, ap}
use Rattle.std.proofs.Common.{inl, ◌∙◌, ◌≤◌, ◌-◌, arith, eqb-true, ◌==◌, take, length-append}
use Rattle.std.proofs.lemmas.Bool.{ltb-false}
use Rattle.std.specs.Borrow.{Bor}
use Rattle.std.specs.Prelude.{drop, Result, Ok, Err, IfErr, IfOk, OnOk, OnErr, if◌then◌else◌, nat_lt, ◌+◌}
use Rattle.fs_chain.specs.declared.error.ChainError.{ChainError}
use Rattle.fs_chain.specs.declared.error.ChainError.TheVariants.{BadArgument, WrongOrder}
use Rattle.fs_chain.specs.Walks.{IsAllBut}
use Rattle.server_phases.specs.Asking.{IsRequestFront}
use Rattle.fs_queue.specs.Taking.{readable, total_len}
use Rattle.server_meanings.specs.Grammar.{Meaning, meaning}
use Rattle.server_meanings.specs.Serving.{Setting, setting}
use Rattle.server_phases.specs.declared.session.Session.{Session}
use Rattle.live_machine.specs.Live.{DecodesRequest, Fetched, InFlightChain, LiveEvent, LiveRun, Phase, SetsOptions, after_decoding}
use Rattle.live_machine.specs.Live.{asked_chain, Happens, room_of_phase, serving}
use Rattle.fs_chain.specs.Decoding.{IfUndecoded, ReportStandsIn, ReportsMeaning, wanted_after, wanted_by}
use Rattle.fs_driven.specs.Drivers.{PushUnderWay, Driver, FitsRun, In, CanBePushed, own, with_pop}
use Rattle.fs_driven.specs.Events.{DrivesOne, EventsOf, Unseen, asked_len_of, exactly, request_of, setting_of, transition}
use Rattle.fs_driven.specs.Kept.{KeepsMemory}
use Rattle.fs_chain.specs.Holds.{DecodesInRun, DecodingIs, HoldsInFlight, RunState, Pop, any_files, calls_decoded, HoldsUnanswered}
use Rattle.fs_chain.specs.Orders.{ask_error, is_out}
use Rattle.fs_chain.specs.Together.{Owned, with_handle}
use Rattle.fs_chain.specs.declared.chain_handle.ChainHandle.{ChainHandle}
use Rattle.fs_driven.specs.declared.commands.DriverCall.TheVariants as does
use Rattle.fs_driven.specs.declared.commands.Results.TheVariants as gives
use Rattle.fs_chain.specs.declared.decoding.Decoded.{Decoded}
use Rattle.fs_chain.specs.declared.decoding.Decoded.TheVariants as asks
use Rattle.fs_chain.specs.declared.queue.QueueState.{QueueState}
use Rattle.fs_chain.specs.declared.state.ChainState as state
use Rattle.fs_chain.specs.declared.state.ChainState.TheVariants as at
use Rattle.fs_chain.specs.declared.state.InFlight.{InFlight}
use Rattle.live_machine.proofs.Moved.{joined}
use Rattle.fs_driven.proofs.Among.{here}
use Rattle.fs_driven.proofs.Handles.{MovesRun, has_own, held_out, keeps, others_same}
use Rattle.fs_driven.proofs.QueuePlaces.{DrivenAt, DrivesAt, HasRunAt, QueuePlace, driver_after, driver_before, drives_one}
use Rattle.fs_chain.proofs.Together.{chains_of}
use Rattle.fs_driven.proofs.Calls.{taken_out, HasNoPush, call_waits, done_ready, fetched_ready, fits_out, length_exactly, no_error, refuses}
use Rattle.fs_driven.proofs.Calls.{reply_no_push, same_held, stays_put}

-- ---- the events of a decoding

-- the caller sets the options
sets_run : (s : RunState) (o : ℕ) → LiveRun any_files s (setting_of o s.options) (record s { options = o })
sets_run s o = by_test (o == s.options) refl
  where
    by_test : (b : Bool) → (o == s.options) ≡ b →
        LiveRun any_files s (if b then [] else SetsOptions o ∷ []) (record s { options = o })
    by_test true is = ap (λ (n : ℕ). record s { options = n }) (eqb-true o s.options is)
    by_test false is = (record s { options = o }, record { state = refl }, refl)

decoding : (options now : ℕ) (c : InFlightChain) (request : List ℕ) (result : Decoded) → List LiveEvent
decoding options now c request result =
    setting_of options now ++ DecodesRequest c request (calls_decoded (drop 80 request) result) ∷ []

-- T tells of the events of a decoding
abbrev DecodedReports : RunState → QueuePlace → QueueState → List ChainHandle → ℕ → Option PushUnderWay → InFlightChain →
    (request : List ℕ) → (options : ℕ) → Decoded → (T : List LiveEvent → Driver → Type 0) → Type 0
DecodedReports s i q ws k push c request options result T =
    (after : RunState) (os : List Owned) (pops : ℕ → Pop) →
    In (own k (asked_chain c request options [])) os →
    T (setting_of options s.options ++ DecodesRequest c request (calls_decoded (drop 80 request) result) ∷ [])
    (driver_after after i ws q os pops push)

decoded_so : (s : RunState) (i : QueuePlace) (page_size k : ℕ) (q : QueueState) (ws : List ChainHandle) (ob oh : List Owned)
    (pops : ℕ → Pop) (push : Option PushUnderWay) (old new : ChainHandle) (c : InFlightChain) (request : List ℕ)
    (options : ℕ) (result : Decoded) (T : List LiveEvent → Driver → Type 0)
    → DrivenAt s i page_size k q ws (ob ++ own k c ∷ oh) pops push → slice_get ws k ≡ Some old → c.queue ≡ i.number →
    KeepsMemory old new
    → FitsRun s.places s.limit q (pops k) old
    → Happens any_files (record s { options = options })
    (DecodesRequest c request (calls_decoded (drop 80 request) result))
    (after_decoding (record s { options = options }) (chains_of ob) (chains_of oh) c request)
    × HoldsUnanswered s.page_size (asked_chain c request options []) new
    → CanBePushed page_size k q push (asked_chain c request options []) new.state
    → DecodedReports s i q (with_handle ws k new) k push c request options result T
    → HasRunAt s i page_size k pops q (with_handle ws k new) T
decoded_so s i page_size k q ws ob oh pops push old new c request options result T all there queue same fits proceeds
    ready reports =
    let mid : RunState = record s { options = options } in
    let after : RunState = after_decoding mid (chains_of ob) (chains_of oh) c request in
    let c' = asked_chain c request options [] in
    let e : LiveEvent = DecodesRequest c request (calls_decoded (drop 80 request) result) in
    let moves : MovesRun s after i page_size k q q (pops k) push push new = record {
      page = refl;
      limit = refl;
      places = refl;
      queue = all.queue;
      apart = λ j other. refl;
      event = refl;
      fits = fits_out s.places s.limit q (pops k) (pops k) old new same
          (held_out s.page_size c' c'.phase new.state new.session proceeds.1.0) fits;
      others = others_same page_size k q q push (λ head len. refl);
      still = all.still;
    } in (
      setting_of options s.options ++ e ∷ [],
      after,
      ob ++ own k c' ∷ oh,
      pops k,
      push,
      joined any_files s mid after (setting_of options s.options) (e ∷ []) (sets_run s options)
          (after, proceeds.0, refl),
      keeps s after i page_size q q ws ob oh k old new c c' (pops k) pops push push all there moves (λ n has. has) refl
          proceeds.1.0 (queue, ready),
      (λ b is. inl (sym all.under ∙ is)),
      reports after (ob ++ own k c' ∷ oh) (with_pop pops k (pops k)) (here ob oh (own k c')),
    )

-- a decoding that needs more bytes
decodes_more : (s : RunState) (i : QueuePlace) (page_size k : ℕ) (q : QueueState) (ws : List ChainHandle) (ob oh : List Owned)
    (pops : ℕ → Pop) (push : Option PushUnderWay) (old new : ChainHandle) (c : InFlightChain)
    (T : List LiveEvent → Driver → Type 0)
    → DrivenAt s i page_size k q ws (ob ++ own k c ∷ oh) pops push → slice_get ws k ≡ Some old → c.queue ≡ i.number →
    c.phase ≡ Fetched →
    KeepsMemory old new
    → FitsRun s.places s.limit q (pops k) old
    → HoldsInFlight s.page_size c new
    → s.chains ≡ chains_of ob ++ c ∷ chains_of oh
    → ((os : List Owned) (pops' : ℕ → Pop) → T [] (driver_after s i (with_handle ws k new) q os pops' push))
    → HasRunAt s i page_size k pops q (with_handle ws k new) T
decodes_more s i page_size k q ws ob oh pops push old new c T all there queue fresh same fits holds chains
    reports =
    let moves : MovesRun s s i page_size k q q (pops k) push push new =
    stays_put s i page_size k q q (pops k) push new all.queue refl (λ head len. refl) refl all.still
    (fits_out s.places s.limit q (pops k) (pops k) old new same
    (held_out s.page_size c c.phase new.state new.session holds) fits) in (
      [],
      s,
      ob ++ own k c ∷ oh,
      pops k,
      push,
      refl,
      keeps s s i page_size q q ws ob oh k old new c c (pops k) pops push push all there moves (λ n has. has) chains holds
          (queue, fetched_ready page_size s.page_size k q push c c.phase new.state new.session fresh holds),
      (λ b is. inl (sym all.under ∙ is)),
      reports (ob ++ own k c ∷ oh) (with_pop pops k (pops k)),
    )

-- what a decoding's result is owed, by the result
abbrev DecodingReports : RunState → QueuePlace → QueueState → List ChainHandle → ℕ → Option PushUnderWay → InFlightChain →
    (request : List ℕ) → (options : ℕ) → Decoded → (T : List LiveEvent → Driver → Type 0) → Type 0
DecodingReports s i q ws k push c request options (asks.More n) T =
    (os : List Owned) (pops : ℕ → Pop) → T [] (driver_after s i ws q os pops push)
DecodingReports s i q ws k push c request options result T =
    DecodedReports s i q ws k push c request options result T

decoded_by : (s : RunState) (i : QueuePlace) (page_size k : ℕ) (q : QueueState) (ws : List ChainHandle) (ob oh : List Owned)
    (pops : ℕ → Pop) (push : Option PushUnderWay) (old new : ChainHandle) (c : InFlightChain) (request : List ℕ)
    (options : ℕ) (result : Decoded) (st : Setting) (m : Meaning) (bytes : List ℕ) (out : InFlight)
    (T : List LiveEvent → Driver → Type 0)
    → DrivenAt s i page_size k q ws (ob ++ own k c ∷ oh) pops push → slice_get ws k ≡ Some old → c.queue ≡ i.number →
    c.phase ≡ Fetched →
    KeepsMemory old new
    → FitsRun s.places s.limit q (pops k) old
    → DecodingIs (record s { options = options }) (chains_of ob) (chains_of oh) c request new result
    → s.chains ≡ chains_of ob ++ c ∷ chains_of oh
    → ReportsMeaning st m bytes out result new.state
    → DecodingReports s i q (with_handle ws k new) k push c request options result T
    → HasRunAt s i page_size k pops q (with_handle ws k new) T
decoded_by s i page_size k q ws ob oh pops push old new c request options (asks.More n) st m bytes out T all
    there queue fresh same fits holds chains means reports =
    decodes_more s i page_size k q ws ob oh pops push old new c T all there queue fresh same fits holds chains
    reports
decoded_by s i page_size k q ws ob oh pops push old new c request options (asks.Call made) st m bytes out T all
    there queue fresh same fits proceeds chains means reports =
    decoded_so s i page_size k q ws ob oh pops push old new c request options (asks.Call made) T all there
    queue same fits proceeds
    (call_waits page_size k q push c request options st m bytes made out new.state means proceeds.1.1)
    reports
decoded_by s i page_size k q ws ob oh pops push old new c request options asks.Nothing st m bytes out T all
    there queue fresh same fits proceeds chains means reports =
    decoded_so s i page_size k q ws ob oh pops push old new c request options asks.Nothing T all there queue
    same fits proceeds
    (subst (λ (n : ℕ). CanBePushed n k q push (asked_chain c request options []) new.state) all.page
    (done_ready s.page_size k q push c request options [] new.state
    (sym (proceeds.0.reports ∙ ap (λ (r : List ℕ). (serving s.page_size options options request r []).calls)
    (ap (λ (p : Phase). room_of_phase p c.descriptors) fresh)))
    (reply_no_push st m bytes out new.state means)))
    reports
decoded_by s i page_size k q ws ob oh pops push old new c request options (asks.Fault e) st m bytes out T all
    there queue fresh same fits proceeds chains means reports =
    decoded_so s i page_size k q ws ob oh pops push old new c request options (asks.Fault e) T all there queue
    same fits proceeds
    (subst (λ (n : ℕ). CanBePushed n k q push (asked_chain c request options []) new.state) all.page
    (done_ready s.page_size k q push c request options [] new.state
    (sym (proceeds.0.reports ∙ ap (λ (r : List ℕ). (serving s.page_size options options request r []).calls)
    (ap (λ (p : Phase). room_of_phase p c.descriptors) fresh)))
    (subst (λ (x : state.ChainState). HasNoPush x) (sym means.0) tt)))
    reports

-- the whole request
length_request : (front : List ℕ) (u : Unseen) (len : ℕ) → length front ≤ len →
    length (request_of front u len) ≡ len
length_request front u len fits =
    let one : length (request_of front u len) ≡ length front + length (exactly (len - length front) u.bytes) =
    length-append front (exactly (len - length front) u.bytes) in
    let two : length (exactly (len - length front) u.bytes) ≡ len - length front =
    length_exactly (len - length front) u.bytes in
    omega (arith, fits, one, two)

front_first : (front more : List ℕ) → take (length front) (front ++ more) ≡ front
front_first [] more = refl
front_first (b ∷ front) more = ap (λ (l : List ℕ). b ∷ l) (front_first front more)

-- a request that is decoded
abbrev DecodesAt : state.ChainState → (len : ℕ) → Type 0
DecodesAt (at.Popped out) len = len ≤ out.request_len
DecodesAt _ len = ⊥

may_decode : (st : state.ChainState) (len : ℕ) → ask_error st len ≡ None → DecodesAt st len
may_decode (at.Popped out) len is = by_test (nat_lt out.request_len len) refl is
  where
    by_test : (b : Bool) → nat_lt out.request_len len ≡ b → (if b then Some BadArgument else None) ≡ None →
        len ≤ out.request_len
    by_test true test none = absurd (no_error BadArgument none)
    by_test false test none = ltb-false out.request_len len test
may_decode _ len is = absurd (no_error WrongOrder is)

abbrev pub ReportsWhole : Session → (front : List ℕ) → Decoded → (new : ChainHandle) → InFlight → Type 0
ReportsWhole session front result new out =
    (whole : List ℕ) → out.request_len ≡ length whole → IsRequestFront front whole →
    ReportsMeaning (setting session.page_size session.options.0 out.room_len)
    (meaning session.options.0 whole out.room_len) (drop 80 whole) out result new.state

abbrev ReportsRequest : Session → (request : List ℕ) → Decoded → (new : ChainHandle) → InFlight → Type 0
ReportsRequest session request result new out =
    ReportsMeaning (setting session.page_size session.options.0 out.room_len)
    (meaning session.options.0 request out.room_len) (drop 80 request) out result new.state

-- what a decoding leaves of its handle
abbrev pub KeepsAsked : Session → (old new : ChainHandle) → Type 0
KeepsAsked session old new =
    (IsAllBut old new × (new.descriptors ≡ old.descriptors) × (new.part ≡ old.part)) × (new.session ≡ session)

decode_reports : (s : RunState) (i : QueuePlace) (page_size k : ℕ) (q : QueueState) (ws ws' : List ChainHandle) (os : List Owned)
    (pops : ℕ → Pop) (push : Option PushUnderWay) (old new : ChainHandle) (c : InFlightChain) (session : Session)
    (front : Bor (List ℕ)) (u : Unseen) (result : Decoded)
    → In (own k c) os → wanted_by result ≡ wanted_after front.now (asked_len_of old.state)
    → IfUndecoded old.state
    (ReportsRequest session (request_of front.now u (asked_len_of old.state)) result new)
    → ReportStandsIn session.options.0 front.now result
    → KeepsAsked session old new
    → DecodingReports s i q ws' k push c (request_of front.now u (asked_len_of old.state)) session.options.0 result
    (λ es d. EventsOf (transition i.number page_size k (driver_before s i ws os pops) d old new q q) (does.Decode session front) u
    (gives.Decoded (Ok result)) es)
decode_reports s i page_size k q ws ws' os pops push old new c session front u (asks.More n) mine wanted means places kept =
    λ after loads'. (wanted, places, means, (kept.0, refl), kept.1, refl)
decode_reports s i page_size k q ws ws' os pops push old new c session front u _ mine wanted means places kept =
    λ after os' loads' is. (wanted, places, means, (kept.0, refl), kept.1, (c, mine, refl, is))

decode_taken : (old new : ChainHandle) (q : QueueState) (session : Session) (front : Bor (List ℕ))
    (result : Decoded) (out : InFlight) → old.state ≡ at.Popped out → length front.now ≤ out.request_len
    → ReportsWhole session front.now result new out
    → wanted_by result ≡ wanted_after front.now out.request_len
    → ReportStandsIn session.options.0 front.now result
    → KeepsAsked session old new
    → DecodesInRun old new session front.now result
    → DrivesAt session.page_size old new q q (does.Decode session front) (gives.Decoded (Ok result))
unfolding DecodesInRun
decode_taken old new q session front result out is fits means wanted places kept decodes ws k there u s i os pops push
    all =
    let has = has_own s i session.page_size q ws os k old pops push all there (all.outs old there (ap is_out is)) in
    let c = has.c in
    let o = taken_out s.page_size c c.phase old.state old.session out is has.holds in
    let len_is : asked_len_of old.state ≡ out.request_len = ap asked_len_of is in
    let n : ℕ = asked_len_of old.state in
    let request : List ℕ = request_of front.now u n in
    let fits_so : length front.now ≤ n = subst (λ (m : ℕ). length front.now ≤ m) (sym len_is) fits in
    let len : length request ≡ out.request_len = length_request front.now u n fits_so ∙ len_is in
    let whole : length request ≡ total_len (readable c.descriptors) = len ∙ o.1.request_len in
    let options : ℕ = session.options.0 in
    let starts : IsRequestFront front.now request =
    front_first front.now (exactly (n - length front.now) u.bytes) in
    let d = decodes (record s { options = options }) (chains_of has.ob) (chains_of has.oh) c request
    has.chains has.holds (sym all.page, refl) whole starts in
    let so : ReportsRequest session request result new out = means request (sym len) starts in
    let so_if : IfUndecoded old.state (ReportsRequest session request result new) =
    subst (λ (st : state.ChainState). IfUndecoded st (ReportsRequest session request result new)) (sym is) so in
    let wanted_if : wanted_by result ≡ wanted_after front.now n =
    wanted ∙ ap (λ (m : ℕ). wanted_after front.now m) (sym len_is) in
    decoded_by s i session.page_size k q ws has.ob has.oh pops push old new c request options result
    (setting session.page_size options out.room_len)
    (meaning options request out.room_len) (drop 80 request) out
    (λ es d. EventsOf (transition i.number session.page_size k (driver_before s i ws os pops) d old new q q)
    (does.Decode session front) u (gives.Decoded (Ok result)) es)
    has.driven there has.mine.0 o.0 (kept.0.0.0, kept.0.0.1) (all.fits old there) d has.chains so
    (decode_reports s i session.page_size k q ws (with_handle ws k new) os pops push old new c session front u
    result has.is_in wanted_if so_if places kept)

decode_at : (old new : ChainHandle) (q : QueueState) (session : Session) (front : Bor (List ℕ))
    (result : Decoded) (st : state.ChainState) → old.state ≡ st → DecodesAt st (length front.now)
    → IfUndecoded st (ReportsWhole session front.now result new)
    → IfUndecoded st (λ out. wanted_by result ≡ wanted_after front.now out.request_len)
    → ReportStandsIn session.options.0 front.now result
    → KeepsAsked session old new
    → DecodesInRun old new session front.now result
    → DrivesOne session.page_size old new q q (does.Decode session front) (gives.Decoded (Ok result))
decode_at old new q session front result (at.Popped out) is fits means wanted places same decodes =
    drives_one _ _ (decode_taken old new q session front result out is fits means wanted places same decodes)
decode_at old new q session front result _ is fits means wanted places same decodes = absurd fits

-- ---- by what the call ensures

pub items_same : (old new : ChainHandle) → new.descriptors ≡ old.descriptors →
    new.descriptors.items ≡ old.descriptors.items
items_same old new e = cc

part_same : (old new : ChainHandle) → new.part ≡ old.part → new.part.items ≡ old.part.items
part_same old new e = cc

pub decode_result : (old new : ChainHandle) (q : QueueState) (session : Session) (front : Bor (List ℕ))
    (result : Result Decoded ChainError)
    → IfErr result (λ e. ask_error old.state (length front.now) ≡ Some e)
    → OnOk result (ask_error old.state (length front.now) ≡ None)
    → IfOk result (λ returned. IfUndecoded old.state (ReportsWhole session front.now returned new))
    → IfOk result (ReportStandsIn session.options.0 front.now)
    → IfOk result
    (λ returned. IfUndecoded old.state (λ out. wanted_by returned ≡ wanted_after front.now out.request_len))
    → IsAllBut old new × (new.descriptors ≡ old.descriptors) × (new.part ≡ old.part)
    → OnErr result ((new.state ≡ old.state) × (new.session ≡ old.session))
    → OnOk result (new.session ≡ session)
    → IfOk result (λ returned. DecodesInRun old new session front.now returned)
    → (page_size : ℕ) → session.page_size ≡ page_size
    → DrivesOne page_size old new q q (does.Decode session front) (gives.Decoded result)
decode_result old new q session front (Ok returned) err ok reports places wanted same stay kept step page_size page =
    subst (λ (n : ℕ). DrivesOne n old new q q (does.Decode session front) (gives.Decoded (Ok returned))) page
    (decode_at old new q session front returned old.state refl (may_decode old.state (length front.now) ok) reports
    wanted places (same, kept) step)
decode_result old new q session front (Err e) err ok reports places wanted same stay kept step page_size page =
    refuses page_size old new q (does.Decode session front) (gives.Decoded (Err e))
    (stay.0, stay.1, same.0.0, same.0.1, items_same old new same.1)
    (λ i k d d' u pop. (refl, ((same.0, stay.0, items_same old new same.1, part_same old new same.2, stay.1), refl, pop), err))

pub other_session : (page_size : ℕ) (old : ChainHandle) (q : QueueState) (session : Session)
    (front : Bor (List ℕ)) → (session.page_size ≡ page_size → ⊥)
    → DrivesOne page_size old old q q (does.Decode session front) gives.OtherSession
other_session page_size old q session front other =
    refuses page_size old old q (does.Decode session front) gives.OtherSession (same_held old old refl)
    (λ i k d d' u pop. (refl, (refl, refl, pop), other))
