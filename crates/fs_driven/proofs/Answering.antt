-- An answer drives the run.
use Rattle.std.proofs.Common.{◌≡◌, ℕ, true, List, [], ◌∷◌, ◌++◌, length, Option, Some, None, slice_get, refl, subst, sym, ap}
use Rattle.std.proofs.Common.{inl, ◌∙◌, ◌==◌, eq-eqb}
use Rattle.std.specs.Prelude.{Result, Ok, Err, IfErr, IfOk, OnOk, OnErr}
use Rattle.fs_chain.specs.declared.error.ChainError.{ChainError}
use Rattle.fs_chain.specs.Walks.{IsAllBut}
use Rattle.fs_queue.specs.Taking.{addresses_of, writable}
use Rattle.fuse_fs.specs.declared.answers.Context.{Context}
use Rattle.fuse_values.specs.Answers.{answer_of}
use Rattle.fuse_values.specs.declared.answer.FileAnswer as made_answer
use Rattle.fuse_values.specs.declared.answer.FileAnswer.TheVariants as value
use Rattle.server_meanings.specs.Serving.{setting}
use Rattle.plain_machine.specs.Step.{Calls, calls_alone}
use Rattle.server_phases.specs.Answering.{ReportsBytes, forget_calls}
use Rattle.fuse_fs.specs.Calls.{Done, FileAnswer, FileCall, Forget}
use Rattle.server_phases.specs.declared.session.Session.{Session}
use Rattle.live_machine.specs.Several.{LiveQueue}
use Rattle.live_machine.specs.Live.{Asked, InFlightChain, LiveEvent, LiveRun, Phase, ReceivesAnswer, after_answer, asked_chain, Happens}
use Rattle.live_machine.specs.Live.{room_of, serving}
use Rattle.fs_chain.specs.Answers.{CanBeGiven, IfDecoded, IsGiven, IsNotTaken, IsWaiting}
use Rattle.fs_driven.specs.Drivers.{PushUnderWay, Driver, CanBePushed, own, with_pop}
use Rattle.fs_driven.specs.Events.{EventsOf, DrivesOne, Unseen, data_of, forgetting, transition}
use Rattle.fs_driven.specs.Kept.{KeepsMemory}
use Rattle.fs_chain.specs.Holds.{AnswersInRun, ForgettingIs, HoldsInFlight, served_so, IsHeldIn, RunState, Pop, any_files, live_of}
use Rattle.fs_chain.specs.Orders.{is_out}
use Rattle.fs_chain.specs.Tickets.{number_error, ticket_error}
use Rattle.fs_chain.specs.Together.{Owned, with_handle}
use Rattle.fs_chain.specs.declared.answering.Replied.{Replied}
use Rattle.fs_chain.specs.declared.chain_handle.ChainHandle.{ChainHandle}
use Rattle.fs_driven.specs.declared.commands.DriverCall.TheVariants as does
use Rattle.fs_driven.specs.declared.commands.Results.TheVariants as gives
use Rattle.fs_chain.specs.declared.queue.QueueState.{QueueState}
use Rattle.fs_chain.specs.declared.state.ChainState as state
use Rattle.fs_chain.specs.declared.state.ChainState.TheVariants as at
use Rattle.fs_driven.proofs.Handles.{MovesRun, has_own, held_out, keeps, others_same}
use Rattle.fs_driven.proofs.QueuePlaces.{DrivenAt, DrivesAt, HasRunAt, QueuePlace, driver_after, driver_before, drives_one}
use Rattle.fs_chain.proofs.Together.{chains_of}
use Rattle.fs_driven.proofs.Calls.{HasNoPush, done_ready, fits_out, length_exactly, refuses, replied_no_push, same_all, same_held}

-- ---- answer

abbrev Asking : InFlightChain → Phase → Type 0
Asking c p = (request : List ℕ) × (options : ℕ) × (p ≡ Asked request options [])

waits_asked : (page_size : ℕ) (c : InFlightChain) (p : Phase) (st : state.ChainState) (session : Session) →
    IsWaiting st →
    IsHeldIn page_size c p st session → Asking c p
waits_asked page_size c (Asked request options calls) (at.Decoded out w) session is held =
    (request, options, ap (λ (l : Calls). Asked request options l) held.1)
waits_asked page_size c _ (at.Decoded out w) session is held = absurd held
waits_asked page_size c p _ session is held = absurd is

-- its number is the chain's
number_named : (mine ticket : ℕ) → mine ≡ ticket → number_error mine ticket ≡ None
number_named mine ticket same = let is : (mine == ticket) ≡ true = eq-eqb mine ticket same in rw is refl

waits_named : (st : state.ChainState) (mine ticket : ℕ) → IsWaiting st → mine ≡ ticket → ticket_error st mine ticket ≡ None
waits_named (at.Decoded out w) mine ticket is same = number_named mine ticket same
waits_named _ mine ticket is same = absurd is

waits_out : (st : state.ChainState) → IsWaiting st → is_out st ≡ true
waits_out (at.Decoded out w) is = refl
waits_out _ is = absurd is

-- T tells of the answer's events
abbrev AnsweredReports : QueuePlace → QueueState → List ChainHandle → Option PushUnderWay → List LiveEvent →
    (T : List LiveEvent → Driver → Type 0) → Type 0
AnsweredReports i q ws push es T =
    (after : RunState) (os : List Owned) (pops : ℕ → Pop) → T es (driver_after after i ws q os pops push)

-- once no call is pending
pub answered_all : (s : RunState) (i : QueuePlace) (page_size k : ℕ) (q : QueueState) (ws : List ChainHandle) (ob oh : List Owned)
    (pops : ℕ → Pop) (push : Option PushUnderWay) (old new : ChainHandle) (c : InFlightChain) (request : List ℕ)
    (options : ℕ) (calls : Calls) (after : RunState) (es : List LiveEvent) (T : List LiveEvent → Driver → Type 0)
    → DrivenAt s i page_size k q ws (ob ++ own k c ∷ oh) pops push → slice_get ws k ≡ Some old → c.queue ≡ i.number →
    KeepsMemory old new
    → HoldsInFlight s.page_size (asked_chain c request options calls) new
    → HasNoPush new.state
    → (serving s.page_size options options request (room_of (asked_chain c request options calls))
    calls).calls ≡ calls_alone calls
    → LiveRun any_files s es after → after.page_size ≡ s.page_size → after.limit ≡ s.limit →
    after.places ≡ s.places
    → after.queues ≡ s.queues → after.chains ≡ chains_of ob ++ asked_chain c request options calls ∷ chains_of
    oh
    → AnsweredReports i q (with_handle ws k new) push es T
    → HasRunAt s i page_size k pops q (with_handle ws k new) T
answered_all s i page_size k q ws ob oh pops push old new c request options calls after es T all there queue
    same holds quiet done run page limit places queues chains reports =
    let c' : InFlightChain = asked_chain c request options calls in
    let ready : CanBePushed page_size k q push c' new.state =
    subst (λ (n : ℕ). CanBePushed n k q push c' new.state) all.page
    (done_ready s.page_size k q push c request options calls new.state done quiet) in
    let moves : MovesRun s after i page_size k q q (pops k) push push new = record {
      page = page;
      limit = limit;
      places = places;
      queue = subst (λ (l : List LiveQueue). slice_get l i.number ≡ Some (live_of q)) (sym queues) all.queue;
      apart = λ j other. ap (λ (l : List LiveQueue). slice_get l j) queues;
      event = refl;
      fits = fits_out s.places s.limit q (pops k) (pops k) old new same
          (held_out s.page_size c' c'.phase new.state new.session holds) (all.fits old there);
      others = others_same page_size k q q push (λ head len. refl);
      still = all.still;
    } in (
      es,
      after,
      ob ++ own k c' ∷ oh,
      pops k,
      push,
      run,
      keeps s after i page_size q q ws ob oh k old new c c' (pops k) pops push push all there
          moves (λ n has. has) chains holds (queue, ready),
      (λ b is. inl (sym all.under ∙ is)),
      reports after (ob ++ own k c' ∷ oh) (with_pop pops k (pops k)),
    )

-- a FORGET that is owed is answered next
answered_by : (s : RunState) (i : QueuePlace) (page_size k : ℕ) (q : QueueState) (ws : List ChainHandle) (ob oh : List Owned)
    (pops : ℕ → Pop) (push : Option PushUnderWay) (old new : ChainHandle) (c : InFlightChain) (request : List ℕ)
    (options : ℕ) (call : FileCall) (x : FileAnswer) (owed : Option (Context × ℕ))
    (T : List LiveEvent → Driver → Type 0)
    → DrivenAt s i page_size k q ws (ob ++ own k c ∷ oh) pops push → slice_get ws k ≡ Some old → c.queue ≡ i.number →
    KeepsMemory old new
    → Happens any_files s (ReceivesAnswer c call x)
    (after_answer s (chains_of ob) (chains_of oh) c request options ((call, x) ∷ []) tt)
    → HoldsInFlight s.page_size (asked_chain c request options ((call, x) ∷ [])) new
    → HasNoPush new.state
    → (serving s.page_size options options request (room_of (asked_chain c request options ((call, x) ∷ [])))
    ((call, x) ∷ [])).calls
    ≡ call ∷ forget_calls owed
    → ForgettingIs (after_answer s (chains_of ob) (chains_of oh) c request options ((call, x) ∷ []) tt)
    (chains_of ob) (chains_of oh)
    (asked_chain c request options ((call, x) ∷ [])) request options ((call, x) ∷ []) new owed
    → AnsweredReports i q (with_handle ws k new) push
    (ReceivesAnswer c call x ∷ forgetting (asked_chain c request options ((call, x) ∷ [])) owed) T
    → HasRunAt s i page_size k pops q (with_handle ws k new) T
answered_by s i page_size k q ws ob oh pops push old new c request options call x None T all there queue same
    happens holds quiet calls forgets reports =
    let after = after_answer s (chains_of ob) (chains_of oh) c request options ((call, x) ∷ []) tt in
    answered_all s i page_size k q ws ob oh pops push old new c request options ((call, x) ∷ []) after
    (ReceivesAnswer c call x ∷ []) T all there queue
    same holds quiet calls (after, happens, refl) refl refl refl refl refl reports
answered_by s i page_size k q ws ob oh pops push old new c request options call x (Some node) T all there queue
    same happens holds quiet calls forgets reports =
    let after = after_answer s (chains_of ob) (chains_of oh) c request options ((call, x) ∷ []) tt in
    let forget : FileCall = Forget node.0 node.1 1 in
    let both : Calls = (call, x) ∷ (forget, Done) ∷ [] in
    let c' : InFlightChain = asked_chain c request options ((call, x) ∷ []) in
    let end = after_answer after (chains_of ob) (chains_of oh) c' request options both tt in
    answered_all s i page_size k q ws ob oh pops push old new c request options both end
    (ReceivesAnswer c call x ∷ ReceivesAnswer c' forget Done ∷ []) T
    all there queue same forgets.1 quiet forgets.2 (after, happens, (end, forgets.0, refl)) refl refl refl refl
    refl reports

-- the data of an answer
data_are : (a : made_answer.FileAnswer) (u : Unseen) → ReportsBytes (data_of a u) a
data_are (value.Bytes len) u = sym (length_exactly len u.bytes)
data_are _ u = refl

abbrev GivenSo : (old new : ChainHandle) → made_answer.FileAnswer → Replied → Type 0
GivenSo old new a result =
    IfDecoded old.state (λ out w. IsGiven (setting old.session.page_size old.session.options.0 w.room) w a out
    new.session.options.0 result new.state)

-- what an answer leaves of its handle
abbrev KeepsAnswered : (old new : ChainHandle) → Type 0
KeepsAnswered old new =
    (IsAllBut old new × (new.descriptors ≡ old.descriptors) × (new.part ≡ old.part))
    × (new.session.page_size ≡ old.session.page_size)

answer_drives : (page_size : ℕ) (old new : ChainHandle) (q : QueueState) (ticket : ℕ)
    (a : made_answer.FileAnswer) (result : Replied)
    → IsWaiting old.state → old.ticket ≡ ticket → GivenSo old new a result → AnswersInRun old new a result → KeepsAnswered old new
    → DrivesAt page_size old new q q (does.Answer ticket a) (gives.Answered (Ok result))
unfolding AnswersInRun
answer_drives page_size old new q ticket a result waits mine given answers kept ws k there u s i os pops push all =
    let has = has_own s i page_size q ws os k old pops push all there (all.outs old there (waits_out old.state waits)) in
    let c = has.c in
    let asked = waits_asked s.page_size c c.phase old.state old.session waits has.holds in
    let bytes : List ℕ = data_of a u in
    let an = answers s (chains_of has.ob) (chains_of has.oh) c asked.0 bytes asked.1 has.chains asked.2
    has.holds (data_are a u) in
    answered_by s i page_size k q ws has.ob has.oh pops push old new c asked.0 asked.1 an.0 (answer_of bytes a)
    result.forget
    (λ es d. EventsOf (transition i.number page_size k (driver_before s i ws os pops) d old new q q) (does.Answer ticket a) u
    (gives.Answered (Ok result)) es)
    has.driven there
    has.mine.0 (kept.0.0.0, kept.0.0.1) an.1.0 an.1.1
    (replied_no_push (served_so s.page_size asked.1 asked.0
    (length (addresses_of (writable c.descriptors))) ((an.0, answer_of bytes a) ∷ [])).reply bytes new.state
    an.1.4)
    an.1.2 an.1.5
    (λ after os' loads'. (
      waits_named old.state old.ticket ticket waits mine,
      given,
      (kept.0, refl),
      kept.1,
      c,
      an.0,
      asked.0,
      asked.1,
      has.is_in,
      asked.2,
      refl,
    ))

-- ---- by what the call ensures

pub answer_result : (old new : ChainHandle) (q : QueueState) (ticket : ℕ) (a : made_answer.FileAnswer)
    (result : Result Replied ChainError)
    → IfOk result (λ returned. GivenSo old new a returned)
    → OnOk result (old.ticket ≡ ticket)
    → OnOk result (IsWaiting old.state × IfDecoded old.state (λ out w. CanBeGiven w a))
    → IfErr result (λ e. IsNotTaken old ticket a e)
    → OnErr result (new ≡ old)
    → new.session.page_size ≡ old.session.page_size
    → IsAllBut old new × (new.descriptors ≡ old.descriptors) × (new.part ≡ old.part)
    → IfOk result (λ returned. AnswersInRun old new a returned)
    → (page_size : ℕ) → DrivesOne page_size old new q q (does.Answer ticket a) (gives.Answered result)
answer_result old new q ticket a (Ok returned) given mine taken err same page stay step page_size =
    drives_one _ _ (answer_drives page_size old new q ticket a returned taken.0 mine given step (stay, page))
answer_result old new q ticket a (Err e) given mine taken err same page stay step page_size =
    refuses page_size old new q (does.Answer ticket a) (gives.Answered (Err e)) (same_held old new same)
    (λ i k d d' u pop. (refl, (same_all old new same, refl, pop), err))
