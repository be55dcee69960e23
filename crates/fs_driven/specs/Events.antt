-- The events of a driver's calls: of each, by its command and what it returned, with what it leaves of its
-- handle and the queue. A refused call has none, and changes nothing.
use Rattle.std.specs.Prelude.{◌≡◌, ◌⊎◌, ◌≤◌, ◌-◌, ◌==◌, ℕ, zero, suc, Bool, true, false, List, [], ◌∷◌, ◌++◌}
use Rattle.std.specs.Prelude.{Option, Some, None, Result, Ok, Err, length, drop, take, slice_get}
use Rattle.std.specs.Prelude.{filter, if◌then◌else◌, not, option_map}
use Rattle.vm_memory.specs.Memory.{Memory, reach}
use Rattle.vm_iotlb.specs.declared.permissions.Permissions.TheVariants.{Write}
use Rattle.fs_queue.specs.declared.layout.QueueLayout.{QueueLayout}
use Rattle.fs_queue.specs.ReturningView.{stores_of}
use Rattle.fs_regions.specs.Ahead.{AheadBytes, last_first, loads_ahead}
use Rattle.fs_regions.specs.Walks.{Loaded, nothing}
use Rattle.fs_regions.specs.declared.step.CourseStep.TheVariants as step
use Rattle.fuse_fs.specs.Calls.{Done, Entries, Failed, FileAnswer, FileCall, Forget}
use Rattle.fuse_fs.specs.declared.answers.Context.{Context}
use Rattle.fuse_values.specs.Answers.{answer_of}
use Rattle.fuse_values.specs.declared.answer.FileAnswer as made_answer
use Rattle.fuse_values.specs.declared.answer.FileAnswer.TheVariants as value
use Rattle.plain_machine.specs.Step.{Exchange}
use Rattle.server_meanings.specs.Grammar.{Asks, Lists, meaning}
use Rattle.server_meanings.specs.Listings.{ListRequest, readdir_call}
use Rattle.server_meanings.specs.Serving.{setting}
use Rattle.server_phases.specs.declared.session.Session.{Session}
use Rattle.live_machine.specs.Live.{Abandons, Asked, DecodesRequest, EndsPop, GivesUpChain, InFlightChain}
use Rattle.live_machine.specs.Live.{LiveEvent, Phase, RepliesOwnBytes, ResetsQueue}
use Rattle.live_machine.specs.Live.{PushesChain, ReceivesAnswer, RefusesPop, SetsOptions, abandoned_chain}
use Rattle.live_machine.specs.Live.{StoresNotification, asked_chain}
use Rattle.fs_chain.specs.Ahead.{PopsAhead, ahead_error}
use Rattle.fs_chain.specs.AheadSteps.{AddsAhead}
use Rattle.fs_chain.specs.Answers.{IfDecoded, IsGiven, IsNotTaken}
use Rattle.fs_chain.specs.Decoding.{IfUndecoded, ReportStandsIn, ReportsMeaning, wanted_after, wanted_by}
use Rattle.fs_driven.specs.Drivers.{PushUnderWay, Driver, Driven, In, KeepsPush, HasRun, HasRunBy, RunsTo}
use Rattle.fs_driven.specs.Drivers.{driver, lost}
use Rattle.fs_driven.specs.Drivers.{own, with_pop, with_push, with_queue}
use Rattle.fs_chain.specs.Holds.{RunState, Pop, calls_decoded, live_of, served_so}
use Rattle.fs_chain.specs.Listings.{EndsByEntries, EndsByError}
use Rattle.fs_chain.specs.Loads.{IsSame, ProceedsSo, RefusesAPop, whole}
use Rattle.fs_chain.specs.Orders.{ask_error, end_error, front_of, give_up_error, has_ring, is_out}
use Rattle.fs_chain.specs.Orders.{push_error, push_refusal}
use Rattle.fs_chain.specs.OwnReplies.{IfUnanswered, own_error, own_reply}
use Rattle.fs_chain.specs.Pushes.{IfReplied, IsFreed, PushesBy}
use Rattle.fs_chain.specs.Events.{notification_store, store_of}
use Rattle.fs_chain.specs.Queues.{gave, gave_up, reset_to}
use Rattle.fs_chain.specs.Tickets.{UnlessRefused, freed, ticket_error}
use Rattle.fs_chain.specs.Together.{Owned, with_handle}
use Rattle.fs_chain.specs.Walks.{IsAllBut, IsAllButPlace, count}
use Rattle.fs_chain.specs.ListingCalls.{listing_calls}
use Rattle.fs_chain.specs.Pops.{AddsSo}
use Rattle.fs_chain.specs.declared.answering.Replied.{Replied}
use Rattle.fs_chain.specs.declared.listing.AddOutcome.{AddOutcome}
use Rattle.fs_chain.specs.declared.chain_handle.ChainHandle.{ChainHandle}
use Rattle.fs_driven.specs.declared.commands.DriverCall.{DriverCall}
use Rattle.fs_driven.specs.declared.commands.DriverCall.TheVariants as does
use Rattle.fs_driven.specs.declared.commands.Results.{Results}
use Rattle.fs_driven.specs.declared.commands.Results.TheVariants as gives
use Rattle.fs_chain.specs.declared.decoding.Decoded.{Decoded}
use Rattle.fs_chain.specs.declared.notifications.NotificationStore.{NotificationStore}
use Rattle.fs_chain.specs.declared.decoding.Decoded.TheVariants as asks
use Rattle.fs_chain.specs.declared.error.ChainError.{ChainError}
use Rattle.fs_chain.specs.declared.loads.LoadOutcome as outcome
use Rattle.fs_chain.specs.declared.loads.LoadOutcome.TheVariants as outcomes
use Rattle.fs_chain.specs.declared.popping.PopOutcome as walked
use Rattle.fs_chain.specs.declared.popping.PopOutcome.TheVariants as shows
use Rattle.fs_chain.specs.declared.pushing.PushStores.{PushStores}
use Rattle.fs_chain.specs.declared.queue.QueueState.{QueueState}
use Rattle.fs_chain.specs.declared.state.ChainReply.{ChainReply}
use Rattle.fs_chain.specs.declared.state.ChainState as state
use Rattle.fs_chain.specs.declared.state.ChainState.TheVariants as at
use Rattle.fs_chain.specs.declared.state.InFlight.{InFlight}
use Rattle.fs_driven.specs.Adding.{BringsSo, EndsSo}
use Rattle.fs_driven.specs.Entries.{IsOfLast, all_brought, answers_of, ending_of}
use Rattle.fs_driven.specs.Moving.{MoveEvents}
use Rattle.fs_driven.specs.NewMemory.{RemapEvents}
use Rattle.fs_driven.specs.Kept.{IsSameHeld}
use Rattle.fs_driven.specs.declared.entries.ListedEntry.{ListedEntry}

-- ---- calls

-- a call: the number of its handle, its command, and what it returned
pub record Called : Type 0 where
  pub place : ℕ
  pub command : DriverCall
  pub returned : Results

-- a call of handle k
abbrev pub call_of : ℕ → DriverCall → Results → Called
call_of k command returned = record { place = k; command = command; returned = returned }

-- what a call doesn't see: the rest of a request, an answer's data, or a reply of the caller's own; the
-- request that such a reply is for, if it wasn't decoded; and how many bytes of a reply are stored last
pub record Unseen : Type 0 where
  pub bytes : List ℕ
  pub request : List ℕ
  pub last : ℕ

-- the first n of these bytes, and zeros if they are fewer
abbrev pub exactly : (n : ℕ) → List ℕ → List ℕ
exactly zero bytes = []
exactly (suc n) [] = 0 ∷ exactly n []
exactly (suc n) (b ∷ bytes) = b ∷ exactly n bytes

-- the whole request of `len` bytes that begins with these
abbrev pub request_of : (front : List ℕ) → Unseen → (len : ℕ) → List ℕ
request_of front u len = front ++ exactly (len - length front) u.bytes

-- the length of a chain's request that wasn't decoded
abbrev pub asked_len_of : state.ChainState → ℕ
asked_len_of (at.Popped out) = out.request_len
asked_len_of _ = 0

-- the data of an answer
abbrev pub data_of : made_answer.FileAnswer → Unseen → List ℕ
data_of (value.Bytes len) u = exactly len u.bytes
data_of _ u = []

-- a call of handle `handle`, for queue `queue` of the run: the driver's state before and after it, the
-- handle, and the queue
pub record Transition : Type 0 where
  pub queue : ℕ
  pub page_size : ℕ
  pub handle : ℕ
  pub old : Driver
  pub new : Driver
  pub was : ChainHandle
  pub now : ChainHandle
  pub before : QueueState
  pub after : QueueState

abbrev pub transition : (i page_size k : ℕ) → (d d' : Driver) → (w w' : ChainHandle) →
    (q q' : QueueState) → Transition
transition i page_size k d d' w w' q q' =
    record {
      queue = i;
      page_size = page_size;
      handle = k;
      old = d;
      new = d';
      was = w;
      now = w';
      before = q;
      after = q';
    }

-- the handle's pop has the loads that it had
abbrev pub KeepsPop : Transition → Type 0
KeepsPop t = t.new.pops t.handle ≡ t.old.pops t.handle

-- a refused call changes neither its handle nor the queue
abbrev pub ChangesNeither : Transition → Type 0
ChangesNeither t = IsSame t.was t.now × (t.after ≡ t.before) × KeepsPop t

-- nor does a call that isn't made
abbrev pub IsNotMade : Transition → Type 0
IsNotMade t = (t.now ≡ t.was) × (t.after ≡ t.before) × KeepsPop t

-- of the handle only the chain's state and the session change, and the queue stays
abbrev pub ChangesSession : Transition → Type 0
ChangesSession t =
    (IsAllBut t.was t.now × (t.now.descriptors ≡ t.was.descriptors) × (t.now.part ≡ t.was.part))
    × (t.after ≡ t.before)

-- ---- pops

-- the loads of a pop, by the state of its handle: none as it begins; with these bytes, if it goes on and
-- the queue isn't stopped
abbrev pub IsLoadedBy : state.ChainState → Transition → (bytes : List ℕ) → walked.PopOutcome → Loaded → Type 0
IsLoadedBy at.Free t bytes result loaded = loaded ≡ nothing
IsLoadedBy st t bytes result loaded =
    t.before.stopped ≡ None →
    AddsSo st (outcomes.On result) t.now.descriptors.items (t.old.pops t.handle).loaded (whole t.was bytes)
    loaded

-- the events of a pop's call with this result, after these loads
abbrev pub PopEvents : Transition → Loaded → walked.PopOutcome → List LiveEvent → Type 0
PopEvents t loaded (shows.Load n) es = (es ≡ []) × ((t.new.pops t.handle).loaded ≡ loaded)
PopEvents t loaded (shows.Missing range access) es = es ≡ []
PopEvents t loaded shows.Idle es = es ≡ EndsPop t.queue loaded t.now.descriptors.items step.Idle ∷ []
PopEvents t loaded (shows.Refused e) es =
    (es ≡ EndsPop t.queue loaded t.now.descriptors.items (step.Refused e) ∷ [])
    ⊎ (es ≡ RefusesPop t.queue e ∷ [])
PopEvents t loaded (shows.Chain head request_len room_len) es =
    (es ≡ EndsPop t.queue loaded t.now.descriptors.items (step.Chain head None) ∷ [])
    × (request_len ≡ count false t.now.descriptors.items)
    × (room_len ≡ count true t.now.descriptors.items)
PopEvents t loaded (shows.Faulty head fault) es =
    es ≡ EndsPop t.queue loaded t.now.descriptors.items (step.Chain head (Some fault)) ∷ []

abbrev pub EventsOfPop : Transition → (bytes : List ℕ) → Result outcome.LoadOutcome ChainError →
    List LiveEvent
    → Type 0
EventsOfPop t bytes (Err e) es = (es ≡ []) × ChangesNeither t × RefusesAPop t.was t.before bytes e
EventsOfPop t bytes (Ok outcomes.Part) es =
    (es ≡ []) × KeepsPop t × ProceedsSo t.was t.before bytes outcomes.Part t.now t.after
EventsOfPop t bytes (Ok (outcomes.On result)) es =
    ProceedsSo t.was t.before bytes (outcomes.On result) t.now t.after
    × (loaded : Loaded)
    × IsLoadedBy t.was.state t bytes result loaded
    × PopEvents t loaded result es

-- a pop by loads ahead has the loads that it took of them
abbrev pub EventsOfPopAhead : Transition → List AheadBytes → Result walked.PopOutcome ChainError →
    List LiveEvent
    → Type 0
EventsOfPopAhead t ahead (Err e) es =
    (es ≡ []) × ChangesNeither t × (ahead_error t.was.state t.before ≡ Some e)
EventsOfPopAhead t ahead (Ok result) es =
    (pop : PopsAhead ahead t.was t.now t.before t.after (outcomes.On result))
    × (loaded : Loaded)
    × AddsAhead (last_first pop.first []) t.was t.now t.before t.after (outcomes.On result) pop.walks
    loaded
    × PopEvents t loaded result es

-- ---- decodes and answers

-- the caller sets the options of the session, if they are others
abbrev pub setting_of : (options now : ℕ) → List LiveEvent
setting_of options now = if options == now then [] else SetsOptions options ∷ []

-- the events of a decoding with this result: none if it needs more bytes
abbrev pub DecodeEvents : Transition → Session → (request : List ℕ) → Decoded → List LiveEvent → Type 0
DecodeEvents t session request (asks.More n) es = es ≡ []
DecodeEvents t session request result es =
    (c : InFlightChain)
    × In (own t.handle c) t.old.owned
    × (es ≡ setting_of session.options.0 t.old.run.options
    ++ DecodesRequest c request (calls_decoded (drop 80 request) result) ∷ [])
    × In (own t.handle (asked_chain c request session.options.0 [])) t.new.owned

abbrev pub EventsOfDecode : Transition → Session → (front : List ℕ) → Unseen → Result Decoded ChainError →
    List LiveEvent → Type 0
EventsOfDecode t session front u (Err e) es =
    (es ≡ []) × ChangesNeither t × (ask_error t.was.state (length front) ≡ Some e)
EventsOfDecode t session front u (Ok result) es =
    let request = request_of front u (asked_len_of t.was.state) in
    (wanted_by result ≡ wanted_after front (asked_len_of t.was.state))
    × ReportStandsIn session.options.0 front result
    × IfUndecoded t.was.state (λ out. ReportsMeaning
    (setting session.page_size session.options.0 out.room_len)
    (meaning session.options.0 request out.room_len) (drop 80 request) out result t.now.state)
    × ChangesSession t
    × (t.now.session ≡ session)
    × DecodeEvents t session request result es

-- the answer to a FORGET that is owed
abbrev pub forgetting : InFlightChain → Option (Context × ℕ) → List LiveEvent
forgetting c None = []
forgetting c (Some node) = ReceivesAnswer c (Forget node.0 node.1 1) Done ∷ []

abbrev pub EventsOfAnswer : Transition → (ticket : ℕ) → made_answer.FileAnswer → Unseen →
    Result Replied ChainError → List LiveEvent → Type 0
EventsOfAnswer t ticket answer u (Err e) es =
    (es ≡ []) × ChangesNeither t × IsNotTaken t.was ticket answer e
EventsOfAnswer t ticket answer u (Ok result) es =
    let given = answer_of (data_of answer u) answer in
    (ticket_error t.was.state t.was.ticket ticket ≡ None)
    × IfDecoded t.was.state (λ out waiting.
    IsGiven (setting t.was.session.page_size t.was.session.options.0 waiting.room) waiting answer out
    t.now.session.options.0 result t.now.state)
    × ChangesSession t
    × (t.now.session.page_size ≡ t.was.session.page_size)
    × (c : InFlightChain)
    × (call : FileCall)
    × (request : List ℕ)
    × (options : ℕ)
    × In (own t.handle c) t.old.owned
    × (c.phase ≡ Asked request options [])
    × (es ≡ ReceivesAnswer c call given
    ∷ forgetting (asked_chain c request options ((call, given) ∷ [])) result.forget)

-- the request that a reply of the caller's own bytes is for
abbrev pub replied_to : Phase → Unseen → (len : ℕ) → List ℕ
replied_to (Asked request options calls) u len = request
replied_to phase u len = exactly len u.request

abbrev pub EventsOfReply : Transition → (ticket len : ℕ) → Unseen → Result (Unit {0}) ChainError →
    List LiveEvent → Type 0
EventsOfReply t ticket len u (Err e) es =
    (es ≡ []) × ChangesNeither t × (own_error t.was.state t.was.ticket ticket len ≡ Some e)
EventsOfReply t ticket len u (Ok done) es =
    (own_error t.was.state t.was.ticket ticket len ≡ None)
    × IfUnanswered t.was.state (λ out. t.now ≡ record (t.was) { state = at.Replied out (own_reply len) })
    × (t.after ≡ t.before)
    × (c : InFlightChain)
    × In (own t.handle c) t.old.owned
    × (es ≡ RepliesOwnBytes c (replied_to c.phase u (asked_len_of t.was.state)) (exactly len u.bytes)
    t.old.run.options ∷ [])

-- a listing to which no entry was added ends, by this answer to the reading of its directory
abbrev pub EventsOfListing : Transition → (ticket : ℕ) → FileAnswer → (Result ℕ ChainError → Type 0) →
    Result ℕ ChainError → List LiveEvent → Type 0
EventsOfListing t ticket answer Replies (Err e) es =
    (es ≡ [])
    × ChangesNeither t
    × UnlessRefused {A = ℕ} (ticket_error t.was.state t.was.ticket ticket) (Err e) (t.now ≡ t.was)
    (Replies (Err e))
EventsOfListing t ticket answer Replies (Ok len) es =
    (ticket_error t.was.state t.was.ticket ticket ≡ None)
    × (c : InFlightChain)
    × (call : FileCall)
    × (request : List ℕ)
    × (options : ℕ)
    × In (own t.handle c) t.old.owned
    × (c.phase ≡ Asked request options [])
    × (es ≡ ReceivesAnswer c call answer ∷ [])
    × IsAllButPlace t.was t.now
    × (t.after ≡ t.before)
    × Replies (Ok len)

-- an entry, or the end of a listing, is refused
abbrev pub RefusesEntries : (was now : ChainHandle) → (ticket : ℕ) → (list : List ℕ) → List ListedEntry →
    (names : List ℕ) → (failure : Option ℕ) → (last : Result AddOutcome ChainError) → ChainError → Type 0
RefusesEntries was now ticket list [] names failure last e = EndsSo failure was now ticket (Err e)
RefusesEntries was now ticket list (entry ∷ entries) names failure last e =
    (last ≡ Err e) × BringsSo was now ticket list list entry (take entry.name_len names) (Err e)

-- entries were brought to a listing, and it ended: its calls are answered now. The first bytes of the list
-- are behind the reply's front
abbrev pub GatherEvents : Transition → (ticket : ℕ) → List ListedEntry → (names : List ℕ) →
    (failure : Option ℕ) → (added : ℕ) → (last : Result AddOutcome ChainError) → Result ℕ ChainError →
    (list : List ℕ) → List LiveEvent → Type 0
GatherEvents t ticket entries names failure added last (Err e) list es =
    (es ≡ [])
    × (added ≡ 0)
    × IsSameHeld t.was t.now
    × IsAllButPlace t.was t.now
    × (t.after ≡ t.before)
    × KeepsPop t
    × RefusesEntries t.was t.now ticket list entries names failure last e
GatherEvents t ticket entries names failure added last (Ok len) list es =
    let left = drop added (all_brought entries names) in
    (ticket_error t.was.state t.was.ticket ticket ≡ None)
    × (added ≤ length entries)
    × IsOfLast last left
    × IsAllButPlace t.was t.now
    × (t.after ≡ t.before)
    × (c : InFlightChain)
    × (request : List ℕ)
    × (options : ℕ)
    × (out : InFlight)
    × (unique : ℕ)
    × (asked : ListRequest)
    × (kept : ChainReply)
    × In (own t.handle c) t.old.owned
    × (c.phase ≡ Asked request options [])
    × (meaning options request out.room_len ≡ Asks (Lists unique asked))
    × (t.now.state ≡ at.Replied out kept)
    × let calls = listing_calls (readdir_call asked) asked.with_nodes (take added (all_brought entries names))
    (ending_of last left failure) in
    (es ≡ answers_of c request options [] calls)
    × ((served_so t.old.run.page_size options request out.room_len calls).reply
    ≡ front_of kept ++ take len list)

-- ---- pushes, and chains that are given up

-- a push begins: no event yet, but its stores are kept
abbrev pub EventsOfPush : Transition → Result PushStores ChainError → (front : List ℕ) → List LiveEvent →
    Type 0
EventsOfPush t (Err e) front es =
    (es ≡ [])
    × ChangesNeither t
    × (push_error (has_ring t.was.state t.was.regions) t.was.state t.before (length front) ≡ Some e)
EventsOfPush t (Ok stores) front es =
    (es ≡ [])
    × (push_refusal t.was.state t.before (length front) ≡ None)
    × IfReplied t.was.state (λ out reply. PushesBy t.before out reply stores
    × ((behind : List ℕ) × (front ≡ front_of reply ++ behind))
    × (t.now ≡ record (t.was) { state = at.Pushing out }))
    × (t.after ≡ record (t.before) { pushing = true })
    × (t.new.pushes t.queue ≡ Some (record { handle = t.handle; stores = stores; front = front }))

-- a push ends: its stores are those that its begin returned, and its reply begins with that front
abbrev pub EventsOfPushed : Transition → (seen : List ℕ) → Unseen → Result Bool ChainError →
    List LiveEvent → Type 0
EventsOfPushed t seen u (Err e) es =
    (es ≡ []) × ChangesNeither t × (end_error t.was.state t.before ≡ Some e)
EventsOfPushed t seen u (Ok notice) es =
    (c : InFlightChain)
    × (x : Exchange)
    × (b : PushUnderWay)
    × In (own t.handle c) t.old.owned
    × (t.old.pushes t.queue ≡ Some b)
    × (b.handle ≡ t.handle)
    × ((behind : List ℕ) × (x.reply ≡ take b.stores.front_len b.front ++ behind))
    × (es ≡ PushesChain c x notice u.last (stores_of b.stores.used) seen ∷ [])
    × (t.now ≡ freed t.was)
    × (t.after ≡ gave t.before)

abbrev pub GiveUpEvents : Transition → (is_out : Bool) → List LiveEvent → Type 0
GiveUpEvents t false es = es ≡ []
GiveUpEvents t true es = (c : InFlightChain) × In (own t.handle c) t.old.owned × (es ≡ GivesUpChain c ∷ [])

abbrev pub EventsOfGiveUp : Transition → Result (Unit {0}) ChainError → List LiveEvent → Type 0
EventsOfGiveUp t (Err e) es =
    (es ≡ []) × ChangesNeither t × (give_up_error t.was.state t.before ≡ Some e)
EventsOfGiveUp t (Ok done) es =
    (give_up_error t.was.state t.before ≡ None)
    × (t.now ≡ freed t.was)
    × (t.after ≡ (if is_out t.was.state then gave_up t.before else t.before))
    × GiveUpEvents t (is_out t.was.state) es

-- a handle is freed: its chain stays in flight, without a handle
abbrev pub AbandonEvents : Transition → (is_out : Bool) → List LiveEvent → Type 0
AbandonEvents t false es = es ≡ []
AbandonEvents t true es =
    (c : InFlightChain)
    × In (own t.handle c) t.old.owned
    × (es ≡ Abandons c ∷ [])
    × In (lost (abandoned_chain c)) t.new.owned

abbrev pub EventsOfAbandon : Transition → List LiveEvent → Type 0
EventsOfAbandon t es =
    IsFreed t.was t.now × (t.after ≡ t.before) × AbandonEvents t (is_out t.was.state) es

-- ---- each call

-- the events of a command of a handle, by what it returned. A request isn't decoded in a session of another
-- page size, and a call of the queue is none of a handle
abbrev pub EventsOf : Transition → DriverCall → Unseen → Results → List LiveEvent → Type 0
EventsOf t (does.Pop bytes) u (gives.Popped r) es = EventsOfPop t bytes.now r es
EventsOf t (does.PopAhead ahead bytes) u (gives.PoppedAhead r) es =
    EventsOfPopAhead t (loads_ahead ahead.now bytes.now) r es
EventsOf t (does.Decode session front) u (gives.Decoded r) es = EventsOfDecode t session front.now u r es
EventsOf t (does.Decode session front) u gives.OtherSession es =
    (es ≡ []) × IsNotMade t × (session.page_size ≡ t.page_size → ⊥)
EventsOf t (does.Answer ticket answer) u (gives.Answered r) es = EventsOfAnswer t ticket answer u r es
EventsOf t (does.Reply ticket len) u (gives.Replied r) es = EventsOfReply t ticket len u r es
EventsOf t (does.EndListing ticket) u (gives.Listed r) es =
    EventsOfListing t ticket (Entries []) (λ result. EndsByEntries t.was.state t.now.state result) r es
EventsOf t (does.FailListing ticket errno) u (gives.Listed r) es =
    EventsOfListing t ticket (Failed errno) (λ result. EndsByError errno t.was.state t.now.state result) r
    es
EventsOf t (does.Gather ticket entries names failure) u (gives.Gathered added last ended list) es =
    GatherEvents t ticket entries.now names.now failure added last ended list es
EventsOf t does.Push u (gives.Began r front) es = EventsOfPush t r front es
EventsOf t (does.Pushed seen) u (gives.Ended r) es = EventsOfPushed t seen u r es
EventsOf t does.GiveUp u (gives.GaveUp r) es = EventsOfGiveUp t r es
EventsOf t does.Abandon u gives.Abandoned es = EventsOfAbandon t es
EventsOf t (does.Reset i layout position) u gives.NotOfOne es = (es ≡ []) × IsNotMade t
EventsOf t (does.Notify i wanted) u gives.NotOfOne es = (es ≡ []) × IsNotMade t
EventsOf t (does.Remap alloc regions) u gives.NotOfOne es = (es ≡ []) × IsNotMade t
EventsOf t (does.Move alloc regions) u gives.NotOfOne es = (es ≡ []) × IsNotMade t
EventsOf t _ u _ es = ⊥

-- a call of a handle of a queue is a step of the run, among any other handles and queues, whatever it doesn't
-- see
unfoldable pub DrivesOne : (page_size : ℕ) → (w new : ChainHandle) → (q q' : QueueState) →
    DriverCall → Results → Type 0
DrivesOne page_size w new q q' command returned =
    (ws : List ChainHandle) (k : ℕ) → slice_get ws k ≡ Some w →
    (on : List ℕ) (qs : List QueueState) (i : ℕ) → slice_get on k ≡ Some i → slice_get qs i ≡ Some q →
    (u : Unseen) (s : RunState) (os : List Owned) (pops : ℕ → Pop) (pushes : ℕ → Option PushUnderWay) →
    Driven s on page_size qs ws os pops pushes →
    HasRunBy s on page_size (with_queue qs i q') (with_handle ws k new) k pops i pushes
    (λ es d. EventsOf (transition i page_size k (driver s ws qs os pops pushes) d w new q q') command u
    returned
    es)

-- no handle of queue i has a chain in flight
abbrev pub HaveNoChain : (on : List ℕ) → (i : ℕ) → List ChainHandle → Type 0
HaveNoChain on i ws =
    (k : ℕ) (w : ChainHandle) → slice_get ws k ≡ Some w → slice_get on k ≡ Some i → is_out w.state ≡ false

-- so it is, and as many as may be in flight fit in the new layout
abbrev pub MayReset :
    (on : List ℕ) → (i : ℕ) → List ChainHandle → QueueState → QueueLayout → Type 0
MayReset on i ws q layout =
    HaveNoChain on i ws × (1 ≤ q.max_in_flight) × (q.max_in_flight ≤ layout.size)

-- the chains of other queues
abbrev pub of_others : (i : ℕ) → List Owned → List Owned
of_others i os = filter (λ o. not (o.chain.queue == i)) os

-- the events of a reset of queue i: its own, by which none of its chains is in flight any more, also none
-- without a handle; or none, if it isn't done
abbrev pub ResetEvents : (on : List ℕ) → (i : ℕ) → QueueState → (d d' : Driver) → QueueLayout →
    (position : ℕ) → Bool → List LiveEvent → Type 0
ResetEvents on i q d d' layout position true es =
    (es ≡ ResetsQueue i (live_of (reset_to q layout position)) ∷ [])
    × MayReset on i d.handles q layout
    × (d'.queues ≡ with_queue d.queues i (reset_to q layout position))
    × (d'.handles ≡ d.handles)
    × (d'.owned ≡ of_others i d.owned)
    × (d'.pops ≡ d.pops)
    × (d'.pushes ≡ with_push d.pushes i None)
ResetEvents on i q d d' layout position false es =
    (es ≡ []) × (d' ≡ d) × (MayReset on i d.handles q layout → ⊥)

-- the event of a store that enables or disables notifications, if its address is mapped
abbrev pub storing : (i : ℕ) → Memory → Option NotificationStore → List LiveEvent
storing i places None = []
storing i places (Some store) =
    if reach places Write store.address 2 then StoresNotification i (store_of store) ∷ [] else []

-- whether a command is one of a queue, or of all, and of no handle
abbrev pub is_of_queue : DriverCall → Bool
is_of_queue (does.Reset i layout position) = true
is_of_queue (does.Notify i wanted) = true
is_of_queue (does.Remap alloc regions) = true
is_of_queue (does.Move alloc regions) = true
is_of_queue _ = false

-- the events of a call of a queue, or of all, which is none of a handle. If there is no such queue, there are
-- none
abbrev pub EventsOfQueue : (on : List ℕ) → (d d' : Driver) → DriverCall → Results → List LiveEvent → Type 0
EventsOfQueue on d d' (does.Reset i layout position) (gives.Reset done) es =
    (q : QueueState) × (slice_get d.queues i ≡ Some q) × ResetEvents on i q d d' layout position done es
EventsOfQueue on d d' (does.Reset i layout position) gives.NoQueue es =
    (slice_get d.queues i ≡ None) × (es ≡ []) × (d' ≡ d)
EventsOfQueue on d d' (does.Notify i wanted) (gives.Store store) es =
    (q : QueueState)
    × (slice_get d.queues i ≡ Some q)
    × (option_map store_of store ≡ notification_store q wanted)
    × (es ≡ storing i d.run.places store)
    × (d' ≡ d)
EventsOfQueue on d d' (does.Notify i wanted) gives.NoQueue es =
    (slice_get d.queues i ≡ None) × (es ≡ []) × (d' ≡ d)
EventsOfQueue on d d' (does.Remap alloc regions) (gives.Remapped r) es =
    RemapEvents d d' regions.now r es
EventsOfQueue on d d' (does.Move alloc regions) (gives.Moved r) es = MoveEvents d d' regions.now r es
EventsOfQueue on d d' _ _ es = ⊥

-- there is no handle k, or it has no queue
abbrev pub IsMissing : (on : List ℕ) → Driver → (k : ℕ) → Type 0
IsMissing on d k =
    (slice_get d.handles k ≡ None)
    ⊎ (slice_get on k ≡ None)
    ⊎ ((i : ℕ) × (slice_get on k ≡ Some i) × (slice_get d.queues i ≡ None))

-- the call is one of handle k and its queue. Of the pops and of the pushes under way only theirs may change,
-- and not another handle's push
pub record IsCallOf (on : List ℕ) (page_size : ℕ) (d d' : Driver) (k : ℕ) (command : DriverCall) (u : Unseen)
    (returned : Results) (es : List LiveEvent) : Type 0 where
  pub queue : ℕ
  pub was : ChainHandle
  pub now : ChainHandle
  pub before : QueueState
  pub after : QueueState
  pub handle : slice_get d.handles k ≡ Some was
  pub number : slice_get on k ≡ Some queue
  pub there : slice_get d.queues queue ≡ Some before
  pub handles : d'.handles ≡ with_handle d.handles k now
  pub queues : d'.queues ≡ with_queue d.queues queue after
  pub pop : Pop
  pub pops : d'.pops ≡ with_pop d.pops k pop
  pub push : Option PushUnderWay
  pub pushes : d'.pushes ≡ with_push d.pushes queue push
  pub under_way : KeepsPush k (d.pushes queue) push
  pub reports : EventsOf (transition queue page_size k d d' was now before after) command u returned es

-- the events of a call of one of the handles, of none if there is no such handle, or of a queue
abbrev pub EventsOfCall : (on : List ℕ) → (page_size : ℕ) → (d d' : Driver) → Called → Unseen →
    List LiveEvent → Type 0
EventsOfCall on page_size d d' call u es =
    ((is_of_queue call.command ≡ false)
    × IsCallOf on page_size d d' call.place call.command u call.returned es)
    ⊎ ((is_of_queue call.command ≡ false)
    × IsMissing on d call.place
    × (call.returned ≡ gives.NoHandle)
    × (es ≡ [])
    × (d' ≡ d))
    ⊎ EventsOfQueue on d d' call.command call.returned es

-- the events of calls one behind another. Those of each call lead from the state before it to the state after
-- it
abbrev pub EventsOfAll : (on : List ℕ) → (page_size : ℕ) → (d : Driver) → List (Called × Unseen) →
    List LiveEvent → (d' : Driver) → Type 0
EventsOfAll on page_size d [] es d' = (es ≡ []) × (d' ≡ d)
EventsOfAll on page_size d (z ∷ zs) es d' =
    (first : List LiveEvent)
    × (later : List LiveEvent)
    × (mid : Driver)
    × (es ≡ first ++ later)
    × RunsTo on page_size d mid first
    × EventsOfCall on page_size d mid z.0 z.1 first
    × EventsOfAll on page_size mid zs later d'

-- calls, without what they don't see
abbrev pub seen_of : List (Called × Unseen) → List Called
seen_of [] = []
seen_of (z ∷ zs) = z.0 ∷ seen_of zs

-- calls are a run, and its events are theirs, whatever they don't see
unfoldable pub Drives : (on : List ℕ) → (page_size : ℕ) → (ws ws' : List ChainHandle) →
    (qs qs' : List QueueState) → List Called → Type 0
Drives on page_size ws ws' qs qs' calls =
    (zs : List (Called × Unseen)) →
    seen_of zs ≡ calls →
    (s : RunState) (os : List Owned) (pops : ℕ → Pop) (pushes : ℕ → Option PushUnderWay) →
    Driven s on page_size qs ws os pops pushes →
    HasRun s on page_size qs' ws' (λ es d. EventsOfAll on page_size (driver s ws qs os pops pushes) zs es d)

-- ---- lists of commands

-- calls by their handles, their commands and what they returned
abbrev pub calls_of : List ℕ → List DriverCall → List Results → List Called
calls_of (k ∷ ks) (c ∷ cs) (r ∷ rs) = call_of k c r ∷ calls_of ks cs rs
calls_of ks cs rs = []
