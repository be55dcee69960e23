-- What a handle holds of a live run, and what each of its calls does there. A call's contract ensures: for
-- each state of the live machine in which the handle holds a chain, or none, the call is an event of that
-- machine, or none; and afterwards the handle holds what the event left.
use Rattle.std.specs.Prelude.{◌≡◌, ◌⊎◌, ◌≤◌, ◌^◌, ℕ, Bool, List, [], ◌∷◌, ◌++◌, length, take, drop, false}
use Rattle.std.specs.Prelude.{Option, Some, None, slice_get}
use Rattle.vm_iotlb.specs.declared.iova.IovaRange.{IovaRange}
use Rattle.vm_iotlb.specs.declared.permissions.Permissions.{Permissions}
use Rattle.fs_queue.specs.declared.fault.QueueError.{QueueError}
use Rattle.fs_queue.specs.Chain.{Descriptor}
use Rattle.fs_queue.specs.Queue.{Queue}
use Rattle.fs_queue.specs.Returning.{stores_after_reply}
use Rattle.fs_queue.specs.ReturningView.{stores_of}
use Rattle.fs_queue.specs.Taking.{addresses_of, readable, total_len, writable}
use Rattle.fs_regions.specs.declared.course.Course.{Course}
use Rattle.fs_regions.specs.declared.step.CourseStep as comes
use Rattle.fs_regions.specs.declared.step.CourseStep.TheVariants as step
use Rattle.fs_regions.specs.declared.walk.QueueWalk.{QueueWalk}
use Rattle.fs_regions.specs.Places.{places_in}
use Rattle.fs_regions.specs.Walks.{IsLongestStretch, IsThere, IsWalkAt, Loaded, Misses, nothing, queue_of}
use Rattle.fuse_fs.specs.Calls.{Done, FileAnswer, FileCall, Forget}
use Rattle.fuse_fs.specs.declared.answers.Context.{Context}
use Rattle.fuse_values.specs.Answers.{answer_of}
use Rattle.fuse_values.specs.Values.{call_of}
use Rattle.fuse_values.specs.declared.answer.FileAnswer as made_answer
use Rattle.fuse_values.specs.declared.call.FileCall as made_call
use Rattle.server_meanings.specs.Grammar.{Asks, Lists, meaning}
use Rattle.server_meanings.specs.Listings.{ListRequest}
use Rattle.server_meanings.specs.Serving.{ServedMessage, served, setting}
use Rattle.server_phases.specs.Answering.{ReportsBytes, forget_calls}
use Rattle.server_phases.specs.Asking.{AsksCall, IsRequestFront}
use Rattle.server_phases.specs.Gathering.{Brought, IsListingFor}
use Rattle.server_phases.specs.Gathering as gathering
use Rattle.server_phases.specs.declared.session.Session.{Session}
use Rattle.plain_machine.specs.Step.{Calls, Exchange, answers_alone, calls_alone}
pub use Rattle.live_machine.specs.Files.{any_files}
use Rattle.live_machine.specs.Several.{LiveQueue, event_miss_of, returning, seen_at}
use Rattle.live_machine.specs.Live.{Asked, DecodesRequest, EndsPopSo, Fetched, GivesUpChain, Happens}
use Rattle.live_machine.specs.Live.{InFlightChain, IsUnreplied, RepliesOwnBytes, after_giving_up, after_own}
use Rattle.live_machine.specs.Live.{LiveState, LoadsAreMapped, Own, Phase, PoppedFaulty, PushedWith}
use Rattle.live_machine.specs.Live.{PushesChain, ReceivesAnswer, RefusesPop, after_answer, after_decoding}
use Rattle.live_machine.specs.Live.{after_pop, after_push, asked_chain, new_chain, pop_refusal}
use Rattle.fs_chain.specs.Decoding.{WaitsForNoListing}
use Rattle.fs_chain.specs.Loads.{whole}
use Rattle.fs_chain.specs.Orders.{front_of, reply_len}
pub use Rattle.fs_chain.specs.Queues.{live_of}
use Rattle.fs_chain.specs.Rings.{ring_of}
use Rattle.fs_chain.specs.Walks.{outcome_of}
use Rattle.fs_chain.specs.Pops.{AddsSo}
use Rattle.fs_chain.specs.declared.answering.Replied.{Replied}
use Rattle.fs_chain.specs.declared.chain_handle.ChainHandle.{ChainHandle}
use Rattle.fs_chain.specs.declared.decoding.Decoded.{Decoded}
use Rattle.fs_chain.specs.declared.decoding.Decoded.TheVariants as asks
use Rattle.fs_chain.specs.declared.loads.LoadOutcome as outcome
use Rattle.fs_chain.specs.declared.loads.LoadOutcome.TheVariants as outcomes
use Rattle.fs_chain.specs.declared.popping.PopOutcome as walked
use Rattle.fs_chain.specs.declared.popping.PopOutcome.TheVariants as shows
use Rattle.fs_chain.specs.declared.pushing.PushStores.{PushStores}
use Rattle.fs_chain.specs.declared.queue.QueueState.{QueueState}
use Rattle.fs_chain.specs.declared.state.ChainReply.{ChainReply}
use Rattle.fs_chain.specs.declared.state.ChainState as state
use Rattle.fs_chain.specs.declared.state.ChainState.TheVariants as at
use Rattle.fs_chain.specs.declared.state.InFlight.{InFlight}
use Rattle.fs_chain.specs.declared.state.PopId.{PopId}

-- ---- the run

-- the live machine. Its files may answer anything: by `law_files` a run is one over any files of which its
-- calls are a run
abbrev pub RunState : Type 0
RunState = LiveState (Unit {0})

-- queue i of the run is this one
abbrev pub IsRunQueue : RunState → ℕ → QueueState → Type 0
IsRunQueue s i q = slice_get s.queues i ≡ Some (live_of q)

-- ---- a chain in a handle

-- the handle's record of a chain of a run
pub record IsOutAs (c : InFlightChain) (out : InFlight) : Type 0 where
  pub taken : c.taken ≡ queue_of out.course
  pub ring : out.pop_id.ring ≡ ring_of c.places c.taken.used
  pub head : out.head ≡ c.head
  pub request_len : out.request_len ≡ total_len (readable c.descriptors)
  pub room_len : length (addresses_of (writable c.descriptors)) ≡ out.room_len
  pub small : out.room_len ≤ 2 ^ 31

-- what the server does with a request, by these answered calls
abbrev pub served_so : (page_size options : ℕ) → (request : List ℕ) → (room : ℕ) → Calls → ServedMessage
served_so page_size options request room calls =
    served (setting page_size options room) (meaning options request room) (answers_alone calls)

-- the first file call of a request is answered, or the request has none. The FORGET of an entry whose reply
-- doesn't fit may still be owed
abbrev pub IsPastFirstCall : Calls → ServedMessage → Type 0
IsPastFirstCall [] given = given.calls ≡ []
IsPastFirstCall (step ∷ calls) given = Unit {0}

-- the handle keeps this reply: its front, and how many bytes are behind it
pub record KeepsReplyOf (reply : List ℕ) (out : InFlight) (kept : ChainReply) : Type 0 where
  pub behind : List ℕ
  pub bytes : reply ≡ front_of kept ++ behind
  pub len : reply_len out kept ≡ length reply

-- the session in which a request was decoded
abbrev pub IsDecodedIn : (page_size options : ℕ) → Session → Type 0
IsDecodedIn page_size options session = (session.page_size ≡ page_size) × (session.options.0 ≡ options)

-- a chain in this phase is in a handle in this state, with this session. Its reply is a part of what the
-- phase says: by its answered calls, or its caller's own bytes. A listing has its entries in a list of the
-- caller's, from before the first to its end
abbrev pub IsHeldIn : (page_size : ℕ) → InFlightChain → Phase → state.ChainState → Session → Type 0
IsHeldIn page_size c Fetched (at.Popped out) session = IsOutAs c out
IsHeldIn page_size c (PoppedFaulty why) (at.Replied out kept) session =
    IsOutAs c out × KeepsReplyOf [] out kept
IsHeldIn page_size c (PoppedFaulty why) (at.Pushing out) session = IsOutAs c out
IsHeldIn page_size c (Own request reply) (at.Replied out kept) session =
    IsOutAs c out × KeepsReplyOf reply out kept
IsHeldIn page_size c (Own request reply) (at.Pushing out) session = IsOutAs c out
IsHeldIn page_size c (Asked request options calls) (at.Decoded out waiting) session =
    IsOutAs c out
    × (calls ≡ [])
    × IsDecodedIn page_size options session
    × (made : made_call.FileCall)
    × AsksCall (setting page_size options out.room_len) (meaning options request out.room_len)
    (drop 80 request) made
    waiting
    × WaitsForNoListing waiting
IsHeldIn page_size c (Asked request options calls) (at.Listing out listing) session =
    IsOutAs c out
    × IsDecodedIn page_size options session
    × (unique : ℕ)
    × (asked : ListRequest)
    × (meaning options request out.room_len ≡ Asks (Lists unique asked))
    × IsListingFor listing out.room_len (Lists unique asked)
    × (es : List Brought)
    × (list : List ℕ)
    × gathering.Holds listing list es
IsHeldIn page_size c (Asked request options calls) (at.Replied out kept) session =
    IsOutAs c out
    × KeepsReplyOf (served_so page_size options request out.room_len calls).reply out kept
    × IsPastFirstCall calls (served_so page_size options request out.room_len calls)
IsHeldIn page_size c (Asked request options calls) (at.Pushing out) session =
    IsOutAs c out × IsPastFirstCall calls (served_so page_size options request out.room_len calls)
IsHeldIn page_size c phase st session = ⊥

abbrev pub HoldsInFlight : (page_size : ℕ) → InFlightChain → ChainHandle → Type 0
HoldsInFlight page_size c w = IsHeldIn page_size c c.phase w.state w.session

-- the request of a chain in this phase was decoded, and no call of it was answered. A listing has no entry
abbrev pub IsUnanswered : Phase → state.ChainState → Type 0
IsUnanswered (Asked request options calls) (at.Listing out listing) = (calls ≡ []) × (listing.len ≡ 0)
IsUnanswered (Asked request options calls) st = calls ≡ []
IsUnanswered phase st = ⊥

-- a handle holds such a chain
abbrev pub HoldsUnanswered : (page_size : ℕ) → InFlightChain → ChainHandle → Type 0
HoldsUnanswered page_size c w = HoldsInFlight page_size c w × IsUnanswered c.phase w.state

-- ---- a pop in a handle

-- a pop that hasn't ended: its loads so far, and whether its queue had the event index when it began
pub record Pop : Type 0 where
  pub loaded : Loaded
  pub event_index : Bool

-- a pop of this queue with these loads
abbrev pub pop_of : QueueState → Loaded → Pop
pop_of q loaded = record { loaded = loaded; event_index = q.event_index }

-- the queue has the event index as when the pop began
abbrev pub IsPopOf : QueueState → Pop → Type 0
IsPopOf q p = p.event_index ≡ q.event_index

-- of a handle without a pop
abbrev pub no_pop : Pop
no_pop = record { loaded = nothing; event_index = false }

-- the queue of a pop, as far as the mappings of its event index say
abbrev pub queue_with : Queue → Pop → LiveQueue
queue_with q p = record { queue = q; next_used = 0; max_in_flight = 0; event_index = p.event_index }

-- a handle makes this pop: the loads so far lead to the one that it asks for, and are of mapped addresses
pub record HoldsPop (limit : ℕ) (p : Pop) (w : ChainHandle) : Type 0 where
  pub course : Course
  pub pop_id : PopId
  pub walk : QueueWalk
  pub state : w.state ≡ at.Popping course pop_id walk
  pub ring : pop_id.ring ≡ ring_of (places_in w.regions) course.layout.used
  pub limit_is : course.limit ≡ limit
  pub comes : IsWalkAt (places_in w.regions) (queue_of course) p.loaded w.descriptors.items walk
  pub there : IsThere (places_in w.regions) walk
  pub longest : IsLongestStretch (places_in w.regions) (queue_of course) w.descriptors.items walk
  pub mapped : LoadsAreMapped (places_in w.regions) (queue_of course) p.loaded
  pub events : pop_refusal (places_in w.regions) (queue_with (queue_of course) p) ≡ None

-- ---- what the calls do

-- the calls that a decoding returns: none, or the one that is pending
abbrev pub calls_decoded : (behind : List ℕ) → Decoded → List FileCall
calls_decoded behind (asks.Call made) = call_of behind made ∷ []
calls_decoded behind _ = []

-- a decoding with this result: it needs more bytes, and nothing happens; or it is the event `DecodesRequest`
abbrev pub DecodingIs : (s : RunState) (before behind : List InFlightChain) (c : InFlightChain)
    (request : List ℕ) (new : ChainHandle) → Decoded → Type 0
DecodingIs s before behind c request new (asks.More n) = HoldsInFlight s.page_size c new
DecodingIs s before behind c request new result =
    Happens any_files s (DecodesRequest c request (calls_decoded (drop 80 request) result))
    (after_decoding s before behind c request)
    × HoldsUnanswered s.page_size (asked_chain c request s.options []) new

-- so it is in each state of a run in which the handle has the chain, if the session is the run's
unfoldable pub DecodesInRun : (old new : ChainHandle) → Session → (front : List ℕ) → Decoded → Type 0
DecodesInRun old new session front result =
    (s : RunState) (before behind : List InFlightChain) (c : InFlightChain) (request : List ℕ) →
    s.chains ≡ before ++ c ∷ behind →
    HoldsInFlight s.page_size c old →
    IsDecodedIn s.page_size s.options session →
    length request ≡ total_len (readable c.descriptors) →
    IsRequestFront front request →
    DecodingIs s before behind c request new result

-- the handle keeps the front of this reply. After it come the first of these bytes, as many as
-- `behind` says
abbrev pub IsRepliedWith : (reply bytes : List ℕ) → state.ChainState → Type 0
IsRepliedWith reply bytes (at.Replied out kept) =
    reply ≡ front_of kept ++ take kept.behind bytes
IsRepliedWith reply bytes _ = ⊥

-- a FORGET that the caller owes is answered at any later moment, without the handle: the event
-- `ReceivesAnswer` too. The handle holds what it held, and no call of the chain is pending
abbrev pub ForgettingIs : (s : RunState) (before behind : List InFlightChain) (c : InFlightChain)
    (request : List ℕ) (options : ℕ) (calls : Calls) (new : ChainHandle) → Option (Context × ℕ) → Type 0
ForgettingIs s before behind c request options calls new None = Unit {0}
ForgettingIs s before behind c request options calls new (Some node) =
    let forget = Forget node.0 node.1 1 in
    let all = calls ++ (forget, Done) ∷ [] in
    Happens any_files s (ReceivesAnswer c forget Done) (after_answer s before behind c request options all tt)
    × HoldsInFlight s.page_size (asked_chain c request options all) new
    × ((served_so s.page_size options request (length (addresses_of (writable c.descriptors))) all).calls
    ≡ calls_alone all)

-- this call was pending, and is answered: the event `ReceivesAnswer`. `result.forget` is the FORGET that the
-- caller owes then, and the handle's session has the options that the chain leaves. `bytes`: the answer's
-- data
abbrev pub AnsweringIs : (s : RunState) (before behind : List InFlightChain) (c : InFlightChain)
    (request bytes : List ℕ) (options : ℕ) (call : FileCall) (answer : FileAnswer) (result : Replied)
    (new : ChainHandle) → Type 0
AnsweringIs s before behind c request bytes options call answer result new =
    let calls : Calls = (call, answer) ∷ [] in
    let given = served_so s.page_size options request (length (addresses_of (writable c.descriptors)))
    calls in
    let after = after_answer s before behind c request options calls tt in
    Happens any_files s (ReceivesAnswer c call answer) after
    × HoldsInFlight s.page_size (asked_chain c request options calls) new
    × (given.calls ≡ call ∷ forget_calls result.forget)
    × (new.session.options.0 ≡ given.options)
    × IsRepliedWith given.reply bytes new.state
    × ForgettingIs after before behind (asked_chain c request options calls) request options calls new
    result.forget

-- so it is for an answer to a decoded chain, with these bytes of data in the reply buffer
unfoldable pub AnswersInRun : (old new : ChainHandle) → made_answer.FileAnswer → Replied → Type 0
AnswersInRun old new answer result =
    (s : RunState) (before behind : List InFlightChain) (c : InFlightChain) (request bytes : List ℕ)
    (options : ℕ) →
    s.chains ≡ before ++ c ∷ behind →
    c.phase ≡ Asked request options [] →
    HoldsInFlight s.page_size c old →
    ReportsBytes bytes answer →
    (call : FileCall) × AnsweringIs s before behind c request bytes options call (answer_of bytes answer)
    result
    new

-- a push returns the stores of the chain's exchange at the queue's next used position, and the reply's front.
-- The queue's rings are where they were in the run when the chain was popped
unfoldable pub PushesInRun : (old new : ChainHandle) → QueueState → (front : List ℕ) → PushStores → Type 0
PushesInRun old new q front stores =
    (page_size : ℕ) (c : InFlightChain) (x : Exchange) →
    HoldsInFlight page_size c old →
    PushedWith page_size c c.phase x →
    HoldsInFlight page_size c new
    × (stores_of stores.used ≡ stores_after_reply (returning (live_of q)) c.head (length x.reply))
    × (stores.seen_at ≡ seen_at (live_of q))
    × (ring_of (places_in old.regions) c.taken.used ≡ ring_of c.places c.taken.used)
    × (behind : List ℕ)
    × (x.reply ≡ take stores.front_len front ++ behind)

-- the end of a push is the event `PushesChain`, with the stores that the push returned
unfoldable pub EndsPushInRun : (old : ChainHandle) → (q q' : QueueState) → (seen : List ℕ) → (notice : Bool) →
    Type 0
EndsPushInRun old q q' seen notice =
    (s : RunState) (before behind : List InFlightChain) (c : InFlightChain) (x : Exchange) (last : ℕ) →
    s.chains ≡ before ++ c ∷ behind →
    IsRunQueue s c.queue q →
    HoldsInFlight s.page_size c old →
    PushedWith s.page_size c c.phase x →
    let after = after_push s before behind c (live_of q) in
    Happens any_files s
    (PushesChain c x notice last (stores_after_reply (returning (live_of q)) c.head (length x.reply)) seen)
    after
    × IsRunQueue after c.queue q'

-- ---- the other ends of a chain

-- giving up a chain is the event `GivesUpChain`. A handle that has none is freed, and its queue stays
unfoldable pub GivesUpInRun : (old new : ChainHandle) → (q q' : QueueState) → Type 0
GivesUpInRun old new q q' =
    (s : RunState) (before behind : List InFlightChain) (c : InFlightChain) →
    s.chains ≡ before ++ c ∷ behind →
    IsRunQueue s c.queue q →
    HoldsInFlight s.page_size c old →
    let after = after_giving_up s before behind c (live_of q) in
    Happens any_files s (GivesUpChain c) after × IsRunQueue after c.queue q' × (new.state ≡ at.Free)

-- a handle in this state has the chain, and its reply isn't known. The file system may have answered some of
-- its calls
abbrev pub HasUnreplied : InFlightChain → state.ChainState → Type 0
HasUnreplied c (at.Popped out) = IsOutAs c out
HasUnreplied c (at.Decoded out waiting) = IsOutAs c out
HasUnreplied c (at.Listing out listing) = IsOutAs c out
HasUnreplied c _ = ⊥

-- a reply of the caller's own bytes is the event `RepliesOwnBytes`, with any options of the session then
unfoldable pub RepliesOwnInRun : (old new : ChainHandle) → (len : ℕ) → Type 0
RepliesOwnInRun old new len =
    (s : RunState) (before behind : List InFlightChain) (c : InFlightChain) (request reply : List ℕ)
    (options : ℕ) →
    s.chains ≡ before ++ c ∷ behind →
    HasUnreplied c old.state →
    IsUnreplied c c.phase request →
    length reply ≡ len →
    Happens any_files s (RepliesOwnBytes c request reply options)
    (after_own s before behind c request reply options)
    × HoldsInFlight s.page_size (record c { phase = Own request reply }) new

-- ---- a pop's calls

-- the chain that a pop ended with is in the handle
abbrev pub HoldsPopped :
    (s : RunState) → (i : ℕ) → LiveQueue → Loaded → comes.CourseStep → ChainHandle → Type 0
HoldsPopped s i q loaded (step.Chain head fault) w =
    HoldsInFlight s.page_size (new_chain s i q loaded w.descriptors.items head fault) w
HoldsPopped s i q loaded _ w = w.state ≡ at.Free

-- a pop ended by itself: the event `EndsPop`, by what it is alone
pub record EndsBy (s : RunState) (i : ℕ) (q q' : QueueState) (loaded : Loaded) (new : ChainHandle)
    (result : walked.PopOutcome) : Type 0 where
  pub came : comes.CourseStep
  pub outcome_is : result ≡ outcome_of new.descriptors.items came
  pub happens : EndsPopSo s i loaded new.descriptors.items came
      (after_pop s i (live_of q) loaded new.descriptors.items came)
  pub queue : IsRunQueue (after_pop s i (live_of q) loaded new.descriptors.items came) i q'
  pub has : HoldsPopped s i (live_of q) loaded came new

-- the queue refused it without looking: the event `RefusesPop`
pub record RefusedBy (s : RunState) (i : ℕ) (q q' : QueueState) (new : ChainHandle)
    (result : walked.PopOutcome) : Type 0 where
  pub error : QueueError
  pub outcome_is : result ≡ shows.Refused error
  pub after : RunState
  pub happens : Happens any_files s (RefusesPop i error) after
  pub queue : IsRunQueue after i q'
  pub free : new.state ≡ at.Free

-- which addresses a pop misses after these loads. If used_event and avail_event of its queue are mapped, it
-- misses the first addresses that it needs next, for this access. If they aren't (`fault`), it misses the
-- first of theirs, before any load
abbrev pub MissesUnless : (fault : Option QueueError) → (s : RunState) → LiveQueue → Loaded →
    List Descriptor →
    IovaRange → Permissions → Type 0
MissesUnless None s w loaded ds range access = Misses s.places s.limit w.queue loaded ds range access
MissesUnless (Some fault) s w loaded ds range access =
    (event_miss_of s.places w ≡ Some (range, access)) × (loaded ≡ nothing) × (ds ≡ [])

-- a call of a pop came to this after these loads: it asks for more, and nothing happens; it misses these
-- addresses, and nothing happened; it ended; or the queue refused it
abbrev pub PopIs : (s : RunState) (i : ℕ) (q q' : QueueState) (p : Pop) (new : ChainHandle) →
    walked.PopOutcome → Type 0
PopIs s i q q' p new (shows.Load n) = HoldsPop s.limit p new × (q' ≡ q)
PopIs s i q q' p new (shows.Missing range access) =
    (new.state ≡ at.Free)
    × (q' ≡ q)
    × MissesUnless (pop_refusal s.places (live_of q)) s (live_of q) p.loaded new.descriptors.items range
    access
PopIs s i q q' p new result = EndsBy s i q q' p.loaded new result ⊎ RefusedBy s i q q' new result

-- a pop that begins
unfoldable pub BeginsAPop : (old new : ChainHandle) → (q q' : QueueState) → outcome.LoadOutcome → Type 0
BeginsAPop old new q q' outcomes.Part = ⊥
BeginsAPop old new q q' (outcomes.On result) =
    (s : RunState) (i : ℕ) →
    IsRunQueue s i q →
    s.places ≡ places_in old.regions →
    s.limit ≡ old.limit →
    s.limit ≤ 2 ^ 31 →
    PopIs s i q q' (pop_of q nothing) new result

-- a pop that continues, in a run whose mappings are those of its beginning. A part of a load adds nothing; a
-- whole load adds its bytes
abbrev pub PopContinues : (s : RunState) (i : ℕ) (q q' : QueueState) (p : Pop) (old new : ChainHandle)
    (bytes : List ℕ) →
    outcome.LoadOutcome → Type 0
PopContinues s i q q' p old new bytes outcomes.Part = HoldsPop s.limit p new × (q' ≡ q)
PopContinues s i q q' p old new bytes (outcomes.On result) =
    (loaded : Loaded)
    × (q.stopped ≡ None → AddsSo old.state (outcomes.On result) new.descriptors.items p.loaded
    (whole old bytes)
    loaded)
    × PopIs s i q q' (record p { loaded = loaded }) new result

unfoldable pub ContinuesAPop :
    (old new : ChainHandle) → (q q' : QueueState) → (bytes : List ℕ) → outcome.LoadOutcome → Type 0
ContinuesAPop old new q q' bytes result =
    (s : RunState) (i : ℕ) (p : Pop) →
    HoldsPop s.limit p old →
    IsRunQueue s i q →
    s.places ≡ places_in old.regions →
    IsPopOf q p →
    s.limit ≤ 2 ^ 31 →
    PopContinues s i q q' p old new bytes result

-- a call of a pop: of a free handle it begins one, of another it continues the one that is under way
abbrev pub PopsBy : state.ChainState → (old new : ChainHandle) → (q q' : QueueState) → (bytes : List ℕ) →
    outcome.LoadOutcome → Type 0
PopsBy at.Free old new q q' bytes result = BeginsAPop old new q q' result
PopsBy st old new q q' bytes result = ContinuesAPop old new q q' bytes result
