-- A run of chains in flight on several queues, event by event, while the guest writes (VIRTIO 1.2, 2.7).
use Rattle.std.specs.Prelude.{◌≡◌, ◌≤◌, ◌<◌, ◌+◌, ◌%◌, ◌^◌, ℕ, Bool, false, true, not, map, ◌==◌, IsTrue}
use Rattle.std.specs.Prelude.{List, [], ◌∷◌, ◌++◌, length, filter, Option, Some, None, is_some, slice_get}
use Rattle.std.specs.Prelude.{if◌then◌else◌}
use Rattle.std.specs.List.{AllByRecursion, Contains}
use Rattle.vm_iotlb.specs.declared.permissions.Permissions.TheVariants.{Read, Write}
use Rattle.vm_memory_core.specs.Host.{changed_at}
use Rattle.vm_memory.specs.Memory.{Memory, addresses, reach}
use Rattle.fs_queue.specs.declared.fault.ChainFault.{ChainFault}
use Rattle.fs_queue.specs.declared.fault.QueueError.{QueueError}
use Rattle.fs_queue.specs.declared.fault.QueueError.TheVariants.{Stopped}
use Rattle.fs_queue.specs.Chain.{Descriptor}
use Rattle.fs_queue.specs.Loads.{Load}
use Rattle.fs_queue.specs.Queue.{Queue, avail_index_at, ring_entry_at}
use Rattle.fs_queue.specs.Taking.{Idle, Refuses, addresses_of, readable, return_fault, writable, total_len}
use Rattle.fs_queue.specs.Taking.{after_refusal}
use Rattle.fs_queue.specs.Returning.{Store, stores_after_reply}
use Rattle.fs_regions.specs.declared.step.CourseStep as comes
use Rattle.fs_regions.specs.declared.step.CourseStep.TheVariants as step
use Rattle.fs_regions.specs.Walks.{FaultIsNoMiss, FetchesBy, Loaded, OffersBy, RefusalIsNoMiss}
use Rattle.fuse_fs.specs.Calls.{FileCall, FileAnswer, suits}
use Rattle.server_meanings.specs.Grammar.{meaning}
use Rattle.server_meanings.specs.Serving.{May, ServedMessage, served, setting}
use Rattle.plain_machine.specs.Step.{Exchange, Calls, answers_alone, calls_alone, faulty, served_exchange}
use Rattle.plain_machine.specs.StepBy.{Act, StoresBytes, reply_stores, return_acts}
use Rattle.live_machine.specs.Several.{LiveQueue, event_miss_of, event_refusal, gave, gave_up, may_take}
use Rattle.live_machine.specs.Several.{returning, sleep_store, took, used_event_at, wants}

-- ---- states

-- the phase of a chain in flight:
-- - `PoppedFaulty`: it was popped with this fault, and is pushed with an empty reply
-- - `Fetched`: its request isn't decoded yet
-- - `Asked`: its request was decoded as it was loaded, with the options of that moment; these calls were
--   answered
-- - `Own`: its caller replied with bytes of its own
-- - `Abandoned`: its handle was freed, so nothing more is done with it
pub data Phase : Type 0 where
  PoppedFaulty : ChainFault → Phase
  Fetched : Phase
  Asked : (request : List ℕ) → (options : ℕ) → Calls → Phase
  Own : (request reply : List ℕ) → Phase
  Abandoned : Option ChainFault → Phase

-- a chain in flight: the mappings when it was popped; its queue, as it was before the pop; the loads of the
-- pop, the descriptors and the head; and its phase
pub record InFlightChain : Type 0 where
  pub places : Memory
  pub queue : ℕ
  pub taken : Queue
  pub loaded : Loaded
  pub descriptors : List Descriptor
  pub head : ℕ
  pub phase : Phase

-- the fault with which the chain was popped
abbrev pub fault_of_phase : Phase → Option ChainFault
fault_of_phase (PoppedFaulty why) = Some why
fault_of_phase (Abandoned fault) = fault
fault_of_phase _ = None

-- the addresses of the reply buffer: a faulty chain has none, and an abandoned one needs none
abbrev pub room_of_phase : Phase → List Descriptor → List ℕ
room_of_phase (PoppedFaulty why) ds = []
room_of_phase (Abandoned fault) ds = []
room_of_phase _ ds = addresses_of (writable ds)

-- a chain that was decoded from this request, with these options, and whose calls so far are these
abbrev pub asked_chain : InFlightChain → (request : List ℕ) → (options : ℕ) → Calls → InFlightChain
asked_chain c request options calls = record c { phase = Asked request options calls }

-- the addresses of the chain's reply buffer, in its phase
abbrev pub room_of : InFlightChain → List ℕ
room_of c = room_of_phase c.phase c.descriptors

-- the calls of a decoded chain that were answered so far. A chain in another phase has none
abbrev pub calls_in : Phase → Calls
calls_in (Asked request options calls) = calls
calls_in _ = []

-- the device beside a guest that runs. Of the memory it has only the mappings as they are now, which no store
-- changes. It has the queues, the options of the session, the chains in flight (the first one popped first),
-- and the file system
pub record LiveState (F : Type 0) : Type 0 where
  pub places : Memory
  pub limit : ℕ
  pub page_size : ℕ
  pub queues : List LiveQueue
  pub options : ℕ
  pub chains : List InFlightChain
  pub files : F

-- ---- events

-- an event of the device
pub data LiveEvent : Type 0 where
  -- a pop of queue i ended with this result after these loads. A chain without a fault has these descriptors
  EndsPop : (i : ℕ) → Loaded → List Descriptor → comes.CourseStep → LiveEvent
  -- a pop of queue i was refused with this error, since the queue is stopped, or a field of its event index
  -- isn't mapped
  RefusesPop : (i : ℕ) → QueueError → LiveEvent
  -- the request of a chain in flight was decoded: its first call, or none
  DecodesRequest : InFlightChain → (request : List ℕ) → (decoded : List FileCall) → LiveEvent
  -- the pending call of the chain was answered
  ReceivesAnswer : InFlightChain → FileCall → FileAnswer → LiveEvent
  -- a chain was pushed. `last` bytes of the reply were stored last, and the stores `used` after the reply.
  -- `seen` are the two bytes that were loaded last; `notice`: whether the driver is to be notified by them
  PushesChain :
      InFlightChain → Exchange → (notice : Bool) → (last : ℕ) → (used : List Store) → (seen : List ℕ) →
      LiveEvent
  -- before the device sleeps, and when it wakes, it enables or disables the notifications of queue i
  StoresNotification : (i : ℕ) → Store → LiveEvent
  -- queue i is reset
  ResetsQueue : (i : ℕ) → LiveQueue → LiveEvent
  -- before a chain in flight is returned, some bytes are stored in its reply buffer, which its reply may
  -- count or not
  FillsBuffer : InFlightChain → List Store → LiveEvent
  -- the chain popped last from its queue, and not decoded, is given up: it is available again
  GivesUpChain : InFlightChain → LiveEvent
  -- the handle of a chain is freed in any phase: the chain stays in flight
  Abandons : InFlightChain → LiveEvent
  -- the caller replies to a request with bytes of its own, instead of decoding it or of answering its pending
  -- call; it may set the options of the session then
  RepliesOwnBytes : InFlightChain → (request reply : List ℕ) → (options : ℕ) → LiveEvent
  -- a file call has its effect, and no chain gets its answer: its chain ended while it was pending, or the
  -- caller makes it by itself, say to undo the look-up of an entry that isn't added
  HasEffect : FileCall → FileAnswer → LiveEvent
  -- the caller sets the options of the session, say to none when the device is reset
  SetsOptions : (options : ℕ) → LiveEvent
  -- addresses have other mappings from now on: those of other regions, or others in the same regions
  Remaps : Memory → LiveEvent
  -- the device moves: a record of it is made here, and its queues are reset by it there, over these mappings
  MovesDevice : Memory → List LiveQueue → LiveEvent

-- the server's work for a chain after its answers so far, with the options of its decoding; `now`: the
-- options at the moment of the answer
abbrev pub serving :
    (page_size options now : ℕ) → (request : List ℕ) → (room : List ℕ) → Calls → ServedMessage
serving page_size options now request room calls =
    served (setting page_size now (length room)) (meaning options request (length room)) (answers_alone calls)

-- queue i is replaced by another queue
abbrev pub with_live : {F : Type 0} → LiveState F → ℕ → LiveQueue → LiveState F
with_live s i w = record s { queues = changed_at s.queues i (λ _. w) }

-- ---- how each event happens

-- a popped chain isn't decoded yet, or it is faulty
abbrev pub phase_by : Option ChainFault → Phase
phase_by None = Fetched
phase_by (Some why) = PoppedFaulty why

-- a chain as it is popped
abbrev pub new_chain : {F : Type 0} → LiveState F → ℕ → LiveQueue → Loaded → List Descriptor → (head : ℕ) →
    Option ChainFault → InFlightChain
new_chain s i w loaded ds head fault =
    record {
      places = s.places;
      queue = i;
      taken = w.queue;
      loaded = loaded;
      descriptors = ds;
      head = head;
      phase = phase_by fault;
    }

-- the chain is in flight, and the queue's next chain is popped from the next position
abbrev pub with_popped : {F : Type 0} → LiveState F → ℕ → LiveQueue → InFlightChain → LiveState F
with_popped s i w c = record s { queues = changed_at s.queues i (λ _. took w); chains = s.chains ++ c ∷ [] }

-- how a pop of a queue ends. A pop that misses addresses is no event: it changes nothing. No refusal and no
-- fault results from addresses that the table misses (`first_miss`)
abbrev pub EndsPopIn : {F : Type 0} → LiveState F → ℕ → LiveQueue → Loaded → List Descriptor →
    comes.CourseStep → LiveState F → Type 0
EndsPopIn s i w loaded ds (step.Load walk) after = ⊥
EndsPopIn s i w loaded ds (step.Missing range access) after = ⊥
EndsPopIn s i w loaded ds step.Idle after = OffersBy s.places s.limit w.queue loaded [] Idle × (after ≡ s)
EndsPopIn s i w loaded ds (step.Refused e) after =
    OffersBy s.places s.limit w.queue loaded [] (Refuses e)
    × (after ≡ with_live s i (record w { queue = after_refusal w.queue e }))
    × RefusalIsNoMiss s.places s.limit w.queue loaded e
EndsPopIn s i w loaded ds (step.Chain head fault) after =
    FetchesBy s.places s.limit w.queue loaded ds head fault
    × (after ≡ with_popped s i w (new_chain s i w loaded ds head fault))
    × FaultIsNoMiss s.places s.limit w.queue loaded fault

-- the state after a pop with this result
abbrev pub after_pop :
    {F : Type 0} → LiveState F → ℕ → LiveQueue → Loaded → List Descriptor → comes.CourseStep → LiveState F
after_pop s i w loaded ds (step.Refused e) = with_live s i (record w { queue = after_refusal w.queue e })
after_pop s i w loaded ds (step.Chain head fault) = with_popped s i w (new_chain s i w loaded ds head fault)
after_pop s i w loaded ds _ = s

-- the refusals that no walk of the ring finds: the queue is stopped, or it has the event index, and
-- used_event or avail_event isn't mapped. A stopped queue also refuses a pop's next load
abbrev pub pop_refusal : Memory → LiveQueue → Option QueueError
pop_refusal m w =
    if w.queue.stopped then Some Stopped else event_refusal m w

-- the 16 bytes of a table's entry were loaded, and are mapped
abbrev pub IsMappedEntry : Memory → Load → Type 0
IsMappedEntry m l = (is_some l.came ≡ true) × (reach m Read l.address 16 ≡ true)

-- the loads that brought bytes are of mapped addresses: the available index and the available ring's entry,
-- if they were loaded (2.7.6), and each entry of a descriptor table (2.7.5)
pub record LoadsAreMapped (m : Memory) (q : Queue) (loaded : Loaded) : Type 0 where
  pub index : is_some loaded.index ≡ true → reach m Read (avail_index_at q) 2 ≡ true
  pub entry : is_some loaded.entry ≡ true → reach m Read (ring_entry_at q) 2 ≡ true
  pub entries : AllByRecursion (IsMappedEntry m) loaded.entries

-- a pop of a queue that isn't stopped, if one more of its chains may be in flight. With the event index
-- used_event and avail_event are mapped
pub record EndsPopSo {F : Type 0} (s : LiveState F) (i : ℕ) (loaded : Loaded) (ds : List Descriptor)
    (came : comes.CourseStep) (after : LiveState F) : Type 0 where
  pub w : LiveQueue
  pub there : slice_get s.queues i ≡ Some w
  pub room : IsTrue (may_take w)
  pub proceeds : pop_refusal s.places w ≡ None
  pub mapped : LoadsAreMapped s.places w.queue loaded
  pub ends : EndsPopIn s i w loaded ds came after

-- a pop of a queue is refused with this error, if one more of its chains may be in flight. If the table
-- misses used_event or avail_event, only a stopped queue refuses it
pub record RefusesPopSo {F : Type 0} (s : LiveState F) (i : ℕ) (e : QueueError) (after : LiveState F) :
    Type 0 where
  pub w : LiveQueue
  pub there : slice_get s.queues i ≡ Some w
  pub room : IsTrue (may_take w)
  pub why : pop_refusal s.places w ≡ Some e
  pub no_miss : w.queue.stopped ≡ false → event_miss_of s.places w ≡ None
  pub state : after ≡ with_live s i (record w { queue = after_refusal w.queue e })

-- the state after a chain in flight was decoded
abbrev pub after_decoding :
    {F : Type 0} → LiveState F → (before behind : List InFlightChain) → InFlightChain → (request : List ℕ) →
    LiveState F
after_decoding s before behind c request =
    record s { chains = before ++ asked_chain c request s.options [] ∷ behind }

-- a chain in flight is decoded, with the options of this moment
pub record DecodesRequestSo {F : Type 0} (s : LiveState F) (c : InFlightChain) (request : List ℕ)
    (decoded : List FileCall) (after : LiveState F) : Type 0 where
  pub before : List InFlightChain
  pub behind : List InFlightChain
  pub out : s.chains ≡ before ++ c ∷ behind
  pub fresh : c.phase ≡ Fetched
  pub whole : length request ≡ total_len (readable c.descriptors)
  pub reports : decoded ≡ (serving s.page_size s.options s.options request (room_of c) []).calls
  pub state : after ≡ after_decoding s before behind c request

-- the state after the answers of these calls, the last of which was answered now
abbrev pub after_answer : {F : Type 0} → LiveState F → (before behind : List InFlightChain) → InFlightChain →
    (request : List ℕ) → (options : ℕ) → Calls → F → LiveState F
after_answer s before behind c request options calls files = record s {
  chains = before ++ asked_chain c request options calls ∷ behind;
  options = (serving s.page_size options s.options request (room_of c) calls).options;
  files = files;
}

-- the pending call of a chain is answered, as the file system may answer by now. It is the call after those
-- that were answered. An answer to INIT or DESTROY changes the session's options
pub record ReceivesAnswerSo {F : Type 0} (may : May F) (s : LiveState F) (c : InFlightChain) (call : FileCall)
    (answer : FileAnswer) (after : LiveState F) : Type 0 where
  pub before : List InFlightChain
  pub behind : List InFlightChain
  pub out : s.chains ≡ before ++ c ∷ behind
  pub request : List ℕ
  pub options : ℕ
  pub calls : Calls
  pub asked : c.phase ≡ Asked request options calls
  pub pending :
      (serving s.page_size options options request (room_of c) calls).calls ≡ calls_alone calls ++ call ∷ []
  pub is_one : IsTrue (suits call answer)
  pub files : F
  pub may_so : may s.files call answer files
  pub state : after ≡ after_answer s before behind c request options (calls ++ (call, answer) ∷ []) files

-- the exchange of a request that its caller replied to with bytes of its own
abbrev pub own_exchange : (head : ℕ) → (request reply : List ℕ) → Exchange
own_exchange head request reply = record { head = head; request = request; reply = reply; fault = None }

-- the exchange with which a chain is returned: an empty reply, if it is faulty; the server's reply, once no
-- call is pending; or its caller's own bytes
abbrev pub PushedWith : (page_size : ℕ) → InFlightChain → Phase → Exchange → Type 0
PushedWith page_size c (PoppedFaulty why) x = x ≡ faulty c.head why
PushedWith page_size c Fetched x = ⊥
PushedWith page_size c (Own request reply) x = x ≡ own_exchange c.head request reply
PushedWith page_size c (Abandoned fault) x = ⊥
PushedWith page_size c (Asked request options calls) x =
    let given = serving page_size options options request (room_of c) calls in
    (given.calls ≡ calls_alone calls) × (x ≡ served_exchange c.head request given)

-- the state after a chain was pushed
abbrev pub after_push :
    {F : Type 0} → LiveState F → (before behind : List InFlightChain) → InFlightChain → LiveQueue →
    LiveState F
after_push s before behind c w =
    record s { queues = changed_at s.queues c.queue (λ _. gave w); chains = before ++ behind }

-- a chain is returned at its queue's next used position, in any order of the pops
pub record PushesChainSo {F : Type 0} (s : LiveState F) (c : InFlightChain) (x : Exchange) (notice : Bool)
    (last : ℕ) (used : List Store) (seen : List ℕ) (after : LiveState F) : Type 0 where
  pub before : List InFlightChain
  pub behind : List InFlightChain
  pub out : s.chains ≡ before ++ c ∷ behind
  pub w : LiveQueue
  pub there : slice_get s.queues c.queue ≡ Some w
  pub proceeds : PushedWith s.page_size c c.phase x
  pub used_is : used ≡ stores_after_reply (returning w) c.head (length x.reply)
  pub two : length seen ≡ 2
  pub reported : notice ≡ wants w seen
  pub state : after ≡ after_push s before behind c w

-- two writable bytes are mapped at this address
abbrev pub StoreIsMapped : Memory → (address : ℕ) → Type 0
StoreIsMapped m address = reach m Write address 2 ≡ true

-- the device enables or disables notifications by a store to a mapped address
pub record StoresNotificationSo {F : Type 0} (s : LiveState F) (i : ℕ) (store : Store) (after : LiveState F) :
    Type 0 where
  pub w : LiveQueue
  pub there : slice_get s.queues i ≡ Some w
  pub wanted : Bool
  pub stores : sleep_store w wanted ≡ Some store
  pub place : StoreIsMapped s.places store.address
  pub state : after ≡ s

-- the state after a reset: no chain of the queue is in flight
abbrev pub after_reset : {F : Type 0} → LiveState F → ℕ → LiveQueue → LiveState F
after_reset s i w =
    record s { queues = changed_at s.queues i (λ _. w); chains = filter (λ c. not (c.queue == i)) s.chains }

-- the next chain is popped and returned at the same position, of 16 bits
abbrev pub HasNoneInFlight : LiveQueue → Type 0
HasNoneInFlight w = (w.next_used ≡ w.queue.position) × (w.queue.position < 2 ^ 16)

-- from one chain to as many as a queue has descriptors may be in flight
abbrev pub HasValidMaximum : LiveQueue → Type 0
HasValidMaximum w = (1 ≤ w.max_in_flight) × (w.max_in_flight ≤ w.queue.size)

-- a queue is reset: its chains are no longer in flight. A call of them that is pending may have its effect
-- later (`HasEffect`). The queue may be stopped from then on, as a queue that is restored stopped. Its new
-- layout is any
pub record ResetsQueueSo {F : Type 0} (s : LiveState F) (i : ℕ) (w : LiveQueue) (after : LiveState F) :
    Type 0 where
  pub old : LiveQueue
  pub there : slice_get s.queues i ≡ Some old
  pub positions_agree : HasNoneInFlight w
  pub few : HasValidMaximum w
  pub state : after ≡ after_reset s i w

-- each address of a store is in the reply buffer
abbrev pub IsStoredIn : List ℕ → Store → Type 0
IsStoredIn room store = AllByRecursion (λ a. Contains room a) (addresses store.address (length store.bytes))

-- stores in a chain's reply buffer change nothing of the state
pub record FillsBufferSo {F : Type 0} (s : LiveState F) (c : InFlightChain) (stores : List Store)
    (after : LiveState F) : Type 0 where
  pub before : List InFlightChain
  pub behind : List InFlightChain
  pub out : s.chains ≡ before ++ c ∷ behind
  pub within : AllByRecursion (IsStoredIn (room_of c)) stores
  pub state : after ≡ s

-- ---- chains that end without an answer

-- the state after a chain was given up
abbrev pub after_giving_up :
    {F : Type 0} → LiveState F → (before behind : List InFlightChain) → InFlightChain → LiveQueue →
    LiveState F
after_giving_up s before behind c w =
    record s { queues = changed_at s.queues c.queue (λ _. gave_up w); chains = before ++ behind }

-- a chain that wasn't decoded, and is the last one of its queue that is still popped, is no longer in flight
pub record GivesUpChainSo {F : Type 0} (s : LiveState F) (c : InFlightChain)
    (after : LiveState F) : Type 0 where
  pub before : List InFlightChain
  pub behind : List InFlightChain
  pub out : s.chains ≡ before ++ c ∷ behind
  pub fresh : c.phase ≡ Fetched
  pub w : LiveQueue
  pub there : slice_get s.queues c.queue ≡ Some w
  pub is_last : w.queue.position ≡ (c.taken.position + 1) % 2 ^ 16
  pub state : after ≡ after_giving_up s before behind c w

-- an abandoned chain keeps its fault
abbrev pub abandoned_chain : InFlightChain → InFlightChain
abandoned_chain c = record c { phase = Abandoned (fault_of_phase c.phase) }

-- the state after a handle is freed
abbrev pub after_abandoning : {F : Type 0} → LiveState F → (before behind : List InFlightChain) →
    InFlightChain → LiveState F
after_abandoning s before behind c = record s { chains = before ++ abandoned_chain c ∷ behind }

-- a chain's handle is freed, in any phase, also again: the chain is never pushed. If the file system did its
-- pending call by then, the answer (`ReceivesAnswer`) is an event before this one; if it does the call later,
-- that is an event of its own (`HasEffect`)
pub record AbandonsSo {F : Type 0} (s : LiveState F) (c : InFlightChain) (after : LiveState F) : Type 0 where
  pub before : List InFlightChain
  pub behind : List InFlightChain
  pub out : s.chains ≡ before ++ c ∷ behind
  pub state : after ≡ after_abandoning s before behind c

-- the request of a chain that its caller may reply to. The chain wasn't decoded, or it was from this request;
-- the file system may have answered some of its calls by then, or all
abbrev pub IsUnreplied : InFlightChain → Phase → (request : List ℕ) → Type 0
IsUnreplied c Fetched request = length request ≡ total_len (readable c.descriptors)
IsUnreplied c (Asked asked options calls) request = request ≡ asked
IsUnreplied c _ request = ⊥

-- the state after the caller's own reply
abbrev pub after_own : {F : Type 0} → LiveState F → (before behind : List InFlightChain) → InFlightChain →
    (request reply : List ℕ) → (options : ℕ) → LiveState F
after_own s before behind c request reply options =
    record s { chains = before ++ (record c { phase = Own request reply }) ∷ behind; options = options }

-- the caller's bytes fit in the reply buffer, and their number fits in the used element
pub record RepliesOwnBytesSo {F : Type 0} (s : LiveState F) (c : InFlightChain) (request reply : List ℕ)
    (options : ℕ) (after : LiveState F) : Type 0 where
  pub before : List InFlightChain
  pub behind : List InFlightChain
  pub out : s.chains ≡ before ++ c ∷ behind
  pub unreplied : IsUnreplied c c.phase request
  pub fits : length reply ≤ length (room_of c)
  pub counts : length reply < 2 ^ 32
  pub state : after ≡ after_own s before behind c request reply options

-- a file call has its effect, as the file system may answer by now. No chain and no option changes
pub record HasEffectSo {F : Type 0} (may : May F) (s : LiveState F) (call : FileCall) (answer : FileAnswer)
    (after : LiveState F) : Type 0 where
  pub is_one : IsTrue (suits call answer)
  pub files : F
  pub may_so : may s.files call answer files
  pub state : after ≡ record s { files = files }

-- the caller sets the options of the session, whatever chains are in flight
pub record SetsOptionsSo {F : Type 0} (s : LiveState F) (options : ℕ) (after : LiveState F) : Type 0 where
  pub state : after ≡ record s { options = options }

-- ---- other mappings, and another host

-- at each position, a push has the same error in both memories, or none in both. Both map used_event, or
-- neither does
pub record KeepsReturns (m m' : Memory) (w : LiveQueue) : Type 0 where
  pub returns : (p : ℕ) →
      return_fault m' (record (w.queue) { position = p }) ≡ return_fault m (record (w.queue) { position = p })
  pub event : reach m' Read (used_event_at w.queue) 2 ≡ reach m Read (used_event_at w.queue) 2

-- the same, if there is such a queue
abbrev pub IfKeepsReturns : (m m' : Memory) → Option LiveQueue → Type 0
IfKeepsReturns m m' None = Unit {0}
IfKeepsReturns m m' (Some w) = KeepsReturns m m' w

-- another memory keeps the mappings that the pushes of this chain's queue need
abbrev pub KeepsQueue : {F : Type 0} → LiveState F → Memory → InFlightChain → Type 0
KeepsQueue s m c = IfKeepsReturns s.places m (slice_get s.queues c.queue)

-- addresses have other mappings from now on, or none. Those that the returns of chains in flight need stay
-- mapped or not, as they were. A chain itself keeps the mappings of its pop. While none is in flight, any
-- mapping may change
pub record RemapsSo {F : Type 0} (s : LiveState F) (m : Memory) (after : LiveState F) : Type 0 where
  pub keeps : AllByRecursion (KeepsQueue s m) s.chains
  pub state : after ≡ record s { places = m }

-- a device without chains in flight moves: each queue keeps its layout, its position, and whether it is
-- stopped, in a memory with other mappings. The record has neither the event index nor how many chains may be
-- in flight
pub record MovesDeviceSo {F : Type 0} (s : LiveState F) (m : Memory) (queues : List LiveQueue)
    (after : LiveState F) : Type 0 where
  pub none_in_flight : s.chains ≡ []
  pub same : map (λ w. w.queue) queues ≡ map (λ w. w.queue) s.queues
  pub positions_agree : AllByRecursion HasNoneInFlight queues
  pub few : AllByRecursion HasValidMaximum queues
  pub state : after ≡ record s { places = m; queues = queues }

-- an event leads from a state to a state
abbrev pub Happens : {F : Type 0} → May F → LiveState F → LiveEvent → LiveState F → Type 0
Happens may s (EndsPop i loaded ds came) after = EndsPopSo s i loaded ds came after
Happens may s (RefusesPop i e) after = RefusesPopSo s i e after
Happens may s (DecodesRequest c request decoded) after = DecodesRequestSo s c request decoded after
Happens may s (ReceivesAnswer c call answer) after = ReceivesAnswerSo may s c call answer after
Happens may s (PushesChain c x notice last used seen) after = PushesChainSo s c x notice last used seen after
Happens may s (StoresNotification i store) after = StoresNotificationSo s i store after
Happens may s (ResetsQueue i w) after = ResetsQueueSo s i w after
Happens may s (FillsBuffer c stores) after = FillsBufferSo s c stores after
Happens may s (GivesUpChain c) after = GivesUpChainSo s c after
Happens may s (Abandons c) after = AbandonsSo s c after
Happens may s (RepliesOwnBytes c request reply options) after =
    RepliesOwnBytesSo s c request reply options after
Happens may s (HasEffect call answer) after = HasEffectSo may s call answer after
Happens may s (SetsOptions options) after = SetsOptionsSo s options after
Happens may s (Remaps m) after = RemapsSo s m after
Happens may s (MovesDevice m queues) after = MovesDeviceSo s m queues after

-- a run: events from a state to a state
abbrev pub LiveRun : {F : Type 0} → May F → LiveState F → List LiveEvent → LiveState F → Type 0
LiveRun may s [] after = after ≡ s
LiveRun {F} may s (e ∷ es) after = (mid : LiveState F) × Happens may s e mid × LiveRun may mid es after

-- ---- stores and calls

-- the acts of an event. The calls' data is stored with the reply, at the return. `LoadsFlags` is the load of
-- the two bytes that are seen: the available flags, or with the event index used_event
abbrev pub event_acts : LiveEvent → List Act
event_acts (PushesChain c x notice last used seen) =
    return_acts (reply_stores (room_of c) x.reply last ++ used) seen
event_acts (StoresNotification i store) = StoresBytes store ∷ []
event_acts (FillsBuffer c stores) = map StoresBytes stores
event_acts _ = []

-- the calls of a run, in the order of their answers or effects
abbrev pub calls_among : List LiveEvent → Calls
calls_among [] = []
calls_among (ReceivesAnswer c call answer ∷ es) = (call, answer) ∷ calls_among es
calls_among (HasEffect call answer ∷ es) = (call, answer) ∷ calls_among es
calls_among (_ ∷ es) = calls_among es
