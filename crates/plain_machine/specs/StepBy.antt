-- One step of the device on one queue, by its loads and stores, while the guest may write at any time.
use Rattle.std.specs.Prelude.{◌≡◌, ◌⊎◌, ℕ, Bool, IsTrue, List, [], ◌∷◌, ◌++◌, length, map, flat_map, take}
use Rattle.std.specs.Prelude.{drop, Option, Some, None, slice_get}
use Rattle.std.specs.List.{zip, AllByRecursion, Contains}
use Rattle.vm_iotlb.specs.declared.permissions.Permissions.TheVariants.{Write}
use Rattle.vm_memory_core.specs.Host.{Place, changed_at}
use Rattle.vm_memory.specs.Memory.{Memory, addresses, bytes, located, location, stored_all}
use Rattle.fs_queue.specs.declared.fault.ChainFault.{ChainFault}
use Rattle.fs_queue.specs.declared.fault.QueueError.TheVariants as stop
use Rattle.fs_queue.specs.Queue.{Queue, element_at, index_at}
use Rattle.fs_queue.specs.Taking.{IsRequest, CannotFetch, Offer, Refuses, Offers, may_lack_memory}
use Rattle.fs_queue.specs.Taking.{after_refusal}
use Rattle.fs_queue.specs.Taking as taking
use Rattle.fs_queue.specs.Loads.{Load}
use Rattle.fs_queue.specs.OfferLoads.{offer_by, AreLoadsOf}
use Rattle.fs_queue.specs.Returning.{Store, writes_of, stores_after_reply, notifies, advanced}
use Rattle.plain_machine.specs.Apart.{Apart}
use Rattle.server_meanings.specs.Serving.{May, ServedMessage}
use Rattle.plain_machine.specs.declared.error.DeviceError.TheVariants as device
use Rattle.plain_machine.specs.Step.{State, Exchange, StepEnd, Idle, Refused, Exchanged, Calls, Unchanged}
use Rattle.plain_machine.specs.Step.{ServesRequest, with_queue, faulty, served_exchange, Step}

-- the loads of a step before its calls: the available index, the ring's entry, the tables' entries, and
-- the request's bytes (VIRTIO 1.2, 2.7.5 and 2.7.6)
pub record StepLoads : Type 0 where
  pub index : Option (List ℕ)
  pub entry : Option (List ℕ)
  pub entries : List Load
  pub request : List ℕ

-- each load returned the bytes that this memory holds
abbrev pub AreStepLoadsOf : Memory → Queue → StepLoads → Type 0
AreStepLoadsOf m q l = AreLoadsOf m q l.index l.entry l.entries l.request

-- the offer of a queue by these loads; of the memory only its mapping matters, which no store changes
abbrev pub offered_by : Memory → ℕ → Queue → StepLoads → Option Offer
offered_by places limit q l = offer_by places limit q l.index l.entry l.entries l.request

-- a store of one byte
abbrev pub byte_store : ℕ × ℕ → Store
byte_store write = record { address = write.0; bytes = write.1 ∷ [] }

-- the stores of a reply to a reply buffer, byte by byte: first all but its first n bytes, which may
-- come straight from a file; then the first n
abbrev pub reply_stores : (room reply : List ℕ) → (n : ℕ) → List Store
reply_stores room reply n =
    map byte_store (zip (drop n room) (drop n reply)) ++ map byte_store (zip (take n room) (take n reply))

-- the stores that return a chain, in order (2.7.8): the reply, the used element's two halves, the used
-- index
abbrev pub return_stores : Queue → (head : ℕ) → (room reply : List ℕ) → (n : ℕ) → List Store
return_stores q head room reply n = reply_stores room reply n ++ stores_after_reply q head (length reply)

-- the memory after some stores, in order
abbrev pub after_stores : Memory → List Store → Memory
after_stores m stores = stored_all m (flat_map writes_of stores)

-- an access to memory after the calls of a step: a store, or a load of two bytes. The load is of the
-- available flags (2.7.7), or of used_event with the event index (2.7.10)
pub data Act : Type 0 where
  StoresBytes : Store → Act
  LoadsFlags : (found : List ℕ) → Act

-- the accesses of a step in order, and the number of reply bytes that were stored last
pub record Effects : Type 0 where
  pub acts : List Act
  pub last : ℕ

-- the stores among these accesses
abbrev pub stores_among : List Act → List Store
stores_among [] = []
stores_among (StoresBytes store ∷ acts) = store ∷ stores_among acts
stores_among (LoadsFlags found ∷ acts) = stores_among acts

-- the accesses that return a chain: all stores, and then the load of the flags (2.7.8, 2.7.7)
abbrev pub return_acts : List Store → (flags : List ℕ) → List Act
return_acts stores flags = map StoresBytes stores ++ LoadsFlags flags ∷ []

-- no store and no load
abbrev pub DoesNothing : Effects → Type 0
DoesNothing e = e.acts ≡ []

-- a chain is returned with this exchange; the bytes of memory afterwards aren't part of this
pub record ReturnsBy {F : Type 0} (before : State F) (i : ℕ) (q : Queue) (room : List ℕ) (expected : Exchange)
    (options : ℕ) (x : Exchange) (notice : Bool)
    (e : Effects) (after : State F) : Type 0 where
  pub exchange : x ≡ expected
  pub flags : List ℕ
  pub flags_len : length flags ≡ 2
  pub acts : e.acts ≡ return_acts (return_stores q expected.head room expected.reply e.last) flags
  pub state : after ≡ record before {
    queues = changed_at before.queues i (λ _. advanced q);
    options = options;
    files = after.files;
  }
  pub reported : notice ≡ notifies flags

-- a faulty chain is returned without a reply, and no call is made
pub record ReturnsFaultyBy {F : Type 0} (before : State F) (i : ℕ) (q : Queue) (head : ℕ) (why : ChainFault)
    (calls : Calls) (x : Exchange) (notice : Bool)
    (e : Effects) (after : State F) : Type 0 where
  pub no_call : calls ≡ []
  pub files : after.files ≡ before.files
  pub returns : ReturnsBy before i q [] (faulty head why) before.options x notice e after

-- a request is answered by the meaning of its loaded bytes
pub record AnswersBy {F : Type 0} (may : May F) (before : State F) (i : ℕ) (q : Queue) (head : ℕ)
    (request room : List ℕ) (calls : Calls) (x : Exchange) (notice : Bool)
    (e : Effects) (after : State F) : Type 0 where
  pub given : ServedMessage
  pub serves : ServesRequest may before.page_size before.options request (length room) before.files calls
      given after.files
  pub returns : ReturnsBy before i q room (served_exchange head request given) given.options x notice e after

-- the chain of an offer is exchanged
abbrev pub ExchangesBy :
    {F : Type 0} → May F → State F → ℕ → Queue → Offer → Calls → Exchange → Bool → Effects → State F → Type 0
ExchangesBy may before i q (Offers head (CannotFetch why)) calls x notice e after =
    ReturnsFaultyBy before i q head why calls x notice e after
ExchangesBy may before i q (Offers head (IsRequest request room)) calls x notice e after =
    AnswersBy may before i q head request room calls x notice e after
ExchangesBy may before i q taking.Idle calls x notice e after = ⊥
ExchangesBy may before i q (Refuses error) calls x notice e after = ⊥

-- the possible ends of a step on a queue with this offer
abbrev pub ActsBy :
    {F : Type 0} → May F → State F → ℕ → Queue → Offer → Calls → StepEnd → Effects → State F → Type 0
ActsBy may before i q offered calls Idle e after =
    (offered ≡ taking.Idle) × Unchanged before calls after × DoesNothing e
ActsBy may before i q offered calls (Refused (device.Queue stop.OutOfMemory)) e after =
    IsTrue (may_lack_memory offered) × Unchanged before calls after × DoesNothing e
ActsBy may before i q offered calls (Refused (device.Queue error)) e after =
    (offered ≡ Refuses error)
    × (calls ≡ [])
    × (after ≡ with_queue before i (after_refusal q error))
    × DoesNothing e
ActsBy may before i q offered calls (Refused device.NoSuchQueue) e after = ⊥
ActsBy may before i q offered calls (Exchanged x notice) e after =
    ExchangesBy may before i q offered calls x notice e after

-- no load was made
abbrev pub LoadsNothing : StepLoads → Type 0
LoadsNothing l = l ≡ record { index = None; entry = None; entries = []; request = [] }

-- a step on a queue that may be missing: the loads determine the offer; a missing queue has no loads
abbrev pub StepOfBy : {F : Type 0} → May F → State F → ℕ → Option Queue → StepLoads → Calls → StepEnd →
    Effects → State F → Type 0
StepOfBy may before i None l calls outcome e after =
    (outcome ≡ Refused device.NoSuchQueue) × Unchanged before calls after × DoesNothing e × LoadsNothing l
StepOfBy may before i (Some q) l calls outcome e after =
    (o : Offer)
    × (offered_by before.memory before.limit q l ≡ Some o)
    × ActsBy may before i q o calls outcome e after

-- a step on queue i with these loads may make these calls, end with this outcome, make these accesses,
-- and leave this state. Of both states' memories only the mapping matters
abbrev pub StepBy :
    {F : Type 0} → May F → State F → ℕ → StepLoads → Calls → StepEnd → Effects → State F → Type 0
StepBy may before i l calls outcome e after =
    StepOfBy may before i (slice_get before.queues i) l calls outcome e after

-- ---- laws

-- the first n addresses of a reply buffer and the rest of it are mapped, and have no byte in common
pub record IsFrontApart (m : Memory) (room : List ℕ) (n : ℕ) : Type 0 where
  pub first : List Place
  pub rest : List Place
  pub first_places : located (location m Write) (take n room) ≡ Some first
  pub rest_places : located (location m Write) (drop n room) ≡ Some rest
  pub apart : Apart first rest

-- no byte of a reply is stored last, or the bytes stored last lie apart from the rest of the reply
-- buffer
abbrev pub MayStoreLast : Memory → (room : List ℕ) → (n : ℕ) → Type 0
MayStoreLast m room n = (n ≡ 0) ⊎ IsFrontApart m room n

-- each load of flags returns the bytes that memory holds by then
abbrev pub FindFlags : Memory → Queue → List Act → Type 0
FindFlags m q [] = Unit {0}
FindFlags m q (StoresBytes store ∷ acts) = FindFlags (after_stores m (store ∷ [])) q acts
FindFlags m q (LoadsFlags found ∷ acts) = (found ≡ bytes m q.avail 2) × FindFlags m q acts

-- a step's loads are of one memory: its bytes before the calls, and the flags by then. The reply bytes
-- stored last lie apart from the rest of the reply buffer
pub record IsOfMemory {F : Type 0} (s : State F) (i : ℕ) (l : StepLoads) (e : Effects) : Type 0 where
  pub loads : (q : Queue) →
      slice_get s.queues i ≡ Some q →
      AreStepLoadsOf s.memory q l
  pub flags : (q : Queue) →
      slice_get s.queues i ≡ Some q →
      FindFlags s.memory q e.acts
  pub apart : (q : Queue) (head : ℕ) (request room : List ℕ) →
      slice_get s.queues i ≡ Some q →
      offered_by s.memory s.limit q l ≡ Some (Offers head (IsRequest request room)) →
      MayStoreLast s.memory room e.last

-- theorem: a step by loads of one memory is a step of the plain machine, and its stores give the memory
-- after it
abbrev pub StepByIsStep : {F : Type 0} → May F → Type 0
StepByIsStep {F} may =
    (s : State F) (i : ℕ) (l : StepLoads) (calls : Calls) (outcome : StepEnd) (e : Effects)
    (after : State F) →
    IsOfMemory s i l e →
    StepBy may s i l calls outcome e after →
    Step may s i calls outcome (record after { memory = after_stores s.memory (stores_among e.acts) })

-- a step of the plain machine is a step by loads of its memory and by stores
pub record HasEffects {F : Type 0} (may : May F) (s : State F) (i : ℕ) (calls : Calls) (outcome : StepEnd)
    (after : State F) : Type 0 where
  pub loads : StepLoads
  pub effects : Effects
  pub are : IsOfMemory s i loads effects
  pub memory : after.memory ≡ after_stores s.memory (stores_among effects.acts)
  pub step : StepBy may s i loads calls outcome effects (record after { memory = s.memory })

-- theorem: each step of the plain machine is such a step
abbrev pub StepIsStepBy : {F : Type 0} → May F → Type 0
StepIsStepBy {F} may =
    (s : State F) (i : ℕ) (calls : Calls) (outcome : StepEnd) (after : State F) →
    Step may s i calls outcome after →
    HasEffects may s i calls outcome after

-- the addresses that a step may store to, for any loads: the reply buffer of the walked chain, the
-- used element and the used index. Only a chain's return stores
abbrev pub return_addresses : Queue → Offer → List ℕ
return_addresses q (Offers head (IsRequest request room)) =
    room ++ addresses (element_at q) 8 ++ addresses (index_at q) 2
return_addresses q (Offers head (CannotFetch why)) = addresses (element_at q) 8 ++ addresses (index_at q) 2
return_addresses q taking.Idle = []
return_addresses q (Refuses error) = []

-- theorem: a step stores to no other address, for any loads
abbrev pub StoresOnlyThere : {F : Type 0} → May F → Type 0
StoresOnlyThere {F} may =
    (s : State F) (i : ℕ) (l : StepLoads) (calls : Calls) (outcome : StepEnd) (e : Effects) (after : State F)
    (q : Queue) (o : Offer) →
    slice_get s.queues i ≡ Some q →
    offered_by s.memory s.limit q l ≡ Some o →
    StepBy may s i l calls outcome e after →
    AllByRecursion (λ (w : ℕ
    × ℕ). Contains (return_addresses q o) w.0) (flat_map writes_of (stores_among e.acts))
