-- what is told of a kick
use Rattle.std.proofs.Common.{◌≡◌, ℕ, Bool, true, false, List, [], length, ap, sym, refl, ◌∙◌, subst, Option, Some, None, Err}
use Rattle.std.specs.Prelude.{IsSomeAnd, IsTrue, slice_get}
use Rattle.vm_memory_core.specs.Host.{lengths}
use Rattle.vm_memory_core.specs.Window.{places}
use Rattle.vm_memory_core.proofs.Stores.{changed_at-set}
use Rattle.fs_queue.specs.declared.fault.QueueError.TheVariants as stop
use Rattle.fs_queue.specs.Queue.{Queue}
use Rattle.vm_memory.specs.Memory.{Memory}
use Rattle.fs_queue.specs.Taking.{Offer, RequestAndRoom, IsRequest, CannotFetch, Offers, Refuses, is_idle, offer, may_lack_memory}
use Rattle.fs_queue.specs.Taking as taking
use Rattle.fs_queue.specs.Windows.{IsTaken, Taken}
use Rattle.server_meanings.specs.Serving.{May}
use Rattle.plain_machine.specs.declared.error.DeviceError.{DeviceError}
use Rattle.plain_machine.specs.declared.error.DeviceError.TheVariants as device
use Rattle.plain_machine.specs.Step.{State, Exchange, Calls, Idle, Refused, Exchanged, Exchanges, StepOf, Step}
use Rattle.plain_machine.specs.Run.{Kick}
use Rattle.fs_device.specs.CommandView.{command_of}
use Rattle.fs_device.specs.DeviceView.{request_of}
use Rattle.fs_device.specs.Phases.{HasTaken}
use Rattle.plain_machine.specs.UsedLength.{IsOffered}
use Rattle.fs_device.proofs.StepLemmas.{set-same}
use Rattle.plain_machine.proofs.UsedLemmas.{step_offers}
use Rattle.fs_shared.specs.declared.recorded.Recorded.{Recorded}
use Rattle.fs_shared.specs.declared.kicking.ReplyRoom.{ReplyRoom}
use Rattle.fs_shared.specs.Held.{HasOpenQueue, HasWaiting, came_of}
use Rattle.fs_shared.specs.Keeping.{IsRoomFor, KeepsEvent, KickKeeps, StepChangesNothing}
use Rattle.fs_shared.specs.Replay.{ExchangesPages, ReplaysKick, Outcome, Served, Stopped, is_journaled}
use Rattle.fs_shared.specs.ReturnRuns.{AreReturnPages}

-- ---- a chain that was taken

-- what was taken is what is offered
same_offer : {F : Type 0} (s : State F) (i : ℕ) (x : Exchange) (t : Taken) (o : IsOffered s i x)
    (has : HasTaken s.memory s.limit s.queues i t) → (has.queue ≡ o.queue) × (has.fetched ≡ o.fetched)
same_offer s i x t o has =
    let both : Some has.queue ≡ Some o.queue = sym has.there ∙ o.there in
    let same : has.queue ≡ o.queue = cc in
    let offers : Offers t.head has.fetched ≡ Offers x.head o.fetched = sym has.offered ∙ ap (offer s.memory s.limit) same ∙ o.offered in
    let fetched : has.fetched ≡ o.fetched = cc in (same, fetched)

request_of_exchange : {F : Type 0} (may : May F) (s after : State F) (i : ℕ) (q : Queue) (head : ℕ) (fetched : RequestAndRoom)
    (calls : Calls) (x : Exchange) (notice : Bool) →
    Exchanges may s i q (Offers head fetched) calls x notice after → x.request ≡ request_of fetched
request_of_exchange may s after i q head (CannotFetch why) calls x notice e = ap (λ (y : Exchange). y.request) e.returns.exchange
request_of_exchange may s after i q head (IsRequest request room) calls x notice e = ap (λ (y : Exchange). y.request) e.returns.exchange

-- what is kept of an exchange is an event
module _ {F : Type 0} (may : May F) (s after : State F) (i : ℕ) (calls : Calls) (x : Exchange) (notice : Bool) (t : Taken)
    (has : HasTaken s.memory s.limit s.queues i t) (request : List ℕ) (room : ReplyRoom)
    (is_request : request ≡ request_of has.fetched) (is_room : IsRoomFor (lengths s.memory.host) t request room)
    (ten : length (places t.return_windows.used.items) ≡ 10)
    (step : Step may s i calls (Exchanged x notice) after) where
  request_is : x.request ≡ request
  request_is =
      let found = step_offers may s after i calls x notice step in
      let o = found.0 in
      request_of_exchange may s after i o.queue x.head o.fetched calls x notice found.1 ∙ ap request_of (sym (same_offer s i x t o has).1)
      ∙ sym is_request

  exchange_pages :
      (reply_len : ℕ) (pages : List ℕ) → length x.reply ≡ reply_len → AreReturnPages room.runs reply_len pages → ExchangesPages s i x pages
  exchange_pages reply_len pages long are =
      let o = (step_offers may s after i calls x notice step).0 in
      let same = same_offer s i x t o has in
      let taken : IsTaken s.memory o.queue o.fetched t = subst (λ (q : Queue). IsTaken s.memory q o.fetched t) same.0
      (subst (λ (f : RequestAndRoom). IsTaken s.memory has.queue f t) same.1 has.taken) in
      (o, are s.memory o.queue o.fetched t x.head x.reply is_room.runs taken ten long)

  pub exchange_keeps : (recorded : Recorded) → command_of recorded.entry.command ≡ Kick i 1
      → came_of recorded.entry.outcome ≡ Served x notice →
      AreReturnPages room.runs (length x.reply) recorded.entry.pages.items →
      command_of recorded.receipt.command ≡ Kick i 1 → came_of recorded.receipt.outcome
      ≡ Served (record x { request = room.request.items }) notice → recorded.receipt.pages.items ≡ recorded.entry.pages.items →
      KeepsEvent may s (Kick i 1) recorded after
  exchange_keeps recorded entry outcome pages receipt receipt_outcome receipt_pages = record {
    plays = (
      refl,
      subst (λ (o : Outcome). ReplaysKick may s i o recorded.entry.pages.items after) (sym outcome)
          (calls, step, exchange_pages (length x.reply) recorded.entry.pages.items refl pages),
    );
    entry = entry;
    receipt = receipt;
    outcome = receipt_outcome ∙ ap (λ (request : List ℕ). Served (record x { request = request }) notice) (is_room.request ∙ sym request_is)
        ∙ sym outcome;
    pages = receipt_pages;
  }

-- ---- a refusal

-- a step that a stopped queue refuses changes nothing
stopped_stays : {F : Type 0} (may : May F) (s after : State F) (i : ℕ) (o : Option Queue) → slice_get s.queues i ≡ o →
    StepOf may s i o [] (Refused (device.Queue stop.Stopped)) after → after ≡ s
stopped_stays may s after i None there t = t.1.same
stopped_stays {F} may s after i (Some q) there t =
    t.2 ∙ ap (λ (qs : List Queue). record s { queues = qs }) (changed_at-set s.queues i (λ _. q) q ∙ set-same s.queues i q there)

-- and so a stopped queue does
is_refused : (m : Memory) (limit : ℕ) (q : Queue) → q.stopped ≡ true → offer m limit q ≡ Refuses stop.Stopped
unfolding offer
is_refused m limit q stopped = rw stopped refl

stopped_step : {F : Type 0} (may : May F) (s : State F) (i : ℕ) (q : Queue) → slice_get s.queues i ≡ Some q → q.stopped ≡ true →
    Step may s i [] (Refused (device.Queue stop.Stopped)) s
stopped_step {F} may s i q there stopped =
    subst (λ (o : Option Queue). StepOf may s i o [] (Refused (device.Queue stop.Stopped)) s) (sym there) (
      is_refused s.memory s.limit q stopped,
      refl,
      sym (ap (λ (qs : List Queue). record s { queues = qs }) (changed_at-set s.queues i (λ _. q) q ∙ set-same s.queues i q there)),
    )

-- a kick of a missing queue or of a stopped one
pub missing_kick :
    {F : Type 0} (may : May F) (s : State F) (i : ℕ) → slice_get s.queues i ≡ None → KickKeeps may s i (Err device.NoSuchQueue) s
missing_kick {F} may s i none = (
  subst (λ (o : Option Queue). StepOf may s i o [] (Refused device.NoSuchQueue) s) (sym none)
      (refl, record { same = refl; no_call = refl }),
  refl,
)

pub stopped_kick : {F : Type 0} (may : May F) (s : State F) (i : ℕ) (q : Queue) → slice_get s.queues i ≡ Some q → q.stopped ≡ true →
    KickKeeps may s i (Err (device.Queue stop.Stopped)) s
stopped_kick may s i q there stopped = (stopped_step may s i q there stopped, refl)

-- one that is there
pub is_open : {F : Type 0} (s : State F) (i : ℕ) (q : Queue) → slice_get s.queues i ≡ Some q → q.stopped ≡ false → HasOpenQueue s i
is_open s i q there free = subst (λ (o : Option Queue). IsSomeAnd o (λ q. q.stopped ≡ false)) (sym there) free

-- something waits in it
pub is_waiting : {F : Type 0} (s : State F) (i : ℕ) (q : Queue) → slice_get s.queues i ≡ Some q → q.stopped ≡ false →
    is_idle (offer s.memory s.limit q) ≡ false → HasWaiting s i
is_waiting s i q there free waits =
    subst (λ (o : Option Queue). IsSomeAnd o (λ q. (q.stopped ≡ false) × (is_idle (offer s.memory s.limit q) ≡ false))) (sym there)
    (free, waits)

missing_stays : {F : Type 0} (may : May F) (s after : State F) (i : ℕ) (o : Option Queue) →
    StepOf may s i o [] (Refused device.NoSuchQueue) after → after ≡ s
missing_stays may s after i None t = t.1.same
missing_stays may s after i (Some q) t = absurd t

lacking_stays : {F : Type 0} (may : May F) (s after : State F) (i : ℕ) (o : Option Queue) →
    StepOf may s i o [] (Refused (device.Queue stop.OutOfMemory)) after → after ≡ s
lacking_stays may s after i None t = t.1.same
lacking_stays may s after i (Some q) t = t.1.same

lacking_free : {F : Type 0} (s : State F) (q : Queue) → IsTrue (may_lack_memory (offer s.memory s.limit q)) → q.stopped ≡ false
lacking_free s q lacks =
    elim q.stopped as (λ b. q.stopped ≡ b → b ≡ false) [
      | true ↦ λ stopped. let no : false ≡ true =
          subst (λ (o : Offer). IsTrue (may_lack_memory o)) (is_refused s.memory s.limit q stopped) lacks in absurd (cc)
      | false ↦ λ free. refl
    ] refl

lacking_waits : (o : Offer) → IsTrue (may_lack_memory o) → is_idle o ≡ false
lacking_waits (Offers head fetched) may = refl
lacking_waits taking.Idle may = absurd (cc)
lacking_waits (Refuses e) may = refl

lacking_there : {F : Type 0} (may : May F) (s after : State F) (i : ℕ) (o : Option Queue) →
    StepOf may s i o [] (Refused (device.Queue stop.OutOfMemory)) after →
    IsSomeAnd o (λ q. (q.stopped ≡ false) × (is_idle (offer s.memory s.limit q) ≡ false))
lacking_there may s after i None t = absurd (cc)
lacking_there may s after i (Some q) t = (lacking_free s q t.0, lacking_waits (offer s.memory s.limit q) t.0)

not_stopped : (m : Memory) (limit : ℕ) (q : Queue) (head : ℕ) (f : RequestAndRoom) → offer m limit q ≡ Offers head f → q.stopped ≡ false
not_stopped m limit q head f is =
    elim q.stopped as (λ b. q.stopped ≡ b → b ≡ false) [
      | true ↦ λ stopped. let no : Refuses stop.Stopped ≡ Offers head f = sym (is_refused m limit q stopped) ∙ is in absurd (cc)
      | false ↦ λ free. refl
    ] refl

-- of a queue of which a chain was taken, it waited
pub taken_waited : {F : Type 0} (s : State F) (i : ℕ) (t : Taken) → HasTaken s.memory s.limit s.queues i t → HasWaiting s i
taken_waited s i t has =
    is_waiting s i has.queue has.there (not_stopped s.memory s.limit has.queue t.head has.fetched has.offered) (ap is_idle has.offered)

leaves : {F : Type 0} (may : May F) (s after : State F) (i : ℕ) (e : DeviceError) → Step may s i [] (Refused e) after → after ≡ s →
    StepChangesNothing may s i (Refused e) after
leaves {F} may s after i e step same = (subst (λ (t : State F). Step may s i [] (Refused e) t) same step, same)

-- a refusal that doesn't stop a queue changes nothing
pub refusal_leaves : {F : Type 0} (may : May F) (s after : State F) (i : ℕ) (e : DeviceError) → is_journaled e ≡ false →
    Step may s i [] (Refused e) after → KickKeeps may s i (Err e) after
refusal_leaves may s after i device.NoSuchQueue answered step =
    leaves may s after i device.NoSuchQueue step (missing_stays may s after i (slice_get s.queues i) step)
refusal_leaves may s after i (device.Queue stop.Stopped) answered step =
    leaves may s after i (device.Queue stop.Stopped) step (stopped_stays may s after i (slice_get s.queues i) refl step)
refusal_leaves may s after i (device.Queue stop.OutOfMemory) answered step =
    (lacking_there may s after i (slice_get s.queues i) step, lacking_stays may s after i (slice_get s.queues i) step)
refusal_leaves may s after i _ answered step = absurd (cc)
