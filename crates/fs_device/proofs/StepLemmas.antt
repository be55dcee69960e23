-- a step of one queue is a step of the device
use Rattle.std.proofs.Common.{◌≡◌, ℕ, Bool, true, false, List, [], set, refl, ap, sym, ◌∙◌, subst, length, Option, Some, slice_get, None}
use Rattle.std.proofs.Common.{Ok, Err}
use Rattle.std.proofs.lemmas.List.{set-get_or}
use Rattle.std.proofs.lemmas.Option.{get_or_from_slice_get}
use Rattle.vm_memory_core.specs.Host.{changed_at}
use Rattle.vm_memory.specs.Memory.{Memory}
use Rattle.fs_queue.specs.declared.fault.QueueError.{QueueError}
use Rattle.fs_queue.specs.declared.fault.QueueError.TheVariants as stop
use Rattle.fs_queue.specs.Queue.{Queue}
use Rattle.fs_queue.specs.Taking.{RequestAndRoom, IsRequest, CannotFetch, Offer, Offers, offer, may_lack_memory, after_refusal, room_of}
use Rattle.fs_queue.specs.Taking as taking
use Rattle.fs_queue.specs.Returning.{returned, wants_notice, advanced}
use Rattle.fs_queue.specs.Windows.{IsTaken, Taken, Takes, after_taking, taken_if}
use Rattle.server_meanings.specs.Serving.{May}
use Rattle.plain_machine.specs.declared.error.DeviceError.TheVariants as device
use Rattle.plain_machine.specs.Step.{State, Exchange, StepEnd, Idle, Refused, Exchanged, Calls, ServesRequest, Exchanges, Acts, StepOf}
use Rattle.plain_machine.specs.Step.{Step, after_return}
use Rattle.fs_device.specs.DevicePartsView.{DeviceParts}
use Rattle.fs_device.specs.DeviceView.{ServesChain, state_of}
use Rattle.fs_queue.specs.Windows as queue
use Rattle.fs_device.specs.Phases.{IsReturned, HasTaken, IsEmptyUnlessDeviceTook, IsTakenFrom, TakesOrEnds}
use Rattle.vm_memory_core.proofs.Stores.{changed_at-set}

-- a queue that goes on by one chain is set among the others
advanced_at : (l : List Queue) (i : ℕ) (p q : Queue) → slice_get l i ≡ Some p → q ≡ advanced p → set l i q ≡ changed_at l i advanced
advanced_at l i p q there is =
    ap (set l i) (is ∙ ap advanced (sym (get_or_from_slice_get l i p p there))) ∙ sym (changed_at-set l i advanced p)

-- a place that a queue left empty is one that the device did
pub empty_unless_taken : (t : Taken) (waits : Bool) → queue.IsEmptyUnlessTaken (Ok waits) t → IsEmptyUnlessDeviceTook (Ok waits) t
empty_unless_taken t true is = tt
empty_unless_taken t false is = is

pub set-same : (l : List Queue) (i : ℕ) (q : Queue) → slice_get l i ≡ Some q → set l i q ≡ l
set-same l i q e = ap (set l i) (sym (get_or_from_slice_get l i q q e)) ∙ set-get_or l i q

-- what never changes: the longest request, and the size of a page
pub record Fixed : Type 0 where
  pub limit : ℕ
  pub page_size : ℕ

abbrev pub state : {F : Type 0} → Fixed → Memory → List Queue → ℕ × F → State F
state f m queues s = record { memory = m; queues = queues; options = s.0; files = s.1; limit = f.limit; page_size = f.page_size }

-- putting the same queue back changes nothing
pub unchanged :
    {F : Type 0} (f : Fixed) (m : Memory) (queues : List Queue) (i : ℕ) (q q' : Queue) (s : ℕ × F) → slice_get queues i ≡ Some q → q' ≡ q →
    state f m (set queues i q') s ≡ state f m queues s
unchanged f m queues i q q' s there same = ap (λ (l : List Queue). state f m l s) (ap (set queues i) same ∙ set-same queues i q there)

moved : {F : Type 0} (f : Fixed) (m : Memory) (queues : List Queue) (i : ℕ) (q q' : Queue) (s : ℕ × F) → q' ≡ q →
    state f m (set queues i q') s ≡ state f m (changed_at queues i (λ _. q)) s
moved f m queues i q q' s same = ap (λ (l : List Queue). state f m l s) (ap (set queues i) same ∙ sym (changed_at-set queues i (λ _. q) q))

-- a step on a queue that is there
on_queue : {F : Type 0} (may : May F) (before : State F) (i : ℕ) (q : Queue) (calls : Calls) (outcome : StepEnd) (after : State F) →
    slice_get before.queues i ≡ Some q →
    Acts may before i q (offer before.memory before.limit q) calls outcome after → Step may before i calls outcome after
on_queue may before i q calls outcome after there acts =
    subst (λ (o : Option Queue). StepOf may before i o calls outcome after) (sym there) acts

-- there is no such queue
pub misses : {F : Type 0} (may : May F) (s : State F) (i : ℕ) → slice_get s.queues i ≡ None → Step may s i [] (Refused device.NoSuchQueue) s
misses may s i missing = subst (λ (o : Option Queue). StepOf may s i o [] (Refused device.NoSuchQueue) s) (sym missing)
    (refl, record { same = refl; no_call = refl })

-- nothing waits
pub idles : {F : Type 0} (may : May F) (f : Fixed) (m : Memory) (queues : List Queue) (i : ℕ) (q q' : Queue) (s : ℕ × F) →
    slice_get queues i ≡ Some q → offer m f.limit q ≡ taking.Idle → q' ≡ q →
    Step may (state f m queues s) i [] Idle (state f m (set queues i q') s)
idles may f m queues i q q' s there idle same =
    on_queue may (state f m queues s) i q [] Idle _ there (idle, record { same = unchanged f m queues i q q' s there same; no_call = refl })

-- an allocation fails once a chain is offered
pub lacks : {F : Type 0} (may : May F) (before after : State F) (i : ℕ) (q : Queue) (head : ℕ) (fetched : RequestAndRoom) →
    slice_get before.queues i ≡ Some q →
    offer before.memory before.limit q ≡ Offers head fetched →
    after ≡ before → Step may before i [] (Refused (device.Queue stop.OutOfMemory)) after
lacks may before after i q head fetched there offered same =
    on_queue may before i q [] (Refused (device.Queue stop.OutOfMemory)) after there
    (ap may_lack_memory offered, record { same = same; no_call = refl })

refused : {F : Type 0} (may : May F) (f : Fixed) (m : Memory) (queues : List Queue) (i : ℕ) (q q' : Queue) (s : ℕ × F) (e : QueueError) →
    Takes m f.limit q (Err e) → slice_get queues i ≡ Some q →
    q' ≡ after_refusal q e →
    Acts may (state f m queues s) i q (offer m f.limit q) [] (Refused (device.Queue e)) (state f m (set queues i q') s)
refused may f m queues i q q' s stop.OutOfMemory t there after =
    (t, record { same = unchanged f m queues i q q' s there after; no_call = refl })
refused may f m queues i q q' s _ t there after = (t, refl, moved f m queues i _ q' s after)

-- a queue hands out no chain
pub refuses : {F : Type 0} (may : May F) (f : Fixed) (m : Memory) (queues : List Queue) (i : ℕ) (q q' : Queue) (s : ℕ × F)
    (e : QueueError) → slice_get queues i ≡ Some q → Takes m f.limit q (Err e) →
    q' ≡ after_refusal q e → Step may (state f m queues s) i [] (Refused (device.Queue e)) (state f m (set queues i q') s)
refuses may f m queues i q q' s e there t after =
    on_queue may (state f m queues s) i q [] (Refused (device.Queue e)) _ there (refused may f m queues i q q' s e t there after)

-- what a queue's taking answers is what the device's does
pub takes_or_ends : {F : Type 0} (may : May F) (f : Fixed) (m : Memory) (queues : List Queue) (i : ℕ) (q q' : Queue) (s : ℕ × F) (t : Taken)
    (waits : Bool) → slice_get queues i ≡ Some q →
    Takes m f.limit q (taken_if t (Ok waits)) → q' ≡ after_taking q (taken_if t (Ok waits)) →
    TakesOrEnds may (state f m queues s) i t (Ok waits) (state f m (set queues i q') s)
takes_or_ends may f m queues i q q' s t true there takes same =
    (record { queue = q; fetched = takes.0; there = there; offered = takes.1; taken = takes.2 }, unchanged f m queues i q q' s there same)
takes_or_ends may f m queues i q q' s t false there idle same = idles may f m queues i q q' s there idle same

-- memory is wanting once a chain was taken
pub lacks_taken : {F : Type 0} (may : May F) (s after : State F) (i : ℕ) (t : Taken) → HasTaken s.memory s.limit s.queues i t → after ≡ s →
    Step may s i [] (Refused (device.Queue stop.OutOfMemory)) after
lacks_taken may s after i t has same = lacks may s after i has.queue t.head has.fetched has.there has.offered same

-- the rest of a device stays as one of its queues goes on
pub advanced_parts : {F : Type 0} (f : Fixed) (queues : List Queue) (i : ℕ) (p q' : Queue) (s : ℕ × F) (d : DeviceParts F) →
    record { queues = queues; options = s.0; files = s.1; limit = f.limit; page_size = f.page_size } ≡ d → slice_get queues i ≡ Some p →
    q' ≡ advanced p →
    record { queues = set queues i q'; options = s.0; files = s.1; limit = f.limit; page_size = f.page_size }
    ≡ record d { queues = changed_at d.queues i advanced }
advanced_parts {F} f queues i p q' s d is at after =
    let parts : List Queue → DeviceParts F =
    λ (l : List Queue). record { queues = l; options = s.0; files = s.1; limit = f.limit; page_size = f.page_size } in
    subst (λ (e : DeviceParts F). parts (set queues i q') ≡ record e { queues = changed_at e.queues i advanced }) is
    (ap parts (advanced_at queues i p q' at after))

-- a chain that was taken, whatever the queue offers
abbrev pub taken_from :
    {m : Memory} → {limit : ℕ} → {queues : List Queue} → {i : ℕ} → {t : Taken} → HasTaken m limit queues i t → IsTakenFrom m queues i t
taken_from has = record { queue = has.queue; fetched = has.fetched; there = has.there; taken = has.taken }

-- a queue that gives a chain back is a device that does
pub gives_back : {F : Type 0} (f : Fixed) (m m' : Memory) (queues : List Queue) (i : ℕ) (p q' : Queue) (s : ℕ × F) (t : Taken)
    (has : IsTakenFrom m queues i t)
    (reply : List ℕ) (notice : Bool) → slice_get queues i ≡ Some p →
    (IsTaken m p has.fetched t → m' ≡ returned m p t.head (room_of has.fetched) reply) →
    (IsTaken m p has.fetched t → notice ≡ wants_notice m' p) → q' ≡ advanced p →
    IsReturned (state f m queues s) i t has reply notice (state f m' (set queues i q') s)
gives_back f m m' queues i p q' s t has reply notice at stored notice_is after =
    let both : Some has.queue ≡ Some p = sym has.there ∙ at in
    let same : has.queue ≡ p = cc in
    let taken : IsTaken m p has.fetched t = subst (λ (o : Queue). IsTaken m o has.fetched t) same has.taken in record {
      state =
          ap (λ (y : Memory). state f y (set queues i q') s)
          (stored taken ∙ ap (λ (o : Queue). returned m o t.head (room_of has.fetched) reply) (sym same))
          ∙ ap (λ (l : List Queue). state f (returned m has.queue t.head (room_of has.fetched) reply) l s)
          (ap (set queues i) (after ∙ ap advanced (sym same))
          ∙ sym (changed_at-set queues i (λ _. advanced has.queue) (advanced has.queue)));
      reported = notice_is taken ∙ ap (wants_notice m') (sym same);
    }

-- so it is, whatever chain was taken, by what a device is made of
pub gives_back_parts : {F : Type 0} (f : Fixed) (m m' : Memory) (queues : List Queue) (i : ℕ) (p q' : Queue) (s : ℕ × F) (t : Taken)
    (d : DeviceParts F) (reply : List ℕ) (notice : Bool) →
    record { queues = queues; options = s.0; files = s.1; limit = f.limit; page_size = f.page_size } ≡ d → slice_get queues i ≡ Some p →
    ((fetched : RequestAndRoom) → IsTaken m p fetched t → m' ≡ returned m p t.head (room_of fetched) reply) →
    ((fetched : RequestAndRoom) → IsTaken m p fetched t → notice ≡ wants_notice m' p) → q' ≡ advanced p →
    (has : IsTakenFrom m d.queues i t) → IsReturned (state_of m d) i t has reply notice (state f m' (set queues i q') s)
gives_back_parts {F} f m m' queues i p q' s t d reply notice is at stored notice_is after =
    subst (λ (e : DeviceParts F). (has : IsTakenFrom m e.queues i t) →
    IsReturned (state_of m e) i t has reply notice (state f m' (set queues i q') s)) is
    (λ has. gives_back f m m' queues i p q' s t has reply notice at (stored has.fetched) (notice_is has.fetched) after)

is_returned : {F : Type 0} (may : May F) (s after : State F) (i : ℕ) (q : Queue) (head : ℕ) (fetched : RequestAndRoom) (calls : Calls)
    (o : ℕ)
    (g : F) (x : Exchange) (notice : Bool) →
    ServesChain may s.page_size (s.options, s.files) head fetched calls x (o, g) →
    after ≡ after_return s i q head (room_of fetched) x.reply o g → notice ≡ wants_notice after.memory q →
    Exchanges may s i q (Offers head fetched) calls x notice after
is_returned {F} may s after i q head (CannotFetch why) calls o g x notice served is notice_is =
    let files : after.files ≡ s.files = ap (λ (y : State F). y.files) is ∙ ap (λ (p : ℕ × F). p.1) served.2 in record {
      no_call = served.1;
      files = files;
      returns = record {
        exchange = served.0;
        state =
            is
            ∙ ap (λ (p : ℕ × F). after_return s i q head [] x.reply p.0 p.1) served.2
            ∙ ap (λ (y : Exchange). after_return s i q head [] y.reply s.options s.files) served.0
            ∙ ap (λ (files : F). after_return s i q head [] [] s.options files) (sym files);
        reported = notice_is;
      };
    }
is_returned {F} may s after i q head (IsRequest request room) calls o g x notice served is notice_is =
    let files : after.files ≡ g = ap (λ (y : State F). y.files) is in
    let given = served.0 in record {
      given = given;
      serves = subst (λ (files : F). ServesRequest may s.page_size s.options request (length room) s.files calls given files)
          (sym files) served.1;
      returns = record {
        exchange = served.2;
        state =
            is
            ∙ ap (λ (y : Exchange). after_return s i q head room y.reply o g) served.2
            ∙ ap (λ (n : ℕ). after_return s i q head room given.reply n g) served.3
            ∙ ap (λ (files : F). after_return s i q head room given.reply given.options files) (sym files);
        reported = notice_is;
      };
    }

-- a chain that was taken, served and given back is a step
pub step_by_phases : {F : Type 0} (may : May F) (s after : State F) (i : ℕ) (t : Taken) (has : HasTaken s.memory s.limit s.queues i t)
    (o : ℕ) (g : F) (x : Exchange) (notice : Bool) →
    (calls : Calls) × ServesChain may s.page_size (s.options, s.files) t.head has.fetched calls x (o, g) →
    IsReturned (record s { options = o; files = g }) i t (taken_from has) x.reply notice after →
    (calls : Calls) × Step may s i calls (Exchanged x notice) after
step_by_phases may s after i t has o g x notice served back = (
  served.0,
  on_queue may s i has.queue served.0 (Exchanged x notice) after has.there
      (subst (λ (offered : Offer). Exchanges may s i has.queue offered served.0 x notice after) (sym has.offered)
      (is_returned may s after i has.queue t.head has.fetched served.0 o g x notice served.1 back.state back.reported)),
)

-- so it is by what a device is made of, whose queues stayed as they were while it was served
pub exchanges :
    {F : Type 0} (may : May F) (f : Fixed) (m m' : Memory) (queues between : List Queue) (i : ℕ) (p q' : Queue) (s s' : ℕ × F) (t : Taken)
    (has : HasTaken m f.limit queues i t) (x : Exchange) (notice : Bool) →
    between ≡ queues → slice_get between i ≡ Some p → (calls : Calls) × ServesChain may f.page_size s t.head has.fetched calls x s' →
    (IsTaken m p has.fetched t → m' ≡ returned m p t.head (room_of has.fetched) x.reply) →
    (IsTaken m p has.fetched t → notice ≡ wants_notice m' p) → q' ≡ advanced p →
    (calls : Calls) × Step may (state f m queues s) i calls (Exchanged x notice) (state f m' (set between i q') s')
exchanges {F} may f m m' queues between i p q' s s' t has x notice kept at served stored notice_is after =
    let found : slice_get queues i ≡ Some p = ap (λ (l : List Queue). slice_get l i) (sym kept) ∙ at in
    let back = gives_back f m m' queues i p q' s' t (taken_from has) x.reply notice found stored notice_is after in
    let done = step_by_phases may (state f m queues s) (state f m' (set queues i q') s') i t has s'.0 s'.1 x notice served back in (
      done.0,
      subst (λ (l : List Queue). Step may (state f m queues s) i done.0 (Exchanged x notice) (state f m' (set l i q') s'))
          (sym kept) done.1,
    )

-- a device that takes a chain, answers it and gives it back does a step
pub step_of_device : {F : Type 0} (may : May F) (m m' : Memory) (d mid after : DeviceParts F) (i : ℕ) (t : Taken)
    (has : HasTaken m d.limit d.queues i t) (x : Exchange) (notice : Bool) →
    (calls : Calls) × ServesChain may d.page_size (d.options, d.files) t.head has.fetched calls x (mid.options, mid.files) →
    mid ≡ record d { options = mid.options; files = mid.files } →
    ((held : IsTakenFrom m mid.queues i t) → IsReturned (state_of m mid) i t held x.reply notice (state_of m' after)) →
    (calls : Calls) × Step may (state_of m d) i calls
    (Exchanged x notice) (state_of m' after)
step_of_device {F} may m m' d mid after i t has x notice served same back =
    step_by_phases may (state_of m d) (state_of m' after) i t has mid.options mid.files x notice served
    (subst (λ (e : DeviceParts F). (held : IsTakenFrom m e.queues i t) →
    IsReturned (state_of m e) i t held x.reply notice (state_of m' after)) same back (taken_from has))
