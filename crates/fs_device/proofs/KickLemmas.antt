-- kicks end, or go on by one exchange
use Rattle.std.proofs.Common.{◌≡◌, ℕ, Bool, true, false, zero, suc, ◌<◌, ◌&&◌, nat_lt, ◌++◌, List, [], ◌∷◌, append_assoc, append-nil, arith}
use Rattle.std.proofs.Common.{slice_get, sym, refl, ap, subst, Option, Some, None, length, set}
use Rattle.std.proofs.lemmas.Option.{slice_get-get_or}
use Rattle.std.proofs.lemmas.Bool.Decides.{nat_tests}
use Rattle.vm_memory.specs.Memory.{Memory}
use Rattle.fs_queue.specs.declared.fault.QueueError.TheVariants as stop
use Rattle.fs_queue.specs.Queue.{Queue}
use Rattle.server_meanings.specs.Serving.{May}
use Rattle.plain_machine.specs.declared.error.DeviceError.{DeviceError}
use Rattle.plain_machine.specs.declared.error.DeviceError.TheVariants as device
use Rattle.plain_machine.specs.Step.{State, Exchange, Calls, Idle, Refused, Exchanged, StepOf, Step}
use Rattle.plain_machine.specs.Run.{Turn, KickRun, Done, reset, is_open}
use Rattle.fs_device.specs.CommandView.{KickLists}
use Rattle.fs_queue.specs.Taking.{Refuses, offer}
use Rattle.fs_device.proofs.StepLemmas.{Fixed, state, refuses, unchanged}
use Rattle.vm_memory_core.proofs.Stores.{changed_at-set}

-- a step that is idle makes no call
idle_of : {F : Type 0} (may : May F) (s after : State F) (i : ℕ) (o : Option Queue) (calls : Calls) → StepOf may s i o calls Idle after →
    StepOf may s i o [] Idle after
idle_of may s after i None calls t = absurd (cc)
idle_of may s after i (Some q) calls t = (t.0, record { same = t.1.same; no_call = refl })

-- nor does one that is refused
refused_of : {F : Type 0} (may : May F) (s after : State F) (i : ℕ) (o : Option Queue) (e : DeviceError) (calls : Calls) →
    StepOf may s i o calls (Refused e) after →
    StepOf may s i o [] (Refused e) after
refused_of may s after i None e calls t = (t.0, record { same = t.1.same; no_call = refl })
refused_of may s after i (Some q) device.NoSuchQueue calls t = absurd t
refused_of may s after i (Some q) (device.Queue stop.OutOfMemory) calls t = (t.0, record { same = t.1.same; no_call = refl })
refused_of may s after i (Some q) (device.Queue _) calls t = (t.0, refl, t.2)

-- what a kick comes to, given that it goes on so
abbrev Proceeds : {F : Type 0} → May F → State F → ℕ → ℕ → List (Exchange × Bool) → State F → ℕ → Type 0
Proceeds {F} may s i most done mid left =
    (rest : List (Exchange × Bool)) (refused : Option DeviceError) (after : State F) → KickLists may mid i left rest refused after →
    KickLists may s i most (done ++ rest) refused after

ended : {F : Type 0} (may : May F) (s mid after : State F) (i most left : ℕ) (done : List (Exchange × Bool))
    (refused : Option DeviceError) → Proceeds may s i most done mid left →
    KickRun may mid i left [] refused after → KickLists may s i most done refused after
ended may s mid after i most left done refused proceeds end =
    subst (λ (xs : List (Exchange × Bool)). KickLists may s i most xs refused after) (append-nil done)
    (proceeds [] refused after ([], end, refl))

pub ends_idle : {F : Type 0} (may : May F) (s mid after : State F) (i most left : ℕ) (done : List (Exchange × Bool)) (calls : Calls) →
    Proceeds may s i most done mid left →
    0 < left → Step may mid i calls Idle after → KickLists may s i most done None after
unfolding KickRun
ends_idle may s mid after i most zero done calls proceeds some step = absurd (omega arith)
ends_idle may s mid after i most (suc left) done calls proceeds some step =
    ended may s mid after i most (suc left) done None proceeds (idle_of may mid after i (slice_get mid.queues i) calls step)

pub ends_refused : {F : Type 0} (may : May F) (s mid after : State F) (i most left : ℕ) (done : List (Exchange × Bool)) (e : DeviceError)
    (calls : Calls) → Proceeds may s i most done mid left →
    0 < left → Step may mid i calls (Refused e) after → KickLists may s i most done (Some e) after
unfolding KickRun
ends_refused may s mid after i most zero done e calls proceeds some step = absurd (omega arith)
ends_refused may s mid after i most (suc left) done e calls proceeds some step =
    ended may s mid after i most (suc left) done (Some e) proceeds (refused_of may mid after i (slice_get mid.queues i) e calls step)

pub ends_full : {F : Type 0} (may : May F) (s mid : State F) (i most left : ℕ) (done : List (Exchange × Bool)) →
    Proceeds may s i most done mid left → left ≡ 0 → KickLists may s i most done None mid
unfolding KickRun
ends_full may s mid i most zero done proceeds none = ended may s mid mid i most 0 done None proceeds refl
ends_full may s mid i most (suc left) done proceeds none = absurd (omega arith)

pub carries_on : {F : Type 0} (may : May F) (s mid next : State F) (i most left more : ℕ) (done : List (Exchange × Bool))
    (x : Exchange × Bool)
    (calls : Calls) → Proceeds may s i most done mid left →
    left ≡ suc more → Step may mid i calls (Exchanged x.0 x.1) next → Proceeds may s i most (done ++ x ∷ []) next more
unfolding KickRun
carries_on may s mid next i most zero more done x calls proceeds some step rest refused after (turns, run, is) = absurd (omega arith)
carries_on may s mid next i most (suc left) more done x calls proceeds some step rest refused after (turns, run, is) =
    let same : more ≡ left = omega arith in
    let turn : Turn = record { exchange = x.0; notice = x.1; calls = calls } in
    subst (λ (xs : List (Exchange × Bool)). KickLists may s i most xs refused after) (sym (append_assoc done (x ∷ []) rest))
    (proceeds (x ∷ rest) refused after (
      turn ∷ turns,
      (next, step, subst (λ (n : ℕ). KickRun may next i n turns refused after) same run),
      ap (λ (xs : List (Exchange × Bool)). x ∷ xs) is,
    ))

-- a kick of a queue that is there and isn't stopped, for some exchanges, takes memory
pub room_wanted :
    (o : Option Queue) (q : Queue) (most : ℕ) → o ≡ Some q → q.stopped ≡ false → 0 < most → (is_open o && nat_lt 0 most) ≡ true
room_wanted o q most there runs some = rw (there, runs) (grind (arith, nat_tests))

-- a kick of a stopped queue, for some exchanges, ends at once
pub ends_stopped :
    {F : Type 0} (may : May F) (s : State F) (i most : ℕ) (q : Queue) → slice_get s.queues i ≡ Some q → q.stopped ≡ true → 0 < most →
    KickLists may s i most [] (Some (device.Queue stop.Stopped)) s
unfolding KickRun offer
ends_stopped may s i zero q there stopped some = absurd (omega arith)
ends_stopped {F} may s i (suc most) q there stopped some =
    let f : Fixed = record { limit = s.limit; page_size = s.page_size } in
    let offered : offer s.memory s.limit q ≡ Refuses stop.Stopped = rw stopped refl in (
      [],
      subst (λ (t : State F). Step may s i [] (Refused (device.Queue stop.Stopped)) t)
          (unchanged f s.memory s.queues i q q (s.options, s.files) there refl)
          (refuses may f s.memory s.queues i q q (s.options, s.files) stop.Stopped there offered refl),
      refl,
    )

-- a queue that is there begins anew
pub reset_there : {F : Type 0} (f : Fixed) (m : Memory) (queues : List Queue) (s : ℕ × F) (i : ℕ) (anew : Queue) → i < length queues →
    (Done, state f m (set queues i anew) s) ≡ reset (state f m queues s) i anew (slice_get queues i)
reset_there f m queues s i anew there =
    rw (slice_get-get_or queues i anew there)
    (ap (λ (qs : List Queue). (Done, state f m qs s)) (sym (changed_at-set queues i (λ _. anew) anew)))
