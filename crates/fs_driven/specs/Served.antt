-- Each available chain is served: what becomes of the pops of a queue.
use Rattle.std.specs.Prelude.{◌≡◌, ◌+◌, ◌==◌, ℕ, Bool, false, List, [], ◌∷◌, length, Option, Some, None}
use Rattle.std.specs.Prelude.{Ok, slice_get, if◌then◌else◌}
use Rattle.std.specs.List.{AllByRecursion}
use Rattle.fs_queue.specs.Chain.{Descriptor}
use Rattle.fs_queue.specs.NextAvail.{Idle}
use Rattle.fs_queue.specs.OfferLoads.{available_by}
use Rattle.fs_regions.specs.Walks.{Loaded}
use Rattle.fs_regions.specs.declared.step.CourseStep as comes
use Rattle.fs_regions.specs.declared.step.CourseStep.TheVariants as step
use Rattle.server_meanings.specs.Serving.{May}
use Rattle.live_machine.specs.Live.{EndsPop, GivesUpChain, Happens, LiveEvent, LiveRun, LiveState}
use Rattle.live_machine.specs.Live.{PushesChain}
use Rattle.live_machine.specs.Runs.{NoReset, in_flight_on}
use Rattle.live_machine.specs.Several.{LiveQueue}
use Rattle.fs_chain.specs.declared.loads.LoadOutcome.TheVariants as outcomes
use Rattle.fs_chain.specs.declared.popping.PopOutcome.TheVariants as shows
use Rattle.fs_chain.specs.declared.queue.QueueState.{QueueState}
use Rattle.fs_driven.specs.Drivers.{Driver, Driven}
use Rattle.fs_driven.specs.Events.{Called, EventsOfAll, Unseen}
use Rattle.fs_driven.specs.declared.commands.Results.{Results}
use Rattle.fs_driven.specs.declared.commands.Results.TheVariants as gives

-- 1 for a pop with this result, of any kind; without a chain; refused; and 0 for others
abbrev pub any_end : comes.CourseStep → ℕ
any_end came = 1

abbrev pub is_idle : comes.CourseStep → ℕ
is_idle step.Idle = 1
is_idle _ = 0

abbrev pub is_refused : comes.CourseStep → ℕ
is_refused (step.Refused e) = 1
is_refused _ = 0

-- how many pops of queue i ended so
abbrev pub pops_on : (kind : comes.CourseStep → ℕ) → (i : ℕ) → List LiveEvent → ℕ
pops_on kind i [] = 0
pops_on kind i (EndsPop j loaded ds came ∷ es) = (if j == i then kind came else 0) + pops_on kind i es
pops_on kind i (_ ∷ es) = pops_on kind i es

-- how many chains of queue i were pushed, and how many were given up, so that they are available again
abbrev pub pushes_on : (i : ℕ) → List LiveEvent → ℕ
pushes_on i [] = 0
pushes_on i (PushesChain c x notice last used seen ∷ es) = (if c.queue == i then 1 else 0) + pushes_on i es
pushes_on i (_ ∷ es) = pushes_on i es

abbrev pub drops_on : (i : ℕ) → List LiveEvent → ℕ
drops_on i [] = 0
drops_on i (GivesUpChain c ∷ es) = (if c.queue == i then 1 else 0) + drops_on i es
drops_on i (_ ∷ es) = drops_on i es

-- from a moment without chains of a queue in flight to its next reset, each pop that ends finds no chain, or
-- is refused, or its chain is pushed once, given up once, or in flight. So n pops that find n chains push n,
-- if none is given up or still in flight
abbrev pub EachIsServed : {F : Type 0} → May F → Type 0
EachIsServed {F} may =
    (s after : LiveState F) (es : List LiveEvent) (i : ℕ) (w : LiveQueue) →
    slice_get s.queues i ≡ Some w →
    in_flight_on i s.chains ≡ [] →
    AllByRecursion (NoReset i) es →
    LiveRun may s es after →
    pops_on any_end i es
    ≡ pops_on is_idle i es
    + pops_on is_refused i es
    + pushes_on i es
    + drops_on i es
    + length (in_flight_on i after.chains)

-- a pop ends without a chain only if none was available by the available index that it loaded (2.7.13.3)
abbrev pub IdleFindsNone : {F : Type 0} → May F → Type 0
IdleFindsNone {F} may =
    (s after : LiveState F) (i : ℕ) (loaded : Loaded) (ds : List Descriptor) →
    Happens may s (EndsPop i loaded ds step.Idle) after →
    (w : LiveQueue)
    × (slice_get s.queues i ≡ Some w)
    × (available_by w.queue loaded.index loaded.entry ≡ Some Idle)

-- ---- by what a driver's calls returned

-- 1 for a call that returned a chain which it popped, or that ended a push; and 0 for others
abbrev pub is_chain : Results → ℕ
is_chain (gives.Popped (Ok (outcomes.On (shows.Chain head request_len room_len)))) = 1
is_chain (gives.Popped (Ok (outcomes.On (shows.Faulty head fault)))) = 1
is_chain (gives.PoppedAhead (Ok (shows.Chain head request_len room_len))) = 1
is_chain (gives.PoppedAhead (Ok (shows.Faulty head fault))) = 1
is_chain _ = 0

abbrev pub is_push : Results → ℕ
is_push (gives.Ended (Ok notice)) = 1
is_push _ = 0

-- whether a handle is of queue i. `on`: the number of each handle's queue
abbrev pub is_of : (i : ℕ) → Option ℕ → Bool
is_of i None = false
is_of i (Some j) = j == i

-- how many of these calls, of handles of queue i, returned so
abbrev pub returned_on : (on : List ℕ) → (kind : Results → ℕ) → (i : ℕ) → List (Called × Unseen) → ℕ
returned_on on kind i [] = 0
returned_on on kind i (z ∷ zs) =
    (if is_of i (slice_get on z.0.place) then kind z.0.returned else 0) + returned_on on kind i zs

-- from a moment without chains of a queue in flight to its next reset, each chain that a driver's calls
-- popped was pushed, given up, or is in flight. So n rounds that pop n chains push n, if none is given up or
-- still in flight
abbrev pub DriverServes : Type 0
DriverServes =
    (on : List ℕ) (page_size : ℕ) (d d' : Driver) (zs : List (Called × Unseen)) (es : List LiveEvent) (i : ℕ)
    (q : QueueState) →
    Driven d.run on page_size d.queues d.handles d.owned d.pops d.pushes →
    EventsOfAll on page_size d zs es d' →
    slice_get d.queues i ≡ Some q →
    in_flight_on i d.run.chains ≡ [] →
    AllByRecursion (NoReset i) es →
    returned_on on is_chain i zs
    ≡ returned_on on is_push i zs + drops_on i es + length (in_flight_on i d'.run.chains)
