-- What becomes of the pops of a queue.
use Rattle.std.proofs.Common.{◌≡◌, ◌∙◌, ◌+◌, ◌==◌, ◌++◌, ℕ, suc, Bool, true, false, List, [], ◌∷◌, length, map, Option, Some, None, arith}
use Rattle.std.proofs.Common.{if◌then◌else◌, length-append, option_and_then, option_map, refl, slice_get, sym, ap}
use Rattle.std.proofs.lemmas.Bool.{true≢false}
use Rattle.std.proofs.lemmas.List.Sorted.{length_permutation}
use Rattle.vm_memory.specs.Memory.{Memory}
use Rattle.fs_queue.specs.Chain.{Found, HasFault, IsChain, StopsQueue}
use Rattle.fs_queue.specs.Loads.{Load, chain_exactly}
use Rattle.fs_queue.specs.NextAvail as avail
use Rattle.fs_queue.specs.NextAvail.{NextAvail}
use Rattle.fs_queue.specs.OfferLoads.{available_by, on_waits, with_loaded, with_request, without_chain, without_loads}
use Rattle.fs_queue.specs.Queue.{Queue}
use Rattle.fs_queue.specs.Returning.{Store}
use Rattle.fs_queue.specs.Taking as taking
use Rattle.fs_queue.specs.Taking.{CannotFetch, Offer, Offers, Refuses, RequestAndRoom, offer_of, request_and_room}
use Rattle.fs_queue.specs.declared.fault.QueueError.{QueueError}
use Rattle.fs_queue.specs.declared.fault.QueueError.TheVariants as stop
use Rattle.fs_regions.specs.Walks.{Loaded, OffersBy}
use Rattle.fs_regions.specs.declared.step.CourseStep.TheVariants as step
use Rattle.server_meanings.specs.Serving.{May}
use Rattle.live_machine.specs.Live.{EndsPop, GivesUpChain, LiveEvent, LiveRun, LiveState, PushesChain}
use Rattle.live_machine.specs.Runs.{events_on, in_flight_on}
use Rattle.live_machine.specs.Several.{DropsLast, event_refusal, InFlightId, PopsOne, PushesOne, QueueEvent, heads_ended, heads_taken}
use Rattle.live_machine.proofs.Queues.{none_some, once_per_live_chain}
use Rattle.fs_driven.specs.Served.{EachIsServed, IdleFindsNone, any_end, drops_on, is_idle, is_refused, pops_on, pushes_on}

-- ---- counting

abbrev pub taken_in : List QueueEvent → ℕ
taken_in es = length (heads_taken es)

abbrev ended_in : List QueueEvent → ℕ
ended_in es = length (heads_ended es)

-- an idle pop, a refused one, and a chain
idle_more : (b : Bool) (n a r t : ℕ) → n ≡ a + r + t →
    (if b then 1 else 0) + n ≡ ((if b then 1 else 0) + a) + ((if b then 0 else 0) + r) + t
idle_more true n a r t is = omega (arith, is)
idle_more false n a r t is = omega (arith, is)

refused_more : (b : Bool) (n a r t : ℕ) → n ≡ a + r + t →
    (if b then 1 else 0) + n ≡ ((if b then 0 else 0) + a) + ((if b then 1 else 0) + r) + t
refused_more true n a r t is = omega (arith, is)
refused_more false n a r t is = omega (arith, is)

chain_more : (b : Bool) (head n a r : ℕ) (es : List QueueEvent) → n ≡ a + r + taken_in es →
    (if b then 1 else 0) + n
    ≡ ((if b then 0 else 0) + a) + ((if b then 0 else 0) + r) + taken_in ((if b then PopsOne head ∷ [] else []) ++ es)
chain_more true head n a r es is = omega (arith, is)
chain_more false head n a r es is = omega (arith, is)

-- what ends a chain pops none
push_takes : (b : Bool) (t : InFlightId) (len : ℕ) (used : List Store) (es : List QueueEvent) →
    taken_in ((if b then PushesOne t len used ∷ [] else []) ++ es) ≡ taken_in es
push_takes true t len used es = refl
push_takes false t len used es = refl

drop_takes : (b : Bool) (t : InFlightId) (es : List QueueEvent) → taken_in ((if b then DropsLast t ∷ [] else []) ++ es) ≡ taken_in es
drop_takes true t es = refl
drop_takes false t es = refl

pub taken_all : {F : Type 0} (may : May F) (s after : LiveState F) (es : List LiveEvent) (i : ℕ) → LiveRun may s es after →
    pops_on any_end i es ≡ pops_on is_idle i es + pops_on is_refused i es + taken_in (events_on i es)
taken_all may s after [] i run = refl
taken_all may s after (EndsPop j loaded ds (step.Load walk) ∷ es) i run = absurd run.1.ends
taken_all may s after (EndsPop j loaded ds (step.Missing range access) ∷ es) i run = absurd run.1.ends
taken_all may s after (EndsPop j loaded ds step.Idle ∷ es) i run =
    idle_more (j == i) (pops_on any_end i es) (pops_on is_idle i es) (pops_on is_refused i es) (taken_in (events_on i es))
    (taken_all may run.0 after es i run.2)
taken_all may s after (EndsPop j loaded ds (step.Refused e) ∷ es) i run =
    refused_more (j == i) (pops_on any_end i es) (pops_on is_idle i es) (pops_on is_refused i es) (taken_in (events_on i es))
    (taken_all may run.0 after es i run.2)
taken_all may s after (EndsPop j loaded ds (step.Chain head fault) ∷ es) i run =
    chain_more (j == i) head (pops_on any_end i es) (pops_on is_idle i es) (pops_on is_refused i es) (events_on i es)
    (taken_all may run.0 after es i run.2)
taken_all may s after (PushesChain c x notice last used seen ∷ es) i run =
    taken_all may run.0 after es i run.2
    ∙ ap (λ (n : ℕ). pops_on is_idle i es + pops_on is_refused i es + n)
    (sym (push_takes (c.queue == i) (c.taken.position, c.head) (length x.reply) used (events_on i es)))
taken_all may s after (GivesUpChain c ∷ es) i run =
    taken_all may run.0 after es i run.2
    ∙ ap (λ (n : ℕ). pops_on is_idle i es + pops_on is_refused i es + n)
    (sym (drop_takes (c.queue == i) (c.taken.position, c.head) (events_on i es)))
taken_all may s after (_ ∷ es) i run = taken_all may run.0 after es i run.2

-- what ends a chain
pop_ends : (b : Bool) (head : ℕ) (es : List QueueEvent) → ended_in ((if b then PopsOne head ∷ [] else []) ++ es) ≡ ended_in es
pop_ends true head es = refl
pop_ends false head es = refl

push_more : (b : Bool) (t : InFlightId) (len p d : ℕ) (used : List Store) (es : List QueueEvent) → ended_in es ≡ p + d →
    ended_in ((if b then PushesOne t len used ∷ [] else []) ++ es) ≡ ((if b then 1 else 0) + p) + d
push_more true t len p d used es is = omega (arith, is)
push_more false t len p d used es is = omega (arith, is)

drop_more : (b : Bool) (t : InFlightId) (p d : ℕ) (es : List QueueEvent) → ended_in es ≡ p + d →
    ended_in ((if b then DropsLast t ∷ [] else []) ++ es) ≡ p + ((if b then 1 else 0) + d)
drop_more true t p d es is = omega (arith, is)
drop_more false t p d es is = omega (arith, is)

ended_all : (es : List LiveEvent) (i : ℕ) → ended_in (events_on i es) ≡ pushes_on i es + drops_on i es
ended_all [] i = refl
ended_all (EndsPop j loaded ds (step.Chain head fault) ∷ es) i = pop_ends (j == i) head (events_on i es) ∙ ended_all es i
ended_all (PushesChain c x notice last used seen ∷ es) i =
    push_more (c.queue == i) (c.taken.position, c.head) (length x.reply) (pushes_on i es) (drops_on i es) used (events_on i es)
    (ended_all es i)
ended_all (GivesUpChain c ∷ es) i =
    drop_more (c.queue == i) (c.taken.position, c.head) (pushes_on i es) (drops_on i es) (events_on i es) (ended_all es i)
ended_all (EndsPop j loaded ds step.Idle ∷ es) i = ended_all es i
ended_all (EndsPop j loaded ds (step.Load walk) ∷ es) i = ended_all es i
ended_all (EndsPop j loaded ds (step.Missing range access) ∷ es) i = ended_all es i
ended_all (EndsPop j loaded ds (step.Refused e) ∷ es) i = ended_all es i
ended_all (_ ∷ es) i = ended_all es i

as_many : (ts : List InFlightId) → length (map (λ (t : InFlightId). t.1) ts) ≡ length ts
as_many [] = refl
as_many (t ∷ ts) = ap suc (as_many ts)

pub each_is_served : {F : Type 0} (may : May F) → EachIsServed may
each_is_served may s after es i w there none anew run =
    let once = once_per_live_chain may s after es i w there none anew run in
    let left = in_flight_on i after.chains in
    let heads = map (λ (t : InFlightId). t.1) left in
    let same : taken_in (events_on i es) ≡ length (heads_ended (events_on i es) ++ heads) =
    length_permutation (heads_ended (events_on i es) ++ heads) (heads_taken (events_on i es)) once in
    let sum : length (heads_ended (events_on i es) ++ heads) ≡ ended_in (events_on i es) + length heads =
    length-append (heads_ended (events_on i es)) heads in
    let many : length heads ≡ length left = as_many left in
    let ended = ended_all es i in
    let all = taken_all may s after es i run in
    omega (arith, same, sum, many, ended, all)

-- ---- an idle pop

some_is : {A : Type 0} (x y : A) → Some x ≡ Some y → x ≡ y
some_is x y e = cc

refused_not : (ls : List Load) (e : QueueError) → without_chain ls [] (Refuses e) ≡ Some taking.Idle → ⊥
refused_not [] e is = cc
refused_not (l ∷ ls) e is = cc

offers_not : (head : ℕ) (x : Option RequestAndRoom) → option_map (Offers head) x ≡ Some taking.Idle → ⊥
offers_not head None is = cc
offers_not head (Some f) is = cc

found_not : (m : Memory) (limit head : ℕ) (f : Option Found) →
    option_and_then (λ f. with_loaded [] (offer_of m limit head f)) f ≡ Some taking.Idle → ⊥
found_not m limit head None is = cc
found_not m limit head (Some (IsChain ds)) is = offers_not head (with_request [] (request_and_room m limit ds)) is
found_not m limit head (Some (HasFault fault)) is = offers_not head (with_request [] (CannotFetch fault)) is
found_not m limit head (Some StopsQueue) is = cc

head_not : (ls : List Load) (a b : Bool) (x : Option Offer) → (x ≡ Some taking.Idle → ⊥)
    → (if a then without_chain ls [] (Refuses stop.UsedUnreachable)
    else if b then without_chain ls [] (Refuses stop.AvailFlagsUnreachable) else x) ≡ Some taking.Idle → ⊥
head_not ls true b x never is = refused_not ls stop.UsedUnreachable is
head_not ls false true x never is = refused_not ls stop.AvailFlagsUnreachable is
head_not ls false false x never is = never is

next_idle : (m : Memory) (limit : ℕ) (q : Queue) (ls : List Load) (x : Option NextAvail)
    → option_and_then (on_waits m limit q ls []) x ≡ Some taking.Idle → x ≡ Some avail.Idle
next_idle m limit q ls None is = absurd (none_some taking.Idle is)
next_idle m limit q ls (Some avail.Idle) is = refl
next_idle m limit q ls (Some (avail.Refused e)) is = absurd (refused_not ls e is)
next_idle m limit q ls (Some (avail.Head head)) is =
    absurd (head_not ls _ _ _ (found_not m limit head (chain_exactly ls q head)) is)

-- a queue that refuses no pop isn't stopped
goes_on : (b : Bool) (more : Option QueueError) → (if b then Some stop.Stopped else more) ≡ None → b ≡ false
goes_on true more is = absurd (none_some stop.Stopped (sym is))
goes_on false more is = refl

offer_idle : (m : Memory) (limit : ℕ) (q : Queue) (ls : List Load) (b : Bool) (o : Option Offer) (x : Option NextAvail) → b ≡ false
    → (if b then o else option_and_then (on_waits m limit q ls []) x) ≡ Some taking.Idle → x ≡ Some avail.Idle
offer_idle m limit q ls true o x goes is = absurd (true≢false goes)
offer_idle m limit q ls false o x goes is = next_idle m limit q ls x is

idle_waits : (m : Memory) (limit : ℕ) (q : Queue) (loaded : Loaded) → q.stopped ≡ false → OffersBy m limit q loaded [] taking.Idle
    → available_by q loaded.index loaded.entry ≡ Some avail.Idle
idle_waits m limit q loaded proceeds by =
    let ls = loaded.entries ++ by.1 in
    offer_idle m limit q ls q.stopped (without_loads loaded.index loaded.entry ls [] (Refuses stop.Stopped))
    (available_by q loaded.index loaded.entry) proceeds by.3

pub idle_finds_none : {F : Type 0} (may : May F) → IdleFindsNone may
idle_finds_none may s after i loaded ds h =
    let proceeds = goes_on h.w.queue.stopped (event_refusal s.places h.w) h.proceeds in
    (h.w, h.there, idle_waits s.places s.limit h.w.queue loaded proceeds h.ends.0)
