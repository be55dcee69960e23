-- A pop ends after few loads, since each of them brings its walk on.
use Rattle.std.proofs.Common.{◌≡◌, ◌∙◌, ◌+◌, ◌≤◌, ℕ, zero, suc, List, Option, Some, None, arith, refl, subst, sym, ap}
use Rattle.std.specs.Prelude.{IfOk, Result, Ok, Err}
use Rattle.vm_iotlb.specs.declared.iova.IovaRange.{IovaRange}
use Rattle.vm_iotlb.specs.declared.permissions.Permissions.{Permissions}
use Rattle.fs_queue.specs.Chain.{Descriptor}
use Rattle.fs_queue.specs.declared.fault.QueueError.{QueueError}
use Rattle.fs_regions.specs.Places.{Mapped, places_in}
use Rattle.fs_regions.specs.Walks.{IsCourseStep, IsLongestStretch, IsWalkAt, Loaded, nothing, queue_of}
use Rattle.fs_regions.specs.declared.course.Course.{Course}
use Rattle.fs_regions.specs.declared.step.CourseStep as comes
use Rattle.fs_regions.specs.declared.step.CourseStep.TheVariants as step
use Rattle.fs_regions.specs.declared.walk.QueueWalk.{QueueWalk}
use Rattle.live_machine.proofs.Loads.{inside_of, made, made_more, room_for_one}
use Rattle.fs_chain.specs.declared.error.ChainError.{ChainError}
use Rattle.fs_chain.specs.Ending.{EndsSoon, PopEndsWithin}
use Rattle.fs_chain.specs.Events.{event_fault, event_miss}
use Rattle.fs_chain.specs.Loads.{ProceedsSo, whole}
use Rattle.fs_chain.specs.Queues.{pop_id_of}
use Rattle.fs_chain.specs.Walks.{BeginsUnless, BeginsWhere, ContinuesUnless, IsAllButPart, KeepsStep, LacksEvents, WalksFrom, course_of}
use Rattle.fs_chain.specs.declared.chain_handle.ChainHandle.{ChainHandle}
use Rattle.fs_chain.specs.declared.loads.LoadOutcome as outcome
use Rattle.fs_chain.specs.declared.loads.LoadOutcome.TheVariants as outcomes
use Rattle.fs_chain.specs.declared.popping.PopOutcome as walked
use Rattle.fs_chain.specs.declared.popping.PopOutcome.TheVariants as shows
use Rattle.fs_chain.specs.declared.queue.QueueState.{QueueState}
use Rattle.fs_chain.specs.declared.state.ChainState as state
use Rattle.fs_chain.specs.declared.state.ChainState.TheVariants as at
use Rattle.fs_chain.specs.declared.state.PopId.{PopId}

-- a pop of a queue of this size was given m loads, or entries by them, and asks for another load
record Reached (size m : ℕ) (w : ChainHandle) : Type 0 where
  course : Course
  pop_id : PopId
  walk : QueueWalk
  loaded : Loaded
  state : w.state ≡ at.Popping course pop_id walk
  size_is : course.layout.size ≡ size
  comes : IsWalkAt (places_in w.regions) (queue_of course) loaded w.descriptors.items walk
  longest : IsLongestStretch (places_in w.regions) (queue_of course) w.descriptors.items walk
  more : m ≤ made loaded

few : (size m : ℕ) (w : ChainHandle) → Reached size m w → m + 1 ≤ size + 4
few size m w r =
    let bound = room_for_one (places_in w.regions) (queue_of r.course) r.loaded w.descriptors.items r.walk
    (inside_of (places_in w.regions) (queue_of r.course) w.descriptors.items r.walk r.longest) r.comes in
    let more = r.more in
    let same = r.size_is in
    omega (arith, bound, more, same)

-- whatever part of the load the handle keeps
another : (size m : ℕ) (w v : ChainHandle) → IsAllButPart w v → Reached size m w → Reached size m v
another size m w v same r =
    let items : v.descriptors.items ≡ w.descriptors.items = ap (λ (d : _). d.items) same.2 in
    record {
      course = r.course;
      pop_id = r.pop_id;
      walk = r.walk;
      loaded = r.loaded;
      state = same.3 ∙ r.state;
      size_is = r.size_is;
      comes = subst (λ (g : Mapped). IsWalkAt (places_in g) (queue_of r.course) r.loaded v.descriptors.items r.walk) (sym same.0.0)
          (subst (λ (ds : List Descriptor). IsWalkAt (places_in w.regions) (queue_of r.course) r.loaded ds r.walk) (sym items) r.comes);
      longest = subst (λ (g : Mapped). IsLongestStretch (places_in g) (queue_of r.course) v.descriptors.items r.walk) (sym same.0.0)
          (subst (λ (ds : List Descriptor). IsLongestStretch (places_in w.regions) (queue_of r.course) ds r.walk) (sym items) r.longest);
      more = r.more;
    }

-- a step that asks for a load
module _ (size m : ℕ) (course : Course) (pop_id : PopId) (old new : ChainHandle) (q q' : QueueState) (len : ℕ) (loaded : Loaded) where
  settled : (came : comes.CourseStep) → course.layout.size ≡ size → m ≤ made loaded
      → KeepsStep course pop_id came old new q q' (shows.Load len)
      → IsCourseStep (places_in old.regions) course.limit (queue_of course) loaded new.descriptors.items came
      → Reached size m new
  settled (step.Load walk) size_is more keeps is = record {
    course = course;
    pop_id = pop_id;
    walk = walk;
    loaded = loaded;
    state = keeps.1;
    size_is = size_is;
    comes = subst (λ (g : Mapped). IsWalkAt (places_in g) (queue_of course) loaded new.descriptors.items walk) (sym keeps.4.0) is.0;
    longest = subst (λ (g : Mapped). IsLongestStretch (places_in g) (queue_of course) new.descriptors.items walk) (sym keeps.4.0) is.2;
    more = more;
  }
  settled step.Idle size_is more keeps is = absurd (let no = keeps.0 in cc)
  settled (step.Refused e) size_is more keeps is = absurd (let no = keeps.0 in cc)
  settled (step.Missing range access) size_is more keeps is = absurd (let no = keeps.0 in cc)
  settled (step.Chain head None) size_is more keeps is = absurd (let no = keeps.0 in cc)
  settled (step.Chain head (Some fault)) size_is more keeps is = absurd (let no = keeps.0 in cc)

lacks_not : (e : QueueError) (miss : Option (IovaRange × Permissions)) (old new : ChainHandle) (q q' : QueueState) (len : ℕ)
    → LacksEvents e miss old new q q' (shows.Load len) → ⊥
lacks_not e None old new q q' len h = let no = h.0 in cc
lacks_not e (Some miss) old new q q' len h = let no = h.0 in cc

begun_where : (fault : Option QueueError) (old new : ChainHandle) (q q' : QueueState) (len : ℕ)
    → BeginsWhere fault old new q q' (shows.Load len) → Reached q.layout.size 0 new
begun_where None old new q q' len h =
    settled q.layout.size 0 (course_of q old.limit) (pop_id_of old.regions q) old new q q' len nothing h.0 refl (omega arith) h.1 h.2
begun_where (Some e) old new q q' len h = absurd (lacks_not e (event_miss (places_in old.regions) q) old new q q' len h)

begun : (stopped : Option QueueError) (old new : ChainHandle) (q q' : QueueState) (len : ℕ)
    → BeginsUnless stopped old new q q' (shows.Load len) → Reached q.layout.size 0 new
begun None old new q q' len h = begun_where (event_fault (places_in old.regions) q) old new q q' len h
begun (Some why) old new q q' len h = absurd (let no = h.0 in cc)

gone : (stopped : Option QueueError) (size m : ℕ) (old new : ChainHandle) (q q' : QueueState) (bytes : List ℕ) (len : ℕ)
    → (r : Reached size m old) → ContinuesUnless stopped r.course r.pop_id r.walk bytes old new q q' (shows.Load len)
    → Reached size (suc m) new
gone None size m old new q q' bytes len r h =
    let by = h.2 r.loaded r.comes in
    let more = made_more (places_in old.regions) (queue_of r.course) r.loaded by.after old.descriptors.items r.walk bytes h.0 r.comes
    by.adds in
    let before = r.more in
    settled size (suc m) r.course r.pop_id old new q q' len by.after h.0 r.size_is (omega (arith, more, before)) h.1 by.comes
gone (Some why) size m old new q q' bytes len r h = absurd (let no = h.0 in cc)

-- ---- the loads that follow

abbrev IfAsks : (size m : ℕ) → ChainHandle → walked.PopOutcome → Type 0
IfAsks size m w (shows.Load len) = Reached size m w
IfAsks size m w _ = Unit {0}

asks_next : (size m : ℕ) (old new : ChainHandle) (q q' : QueueState) (bytes : List ℕ) (result : walked.PopOutcome)
    → Reached size m old → ProceedsSo old q bytes (outcomes.On result) new q' → IfAsks size (suc m) new result
asks_next size m old new q q' bytes (shows.Load len) r call =
    gone q.stopped size m old new q q' (whole old bytes) len r
    (subst (λ (st : state.ChainState). WalksFrom st (whole old bytes) old new q q' (shows.Load len)) r.state call.4)
asks_next size m old new q q' bytes _ r call = tt

ends_within : (size n m : ℕ) (w : ChainHandle) (result : walked.PopOutcome) → IfAsks size m w result → size + 4 ≤ m + n →
    PopEndsWithin n w result
unfolding PopEndsWithin
ends_within size zero m w (shows.Load len) r enough =
    let less = few size m w r in absurd (omega (arith, less, enough))
ends_within size (suc n) m w (shows.Load len) r enough = λ v new q q' bytes result same call.
    ends_within size n (suc m) new result (asks_next size m v new q q' bytes result (another size m w v same r) call)
    (omega (arith, enough))
ends_within size zero m w _ r enough = tt
ends_within size (suc n) m w _ r enough = tt

begins_asking : (old new : ChainHandle) (q q' : QueueState) (result : walked.PopOutcome) → BeginsUnless q.stopped old new q q' result →
    IfAsks q.layout.size 0 new result
begins_asking old new q q' (shows.Load len) h = begun q.stopped old new q q' len h
begins_asking old new q q' _ h = tt

by_state : (st : state.ChainState) (old new : ChainHandle) (q q' : QueueState) (bytes : List ℕ) (o : outcome.LoadOutcome) → old.state ≡ st
    → ProceedsSo old q bytes o new q' → EndsSoon st new q.layout.size o
by_state at.Free old new q q' bytes (outcomes.On result) is call =
    ends_within q.layout.size (q.layout.size + 4) 0 new result
    (begins_asking old new q q' result
    (subst (λ (st : state.ChainState). WalksFrom st (whole old bytes) old new q q' result) is call.4)) (omega arith)
by_state at.Free old new q q' bytes outcomes.Part is call = tt
by_state _ old new q q' bytes o is call = tt

pub ends_soon : (old new : ChainHandle) (q q' : QueueState) (bytes : List ℕ) (r : Result outcome.LoadOutcome ChainError)
    → IfOk r (λ o. ProceedsSo old q bytes o new q') → IfOk r (EndsSoon old.state new q.layout.size)
ends_soon old new q q' bytes (Ok o) call = by_state old.state old new q q' bytes o refl call
ends_soon old new q q' bytes (Err e) call = tt
