-- A pop by loads that were made ahead is calls of `pop` one after another.
use Rattle.std.proofs.Common.{◌≡◌, ◌∙◌, ℕ, ◌<◌, ◌+◌, ◌-◌, ◌++◌, ◌==◌, List, [], ◌∷◌, Bool, true, false, not, Option, Some, if◌then◌else◌}
use Rattle.std.proofs.Common.{None, inl, inr, length, min, ap, refl, sym, subst, arith}
use Rattle.std.proofs.lemmas.Bool.{eq-eqb, and_from}
use Rattle.smallvec.specs.SmallVec.{SmallVec}
use Rattle.vm_iotlb.specs.declared.iova.IovaRange.{IovaRange}
use Rattle.vm_iotlb.specs.declared.permissions.Permissions.{Permissions}
use Rattle.fs_queue.specs.declared.fault.QueueError.{QueueError}
use Rattle.fs_queue.specs.declared.fault.QueueError.TheVariants.{Stopped}
use Rattle.fs_queue.specs.Chain.{Descriptor}
use Rattle.fs_regions.specs.declared.course.Course.{Course}
use Rattle.fs_regions.specs.declared.walk.QueueWalk.{QueueWalk}
use Rattle.fs_regions.specs.declared.step.CourseStep as comes
use Rattle.fs_regions.specs.declared.step.CourseStep.TheVariants as step
use Rattle.vm_iotlb.specs.declared.permissions.Permissions.TheVariants.{Read}
use Rattle.vm_memory.specs.Memory.{location}
use Rattle.vm_memory.specs.Slices.{IsWindowAt}
use Rattle.fs_regions.specs.Places.{Mapped, left_in, places_in}
use Rattle.fs_regions.specs.Walks.{nothing, ComesBy, IsCourseStep, asked_by, asked_len, queue_of}
use Rattle.fs_regions.specs.Ahead.{AheadBytes, BeginsAhead, IsLoadOf, LeavesLoad, StepsAhead, StopsBefore, last_first}
use Rattle.fs_chain.specs.declared.error.ChainError.{ChainError}
use Rattle.fs_chain.specs.declared.error.ChainError.TheVariants.{BadArgument, ChainInFlight, OtherQueue}
use Rattle.fs_chain.specs.declared.queue.QueueState.{QueueState}
use Rattle.fs_chain.specs.declared.state.PopId.{PopId}
use Rattle.fs_chain.specs.declared.state.ChainState as state
use Rattle.fs_chain.specs.declared.state.ChainState.TheVariants as at
use Rattle.fs_chain.specs.declared.loads.LoadOutcome.TheVariants as proceeds
use Rattle.fs_chain.specs.declared.popping.PopOutcome as walked
use Rattle.fs_chain.specs.declared.popping.PopOutcome.TheVariants as reports
use Rattle.fs_chain.specs.declared.chain_handle.ChainHandle.{ChainHandle}
use Rattle.fs_chain.specs.Ahead.{IsWantedLoad, PopsAhead, StopsAt, WalksAhead}
use Rattle.fs_chain.specs.Events.{event_fault, event_miss}
use Rattle.fs_chain.specs.Loads.{whole}
use Rattle.fs_chain.specs.Orders.{IfPopping, give_error, load_len, walk_error}
use Rattle.fs_chain.specs.Queues.{fits_pop, may_take, pop_id_of}
use Rattle.fs_chain.specs.Walks.{BeginsPop, BeginsUnless, ContinuesWalk, IsAllButPart, LacksEvents, KeepsStep, StaysForLoad, WalksFrom}
use Rattle.fs_chain.specs.Walks.{WalksOn, course_of, left_of, state_after}
use Rattle.fs_chain.specs.Pops.{BeginsPopBy}
use Rattle.fs_chain.proofs.Steps.{begins_where, by_left, comes_left, walks_on}

-- a pop begins in a free handle
pub begins_free : (w w' : ChainHandle) (q q' : QueueState) (result : walked.PopOutcome) → w.state ≡ at.Free → may_take q ≡ true
    → w'.part.items ≡ [] → w'.session ≡ w.session → BeginsPop w w' q q' result → BeginsPopBy w w' q q' (proceeds.On result)
begins_free w w' q q' result free may part session begins =
    let Q : state.ChainState → Type 0 = λ s.
    (walk_error s q (length (if load_len s == 0 then [] else w.part.items ++ [])) ≡ None)
    × WalksFrom s (if load_len s == 0 then [] else w.part.items ++ []) w w' q q' result in
    let none : Q at.Free = (ap (λ (b : Bool). if not b then Some ChainInFlight else None) may, begins) in
    let rest = subst Q (sym free) none in
    (free, (inl (ap load_len free), part, session, rest.0, rest.1))

-- a pop under way, with these descriptors and no part of a load
abbrev mid : (w w' : ChainHandle) → QueueState → QueueWalk → List Descriptor → ChainHandle
mid w w' q walk ds =
    record w {
      state = at.Popping (course_of q w.limit) (pop_id_of w.regions q) walk;
      descriptors = record { items = ds; capacity = 0 };
      part = w'.part;
    }

same : (n : ℕ) → (n == n) ≡ true
same n = eq-eqb n n refl

fits : (g : Mapped) (q : QueueState) (limit : ℕ) → fits_pop q (course_of q limit) (pop_id_of g q) ≡ true
fits g q limit =
    let c = course_of q limit in
    let t = pop_id_of g q in
    let a = and_from (q.layout.size == q.layout.size) (q.layout.desc == q.layout.desc) (same q.layout.size) (same q.layout.desc) in
    let b = and_from _ (q.layout.avail == q.layout.avail) a (same q.layout.avail) in
    let laid = and_from _ (q.layout.used == q.layout.used) b (same q.layout.used) in
    let d = and_from (q.reset_count == q.reset_count) (q.pop_count == q.pop_count) (same q.reset_count) (same q.pop_count) in
    let e = and_from _ (q.next_avail == q.next_avail) d (same q.next_avail) in
    and_from _ _ e laid

-- such a pop may go on with its whole load
abbrev proceeds_by : (long fits may : Bool) → Option ChainError
proceeds_by long fits may =
    if not long then Some BadArgument
    else if not fits then Some OtherQueue
    else if not may then Some ChainInFlight
    else None

may_go : (g : Mapped) (q : QueueState) (limit asked len : ℕ) → may_take q ≡ true → len ≡ asked
    → give_error q (course_of q limit) (pop_id_of g q) asked len ≡ None
may_go g q limit asked len may long =
    let fit = fits_pop q (course_of q limit) (pop_id_of g q) in
    subst (λ (b : Bool). proceeds_by (len == asked) fit b ≡ None) (sym may)
    (subst (λ (b : Bool). proceeds_by (len == asked) b true ≡ None) (sym (fits g q limit))
    (subst (λ (b : Bool). proceeds_by b true true ≡ None) (sym (eq-eqb len asked long)) refl))

either : (b : Bool) (xs : List ℕ) → (if b then xs else xs) ≡ xs
either true xs = refl
either false xs = refl

-- all its bytes are those of the load
all_of : (asked : ℕ) (part bytes : List ℕ) → part ≡ [] → (if asked == 0 then bytes else part ++ bytes) ≡ bytes
all_of asked part bytes none =
    subst (λ (xs : List ℕ). (if asked == 0 then bytes else xs ++ bytes) ≡ bytes) (sym none) (either (asked == 0) bytes)

at_zero : (P : ℕ → ℕ → Type 0) (a n : ℕ) → P a n → P (a + 0) (n - 0)
at_zero P a n h =
    let one : a + 0 ≡ a = omega arith in
    let two : n - 0 ≡ n = omega arith in
    subst (λ (x : ℕ). P x (n - 0)) (sym one) (subst (λ (y : ℕ). P a y) (sym two) h)

-- the load is the one that such a pop needs
wanted : (w w' : ChainHandle) (q : QueueState) (walk : QueueWalk) (ds : List Descriptor) (l : AheadBytes) → w'.part.items ≡ []
    → IsLoadOf w.regions walk l.load → IsWantedLoad (mid w w' q walk ds) l.load
wanted w w' q walk ds l part is =
    let v = is.0 in
    let there : 0 < asked_len walk = subst (λ (n : ℕ). 0 < n) is.4 is.1.0.0 in
    let W : ℕ → ℕ → Type 0 = λ a n. IsWindowAt (location (places_in w.regions) Read) a n v in
    let M : ℕ → ℕ → Type 0 = λ a n. v.len ≡ min n (left_in (places_in w.regions) a) in
    let P : ℕ → Type 0 = λ n.
    (n < asked_len walk)
    × IsWindowAt (location (places_in w.regions) Read) (asked_by walk + n) (asked_len walk - n) v
    × (v.len ≡ min (asked_len walk - n) (left_in (places_in w.regions) (asked_by walk + n))) in
    let at_start : P 0 = (there, at_zero W (asked_by walk) (asked_len walk) is.1.0, at_zero M (asked_by walk) (asked_len walk) is.1.1) in
    let here = subst P (sym (ap length part)) at_start in
    (v, (tt, here), is.2, is.3)

-- a pop at this step, with these descriptors, is calls of `pop`, which end with what the handle keeps of the step
pub walks_ahead : (w w' : ChainHandle) (q q' : QueueState) (taken : List AheadBytes) (ds : List Descriptor) (s : comes.CourseStep)
    (result : walked.PopOutcome) → w.state ≡ at.Free → q.stopped ≡ None → event_fault (places_in w.regions) q ≡ None → may_take q ≡ true
    → StepsAhead w.regions w.limit (queue_of (course_of q w.limit)) taken ds s
    → KeepsStep (course_of q w.limit) (pop_id_of w.regions q) s w w' q q' result → w'.descriptors.items ≡ left_of s ds
    → w'.part.items ≡ []
    → w'.session ≡ w.session → WalksAhead taken w w' q q' (proceeds.On result)
walks_ahead w w' q q' [] ds s result free runs events may at keeps left part session =
    let course = course_of q w.limit in
    let here = comes_left (places_in w.regions) w.limit (queue_of course) nothing ds s at in
    let P : List Descriptor → Type 0 = λ xs. IsCourseStep (places_in w.regions) w.limit (queue_of course) nothing xs s in
    let there = subst P (sym left) here in
    begins_free w w' q q' result free may part session (begins_where w w' q q' result None runs (sym events) (s, keeps, there))
walks_ahead w w' q q' (l ∷ taken) ds s result free runs events may (walk, before, at, is, long, by) keeps left part session =
    let course = course_of q w.limit in
    let g = places_in w.regions in
    let m = mid w w' q walk before in
    let none : whole m l.bytes ≡ l.bytes = all_of (asked_len walk) w'.part.items l.bytes part in
    let first = walks_ahead w m q q taken before (step.Load walk) (reports.Load (asked_len walk)) free runs events may at
    (refl, refl, refl, tt, (refl, refl, refl, refl)) refl part refl in
    let carries_on : ContinuesWalk course (pop_id_of w.regions q) walk l.bytes m w' q q' result = (
      s,
      keeps,
      λ loaded stands. subst (λ (xs : List Descriptor). ComesBy g w.limit (queue_of course) loaded walk l.bytes xs s) (sym left)
          (by_left g w.limit (queue_of course) loaded walk l.bytes ds s (by loaded stands)),
    ) in
    let walks : WalksOn l.bytes m w' q q' result =
    walks_on course (pop_id_of w.regions q) walk l.bytes m w' q q' result runs refl carries_on in (
      m,
      q,
      proceeds.On (reports.Load (asked_len walk)),
      first,
      tt,
      wanted w w' q walk before l part is,
      long ∙ sym (is.3 ∙ is.4),
      (
        inr (inl (part, long)),
        part,
        session,
        subst (λ (xs : List ℕ). walk_error m.state q (length xs) ≡ None) (sym none)
            (may_go w.regions q w.limit (asked_len walk) (length l.bytes) may long),
        subst (λ (xs : List ℕ). WalksOn xs m w' q q' result) (sym none) walks,
      ),
    )

-- a pop stops where its course does
stops_at : (w' : ChainHandle) (course : Course) (pop_id : PopId) (more : List AheadBytes) (ds : SmallVec Descriptor)
    (items : List Descriptor) (s : comes.CourseStep) → w'.state ≡ state_after course pop_id items s → StaysForLoad s ds w'.descriptors
    → StopsBefore w'.regions more ds s → StopsAt more w'
stops_at w' course pop_id [] ds items s is stays stops = tt
stops_at w' course pop_id (l ∷ more) ds items (step.Load walk) is stays stops =
    subst (λ (x : state.ChainState). IfPopping x (λ walk. LeavesLoad w'.regions walk l w'.descriptors)) (sym is)
    (subst (λ (x : SmallVec Descriptor). LeavesLoad w'.regions walk l x) (sym stays) stops)
stops_at w' course pop_id (l ∷ more) ds items (step.Chain head None) is stays stops =
    subst (λ (x : state.ChainState). IfPopping x (λ walk. LeavesLoad w'.regions walk l w'.descriptors)) (sym is) tt
stops_at w' course pop_id (l ∷ more) ds items _ is stays stops =
    subst (λ (x : state.ChainState). IfPopping x (λ walk. LeavesLoad w'.regions walk l w'.descriptors)) (sym is) tt

-- a pop by loads ahead, from its course
pub pops_so : (w w' : ChainHandle) (q q' : QueueState) (ahead : List AheadBytes) (ds : SmallVec Descriptor) (s : comes.CourseStep)
    (pop_id : PopId) (result : walked.PopOutcome) → w.state ≡ at.Free → q.stopped ≡ None → event_fault (places_in w.regions) q ≡ None
    → may_take q ≡ true → BeginsAhead w.regions w.limit (queue_of (course_of q w.limit)) ahead ds s → pop_id ≡ pop_id_of w.regions q
    → KeepsStep (course_of q w.limit) pop_id s w w' q q' result → w'.descriptors.items ≡ left_of s ds.items
    → StaysForLoad s ds w'.descriptors → w'.part.items ≡ [] → w'.session ≡ w.session → PopsAhead ahead w w' q q' (proceeds.On result)
pops_so w w' q q' ahead ds s pop_id result free runs events may begins is keeps left stays part session =
    let kept = subst (λ (t : PopId). KeepsStep (course_of q w.limit) t s w w' q q' result) is keeps in
    record {
      first = begins.first;
      more = begins.more;
      parts = begins.parts;
      walks = walks_ahead w w' q q' (last_first begins.first []) ds.items s result free runs events may begins.steps kept left part
          session;
      stops = stops_at w' (course_of q w.limit) pop_id begins.more ds w'.descriptors.items s keeps.1 stays
          (subst (λ (g : Mapped). StopsBefore g begins.more ds s) (sym keeps.4.0) begins.stops);
    }

-- the same of a handle whose part of a load was dropped then
pub pops_apart : (w u w' : ChainHandle) (q q' : QueueState) (ahead : List AheadBytes) (ds : SmallVec Descriptor) (s : comes.CourseStep)
    (pop_id : PopId) (result : walked.PopOutcome) → w.state ≡ at.Free → q.stopped ≡ None → event_fault (places_in w.regions) q ≡ None
    → may_take q ≡ true → BeginsAhead w.regions w.limit (queue_of (course_of q w.limit)) ahead ds s → pop_id ≡ pop_id_of w.regions q
    → KeepsStep (course_of q w.limit) pop_id s w u q q' result → u.descriptors.items ≡ left_of s ds.items
    → StaysForLoad s ds u.descriptors → u.session ≡ w.session → w'.part.items ≡ [] → w' ≡ record u { part = w'.part }
    → PopsAhead ahead w w' q q' (proceeds.On result)
pops_apart w u w' q q' ahead ds s pop_id result free runs events may begins is keeps left stays session part apart =
    subst (λ (x : ChainHandle). PopsAhead ahead w x q q' (proceeds.On result)) (sym apart)
    (pops_so w (record u { part = w'.part }) q q' ahead ds s pop_id result free runs events may begins is keeps left stays part session)

none_stops : (g : Mapped) (more : List AheadBytes) (ds : SmallVec Descriptor) → StopsBefore g more ds step.Idle
none_stops g [] ds = tt
none_stops g (l ∷ more) ds = tt

-- a pop that asks for no load takes none
pub pops_none : (w w' : ChainHandle) (q q' : QueueState) (ahead : List AheadBytes) (result : walked.PopOutcome) → w.state ≡ at.Free
    → may_take q ≡ true → w'.part.items ≡ [] → w'.session ≡ w.session → w'.state ≡ at.Free → BeginsPop w w' q q' result
    → PopsAhead ahead w w' q q' (proceeds.On result)
pops_none w w' q q' ahead result free may part session ends begins =
    record {
      first = [];
      more = ahead;
      parts = refl;
      walks = begins_free w w' q q' result free may part session begins;
      stops = stops_at w' (course_of q w.limit) (pop_id_of w.regions q) ahead w'.descriptors [] step.Idle ends tt
          (none_stops w'.regions ahead w'.descriptors);
    }

-- a stopped queue refuses the pop
pub pops_stopped : (w w' : ChainHandle) (q : QueueState) (ahead : List AheadBytes) (why : QueueError) → w.state ≡ at.Free
    → may_take q ≡ true → q.stopped ≡ Some why → IsAllButPart w w' → w'.part.items ≡ []
    → PopsAhead ahead w w' q q (proceeds.On (reports.Refused Stopped))
pops_stopped w w' q ahead why free may is same part =
    let begins : BeginsPop w w' q q (reports.Refused Stopped) =
    subst (λ (x : Option QueueError). BeginsUnless x w w' q q (reports.Refused Stopped)) (sym is) (refl, same, refl) in
    pops_none w w' q q ahead (reports.Refused Stopped) free may part same.4 (same.3 ∙ free) begins

-- a pop without its event index takes no load
lacks_part : (e : QueueError) (miss : Option (IovaRange × Permissions)) (w u p : ChainHandle) (q q' : QueueState)
    (result : walked.PopOutcome)
    → LacksEvents e miss w u q q' result → LacksEvents e miss w (record u { part = p.part }) q q' result
lacks_part e None w u p q q' result h = h
lacks_part e (Some miss) w u p q q' result h = h

lacks_same : (e : QueueError) (miss : Option (IovaRange × Permissions)) (w u : ChainHandle) (q q' : QueueState)
    (result : walked.PopOutcome)
    → LacksEvents e miss w u q q' result → (u.state ≡ w.state) × (u.session ≡ w.session)
lacks_same e None w u q q' result h = (h.1.0.3, h.1.0.4)
lacks_same e (Some miss) w u q q' result h = (h.1.0.3, h.1.0.4)

pub pops_lacking : (w u w' : ChainHandle) (q q' : QueueState) (ahead : List AheadBytes) (result : walked.PopOutcome) (e : QueueError)
    → w.state ≡ at.Free → may_take q ≡ true → q.stopped ≡ None → event_fault (places_in w.regions) q ≡ Some e
    → LacksEvents e (event_miss (places_in w.regions) q) w u q q' result → w'.part.items ≡ [] → w' ≡ record u { part = w'.part }
    → PopsAhead ahead w w' q q' (proceeds.On result)
pops_lacking w u w' q q' ahead result e free may runs is lacks part apart =
    let x : ChainHandle = record u { part = w'.part } in
    let miss = event_miss (places_in w.regions) q in
    let here : LacksEvents e miss w x q q' result = lacks_part e miss w u w' q q' result lacks in
    let same = lacks_same e miss w x q q' result here in
    subst (λ (y : ChainHandle). PopsAhead ahead w y q q' (proceeds.On result)) (sym apart)
    (pops_none w x q q' ahead result free may part same.1 (same.0 ∙ free) (begins_where w x q q' result (Some e) runs (sym is) here))
