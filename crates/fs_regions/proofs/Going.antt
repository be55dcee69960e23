-- A pop goes on with loads that were made ahead.
use Rattle.std.proofs.Common.{◌≡◌, ◌∙◌, ℕ, ◌≤◌, List, [], ◌∷◌, length, take, drop, ap, refl, sym, subst}
use Rattle.std.proofs.lemmas.List.{length-take-le}
use Rattle.smallvec.specs.SmallVec.{SmallVec}
use Rattle.fs_queue.specs.Chain.{Descriptor}
use Rattle.fs_queue.specs.Queue.{Queue}
use Rattle.fs_regions.specs.Places.{Mapped, places_in}
use Rattle.fs_regions.specs.declared.ahead.LoadAhead.{LoadAhead}
use Rattle.fs_regions.specs.declared.walk.QueueWalk.{QueueWalk}
use Rattle.fs_regions.specs.declared.step.CourseStep as comes
use Rattle.fs_regions.specs.declared.step.CourseStep.TheVariants as step
use Rattle.fs_regions.specs.Walks.{Loaded, nothing, ComesBy, IsCourseStep, IsWalkAt}
use Rattle.fs_regions.specs.Ahead.{AheadBytes, BeginsAhead, ProceedsAhead, IsLoadOf, LeavesLoad, StopsBefore, loads_ahead}

-- a step stays where it is
pub proceeds_nowhere : (g : Mapped) (limit : ℕ) (q : Queue) (ahead : List AheadBytes) (ds : SmallVec Descriptor) (s : comes.CourseStep)
    → StopsBefore g ahead ds s → ProceedsAhead g limit q ahead ds s ds s
proceeds_nowhere g limit q ahead ds s stops =
    record { first = []; more = ahead; parts = refl; steps = λ taken at. at; stops = stops }

-- a walk doesn't take the next load
pub proceeds_not : (g : Mapped) (limit : ℕ) (q : Queue) (ahead : List LoadAhead) (one : LoadAhead) (more : List LoadAhead) (bytes : List ℕ)
    (ds : SmallVec Descriptor) (from : comes.CourseStep) (walk : QueueWalk) → ahead ≡ one ∷ more → from ≡ step.Load walk
    → LeavesLoad g walk (record { load = one; bytes = take one.len bytes }) ds
    → ProceedsAhead g limit q (loads_ahead ahead bytes) ds from ds (step.Load walk)
proceeds_not g limit q ahead one more bytes ds from walk is_first is leaves =
    subst (λ (s : comes.CourseStep). ProceedsAhead g limit q (loads_ahead ahead bytes) ds s ds (step.Load walk)) (sym is)
    (proceeds_nowhere g limit q (loads_ahead ahead bytes) ds (step.Load walk)
    (subst (λ (ls : List LoadAhead). StopsBefore g (loads_ahead ls bytes) ds (step.Load walk)) (sym is_first) leaves))

-- it takes the next load, and goes on
proceeds_by : (g : Mapped) (limit : ℕ) (q : Queue) (one : LoadAhead) (more : List LoadAhead) (bytes : List ℕ) (walk : QueueWalk)
    (old mid new : SmallVec Descriptor) (next to : comes.CourseStep) → IsLoadOf g walk one → one.len ≤ length bytes
    → ((loaded : Loaded) → IsWalkAt (places_in g) q loaded old.items walk
    → ComesBy (places_in g) limit q loaded walk (take one.len bytes) mid.items next)
    → ProceedsAhead g limit q (loads_ahead more (drop one.len bytes)) mid next new to
    → ProceedsAhead g limit q (loads_ahead (one ∷ more) bytes) old (step.Load walk) new to
proceeds_by g limit q one more bytes walk old mid new next to is enough comes then =
    let l : AheadBytes = record { load = one; bytes = take one.len bytes } in
    let long : length (take one.len bytes) ≡ one.len = length-take-le one.len bytes enough in
    record {
      first = l ∷ then.first;
      more = then.more;
      parts = ap (λ (ls : List AheadBytes). l ∷ ls) then.parts;
      steps = λ taken at. then.steps (l ∷ taken) (walk, old.items, at, is, long ∙ is.3 ∙ is.4, comes);
      stops = then.stops;
    }

pub carries_on : (g : Mapped) (limit : ℕ) (q : Queue) (ahead : List LoadAhead) (one : LoadAhead) (more : List LoadAhead) (bytes : List ℕ)
    (walk : QueueWalk) (old mid new : SmallVec Descriptor) (next to : comes.CourseStep) → ahead ≡ one ∷ more → IsLoadOf g walk one
    → one.len ≤ length bytes
    → ((loaded : Loaded) → IsWalkAt (places_in g) q loaded old.items walk
    → ComesBy (places_in g) limit q loaded walk (take one.len bytes) mid.items next)
    → ProceedsAhead g limit q (loads_ahead more (drop one.len bytes)) mid next new to
    → ProceedsAhead g limit q (loads_ahead ahead bytes) old (step.Load walk) new to
carries_on g limit q ahead one more bytes walk old mid new next to is_first is enough comes then =
    subst (λ (ls : List LoadAhead). ProceedsAhead g limit q (loads_ahead ls bytes) old (step.Load walk) new to) (sym is_first)
    (proceeds_by g limit q one more bytes walk old mid new next to is enough comes then)

-- the same of a step that asks for this load
pub carries_on_from : (g : Mapped) (limit : ℕ) (q : Queue) (ahead : List LoadAhead) (one : LoadAhead) (more : List LoadAhead)
    (bytes mine behind : List ℕ) (from next to : comes.CourseStep) (walk : QueueWalk) (old mid new : SmallVec Descriptor)
    → ahead ≡ one ∷ more → from ≡ step.Load walk → mine ≡ take one.len bytes → behind ≡ drop one.len bytes → IsLoadOf g walk one
    → one.len ≤ length bytes
    → ((loaded : Loaded) → IsWalkAt (places_in g) q loaded old.items walk
    → ComesBy (places_in g) limit q loaded walk mine mid.items next)
    → ProceedsAhead g limit q (loads_ahead more behind) mid next new to
    → ProceedsAhead g limit q (loads_ahead ahead bytes) old from new to
carries_on_from g limit q ahead one more bytes mine behind from next to walk old mid new is_first asks front back is enough given then =
    subst (λ (s : comes.CourseStep). ProceedsAhead g limit q (loads_ahead ahead bytes) old s new to) (sym asks)
    (carries_on g limit q ahead one more bytes walk old mid new next to is_first is enough
    (subst (λ (bs : List ℕ). (loaded : Loaded) → IsWalkAt (places_in g) q loaded old.items walk
    → ComesBy (places_in g) limit q loaded walk bs mid.items next) front given)
    (subst (λ (bs : List ℕ). ProceedsAhead g limit q (loads_ahead more bs) mid next new to) back then))

-- a step that asks for no load stops before any
stops_other : (g : Mapped) (ahead : List AheadBytes) (ds : SmallVec Descriptor) (s : comes.CourseStep)
    → ((walk : QueueWalk) → s ≡ step.Load walk → ⊥) → StopsBefore g ahead ds s
stops_other g [] ds s other = tt
stops_other g (l ∷ more) ds (step.Load walk) other = absurd (other walk refl)
stops_other g (l ∷ more) ds _ other = tt

-- it stays where it is
pub proceeds_no_further : (g : Mapped) (limit : ℕ) (q : Queue) (ahead : List AheadBytes) (ds : SmallVec Descriptor) (s : comes.CourseStep)
    → ((walk : QueueWalk) → s ≡ step.Load walk → ⊥) → ProceedsAhead g limit q ahead ds s ds s
proceeds_no_further g limit q ahead ds s other = proceeds_nowhere g limit q ahead ds s (stops_other g ahead ds s other)

-- a pop begins, and goes on
pub begins_so : (g : Mapped) (limit : ℕ) (q : Queue) (ahead : List AheadBytes) (begun new : SmallVec Descriptor)
    (from to : comes.CourseStep) → IsCourseStep (places_in g) limit q nothing begun.items from
    → ProceedsAhead g limit q ahead begun from new to
    → BeginsAhead g limit q ahead new to
begins_so g limit q ahead begun new from to begins proceeds =
    record {
      first = proceeds.first;
      more = proceeds.more;
      parts = proceeds.parts;
      steps = proceeds.steps [] begins;
      stops = proceeds.stops;
    }
