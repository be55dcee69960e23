-- a walk whatever its loads find
use Rattle.std.proofs.Common.{◌≡◌, ℕ, Bool, true, false, zero, suc, ◌+◌, ◌-◌, ◌<◌, ◌≤◌, List, [], ◌∷◌, ◌++◌, length, map, Option, Some}
use Rattle.std.proofs.Common.{None, inl, inr, refl, ap, sym, ◌∙◌, subst, arith}
use Rattle.std.specs.Prelude.{if◌then◌else◌, ◌==◌, ◌&&◌, option_map}
use Rattle.vm_memory.specs.Memory.{Memory}
use Rattle.std.proofs.lemmas.Bool.{eqb-true, eq-eqb, ltb-false, lt-ltb}
use Rattle.fs_queue.specs.Chain.{Descriptor, DescriptorTable, Visit, WalkStep, Ordinary, Indirect, Faulty, Stops, walk_step, next_visit}
use Rattle.fs_queue.specs.Chain.{onward, first_visit}
use Rattle.fs_queue.specs.Chain.{after_walk_step, with_front, Found, IsChain, HasFault, StopsQueue}
use Rattle.fs_queue.specs.Chain.{entry_address}
use Rattle.fs_queue.specs.Loads.{Load, Ahead, Reads, Ends, holding, reads_entry, step_by, ahead_at, ahead_after, ahead_of_next, found_by}
use Rattle.fs_queue.specs.Loads.{is_whole, found_exactly}
use Rattle.fs_queue.specs.Loads.{ahead_by, AreEntriesOf, CutOffIsStill}
use Rattle.fs_queue.specs.AnyLoads.{load_at, loads_by, FewLoads, LoadsEnd, steps_by, joined, joined_by, LastStep, WasReadBy, PastTable}
use Rattle.fs_queue.specs.AnyLoads.{IsReadIn, EndsAreRead, visits_by, OneForEach, Once, EntriesApart}
use Rattle.fs_queue.proofs.WalkLemmas.{tables_left}
use Rattle.fs_queue.proofs.BoundLemmas.{steps_left, Falls, falls, allowed}
use Rattle.fs_queue.proofs.StillLemmas.{mapped, outside, ended, IsSound, sound_at, sound_next, finds_from, still_exactly}

-- at most n steps lie ahead
abbrev IsNear : (size n : ℕ) → Ahead → Type 0
IsNear size n (Reads v) = (v.earlier ≤ size) × (steps_left size v ≤ n)
IsNear size n (Ends f) = Unit {0}

near_at : (size n : ℕ) (v : Visit) → v.earlier ≤ size → steps_left size v ≤ n → IsNear size n (ahead_at size v)
near_at size n v few le = by_test (reads_entry v)
  where
    by_test : (b : Bool) → IsNear size n (if b then Reads v else Ends (after_walk_step (walk_step (holding []) size v) (IsChain [])))
    by_test true = (few, le)
    by_test false = tt

near_next : (size n k : ℕ) (w : WalkStep) (o : Option Visit) → k ≤ suc n → Falls size k o → IsNear size n (ahead_of_next size w o)
near_next size n k w None le h = tt
near_next size n k w (Some u) le h = let fewer = h.0 in near_at size n u h.1 (omega (arith, fewer, le))

near_after : (size n : ℕ) (v : Visit) (l : Load) → v.earlier ≤ size → steps_left size v ≤ suc n →
    IsNear size n (ahead_after size v (step_by size v l))
near_after size n v l few le =
    near_next size n (steps_left size v) (step_by size v l) (next_visit v (step_by size v l)) le
    (falls size v (step_by size v l) few (allowed (holding (l ∷ [])) size v))

some_left : (k : ℕ) (b : Bool) → k + tables_left b ≤ 0 → ⊥
some_left k true h = omega arith
some_left k false h = omega arith

few_from : (size n : ℕ) (cs : List (Option (List ℕ))) (a : Ahead) → IsNear size n a → length (loads_by size cs a) ≤ n
unfolding loads_by
few_from size zero (c ∷ cs) (Reads v) near = absurd (some_left (size - v.earlier) v.table.indirect near.1)
few_from size (suc n) (c ∷ cs) (Reads v) near =
    let rest = few_from size n cs (ahead_after size v (step_by size v (load_at v c))) (near_after size n v (load_at v c) near.0 near.1) in
    omega (arith, rest)
few_from size n _ _ near = omega arith

pub few_loads : FewLoads
few_loads q head came = few_from q.size (q.size + 2) came (ahead_at q.size (first_visit q head))
    (near_at q.size (q.size + 2) (first_visit q head) (omega arith) (omega arith))

end_step : (size : ℕ) (v : Visit) (l : Load) (ls : List Load) → l.address ≡ entry_address v →
    (f : Found) × (found_by size ls (ahead_after size v (step_by size v l)) ≡ Some f) →
    (f : Found) × (found_by size (l ∷ ls) (Reads v) ≡ Some f)
unfolding found_by
end_step size v l ls at rest = (
  after_walk_step (step_by size v l) rest.0,
  rw (eq-eqb l.address (entry_address v) at) (ap (option_map (after_walk_step (step_by size v l))) rest.1),
)

ends_from : (size n : ℕ) (cs : List (Option (List ℕ))) (a : Ahead) → IsNear size n a → n ≤ length cs →
    (f : Found) × (found_by size (loads_by size cs a) a ≡ Some f)
unfolding loads_by found_by
ends_from size n [] (Ends f) near le = (f, refl)
ends_from size n (c ∷ cs) (Ends f) near le = (f, refl)
ends_from size n [] (Reads v) near le = absurd (some_left (size - v.earlier) v.table.indirect (omega (arith, near.1, le)))
ends_from size zero (c ∷ cs) (Reads v) near le = absurd (some_left (size - v.earlier) v.table.indirect near.1)
ends_from size (suc n) (c ∷ cs) (Reads v) near le =
    end_step size v (load_at v c) (loads_by size cs (ahead_after size v (step_by size v (load_at v c)))) refl
    (ends_from size n cs (ahead_after size v (step_by size v (load_at v c))) (near_after size n v (load_at v c) near.0 near.1)
    (omega (arith, le)))

pub loads_end : LoadsEnd
loads_end q head came le =
    ends_from q.size (q.size + 2) came (ahead_at q.size (first_visit q head))
    (near_at q.size (q.size + 2) (first_visit q head) (omega arith) (omega arith)) le

-- ---- who tells what is found

-- a step past its table's end is the last
past_last : (size : ℕ) (ls : List Load) (v : Visit) → reads_entry v ≡ false → PastTable size ls v
unfolding steps_by
past_last size [] v e = record {
  step = record { front = []; last = v; steps = ap (λ (b : Bool). if b then [] else v ∷ []) e };
  past = ltb-false v.index v.table.entries e;
}
past_last size (l ∷ ls) v e = record {
  step = record {
    front = [];
    last = v;
    steps = ap (λ (b : Bool). v ∷ (if b then onward (steps_by size ls) (next_visit v (step_by size v l)) else [])) e;
  };
  past = ltb-false v.index v.table.entries e;
}

-- the steps from one that reads its entry on
more_steps :
    (size : ℕ) (v : Visit) (l : Load) (ls : List Load) (o : Option Visit) → reads_entry v ≡ true → next_visit v (step_by size v l) ≡ o →
    steps_by size (l ∷ ls) v ≡ v ∷ onward (steps_by size ls) o
unfolding steps_by
more_steps size v l ls o inside next =
    ap (λ (b : Bool). v ∷ (if b then onward (steps_by size ls) (next_visit v (step_by size v l)) else [])) inside
    ∙ ap (λ (x : Option Visit). v ∷ onward (steps_by size ls) x) next

abbrev last_behind : (size : ℕ) (v u : Visit) (l : Load) (ls : List Load) → steps_by size (l ∷ ls) v ≡ v ∷ steps_by size ls u →
    LastStep size ls u → LastStep size (l ∷ ls) v
last_behind size v u l ls on s = record { front = v ∷ s.front; last = s.last; steps = on ∙ ap (λ (x : List Visit). v ∷ x) s.steps }

read_behind : (size : ℕ) (v u : Visit) (l : Load) (ls : List Load) (w : WalkStep) → steps_by size (l ∷ ls) v ≡ v ∷ steps_by size ls u →
    WasReadBy size ls u w → WasReadBy size (l ∷ ls) v w
read_behind size v u l ls w on r = record {
  step = last_behind size v u l ls on r.step;
  before = l ∷ r.before;
  load = r.load;
  rest = r.rest;
  loads = ap (λ (x : List Load). l ∷ x) r.loads;
  place = ap suc r.place;
  entry = r.entry;
  reports = r.reports;
}

-- what is found from a step on, by what is found from the next one on
found_behind : (size : ℕ) (v u : Visit) (l : Load) (ls : List Load) (f : Found) → steps_by size (l ∷ ls) v ≡ v ∷ steps_by size ls u →
    joined (step_by size v l) ≡ [] →
    IsReadIn size ls u f → IsReadIn size (l ∷ ls) v f
found_behind size v u l ls (IsChain ds) on none r =
    r ∙ sym (ap (λ (vs : List Visit). joined_by size vs (l ∷ ls)) on
    ∙ ap (λ (ds : List Descriptor). ds ++ joined_by size (steps_by size ls u) ls) none)
found_behind size v u l ls (HasFault fault) on none (inl r) = inl (read_behind size v u l ls (Faulty fault) on r)
found_behind size v u l ls (HasFault fault) on none (inr (e, r)) =
    inr (e, record { step = last_behind size v u l ls on r.step; past = r.past })
found_behind size v u l ls StopsQueue on none r = read_behind size v u l ls Stops on r

found_in_front : (size : ℕ) (v u : Visit) (l : Load) (ls : List Load) (d : Descriptor) (f : Found) →
    steps_by size (l ∷ ls) v ≡ v ∷ steps_by size ls u → joined (step_by size v l) ≡ d ∷ [] →
    IsReadIn size ls u f → IsReadIn size (l ∷ ls) v (with_front d f)
found_in_front size v u l ls d (IsChain ds) on one r =
    ap (λ (x : List Descriptor). d ∷ x) r
    ∙ sym (ap (λ (vs : List Visit). joined_by size vs (l ∷ ls)) on
    ∙ ap (λ (ds : List Descriptor). ds ++ joined_by size (steps_by size ls u) ls) one)
found_in_front size v u l ls d (HasFault fault) on one (inl r) = inl (read_behind size v u l ls (Faulty fault) on r)
found_in_front size v u l ls d (HasFault fault) on one (inr (e, r)) =
    inr (e, record { step = last_behind size v u l ls on r.step; past = r.past })
found_in_front size v u l ls d StopsQueue on one r = read_behind size v u l ls Stops on r

here : (size : ℕ) (v : Visit) (l : Load) (ls : List Load) (w : WalkStep) → steps_by size (l ∷ ls) v ≡ v ∷ [] → l.address ≡ entry_address v →
    step_by size v l ≡ w → WasReadBy size (l ∷ ls) v w
here size v l ls w alone at is =
    record {
      step = record { front = []; last = v; steps = alone };
      before = [];
      load = l;
      rest = ls;
      loads = refl;
      place = refl;
      entry = at;
      reports = is;
    }

-- what ends by itself is a chain
plain_front : (size : ℕ) (v : Visit) (l : Load) (ls : List Load) (d : Descriptor) (x : Found) → steps_by size (l ∷ ls) v ≡ v ∷ [] →
    joined (step_by size v l) ≡ d ∷ [] → Some (IsChain []) ≡ Some x →
    IsReadIn size (l ∷ ls) v (with_front d x)
plain_front size v l ls d x alone one e =
    let is : IsChain [] ≡ x = cc in
    subst (λ (f : Found). IsReadIn size (l ∷ ls) v (with_front d f)) is
    (sym (ap (λ (vs : List Visit). joined_by size vs (l ∷ ls)) alone ∙ ap (λ (ds : List Descriptor). ds ++ []) one))

read_after : (size : ℕ) (v : Visit) (l : Load) (ls : List Load) (w : WalkStep) (o : Option Visit) (x : Found) → reads_entry v ≡ true →
    l.address ≡ entry_address v → step_by size v l ≡ w →
    next_visit v w ≡ o → found_by size ls (ahead_of_next size w o) ≡ Some x →
    ((u : Visit) → found_by size ls (ahead_at size u) ≡ Some x → IsReadIn size ls u x) →
    IsReadIn size (l ∷ ls) v (after_walk_step w x)
read_after size v l ls (Ordinary d) None x inside at is next found more =
    plain_front size v l ls d x (more_steps size v l ls None inside (ap (next_visit v) is ∙ next)) (ap joined is)
    (sym (ended size ls (IsChain [])) ∙ found)
read_after size v l ls (Ordinary d) (Some u) x inside at is next found more =
    found_in_front size v u l ls d x (more_steps size v l ls (Some u) inside (ap (next_visit v) is ∙ next)) (ap joined is) (more u found)
read_after size v l ls (Indirect t) None x inside at is next found more = absurd (cc)
read_after size v l ls (Indirect t) (Some u) x inside at is next found more =
    found_behind size v u l ls x (more_steps size v l ls (Some u) inside (ap (next_visit v) is ∙ next)) (ap joined is) (more u found)
read_after size v l ls (Faulty fault) o x inside at is next found more =
    inl (here size v l ls (Faulty fault) (more_steps size v l ls None inside (ap (next_visit v) is)) at is)
read_after size v l ls Stops o x inside at is next found more =
    here size v l ls Stops (more_steps size v l ls None inside (ap (next_visit v) is)) at is

read_step :
    (size : ℕ) (v : Visit) (l : Load) (ls : List Load) (f : Found) (b : Bool) → reads_entry v ≡ true → (l.address == entry_address v) ≡ b →
    ((u : Visit) (x : Found) → found_by size ls (ahead_at size u) ≡ Some x → IsReadIn size ls u x) →
    (if b then option_map (after_walk_step (step_by size v l)) (found_by size ls (ahead_after size v (step_by size v l))) else None)
    ≡ Some f → IsReadIn size (l ∷ ls) v f
read_step size v l ls f false inside at more e = absurd (cc)
read_step size v l ls f true inside at more e =
    let w = step_by size v l in
    let got = mapped (after_walk_step w) (found_by size ls (ahead_after size v w)) f e in
    subst (IsReadIn size (l ∷ ls) v) got.2
    (read_after size v l ls w (next_visit v w) got.0 inside (eqb-true l.address (entry_address v) at) refl refl got.1
    (λ u found. more u got.0 found))

-- the fault of a step past its table's end
past_found : (size : ℕ) (ls : List Load) (v : Visit) (f : Found) → reads_entry v ≡ false →
    after_walk_step (walk_step (holding []) size v) (IsChain []) ≡ f → IsReadIn size ls v f
past_found size ls v f e is =
    subst (IsReadIn size ls v) (ap (λ (w : WalkStep). after_walk_step w (IsChain [])) (outside (holding []) size v e) ∙ is)
    (inr (refl, past_last size ls v e))

read_from : (size : ℕ) (ls : List Load) (v : Visit) (f : Found) → found_by size ls (ahead_at size v) ≡ Some f → IsReadIn size ls v f
unfolding found_by
read_from size [] v f e = by_test (reads_entry v) refl e
  where
    by_test : (b : Bool) → reads_entry v ≡ b → found_by size []
        (if b then Reads v else Ends (after_walk_step (walk_step (holding []) size v) (IsChain []))) ≡ Some f → IsReadIn size [] v f
    by_test true inside h = absurd (cc)
    by_test false inside h = past_found size [] v f inside (cc)
read_from size (l ∷ ls) v f e = by_test (λ u x h. read_from size ls u x h) (reads_entry v) refl e
  where
    by_test :
        ((u : Visit) (x : Found) → found_by size ls (ahead_at size u) ≡ Some x → IsReadIn size ls u x) → (b : Bool) → reads_entry v ≡ b →
        found_by size (l ∷ ls) (if b then Reads v else Ends (after_walk_step (walk_step (holding []) size v) (IsChain []))) ≡ Some f →
        IsReadIn size (l ∷ ls) v f
    by_test more true inside h = read_step size v l ls f (l.address == entry_address v) inside refl more h
    by_test more false inside h = past_found size (l ∷ ls) v f inside (cc)

pub ends_are_read : EndsAreRead
ends_are_read q head ls f e = read_from q.size ls (first_visit q head) f e

-- ---- a load for each step

one_more : (size : ℕ) (v : Visit) (l : Load) (ls : List Load) → l.address ≡ entry_address v →
    OneForEach size ls (ahead_after size v (step_by size v l)) → OneForEach size (l ∷ ls) (Reads v)
unfolding visits_by
one_more size v l ls at o = record {
  used = l ∷ o.used;
  left = o.left;
  parts = ap (λ (x : List Load). l ∷ x) o.parts;
  each = ap (λ n. n ∷ map (λ (k : Load). k.address) o.used) at ∙ ap (λ (x : List ℕ). entry_address v ∷ x) o.each;
}

once_step : (size : ℕ) (v : Visit) (l : Load) (ls : List Load) (f : Found) (b : Bool) → (l.address == entry_address v) ≡ b →
    ((x : Found) → found_by size ls (ahead_after size v (step_by size v l)) ≡ Some x →
    OneForEach size ls (ahead_after size v (step_by size v l))) →
    (if b then option_map (after_walk_step (step_by size v l)) (found_by size ls (ahead_after size v (step_by size v l))) else None)
    ≡ Some f → OneForEach size (l ∷ ls) (Reads v)
once_step size v l ls f false at more e = absurd (cc)
once_step size v l ls f true at more e =
    let got = mapped (after_walk_step (step_by size v l)) (found_by size ls (ahead_after size v (step_by size v l))) f e in
    one_more size v l ls (eqb-true l.address (entry_address v) at) (more got.0 got.1)

once_from : (size : ℕ) (ls : List Load) (a : Ahead) (f : Found) → found_by size ls a ≡ Some f → OneForEach size ls a
unfolding found_by visits_by
once_from size [] a f e = record { used = []; left = []; parts = refl; each = refl }
once_from size (l ∷ ls) (Ends g) f e = record { used = []; left = l ∷ ls; parts = refl; each = refl }
once_from size (l ∷ ls) (Reads v) f e =
    once_step size v l ls f (l.address == entry_address v) refl (λ x h. once_from size ls (ahead_after size v (step_by size v l)) x h) e

pub once : Once
once q head ls f e = once_from q.size ls (ahead_at q.size (first_visit q head)) f e

pub entries_apart : EntriesApart
entries_apart v w same low high =
    let table : v.table.address ≡ w.table.address = ap (λ (t : DescriptorTable). t.address) same in
    omega (arith, table, low, high)

-- ---- a walk that is cut off

inside_reads : (size : ℕ) (v : Visit) → v.index < v.table.entries → ahead_at size v ≡ Reads v
inside_reads size v inside = ap (λ (b : Bool). if b then Reads v else Ends (after_walk_step (walk_step (holding []) size v) (IsChain [])))
    (lt-ltb v.index v.table.entries inside)

-- more loads that a memory has, and what a walk finds by them after some others
record Completes (m : Memory) (size : ℕ) (ls : List Load) (a : Ahead) : Type 0 where
  more : List Load
  are : AreEntriesOf m more
  found : Found
  finds : found_exactly size (ls ++ more) a ≡ Some found

complete_step : (m : Memory) (size : ℕ) (v : Visit) (l : Load) (ls : List Load) (b : Ahead) (c : Bool) →
    (l.address == entry_address v && is_whole 16 l.came) ≡ c →
    (ahead_by size ls (ahead_after size v (step_by size v l)) ≡ Some b → Completes m size ls (ahead_after size v (step_by size v l))) →
    (if c then ahead_by size ls (ahead_after size v (step_by size v l)) else None) ≡ Some b → Completes m size (l ∷ ls) (Reads v)
unfolding found_exactly
complete_step m size v l ls b false at more e = absurd (cc)
complete_step m size v l ls b true at more e =
    let rest = more e in
    record {
      more = rest.more;
      are = rest.are;
      found = after_walk_step (step_by size v l) rest.found;
      finds = rw at (ap (option_map (after_walk_step (step_by size v l))) rest.finds);
    }

complete_from : (m : Memory) (size n : ℕ) (ls : List Load) (a b : Ahead) → IsNear size n a → IsSound a → ahead_by size ls a ≡ Some b →
    Completes m size ls a
unfolding ahead_by found_exactly
complete_from m size n [] (Ends g) b near sound e = record { more = []; are = tt; found = g; finds = refl }
complete_from m size n [] (Reads v) b near sound e =
    let all = finds_from m size n v near.0 near.1 in
    record {
      more = all.loads;
      are = all.are;
      found = _;
      finds = ap (found_exactly size all.loads) (sym (inside_reads size v sound)) ∙ all.finds;
    }
complete_from m size n (l ∷ ls) (Ends g) b near sound e = absurd (cc)
complete_from m size zero (l ∷ ls) (Reads v) b near sound e = absurd (some_left (size - v.earlier) v.table.indirect near.1)
complete_from m size (suc n) (l ∷ ls) (Reads v) b near sound e =
    complete_step m size v l ls b (l.address == entry_address v && is_whole 16 l.came) refl
    (λ h. complete_from m size n ls (ahead_after size v (step_by size v l)) b (near_after size n v l near.0 near.1)
    (sound_next size (step_by size v l) (next_visit v (step_by size v l))) h) e

entries-append : (m : Memory) (ls more : List Load) → AreEntriesOf m ls → AreEntriesOf m more → AreEntriesOf m (ls ++ more)
entries-append m [] more are rest = rest
entries-append m (l ∷ ls) more are rest = (are.0, entries-append m ls more are.1 rest)

pub cut_off_is_still : CutOffIsStill
cut_off_is_still m q head ls a are e =
    let first = first_visit q head in
    let all = complete_from m q.size (q.size + 2) ls (ahead_at q.size first) a
    (near_at q.size (q.size + 2) first (omega arith) (omega arith)) (sound_at q.size first) e in (
      all.more,
      all.are,
      all.finds ∙ ap Some (still_exactly m q head (ls ++ all.more) all.found (entries-append m ls all.more are all.are) all.finds),
    )
