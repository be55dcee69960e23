-- The calls of a pop make few loads.
use Rattle.std.proofs.Common.{◌≡◌, ◌+◌, ◌<◌, ◌≤◌, ℕ, suc, Bool, List, [], ◌∷◌, ◌++◌, length, map, length-append, Option, Some, None, refl}
use Rattle.std.proofs.Common.{true, ◌==◌, ◌&&◌, option_map, if◌then◌else◌, subst, sym, ap, ◌∙◌, arith}
use Rattle.std.proofs.lemmas.Bool.{eqb-true}
use Rattle.vm_memory.specs.Memory.{Memory}
use Rattle.fs_queue.specs.AnyLoads.{load_at, loads_by}
use Rattle.fs_queue.specs.Chain.{Descriptor, Found, Visit, WalkStep, after_walk_step, entry_address, first_visit}
use Rattle.fs_queue.specs.Loads.{Load, Ahead, Reads, Ends, ahead_after, ahead_at, chain_exactly, found_exactly, is_whole, step_by}
use Rattle.fs_queue.specs.Queue.{Queue}
use Rattle.fs_queue.specs.SteppingView.{visit_of}
use Rattle.fs_queue.proofs.AnyLoadLemmas.{few_loads}
use Rattle.fs_queue.proofs.LoadLemmas.{memory_with, reach_none}
use Rattle.fs_queue.proofs.StillLemmas.{mapped}
use Rattle.fs_regions.specs.Walks.{AddsBytes, Brings, IsLongestStretch, Loaded, IsWalkAt}
use Rattle.fs_regions.specs.declared.step.CourseStep as comes
use Rattle.fs_regions.specs.declared.walk.QueueWalk.{QueueWalk}
use Rattle.fs_regions.specs.declared.walk.QueueWalk.TheVariants as asks
use Rattle.fs_regions.proofs.Steps.{loses, lost_walked}
use Rattle.live_machine.proofs.Queues.{none_some}

-- ---- entries

abbrev came_of : List Load → List (Option (List ℕ))
came_of ls = map (λ (l : Load). l.came) ls

used_next : (size : ℕ) (v : Visit) (l : Load) (ls : List Load) (f : Found) →
    ((a : Ahead) (g : Found) → found_exactly size ls a ≡ Some g → length (loads_by size (came_of ls) a) ≡ length ls) →
    (b c : Bool) → (l.address == entry_address v) ≡ b →
    (if b && c then option_map (after_walk_step (step_by size v l)) (found_exactly size ls (ahead_after size v (step_by size v l)))
    else None) ≡ Some f →
    suc (length (loads_by size (came_of ls) (ahead_after size v (step_by size v (load_at v l.came))))) ≡ suc (length ls)
used_next size v l ls f rest true true is e =
    let x = mapped (after_walk_step (step_by size v l)) (found_exactly size ls (ahead_after size v (step_by size v l))) f e in
    let same : step_by size v (load_at v l.came) ≡ step_by size v l =
    ap (λ (a : ℕ). step_by size v (record { address = a; came = l.came })) (sym (eqb-true l.address (entry_address v) is)) in
    ap (λ (w : WalkStep). suc (length (loads_by size (came_of ls) (ahead_after size v w)))) same
    ∙ ap suc (rest (ahead_after size v (step_by size v l)) x.0 x.1)
used_next size v l ls f rest _ _ is e = absurd (none_some f e)

-- a walk by just its loads uses each
used_all : (size : ℕ) (ls : List Load) (a : Ahead) (f : Found) → found_exactly size ls a ≡ Some f →
    length (loads_by size (came_of ls) a) ≡ length ls
unfolding found_exactly loads_by
used_all size [] a f e = refl
used_all size (l ∷ ls) (Ends g) f e = absurd (none_some f e)
used_all size (l ∷ ls) (Reads v) f e = used_next size v l ls f (used_all size ls) (l.address == entry_address v) (is_whole 16 l.came) refl e

few_used : (q : Queue) (head : ℕ) (ls : List Load) (f : Found) → chain_exactly ls q head ≡ Some f → length ls ≤ q.size + 2
few_used q head ls f e =
    subst (λ (n : ℕ). n ≤ q.size + 2) (used_all q.size ls (ahead_at q.size (first_visit q head)) f e) (few_loads q head (came_of ls))

-- ---- where a walk stands

-- the entry that is asked for is in its table
abbrev pub IsInside : QueueWalk → Type 0
IsInside (asks.Entries w) = (visit_of w.walk).index < (visit_of w.walk).table.entries
IsInside _ = Unit {0}

pub inside_of : (m : Memory) (q : Queue) (ds : List Descriptor) (walk : QueueWalk) → IsLongestStretch m q ds walk → IsInside walk
inside_of m q ds (asks.Entries w) longest = let fits = longest.0.1 in let some = w.some in omega (arith, fits, some)
inside_of m q ds _ longest = tt

-- there is room for the load that is asked for
few_before : (q : Queue) (head : ℕ) (ls more : List Load) (f : Found) (ds : List Descriptor) (v : Visit)
    → Brings q.size ls (ahead_at q.size (first_visit q head)) ds (Reads v)
    → chain_exactly (ls ++ more) q head ≡ Some f → suc (length ls) ≤ q.size + 2
unfolding found_exactly
few_before q head ls [] f ds v brings is = absurd (none_some f (sym (brings []) ∙ is))
few_before q head ls (l ∷ more) f ds v brings is =
    let sum = length-append ls (l ∷ more) in let few = few_used q head (ls ++ l ∷ more) f is in omega (arith, few, sum)

-- how many loads brought it there
abbrev pub one : Option (List ℕ) → ℕ
one None = 0
one (Some bs) = 1

abbrev pub made : Loaded → ℕ
made l = one l.index + one l.entry + length l.entries

at_most_one : (x : Option (List ℕ)) → one x ≤ 1
at_most_one None = omega arith
at_most_one (Some bs) = omega arith

pub room_for_one : (m : Memory) (q : Queue) (loaded : Loaded) (ds : List Descriptor) (walk : QueueWalk) → IsInside walk →
    IsWalkAt m q loaded ds walk → suc (made loaded) ≤ q.size + 4
room_for_one m q loaded ds (asks.Index w) inside stands =
    let none : made loaded ≡ 0 = ap (λ (l : Loaded). made l) stands.1 in omega (arith, none)
room_for_one m q loaded ds (asks.RingEntry w) inside stands =
    let index = at_most_one loaded.index in
    let entry : one loaded.entry ≡ 0 = ap one stands.3 in
    let none : length loaded.entries ≡ 0 = ap (λ (ls : List Load). length ls) stands.4 in
    omega (arith, index, entry, none)
room_for_one m q loaded ds (asks.Entries w) inside stands =
    let v = visit_of w.walk in
    let finds = loses (memory_with (entry_address v) None) q loaded w.head ds v (lost_walked v.table.indirect) inside
    (reach_none (entry_address v) 15) refl stands.2 in
    let few = few_before q w.head loaded.entries finds.0 _ ds v stands.2 finds.2 in
    let index = at_most_one loaded.index in
    let entry = at_most_one loaded.entry in
    omega (arith, few, index, entry)

pub made_more : (m : Memory) (q : Queue) (loaded after : Loaded) (ds : List Descriptor) (walk : QueueWalk) (bs : List ℕ)
    (came : comes.CourseStep) → IsWalkAt m q loaded ds walk →
    AddsBytes walk bs came loaded after → suc (made loaded) ≤ made after
made_more m q loaded after ds (asks.Index w) bs came stands adds =
    let none : made loaded ≡ 0 = ap (λ (l : Loaded). made l) stands.1 in
    let now : made after ≡ 1 + one loaded.entry + length loaded.entries = ap (λ (l : Loaded). made l) adds in
    omega (arith, none, now)
made_more m q loaded after ds (asks.RingEntry w) bs came stands adds =
    let none : one loaded.entry ≡ 0 = ap one stands.3 in
    let now : made after ≡ one loaded.index + 1 + length loaded.entries = ap (λ (l : Loaded). made l) adds in
    omega (arith, none, now)
made_more m q loaded after ds (asks.Entries w) bs came stands adds =
    let reads : length adds.reads ≡ suc (length adds.read_out.first.1) = ap (λ (ls : List Load). length ls) adds.read_out.first.2 in
    let now : made after ≡ one loaded.index + one loaded.entry + length (loaded.entries ++ adds.reads) =
    ap (λ (l : Loaded). made l) adds.added in
    let sum = length-append loaded.entries adds.reads in
    omega (arith, reads, now, sum)
