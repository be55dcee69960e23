-- one load after another
use Rattle.std.proofs.Common.{◌≡◌, ℕ, Bool, true, false, ◌+◌, ◌<◌, ◌≤◌, ◌⊎◌, inl, inr, arith, length, length-append, leb-true, leb-false}
use Rattle.std.proofs.Common.{nat_le, subst, Result, Ok}
use Rattle.std.proofs.Common.{Err, List, [], ◌∷◌, ◌++◌, Option, Some, None, refl, ap, sym, ◌∙◌, append_assoc, append-nil}
use Rattle.std.specs.Prelude.{if◌then◌else◌, option_map, IfOk, OnErr}
use Rattle.std.specs.declared.alloc.AllocError.{AllocError}
use Rattle.fs_queue.specs.Windows.{IsLongChain}
use Rattle.std.proofs.lemmas.Bool.{eq-eqb}
use Rattle.vm_iotlb.specs.declared.permissions.Permissions.TheVariants.{Read}
use Rattle.vm_memory.specs.Memory.{Memory, bytes, reach}
use Rattle.fs_queue.specs.declared.chain_walk.ChainWalk.{ChainWalk}
use Rattle.fs_queue.specs.declared.chain_walk.WalkEnd as walked
use Rattle.fs_queue.specs.declared.chain_walk.WalkEnd.TheVariants as comes_to
use Rattle.fs_queue.specs.declared.chain_walk.Progress as code
use Rattle.fs_queue.specs.declared.chain_walk.Progress.TheVariants as shows
use Rattle.fs_queue.specs.Queue.{Queue}
use Rattle.fs_queue.specs.Chain.{Descriptor, Visit, WalkStep, Ordinary, Indirect, Faulty, Stops, after_walk_step, with_front, Found}
use Rattle.fs_queue.specs.Chain.{IsChain}
use Rattle.fs_queue.specs.Chain.{HasFault, StopsQueue, chain, first_visit}
use Rattle.fs_queue.specs.WalkingView.{found_of}
use Rattle.fs_queue.specs.Chain.{entry_address}
use Rattle.fs_queue.specs.Loads.{Load, Ahead, Reads, Ends, step_by, ahead_at, ahead_after, found_by, IsEntryOf, AreEntriesOf}
use Rattle.fs_queue.specs.SteppingView.{joining, visit_of, load_of, steps_left, IfWants}
use Rattle.fs_queue.proofs.WalkLemmas.{prepend, prepend-push, prepend-chain, prepend-fault, prepend-stop}
use Rattle.fs_queue.proofs.StillLemmas.{ended, still}

-- the chain so far, with the descriptor that joins it
abbrev pub with_joining : List Descriptor → Option Descriptor → List Descriptor
with_joining ds None = ds
with_joining ds (Some d) = ds ++ d ∷ []

pushed : (ds : List Descriptor) (d : Descriptor) (o : Option Found) →
    option_map (prepend (ds ++ d ∷ [])) o ≡ option_map (prepend ds) (option_map (with_front d) o)
pushed ds d None = refl
pushed ds d (Some f) = ap Some (prepend-push ds d f)

alone : (ds : List Descriptor) (o : Option Found) → option_map (prepend ds) o ≡ option_map (prepend ds) (option_map (λ f. f) o)
alone ds None = refl
alone ds (Some f) = refl

by_step : (size : ℕ) (v : Visit) (w : WalkStep) (ls : List Load) (ds : List Descriptor) →
    option_map (prepend (with_joining ds (joining w))) (found_by size ls (ahead_after size v w))
    ≡ option_map (prepend ds) (option_map (after_walk_step w) (found_by size ls (ahead_after size v w)))
by_step size v (Ordinary d) ls ds = pushed ds d _
by_step size v (Indirect t) ls ds = alone ds _
by_step size v (Faulty f) ls ds = rw (ended size ls (HasFault f)) refl
by_step size v Stops ls ds = rw (ended size ls StopsQueue) refl

-- what is found by a load and those after it, by what came of the load
given : (size : ℕ) (v : Visit) (l : Load) (ls : List Load) (ds : List Descriptor) (joins : Option Descriptor) (a : Ahead) →
    l.address ≡ entry_address v →
    joins ≡ joining (step_by size v l) → a ≡ ahead_after size v (step_by size v l) →
    option_map (prepend (with_joining ds joins)) (found_by size ls a) ≡ option_map (prepend ds) (found_by size (l ∷ ls) (Reads v))
unfolding found_by
given size v l ls ds joins a at joins-is a-is =
    let w = step_by size v l in
    ap (λ (o : Option Descriptor). option_map (prepend (with_joining ds o)) (found_by size ls a)) joins-is
    ∙ ap (λ (x : Ahead). option_map (prepend (with_joining ds (joining w))) (found_by size ls x)) a-is
    ∙ by_step size v w ls ds
    ∙ ap (λ (b : Bool). option_map (prepend ds) (if b then option_map (after_walk_step w) (found_by size ls (ahead_after size v w))
    else None)) (sym (eq-eqb l.address (entry_address v) at))

-- some loads found what a memory has, and they brought a walk so far
pub record Came (m : Memory) (size : ℕ) (start : Ahead) (ds : List Descriptor) (a : Ahead) : Type 0 where
  pub loads : List Load
  pub are : AreEntriesOf m loads
  pub so_far : (more : List Load) → found_by size (loads ++ more) start ≡ option_map (prepend ds) (found_by size more a)

same : (o : Option Found) → o ≡ option_map (prepend []) o
same None = refl
same (Some f) = refl

pub came_none : (m : Memory) (size : ℕ) (a : Ahead) → Came m size a [] a
came_none m size a = record { loads = []; are = tt; so_far = λ more. same (found_by size more a) }

entries-push : (m : Memory) (ls : List Load) (l : Load) → AreEntriesOf m ls → IsEntryOf m l → AreEntriesOf m (ls ++ l ∷ [])
entries-push m [] l are is = (is, tt)
entries-push m (k ∷ ls) l are is = (are.0, entries-push m ls l are.1 is)

pub came_on : (m : Memory) (size : ℕ) (start : Ahead) (ds : List Descriptor) (v : Visit) (l : Load) (joins : Option Descriptor)
    (a : Ahead) → l.address ≡ entry_address v → IsEntryOf m l →
    joins ≡ joining (step_by size v l) → a ≡ ahead_after size v (step_by size v l) → Came m size start ds (Reads v) →
    Came m size start (with_joining ds joins) a
came_on m size start ds v l joins a at is joins-is a-is c = record {
  loads = c.loads ++ l ∷ [];
  are = entries-push m c.loads l c.are is;
  so_far = λ more. ap (λ (ls : List Load). found_by size ls start) (append_assoc c.loads (l ∷ []) more) ∙ c.so_far (l ∷ more)
      ∙ sym (given size v l more ds joins a at joins-is a-is);
}

prepended : (w : walked.WalkEnd) (ds : List Descriptor) → prepend ds (found_of w []) ≡ found_of w ds
prepended comes_to.Chain ds = prepend-chain ds [] ∙ ap IsChain (append-nil ds)
prepended (comes_to.Faulty fault) ds = prepend-fault ds fault
prepended comes_to.Stopped ds = prepend-stop ds

ended_by : (size : ℕ) (ls : List Load) (w : walked.WalkEnd) (ds : List Descriptor) →
    Some (found_of w ds) ≡ option_map (prepend ds) (found_by size ls (Ends (found_of w [])))
ended_by size ls w ds = ap Some (sym (prepended w ds)) ∙ sym (ap (option_map (prepend ds)) (ended size ls (found_of w [])))

-- a walk that ended found what the memory has
pub came_end : (m : Memory) (q : Queue) (head : ℕ) (ds : List Descriptor) (w : walked.WalkEnd) →
    Came m q.size (ahead_at q.size (first_visit q head)) ds
    (Ends (found_of w [])) → found_of w ds ≡ chain m q head
came_end m q head ds w c =
    still m q head c.loads (found_of w ds) c.are
    (ap (λ (ls : List Load). found_by q.size ls (ahead_at q.size (first_visit q head))) (sym (append-nil c.loads)) ∙ c.so_far []
    ∙ sym (ended_by q.size [] w ds))

pub came_begin : (m : Memory) (size : ℕ) (start a : Ahead) → a ≡ start → Came m size start [] a
came_begin m size start a is = rw is (came_none m size start)

-- by what the code answers
pub came_given : (m : Memory) (size : ℕ) (start : Ahead) (ds : List Descriptor) (w : ChainWalk) (at : ℕ) (came : Option (List ℕ))
    (joins : Option Descriptor) (a : Ahead) → w.size ≡ size →
    at ≡ entry_address (visit_of w) → came ≡ (if reach m Read at 16 then Some (bytes m at 16) else None) →
    joins ≡ joining (step_by w.size (visit_of w) (load_of w came)) →
    a ≡ ahead_after w.size (visit_of w) (step_by w.size (visit_of w) (load_of w came)) → Came m size start ds (Reads (visit_of w)) →
    Came m size start (with_joining ds joins) a
came_given m size start ds w at came joins a own at-is is joins-is a-is c =
    came_on m size start ds (visit_of w) (load_of w came) joins a refl (rw at-is at is) (rw own at joins-is) (rw own at a-is) c

pub wants_size : (p : code.Progress) (a b : ℕ) → a ≡ b → IfWants p (λ w. w.size ≡ a) → IfWants p (λ w. w.size ≡ b)
wants_size (shows.Wants w) a b e h = h ∙ e
wants_size (shows.Ends walked) a b e h = tt

-- the descriptors that joined are those of a list, if it kept them, and else more than it had room for
pub record KeptOf (room : ℕ) (kept : Bool) (items joined : List Descriptor) : Type 0 where
  pub same : kept ≡ true → joined ≡ items
  pub long : kept ≡ false → room < length joined

grows : (ds : List Descriptor) (o : Option Descriptor) → length ds ≤ length (with_joining ds o)
grows ds None = omega arith
grows ds (Some d) = omega (arith, length-append ds (d ∷ []))

stays_long : (room : ℕ) (kept : Bool) (joined items : List Descriptor) (joins : Option Descriptor)
    → KeptOf room kept items joined →
    (kept ≡ false) ⊎ (room < length (with_joining items joins)) →
    room < length (with_joining joined joins)
stays_long room true joined items joins k (inl e) = absurd (cc)
stays_long room true joined items joins k (inr more) = rw (k.same refl) more
stays_long room false joined items joins k either = let l = k.long refl in let g = grows joined joins in omega (arith, l, g)

-- a list that takes no more has as many as it has room for
pub by_room : (items : List Descriptor) (d : Descriptor) (capacity room : ℕ) → (length items + 1 ≤ capacity → false ≡ true) →
    room ≤ capacity → room < length (items ++ d ∷ [])
by_room items d capacity room full there =
    elim (nat_le (length items + 1) capacity) as (λ b. nat_le (length items + 1) capacity ≡ b → room < length (items ++ d ∷ [])) [
      | true ↦ λ e. let no = full (leb-true (length items + 1) capacity e) in absurd (cc)
      | false ↦ λ e. omega (arith, length-append items (d ∷ []), leb-false (length items + 1) capacity e, there)
    ] refl

-- one more descriptor, if one joins
kept_joining : (room : ℕ) (kept kept' : Bool) (items items' joined : List Descriptor) (joins : Option Descriptor) →
    (kept' ≡ true → (kept ≡ true) × (items' ≡ with_joining items joins)) →
    (kept' ≡ false → (kept ≡ false) ⊎ (room < length (with_joining items joins))) → KeptOf room kept items joined →
    KeptOf room kept' items' (with_joining joined joins)
kept_joining room kept kept' items items' joined joins keeps loses k = record {
  same = λ t. let s = keeps t in ap (λ (ds : List Descriptor). with_joining ds joins) (k.same s.0) ∙ sym s.1;
  long = λ f. stays_long room kept joined items joins k (loses f);
}

pub kept_none : (room : ℕ) → KeptOf room true [] []
kept_none room = record { same = λ _. refl; long = λ e. absurd (cc) }

-- some loads brought a walk so far, and its descriptors are these, if they were kept
abbrev pub CameKept : Memory → (size : ℕ) → (start : Ahead) → (room : ℕ) → (kept : Bool) → (items : List Descriptor) → Ahead
    → Type 0
CameKept m size start room kept items a =
    (joined : List Descriptor) × KeptOf room kept items joined × Came m size start joined a

pub came_kept :
    (m : Memory) (size : ℕ) (start : Ahead) (room : ℕ) (kept kept' : Bool) (items items' : List Descriptor) (w : ChainWalk)
    (at : ℕ)
    (came : Option (List ℕ)) (joins : Option Descriptor) (a : Ahead) →
    w.size ≡ size → at ≡ entry_address (visit_of w) → came ≡ (if reach m Read at 16 then Some (bytes m at 16) else None) →
    joins ≡ joining (step_by w.size (visit_of w) (load_of w came)) →
    a ≡ ahead_after w.size (visit_of w) (step_by w.size (visit_of w) (load_of w came)) →
    (kept' ≡ true → (kept ≡ true) × (items' ≡ with_joining items joins)) →
    (kept' ≡ false → (kept ≡ false) ⊎ (room < length (with_joining items joins))) →
    CameKept m size start room kept items (Reads (visit_of w)) → CameKept m size start room kept' items' a
came_kept m size start room kept kept' items items' w at came joins a own at-is is joins-is a-is keeps loses c = (
  with_joining c.0 joins,
  kept_joining room kept kept' items items' c.0 joins keeps loses c.1,
  came_given m size start c.0 w at came joins a own at-is is joins-is a-is c.2,
)

-- what a walk came to, by the descriptors that joined it
pub kept_found : (room : ℕ) (kept : Bool) (items joined : List Descriptor) (w : walked.WalkEnd)
    → (w ≡ comes_to.Chain → kept ≡ true) →
    KeptOf room kept items joined →
    found_of w items ≡ found_of w joined
kept_found room kept items joined comes_to.Chain k c = ap IsChain (sym (c.same (k refl)))
kept_found room kept items joined (comes_to.Faulty fault) k c = refl
kept_found room kept items joined comes_to.Stopped k c = refl

pub lost_found : (room : ℕ) (kept : Bool) (items joined : List Descriptor) (w : walked.WalkEnd) → w ≡ comes_to.Chain
    → kept ≡ false →
    KeptOf room kept items joined →
    IsLongChain room (found_of w joined)
lost_found room kept items joined comes_to.Chain is lost c = (joined, refl, c.long lost)
lost_found room kept items joined (comes_to.Faulty fault) is lost c = absurd (cc)
lost_found room kept items joined comes_to.Stopped is lost c = absurd (cc)

-- what a walk answers that ended so
pub answered_end : (m : Memory) (q : Queue) (head room : ℕ) (kept : Bool) (items : List Descriptor) (w : walked.WalkEnd)
    (r : Result walked.WalkEnd AllocError) →
    IfOk r (λ x. (x ≡ w) × (w ≡ comes_to.Chain → kept ≡ true)) →
    CameKept m q.size (ahead_at q.size (first_visit q head)) room kept items (Ends (found_of w [])) →
    IfOk r (λ x. found_of x items ≡ chain m q head)
answered_end m q head room kept items w (Ok x) is c =
    ap (λ (y : walked.WalkEnd). found_of y items) is.0 ∙ kept_found room kept items c.0 w is.1 c.1 ∙ came_end m q head
    c.0 w c.2
answered_end m q head room kept items w (Err e) is c = tt

pub failed_end : (m : Memory) (q : Queue) (head room : ℕ) (kept : Bool) (items : List Descriptor) (w : walked.WalkEnd)
    (r : Result walked.WalkEnd AllocError) →
    OnErr r ((w ≡ comes_to.Chain) × (kept ≡ false)) →
    CameKept m q.size (ahead_at q.size (first_visit q head)) room kept items (Ends (found_of w [])) →
    OnErr r (IsLongChain room (chain m q head))
failed_end m q head room kept items w (Ok x) lost c = tt
failed_end m q head room kept items w (Err e) lost c =
    subst (IsLongChain room) (came_end m q head c.0 w c.2) (lost_found room kept items c.0 w lost.0 lost.1 c.1)

-- how many loads a walk may still ask for
abbrev pub loads_left : code.Progress → ℕ
loads_left (shows.Wants w) = steps_left w.size (visit_of w) + 1
loads_left (shows.Ends walked) = 0
