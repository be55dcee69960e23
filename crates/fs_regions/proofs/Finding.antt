-- what a walk finds by one load more
use Rattle.std.proofs.Common.{◌≡◌, ℕ, Bool, true, List, [], ◌∷◌, ◌++◌, Option, Some, None, refl, ap, sym, ◌∙◌, append_assoc, append-nil}
use Rattle.std.specs.Prelude.{if◌then◌else◌, option_map, ◌&&◌}
use Rattle.std.proofs.lemmas.Bool.{eq-eqb}
use Rattle.fs_queue.specs.declared.chain_walk.WalkEnd as walked
use Rattle.fs_queue.specs.declared.chain_walk.WalkEnd.TheVariants as comes_to
use Rattle.fs_queue.specs.declared.fault.ChainFault.{ChainFault}
use Rattle.fs_queue.specs.Chain.{Descriptor, Visit, WalkStep, Ordinary, Indirect, Faulty, Stops, after_walk_step, with_front, Found}
use Rattle.fs_queue.specs.Chain.{IsChain}
use Rattle.fs_queue.specs.Chain.{HasFault, StopsQueue, entry_address}
use Rattle.fs_queue.specs.WalkingView.{found_of}
use Rattle.fs_queue.specs.Loads.{Load, Ahead, Reads, Ends, step_by, ahead_after, found_exactly, is_whole}
use Rattle.fs_queue.specs.SteppingView.{joining}
use Rattle.fs_regions.specs.Walks.{standing_before, Brings}

-- the chain so far, with the descriptor that joins it
abbrev pub with_joining : List Descriptor → Option Descriptor → List Descriptor
with_joining ds None = ds
with_joining ds (Some d) = ds ++ d ∷ []

before-push : (ds : List Descriptor) (d : Descriptor) (f : Found) → standing_before (ds ++ d ∷ []) f ≡ standing_before ds (with_front d f)
before-push [] d f = refl
before-push (e ∷ ds) d f = ap (with_front e) (before-push ds d f)

before-chain : (ds es : List Descriptor) → standing_before ds (IsChain es) ≡ IsChain (ds ++ es)
before-chain [] es = refl
before-chain (d ∷ ds) es = ap (with_front d) (before-chain ds es)

before-fault : (ds : List Descriptor) (fault : ChainFault) → standing_before ds (HasFault fault) ≡ HasFault fault
before-fault [] fault = refl
before-fault (d ∷ ds) fault = ap (with_front d) (before-fault ds fault)

before-stop : (ds : List Descriptor) → standing_before ds StopsQueue ≡ StopsQueue
before-stop [] = refl
before-stop (d ∷ ds) = ap (with_front d) (before-stop ds)

pushed : (ds : List Descriptor) (d : Descriptor) (o : Option Found) →
    option_map (standing_before (ds ++ d ∷ [])) o ≡ option_map (standing_before ds) (option_map (with_front d) o)
pushed ds d None = refl
pushed ds d (Some f) = ap Some (before-push ds d f)

alone :
    (ds : List Descriptor) (o : Option Found) → option_map (standing_before ds) o ≡ option_map (standing_before ds) (option_map (λ f. f) o)
alone ds None = refl
alone ds (Some f) = refl

-- a walk that has ended asks for nothing
ended_alone : (size : ℕ) (ls : List Load) (f : Found) (g : Found → Found) → g f ≡ f →
    found_exactly size ls (Ends f) ≡ option_map g (found_exactly size ls (Ends f))
unfolding found_exactly
ended_alone size [] f g same = ap Some (sym same)
ended_alone size (l ∷ ls) f g same = refl

by_step : (size : ℕ) (v : Visit) (w : WalkStep) (ls : List Load) (ds : List Descriptor) →
    option_map (standing_before (with_joining ds (joining w))) (found_exactly size ls (ahead_after size v w))
    ≡ option_map (standing_before ds)
    (option_map (after_walk_step w) (found_exactly size ls (ahead_after size v w)))
by_step size v (Ordinary d) ls ds = pushed ds d _
by_step size v (Indirect t) ls ds = alone ds _
by_step size v (Faulty f) ls ds = ap (option_map (standing_before ds)) (ended_alone size ls (HasFault f) (λ _. HasFault f) refl)
by_step size v Stops ls ds = ap (option_map (standing_before ds)) (ended_alone size ls StopsQueue (λ _. StopsQueue) refl)

-- what is found by a load and those after it, by what came of the load
given : (size : ℕ) (v : Visit) (l : Load) (ls : List Load) (ds : List Descriptor) (joins : Option Descriptor) (a : Ahead) →
    l.address ≡ entry_address v → is_whole 16 l.came ≡ true →
    joins ≡ joining (step_by size v l) → a ≡ ahead_after size v (step_by size v l) →
    option_map (standing_before ds) (found_exactly size (l ∷ ls) (Reads v))
    ≡ option_map (standing_before (with_joining ds joins)) (found_exactly size ls a)
unfolding found_exactly
given size v l ls ds joins a at whole joins-is a-is =
    let w = step_by size v l in
    ap (λ (b : Bool). option_map (standing_before ds)
    (if b && is_whole 16 l.came then option_map (after_walk_step w) (found_exactly size ls (ahead_after size v w))
    else None)) (eq-eqb l.address (entry_address v) at)
    ∙ ap (λ (b : Bool). option_map (standing_before ds)
    (if b then option_map (after_walk_step w) (found_exactly size ls (ahead_after size v w)) else None)) whole
    ∙ sym (by_step size v w ls ds)
    ∙ sym (ap (λ (x : Ahead). option_map (standing_before (with_joining ds (joining w))) (found_exactly size ls x)) a-is)
    ∙ sym (ap (λ (o : Option Descriptor). option_map (standing_before (with_joining ds o)) (found_exactly size ls a)) joins-is)

same : (o : Option Found) → o ≡ option_map (standing_before []) o
same None = refl
same (Some f) = refl

-- no load brings a walk nowhere
pub brings_none : (size : ℕ) (from to : Ahead) → to ≡ from → Brings size [] from [] to
brings_none size from to is = λ more. ap (found_exactly size more) (sym is) ∙ same (found_exactly size more to)

-- one load more
pub brings_on :
    (size : ℕ) (ls : List Load) (from : Ahead) (ds : List Descriptor) (v : Visit) (l : Load) (joins : Option Descriptor) (a : Ahead) →
    l.address ≡ entry_address v → is_whole 16 l.came ≡ true →
    joins ≡ joining (step_by size v l) → a ≡ ahead_after size v (step_by size v l) → Brings size ls from ds (Reads v) →
    Brings size (ls ++ l ∷ []) from (with_joining ds joins) a
brings_on size ls from ds v l joins a at whole joins-is a-is so_far =
    λ more. ap (λ (x : List Load). found_exactly size x from) (append_assoc ls (l ∷ []) more) ∙ so_far (l ∷ more)
    ∙ given size v l more ds joins a at whole joins-is a-is

pub before : (w : walked.WalkEnd) (ds : List Descriptor) → standing_before ds (found_of w []) ≡ found_of w ds
before comes_to.Chain ds = before-chain ds [] ∙ ap IsChain (append-nil ds)
before (comes_to.Faulty fault) ds = before-fault ds fault
before comes_to.Stopped ds = before-stop ds

-- a walk that has ended found this
pub brings_end :
    (size : ℕ) (ls : List Load) (from : Ahead) (ds : List Descriptor) (w : walked.WalkEnd) → Brings size ls from ds (Ends (found_of w [])) →
    found_exactly size (ls ++ []) from ≡ Some (found_of w ds)
unfolding found_exactly
brings_end size ls from ds w so_far = so_far [] ∙ ap Some (before w ds)
