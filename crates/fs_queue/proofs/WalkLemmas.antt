-- what stands before what a walk finds, and its first step
use Rattle.std.proofs.Common.{◌≡◌, ℕ, Bool, true, false, ◌++◌, List, [], ◌∷◌, refl, ap, sym, suc}
use Rattle.vm_memory.specs.Memory.{Memory}
use Rattle.fs_queue.specs.declared.fault.ChainFault.{ChainFault}
use Rattle.fs_queue.specs.Chain.{Descriptor, Visit, WalkStep, walk_step, next_visit, onward, path, with_front, after_walk_step, Found}
use Rattle.fs_queue.specs.Chain.{IsChain, HasFault, StopsQueue, found}

-- how many steps a walk may still have for other than ordinary descriptors: the one that ends it, and one that names a table
abbrev pub tables_left : Bool → ℕ
tables_left true = 1
tables_left false = 2

-- descriptors that stand before those of a chain
abbrev pub prepend : List Descriptor → Found → Found
prepend [] f = f
prepend (d ∷ ds) f = with_front d (prepend ds f)

pub prepend-push : (ds : List Descriptor) (d : Descriptor) (f : Found) → prepend (ds ++ d ∷ []) f ≡ prepend ds (with_front d f)
prepend-push [] d f = refl
prepend-push (e ∷ ds) d f = ap (with_front e) (prepend-push ds d f)

pub prepend-chain : (ds es : List Descriptor) → prepend ds (IsChain es) ≡ IsChain (ds ++ es)
prepend-chain [] es = refl
prepend-chain (d ∷ ds) es = ap (with_front d) (prepend-chain ds es)

pub prepend-fault : (ds : List Descriptor) (fault : ChainFault) → prepend ds (HasFault fault) ≡ HasFault fault
prepend-fault [] fault = refl
prepend-fault (d ∷ ds) fault = ap (with_front d) (prepend-fault ds fault)

pub prepend-stop : (ds : List Descriptor) → prepend ds StopsQueue ≡ StopsQueue
prepend-stop [] = refl
prepend-stop (d ∷ ds) = ap (with_front d) (prepend-stop ds)

-- the first step of a path
pub found_step : (m : Memory) (size n : ℕ) (v : Visit) (w : WalkStep) → w ≡ walk_step m size v →
    found m size (path m size (suc n) v) ≡ after_walk_step w (found m size (onward (path m size n) (next_visit v w)))
unfolding found path
found_step m size n v w e = ap (λ (x : WalkStep). after_walk_step x (found m size (onward (path m size n) (next_visit v x)))) (sym e)
