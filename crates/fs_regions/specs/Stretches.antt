-- How a walk reads the bytes of a stretch of a table (VIRTIO 1.2, 2.7.5 and 2.7.5.3).
use Rattle.std.specs.Prelude.{◌≡◌, ◌⊎◌, ℕ, ◌*◌, false, List, ◌++◌, length}
use Rattle.fs_queue.specs.declared.chain_walk.ChainWalk.{ChainWalk}
use Rattle.fs_queue.specs.declared.chain_walk.Progress as code
use Rattle.fs_queue.specs.declared.chain_walk.Progress.TheVariants as shows
use Rattle.fs_queue.specs.Chain.{Descriptor, entry_address}
use Rattle.fs_queue.specs.Loads.{Load, Ahead, Reads}
use Rattle.fs_queue.specs.SteppingView.{ahead_of, visit_of, IfWants}
use Rattle.fs_regions.specs.declared.step.CourseStep as comes
use Rattle.fs_regions.specs.declared.step.CourseStep.TheVariants as step
use Rattle.fs_regions.specs.Walks.{asked_by, is_in, Brings, ReadOutOf}

-- a walk reads some entries from a stretch, and these descriptors join the chain. It needs another
-- entry afterwards only if that entry isn't in the stretch, or it read as many as the stretch has. It
-- counts the descriptors that join
pub record ReadsStretch (walk : ChainWalk) (bs : List ℕ) (old new : List Descriptor) (after : code.Progress) :
    Type 0 where
  pub reads : List Load
  pub read_out : ReadOutOf (entry_address (visit_of walk)) bs reads
  pub brings : (ls : List Load) (start : Ahead) →
      Brings walk.size ls start old (Reads (visit_of walk)) →
      Brings walk.size (ls ++ reads) start new (ahead_of after)
  pub size : IfWants after (λ w. w.size ≡ walk.size)
  pub uses_up : IfWants after
      (λ w. (is_in (entry_address (visit_of walk)) (length bs) (entry_address (visit_of w)) ≡ false)
      ⊎ (16 * length reads ≡ length bs))
  pub counts : walk.earlier ≡ length old → IfWants after (λ w. w.earlier ≡ length new)

-- a walk asks for a load only if it needs an entry, and the load begins at that entry
abbrev pub AsksFor : code.Progress → comes.CourseStep → Type 0
AsksFor (shows.Wants w) (step.Load next) = asked_by next ≡ entry_address (visit_of w)
AsksFor (shows.Ends walked) (step.Load next) = ⊥
AsksFor _ _ = Unit {0}
