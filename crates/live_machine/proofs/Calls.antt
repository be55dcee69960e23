-- The calls of a run.
use Rattle.std.proofs.Common.{◌≡◌, ℕ, List, [], ◌∷◌, subst, sym, ap}
use Rattle.fs_queue.specs.Chain.{Descriptor}
use Rattle.fs_regions.specs.declared.step.CourseStep as comes
use Rattle.fs_regions.specs.declared.step.CourseStep.TheVariants as step
use Rattle.fs_regions.specs.Walks.{Loaded}
use Rattle.fuse_fs.specs.Calls.{FileRun}
use Rattle.server_meanings.specs.Serving.{May}
use Rattle.live_machine.specs.Several.{LiveQueue}
use Rattle.live_machine.specs.Live.{LiveState, LiveEvent, EndsPop, ReceivesAnswer, HasEffect, Happens, EndsPopIn, calls_among}
use Rattle.live_machine.specs.Runs.{CallsAreARun}

walk_files : {F : Type 0} (s after : LiveState F) (i : ℕ) (w : LiveQueue) (loaded : Loaded) (ds : List Descriptor)
    (came : comes.CourseStep) → EndsPopIn s i w loaded ds came after → after.files ≡ s.files
walk_files s after i w loaded ds (step.Load walk) h = absurd h
walk_files s after i w loaded ds (step.Missing range access) h = absurd h
walk_files {F} s after i w loaded ds came h = ap (λ (k : LiveState F). k.files) h.1

one_event : {F : Type 0} (may : May F) (s mid : LiveState F) (end : F) (e : LiveEvent) (es : List LiveEvent) → Happens may s e mid
    → FileRun may mid.files (calls_among es) end
    → FileRun may s.files (calls_among (e ∷ es)) end
one_event {F} may s mid end (EndsPop i loaded ds came) es h run =
    subst (λ (f : F). FileRun may f (calls_among es) end) (walk_files s mid i h.w loaded ds came h.ends) run
one_event {F} may s mid end (ReceivesAnswer c call answer) es h run =
    let is : mid.files ≡ h.files = ap (λ (k : LiveState F). k.files) h.state in
    (mid.files, h.is_one, subst (λ (f : F). may s.files call answer f) (sym is) h.may_so, run)
one_event {F} may s mid end (HasEffect call answer) es h run =
    let is : mid.files ≡ h.files = ap (λ (k : LiveState F). k.files) h.state in
    (mid.files, h.is_one, subst (λ (f : F). may s.files call answer f) (sym is) h.may_so, run)
one_event {F} may s mid end e es h run =
    subst (λ (f : F). FileRun may f (calls_among es) end) (ap (λ (k : LiveState F). k.files) h.state) run

pub calls_are_a_run : {F : Type 0} (may : May F) → CallsAreARun may
calls_are_a_run {F} may s after [] run = ap (λ (k : LiveState F). k.files) run
calls_are_a_run may s after (e ∷ es) run = one_event may s run.0 after.files e es run.1 (calls_are_a_run may run.0 after es run.2)
