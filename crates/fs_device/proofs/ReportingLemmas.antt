-- the file calls of a run
use Rattle.std.proofs.Common.{◌≡◌, ℕ, zero, suc, Bool, true, false, List, [], ◌∷◌, ◌++◌, map, length, Option, Some, None, refl, ap, sym}
use Rattle.std.proofs.Common.{if◌then◌else◌, slice_get, not, IfSome, ◌==◌, ◌∙◌, subst}
use Rattle.std.specs.List.{AllByRecursion, list_any, list_all}
use Rattle.vm_iotlb.specs.declared.permissions.Permissions.TheVariants.{Read, Write}
use Rattle.vm_iotlb.specs.Table.{Table, nothing_mapped}
use Rattle.vm_memory_core.specs.Host.{Block}
use Rattle.vm_memory.specs.Layout.{Region, fits, overlap, is_region}
use Rattle.vm_memory.specs.Memory.{Memory, reach, physical}
use Rattle.fs_queue.specs.declared.fault.QueueError.TheVariants as stop
use Rattle.fs_queue.specs.Queue.{Queue, fresh}
use Rattle.fs_queue.specs.Taking.{Offer, IsRequest, CannotFetch, Offers}
use Rattle.fuse_fs.specs.Calls.{FileCall, FileAnswer, FileRun}
use Rattle.server_segments.specs.declared.error.Error.{Error}
use Rattle.server_meanings.specs.Grammar.{meaning}
use Rattle.server_meanings.specs.Serving.{May, ServedMessage, setting, served}
use Rattle.plain_machine.specs.declared.error.DeviceError.{DeviceError}
use Rattle.plain_machine.specs.declared.error.DeviceError.TheVariants as device
use Rattle.plain_machine.specs.declared.fault.Fault.{Fault}
use Rattle.plain_machine.specs.declared.refusal.Refusal.TheVariants as why
use Rattle.plain_machine.specs.Step.{State, Exchange, Calls, Idle, Refused, Exchanged, Exchanges, StepOf, served_fault, served_exchange}
use Rattle.plain_machine.specs.Run as run
use Rattle.plain_machine.specs.Run.{Turn, Turns, Command, Answer, Effect, KickEnds, KickRun, Kicks, KickAnswer, Affects, ChangesTable}
use Rattle.plain_machine.specs.Run.{HasEffect, Does, IsDecided, Performs}
use Rattle.plain_machine.specs.Run.{RunReported, effect, insert, insert_block, is_known, some_overlap, reset}
use Rattle.fs_device.specs.Reporting.{calls_of, calls_of_all, IsMeant, IsServedBy, IsServed}

-- exchanges that report their calls: these lead from one state of the file system to another
abbrev Reports : {F : Type 0} → May F → F → Turns → F → Type 0
Reports may before turns after = FileRun may before (calls_of turns) after × AllByRecursion IsServed turns

files_joined : {F : Type 0} (may : May F) (a b c : F) (xs ys : Calls) → FileRun may a xs b → FileRun may b ys c → FileRun may a (xs ++ ys) c
files_joined may a b c [] ys front back = subst (λ x. FileRun may x ys c) front back
files_joined may a b c (step ∷ xs) ys (between, suit, made, rest) back = (between, suit, made, files_joined may between b c xs ys rest back)

-- ---- steps

by_fault : (e : Option Error) (t : Turn) → t.exchange.fault ≡ served_fault e → IsMeant t → IsServed t
by_fault None t same is = subst (λ (f : Option Fault). IsServedBy f t) (sym same) is
by_fault (Some e) t same is = subst (λ (f : Option Fault). IsServedBy f t) (sym same) is

abbrev turn : Exchange → Bool → Calls → Turn
turn x notice calls = record { exchange = x; notice = notice; calls = calls }

exchange_reports : {F : Type 0} (may : May F) (s : State F) (i : ℕ) (q : Queue) (o : Offer) (calls : Calls) (x : Exchange) (notice : Bool)
    (after : State F) →
    Exchanges may s i q o calls x notice after → FileRun may s.files calls after.files × IsServed (turn x notice calls)
exchange_reports may s i q (Offers head (CannotFetch fault)) calls x notice after r = (
  subst (λ (l : Calls). FileRun may s.files l after.files) (sym r.no_call) r.files,
  subst (λ (f : Option Fault). IsServedBy f (turn x notice calls)) (sym (ap (λ (e : Exchange). e.fault) r.returns.exchange)) r.no_call,
)
exchange_reports may s i q (Offers head (IsRequest request room)) calls x notice after r =
    let answers = map (λ (step : FileCall × FileAnswer). step.1) calls in
    let set = setting s.page_size s.options (length room) in
    let same_head : x.head ≡ head = ap (λ (e : Exchange). e.head) r.returns.exchange in
    let same : x.request ≡ request = ap (λ (e : Exchange). e.request) r.returns.exchange in
    let own : (served set (meaning s.options x.request (length room)) answers).calls
    ≡ map (λ (step : FileCall × FileAnswer). step.0) calls =
    ap (λ (bytes : List ℕ). (served set (meaning s.options bytes (length room)) answers).calls) same
    ∙ ap (λ (g : ServedMessage). g.calls) (sym r.serves.gives) ∙ r.serves.asks in
    let turns : x ≡ served_exchange head request (served set (meaning s.options request (length room)) answers) =
    r.returns.exchange ∙ ap (λ (g : ServedMessage). served_exchange head request g) r.serves.gives in
    let is : x ≡ served_exchange x.head x.request (served set (meaning s.options x.request (length room)) answers) =
    subst (λ (n : ℕ). x ≡ served_exchange n x.request (served set (meaning s.options x.request (length room)) answers)) (sym same_head)
    (subst (λ (bytes : List ℕ). x ≡ served_exchange head bytes (served set (meaning s.options bytes (length room)) answers))
    (sym same) turns) in
    (r.serves.run, by_fault r.given.fault (turn x notice calls) (ap (λ (e : Exchange). e.fault) r.returns.exchange) (set, own, is))
exchange_reports may s i q _ calls x notice after r = absurd r

step_reports :
    {F : Type 0} (may : May F) (s : State F) (i : ℕ) (o : Option Queue) (calls : Calls) (x : Exchange) (notice : Bool) (after : State F) →
    StepOf may s i o calls (Exchanged x notice) after → FileRun may s.files calls after.files × IsServed (turn x notice calls)
step_reports may s i None calls x notice after t = absurd (cc)
step_reports may s i (Some q) calls x notice after t = exchange_reports may s i q _ calls x notice after t

-- what an idle step, a refusal and the end of a kick don't change: the memory and the files
abbrev pub kept_of : {F : Type 0} → State F → Memory × F
kept_of s = (s.memory, s.files)

idle_leaves : {F : Type 0} (may : May F) (s : State F) (i : ℕ) (o : Option Queue) (calls : Calls) (after : State F) →
    StepOf may s i o calls Idle after → kept_of after ≡ kept_of s
idle_leaves may s i None calls after t = ap kept_of t.1.same
idle_leaves may s i (Some q) calls after t = ap kept_of t.1.same

pub refused_leaves :
    {F : Type 0} (may : May F) (s : State F) (i : ℕ) (o : Option Queue) (calls : Calls) (e : DeviceError) (after : State F) →
    StepOf may s i o calls (Refused e) after → kept_of after ≡ kept_of s
refused_leaves may s i None calls e after t = ap kept_of t.1.same
refused_leaves may s i (Some q) calls device.NoSuchQueue after t = absurd t
refused_leaves may s i (Some q) calls (device.Queue stop.OutOfMemory) after t = ap kept_of t.1.same
refused_leaves may s i (Some q) calls (device.Queue _) after t = ap kept_of t.2

-- ---- kicks

end_leaves : {F : Type 0} (may : May F) (s : State F) (i most : ℕ) (refused : Option DeviceError) (after : State F) →
    KickEnds may s i most refused after → kept_of after ≡ kept_of s
end_leaves may s i zero None after same = ap kept_of same
end_leaves may s i zero (Some e) after t = absurd t
end_leaves may s i (suc most) None after t = idle_leaves may s i (slice_get s.queues i) [] after t
end_leaves may s i (suc most) (Some e) after t = refused_leaves may s i (slice_get s.queues i) [] e after t

-- the files
pub end_stays : {F : Type 0} (may : May F) (s : State F) (i most : ℕ) (refused : Option DeviceError) (after : State F) →
    KickEnds may s i most refused after → after.files ≡ s.files
end_stays may s i most refused after t = ap (λ k. k.1) (end_leaves may s i most refused after t)

-- the memory
pub end_keeps : {F : Type 0} (may : May F) (s : State F) (i most : ℕ) (refused : Option DeviceError) (after : State F) →
    KickEnds may s i most refused after → after.memory ≡ s.memory
end_keeps may s i most refused after t = ap (λ k. k.0) (end_leaves may s i most refused after t)

kick_reports : {F : Type 0} (may : May F) (s : State F) (i most : ℕ) (turns : Turns) (refused : Option DeviceError) (after : State F) →
    KickRun may s i most turns refused after → Reports may s.files turns after.files
unfolding KickRun
kick_reports may s i most [] refused after t = (end_stays may s i most refused after t, tt)
kick_reports may s i zero (x ∷ turns) refused after t = absurd t
kick_reports may s i (suc most) (x ∷ turns) refused after (mid, step, rest) =
    let own = step_reports may s i (slice_get s.queues i) x.calls x.exchange x.notice mid step in
    let others = kick_reports may mid i most turns refused after rest in
    (files_joined may s.files mid.files after.files x.calls (calls_of turns) own.0 others.0, (own.1, others.1))

kicks_tell : {F : Type 0} (may : May F) (s : State F) (i most : ℕ) (o : Option Queue) (turns : Turns) (k : KickAnswer) (after : State F)
    → Kicks may s i most o turns k after →
    Reports may s.files turns after.files
kicks_tell may s i most None turns k after t =
    subst (λ (l : Turns). Reports may s.files l after.files) (sym t.1) (ap (λ s. s.files) t.0, tt)
kicks_tell may s i most (Some q) turns k after t = kick_reports may s i most turns k.refused after t.0

-- ---- the other commands ask nothing

whichever : {F : Type 0} (s : State F) (b : Bool) (x y : Effect F) → x.1.files ≡ s.files → y.1.files ≡ s.files →
    (if b then x else y).1.files ≡ s.files
whichever s true x y p q = p
whichever s false x y p q = q

insert_stays : {F : Type 0} (s : State F) (r : Region) → (insert s r).1.files ≡ s.files
insert_stays s r = whichever s (not (fits r)) _ _ refl (whichever s (list_any (overlap r) s.memory.layout) _ _ refl refl)

block_stays : {F : Type 0} (s : State F) (base block : ℕ) (o : Option Block) → (insert_block s base block o).1.files ≡ s.files
block_stays s base block None = refl
block_stays s base block (Some b) = insert_stays s _

reset_stays : {F : Type 0} (s : State F) (i : ℕ) (anew : Queue) (o : Option Queue) → (reset s i anew o).1.files ≡ s.files
reset_stays s i anew None = refl
reset_stays s i anew (Some q) = refl

effect_stays : {F : Type 0} (s : State F) (command : Command) → IfSome (effect s command) (λ e. e.1.files ≡ s.files)
unfolding effect
effect_stays s (run.GuestRead a n) = whichever s (reach (physical s.memory) Read a n) _ _ refl refl
effect_stays s (run.GuestWrite a bs) = whichever s (reach (physical s.memory) Write a (length bs)) _ _ refl refl
effect_stays s (run.NewBlock n) = whichever s (n == 0) _ _ refl refl
effect_stays s (run.InsertRegion base block) = block_stays s base block _
effect_stays s (run.RemoveRegion base size) = whichever s (list_any (is_region base size) s.memory.layout) _ _ refl refl
effect_stays s (run.SetLayout layout) =
    whichever s (not (list_all (is_known s.memory.host) layout)) _ _ refl
    (whichever s (not (list_all fits layout)) _ _ refl (whichever s (some_overlap layout) _ _ refl refl))
effect_stays s (run.SetIommu on) = refl
effect_stays s (run.ResetQueue queue size desc avail used) = reset_stays s queue (fresh size desc avail used) _
effect_stays s run.Image = refl
effect_stays s run.Harvest = refl
effect_stays s _ = tt

change_stays : {F : Type 0} (s : State F) (fit : Bool) (table : Table) (answer : Answer) (after : State F) →
    ChangesTable s fit table answer after → after.files ≡ s.files
change_stays s true table answer after t = ap (λ s. s.files) t.1.3
change_stays {F} s false table answer after t = ap (λ (p : Effect F). p.1.files) t

decided_stays : {F : Type 0} (s : State F) (o : Option (Effect F)) (answer : Answer) (after : State F) →
    IfSome o (λ e. e.1.files ≡ s.files) → IsDecided o answer after → after.files ≡ s.files
decided_stays s None answer after stays t = absurd t
decided_stays {F} s (Some e) answer after stays t = ap (λ (p : Effect F). p.1.files) t ∙ stays

by_effect : {F : Type 0} (s : State F) (command : Command) (answer : Answer) (after : State F) → IsDecided (effect s command) answer after →
    after.files ≡ s.files
by_effect s command answer after t = decided_stays s (effect s command) answer after (effect_stays s command) t

affect_stays : {F : Type 0} (s : State F) (command : Command) (answer : Answer) (after : State F) → Affects s command answer after →
    after.files ≡ s.files
affect_stays s (run.Map iova target n perm) answer after t = change_stays s _ _ answer after t
affect_stays s (run.Unmap iova n) answer after t = change_stays s _ _ answer after t
affect_stays s run.UnmapAll answer after t = change_stays s true nothing_mapped answer after t
affect_stays s (run.Kick queue most) answer after t = absurd t
affect_stays s command answer after t = by_effect s command answer after t

effect_reports : {F : Type 0} (may : May F) (s : State F) (command : Command) (turns : Turns) (answer : Answer) (after : State F) →
    HasEffect s command turns answer after →
    Reports may s.files turns after.files
effect_reports may s command [] answer after t = (affect_stays s command answer after t, tt)
effect_reports may s command (x ∷ turns) answer after t = absurd t

-- ---- runs

does_tell : {F : Type 0} (may : May F) (s : State F) (command : Command) (turns : Turns) (answer : Answer) (after : State F) →
    Does may s command turns answer after → Reports may s.files turns after.files
does_tell may s (run.Kick i most) turns (run.Served k) after t = kicks_tell may s i most (slice_get s.queues i) turns k after t
does_tell may s (run.Kick i most) turns _ after t = absurd t
does_tell may s command turns answer after t = effect_reports may s command turns answer after t

performs_tell : {F : Type 0} (may : May F) (s : State F) (command : Command) (turns : Turns) (answer : Answer) (after : State F) →
    Performs may s command turns answer after → Reports may s.files turns after.files
performs_tell may s command [] (run.IsRefused why.OutOfMemory) after t = (ap (λ s. s.files) t.1, tt)
performs_tell may s command (x ∷ turns) (run.IsRefused why.OutOfMemory) after t = absurd t
performs_tell may s command turns _ after t = does_tell may s command turns _ after t

-- a run reports its calls
pub run_reports : {F : Type 0} (may : May F) (s : State F) (events : List (Command × Answer)) (all_turns : List Turns) (after : State F)
    → RunReported may s events all_turns after →
    FileRun may s.files (calls_of_all all_turns) after.files × AllByRecursion (AllByRecursion IsServed) all_turns
unfolding RunReported
run_reports may s [] [] after t = (ap (λ s. s.files) t, tt)
run_reports may s (e ∷ es) (turns ∷ all_turns) after (mid, performs, rest) =
    let own = performs_tell may s e.0 turns e.1 mid performs in
    let others = run_reports may mid es all_turns after rest in
    (files_joined may s.files mid.files after.files (calls_of turns) (calls_of_all all_turns) own.0 others.0, (own.1, others.1))
run_reports may s _ _ after t = absurd t
