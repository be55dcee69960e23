-- Each answered call of a chain is one that its request means.
use Rattle.std.proofs.Common.{◌≡◌, ℕ, suc, List, [], ◌∷◌, ◌++◌, length, take, Option, Some, None, refl, subst, sym, ap, ◌∙◌}
use Rattle.std.specs.Prelude.{not, ◌==◌}
use Rattle.std.specs.List.{AllByRecursion}
use Rattle.std.proofs.lemmas.List.{map-append}
use Rattle.fs_queue.specs.Chain.{Descriptor}
use Rattle.fs_queue.specs.Taking.{addresses_of, writable}
use Rattle.fs_queue.specs.declared.fault.ChainFault.{ChainFault}
use Rattle.fs_regions.specs.declared.step.CourseStep as comes
use Rattle.fs_regions.specs.declared.step.CourseStep.TheVariants as step
use Rattle.fs_regions.specs.Walks.{Loaded}
use Rattle.fuse_fs.specs.Calls.{FileAnswer, FileCall}
use Rattle.server_meanings.specs.Grammar.{Meaning, meaning}
use Rattle.server_meanings.specs.Serving.{May, Setting, served, setting}
use Rattle.plain_machine.specs.Step.{Calls, answers_alone, calls_alone}
use Rattle.live_machine.specs.Several.{LiveQueue}
use Rattle.live_machine.specs.Live.{Abandons, Asked, DecodesRequest, EndsPop, EndsPopIn, FillsBuffer, GivesUpChain, Happens}
use Rattle.live_machine.specs.Live.{InFlightChain, LiveEvent, LiveRun, LiveState, Own, Phase, PushesChain, ReceivesAnswer, RefusesPop}
use Rattle.live_machine.specs.Live.{RepliesOwnBytes, ResetsQueue, StoresNotification, abandoned_chain, asked_chain, new_chain}
use Rattle.live_machine.specs.Live.{room_of_phase, serving}
use Rattle.live_machine.specs.Runs.{AreMeant, EachCallIsMeant}
use Rattle.live_machine.proofs.Alone.{all_both, all_filter, all_left, all_right}
use Rattle.live_machine.proofs.EachCall.{served_leads}

one_longer : (calls : Calls) (step : FileCall × FileAnswer) → suc (length (answers_alone calls)) ≡ length (calls ++ step ∷ [])
one_longer [] step = refl
one_longer (x ∷ calls) step = ap suc (one_longer calls step)

-- the call that was pending is the next one
next_meant : (s : Setting) (m : Meaning) (calls : Calls) (call : FileCall) (answer : FileAnswer)
    → (served s m (answers_alone calls)).calls ≡ calls_alone calls ++ call ∷ []
    → calls_alone (calls ++ (call, answer) ∷ [])
    ≡ take (length (calls ++ (call, answer) ∷ [])) (served s m (answers_alone (calls ++ (call, answer) ∷ []))).calls
next_meant s m calls call answer pending =
    map-append (λ (step : FileCall × FileAnswer). step.0) calls ((call, answer) ∷ [])
    ∙ sym pending
    ∙ served_leads s m (answers_alone calls) (answer ∷ [])
    ∙ ap (λ (l : List FileAnswer). take (suc (length (answers_alone calls))) (served s m l).calls)
    (sym (map-append (λ (step : FileCall × FileAnswer). step.1) calls ((call, answer) ∷ [])))
    ∙ ap (λ (n : ℕ). take n (served s m (answers_alone (calls ++ (call, answer) ∷ []))).calls) (one_longer calls (call, answer))

abbrev Meant : (page_size : ℕ) → InFlightChain → Type 0
Meant page_size c = AreMeant page_size c c.phase

abbrev AllMeant : {F : Type 0} → LiveState F → Type 0
AllMeant s = AllByRecursion (Meant s.page_size) s.chains

new_meant : {F : Type 0} (s : LiveState F) (i : ℕ) (w : LiveQueue) (loaded : Loaded) (ds : List Descriptor) (head : ℕ)
    (fault : Option ChainFault) → Meant s.page_size (new_chain s i w loaded ds head fault)
new_meant s i w loaded ds head None = tt
new_meant s i w loaded ds head (Some why) = tt

pop_keeps : {F : Type 0} (s after : LiveState F) (i : ℕ) (w : LiveQueue) (loaded : Loaded) (ds : List Descriptor) (came : comes.CourseStep)
    → EndsPopIn s i w loaded ds came after → AllMeant s → AllMeant after
pop_keeps {F} s after i w loaded ds step.Idle h all = subst (λ (k : LiveState F). AllMeant k) (sym h.1) all
pop_keeps {F} s after i w loaded ds (step.Refused e) h all = subst (λ (k : LiveState F). AllMeant k) (sym h.1) all
pop_keeps {F} s after i w loaded ds (step.Chain head fault) h all =
    subst (λ (k : LiveState F). AllMeant k) (sym h.1)
    (all_both (Meant s.page_size) s.chains (new_chain s i w loaded ds head fault ∷ []) all
    (new_meant s i w loaded ds head fault, tt))
pop_keeps s after i w loaded ds came h all = absurd h

-- the other chains
others_meant : (n : ℕ) (chains before behind : List InFlightChain) (c : InFlightChain) → chains ≡ before ++ c ∷ behind →
    AllByRecursion (Meant n) chains → AllByRecursion (Meant n) before × AllByRecursion (Meant n) behind
others_meant n chains before behind c out all =
    let split = subst (AllByRecursion (Meant n)) out all in
    (all_left (Meant n) before (c ∷ behind) split, (all_right (Meant n) before (c ∷ behind) split).1)

-- a chain among them has another phase
one_meant : (n : ℕ) (chains before behind : List InFlightChain) (c d : InFlightChain) → chains ≡ before ++ c ∷ behind →
    AllByRecursion (Meant n) chains → Meant n d → AllByRecursion (Meant n) (before ++ d ∷ behind)
one_meant n chains before behind c d out all meant =
    let parts = others_meant n chains before behind c out all in
    all_both (Meant n) before (d ∷ behind) parts.0 (meant, parts.1)

pub keeps_meant : {F : Type 0} (may : May F) (s after : LiveState F) (e : LiveEvent) → Happens may s e after → AllMeant s → AllMeant after
keeps_meant may s after (EndsPop i loaded ds came) h all = pop_keeps s after i h.w loaded ds came h.ends all
keeps_meant {F} may s after (RefusesPop i e) h all = subst (λ (k : LiveState F). AllMeant k) (sym h.state) all
keeps_meant {F} may s after (DecodesRequest c request decoded) h all =
    subst (λ (k : LiveState F). AllMeant k) (sym h.state)
    (one_meant s.page_size s.chains h.before h.behind c (asked_chain c request s.options []) h.out all refl)
keeps_meant {F} may s after (ReceivesAnswer c call answer) h all =
    let n = s.page_size in
    let room : List ℕ = addresses_of (writable c.descriptors) in
    let pending : (served (setting n h.options (length room)) (meaning h.options h.request (length room)) (answers_alone h.calls)).calls
    ≡ calls_alone h.calls ++ call ∷ [] =
    subst (λ (p : Phase). (serving n h.options h.options h.request (room_of_phase p c.descriptors) h.calls).calls
    ≡ calls_alone h.calls ++ call ∷ []) h.asked h.pending in
    subst (λ (k : LiveState F). AllMeant k) (sym h.state)
    (one_meant n s.chains h.before h.behind c (asked_chain c h.request h.options (h.calls ++ (call, answer) ∷ [])) h.out all
    (next_meant (setting n h.options (length room)) (meaning h.options h.request (length room)) h.calls call answer pending))
keeps_meant {F} may s after (PushesChain c x notice last used seen) h all =
    let parts = others_meant s.page_size s.chains h.before h.behind c h.out all in
    subst (λ (k : LiveState F). AllMeant k) (sym h.state) (all_both (Meant s.page_size) h.before h.behind parts.0 parts.1)
keeps_meant {F} may s after (StoresNotification i store) h all = subst (λ (k : LiveState F). AllMeant k) (sym h.state) all
keeps_meant {F} may s after (ResetsQueue i w) h all =
    subst (λ (k : LiveState F). AllMeant k) (sym h.state) (all_filter (Meant s.page_size) (λ c. not (c.queue == i)) s.chains all)
keeps_meant {F} may s after (FillsBuffer c stores) h all = subst (λ (k : LiveState F). AllMeant k) (sym h.state) all
keeps_meant {F} may s after (GivesUpChain c) h all =
    let parts = others_meant s.page_size s.chains h.before h.behind c h.out all in
    subst (λ (k : LiveState F). AllMeant k) (sym h.state) (all_both (Meant s.page_size) h.before h.behind parts.0 parts.1)
keeps_meant {F} may s after (Abandons c) h all =
    subst (λ (k : LiveState F). AllMeant k) (sym h.state)
    (one_meant s.page_size s.chains h.before h.behind c (abandoned_chain c) h.out all tt)
keeps_meant {F} may s after (RepliesOwnBytes c request reply options) h all =
    subst (λ (k : LiveState F). AllMeant k) (sym h.state)
    (one_meant s.page_size s.chains h.before h.behind c (record c { phase = Own request reply }) h.out all tt)
keeps_meant {F} may s after _ h all = subst (λ (k : LiveState F). AllMeant k) (sym h.state) all

run_meant : {F : Type 0} (may : May F) (s after : LiveState F) (es : List LiveEvent) → LiveRun may s es after → AllMeant s → AllMeant after
run_meant {F} may s after [] run all = subst (λ (k : LiveState F). AllMeant k) (sym run) all
run_meant may s after (e ∷ es) run all = run_meant may run.0 after es run.2 (keeps_meant may s run.0 e run.1 all)

pub each_call_is_meant : {F : Type 0} (may : May F) → EachCallIsMeant may
each_call_is_meant may s now es none run =
    run_meant may s now es run (subst (AllByRecursion (Meant s.page_size)) (sym none) tt)
