-- What an event changes of a queue, and a move of the threads' world.
use Rattle.std.proofs.Common.{arith, ◌≡◌, ℕ, ◌+◌, ◌-◌, ◌==◌, Bool, true, false, not, List, Some, slice_get, refl}
use Rattle.std.proofs.Common.{sym, ap, ◌∙◌}
use Rattle.std.specs.Prelude.{◌||◌, if◌then◌else◌}
use Rattle.std.proofs.lemmas.Bool.{and_parts, eqb-true}
use Rattle.vm_memory_core.specs.Host.{changed_at}
use Rattle.fs_queue.specs.Taking.{after_refusal}
use Rattle.fs_queue.specs.Chain.{Descriptor}
use Rattle.fs_regions.specs.declared.step.CourseStep as comes
use Rattle.fs_regions.specs.declared.step.CourseStep.TheVariants as step
use Rattle.fs_regions.specs.Walks.{Loaded}
use Rattle.server_meanings.specs.Serving.{May}
use Rattle.live_machine.specs.Live.{Abandons, DecodesRequest, EndsPop, EndsPopIn, FillsBuffer, GivesUpChain, Happens, HasEffect}
use Rattle.live_machine.specs.Live.{LiveEvent, LiveState, MovesDevice, PushesChain, ReceivesAnswer, RefusesPop, Remaps}
use Rattle.live_machine.specs.Live.{RepliesOwnBytes, ResetsQueue, SetsOptions, StoresNotification}
use Rattle.live_machine.specs.Several.{LiveQueue, took, gave, gave_up}
use Rattle.live_machine.proofs.Queues.{same_some, there_other, there_same}
use Rattle.notify.specs.Threads.{Ways}
use Rattle.fs_turns.specs.declared.machine.TurnAction.{TurnAction}
use Rattle.fs_turns.specs.declared.machine.TurnAction.TheVariants as act
use Rattle.fs_turns.specs.declared.machine.TurnEvent.{TurnEvent}
use Rattle.fs_turns.specs.declared.machine.TurnEvent.TheVariants.{Idle, Muted, Popped}
use Rattle.fs_turns.specs.declared.machine.TurnEvent.TheVariants as event
use Rattle.fs_turns.specs.Next.{Next, next_at}
use Rattle.fs_turns.specs.Worlds.{World, Move, after_action, after_move, done, seen_of, settles}
use Rattle.fs_turns.specs.Worlds.{EntersBack, EntersDropping, Reports, StoresWish}
use Rattle.fs_turns.specs.Worlds as turns
use Rattle.fs_turn_calls.specs.Loop.{IsElsewhere, is_without_call}

-- ---- a queue of the run

pub one_queue : {F : Type 0} (s : LiveState F) (i j : ℕ) (q v : LiveQueue) → j ≡ i → slice_get s.queues i ≡ Some q
    → slice_get s.queues j ≡ Some v → v ≡ q
one_queue s i j q v same there other =
    same_some v q (sym other ∙ ap (λ (k : ℕ). slice_get s.queues k) same ∙ there)

-- the queue was changed
pub changed : {F : Type 0} (s s' : LiveState F) (i j : ℕ) (q v : LiveQueue) (f : LiveQueue → LiveQueue) → j ≡ i
    → slice_get s.queues i ≡ Some q → slice_get s.queues j ≡ Some v → s'.queues ≡ changed_at s.queues j (λ _. f v)
    → slice_get s'.queues i ≡ Some (f q)
changed s s' i j q v f same there other is =
    ap (λ (l : List LiveQueue). slice_get l i) is
    ∙ there_same s.queues j i (λ _. f v) q same there
    ∙ ap (λ (w : LiveQueue). Some (f w)) (one_queue s i j q v same there other)

-- another one was
apart : {F : Type 0} (s s' : LiveState F) (i j : ℕ) (v : LiveQueue) → (j ≡ i → ⊥) → s'.queues ≡ changed_at s.queues j (λ _. v)
    → slice_get s'.queues i ≡ slice_get s.queues i
apart s s' i j v other is = ap (λ (l : List LiveQueue). slice_get l i) is ∙ there_other s.queues j i (λ _. v) other

queues_of : {F : Type 0} (s s' : LiveState F) → s' ≡ s → s'.queues ≡ s.queues
queues_of {F} s s' is = ap (λ (x : LiveState F). x.queues) is

as_before : {F : Type 0} (s s' : LiveState F) (i : ℕ) → s'.queues ≡ s.queues → slice_get s'.queues i ≡ slice_get s.queues i
as_before s s' i is = ap (λ (l : List LiveQueue). slice_get l i) is

pop_elsewhere : {F : Type 0} (s s' : LiveState F) (i j : ℕ) (v : LiveQueue) (loaded : Loaded) (ds : List Descriptor)
    (came : comes.CourseStep) → (j ≡ i → ⊥) → EndsPopIn s j v loaded ds came s' → slice_get s'.queues i ≡ slice_get s.queues i
pop_elsewhere s s' i j v loaded ds (step.Load walk) other h = absurd h
pop_elsewhere s s' i j v loaded ds (step.Missing range access) other h = absurd h
pop_elsewhere s s' i j v loaded ds step.Idle other h = as_before s s' i (queues_of s s' h.1)
pop_elsewhere {F} s s' i j v loaded ds (step.Refused e) other h =
    apart s s' i j (record v { queue = after_refusal v.queue e }) other (ap (λ (x : LiveState F). x.queues) h.1)
pop_elsewhere {F} s s' i j v loaded ds (step.Chain head fault) other h =
    apart s s' i j (took v) other (ap (λ (x : LiveState F). x.queues) h.1)

pub elsewhere : {F : Type 0} (may : May F) (s s' : LiveState F) (i : ℕ) (e : LiveEvent) → Happens may s e s' → IsElsewhere i e
    → slice_get s'.queues i ≡ slice_get s.queues i
elsewhere may s s' i (EndsPop j loaded ds came) h other = pop_elsewhere s s' i j h.w loaded ds came other h.ends
elsewhere {F} may s s' i (RefusesPop j e) h other =
    apart s s' i j (record (h.w) { queue = after_refusal h.w.queue e }) other (ap (λ (x : LiveState F). x.queues) h.state)
elsewhere {F} may s s' i (PushesChain c x notice last used seen) h other =
    apart s s' i c.queue (gave h.w) other (ap (λ (x : LiveState F). x.queues) h.state)
elsewhere {F} may s s' i (GivesUpChain c) h other =
    apart s s' i c.queue (gave_up h.w) other (ap (λ (x : LiveState F). x.queues) h.state)
elsewhere {F} may s s' i (ResetsQueue j q) h other =
    apart s s' i j q other (ap (λ (x : LiveState F). x.queues) h.state)
elsewhere may s s' i (MovesDevice m queues) h other = absurd other
elsewhere {F} may s s' i (DecodesRequest c request result) h other = as_before s s' i (ap (λ (x : LiveState F). x.queues) h.state)
elsewhere {F} may s s' i (ReceivesAnswer c call answer) h other = as_before s s' i (ap (λ (x : LiveState F). x.queues) h.state)
elsewhere {F} may s s' i (StoresNotification j store) h other = as_before s s' i (ap (λ (x : LiveState F). x.queues) h.state)
elsewhere {F} may s s' i (FillsBuffer c stores) h other = as_before s s' i (ap (λ (x : LiveState F). x.queues) h.state)
elsewhere {F} may s s' i (Abandons c) h other = as_before s s' i (ap (λ (x : LiveState F). x.queues) h.state)
elsewhere {F} may s s' i (RepliesOwnBytes c request reply options) h other =
    as_before s s' i (ap (λ (x : LiveState F). x.queues) h.state)
elsewhere {F} may s s' i (HasEffect call answer) h other = as_before s s' i (ap (λ (x : LiveState F). x.queues) h.state)
elsewhere {F} may s s' i (SetsOptions options) h other = as_before s s' i (ap (λ (x : LiveState F). x.queues) h.state)
elsewhere {F} may s s' i (Remaps m) h other = as_before s s' i (ap (λ (x : LiveState F). x.queues) h.state)

-- ---- a move of the world

-- as far as the queue goes
abbrev pub SamePlace : (v w : World) → Type 0
SamePlace v w = (v.position ≡ w.position) × (v.out ≡ w.out)

by_action : (w : World) (wakes : Bool) (a : TurnAction) → SamePlace (after_action w wakes a) w
by_action w wakes act.Answer = (refl, refl)
by_action w wakes act.Sleep = (refl, refl)
by_action w wakes act.StepAside = (refl, refl)
by_action w wakes act.Stop = (refl, refl)
by_action w wakes _ = (refl, refl)

pub settled : (w : World) (n : Next) → SamePlace (settles w n) w
settled w n =
    by_action (record w {
      turns = n.turns;
      interrupters = if n.orders.interrupts then w.interrupters + 1 else w.interrupters;
    })
    n.orders.wakes n.orders.action

result : (r : Ways) (w : World) (e : TurnEvent) (fresh other : Bool) → is_without_call (Reports e fresh other) ≡ true
    → SamePlace (after_move r w (Reports e fresh other)) w
result r w Popped fresh other is = cc
result r w (Idle polls) fresh other is = cc
result r w Muted fresh other is =
    settled (done w Muted fresh) (next_at w.turns.phase w.turns Muted (seen_of r (done w Muted fresh) other))
result r w (event.Resumed another) fresh other is =
    settled (done w (event.Resumed another) fresh)
    (next_at w.turns.phase w.turns (event.Resumed another) (seen_of r (done w (event.Resumed another) fresh) other))
result r w event.Later fresh other is =
    settled (done w event.Later fresh) (next_at w.turns.phase w.turns event.Later (seen_of r (done w event.Later fresh) other))
result r w event.Armed fresh other is =
    settled (done w event.Armed fresh) (next_at w.turns.phase w.turns event.Armed (seen_of r (done w event.Armed fresh) other))
result r w event.NoMore fresh other is =
    settled (done w event.NoMore fresh) (next_at w.turns.phase w.turns event.NoMore (seen_of r (done w event.NoMore fresh) other))
result r w (event.Woken none) fresh other is = settled w (next_at w.turns.phase w.turns (event.Woken none) (seen_of r w other))
result r w (event.Back notify none) fresh other is =
    settled w (next_at w.turns.phase w.turns (event.Back notify none) (seen_of r w other))
result r w event.NoneResumed fresh other is = settled w (next_at w.turns.phase w.turns event.NoneResumed (seen_of r w other))
result r w event.Full fresh other is = settled w (next_at w.turns.phase w.turns event.Full (seen_of r w other))
result r w event.Paused fresh other is = settled w (next_at w.turns.phase w.turns event.Paused (seen_of r w other))
result r w event.Refused fresh other is = settled w (next_at w.turns.phase w.turns event.Refused (seen_of r w other))
result r w event.NotArmed fresh other is = settled w (next_at w.turns.phase w.turns event.NotArmed (seen_of r w other))
result r w event.More fresh other is = settled w (next_at w.turns.phase w.turns event.More (seen_of r w other))

none_less : (n pushed : ℕ) → (pushed == 0) ≡ true → n - pushed ≡ n
none_less n pushed is = let none = eqb-true pushed 0 is in omega (arith, none)

pub without_call : (r : Ways) (w : World) (move : Move) → is_without_call move ≡ true → SamePlace (after_move r w move) w
without_call r w (Reports e fresh other) is = result r w e fresh other is
without_call r w (EntersBack pushed notify none) is =
    let left = record w { coming = w.coming - 1; out = w.out - pushed; undelivered = w.undelivered || notify } in
    let p = settled left (next_at w.turns.phase w.turns (event.Back notify none) (seen_of r left false)) in
    (p.0, p.1 ∙ none_less w.out pushed (and_parts (pushed == 0) (not notify) is).0)
without_call r w (turns.EntersWoken none) is =
    let left = record w { woken = w.woken - 1 } in
    settled left (next_at w.turns.phase w.turns (event.Woken none) (seen_of r left false))
without_call r w (EntersDropping none) is = cc
without_call r w StoresWish is = cc
without_call r w (turns.Gives more) is = (refl, refl)
without_call r w (turns.Arrives more) is = (refl, refl)
without_call r w turns.DriverChecks is = (refl, refl)
without_call r w turns.DriverNotifies is = (refl, refl)
without_call r w turns.WishArrives is = (refl, refl)
without_call r w (turns.Wakens takes) is = (refl, refl)
without_call r w turns.Comes is = (refl, refl)
without_call r w turns.Signals is = (refl, refl)
without_call r w turns.SignalsToo is = (refl, refl)
without_call r w turns.Pauses is = (refl, refl)
without_call r w turns.GoesOn is = (refl, refl)
without_call r w turns.AnswerComes is = (refl, refl)
without_call r w turns.Interrupts is = (refl, refl)
