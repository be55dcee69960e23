-- A live run and a queue's threads are a run of worlds, life by life.
use Rattle.std.proofs.Common.{arith, ◌≡◌, ℕ, ◌+◌, ◌-◌, ◌%◌, ◌^◌, ◌<◌, ◌≤◌, inl, inr, Bool, true, List, [], ◌∷◌, ◌++◌, Some, slice_get, refl}
use Rattle.std.proofs.Common.{subst, sym, ap, ◌∙◌}
use Rattle.std.specs.Prelude.{nat_lt, nat_le, not, ◌==◌, ◌&&◌, ◌||◌, false, if◌then◌else◌}
use Rattle.fs_queue.specs.Returning.{Store}
use Rattle.notify.specs.Kicks.{back}
use Rattle.fs_turns.specs.Next.{is_free}
use Rattle.std.proofs.lemmas.Bool.{and_parts}
use Rattle.std.proofs.lemmas.Bool.Decides.{nat_tests}
use Rattle.fs_queue.specs.Taking.{after_refusal, stops_queue}
use Rattle.fs_queue.specs.declared.fault.QueueError.{QueueError}
use Rattle.fs_queue.specs.Chain.{Descriptor}
use Rattle.fs_queue.specs.Queue.{Queue, with_stop}
use Rattle.fs_regions.specs.declared.step.CourseStep as comes
use Rattle.fs_regions.specs.declared.step.CourseStep.TheVariants as step
use Rattle.fs_regions.specs.Walks.{Loaded}
use Rattle.server_meanings.specs.Serving.{May}
use Rattle.live_machine.specs.Live.{EndsPop, EndsPopIn, GivesUpChain, Happens, LiveEvent, LiveState, PushesChain, RefusesPop}
use Rattle.live_machine.specs.Live.{StoresNotification}
use Rattle.live_machine.specs.Several.{LiveQueue, in_flight, may_take, took, gave, gave_up}
use Rattle.live_machine.proofs.Queues.{same_some, there_same}
use Rattle.notify.specs.Threads.{Ways, right_ways}
use Rattle.fs_turns.specs.declared.machine.TurnEvent.TheVariants.{Back, Idle, Muted, Paused, Popped, Refused}
use Rattle.fs_turns.specs.Lives.{Life, Lives, NoInterruptIsLostOverResets, NoTurnIsLostOverResets, begun_again, ways_in}
use Rattle.fs_turns.specs.Next.{may_reset, next_at}
use Rattle.fs_turns.specs.Worlds.{EntersBack, EntersDropping, Move, Moves, Reports, World}
use Rattle.fs_turns.specs.Worlds.{after_move, done, may_move, seen_of}
use Rattle.fs_turn_calls.specs.Loop.{Calls, Elsewhere, IsBegunAs, IsMoveOf, IsWorldIn, LeadsTo, LoopEvent, LoopRun}
use Rattle.fs_turn_calls.specs.Loop.{Meanwhile, MovesAway, NoInterruptIsLostInRuns, NoTurnIsLostInRuns, ReportsPop, ReportsRefusal}
use Rattle.fs_turn_calls.specs.Loop.{ReportsStore, Resets, Starts, WorldStays, unserved, ways_in_run}
use Rattle.fs_turn_calls.proofs.LoopSteps.{SamePlace, changed, elsewhere, one_queue, settled, without_call}

-- ---- a queue and its world

pub record Fits (q : LiveQueue) : Type 0 where
  pub position : q.queue.position < 2 ^ 16
  pub next_used : q.next_used < 2 ^ 16
  pub most : q.max_in_flight < 2 ^ 16

-- what a report makes of both
record Goes {F : Type 0} (i : ℕ) (s' : LiveState F) (ways : Ways) (w' : World) : Type 0 where
  pub q : LiveQueue
  pub there : slice_get s'.queues i ≡ Some q
  pub fits : Fits q
  pub world : IsWorldIn q w'
  pub same : ways_in_run q ≡ ways

below : (n : ℕ) → n % 2 ^ 16 < 2 ^ 16
below n = omega arith

one_taken : (p r most : ℕ) → p < 2 ^ 16 → r < 2 ^ 16 → most < 2 ^ 16 → (p + (2 ^ 16 - r)) % 2 ^ 16 < most
    → (p + (2 ^ 16 - r)) % 2 ^ 16 + 1 ≡ ((p + 1) % 2 ^ 16 + (2 ^ 16 - r)) % 2 ^ 16
one_taken p r most fp fr fm less = omega arith

one_dropped : (p r : ℕ) → p < 2 ^ 16 → r < 2 ^ 16 → 0 < (p + (2 ^ 16 - r)) % 2 ^ 16
    → (p + (2 ^ 16 - r)) % 2 ^ 16 - 1 ≡ ((p + (2 ^ 16 - 1)) % 2 ^ 16 + (2 ^ 16 - r)) % 2 ^ 16
one_dropped p r fp fr some = omega arith

one_returned : (p r : ℕ) → p < 2 ^ 16 → r < 2 ^ 16 → 0 < (p + (2 ^ 16 - r)) % 2 ^ 16
    → (p + (2 ^ 16 - r)) % 2 ^ 16 - 1 ≡ (p + (2 ^ 16 - (r + 1) % 2 ^ 16)) % 2 ^ 16
one_returned p r fp fr some = omega arith

lt_of : (a b : ℕ) → nat_lt a b ≡ true → a < b
lt_of a b h = grind (arith, nat_tests)

some_of : (n : ℕ) → nat_le 1 n ≡ true → 0 < n
some_of n h = grind (arith, nat_tests)

-- the queue and the place stay
keeps : {F : Type 0} (i : ℕ) (s' : LiveState F) (w w' : World) (q : LiveQueue) → slice_get s'.queues i ≡ Some q → Fits q → IsWorldIn q w
    → SamePlace w' w → Goes i s' (ways_in_run q) w'
keeps i s' w w' q there fits world same =
    record { q = q; there = there; fits = fits; world = (same.0 ∙ world.0, same.1 ∙ world.1); same = refl }

-- a chain is popped
takes : {F : Type 0} (i : ℕ) (s' : LiveState F) (w : World) (q : LiveQueue) (fresh other : Bool) → slice_get s'.queues i ≡ Some (took q)
    → Fits q → IsWorldIn q w → may_take q ≡ true
    → Goes i s' (ways_in_run q) (after_move (ways_in_run q) w (Reports Popped fresh other))
takes i s' w q fresh other there fits world room =
    let r = ways_in_run q in
    let one = done w Popped fresh in
    let place = settled one (next_at w.turns.phase one.turns Popped (seen_of r one other)) in
    record {
      q = took q;
      there = there;
      fits = record { position = below (q.queue.position + 1); next_used = fits.next_used; most = fits.most };
      world = (
        place.0 ∙ ap (λ (n : ℕ). (n + 1) % 2 ^ 16) world.0,
        place.1 ∙ ap (λ (n : ℕ). n + 1) world.1
            ∙ one_taken q.queue.position q.next_used q.max_in_flight fits.position fits.next_used fits.most
            (lt_of (in_flight q) q.max_in_flight room),
      );
      same = refl;
    }

-- the queue is stopped, or not
refusal_keeps : (q : Queue) (stops : Bool)
    → ((if stops then with_stop q else q).position ≡ q.position) × ((if stops then with_stop q else q).size ≡ q.size)
refusal_keeps q true = (refl, refl)
refusal_keeps q _ = (refl, refl)

refuses : {F : Type 0} (i : ℕ) (s' : LiveState F) (w : World) (q : LiveQueue) (e : QueueError) (move : Move)
    → slice_get s'.queues i ≡ Some (record q { queue = after_refusal q.queue e }) → Fits q → IsWorldIn q w → ReportsRefusal move
    → Goes i s' (ways_in_run q) (after_move (ways_in_run q) w move)
refuses {F} i s' w q e move there fits world report =
    let r = ways_in_run q in
    let q' = record q { queue = after_refusal q.queue e } in
    let is = refusal_keeps q.queue (stops_queue e) in
    let place : SamePlace (after_move r w move) w = elim report.2 [
      | inl a ↦ subst (λ (m : Move). SamePlace (after_move r w m) w) (sym a)
          (settled w (next_at w.turns.phase w.turns Refused (seen_of r w report.1)))
      | inr b ↦ subst (λ (m : Move). SamePlace (after_move r w m) w) (sym b)
          (settled w (next_at w.turns.phase w.turns Paused (seen_of r w report.1)))
    ] in
    record {
      q = q';
      there = there;
      fits = record {
        position = subst (λ (n : ℕ). n < 2 ^ 16) (sym is.0) fits.position;
        next_used = fits.next_used;
        most = fits.most;
      };
      world = (
        place.0 ∙ world.0 ∙ sym is.0,
        place.1 ∙ world.1 ∙ ap (λ (n : ℕ). (n + (2 ^ 16 - q.next_used)) % 2 ^ 16) (sym is.0),
      );
      same = ap (λ (n : ℕ). right_ways n q.max_in_flight q.event_index) is.1;
    }

-- a pop's end
pops : {F : Type 0} (s s' : LiveState F) (i j : ℕ) (w : World) (q v : LiveQueue) (loaded : Loaded) (ds : List Descriptor)
    (came : comes.CourseStep) (move : Move) → j ≡ i → slice_get s.queues i ≡ Some q → slice_get s.queues j ≡ Some v
    → may_take v ≡ true → EndsPopIn s j v loaded ds came s' → Fits q → IsWorldIn q w → ReportsPop w loaded came move
    → Goes i s' (ways_in_run q) (after_move (ways_in_run q) w move)
pops s s' i j w q v loaded ds (step.Load walk) move same there other room h fits world report = absurd h
pops s s' i j w q v loaded ds (step.Missing range access) move same there other room h fits world report = absurd h
pops {F} s s' i j w q v loaded ds step.Idle move same there other room h fits world report =
    let r = ways_in_run q in
    let loaded_one = done w (Idle report.0) report.1 in
    subst (λ (m : Move). Goes i s' r (after_move r w m)) (sym report.4)
    (keeps i s' w (after_move r w (Reports (Idle report.0) report.1 report.2)) q
    (ap (λ (x : LiveState F). slice_get x.queues i) h.1 ∙ there) fits world
    (settled loaded_one (next_at w.turns.phase loaded_one.turns (Idle report.0) (seen_of r loaded_one report.2))))
pops {F} s s' i j w q v loaded ds (step.Refused e) move same there other room h fits world report =
    refuses i s' w q e move
    (changed s s' i j q v (λ (u : LiveQueue). record u { queue = after_refusal u.queue e }) same there other
    (ap (λ (x : LiveState F). x.queues) h.1))
    fits world report
pops {F} s s' i j w q v loaded ds (step.Chain head fault) move same there other room h fits world report =
    let r = ways_in_run q in
    let gone = changed s s' i j q v took same there other (ap (λ (x : LiveState F). x.queues) h.1) in
    subst (λ (m : Move). Goes i s' r (after_move r w m)) (sym report.3)
    (takes i s' w q report.0 report.1 gone fits world
    (subst (λ (u : LiveQueue). may_take u ≡ true) (one_queue s i j q v same there other) room))

pushes : {F : Type 0} (i : ℕ) (s' : LiveState F) (w : World) (q : LiveQueue) (notice none : Bool)
    → slice_get s'.queues i ≡ Some (gave q) → Fits q → IsWorldIn q w
    → may_move (ways_in_run q) w (EntersBack 1 notice none) ≡ true
    → Goes i s' (ways_in_run q) (after_move (ways_in_run q) w (EntersBack 1 notice none))
pushes i s' w q notice none there fits world may =
    let r = ways_in_run q in
    let left = record w { coming = w.coming - 1; out = w.out - 1; undelivered = w.undelivered || notice } in
    let place = settled left (next_at w.turns.phase w.turns (Back notice none) (seen_of r left false)) in
    let a = and_parts (is_free w.turns.phase) (nat_lt 0 w.coming && (nat_le 1 w.out && (not none || w.answered == 0))) may in
    let b = and_parts (nat_lt 0 w.coming) (nat_le 1 w.out && (not none || w.answered == 0)) a.1 in
    let some = some_of w.out (and_parts (nat_le 1 w.out) (not none || w.answered == 0) b.1).0 in
    record {
      q = gave q;
      there = there;
      fits = record { position = fits.position; next_used = below (q.next_used + 1); most = fits.most };
      world = (
        place.0 ∙ world.0,
        place.1 ∙ ap (λ (n : ℕ). n - 1) world.1
            ∙ one_returned q.queue.position q.next_used fits.position fits.next_used (subst (λ (n : ℕ). 0 < n) world.1 some),
      );
      same = refl;
    }

drops : {F : Type 0} (i : ℕ) (s' : LiveState F) (w : World) (q : LiveQueue) (none : Bool)
    → slice_get s'.queues i ≡ Some (gave_up q) → Fits q → IsWorldIn q w
    → may_move (ways_in_run q) w (EntersDropping none) ≡ true
    → Goes i s' (ways_in_run q) (after_move (ways_in_run q) w (EntersDropping none))
drops i s' w q none there fits world may =
    let r = ways_in_run q in
    let left = record w { coming = w.coming - 1; position = back w.position 1; out = w.out - 1 } in
    let place = settled left (next_at w.turns.phase w.turns (Back false none) (seen_of r left false)) in
    let a = and_parts (is_free w.turns.phase) (nat_lt 0 w.coming && (nat_lt 0 w.out && (not none || w.answered == 0))) may in
    let b = and_parts (nat_lt 0 w.coming) (nat_lt 0 w.out && (not none || w.answered == 0)) a.1 in
    let some = lt_of 0 w.out (and_parts (nat_lt 0 w.out) (not none || w.answered == 0) b.1).0 in
    record {
      q = gave_up q;
      there = there;
      fits = record { position = below (q.queue.position + (2 ^ 16 - 1)); next_used = fits.next_used; most = fits.most };
      world = (
        place.0 ∙ ap (λ (n : ℕ). (n + (2 ^ 16 - 1)) % 2 ^ 16) world.0,
        place.1 ∙ ap (λ (n : ℕ). n - 1) world.1
            ∙ one_dropped q.queue.position q.next_used fits.position fits.next_used (subst (λ (n : ℕ). 0 < n) world.1 some),
      );
      same = refl;
    }

stores : (r : Ways) (q : LiveQueue) (w : World) (store : Store) (move : Move) → ReportsStore q store move
    → SamePlace (after_move r w move) w
stores r q w store move (inl a) = subst (λ (m : Move). SamePlace (after_move r w m) w) (sym a.1) (refl, refl)
stores r q w store move (inr b) =
    subst (λ (m : Move). SamePlace (after_move r w m) w) (sym b.2)
    (settled (done w Muted true) (next_at w.turns.phase w.turns Muted (seen_of r (done w Muted true) b.1)))

-- a call and its report
calls : {F : Type 0} (may : May F) (s s' : LiveState F) (i : ℕ) (w : World) (q : LiveQueue) (e : LiveEvent) (move : Move)
    → Happens may s e s' → slice_get s.queues i ≡ Some q → IsMoveOf i q w e move → may_move (ways_in_run q) w move ≡ true
    → Fits q → IsWorldIn q w → Goes i s' (ways_in_run q) (after_move (ways_in_run q) w move)
calls may s s' i w q (EndsPop j loaded ds came) move h there report allowed fits world =
    pops s s' i j w q h.w loaded ds came move report.0 there h.there h.room h.ends fits world report.1
calls {F} may s s' i w q (RefusesPop j e) move h there report allowed fits world =
    refuses i s' w q e move
    (changed s s' i j q h.w (λ (u : LiveQueue). record u { queue = after_refusal u.queue e }) report.0 there h.there
    (ap (λ (x : LiveState F). x.queues) h.state))
    fits world report.1
calls {F} may s s' i w q (PushesChain c x notice last used seen) move h there report allowed fits world =
    let r = ways_in_run q in
    subst (λ (m : Move). Goes i s' r (after_move r w m)) (sym report.2)
    (pushes i s' w q notice report.1
    (changed s s' i c.queue q h.w gave report.0 there h.there (ap (λ (x : LiveState F). x.queues) h.state))
    fits world (subst (λ (m : Move). may_move r w m ≡ true) report.2 allowed))
calls {F} may s s' i w q (GivesUpChain c) move h there report allowed fits world =
    let r = ways_in_run q in
    subst (λ (m : Move). Goes i s' r (after_move r w m)) (sym report.2)
    (drops i s' w q report.1 (changed s s' i c.queue q h.w gave_up report.0 there h.there (ap (λ (x : LiveState F). x.queues) h.state))
    fits world (subst (λ (m : Move). may_move r w m ≡ true) report.2 allowed))
calls {F} may s s' i w q (StoresNotification j store) move h there report allowed fits world =
    keeps i s' w (after_move (ways_in_run q) w move) q (ap (λ (x : LiveState F). slice_get x.queues i) h.state ∙ there) fits world
    (stores (ways_in_run q) q w store move report.1)
calls may s s' i w q _ move h there report allowed fits world = absurd report

-- ---- the run

pub record Tracks {F : Type 0} (i : ℕ) (s : LiveState F) (w : World) : Type 0 where
  pub q : LiveQueue
  pub there : slice_get s.queues i ≡ Some q
  pub fits : Fits q
  pub world : IsWorldIn q w
  pub threads : ℕ
  pub before : List Life
  pub first : World
  pub last : Life
  pub lives : Lives (unserved threads) before first
  pub free : may_reset first.turns.phase ≡ true
  pub moves : Moves (ways_in last) (begun_again last first) last.moves w
  pub ways : ways_in_run q ≡ ways_in last
  pub small : last.size < 2 ^ 16
  pub place : last.place < 2 ^ 16
  pub few : last.waiting ≤ last.size

moves_then : (r : Ways) (w : World) (es : List Move) (mid : World) (e : Move) → Moves r w es mid → may_move r mid e ≡ true
    → Moves r w (es ++ e ∷ []) (after_move r mid e)
moves_then r w [] mid e run may =
    (subst (λ (v : World). may_move r v e ≡ true) run may, ap (λ (v : World). after_move r v e) run)
moves_then r w (f ∷ es) mid e run may = (run.0, moves_then r (after_move r w f) es mid e run.1 may)

lives_then : (v : World) (ls : List Life) (first : World) (l : Life) (w : World) → Lives v ls first → may_reset first.turns.phase ≡ true
    → Moves (ways_in l) (begun_again l first) l.moves w → Lives v (ls ++ l ∷ []) w
lives_then v [] first l w lives free moves =
    subst (λ (x : World). Lives x (l ∷ []) w) lives (free, w, moves, refl)
lives_then v (k ∷ ls) first l w lives free moves =
    (lives.0, lives.1, lives.2, lives_then lives.1 ls first l w lives.3 free moves)

-- one more move
moved_on : {F : Type 0} (i : ℕ) (s s' : LiveState F) (w : World) (move : Move) (t : Tracks i s w)
    → may_move (ways_in_run t.q) w move ≡ true → Goes i s' (ways_in_run t.q) (after_move (ways_in_run t.q) w move)
    → Tracks i s' (after_move (ways_in_run t.q) w move)
moved_on i s s' w move t may g =
    let now = record (t.last) { moves = t.last.moves ++ move ∷ [] } in
    record {
      q = g.q;
      there = g.there;
      fits = g.fits;
      world = g.world;
      threads = t.threads;
      before = t.before;
      first = t.first;
      last = now;
      lives = t.lives;
      free = t.free;
      moves = subst (λ (r : Ways). Moves (ways_in now) (begun_again now t.first) now.moves (after_move r w move)) (sym t.ways)
          (moves_then (ways_in t.last) (begun_again t.last t.first) t.last.moves w move t.moves
          (subst (λ (r : Ways). may_move r w move ≡ true) t.ways may));
      ways = g.same ∙ t.ways;
      small = t.small;
      place = t.place;
      few = t.few;
    }

none_out : (p u : ℕ) → u ≡ p → p < 2 ^ 16 → 0 ≡ (p + (2 ^ 16 - u)) % 2 ^ 16
none_out p u same fits = omega arith

fits_most : (most size : ℕ) → most ≤ size → size < 2 ^ 16 → most < 2 ^ 16
fits_most most size less fits = omega arith

-- a life begins
begins : {F : Type 0} (i : ℕ) (s' : LiveState F) (q : LiveQueue) (l : Life) (threads : ℕ) (before : List Life) (first : World)
    → slice_get s'.queues i ≡ Some q → IsBegunAs q l → Lives (unserved threads) before first → may_reset first.turns.phase ≡ true
    → Tracks i s' (begun_again l first)
begins i s' q l threads before first there is lives free =
    let position = is.none_in_flight.1 in
    record {
      q = q;
      there = there;
      fits = record {
        position = position;
        next_used = subst (λ (n : ℕ). n < 2 ^ 16) (sym is.none_in_flight.0) position;
        most = fits_most q.max_in_flight q.queue.size is.valid.1 (subst (λ (n : ℕ). n < 2 ^ 16) is.size is.small);
      };
      world = (is.place, none_out q.queue.position q.next_used is.none_in_flight.0 position);
      threads = threads;
      before = before;
      first = first;
      last = record l { moves = [] };
      lives = lives;
      free = free;
      moves = refl;
      ways = ap (λ (n : ℕ). right_ways n q.max_in_flight q.event_index) (sym is.size)
          ∙ ap (λ (n : ℕ). right_ways l.size n q.event_index) (sym is.max_in_flight)
          ∙ ap (λ (b : Bool). right_ways l.size l.max_in_flight b) (sym is.by_event);
      small = is.small;
      place = subst (λ (n : ℕ). n < 2 ^ 16) (sym is.place) position;
      few = is.few;
    }

-- the same queue
same_tracked : {F : Type 0} (i : ℕ) (s : LiveState F) (w : World) (t : Tracks i s w) (q : LiveQueue) → slice_get s.queues i ≡ Some q
    → t.q ≡ q
same_tracked i s w t q there = same_some t.q q (sym t.there ∙ there)

steps : {F : Type 0} (may : May F) (i : ℕ) (s s' : LiveState F) (w w' : World) (e : LoopEvent) → Tracks i s w
    → LeadsTo may i s w e s' w' → Tracks i s' w'
steps may i s s' w w' (Calls e move) t h =
    let same = same_tracked i s w t h.1 h.2 in
    let allowed = subst (λ (q : LiveQueue). may_move (ways_in_run q) w move ≡ true) (sym same) h.4 in
    let report = subst (λ (q : LiveQueue). IsMoveOf i q w e move) (sym same) h.3 in
    subst (Tracks i s') (sym (h.5 ∙ ap (λ (q : LiveQueue). after_move (ways_in_run q) w move) (sym same)))
    (moved_on i s s' w move t allowed (calls may s s' i w t.q e move h.0 t.there report allowed t.fits t.world))
steps may i s s' w w' (Elsewhere e) t h =
    subst (Tracks i s') (sym h.2) (record {
      q = t.q;
      there = elsewhere may s s' i e h.0 h.1 ∙ t.there;
      fits = t.fits;
      world = t.world;
      threads = t.threads;
      before = t.before;
      first = t.first;
      last = t.last;
      lives = t.lives;
      free = t.free;
      moves = t.moves;
      ways = t.ways;
      small = t.small;
      place = t.place;
      few = t.few;
    })
steps {F} may i s s' w w' (Meanwhile move) t h =
    let same = same_tracked i s w t h.1 h.2 in
    let allowed = subst (λ (q : LiveQueue). may_move (ways_in_run q) w move ≡ true) (sym same) h.4 in
    subst (Tracks i s') (sym (h.5 ∙ ap (λ (q : LiveQueue). after_move (ways_in_run q) w move) (sym same)))
    (moved_on i s s' w move t allowed
    (keeps i s' w (after_move (ways_in_run t.q) w move) t.q (ap (λ (x : LiveState F). slice_get x.queues i) h.0 ∙ t.there) t.fits
    t.world
    (without_call (ways_in_run t.q) w move h.3)))
steps {F} may i s s' w w' (Resets q l) t h =
    subst (Tracks i s') (sym h.3)
    (begins i s' q l t.threads (t.before ++ t.last ∷ []) w
    (ap (λ (x : LiveState F). slice_get x.queues i) h.0.state ∙ there_same s.queues i i (λ _. q) t.q refl t.there)
    h.1 (lives_then (unserved t.threads) t.before t.first t.last w t.lives t.free t.moves) h.2)
steps {F} may i s s' w w' (MovesAway m queues l threads) t h =
    subst (Tracks i s') (sym h.4)
    (begins i s' h.1 l threads [] (unserved threads) (ap (λ (x : LiveState F). slice_get x.queues i) h.0.state ∙ h.2) h.3 refl refl)

runs : {F : Type 0} (may : May F) (i : ℕ) (s s' : LiveState F) (w w' : World) (es : List LoopEvent) → Tracks i s w
    → LoopRun may i s w es s' w' → Tracks i s' w'
runs {F} may i s s' w w' [] t h =
    subst (λ (x : LiveState F). Tracks i x w') (sym h.0) (subst (Tracks i s) (sym h.1) t)
runs may i s s' w w' (e ∷ es) t h = runs may i h.0 s' h.1 w' es (steps may i s h.0 w h.1 e t h.2) h.3

starts : {F : Type 0} (i : ℕ) (s : LiveState F) (w : World) → Starts i s w → Tracks i s w
starts i s w h =
    subst (Tracks i s) (sym h.world) (begins i s h.q h.life h.threads [] (unserved h.threads) h.there h.begins refl refl)

-- ---- the theorems

pub world_stays : {F : Type 0} (may : May F) → WorldStays may
world_stays may i s end w last es q from run there =
    let t = runs may i s end w last es (starts i s w from) run in
    subst (λ (v : LiveQueue). IsWorldIn v last) (same_tracked i end last t q there) t.world

may_be_out : (out most : ℕ) (r : Ways) (n : ℕ) → out ≡ n → r.max_in_flight ≡ most → nat_lt n most ≡ true → out < r.max_in_flight
may_be_out out most r n same is may = let less = lt_of n most may in omega (arith, same, is, less)

pub no_turn : {F : Type 0} (may : May F) → NoTurnIsLostOverResets → NoTurnIsLostInRuns may
no_turn may law i s end w last es q from run there lost which =
    let t = runs may i s end w last es (starts i s w from) run in
    let same = same_tracked i end last t q there in
    law t.threads t.before t.last t.first last t.small t.place t.few t.lives (t.free, last, t.moves, refl) lost
    (elim which [
      | inl chain ↦ inl (record {
        available = λ at. chain.available (at ∙ t.world.0 ∙ ap (λ (v : LiveQueue). v.queue.position) same);
        may_be_out = may_be_out last.out q.max_in_flight (ways_in t.last) (in_flight q)
            (t.world.1 ∙ ap (λ (v : LiveQueue). in_flight v) same)
            (ap (λ (r : Ways). r.max_in_flight) (sym t.ways) ∙ ap (λ (v : LiveQueue). v.max_in_flight) same) chain.may_pop;
        not_paused = chain.not_paused;
        not_owed = chain.not_owed;
        checked = chain.checked;
      })
      | inr answered ↦ inr answered
    ])

pub no_interrupt : {F : Type 0} (may : May F) → NoInterruptIsLostOverResets → NoInterruptIsLostInRuns may
no_interrupt may law i s end w last es from run free none =
    let t = runs may i s end w last es (starts i s w from) run in
    law t.threads (t.before ++ t.last ∷ []) last
    (lives_then (unserved t.threads) t.before t.first t.last last t.lives t.free t.moves) free none
