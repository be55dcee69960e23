-- Queues that stand, and devices that move.
use Rattle.std.proofs.Common.{◌≡◌, ℕ, zero, suc, Bool, List, [], ◌∷◌, ◌++◌, map, filter, length, Some, slice_get, refl, subst, sym, ap, ◌∙◌}
use Rattle.std.specs.Prelude.{not, ◌==◌, true, false}
use Rattle.std.specs.List.{AllByRecursion}
use Rattle.vm_memory_core.specs.Host.{changed_at}
use Rattle.vm_memory.specs.Memory.{Memory}
use Rattle.fs_queue.specs.Queue.{Queue}
use Rattle.server_meanings.specs.Serving.{May}
use Rattle.live_machine.specs.Several.{LiveQueue, InFlightId, unrecorded}
use Rattle.live_machine.specs.Live.{Happens, KeepsQueue, LiveEvent, LiveRun, LiveState, MovesDeviceSo, InFlightChain, Remaps, ResetsQueueSo}
use Rattle.live_machine.specs.Runs.{HasNoneInFlight, MovedContinues, PositionsAgree, in_flight_on}
use Rattle.live_machine.proofs.Placed.{Ahead, run_kept, started}
use Rattle.live_machine.proofs.Queues.{kept_not, one_ticket, same_some}

-- ---- lists

-- what is put where it stands changes nothing
same_there : {A : Type 0} (xs : List A) (i : ℕ) (x : A) → slice_get xs i ≡ Some x → changed_at xs i (λ _. x) ≡ xs
same_there [] i x there = refl
same_there {A} (y ∷ ys) zero x there = ap (λ (z : A). z ∷ ys) (sym (same_some y x there))
same_there {A} (y ∷ ys) (suc i) x there = ap (λ (l : List A). y ∷ l) (same_there ys i x there)

-- ---- standing

module _ (i : ℕ) where
  one_stays : (c : InFlightChain) (cs : List InFlightChain) (b : Bool) → (c.queue == i) ≡ b → in_flight_on i (c ∷ cs) ≡ []
      → (in_flight_on i cs ≡ [] → filter (λ c. not (c.queue == i)) cs ≡ cs)
      → filter (λ c. not (c.queue == i)) (c ∷ cs) ≡ c ∷ cs
  one_stays c cs true is none more =
      absurd (cc (sym (one_ticket i c cs true is) ∙ none))
  one_stays c cs false is none more =
      kept_not (λ c. not (c.queue == i)) c cs true (ap not is)
      ∙ ap (λ (l : List InFlightChain). c ∷ l) (more (sym (one_ticket i c cs false is) ∙ none))

  none_filtered : (cs : List InFlightChain) → in_flight_on i cs ≡ [] → filter (λ c. not (c.queue == i)) cs ≡ cs
  none_filtered [] none = refl
  none_filtered (c ∷ cs) none = one_stays c cs (c.queue == i) refl none (none_filtered cs)

  pub none_out_even : {F : Type 0} (may : May F) (s now : LiveState F) (es : List LiveEvent) (w : LiveQueue) → s.chains ≡ []
      → AllByRecursion HasNoneInFlight s.queues → LiveRun may s es now
      → slice_get now.queues i ≡ Some w → in_flight_on i now.chains ≡ [] → HasNoneInFlight w
  none_out_even may s now es w none even run there out =
      let kept = run_kept i may s now es run (started i s none even) in
      subst (λ (ts : List InFlightId). Ahead now.places w (length ts)) out (kept w there)

pub stands_even : {F : Type 0} (may : May F) → PositionsAgree may
stands_even {F} may s now es i w none even run there out = (
  none_out_even i may s now es w none even run there out,
  λ after begins.
      let so : ResetsQueueSo now i w after = begins in
      so.state
      ∙ ap (λ (l : List LiveQueue). record now { queues = l; chains = filter (λ c. not (c.queue == i)) now.chains })
      (same_there now.queues i w there)
      ∙ ap (λ (cs : List InFlightChain). record now { queues = now.queues; chains = cs }) (none_filtered i now.chains out),
)

-- ---- moves

all_even : (ws : List LiveQueue) → ((i : ℕ) (w : LiveQueue) → slice_get ws i ≡ Some w → HasNoneInFlight w)
    → AllByRecursion HasNoneInFlight ws
all_even [] each = tt
all_even (w ∷ ws) each = (each 0 w refl, all_even ws (λ i v there. each (suc i) v there))

-- a queue is told by its parts
same_queue : (w v : LiveQueue) → w.queue ≡ v.queue → w.next_used ≡ v.next_used → unrecorded w ≡ unrecorded v → w ≡ v
same_queue w v queue next_used rest =
    ap (λ (q : Queue). record { queue = q; next_used = w.next_used; max_in_flight = w.max_in_flight; event_index = w.event_index }) queue
    ∙ ap (λ (r : ℕ). record { queue = v.queue; next_used = r; max_in_flight = w.max_in_flight; event_index = w.event_index }) next_used
    ∙ ap (λ (u : ℕ × Bool). record { queue = v.queue; next_used = v.next_used; max_in_flight = u.0; event_index = u.1 }) rest

same_queues : (ws vs : List LiveQueue) → AllByRecursion HasNoneInFlight ws → AllByRecursion HasNoneInFlight vs →
    map (λ w. w.queue) ws ≡ map (λ w. w.queue) vs → map unrecorded ws ≡ map unrecorded vs → ws ≡ vs
same_queues [] [] even stand queues rest_is = refl
same_queues (w ∷ ws) (v ∷ vs) even stand queues rest_is =
    let queue : w.queue ≡ v.queue = cc in
    let first : w ≡ v = same_queue w v queue (even.0.0 ∙ ap (λ (q : Queue). q.position) queue ∙ sym stand.0.0) (cc) in
    let others : ws ≡ vs = same_queues ws vs even.1 stand.1 (cc) (cc) in
    cc
same_queues _ _ even stand queues rest_is = absurd (cc)

-- runs join
pub joined : {F : Type 0} (may : May F) (s mid end : LiveState F) (es later : List LiveEvent) → LiveRun may s es mid →
    LiveRun may mid later end → LiveRun may s (es ++ later) end
joined {F} may s mid end [] later run more = subst (λ (k : LiveState F). LiveRun may k later end) run more
joined may s mid end (e ∷ es) later run more = (run.0, run.1, joined may run.0 mid end es later run.2 more)

pub moved_carries_on : {F : Type 0} (may : May F) → MovedContinues may
moved_carries_on {F} may s now moved es m queues none even run moves recorded =
    let so : MovesDeviceSo now m queues moved = moves in
    let stand : AllByRecursion HasNoneInFlight now.queues =
    all_even now.queues
    (λ i w there. none_out_even i may s now es w none even run there
    (ap (λ (cs : List InFlightChain). in_flight_on i cs) so.none_in_flight)) in
    let same : queues ≡ now.queues = same_queues queues now.queues so.positions_agree stand so.same recorded in
    let state : moved ≡ record now { places = m } = so.state ∙ ap (λ (l : List LiveQueue). record now { places = m; queues = l }) same in
    let maps : Happens may now (Remaps m) moved =
    record {
      keeps = subst (λ (cs : List InFlightChain). AllByRecursion (KeepsQueue now m) cs) (sym so.none_in_flight) tt;
      state =
          state;
    } in
    let stays : m ≡ now.places → moved ≡ now = λ places. state ∙ ap (λ (k : Memory). record now { places = k }) places in (
      maps,
      stays,
      λ later end more. joined may s now end es (Remaps m ∷ later) run (moved, maps, more),
      λ places later end more. joined may s now end es later run (subst (λ (k : LiveState F). LiveRun may k later end) (stays places) more),
    )
