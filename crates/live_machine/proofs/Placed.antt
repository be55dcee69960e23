-- Each return of a run has places.
use Rattle.std.proofs.Common.{arith, ◌≡◌, ℕ, zero, suc, ◌+◌, Bool, List, [], ◌∷◌, ◌++◌, length, filter, Option, Some, None, slice_get, refl}
use Rattle.std.proofs.Common.{not, ◌==◌, true, false, ◌-◌, ◌<◌, ◌%◌, ◌^◌, if◌then◌else◌, subst, sym, ap, ◌∙◌, length-append, append-nil}
use Rattle.std.specs.List.{AllByRecursion}
use Rattle.std.proofs.lemmas.Bool.{eq-eqb, eqb-true}
use Rattle.vm_memory_core.specs.Host.{changed_at}
use Rattle.vm_memory.specs.Memory.{Memory}
use Rattle.fs_queue.specs.Chain.{Descriptor}
use Rattle.fs_queue.specs.Queue.{Queue, with_stop}
use Rattle.fs_queue.specs.Taking.{return_fault, stops_queue}
use Rattle.fs_regions.specs.declared.step.CourseStep as comes
use Rattle.fs_regions.specs.declared.step.CourseStep.TheVariants as step
use Rattle.fs_regions.specs.Walks.{Loaded}
use Rattle.server_meanings.specs.Serving.{May}
use Rattle.live_machine.specs.Several.{LiveQueue, InFlightId, took, gave_up, gave, returning}
use Rattle.live_machine.specs.Live.{Phase, PoppedFaulty, Own, Abandoned, InFlightChain, LiveState, LiveEvent, EndsPop, RefusesPop}
use Rattle.live_machine.specs.Live.{DecodesRequest, ReceivesAnswer, PushesChain, StoresNotification, ResetsQueue, FillsBuffer, GivesUpChain}
use Rattle.live_machine.specs.Live.{Abandons, RepliesOwnBytes, Remaps, MovesDevice, Happens, LiveRun, IfKeepsReturns, KeepsQueue}
use Rattle.live_machine.specs.Live.{KeepsReturns, EndsPopIn, after_answer, after_decoding, after_reset, after_giving_up, abandoned_chain}
use Rattle.live_machine.specs.Live.{after_abandoning, after_push, after_own, asked_chain, fault_of_phase, new_chain, room_of_phase}
use Rattle.live_machine.specs.Live.{pop_refusal}
use Rattle.live_machine.specs.Runs.{HasNoneInFlight, HasUsedEvent, ReturnIsMapped, ReturnsAreMapped, are_mapped, in_flight_on}
use Rattle.live_machine.proofs.Alone.{Walked, all_both, all_left, all_right, walked_there}
use Rattle.live_machine.proofs.Declined.{has_events, seen_has_a_place}
use Rattle.live_machine.proofs.Offered.{RoomFits, fetched_fits, is_returned}
use Rattle.live_machine.proofs.Queues.{apart_of, dropped, carries_on, kept_not, none_some, one_ticket, same_some, there_other}
use Rattle.live_machine.proofs.Queues.{there_same, tickets-append}

-- ---- the returns that are to come

-- the next return has places
abbrev pub Next : Memory → LiveQueue → Type 0
Next m w = (return_fault m (returning w) ≡ None) × HasUsedEvent m w × (w.next_used < 2 ^ 16)

-- so have n returns from the next one on, and behind them is the position where the next chain is taken
abbrev pub Ahead : Memory → LiveQueue → ℕ → Type 0
Ahead m w zero = HasNoneInFlight w
Ahead m w (suc n) = Next m w × Ahead m (gave w) n

small_next : (p : ℕ) → (p + 1) % 2 ^ 16 < 2 ^ 16
small_next p = omega arith

even_took : (w : LiveQueue) → HasNoneInFlight w → HasNoneInFlight (gave (took w))
even_took w even = (ap (λ (r : ℕ). (r + 1) % 2 ^ 16) even.0, small_next w.queue.position)

ahead_took :
    (m : Memory) (w : LiveQueue) (n : ℕ) → return_fault m w.queue ≡ None → HasUsedEvent m w → Ahead m w n → Ahead m (took w) (suc n)
ahead_took m w zero proceeds event even = (
  (
    subst (λ (r : ℕ). return_fault m (record (w.queue) { position = r }) ≡ None) (sym even.0) proceeds,
    event,
    subst (λ (r : ℕ). r < 2 ^ 16) (sym even.0) even.1,
  ),
  even_took w even,
)
ahead_took m w (suc n) proceeds event ahead = (ahead.0, ahead_took m (gave w) n proceeds event ahead.1)

ahead_stopped : (m : Memory) (w : LiveQueue) (n : ℕ) → Ahead m w n → Ahead m (record w { queue = with_stop w.queue }) n
ahead_stopped m w zero even = even
ahead_stopped m w (suc n) ahead = (ahead.0, ahead_stopped m (gave w) n ahead.1)

ahead_same : (m : Memory) (w : LiveQueue) (n : ℕ) → Ahead m w n → Ahead m (record w { queue = w.queue }) n
ahead_same m w zero even = even
ahead_same m w (suc n) ahead = (ahead.0, ahead_same m (gave w) n ahead.1)

ahead_refused : (m : Memory) (w : LiveQueue) (n : ℕ) (b : Bool) → Ahead m w n →
    Ahead m (record w { queue = if b then with_stop w.queue else w.queue }) n
ahead_refused m w n true ahead = ahead_stopped m w n ahead
ahead_refused m w n false ahead = ahead_same m w n ahead

-- the youngest is given up
back_one : (r p : ℕ) → r < 2 ^ 16 → (r + 1) % 2 ^ 16 ≡ p → r ≡ (p + (2 ^ 16 - 1)) % 2 ^ 16
back_one r p small is = omega (arith, small, is)

small_back : (p : ℕ) → (p + (2 ^ 16 - 1)) % 2 ^ 16 < 2 ^ 16
small_back p = omega arith

ahead_dropped : (m : Memory) (w : LiveQueue) (n : ℕ) → Ahead m w (suc n) → Ahead m (gave_up w) n
ahead_dropped m w zero ahead =
    let even : HasNoneInFlight (gave w) = ahead.1 in (back_one w.next_used w.queue.position ahead.0.2 even.0, small_back w.queue.position)
ahead_dropped m w (suc n) ahead = (ahead.0, ahead_dropped m (gave w) n ahead.1)

-- by a memory that keeps a queue's returns there are as many ahead
kept_gave : (m m' : Memory) (w : LiveQueue) → KeepsReturns m m' w → KeepsReturns m m' (gave w)
kept_gave m m' w keeps = record { returns = keeps.returns; event = keeps.event }

next_mapped : (m m' : Memory) (w : LiveQueue) → KeepsReturns m m' w → Next m w → Next m' w
next_mapped m m' w keeps next = (keeps.returns w.next_used ∙ next.0, λ event. keeps.event ∙ next.1 event, next.2)

ahead_mapped : (m m' : Memory) (w : LiveQueue) (n : ℕ) → KeepsReturns m m' w → Ahead m w n → Ahead m' w n
ahead_mapped m m' w zero keeps even = even
ahead_mapped m m' w (suc n) keeps ahead =
    (next_mapped m m' w keeps ahead.0, ahead_mapped m m' (gave w) n (kept_gave m m' w keeps) ahead.1)

-- ---- states

even_at : (ws : List LiveQueue) (i : ℕ) (w : LiveQueue) → AllByRecursion HasNoneInFlight ws → slice_get ws i ≡ Some w → HasNoneInFlight w
even_at [] i w all there = absurd (none_some w there)
even_at (v ∷ ws) zero w all there = subst HasNoneInFlight (same_some v w there) all.0
even_at (v ∷ ws) (suc i) w all there = even_at ws i w all.1 there

one_left : (i j : ℕ) (c : InFlightChain) (cs : List InFlightChain) (b : Bool) → (c.queue == j) ≡ b → (j == i) ≡ true →
    in_flight_on i (filter (λ c. not (c.queue == j)) cs) ≡ [] →
    in_flight_on i (filter (λ c. not (c.queue == j)) (c ∷ cs)) ≡ []
one_left i j c cs true is mine rest =
    ap (λ (l : List InFlightChain). in_flight_on i l) (kept_not (λ c. not (c.queue == j)) c cs false (ap not is)) ∙ rest
one_left i j c cs false is mine rest =
    let apart : (c.queue == i) ≡ false = ap (λ (n : ℕ). c.queue == n) (sym (eqb-true j i mine)) ∙ is in
    ap (λ (l : List InFlightChain). in_flight_on i l) (kept_not (λ c. not (c.queue == j)) c cs true (ap not is))
    ∙ one_ticket i c (filter (λ c. not (c.queue == j)) cs) false apart ∙ rest

sum_suc : (a b : ℕ) → a + suc b ≡ suc (a + b)
sum_suc a b = omega arith

none_left : (i j : ℕ) (cs : List InFlightChain) → (j == i) ≡ true → in_flight_on i (filter (λ c. not (c.queue == j)) cs) ≡ []
none_left i j [] is = refl
none_left i j (c ∷ cs) is = one_left i j c cs (c.queue == j) refl is (none_left i j cs is)

-- how many chains of queue i are out
module _ (i : ℕ) where
  abbrev out_on : List InFlightChain → ℕ
  out_on cs = length (in_flight_on i cs)

  -- one more is out
  one_more : (cs : List InFlightChain) (c : InFlightChain) → (c.queue == i) ≡ true → out_on (cs ++ c ∷ []) ≡ suc (out_on cs)
  one_more cs c is =
      ap (λ (l : List InFlightId). length l)
      (tickets-append i cs (c ∷ []) ∙ ap (λ (l : List InFlightId). in_flight_on i cs ++ l) (one_ticket i c [] true is))
      ∙ length-append (in_flight_on i cs) ((c.taken.position, c.head) ∷ []) ∙ omega arith

  -- a chain of another queue is none
  none_more : (cs : List InFlightChain) (c : InFlightChain) → (c.queue == i) ≡ false → out_on (cs ++ c ∷ []) ≡ out_on cs
  none_more cs c is =
      ap (λ (l : List InFlightId). length l)
      (tickets-append i cs (c ∷ []) ∙ ap (λ (l : List InFlightId). in_flight_on i cs ++ l) (one_ticket i c [] false is)
      ∙ append-nil (in_flight_on i cs))

  -- one goes back
  one_less :
      (before behind : List InFlightChain) (c : InFlightChain) → (c.queue == i) ≡ true →
      out_on (before ++ c ∷ behind) ≡ suc (out_on (before ++ behind))
  one_less before behind c is =
      ap (λ (l : List InFlightId). length l)
      (tickets-append i before (c ∷ behind) ∙ ap (λ (l : List InFlightId). in_flight_on i before ++ l) (one_ticket i c behind true is))
      ∙ length-append (in_flight_on i before) ((c.taken.position, c.head) ∷ in_flight_on i behind)
      ∙ sum_suc (out_on before) (out_on behind)
      ∙ ap suc (sym (ap (λ (l : List InFlightId). length l) (tickets-append i before behind)
      ∙ length-append (in_flight_on i before) (in_flight_on i behind)))

  none_less :
      (before behind : List InFlightChain) (c : InFlightChain) → (c.queue == i) ≡ false →
      out_on (before ++ behind) ≡ out_on (before ++ c ∷ behind)
  none_less before behind c is =
      ap (λ (l : List InFlightId). length l)
      (tickets-append i before behind ∙ sym (tickets-append i before (c ∷ behind)
      ∙ ap (λ (l : List InFlightId). in_flight_on i before ++ l) (one_ticket i c behind false is)))

module _ (i : ℕ) where
  -- the chains of queue i that are out have places ahead
  abbrev pub Kept : {F : Type 0} → LiveState F → Type 0
  Kept s = (w : LiveQueue) → slice_get s.queues i ≡ Some w → Ahead s.places w (out_on i s.chains)

  -- a queue is another one from now on
  changes : {F : Type 0} (s mid : LiveState F) (j : ℕ) (v v' : LiveQueue) (b : Bool) → (j == i) ≡ b → mid.places ≡ s.places
      → mid.queues ≡ changed_at s.queues j (λ _. v')
      → slice_get s.queues j ≡ Some v → ((j == i) ≡ true → Ahead s.places v (out_on i s.chains) → Ahead s.places v' (out_on i mid.chains))
      → ((j == i) ≡ false → out_on i mid.chains ≡ out_on i s.chains)
      → Kept s → Kept mid
  changes s mid j v v' true is places queues at mine others kept =
      let same : j ≡ i = eqb-true j i is in
      let here : slice_get s.queues i ≡ Some v = subst (λ (n : ℕ). slice_get s.queues n ≡ Some v) same at in
      let now : slice_get mid.queues i ≡ Some v' =
      ap (λ (l : List LiveQueue). slice_get l i) queues ∙ there_same s.queues j i (λ _. v') v same here in
      λ w there.
      subst (λ (k : Memory). Ahead k w (out_on i mid.chains)) (sym places)
      (subst (λ (k : LiveQueue). Ahead s.places k (out_on i mid.chains)) (same_some v' w (sym now ∙ there)) (mine is (kept v here)))
  changes s mid j v v' false is places queues at mine others kept =
      let now : slice_get mid.queues i ≡ slice_get s.queues i =
      ap (λ (l : List LiveQueue). slice_get l i) queues ∙ there_other s.queues j i (λ _. v') (apart_of j i is) in
      λ w there. subst (λ (k : Memory). Ahead k w (out_on i mid.chains)) (sym places)
      (subst (λ (n : ℕ). Ahead s.places w n) (sym (others is)) (kept w (sym now ∙ there)))

  -- the queues and how many are out stay
  stays : {F : Type 0} (s mid : LiveState F) → mid.places ≡ s.places → mid.queues ≡ s.queues →
      in_flight_on i mid.chains ≡ in_flight_on i s.chains
      → Kept s → Kept mid
  stays s mid places queues chains kept =
      λ w there.
      subst (λ (k : Memory). Ahead k w (out_on i mid.chains)) (sym places)
      (subst (λ (n : ℕ). Ahead s.places w n) (sym (ap (λ (l : List InFlightId). length l) chains))
      (kept w (sym (ap (λ (l : List LiveQueue). slice_get l i) queues) ∙ there)))

  refuses : {F : Type 0} (s : LiveState F) (j : ℕ) (v : LiveQueue) (stops : Bool) → slice_get s.queues j ≡ Some v → Kept s
      → Kept (record s { queues = changed_at s.queues j (λ _. record v { queue = if stops then with_stop v.queue else v.queue }) })
  refuses {F} s j v stops at kept =
      let v' : LiveQueue = record v { queue = if stops then with_stop v.queue else v.queue } in
      changes s (record s { queues = changed_at s.queues j (λ _. v') }) j v v' (j == i) refl refl refl at
      (λ is ahead. ahead_refused s.places v (out_on i s.chains) stops ahead) (λ is. refl) kept

  takes : {F : Type 0} (s : LiveState F) (j : ℕ) (v : LiveQueue) (c : InFlightChain) → c.queue ≡ j → slice_get s.queues j ≡ Some v
      → return_fault s.places v.queue ≡ None → HasUsedEvent s.places v → Kept s
      → Kept (record s { queues = changed_at s.queues j (λ _. took v); chains = s.chains ++ c ∷ [] })
  takes {F} s j v c of_queue at proceeds event kept =
      changes s (record s { queues = changed_at s.queues j (λ _. took v); chains = s.chains ++ c ∷ [] }) j v (took v)
      (j == i) refl refl refl at
      (λ is ahead. subst (λ (n : ℕ). Ahead s.places (took v) n) (sym (one_more i s.chains c (ap (λ (n : ℕ). n == i) of_queue ∙ is)))
      (ahead_took s.places v (out_on i s.chains) proceeds event ahead))
      (λ is. none_more i s.chains c (ap (λ (n : ℕ). n == i) of_queue ∙ is)) kept

  walks : {F : Type 0} (s mid : LiveState F) (j : ℕ) (v : LiveQueue) (loaded : Loaded) (ds : List Descriptor) (came : comes.CourseStep)
      → slice_get s.queues j ≡ Some v
      → pop_refusal s.places v ≡ None → EndsPopIn s j v loaded ds came mid → Kept s → Kept mid
  walks s mid j v loaded ds (step.Load walk) at clear h kept = absurd h
  walks s mid j v loaded ds (step.Missing range access) at clear h kept = absurd h
  walks {F} s mid j v loaded ds step.Idle at clear h kept = subst (λ (k : LiveState F). Kept k) (sym h.1) kept
  walks {F} s mid j v loaded ds (step.Refused e) at clear h kept = subst (λ (k : LiveState F). Kept k) (sym h.1)
      (refuses s j v (stops_queue e) at kept)
  walks {F} s mid j v loaded ds (step.Chain head fault) at clear h kept =
      let proceeds = (fetched_fits s.places s.limit v.queue loaded ds head fault h.0).0 in
      subst (λ (k : LiveState F). Kept k) (sym h.1)
      (takes s j v (new_chain s j v loaded ds head fault) refl at proceeds (λ event. (has_events s.places v clear event).0) kept)

  -- a queue of which a chain is out keeps its returns
  of_one : {F : Type 0} (s : LiveState F) (m' : Memory) (w : LiveQueue) (c : InFlightChain) → slice_get s.queues i ≡ Some w
      → (c.queue == i) ≡ true → KeepsQueue s m' c → KeepsReturns s.places m' w
  of_one s m' w c there is keeps =
      subst (λ (k : Option LiveQueue). IfKeepsReturns s.places m' k)
      (ap (λ (n : ℕ). slice_get s.queues n) (eqb-true c.queue i is) ∙ there) keeps

  mapped_by : {F : Type 0} (s : LiveState F) (m' : Memory) (w : LiveQueue) (c : InFlightChain) (b : Bool) → slice_get s.queues i ≡ Some w
      → (c.queue == i) ≡ b → KeepsQueue s m' c → (cs : List InFlightChain)
      → (Ahead s.places w (out_on i cs) → Ahead m' w (out_on i cs)) → Ahead s.places w (out_on i (c ∷ cs)) → Ahead m' w (out_on i (c ∷ cs))
  mapped_by s m' w c true there is keeps cs rest ahead = ahead_mapped s.places m' w (out_on i (c ∷ cs))
      (of_one s m' w c there is keeps) ahead
  mapped_by s m' w c false there is keeps cs rest ahead =
      let none : out_on i (c ∷ cs) ≡ out_on i cs = ap (λ (l : List InFlightId). length l) (one_ticket i c cs false is) in
      subst (λ (n : ℕ). Ahead m' w n) (sym none) (rest (subst (λ (n : ℕ). Ahead s.places w n) none ahead))

  mapped_all : {F : Type 0} (s : LiveState F) (m' : Memory) (w : LiveQueue) (cs : List InFlightChain) → slice_get s.queues i ≡ Some w
      → AllByRecursion (KeepsQueue s m') cs
      → Ahead s.places w (out_on i cs) → Ahead m' w (out_on i cs)
  mapped_all s m' w [] there keeps ahead = ahead
  mapped_all s m' w (c ∷ cs) there keeps ahead = mapped_by s m' w c (c.queue == i) there refl keeps.0 cs
      (λ rest. mapped_all s m' w cs there keeps.1 rest) ahead

  keeps : {F : Type 0} (may : May F) (s mid : LiveState F) (e : LiveEvent) → Happens may s e mid → Kept s → Kept mid
  keeps may s mid (EndsPop j loaded ds came) h kept = walks s mid j h.w loaded ds came h.there h.proceeds h.ends kept
  keeps {F} may s mid (RefusesPop j e) h kept = subst (λ (k : LiveState F). Kept k) (sym h.state)
      (refuses s j h.w (stops_queue e) h.there kept)
  keeps {F} may s mid (DecodesRequest c request decoded) h kept =
      subst (λ (k : LiveState F). Kept k) (sym h.state)
      (stays s (after_decoding s h.before h.behind c request) refl refl
      (carries_on i h.before h.behind c (asked_chain c request s.options []) (c.queue == i) refl refl refl
      ∙ sym (ap (λ (l : List InFlightChain). in_flight_on i l) h.out)) kept)
  keeps {F} may s mid (ReceivesAnswer c call answer) h kept =
      let calls = h.calls ++ (call, answer) ∷ [] in
      subst (λ (k : LiveState F). Kept k) (sym h.state)
      (stays s (after_answer s h.before h.behind c h.request h.options calls h.files) refl refl
      (carries_on i h.before h.behind c (asked_chain c h.request h.options calls) (c.queue == i) refl refl refl
      ∙ sym (ap (λ (l : List InFlightChain). in_flight_on i l) h.out)) kept)
  keeps {F} may s mid (PushesChain c x notice last used seen) h kept =
      let mid' = after_push s h.before h.behind c h.w in
      let out : out_on i s.chains ≡ out_on i (h.before ++ c ∷ h.behind) = ap (λ (cs : List InFlightChain). out_on i cs) h.out in
      subst (λ (k : LiveState F). Kept k) (sym h.state)
      (changes s mid' c.queue h.w (gave h.w) (c.queue == i) refl refl refl h.there
      (λ is ahead. (subst (λ (n : ℕ). Ahead s.places h.w n) (out ∙ one_less i h.before h.behind c is) ahead).1)
      (λ is. none_less i h.before h.behind c is ∙ sym out) kept)
  keeps {F} may s mid (StoresNotification j store) h kept = subst (λ (k : LiveState F). Kept k) (sym h.state) kept
  keeps {F} may s mid (ResetsQueue j v) h kept =
      subst (λ (k : LiveState F). Kept k) (sym h.state)
      (changes s (after_reset s j v) j h.old v (j == i) refl refl refl h.there
      (λ is ahead. subst (λ (l : List InFlightId). Ahead s.places v (length l)) (sym (none_left i j s.chains is)) h.positions_agree)
      (λ is. ap (λ (l : List InFlightId). length l) (dropped i j s.chains (apart_of j i is))) kept)
  keeps {F} may s mid (FillsBuffer c stores) h kept = subst (λ (k : LiveState F). Kept k) (sym h.state) kept
  keeps {F} may s mid (GivesUpChain c) h kept =
      let out : out_on i s.chains ≡ out_on i (h.before ++ c ∷ h.behind) = ap (λ (cs : List InFlightChain). out_on i cs) h.out in
      subst (λ (k : LiveState F). Kept k) (sym h.state)
      (changes s (after_giving_up s h.before h.behind c h.w) c.queue h.w (gave_up h.w) (c.queue == i) refl refl refl h.there
      (λ is ahead. ahead_dropped s.places h.w (out_on i (h.before ++ h.behind))
      (subst (λ (n : ℕ). Ahead s.places h.w n) (out ∙ one_less i h.before h.behind c is) ahead))
      (λ is. none_less i h.before h.behind c is ∙ sym out) kept)
  keeps {F} may s mid (Abandons c) h kept =
      subst (λ (k : LiveState F). Kept k) (sym h.state)
      (stays s (after_abandoning s h.before h.behind c) refl refl
      (carries_on i h.before h.behind c (abandoned_chain c) (c.queue == i) refl refl refl ∙ sym
      (ap (λ (l : List InFlightChain). in_flight_on i l) h.out))
      kept)
  keeps {F} may s mid (RepliesOwnBytes c request reply options) h kept =
      subst (λ (k : LiveState F). Kept k) (sym h.state)
      (stays s (after_own s h.before h.behind c request reply options) refl refl
      (carries_on i h.before h.behind c (record c { phase = Own request reply }) (c.queue == i) refl refl refl
      ∙ sym (ap (λ (l : List InFlightChain). in_flight_on i l) h.out)) kept)
  keeps {F} may s mid (Remaps m') h kept =
      subst (λ (k : LiveState F). Kept k) (sym h.state) (λ w there. mapped_all s m' w s.chains there h.keeps (kept w there))
  keeps {F} may s mid (MovesDevice m' queues) h kept =
      subst (λ (k : LiveState F). Kept k) (sym h.state)
      (λ w there. subst (λ (cs : List InFlightChain). Ahead m' w (out_on i cs)) (sym h.none_in_flight)
      (even_at queues i w h.positions_agree there))
  keeps {F} may s mid _ h kept = subst (λ (k : LiveState F). Kept k) (sym h.state) kept

  pub run_kept : {F : Type 0} (may : May F) (s now : LiveState F) (es : List LiveEvent) → LiveRun may s es now → Kept s
      → Kept now
  run_kept {F} may s now [] run kept = subst (λ (k : LiveState F). Kept k) (sym run) kept
  run_kept may s now (e ∷ es) run kept = run_kept may run.0 now es run.2 (keeps may s run.0 e run.1 kept)

  -- from no chain out on
  pub started : {F : Type 0} (s : LiveState F) → s.chains ≡ [] → AllByRecursion HasNoneInFlight s.queues → Kept s
  started s none even = λ w there. subst (λ (cs : List InFlightChain). Ahead s.places w (out_on i cs)) (sym none)
      (even_at s.queues i w even there)

-- ---- the places of chains that are out, and those of now

-- the layout of a queue
abbrev pub laid : Queue → Queue
laid q = record q { position = 0; stopped = false }

-- a queue's returns have places by both, and it is laid out as when the chain was taken
abbrev IfTied : (m : Memory) → (taken : Queue) → (now : Memory) → Option LiveQueue → Type 0
IfTied m taken now None = Unit {0}
IfTied m taken now (Some w) = KeepsReturns m now w × (laid w.queue ≡ laid taken)

-- so are their queues
abbrev Tied : (now : Memory) → List LiveQueue → InFlightChain → Type 0
Tied now ws c = IfTied c.places c.taken now (slice_get ws c.queue)

abbrev AllTied : {F : Type 0} → LiveState F → Type 0
AllTied s = AllByRecursion (Tied s.places s.queues) s.chains

-- a queue whose parts stay keeps them so
abbrev StaysLaid : LiveQueue → LiveQueue → Type 0
StaysLaid v v' = ((m m' : Memory) → KeepsReturns m m' v → KeepsReturns m m' v') × (laid v'.queue ≡ laid v.queue)

refusal_moves : (v : LiveQueue) (stops : Bool) → StaysLaid v (record v { queue = if stops then with_stop v.queue else v.queue })
refusal_moves v true = (λ m m' keeps. record { returns = keeps.returns; event = keeps.event }, refl)
refusal_moves v false = (λ m m' keeps. record { returns = keeps.returns; event = keeps.event }, refl)

one_tied : (now : Memory) (ws : List LiveQueue) (j : ℕ) (v v' : LiveQueue) (c : InFlightChain) (b : Bool) → (j == c.queue) ≡ b
    → slice_get ws j ≡ Some v → StaysLaid v v' → Tied now ws c
    → Tied now (changed_at ws j (λ _. v')) c
one_tied now ws j v v' c true is at moves tied =
    let same : j ≡ c.queue = eqb-true j c.queue is in
    let here : slice_get ws c.queue ≡ Some v = ap (λ (n : ℕ). slice_get ws n) (sym same) ∙ at in
    let old : IfTied c.places c.taken now (Some v) = subst (λ (k : Option LiveQueue). IfTied c.places c.taken now k) here tied in
    subst (λ (k : Option LiveQueue). IfTied c.places c.taken now k) (sym (there_same ws j c.queue (λ _. v') v same here))
    (moves.0 c.places now old.0, moves.1 ∙ old.1)
one_tied now ws j v v' c false is at moves tied =
    subst (λ (k : Option LiveQueue). IfTied c.places c.taken now k) (sym (there_other ws j c.queue (λ _. v') (apart_of j c.queue is))) tied

all_tied : (now : Memory) (ws : List LiveQueue) (j : ℕ) (v v' : LiveQueue) (cs : List InFlightChain) → slice_get ws j ≡ Some v →
    StaysLaid v v'
    → AllByRecursion (Tied now ws) cs
    → AllByRecursion (Tied now (changed_at ws j (λ _. v'))) cs
all_tied now ws j v v' [] at moves all = tt
all_tied now ws j v v' (c ∷ cs) at moves all =
    (one_tied now ws j v v' c (j == c.queue) refl at moves all.0, all_tied now ws j v v' cs at moves all.1)

-- one of those that are out is another one from now on, of the same walk
one_changed : (now : Memory) (ws : List LiveQueue) (before behind : List InFlightChain) (c d : InFlightChain) (chains : List InFlightChain)
    → chains ≡ before ++ c ∷ behind → (Tied now ws c → Tied now ws d)
    → AllByRecursion (Tied now ws) chains → AllByRecursion (Tied now ws) (before ++ d ∷ behind)
one_changed now ws before behind c d chains is more all =
    let P = Tied now ws in
    let split = subst (AllByRecursion P) is all in
    let right = all_right P before (c ∷ behind) split in
    all_both P before (d ∷ behind) (all_left P before (c ∷ behind) split) (more right.0, right.1)

-- or is out no more
one_less_tied : (now : Memory) (ws : List LiveQueue) (before behind : List InFlightChain) (c : InFlightChain) (chains : List InFlightChain)
    → chains ≡ before ++ c ∷ behind → AllByRecursion (Tied now ws) chains
    → AllByRecursion (Tied now ws) (before ++ behind)
one_less_tied now ws before behind c chains is all =
    let P = Tied now ws in
    let split = subst (AllByRecursion P) is all in
    all_both P before behind (all_left P before (c ∷ behind) split) (all_right P before (c ∷ behind) split).1

tied_there : (now : Memory) (ws : List LiveQueue) (before behind : List InFlightChain) (c : InFlightChain) (chains : List InFlightChain) →
    chains ≡ before ++ c ∷ behind → AllByRecursion (Tied now ws) chains → Tied now ws c
tied_there now ws before behind c chains is all =
    (all_right (Tied now ws) before (c ∷ behind) (subst (AllByRecursion (Tied now ws)) is all)).0

-- a queue is begun anew: none of its chains is out
one_left_tied : (now : Memory) (ws : List LiveQueue) (j : ℕ) (v : LiveQueue) (c : InFlightChain) (cs : List InFlightChain) (b : Bool)
    → (c.queue == j) ≡ b → Tied now ws c
    → AllByRecursion (Tied now (changed_at ws j (λ _. v))) (filter (λ c. not (c.queue == j)) cs)
    → AllByRecursion (Tied now (changed_at ws j (λ _. v))) (filter (λ c. not (c.queue == j)) (c ∷ cs))
one_left_tied now ws j v c cs true is tied rest =
    subst (AllByRecursion (Tied now (changed_at ws j (λ _. v)))) (sym (kept_not (λ c. not (c.queue == j)) c cs false (ap not is))) rest
one_left_tied now ws j v c cs false is tied rest =
    let other : Tied now (changed_at ws j (λ _. v)) c =
    subst (λ (k : Option LiveQueue). IfTied c.places c.taken now k)
    (sym (there_other ws j c.queue (λ _. v) (λ same. apart_of c.queue j is (sym same)))) tied in
    subst (AllByRecursion (Tied now (changed_at ws j (λ _. v)))) (sym (kept_not (λ c. not (c.queue == j)) c cs true (ap not is)))
    (other, rest)

left_tied : (now : Memory) (ws : List LiveQueue) (j : ℕ) (v : LiveQueue) (cs : List InFlightChain) → AllByRecursion (Tied now ws) cs
    → AllByRecursion (Tied now (changed_at ws j (λ _. v))) (filter (λ c. not (c.queue == j)) cs)
left_tied now ws j v [] all = tt
left_tied now ws j v (c ∷ cs) all = one_left_tied now ws j v c cs (c.queue == j) refl all.0 (left_tied now ws j v cs all.1)

-- other places keep them
joined_tied : (m : Memory) (taken : Queue) (now m' : Memory) (q : Option LiveQueue) → IfTied m taken now q → IfKeepsReturns now m' q →
    IfTied m taken m' q
joined_tied m taken now m' None one two = tt
joined_tied m taken now m' (Some w) one two =
    (record { returns = λ p. two.returns p ∙ one.0.returns p; event = two.event ∙ one.0.event }, one.1)

mapped_tied : {F : Type 0} (s : LiveState F) (m' : Memory) (cs : List InFlightChain) → AllByRecursion (KeepsQueue s m') cs →
    AllByRecursion (Tied s.places s.queues) cs → AllByRecursion (Tied m' s.queues) cs
mapped_tied s m' [] keeps all = tt
mapped_tied s m' (c ∷ cs) keeps all =
    (joined_tied c.places c.taken s.places m' (slice_get s.queues c.queue) all.0 keeps.0, mapped_tied s m' cs keeps.1 all.1)

refusal_tied : {F : Type 0} (s : LiveState F) (j : ℕ) (v : LiveQueue) (stops : Bool) → slice_get s.queues j ≡ Some v → AllTied s
    → AllTied (record s { queues = changed_at s.queues j (λ _. record v { queue = if stops then with_stop v.queue else v.queue }) })
refusal_tied s j v stops at all =
    all_tied s.places s.queues j v (record v { queue = if stops then with_stop v.queue else v.queue }) s.chains at
    (refusal_moves v stops) all

walk_tied : {F : Type 0} (s mid : LiveState F) (j : ℕ) (v : LiveQueue) (loaded : Loaded) (ds : List Descriptor) (came : comes.CourseStep)
    → slice_get s.queues j ≡ Some v → EndsPopIn s j v loaded ds came mid
    → AllTied s → AllTied mid
walk_tied s mid j v loaded ds (step.Load walk) at h all = absurd h
walk_tied s mid j v loaded ds (step.Missing range access) at h all = absurd h
walk_tied {F} s mid j v loaded ds step.Idle at h all = subst (λ (k : LiveState F). AllTied k) (sym h.1) all
walk_tied {F} s mid j v loaded ds (step.Refused e) at h all =
    subst (λ (k : LiveState F). AllTied k) (sym h.1) (refusal_tied s j v (stops_queue e) at all)
walk_tied {F} s mid j v loaded ds (step.Chain head fault) at h all =
    let c = new_chain s j v loaded ds head fault in
    let ws = changed_at s.queues j (λ _. took v) in
    let mine : Tied s.places ws c =
    subst (λ (k : Option LiveQueue). IfTied s.places v.queue s.places k) (sym (there_same s.queues j j (λ _. took v) v refl at))
    (record { returns = λ p. refl; event = refl }, refl) in
    subst (λ (k : LiveState F). AllTied k) (sym h.1)
    (all_both (Tied s.places ws) s.chains (c ∷ []) (all_tied s.places s.queues j v (took v) s.chains at
    (λ m m' keeps. record { returns = keeps.returns; event = keeps.event }, refl) all) (mine, tt))

ties : {F : Type 0} (may : May F) (s mid : LiveState F) (e : LiveEvent) → Happens may s e mid → AllTied s → AllTied mid
ties may s mid (EndsPop j loaded ds came) h all = walk_tied s mid j h.w loaded ds came h.there h.ends all
ties {F} may s mid (RefusesPop j e) h all =
    subst (λ (k : LiveState F). AllTied k) (sym h.state) (refusal_tied s j h.w (stops_queue e) h.there all)
ties {F} may s mid (DecodesRequest c request decoded) h all =
    subst (λ (k : LiveState F). AllTied k) (sym h.state)
    (one_changed s.places s.queues h.before h.behind c (asked_chain c request s.options []) s.chains h.out (λ tied. tied) all)
ties {F} may s mid (ReceivesAnswer c call answer) h all =
    subst (λ (k : LiveState F). AllTied k) (sym h.state)
    (one_changed s.places s.queues h.before h.behind c (asked_chain c h.request h.options (h.calls ++ (call, answer) ∷ [])) s.chains h.out
    (λ tied. tied) all)
ties {F} may s mid (PushesChain c x notice last used seen) h all =
    subst (λ (k : LiveState F). AllTied k) (sym h.state)
    (all_tied s.places s.queues c.queue h.w (gave h.w) (h.before ++ h.behind) h.there
    (λ m m' keeps. record { returns = keeps.returns; event = keeps.event }, refl)
    (one_less_tied s.places s.queues h.before h.behind c s.chains h.out all))
ties {F} may s mid (StoresNotification j store) h all = subst (λ (k : LiveState F). AllTied k) (sym h.state) all
ties {F} may s mid (ResetsQueue j v) h all =
    subst (λ (k : LiveState F). AllTied k) (sym h.state) (left_tied s.places s.queues j v s.chains all)
ties {F} may s mid (FillsBuffer c stores) h all = subst (λ (k : LiveState F). AllTied k) (sym h.state) all
ties {F} may s mid (GivesUpChain c) h all =
    subst (λ (k : LiveState F). AllTied k) (sym h.state)
    (all_tied s.places s.queues c.queue h.w (gave_up h.w) (h.before ++ h.behind) h.there
    (λ m m' keeps. record { returns = keeps.returns; event = keeps.event }, refl)
    (one_less_tied s.places s.queues h.before h.behind c s.chains h.out all))
ties {F} may s mid (Abandons c) h all =
    subst (λ (k : LiveState F). AllTied k) (sym h.state)
    (one_changed s.places s.queues h.before h.behind c (abandoned_chain c) s.chains h.out (λ tied. tied) all)
ties {F} may s mid (RepliesOwnBytes c request reply options) h all =
    subst (λ (k : LiveState F). AllTied k) (sym h.state)
    (one_changed s.places s.queues h.before h.behind c (record c { phase = Own request reply }) s.chains h.out (λ tied. tied) all)
ties {F} may s mid (Remaps m') h all = subst (λ (k : LiveState F). AllTied k) (sym h.state) (mapped_tied s m' s.chains h.keeps all)
ties {F} may s mid (MovesDevice m' queues) h all =
    subst (λ (k : LiveState F). AllTied k) (sym h.state) (subst (AllByRecursion (Tied m' queues)) (sym h.none_in_flight) tt)
ties {F} may s mid _ h all = subst (λ (k : LiveState F). AllTied k) (sym h.state) all

run_ties : {F : Type 0} (may : May F) (s now : LiveState F) (es : List LiveEvent) → LiveRun may s es now → AllTied s → AllTied now
run_ties {F} may s now [] run all = subst (λ (k : LiveState F). AllTied k) (sym run) all
run_ties may s now (e ∷ es) run all = run_ties may run.0 now es run.2 (ties may s run.0 e run.1 all)

-- a chain that is out of a run keeps its queue's layout
pub laid_there : {F : Type 0} (may : May F) (s now : LiveState F) (es : List LiveEvent) (c : InFlightChain)
    (before behind : List InFlightChain) (w : LiveQueue)
    → s.chains ≡ [] → LiveRun may s es now → now.chains ≡ before ++ c ∷ behind → slice_get now.queues c.queue ≡ Some w
    → laid w.queue ≡ laid c.taken
laid_there may s now es c before behind w none run out there =
    let start : AllTied s = subst (AllByRecursion (Tied s.places s.queues)) (sym none) tt in
    let tied : Tied now.places now.queues c =
    tied_there now.places now.queues before behind c now.chains out (run_ties may s now es run start) in
    (subst (λ (k : Option LiveQueue). IfTied c.places c.taken now.places k) there tied).1

-- ---- a chain that goes back

-- its room
room_fits : (m : Memory) (ds : List Descriptor) (p : Phase) → RoomFits m ds (fault_of_phase p) → are_mapped m (room_of_phase p ds) ≡ true
room_fits m ds (PoppedFaulty why) fits = refl
room_fits m ds (Abandoned fault) fits = refl
room_fits m ds p fits = fits

-- its return has places by those of its walk, as it has by those of now
back_there : (now m : Memory) (w : LiveQueue) → KeepsReturns m now w → Next now w → Next m w
back_there now m w keeps next = (sym (keeps.returns w.next_used) ∙ next.0, λ event. sym keeps.event ∙ next.1 event, next.2)

-- the addresses of a return that is ahead
return_there : (m : Memory) (w : LiveQueue) → Next m w → ReturnIsMapped m w
return_there m w next =
    let places = is_returned m (returning w) next.0 in
    record { element = places.0; index = places.1; flags = places.2; used_event = next.1; seen = seen_has_a_place m w places.2 next.1 }

pub returns_have_places : {F : Type 0} (may : May F) → ReturnsAreMapped may
returns_have_places {F} may s now after es c x notice last used seen none even run h =
    let i = c.queue in
    let kept = run_kept i may s now es run (started i s none even) in
    let out : out_on i now.chains ≡ suc (out_on i (h.before ++ h.behind)) =
    ap (λ (cs : List InFlightChain). out_on i cs) h.out ∙ one_less i h.before h.behind c (eq-eqb c.queue c.queue refl) in
    let ahead : Next now.places h.w = (subst (λ (n : ℕ). Ahead now.places h.w n) out (kept h.w h.there)).0 in
    let start : AllTied s = subst (AllByRecursion (Tied s.places s.queues)) (sym none) tt in
    let tied : Tied now.places now.queues c =
    tied_there now.places now.queues h.before h.behind c now.chains h.out (run_ties may s now es run start) in
    let next : Next c.places h.w =
    back_there now.places c.places h.w (subst (λ (k : Option LiveQueue). IfTied c.places c.taken now.places k) h.there tied).0 ahead in
    let walked : Walked now.limit c = walked_there may s now es c h.before h.behind none run h.out in
    let fetched = fetched_fits c.places now.limit c.taken c.loaded c.descriptors c.head (fault_of_phase c.phase) walked.0 in (
      h.w,
      h.there,
      return_there now.places h.w ahead,
      return_there c.places h.w next,
      room_fits c.places c.descriptors c.phase fetched.1,
    )
