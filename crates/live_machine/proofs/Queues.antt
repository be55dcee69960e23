-- One queue of a run.
use Rattle.std.proofs.Common.{arith, ◌≡◌, ℕ, zero, suc, Bool, List, [], ◌∷◌, ◌++◌, length, filter, Some, None, slice_get, refl}
use Rattle.std.proofs.Common.{subst, sym, ap, ◌∙◌, append-nil}
use Rattle.std.specs.Prelude.{◌+◌, ◌%◌, ◌^◌, not, ◌==◌, true, false, if◌then◌else◌, IsTrue}
use Rattle.std.specs.List.{AllByRecursion}
use Rattle.std.proofs.lemmas.Bool.{eqb-true, eq-eqb}
use Rattle.vm_memory_core.specs.Host.{changed_at}
use Rattle.fs_queue.specs.Chain.{Descriptor}
use Rattle.fs_queue.specs.Queue.{with_stop}
use Rattle.fs_queue.specs.Returning.{Store, stores_after_reply}
use Rattle.fs_queue.specs.Taking.{stops_queue}
use Rattle.fs_regions.specs.declared.step.CourseStep as comes
use Rattle.fs_regions.specs.declared.step.CourseStep.TheVariants as step
use Rattle.fs_regions.specs.Walks.{Loaded}
use Rattle.server_meanings.specs.Serving.{May}
use Rattle.live_machine.specs.Several.{LiveQueue, InFlightId, QueueEvent, RunsOver, may_take, took, gave_up, gave, returning}
use Rattle.live_machine.specs.Several as several
use Rattle.live_machine.proofs.SeveralRuns.{once, used_in_order}
use Rattle.live_machine.specs.Live.{InFlightChain, LiveState, LiveEvent, EndsPop, RefusesPop, DecodesRequest, ReceivesAnswer, PushesChain}
use Rattle.live_machine.specs.Live.{HasEffect, StoresNotification, ResetsQueue, SetsOptions, FillsBuffer, GivesUpChain, Abandons}
use Rattle.live_machine.specs.Live.{RepliesOwnBytes, Remaps, MovesDevice, Happens, LiveRun, EndsPopIn, Own, abandoned_chain}
use Rattle.live_machine.specs.Live.{after_abandoning, after_answer, after_decoding, after_reset, after_giving_up, after_own, asked_chain}
use Rattle.live_machine.specs.Live.{new_chain}
use Rattle.live_machine.specs.Runs.{RunsOnQueue, OncePerLiveChain, LiveUsedInOrder, NoReset, event_on, events_on, in_flight_on, going}

-- ---- queues in their places

pub same_some : {A : Type 0} (x y : A) → Some x ≡ Some y → x ≡ y
same_some x y e = cc

pub none_some : {A : Type 0} (x : A) → None ≡ Some x → ⊥
none_some x e = cc

pub some_none : {A : Type 0} (x : A) → Some x ≡ None → ⊥
some_none x e = cc

pub there_same : {A : Type 0} (xs : List A) (j i : ℕ) (f : A → A) (x : A) → j ≡ i → slice_get xs i ≡ Some x →
    slice_get (changed_at xs j f) i ≡ Some (f x)
there_same {A} [] j i f x same there = absurd (none_some x there)
there_same {A} (y ∷ ys) zero zero f x same there = ap (λ (z : A). Some (f z)) (same_some y x there)
there_same {A} (y ∷ ys) (suc j) (suc i) f x same there = let less : j ≡ i = omega arith in there_same ys j i f x less there
there_same {A} (y ∷ ys) _ _ f x same there = absurd (omega arith)

pub there_other : {A : Type 0} (xs : List A) (j i : ℕ) (f : A → A) → (j ≡ i → ⊥) → slice_get (changed_at xs j f) i ≡ slice_get xs i
there_other (y ∷ ys) zero zero f apart = absurd (apart refl)
there_other (y ∷ ys) (suc j) (suc i) f apart = there_other ys j i f (λ same. apart (ap suc same))
there_other xs j i f apart = refl

not_both : (b : Bool) → b ≡ true → b ≡ false → ⊥
not_both b t f = cc

self : (n : ℕ) → (n == n) ≡ true
self n = eq-eqb n n refl

pub apart_of : (j i : ℕ) → (j == i) ≡ false → j ≡ i → ⊥
apart_of j i other same = not_both (i == i) (self i) (subst (λ (k : ℕ). (k == i) ≡ false) same other)

pub kept_not : (f : InFlightChain → Bool) (c : InFlightChain) (cs : List InFlightChain) (b : Bool) → f c ≡ b →
    filter f (c ∷ cs) ≡ (if b then c ∷ filter f cs else filter f cs)
kept_not f c cs true is = rw is refl
kept_not f c cs false is = rw is refl

module _ (i : ℕ) where
  abbrev ticket_of : InFlightChain → InFlightId
  ticket_of c = (c.taken.position, c.head)

  pub one_ticket : (c : InFlightChain) (cs : List InFlightChain) (b : Bool) → (c.queue == i) ≡ b
      → in_flight_on i (c ∷ cs) ≡ (if b then ticket_of c ∷ in_flight_on i cs else in_flight_on i cs)
  one_ticket c cs true is = rw is refl
  one_ticket c cs false is = rw is refl

  ticket_and :
      (c : InFlightChain) (xs ys : List InFlightChain) (b : Bool) → (c.queue == i) ≡ b →
      in_flight_on i (xs ++ ys) ≡ in_flight_on i xs ++ in_flight_on i ys
      → in_flight_on i (c ∷ (xs ++ ys)) ≡ in_flight_on i (c ∷ xs) ++ in_flight_on i ys
  ticket_and c xs ys true is more =
      one_ticket c (xs ++ ys) true is ∙ ap (λ (l : List InFlightId). ticket_of c ∷ l) more
      ∙ sym (ap (λ (l : List InFlightId). l ++ in_flight_on i ys) (one_ticket c xs true is))
  ticket_and c xs ys false is more =
      one_ticket c (xs ++ ys) false is ∙ more ∙ sym (ap (λ (l : List InFlightId). l ++ in_flight_on i ys) (one_ticket c xs false is))

  pub tickets-append : (xs ys : List InFlightChain) → in_flight_on i (xs ++ ys) ≡ in_flight_on i xs ++ in_flight_on i ys
  tickets-append [] ys = refl
  tickets-append (c ∷ xs) ys = ticket_and c xs ys (c.queue == i) refl (tickets-append xs ys)

  -- a chain that goes on keeps its ticket
  pub carries_on :
      (before behind : List InFlightChain) (c d : InFlightChain) (b : Bool) → (c.queue == i) ≡ b → d.queue ≡ c.queue →
      ticket_of d ≡ ticket_of c
      → in_flight_on i (before ++ d ∷ behind) ≡ in_flight_on i (before ++ c ∷ behind)
  carries_on before behind c d true is same ticket =
      let is_d : (d.queue == i) ≡ true = ap (λ (n : ℕ). n == i) same ∙ is in
      tickets-append before (d ∷ behind)
      ∙ ap (λ (l : List InFlightId). in_flight_on i before ++ l)
      (one_ticket d behind true is_d ∙ ap (λ (t : InFlightId). t ∷ in_flight_on i behind) ticket ∙ sym (one_ticket c behind true is))
      ∙ sym (tickets-append before (c ∷ behind))
  carries_on before behind c d false is same ticket =
      let is_d : (d.queue == i) ≡ false = ap (λ (n : ℕ). n == i) same ∙ is in
      tickets-append before (d ∷ behind)
      ∙ ap (λ (l : List InFlightId). in_flight_on i before ++ l) (one_ticket d behind false is_d ∙ sym (one_ticket c behind false is))
      ∙ sym (tickets-append before (c ∷ behind))

  -- chains of another queue are out no more
  one_dropped :
      (j : ℕ) (c : InFlightChain) (cs : List InFlightChain) (mine other : Bool) → (j ≡ i → ⊥) → (c.queue == i) ≡ mine →
      (c.queue == j) ≡ other
      → in_flight_on i (filter (λ c. not (c.queue == j)) cs) ≡ in_flight_on i cs
      → in_flight_on i (filter (λ c. not (c.queue == j)) (c ∷ cs)) ≡ in_flight_on i (c ∷ cs)
  one_dropped j c cs true true apart is other more = absurd (apart (sym (eqb-true c.queue j other) ∙ eqb-true c.queue i is))
  one_dropped j c cs true false apart is other more =
      ap (λ (l : List InFlightChain). in_flight_on i l) (kept_not (λ c. not (c.queue == j)) c cs true (ap not other))
      ∙ one_ticket c (filter (λ c. not (c.queue == j)) cs) true is ∙ ap (λ (l : List InFlightId). ticket_of c ∷ l) more
      ∙ sym (one_ticket c cs true is)
  one_dropped j c cs false true apart is other more =
      ap (λ (l : List InFlightChain). in_flight_on i l) (kept_not (λ c. not (c.queue == j)) c cs false (ap not other)) ∙ more
      ∙ sym (one_ticket c cs false is)
  one_dropped j c cs false false apart is other more =
      ap (λ (l : List InFlightChain). in_flight_on i l) (kept_not (λ c. not (c.queue == j)) c cs true (ap not other))
      ∙ one_ticket c (filter (λ c. not (c.queue == j)) cs) false is ∙ more ∙ sym (one_ticket c cs false is)

  pub dropped : (j : ℕ) (cs : List InFlightChain) → (j ≡ i → ⊥) → in_flight_on i (filter (λ c. not (c.queue == j)) cs) ≡ in_flight_on i cs
  dropped j [] apart = refl
  dropped j (c ∷ cs) apart = one_dropped j c cs (c.queue == i) (c.queue == j) apart refl refl (dropped j cs apart)

  -- ---- an event

  abbrev Carries : {F : Type 0} → (s mid : LiveState F) → LiveQueue → List QueueEvent → Type 0
  Carries s mid w now =
      (w₁ : LiveQueue) × (slice_get mid.queues i ≡ Some w₁)
      × ((es : List QueueEvent) (v : LiveQueue) (chains : List InFlightId) → RunsOver (going w₁) (in_flight_on i mid.chains) es v chains
      → RunsOver (going w) (in_flight_on i s.chains) (now ++ es) v chains)

  stays : {F : Type 0} (s mid : LiveState F) (w w₁ : LiveQueue) → slice_get mid.queues i ≡ Some w₁ → going w₁ ≡ going w
      → in_flight_on i mid.chains ≡ in_flight_on i s.chains → Carries s mid w []
  stays s mid w w₁ there same chains_are = (
    w₁,
    there,
    λ es v chains run.
        subst (λ (k : LiveQueue). RunsOver k (in_flight_on i s.chains) es v chains) same
        (subst (λ (l : List InFlightId). RunsOver (going w₁) l es v chains) chains_are run),
  )

  refused_going : (w : LiveQueue) (b : Bool) → going (record w { queue = if b then with_stop w.queue else w.queue }) ≡ going w
  refused_going w true = refl
  refused_going w false = refl

  refuses : {F : Type 0} (s : LiveState F) (j : ℕ) (w v : LiveQueue) (b : Bool) (stops : Bool) → (j == i) ≡ b
      → slice_get s.queues i ≡ Some w → slice_get s.queues j ≡ Some v
      → Carries s (record s { queues = changed_at s.queues j (λ _. record v { queue = if stops then with_stop v.queue else v.queue }) }) w
      []
  refuses {F} s j w v true stops is there at =
      let mid : LiveState F =
      record s { queues = changed_at s.queues j (λ _. record v { queue = if stops then with_stop v.queue else v.queue }) } in
      let same : j ≡ i = eqb-true j i is in
      let one : v ≡ w = same_some v w (sym at ∙ ap (λ (n : ℕ). slice_get s.queues n) same ∙ there) in
      stays s mid w (record v { queue = if stops then with_stop v.queue else v.queue })
      (there_same s.queues j i (λ _. record v { queue = if stops then with_stop v.queue else v.queue }) w same there)
      (refused_going v stops ∙ ap (λ (k : LiveQueue). going k) one) refl
  refuses {F} s j w v false stops is there at =
      let mid : LiveState F =
      record s { queues = changed_at s.queues j (λ _. record v { queue = if stops then with_stop v.queue else v.queue }) } in
      stays s mid w w (there_other s.queues j i (λ _. record v { queue = if stops then with_stop v.queue else v.queue }) (apart_of j i is)
      ∙ there) refl refl

  takes : {F : Type 0} (s : LiveState F) (j : ℕ) (w v : LiveQueue) (b : Bool) (c : InFlightChain) → (j == i) ≡ b →
      slice_get s.queues i ≡ Some w
      → slice_get s.queues j ≡ Some v → c.queue ≡ j
      → c.taken ≡ v.queue → IsTrue (may_take v)
      → Carries s (record s { queues = changed_at s.queues j (λ _. took v); chains = s.chains ++ c ∷ [] }) w
      (if b then several.PopsOne c.head ∷ [] else [])
  takes {F} s j w v true c is there at of_queue taken may =
      let same : j ≡ i = eqb-true j i is in
      let one : v ≡ w = same_some v w (sym at ∙ ap (λ (n : ℕ). slice_get s.queues n) same ∙ there) in
      let mid : LiveState F = record s { queues = changed_at s.queues j (λ _. took v); chains = s.chains ++ c ∷ [] } in
      let chains_are : in_flight_on i (s.chains ++ c ∷ []) ≡ in_flight_on i s.chains ++ (v.queue.position, c.head) ∷ [] =
      tickets-append s.chains (c ∷ [])
      ∙ ap (λ (l : List InFlightId). in_flight_on i s.chains ++ l)
      (one_ticket c [] true (ap (λ (n : ℕ). n == i) of_queue ∙ is) ∙ ap (λ k. (k.position, c.head) ∷ []) taken) in
      subst (λ (k : LiveQueue). Carries s mid k (several.PopsOne c.head ∷ [])) one (
        took v,
        there_same s.queues j i (λ _. took v) w same there,
        λ es u chains run. (may, subst (λ (l : List InFlightId). RunsOver (going (took v)) l es u chains) chains_are run),
      )
  takes {F} s j w v false c is there at of_queue taken may =
      let mid : LiveState F = record s { queues = changed_at s.queues j (λ _. took v); chains = s.chains ++ c ∷ [] } in
      stays s mid w w (there_other s.queues j i (λ _. took v) (apart_of j i is) ∙ there) refl
      (tickets-append s.chains (c ∷ []) ∙ ap (λ (l : List InFlightId). in_flight_on i s.chains ++ l)
      (one_ticket c [] false (ap (λ (n : ℕ). n == i) of_queue ∙ is)) ∙ append-nil (in_flight_on i s.chains))

  -- walks
  walks : {F : Type 0} (s mid : LiveState F) (j : ℕ) (w v : LiveQueue) (loaded : Loaded) (ds : List Descriptor) (came : comes.CourseStep)
      → slice_get s.queues i ≡ Some w → slice_get s.queues j ≡ Some v
      → IsTrue (may_take v) → EndsPopIn s j v loaded ds came mid → Carries s mid w (event_on i (EndsPop j loaded ds came))
  walks s mid j w v loaded ds (step.Load walk) there at room h = absurd h
  walks s mid j w v loaded ds (step.Missing range access) there at room h = absurd h
  walks {F} s mid j w v loaded ds step.Idle there at room h =
      subst (λ (k : LiveState F). Carries s k w []) (sym h.1) (stays s s w w there refl refl)
  walks {F} s mid j w v loaded ds (step.Refused e) there at room h =
      subst (λ (k : LiveState F). Carries s k w []) (sym h.1) (refuses s j w v (j == i) (stops_queue e) refl there at)
  walks {F} s mid j w v loaded ds (step.Chain head fault) there at room h =
      subst (λ (k : LiveState F). Carries s k w (event_on i (EndsPop j loaded ds (step.Chain head fault)))) (sym h.1)
      (takes s j w v (j == i) (new_chain s j v loaded ds head fault) refl there at refl refl room)

  -- a return
  returns : {F : Type 0} (s : LiveState F) (before behind : List InFlightChain) (c : InFlightChain) (w v : LiveQueue) (b : Bool) (len : ℕ)
      (used : List Store) → (c.queue == i) ≡ b
      → slice_get s.queues i ≡ Some w → slice_get s.queues c.queue ≡ Some v → s.chains ≡ before ++ c ∷ behind
      → used ≡ stores_after_reply (returning v) c.head len
      → Carries s (record s { queues = changed_at s.queues c.queue (λ _. gave v); chains = before ++ behind }) w
      (if b then several.PushesOne (c.taken.position, c.head) len used ∷ [] else [])
  returns {F} s before behind c w v true len used is there at out used_is =
      let same : c.queue ≡ i = eqb-true c.queue i is in
      let one : v ≡ w = same_some v w (sym at ∙ ap (λ (n : ℕ). slice_get s.queues n) same ∙ there) in
      let mid : LiveState F = record s { queues = changed_at s.queues c.queue (λ _. gave v); chains = before ++ behind } in
      let split : in_flight_on i s.chains ≡ in_flight_on i before ++ ticket_of c ∷ in_flight_on i behind =
      ap (λ (l : List InFlightChain). in_flight_on i l) out ∙ tickets-append before (c ∷ behind)
      ∙ ap (λ (l : List InFlightId). in_flight_on i before ++ l) (one_ticket c behind true is) in
      subst (λ (k : LiveQueue). Carries s mid k (several.PushesOne (c.taken.position, c.head) len used ∷ [])) one (
        gave v,
        there_same s.queues c.queue i (λ _. gave v) w same there,
        λ es u chains run. (
          in_flight_on i before,
          in_flight_on i behind,
          split,
          used_is,
          subst (λ (l : List InFlightId). RunsOver (going (gave v)) l es u chains) (tickets-append before behind) run,
        ),
      )
  returns {F} s before behind c w v false len used is there at out used_is =
      let mid : LiveState F = record s { queues = changed_at s.queues c.queue (λ _. gave v); chains = before ++ behind } in
      stays s mid w w (there_other s.queues c.queue i (λ _. gave v) (apart_of c.queue i is) ∙ there) refl
      (tickets-append before behind
      ∙ sym (ap (λ (l : List InFlightChain). in_flight_on i l) out ∙ tickets-append before (c ∷ behind)
      ∙ ap (λ (l : List InFlightId). in_flight_on i before ++ l) (one_ticket c behind false is)))

  -- a chain is given up
  drops : {F : Type 0} (s : LiveState F) (before behind : List InFlightChain) (c : InFlightChain) (w v : LiveQueue) (b : Bool) →
      (c.queue == i) ≡ b
      → slice_get s.queues i ≡ Some w → slice_get s.queues c.queue ≡ Some v → s.chains ≡ before ++ c ∷ behind
      → v.queue.position ≡ (c.taken.position + 1) % 2 ^ 16
      → Carries s (after_giving_up s before behind c v) w (if b then several.DropsLast (c.taken.position, c.head) ∷ [] else [])
  drops {F} s before behind c w v true is there at out youngest =
      let same : c.queue ≡ i = eqb-true c.queue i is in
      let one : v ≡ w = same_some v w (sym at ∙ ap (λ (n : ℕ). slice_get s.queues n) same ∙ there) in
      let split : in_flight_on i s.chains ≡ in_flight_on i before ++ ticket_of c ∷ in_flight_on i behind =
      ap (λ (l : List InFlightChain). in_flight_on i l) out ∙ tickets-append before (c ∷ behind)
      ∙ ap (λ (l : List InFlightId). in_flight_on i before ++ l) (one_ticket c behind true is) in
      subst (λ (k : LiveQueue). Carries s (after_giving_up s before behind c v) k (several.DropsLast (c.taken.position, c.head) ∷ [])) one (
        gave_up v,
        there_same s.queues c.queue i (λ _. gave_up v) w same there,
        λ es u chains run. (
          in_flight_on i before,
          in_flight_on i behind,
          split,
          youngest,
          subst (λ (l : List InFlightId). RunsOver (going (gave_up v)) l es u chains) (tickets-append before behind) run,
        ),
      )
  drops {F} s before behind c w v false is there at out youngest =
      stays s (after_giving_up s before behind c v) w w (there_other s.queues c.queue i (λ _. gave_up v) (apart_of c.queue i is)
      ∙ there) refl
      (tickets-append before behind
      ∙ sym (ap (λ (l : List InFlightChain). in_flight_on i l) out ∙ tickets-append before (c ∷ behind)
      ∙ ap (λ (l : List InFlightId). in_flight_on i before ++ l) (one_ticket c behind false is)))

  not_true : (b : Bool) → (b ≡ true → ⊥) → b ≡ false
  not_true true never = absurd (never refl)
  not_true false never = refl

  carries : {F : Type 0} (may : May F) (s mid : LiveState F) (w : LiveQueue) (e : LiveEvent) → slice_get s.queues i ≡ Some w → NoReset i e
      → Happens may s e mid → Carries s mid w (event_on i e)
  carries may s mid w (EndsPop j loaded ds came) there anew h = walks s mid j w h.w loaded ds came there h.there h.room h.ends
  carries {F} may s mid w (RefusesPop j e) there anew h =
      subst (λ (k : LiveState F). Carries s k w []) (sym h.state) (refuses s j w h.w (j == i) (stops_queue e) refl there h.there)
  carries {F} may s mid w (DecodesRequest c request decoded) there anew h =
      subst (λ (k : LiveState F). Carries s k w []) (sym h.state)
      (stays s (after_decoding s h.before h.behind c request) w w there refl
      (carries_on h.before h.behind c (asked_chain c request s.options []) (c.queue == i) refl refl refl
      ∙ sym (ap (λ (l : List InFlightChain). in_flight_on i l) h.out)))
  carries {F} may s mid w (ReceivesAnswer c call answer) there anew h =
      let calls = h.calls ++ (call, answer) ∷ [] in
      subst (λ (k : LiveState F). Carries s k w []) (sym h.state)
      (stays s (after_answer s h.before h.behind c h.request h.options calls h.files) w w there refl
      (carries_on h.before h.behind c (asked_chain c h.request h.options calls) (c.queue == i) refl refl refl
      ∙ sym (ap (λ (l : List InFlightChain). in_flight_on i l) h.out)))
  carries {F} may s mid w (PushesChain c x notice last used seen) there anew h =
      subst (λ (k : LiveState F). Carries s k w (event_on i (PushesChain c x notice last used seen))) (sym h.state)
      (returns s h.before h.behind c w h.w (c.queue == i) (length x.reply) used refl there h.there h.out h.used_is)
  carries {F} may s mid w (StoresNotification j store) there anew h =
      subst (λ (k : LiveState F). Carries s k w []) (sym h.state) (stays s s w w there refl refl)
  carries {F} may s mid w (ResetsQueue j v) there anew h =
      let apart = apart_of j i (not_true (j == i) anew) in
      subst (λ (k : LiveState F). Carries s k w []) (sym h.state) (stays s (after_reset s j v) w w
      (there_other s.queues j i (λ _. v) apart ∙ there) refl (dropped j s.chains apart))
  carries {F} may s mid w (FillsBuffer c stores) there anew h =
      subst (λ (k : LiveState F). Carries s k w []) (sym h.state) (stays s s w w there refl refl)
  carries {F} may s mid w (GivesUpChain c) there anew h =
      subst (λ (k : LiveState F). Carries s k w (event_on i (GivesUpChain c))) (sym h.state)
      (drops s h.before h.behind c w h.w (c.queue == i) refl there h.there h.out h.is_last)
  carries {F} may s mid w (Abandons c) there anew h =
      subst (λ (k : LiveState F). Carries s k w []) (sym h.state)
      (stays s (after_abandoning s h.before h.behind c) w w there refl
      (carries_on h.before h.behind c (abandoned_chain c) (c.queue == i) refl refl refl ∙ sym
      (ap (λ (l : List InFlightChain). in_flight_on i l) h.out)))
  carries {F} may s mid w (RepliesOwnBytes c request reply options) there anew h =
      subst (λ (k : LiveState F). Carries s k w []) (sym h.state)
      (stays s (after_own s h.before h.behind c request reply options) w w there refl
      (carries_on h.before h.behind c (record c { phase = Own request reply }) (c.queue == i) refl refl refl
      ∙ sym (ap (λ (l : List InFlightChain). in_flight_on i l) h.out)))
  carries {F} may s mid w (HasEffect call answer) there anew h =
      subst (λ (k : LiveState F). Carries s k w []) (sym h.state) (stays s (record s { files = h.files }) w w there refl refl)
  carries {F} may s mid w (SetsOptions options) there anew h =
      subst (λ (k : LiveState F). Carries s k w []) (sym h.state) (stays s (record s { options = options }) w w there refl refl)
  carries {F} may s mid w (Remaps m) there anew h =
      subst (λ (k : LiveState F). Carries s k w []) (sym h.state) (stays s (record s { places = m }) w w there refl refl)
  carries may s mid w (MovesDevice m queues) there anew h = absurd anew

  pub runs_on : {F : Type 0} (may : May F) (s after : LiveState F) (es : List LiveEvent) (w : LiveQueue) → slice_get s.queues i ≡ Some w
      → AllByRecursion (NoReset i) es → LiveRun may s es after →
      (w' : LiveQueue) × (slice_get after.queues i ≡ Some w')
      × RunsOver (going w) (in_flight_on i s.chains) (events_on i es) (going w') (in_flight_on i after.chains)
  runs_on {F} may s after [] w there anew run =
      (w, ap (λ (k : LiveState F). slice_get k.queues i) run ∙ there, (refl, ap (λ (k : LiveState F). in_flight_on i k.chains) run))
  runs_on may s after (e ∷ es) w there anew run =
      let first = carries may s run.0 w e there anew.0 run.1 in
      let rest = runs_on may run.0 after es first.0 first.1 anew.1 run.2 in
      (rest.0, rest.1, first.2 (events_on i es) (going rest.0) (in_flight_on i after.chains) rest.2)

pub runs_on_queue : {F : Type 0} (may : May F) → RunsOnQueue may
runs_on_queue may s after es i w there anew run = runs_on i may s after es w there anew run

pub once_per_live_chain : {F : Type 0} (may : May F) → OncePerLiveChain may
once_per_live_chain may s after es i w there none anew run =
    let mine = runs_on i may s after es w there anew run in
    once (going w) (going mine.0) [] (in_flight_on i after.chains) (events_on i es)
    (subst (λ (l : List InFlightId). RunsOver (going w) l (events_on i es) (going mine.0) (in_flight_on i after.chains)) none mine.2)

pub live_used_in_order : {F : Type 0} (may : May F) → LiveUsedInOrder may
live_used_in_order may s after es i w there anew run =
    let mine = runs_on i may s after es w there anew run in
    used_in_order (going w) (going mine.0) (in_flight_on i s.chains) (in_flight_on i after.chains) (events_on i es) mine.2
