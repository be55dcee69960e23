-- Runs of takes and returns.
use Rattle.std.proofs.Common.{arith, ◌≡◌, ℕ, ◌+◌, ◌-◌, ◌%◌, ◌^◌, ◌<◌, List, [], ◌∷◌, ◌++◌, IsPermutation, map, refl, subst, sym, ap, ◌==◌}
use Rattle.std.proofs.Common.{nat_lt, ◌∙◌, append_assoc, append-nil}
use Rattle.std.proofs.lemmas.List.{map-append}
use Rattle.std.proofs.lemmas.List.Sorted.{IsPermutation-refl, IsPermutation-sym, IsPermutation-cons, IsPermutation-trans}
use Rattle.std.proofs.lemmas.List.Sorted.{IsPermutation-middle}
use Rattle.std.specs.Int.{w16, from_le_bytes}
use Rattle.std.proofs.lemmas.Bool.Decides.{nat_tests}
use Rattle.fs_queue.specs.Returning.{Store, stores_after_reply}
use Rattle.live_machine.specs.Several.{ByEvent, LiveQueue, InFlightId, QueueEvent, PopsOne, DropsLast, PushesOne, RunsOver, UsedFrom}
use Rattle.live_machine.specs.Several.{HasEventIndex, returns_among, took, gave, gave_up, wants, IsSerial, StoresAsTaken, heads_taken}
use Rattle.live_machine.specs.Several.{heads_ended, IsOldestFirst, AtTheirPositions}

-- a take moves no return
past_take : (w : LiveQueue) (rs : List (InFlightId × ℕ × List Store)) → UsedFrom (took w) rs → UsedFrom w rs
past_take w [] h = tt
past_take w (r ∷ rs) h = (h.0, past_take (gave w) rs h.1)

past_drop : (w : LiveQueue) (rs : List (InFlightId × ℕ × List Store)) → UsedFrom (gave_up w) rs → UsedFrom w rs
past_drop w [] h = tt
past_drop w (r ∷ rs) h = (h.0, past_drop (gave w) rs h.1)

pub used_in_order :
    (w w' : LiveQueue) (chains chains' : List InFlightId) (es : List QueueEvent) → RunsOver w chains es w' chains' →
    UsedFrom w (returns_among es)
used_in_order w w' chains chains' [] run = tt
used_in_order w w' chains chains' (PopsOne head ∷ es) run =
    past_take w (returns_among es) (used_in_order (took w) w' (chains ++ (w.queue.position, head) ∷ []) chains' es run.1)
used_in_order w w' chains chains' (DropsLast t ∷ es) run =
    past_drop w (returns_among es) (used_in_order (gave_up w) w' (run.0 ++ run.1) chains' es run.4)
used_in_order w w' chains chains' (PushesOne t len stores ∷ es) run = (run.3, used_in_order (gave w) w' (run.0 ++ run.1) chains' es run.4)

-- in a serial run the two positions are one
pub one_at_a_time : (w w' : LiveQueue) (chains chains' : List InFlightId) (es : List QueueEvent) → w.next_used ≡ w.queue.position →
    IsSerial es → RunsOver w chains es w' chains' → StoresAsTaken (w.queue) es
one_at_a_time w w' chains chains' [] same serial run = tt
one_at_a_time w w' chains chains' (PopsOne head ∷ PushesOne t len stores ∷ es) same serial run =
    let inner = run.1 in (
      inner.3 ∙ ap (λ (p : ℕ). stores_after_reply (record (w.queue) { position = p }) t.1 len) same
          ∙ ap (λ (h : ℕ). stores_after_reply (w.queue) h len) serial.0,
      one_at_a_time (gave (took w)) w' (inner.0 ++ inner.1) chains' es (ap (λ (p : ℕ). (p + 1) % 2 ^ 16) same) serial.1 inner.4,
    )
one_at_a_time w w' chains chains' es same serial run = absurd serial

-- ---- each chain once

abbrev heads : List InFlightId → List ℕ
heads ts = map (λ t. t.1) ts

-- one more has ended, of these that were out
one_ended : (ended taken left : List ℕ) (t : InFlightId) (before behind chains : List InFlightId) → chains ≡ before ++ t ∷ behind
    → IsPermutation (ended ++ left) (heads (before ++ behind) ++ taken)
    → IsPermutation (t.1 ∷ (ended ++ left)) (heads chains ++ taken)
one_ended ended taken left t before behind chains is run =
    let inner : IsPermutation (ended ++ left) ((heads before ++ heads behind) ++ taken) =
    subst (λ (xs : List ℕ). IsPermutation (ended ++ left) (xs ++ taken)) (map-append (λ (u : InFlightId). u.1) before behind) run in
    let more : IsPermutation (t.1 ∷ (ended ++ left)) (t.1 ∷ (heads before ++ (heads behind ++ taken))) =
    IsPermutation-cons t.1 _ _ (subst (IsPermutation (ended ++ left)) (append_assoc (heads before) (heads behind) taken) inner) in
    let there : IsPermutation (t.1 ∷ (ended ++ left)) (heads before ++ (t.1 ∷ (heads behind ++ taken))) =
    IsPermutation-trans _ _ _ more (IsPermutation-sym _ _ (IsPermutation-middle (heads before) t.1 (heads behind ++ taken))) in
    subst (IsPermutation (t.1 ∷ (ended ++ left)))
    (sym (append_assoc (heads before) (t.1 ∷ heads behind) taken)
    ∙ ap (λ (xs : List ℕ). xs ++ taken) (sym (ap heads is ∙ map-append (λ (u : InFlightId). u.1) before (t ∷ behind))))
    there

pub once : (w w' : LiveQueue) (chains chains' : List InFlightId) (es : List QueueEvent) → RunsOver w chains es w' chains' →
    IsPermutation (heads_ended es ++ heads chains') (heads chains ++ heads_taken es)
once w w' chains chains' [] run =
    subst (λ (xs : List ℕ). IsPermutation (heads chains') xs) (ap heads run.1 ∙ sym (append-nil (heads chains)))
    (IsPermutation-refl (heads chains'))
once w w' chains chains' (PopsOne head ∷ es) run =
    subst (λ (xs : List ℕ). IsPermutation (heads_ended es ++ heads chains') xs)
    (ap (λ (xs : List ℕ). xs ++ heads_taken es) (map-append (λ (t : InFlightId). t.1) chains ((w.queue.position, head) ∷ []))
    ∙ append_assoc (heads chains) (head ∷ []) (heads_taken es))
    (once (took w) w' (chains ++ (w.queue.position, head) ∷ []) chains' es run.1)
once w w' chains chains' (DropsLast t ∷ es) run =
    one_ended (heads_ended es) (heads_taken es) (heads chains') t run.0 run.1 chains run.2
    (once (gave_up w) w' (run.0 ++ run.1) chains' es run.4)
once w w' chains chains' (PushesOne t len stores ∷ es) run =
    one_ended (heads_ended es) (heads_taken es) (heads chains') t run.0 run.1 chains run.2
    (once (gave w) w' (run.0 ++ run.1) chains' es run.4)

-- ---- the oldest first

-- tickets are of one position after another
Follow : (from : ℕ) → List InFlightId → (to : ℕ) → Type 0
Follow from [] to = to ≡ from
Follow from (t ∷ ts) to = (t.0 ≡ from) × Follow ((from + 1) % 2 ^ 16) ts to

follow_more : (from to head : ℕ) (ts : List InFlightId) → Follow from ts to → Follow from (ts ++ (to, head) ∷ []) ((to + 1) % 2 ^ 16)
unfolding Follow
follow_more from to head [] h = (h, ap (λ (p : ℕ). (p + 1) % 2 ^ 16) h)
follow_more from to head (t ∷ ts) h = (h.0, follow_more ((from + 1) % 2 ^ 16) to head ts h.1)

-- the youngest is out no more
less : (from to : ℕ) → from < 2 ^ 16 → to ≡ (from + 1) % 2 ^ 16 → (to + (2 ^ 16 - 1)) % 2 ^ 16 ≡ from
less from to small is = omega (arith, small, is)

small_next : (p : ℕ) → (p + 1) % 2 ^ 16 < 2 ^ 16
small_next p = omega arith

follow_less : (from to : ℕ) (t : InFlightId) (ts : List InFlightId) → from < 2 ^ 16 → Follow from (ts ++ t ∷ []) to →
    Follow from ts ((to + (2 ^ 16 - 1)) % 2 ^ 16)
unfolding Follow
follow_less from to t [] small h = less from to small h.1
follow_less from to t (u ∷ ts) small h = (h.0, follow_less ((from + 1) % 2 ^ 16) to t ts (small_next from) h.1)

places_dropped : (w : LiveQueue) (rs : List (InFlightId × ℕ × List Store)) → AtTheirPositions (gave_up w) rs → AtTheirPositions w rs
places_dropped w [] h = tt
places_dropped w (r ∷ rs) h = (h.0, places_dropped (gave w) rs h.1)

places_past : (w : LiveQueue) (rs : List (InFlightId × ℕ × List Store)) → AtTheirPositions (took w) rs → AtTheirPositions w rs
places_past w [] h = tt
places_past w (r ∷ rs) h = (h.0, places_past (gave w) rs h.1)

in_order : (w : LiveQueue) (chains : List InFlightId) (es : List QueueEvent) → w.next_used < 2 ^ 16 →
    Follow w.next_used chains w.queue.position → IsOldestFirst w chains es → AtTheirPositions w (returns_among es)
unfolding Follow
in_order w chains [] small follow oldest = tt
in_order w chains (PopsOne head ∷ es) small follow oldest =
    places_past w (returns_among es)
    (in_order (took w) (chains ++ (w.queue.position, head) ∷ []) es small
    (follow_more w.next_used w.queue.position head chains follow) oldest)
in_order w chains (DropsLast t ∷ es) small follow oldest =
    places_dropped w (returns_among es)
    (in_order (gave_up w) oldest.0 es small
    (follow_less w.next_used w.queue.position t oldest.0 small
    (subst (λ (ts : List InFlightId). Follow w.next_used ts w.queue.position) oldest.1 follow)) oldest.2)
in_order w [] (PushesOne t len stores ∷ es) small follow oldest = absurd oldest
in_order w (first ∷ chains) (PushesOne t len stores ∷ es) small follow oldest =
    (ap (λ (u : InFlightId). u.0) oldest.0 ∙ follow.0, in_order (gave w) chains es (small_next w.next_used) follow.1 oldest.1)

pub keeps_order : (w : LiveQueue) (es : List QueueEvent) → w.next_used ≡ w.queue.position → w.queue.position < 2 ^ 16 →
    IsOldestFirst w [] es → AtTheirPositions w (returns_among es)
unfolding Follow
keeps_order w es same small oldest = in_order w [] es (subst (λ (p : ℕ). p < 2 ^ 16) (sym same) small) (sym same) oldest

-- ---- the event index

-- used_event is passed by one return just if it is the position of it
passed : (event old : ℕ) → old < 2 ^ 16 → event < 2 ^ 16
    → nat_lt (((old + 1) % 2 ^ 16 + (2 ^ 16 - 1 - event)) % 2 ^ 16) (((old + 1) % 2 ^ 16 + (2 ^ 16 - old)) % 2 ^ 16) ≡ (event == old)
passed event old low small = grind (arith, nat_tests)

by_flag : (w : LiveQueue) (seen : List ℕ) → HasEventIndex w → wants w seen ≡ (from_le_bytes w16 seen == w.next_used)
by_flag w seen is = rw is refl

pub by_event : ByEvent
by_event w seen is low small = by_flag w seen is ∙ sym (passed (from_le_bytes w16 seen) w.next_used low small)
