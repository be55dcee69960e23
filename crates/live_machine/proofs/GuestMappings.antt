-- A memory that has the mappings of a run keeps them, and all stores of the run are over them.
use Rattle.std.proofs.Common.{◌≡◌, ℕ, List, [], ◌∷◌, ◌++◌, flat_map, refl, subst, sym, ap, ◌∙◌, not, ◌==◌}
use Rattle.std.specs.List.{AllByRecursion}
use Rattle.std.proofs.lemmas.List.Concat.{flat_map-append}
use Rattle.vm_memory.specs.Memory.{Memory, stored, stored_all}
use Rattle.fs_queue.specs.Chain.{Descriptor}
use Rattle.fs_queue.specs.Returning.{Store, writes_of}
use Rattle.fs_regions.specs.Walks.{Loaded}
use Rattle.fs_regions.specs.declared.step.CourseStep as comes
use Rattle.fs_regions.specs.declared.step.CourseStep.TheVariants as step
use Rattle.server_meanings.specs.Serving.{May}
use Rattle.plain_machine.specs.StepBy.{after_stores, reply_stores, stores_among}
use Rattle.plain_machine.proofs.PageLemmas.{ways_stay}
use Rattle.live_machine.specs.Guest.{HasMappings, StaysThere, after_event, after_stores_over, mappings_of, over_mappings}
use Rattle.live_machine.specs.Several.{LiveQueue}
use Rattle.live_machine.specs.Live.{Abandons, DecodesRequest, EndsPop, EndsPopIn, FillsBuffer, GivesUpChain, Happens, InFlightChain}
use Rattle.live_machine.specs.Live.{HasEffect, LiveEvent, LiveState, MovesDevice, Own, PushesChain, ReceivesAnswer, RefusesPop, Remaps}
use Rattle.live_machine.specs.Live.{RepliesOwnBytes, ResetsQueue, SetsOptions, StoresNotification, abandoned_chain, asked_chain, event_acts}
use Rattle.live_machine.specs.Live.{new_chain, room_of}
use Rattle.live_machine.proofs.Alone.{all_both, all_filter, all_left, all_right}
use Rattle.live_machine.proofs.Stored.{among_return, among_stores}

-- ---- memories

-- over its own mappings a memory is itself
same_over : (places m : Memory) → mappings_of places ≡ mappings_of m → over_mappings places m ≡ m
same_over places m same = ap (λ (k : Memory). over_mappings k m) same

-- stores leave the mappings
pub stores_keep : (m : Memory) (stores : List Store) → mappings_of (after_stores m stores) ≡ mappings_of m
stores_keep m stores = ways_stay m (flat_map writes_of stores)

stores_over : (places m : Memory) (stores : List Store) → mappings_of places ≡ mappings_of m →
    after_stores_over places m stores ≡ after_stores m stores
stores_over places m stores same =
    ap (λ (k : Memory). over_mappings m (after_stores k stores)) (same_over places m same)
    ∙ same_over m (after_stores m stores) (sym (stores_keep m stores))

stored_both : (m : Memory) (xs ys : List (ℕ × ℕ)) → stored_all m (xs ++ ys) ≡ stored_all (stored_all m xs) ys
unfolding stored_all
stored_both m [] ys = refl
stored_both m (x ∷ xs) ys = stored_both (stored m x) xs ys

stores_both : (m : Memory) (xs ys : List Store) → after_stores m (xs ++ ys) ≡ after_stores (after_stores m xs) ys
stores_both m xs ys =
    ap (stored_all m) (flat_map-append writes_of xs ys) ∙ stored_both m (flat_map writes_of xs) (flat_map writes_of ys)

-- ---- the chains in flight

abbrev PoppedOver : Memory → InFlightChain → Type 0
PoppedOver m c = mappings_of c.places ≡ mappings_of m

-- a chain in flight, and the others
one_over : (m : Memory) (chains before behind : List InFlightChain) (c : InFlightChain) → chains ≡ before ++ c ∷ behind
    → AllByRecursion (PoppedOver m) chains
    → AllByRecursion (PoppedOver m) before × PoppedOver m c × AllByRecursion (PoppedOver m) behind
one_over m chains before behind c out all =
    let split = subst (AllByRecursion (PoppedOver m)) out all in
    let right = all_right (PoppedOver m) before (c ∷ behind) split in
    (all_left (PoppedOver m) before (c ∷ behind) split, right.0, right.1)

-- ---- an event

-- its stores are over the memory's mappings
pub event_over : {F : Type 0} (may : May F) (s mid : LiveState F) (e : LiveEvent) (m : Memory) → Happens may s e mid → StaysThere e
    → HasMappings s m → after_event m e ≡ after_stores m (stores_among (event_acts e))
unfolding stored_all
event_over may s mid (PushesChain c x notice last used seen) m h stays has =
    let stores = reply_stores (room_of c) x.reply last in
    ap (λ (k : Memory). after_stores k used) (stores_over c.places m stores (one_over m s.chains h.before h.behind c h.out has.1).1)
    ∙ sym (stores_both m stores used)
    ∙ sym (ap (after_stores m) (among_return (stores ++ used) seen))
event_over may s mid (FillsBuffer c stores) m h stays has =
    stores_over c.places m stores (one_over m s.chains h.before h.behind c h.out has.1).1
    ∙ sym (ap (after_stores m) (among_stores stores))
event_over may s mid (Remaps places) m h stays has = absurd stays
event_over may s mid (MovesDevice places queues) m h stays has = absurd stays
event_over may s mid e m h stays has = refl

popped_keeps : {F : Type 0} (s after : LiveState F) (i : ℕ) (w : LiveQueue) (loaded : Loaded) (ds : List Descriptor)
    (came : comes.CourseStep) (m : Memory) → EndsPopIn s i w loaded ds came after → HasMappings s m → HasMappings after m
popped_keeps {F} s after i w loaded ds step.Idle m h has = subst (λ (k : LiveState F). HasMappings k m) (sym h.1) has
popped_keeps {F} s after i w loaded ds (step.Refused e) m h has = subst (λ (k : LiveState F). HasMappings k m) (sym h.1) has
popped_keeps {F} s after i w loaded ds (step.Chain head fault) m h has =
    subst (λ (k : LiveState F). HasMappings k m) (sym h.1)
    (has.0, all_both (PoppedOver m) s.chains (new_chain s i w loaded ds head fault ∷ []) has.1 (has.0, tt))
popped_keeps s after i w loaded ds came m h has = absurd h

keeps : {F : Type 0} (may : May F) (s after : LiveState F) (e : LiveEvent) (m : Memory) → Happens may s e after → StaysThere e
    → HasMappings s m → HasMappings after m
keeps may s after (EndsPop i loaded ds came) m h stays has = popped_keeps s after i h.w loaded ds came m h.ends has
keeps {F} may s after (RefusesPop i e) m h stays has = subst (λ (k : LiveState F). HasMappings k m) (sym h.state) has
keeps {F} may s after (DecodesRequest c request decoded) m h stays has =
    let parts = one_over m s.chains h.before h.behind c h.out has.1 in
    subst (λ (k : LiveState F). HasMappings k m) (sym h.state)
    (has.0, all_both (PoppedOver m) h.before (asked_chain c request s.options [] ∷ h.behind) parts.0 (parts.1, parts.2))
keeps {F} may s after (ReceivesAnswer c call answer) m h stays has =
    let parts = one_over m s.chains h.before h.behind c h.out has.1 in
    let d = asked_chain c h.request h.options (h.calls ++ (call, answer) ∷ []) in
    subst (λ (k : LiveState F). HasMappings k m) (sym h.state)
    (has.0, all_both (PoppedOver m) h.before (d ∷ h.behind) parts.0 (parts.1, parts.2))
keeps {F} may s after (PushesChain c x notice last used seen) m h stays has =
    let parts = one_over m s.chains h.before h.behind c h.out has.1 in
    subst (λ (k : LiveState F). HasMappings k m) (sym h.state)
    (has.0, all_both (PoppedOver m) h.before h.behind parts.0 parts.2)
keeps {F} may s after (StoresNotification i store) m h stays has = subst (λ (k : LiveState F). HasMappings k m) (sym h.state) has
keeps {F} may s after (ResetsQueue i w) m h stays has =
    subst (λ (k : LiveState F). HasMappings k m) (sym h.state)
    (has.0, all_filter (PoppedOver m) (λ c. not (c.queue == i)) s.chains has.1)
keeps {F} may s after (FillsBuffer c stores) m h stays has = subst (λ (k : LiveState F). HasMappings k m) (sym h.state) has
keeps {F} may s after (GivesUpChain c) m h stays has =
    let parts = one_over m s.chains h.before h.behind c h.out has.1 in
    subst (λ (k : LiveState F). HasMappings k m) (sym h.state)
    (has.0, all_both (PoppedOver m) h.before h.behind parts.0 parts.2)
keeps {F} may s after (Abandons c) m h stays has =
    let parts = one_over m s.chains h.before h.behind c h.out has.1 in
    subst (λ (k : LiveState F). HasMappings k m) (sym h.state)
    (has.0, all_both (PoppedOver m) h.before (abandoned_chain c ∷ h.behind) parts.0 (parts.1, parts.2))
keeps {F} may s after (RepliesOwnBytes c request reply options) m h stays has =
    let parts = one_over m s.chains h.before h.behind c h.out has.1 in
    subst (λ (k : LiveState F). HasMappings k m) (sym h.state)
    (has.0, all_both (PoppedOver m) h.before (record c { phase = Own request reply } ∷ h.behind) parts.0 (parts.1, parts.2))
keeps {F} may s after (HasEffect call answer) m h stays has = subst (λ (k : LiveState F). HasMappings k m) (sym h.state) has
keeps {F} may s after (SetsOptions options) m h stays has = subst (λ (k : LiveState F). HasMappings k m) (sym h.state) has
keeps may s after (Remaps places) m h stays has = absurd stays
keeps may s after (MovesDevice places queues) m h stays has = absurd stays

-- a memory with the same mappings has those of the state
pub same_mappings : {F : Type 0} (s : LiveState F) (m n : Memory) → mappings_of n ≡ mappings_of m → HasMappings s m → HasMappings s n
same_mappings s m n same has =
    subst (λ (k : Memory). (mappings_of s.places ≡ k) × AllByRecursion (λ (c : InFlightChain). mappings_of c.places ≡ k) s.chains)
    (sym same) has

-- so has the memory after the event
pub event_keeps : {F : Type 0} (may : May F) (s after : LiveState F) (e : LiveEvent) (m : Memory) → Happens may s e after → StaysThere e
    → HasMappings s m → HasMappings after (after_stores m (stores_among (event_acts e)))
event_keeps may s after e m h stays has =
    let stores = stores_among (event_acts e) in
    same_mappings after m (after_stores m stores) (stores_keep m stores) (keeps may s after e m h stays has)
