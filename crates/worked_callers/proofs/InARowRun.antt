-- Two chains, one after the other, are a serial run.
use Rattle.std.proofs.Common.{◌≡◌, ℕ, [], ◌∷◌, None, inl, refl, subst, sym, ap, ◌∙◌, true}
use Rattle.vm_values.specs.Fields as fields
use Rattle.vm_memory.specs.Layout.{place}
use Rattle.vm_memory.specs.Memory.{addresses, stored_all}
use Rattle.fs_queue.specs.Chain.{chain, found, path}
use Rattle.fs_queue.specs.NextAvail.{NextAvail, Head, next_avail}
use Rattle.fs_queue.specs.OfferLoads.{request_in}
use Rattle.fs_regions.specs.Laws.{HasLoaded}
use Rattle.fs_regions.specs.declared.step.CourseStep.TheVariants as step
use Rattle.fuse_fs.specs.Calls.{Destroy, Done}
use Rattle.server_replies.specs.WholeReplies.{error_bytes, reply_bytes}
use Rattle.server_requests.specs.Reading.{record_parser}
use Rattle.server_meanings.specs.Examples.{le16}
use Rattle.server_meanings.specs.Grammar.{meaning, meant, row}
use Rattle.server_meanings.specs.Serving.{May}
use Rattle.plain_machine.specs.Examples.{queue}
use Rattle.plain_machine.specs.StepBy.{FindFlags}
use Rattle.live_machine.specs.Live.{DecodesRequestSo, EndsPopSo, PushesChainSo, ReceivesAnswerSo, event_acts}
use Rattle.live_machine.specs.Overlap.{at_positions, destroy, first, first_loads, first_table, second, second_loads, second_table, state}
use Rattle.live_machine.specs.Overlap.{unknown}
use Rattle.live_machine.specs.Serial.{FoundIn, SerialRun, return_in}
use Rattle.live_machine.specs.Several.{LiveQueue}
use Rattle.live_machine.proofs.OverlapRun.{first_fetches, first_there, second_fetches, second_there, answers, returns}
use Rattle.live_machine.proofs.Queues.{same_some}
use Rattle.worked_callers.specs.InARow.{after_both, after_one, first_asked, first_exchange, first_used, one, second_answered, second_asked}
use Rattle.worked_callers.specs.InARow.{second_exchange, second_used, two, with_both}

-- ---- the run

pub first_walks : {F : Type 0} (f : F) →
    EndsPopSo (state f (at_positions 0 0) 1 []) 0 first_loads first_table (step.Chain 0 None) (state f (at_positions 1 0) 1 (first ∷ []))
first_walks f =
    record { w = at_positions 0 0; there = refl; room = refl; proceeds = refl; mapped = first_there; ends = (first_fetches, refl, tt) }

pub first_asks : {F : Type 0} (f : F) →
    DecodesRequestSo (state f (at_positions 1 0) 1 (first ∷ [])) first unknown [] (state f (at_positions 1 0) 1 (first_asked ∷ []))
unfolding addresses meaning record_parser meant row reply_bytes error_bytes fields.field_bytes
first_asks f = record { before = []; behind = []; out = refl; fresh = refl; whole = refl; reports = refl; state = refl }

pub first_returns : {F : Type 0} (f : F) → PushesChainSo (state f (at_positions 1 0) 1 (first_asked ∷ [])) first_asked first_exchange true 0
    first_used (le16 0) (state f (at_positions 1 1) 1 [])
unfolding addresses meaning record_parser meant row reply_bytes error_bytes fields.field_bytes
first_returns f = returns [] (at_positions 1 0) refl refl (refl, refl) refl refl refl

pub second_walks : {F : Type 0} (f : F) →
    EndsPopSo (state f (at_positions 1 1) 1 []) 0 second_loads second_table (step.Chain 2 None) (state f (at_positions 2 1) 1 (second ∷ []))
second_walks f =
    record { w = at_positions 1 1; there = refl; room = refl; proceeds = refl; mapped = second_there; ends = (second_fetches, refl, tt) }

pub second_asks : {F : Type 0} (f : F) → DecodesRequestSo (state f (at_positions 2 1) 1 (second ∷ [])) second destroy (Destroy ∷ [])
    (state f (at_positions 2 1) 1 (second_asked ∷ []))
unfolding addresses meaning record_parser meant row reply_bytes error_bytes fields.field_bytes
second_asks f = record { before = []; behind = []; out = refl; fresh = refl; whole = refl; reports = refl; state = refl }

pub second_answers : {F : Type 0} (may : May F) (before after : F) → may before Destroy Done after →
    ReceivesAnswerSo may (state before (at_positions 2 1) 1 (second_asked ∷ [])) second_asked Destroy Done
    (state after (at_positions 2 1) 0 (second_answered ∷ []))
unfolding addresses meaning record_parser meant row reply_bytes error_bytes fields.field_bytes
second_answers may before after so = answers [] destroy 1 after refl refl refl refl so refl

pub second_returns : {F : Type 0} (f : F) → PushesChainSo (state f (at_positions 2 1) 0 (second_answered ∷ [])) second_answered
    second_exchange true 0 second_used (le16 0) (state f (at_positions 2 2) 0 [])
unfolding addresses meaning record_parser meant row reply_bytes error_bytes fields.field_bytes
second_returns f = returns [] (at_positions 2 1) refl refl (refl, refl) refl refl refl

-- ---- what the memory has

head_of : ℕ → NextAvail → ℕ
head_of d (Head head) = head
head_of d _ = d

same_head : (h head : ℕ) (n : NextAvail) → n ≡ Head h → n ≡ Head head → h ≡ head
unfolding head_of
same_head h head n is found = ap (head_of head) (sym is) ∙ ap (head_of head) found

first_has : HasLoaded with_both queue first_loads unknown
unfolding place addresses stored_all path found
first_has = record {
  index_is = λ bs is. refl;
  entry_is = λ bs is. refl;
  entries_are = (refl, (refl, tt));
  request_is = λ head is some. subst (λ (h : ℕ). unknown ≡ request_in with_both (chain with_both queue h))
      (same_head 0 head (next_avail with_both queue) refl is) refl;
}

second_has : HasLoaded after_one (record queue { position = 1 }) second_loads destroy
unfolding place addresses stored_all path found
second_has = record {
  index_is = λ bs is. refl;
  entry_is = λ bs is. refl;
  entries_are = (refl, (refl, tt));
  request_is = λ head is some. subst (λ (h : ℕ). destroy ≡ request_in after_one (chain after_one (record queue { position = 1 }) h))
      (same_head 2 head (next_avail after_one (record queue { position = 1 })) refl is) refl;
}

first_found : {F : Type 0} (f : F) → FoundIn with_both (state f (at_positions 0 0) 1 []) one
unfolding place addresses stored_all
first_found f = record {
  places = refl;
  loads = λ w at. subst (λ (v : LiveQueue). HasLoaded with_both v.queue first_loads unknown) (same_some (at_positions 0 0) w at) first_has;
  flags = λ w at. subst (λ (v : LiveQueue). FindFlags with_both v.queue (event_acts (return_in one)))
      (same_some (at_positions 0 0) w at) (refl, tt);
  apart = inl refl;
}

second_found : {F : Type 0} (f : F) → FoundIn after_one (state f (at_positions 1 1) 1 []) two
unfolding place addresses stored_all
second_found f = record {
  places = refl;
  loads = λ w at. subst (λ (v : LiveQueue). HasLoaded after_one v.queue second_loads destroy)
      (same_some (at_positions 1 1) w at) second_has;
  flags = λ w at. subst (λ (v : LiveQueue). FindFlags after_one v.queue (event_acts (return_in two)))
      (same_some (at_positions 1 1) w at) (refl, tt);
  apart = inl refl;
}

pub in_a_row : {F : Type 0} (may : May F) (before after : F) → may before Destroy Done after →
    SerialRun may 0 with_both (state before (at_positions 0 0) 1 []) (one ∷ two ∷ []) after_both (state after (at_positions 2 2) 0 [])
unfolding addresses meaning record_parser meant row reply_bytes error_bytes fields.field_bytes
in_a_row {F} may before after so = (
  state before (at_positions 1 1) 1 [],
  refl,
  (tt, tt),
  (
    state before (at_positions 1 0) 1 (first ∷ []),
    first_walks before,
    (
      state before (at_positions 1 0) 1 (first_asked ∷ []),
      first_asks before,
      (state before (at_positions 1 1) 1 [], first_returns before, refl),
    ),
  ),
  first_found before,
  (
    state after (at_positions 2 2) 0 [],
    refl,
    (tt, (tt, tt)),
    (
      state before (at_positions 2 1) 1 (second ∷ []),
      second_walks before,
      (
        state before (at_positions 2 1) 1 (second_asked ∷ []),
        second_asks before,
        (
          state after (at_positions 2 1) 0 (second_answered ∷ []),
          second_answers may before after so,
          (state after (at_positions 2 2) 0 [], second_returns after, refl),
        ),
      ),
    ),
    second_found before,
    (refl, refl),
  ),
)
