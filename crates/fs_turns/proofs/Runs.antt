-- Each run of worlds is one of the model.
use Rattle.std.proofs.Common.{arith, ◌≡◌, ℕ, ◌+◌, ◌^◌, ◌<◌, ◌≤◌, ◌⊎◌, inl, inr, Bool, true, false, List, [], ◌∷◌}
use Rattle.std.proofs.Common.{refl, sym, subst, ap, ◌∙◌}
use Rattle.std.proofs.lemmas.Bool.{or_from, cases_Bool}
use Rattle.notify.specs.Threads.{right_ways, Holder, Nobody, ThreadedQueue, after_act, ActsOver, opened}
use Rattle.notify.specs.Threads.{NoneIsLostAmongThreads, ThreadStep}
use Rattle.fs_turns.specs.declared.machine.TurnPhase.{TurnPhase}
use Rattle.fs_turns.specs.Worlds.{World, Move, after_move, Moves, begun}
use Rattle.fs_turns.specs.Worlds.{IsForgotten, HasChain, NoTurnIsLost}
use Rattle.fs_turns.specs.Worlds.{NoInterruptIsLost}
use Rattle.fs_turns.proofs.Tracks.{is_resuming}
use Rattle.fs_turns.proofs.Tracks.{IsAhead, Kept, holder_at, model_of, Tracked, Goes, stop, acts}
use Rattle.fs_turns.proofs.Tracks.{true_false}
use Rattle.fs_turns.proofs.Moving.{moves_on}

joined : (size most : ℕ) (b : Bool) (m : ThreadedQueue) (es : List ThreadStep) (w : World) (n : ThreadedQueue)
    → ActsOver (right_ways size most b) m es n → Goes size most b w n → Goes size most b w m
joined size most b m [] w n run g = subst (Goes size most b w) run g
joined size most b m (e ∷ es) w n run g =
    acts size most b w m e run.0 (joined size most b (after_act (right_ways size most b) m e) es w n run.1 g)

pub follows : (size most : ℕ) (b : Bool) (w : World) (o p : Bool) (c : ℕ) (h : Holder) (es : List Move) (end : World) → Tracked w o p c h
    → Kept b most w
    → Moves (right_ways size most b) w es end
    → Goes size most b end (model_of w o p c h)
follows size most b w o p c h [] end t k run =
    subst (λ (v : World). Goes size most b v (model_of w o p c h)) (sym run) (stop size most b w o p c h t k)
follows size most b w o p c h (e ∷ es) end t k run =
    let g = moves_on size most b w o p c h e t k run.0 in
    let next = after_move (right_ways size most b) w e in
    joined size most b (model_of w o p c h) g.steps end (model_of next g.o g.p g.c g.h) g.run
    (follows size most b next g.o g.p g.c g.h es end g.tracked g.kept run.1)

begins : (size most place waiting event : ℕ) (by_event muted : Bool) (threads : ℕ) (es : List Move) (end : World)
    → Moves (right_ways size most by_event) (begun place waiting event muted by_event threads) es end
    → Goes size most by_event end (opened place waiting event muted threads)
begins size most place waiting event by_event muted threads es end run =
    follows size most by_event (begun place waiting event muted by_event threads) false false threads Nobody es end
    (record { debt = λ so. absurd (true_false false so refl); signal = refl; crowd = omega arith; lock = refl })
    (record {
      mode = refl;
      sleeping = refl;
      called = λ so. absurd (true_false false so refl);
      stored = λ so. absurd (true_false false so refl);
      hidden = λ so. absurd (true_false false so refl);
      wish = λ so. absurd (true_false false so refl);
      shown = λ so _. absurd (true_false false so refl);
      notifications = tt;
      arming = λ so. absurd (true_false false so refl);
      looks = λ so. cc;
      mutes = λ so. cc;
      searches = λ so _. absurd (true_false false so refl);
      rests = λ _ some. absurd (omega (arith, some));
      owed = λ _. refl;
      due = λ so. absurd (true_false false so refl);
    })
    run

nobody_ahead : (w : World) → IsForgotten w → IsAhead w → ⊥
nobody_ahead w lost (inl pending) = true_false w.pending pending lost.not_pending
nobody_ahead w lost (inr some) = omega (arith, some, lost.none_woken, lost.none_coming, lost.none_signals)

pub not_lost :
    NoneIsLostAmongThreads → (size most place waiting event threads : ℕ) (by_event muted : Bool) (end : World)
    → size < 2 ^ 16 → place < 2 ^ 16 → waiting ≤ size
    → Goes size most by_event end (opened place waiting event muted threads)
    → IsForgotten end → HasChain (right_ways size most by_event) end ⊎ (0 < end.answered) → ⊥
not_lost law size most place waiting event threads by_event muted end small fits few g lost (inr answered) =
    nobody_ahead end lost (g.kept.rests (ap is_resuming lost.nobody) lost.sleeps answered)
not_lost law size most place waiting event threads by_event muted end small fits few g lost (inl chain) =
    let uncalled : end.turns.called ≡ false = elim (cases_Bool end.turns.called) [
      | inl called ↦ elim (g.kept.called called) [
        | inl pending ↦ absurd (true_false end.pending pending lost.not_pending)
        | inr some ↦ absurd (omega (arith, some, lost.none_woken, lost.none_signals))
      ]
      | inr is ↦ is
    ] in
    law size most place waiting event threads by_event muted g.steps (model_of end g.o g.p g.c g.h) small fits few g.run
    (record {
      nobody = g.tracked.lock ∙ ap (λ (q : TurnPhase). holder_at q end.stored) lost.nobody;
      sleeps = lost.sleeps;
      none_comes = crowd g.c end.woken end.coming g.tracked.crowd lost.none_woken lost.none_coming;
      available = chain.available;
      not_paused = chain.not_paused;
      may_be_out = chain.may_be_out;
      not_pending = g.tracked.signal ∙ or_from end.pending end.turns.called lost.not_pending uncalled;
      not_owed = unowed g.o end.owes g.tracked.debt chain.not_owed;
      checked = chain.checked;
    })
  where
    crowd : (c v n : ℕ) → c ≡ v + n → v ≡ 0 → n ≡ 0 → c ≡ 0
    crowd c v n h a b = omega arith

    unowed : (o owes : Bool) → (o ≡ true → owes ≡ true) → owes ≡ false → o ≡ false
    unowed true owes debt not_so = absurd (true_false owes (debt refl) not_so)
    unowed false owes debt not_so = refl

pub no_turn_is_lost : NoneIsLostAmongThreads → NoTurnIsLost
no_turn_is_lost law size most place waiting event threads by_event muted es end small fits few run lost which =
    not_lost law size most place waiting event threads by_event muted end small fits few
    (begins size most place waiting event by_event muted threads es end run) lost which

pub no_interrupt_is_lost : NoInterruptIsLost
no_interrupt_is_lost size most place waiting event threads by_event muted es end run free none =
    let k = (begins size most place waiting event by_event muted threads es end run).kept in
    elim (cases_Bool end.undelivered) [
      | inl so ↦ elim (k.due so) [
        | inl owed ↦ absurd (true_false end.turns.owed owed (k.owed free))
        | inr some ↦ absurd (omega (arith, some, none))
      ]
      | inr is ↦ is
    ]
