-- A device that moves between chains.
use Rattle.std.proofs.Common.{◌≡◌, List, [], ◌∷◌, map, refl, sym, ap, ◌∙◌}
use Rattle.fs_queue.specs.Queue.{Queue}
use Rattle.fs_record.proofs.ReadingLemmas.{one_reading}
use Rattle.server_meanings.specs.Serving.{May}
use Rattle.live_machine.specs.Several.{LiveQueue}
use Rattle.fs_chain.specs.Holds.{live_of}
use Rattle.fs_chain.specs.declared.queue.QueueState.{QueueState}
use Rattle.fs_chain.specs.Moves.{HandleMovesDevice, recorded}

all_recorded : (ks : List QueueState) → map (λ w. w.queue) (map live_of ks) ≡ map recorded ks
all_recorded [] = refl
all_recorded (k ∷ ks) = ap (λ (l : List Queue). recorded k ∷ l) (all_recorded ks)

pub handle_moves : {F : Type 0} (may : May F) → HandleMovesDevice may
handle_moves {F} may s here there m bytes v v' options queues none queues_are made read begun =
    let one = one_reading v v' s.options options (map recorded here) queues bytes bytes [] [] made read refl in
    let now : map (λ w. w.queue) s.queues ≡ map recorded here =
    ap (λ (l : List LiveQueue). map (λ w. w.queue) l) queues_are ∙ all_recorded here in (
      sym one.1,
      record {
        none_in_flight = none;
        same = all_recorded there ∙ begun.same ∙ sym one.2 ∙ sym now;
        positions_agree = begun.positions_agree;
        few = begun.few;
        state = refl;
      },
    )
