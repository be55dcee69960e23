-- An entry that is rewritten after its load.
use Rattle.std.proofs.Common.{[], ◌∷◌, None, refl}
use Rattle.std.proofs.lemmas.List.Elements.{All-nil}
use Rattle.vm_values.specs.Fields as fields
use Rattle.vm_memory.specs.Layout.{place}
use Rattle.vm_memory.specs.Memory.{addresses, stored_all}
use Rattle.fs_queue.specs.declared.fault.QueueError.TheVariants.{HeadOutOfTable}
use Rattle.fs_queue.specs.Loads.{found_exactly}
use Rattle.fs_queue.specs.Taking.{Refuses}
use Rattle.fs_regions.specs.Walks.{FetchesBy, OffersBy, IsLost}
use Rattle.server_replies.specs.WholeReplies.{error_bytes, reply_bytes}
use Rattle.server_requests.specs.Reading.{record_parser}
use Rattle.server_meanings.specs.Examples.{le16}
use Rattle.server_meanings.specs.Grammar.{meaning, meant, row}
use Rattle.server_meanings.specs.Serving.{May}
use Rattle.plain_machine.specs.Examples.{blank}
use Rattle.live_machine.specs.Live.{LoadsAreMapped}
use Rattle.live_machine.specs.Overlap.{state}
use Rattle.live_machine.specs.Rewritten.{Rewritten, at_positions, first, first_answered, first_asked, first_loads, forget, queue}
use Rattle.live_machine.specs.Rewritten.{second_loads, stopped_at, table}
use Rattle.live_machine.proofs.OverlapRun.{answers, fetches, returns}
use Rattle.live_machine.proofs.Queues.{some_none}

first_fetches : FetchesBy blank 0x101000 queue first_loads table 0 None
unfolding place addresses stored_all found_exactly
first_fetches = fetches queue first_loads table 0 (le16 1) (le16 0) refl refl refl (λ request. refl)

second_offers : OffersBy blank 0x101000 (record queue { position = 1 }) second_loads [] (Refuses HeadOutOfTable)
unfolding place addresses stored_all found_exactly
second_offers =
    ((λ none. absurd (some_none (le16 2) none), λ none asks. absurd (some_none (le16 1) none)), [], All-nil (IsLost blank), refl)

first_there : LoadsAreMapped blank queue first_loads
unfolding place addresses
first_there = record { index = λ some. refl; entry = λ some. refl; entries = ((refl, refl), tt) }

second_there : LoadsAreMapped blank (record queue { position = 1 }) second_loads
unfolding place addresses
second_there = record { index = λ some. refl; entry = λ some. refl; entries = tt }

pub rewritten : {F : Type 0} (may : May F) → Rewritten may
unfolding addresses meaning record_parser meant row reply_bytes error_bytes fields.field_bytes
rewritten may before after so = (
  state before (at_positions 1 0) 0 (first ∷ []),
  record { w = at_positions 0 0; there = refl; room = refl; proceeds = refl; mapped = first_there; ends = (first_fetches, refl, tt) },
  (
    state before (stopped_at 1 0) 0 (first ∷ []),
    record {
      w = at_positions 1 0;
      there = refl;
      room = refl;
      proceeds = refl;
      mapped = second_there;
      ends = (second_offers, refl, (λ none. refl, λ none asks. refl));
    },
    (
      state before (stopped_at 1 0) 0 (first_asked ∷ []),
      record { before = []; behind = []; out = refl; fresh = refl; whole = refl; reports = refl; state = refl },
      (
        state after (stopped_at 1 0) 0 (first_answered ∷ []),
        answers [] forget 0 after refl refl refl refl so refl,
        (state after (stopped_at 1 1) 0 [], returns [] (stopped_at 1 0) refl refl (refl, refl) refl refl refl, refl),
      ),
    ),
  ),
)
