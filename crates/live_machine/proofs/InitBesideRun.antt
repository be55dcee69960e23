-- INIT beside a chain that waits.
use Rattle.std.proofs.Common.{[], ◌∷◌, None, refl}
use Rattle.vm_values.specs.Fields as fields
use Rattle.vm_memory.specs.Layout.{place}
use Rattle.vm_memory.specs.Memory.{addresses, stored_all}
use Rattle.fs_queue.specs.Loads.{found_exactly}
use Rattle.fs_regions.specs.Walks.{FetchesBy}
use Rattle.server_replies.specs.WholeReplies.{error_bytes, reply_bytes, started_bytes}
use Rattle.server_requests.specs.Fronts.{counted}
use Rattle.server_requests.specs.Reading.{record_parser, last_name}
use Rattle.server_meanings.specs.Examples.{le16}
use Rattle.server_meanings.specs.Grammar.{meaning, meant, row}
use Rattle.server_meanings.specs.Serving.{May}
use Rattle.plain_machine.specs.Examples.{blank, queue}
use Rattle.live_machine.specs.Live.{LoadsAreMapped}
use Rattle.live_machine.specs.Overlap.{at_positions, state}
use Rattle.live_machine.specs.InitBeside.{InitBeside, first, first_answered, first_asked, first_loads, first_table, init, lookup, second}
use Rattle.live_machine.specs.InitBeside.{second_answered, second_asked, second_loads, second_table}
use Rattle.live_machine.proofs.OverlapRun.{answers, fetches, returns}

first_fetches : FetchesBy blank 0x101000 queue first_loads first_table 0 None
unfolding place addresses stored_all found_exactly
first_fetches = fetches queue first_loads first_table 0 (le16 2) (le16 0) refl refl refl (λ request. refl)

second_fetches : FetchesBy blank 0x101000 (record queue { position = 1 }) second_loads second_table 2 None
unfolding place addresses stored_all found_exactly
second_fetches = fetches (record queue { position = 1 }) second_loads second_table 2 (le16 2) (le16 2) refl refl refl (λ request. refl)

first_there : LoadsAreMapped blank queue first_loads
unfolding place addresses
first_there = record { index = λ some. refl; entry = λ some. refl; entries = ((refl, refl), ((refl, refl), tt)) }

second_there : LoadsAreMapped blank (record queue { position = 1 }) second_loads
unfolding place addresses
second_there = record { index = λ some. refl; entry = λ some. refl; entries = ((refl, refl), ((refl, refl), tt)) }

pub init_beside : {F : Type 0} (may : May F) → InitBeside may
unfolding addresses meaning record_parser meant row last_name counted reply_bytes error_bytes started_bytes fields.field_bytes
init_beside may before between after starting looking = (
  state before (at_positions 1 0) 0 (first ∷ []),
  record { w = at_positions 0 0; there = refl; room = refl; proceeds = refl; mapped = first_there; ends = (first_fetches, refl, tt) },
  (
    state before (at_positions 1 0) 0 (first_asked ∷ []),
    record { before = []; behind = []; out = refl; fresh = refl; whole = refl; reports = refl; state = refl },
    (
      state before (at_positions 2 0) 0 (first_asked ∷ second ∷ []),
      record { w = at_positions 1 0; there = refl; room = refl; proceeds = refl; mapped = second_there; ends = (second_fetches, refl, tt) },
      (
        state before (at_positions 2 0) 0 (first_asked ∷ second_asked ∷ []),
        record { before = first_asked ∷ []; behind = []; out = refl; fresh = refl; whole = refl; reports = refl; state = refl },
        (
          state between (at_positions 2 0) 1 (first_asked ∷ second_answered ∷ []),
          answers (first_asked ∷ []) init 0 between refl refl refl refl starting refl,
          (
            state between (at_positions 2 1) 1 (first_asked ∷ []),
            returns (first_asked ∷ []) (at_positions 2 0) refl refl (refl, refl) refl refl refl,
            (
              state after (at_positions 2 1) 1 (first_answered ∷ []),
              answers [] lookup 0 after refl refl refl refl looking refl,
              (state after (at_positions 2 2) 1 [], returns [] (at_positions 2 1) refl refl (refl, refl) refl refl refl, refl),
            ),
          ),
        ),
      ),
    ),
  ),
)
