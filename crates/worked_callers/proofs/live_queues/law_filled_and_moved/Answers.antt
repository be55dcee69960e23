use Rattle.std.proofs.Common.{◌∙◌, true, List, [], ◌∷◌, arith, refl, subst, sym}
use Rattle.fs_queue.specs.Chain.{Descriptor}
use Rattle.fs_regions.specs.Windows.{IsRangeFrom}
use Rattle.fs_record.specs.Record.{First}
use Rattle.live_machine.specs.Overlap.{at_positions, state}
use Rattle.worked_callers.specs.InARow.{first_asked, with_both}
use Rattle.worked_callers.specs.WorkedRuns.{first_in_flight}
use Rattle.worked_callers.proofs.Recorded.{begun, bytes, kept, marked, range, recorded_so}
use Rattle.worked_callers.proofs.live_queues.law_filled_and_moved.Goals as goal

pub returns : goal.returns
returns g c = record {
  fills = λ files handle is.
      let so = c.law_handles.ensures.fills_range (first_in_flight files) first_asked [] [] handle 4 0x2004 12 (7 ∷ 0 ∷ []) refl tt (sym is)
      (subst (λ (ds : List Descriptor). IsRangeFrom true ds 4 0x2004 12) (sym is) range) (omega arith) in
      (so.0, so.1, so.2.0, so.2.1 ∙ marked);
  moves = λ files.
      (c.law_handles.ensures.moves_device (state files (at_positions 2 2) 0 []) (kept ∷ []) (kept ∷ []) with_both bytes First First 0
      ((at_positions 2 2).queue ∷ []) refl refl recorded_so recorded_so begun).1;
}
