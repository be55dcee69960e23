use Rattle.std.proofs.Common.{length, ap, ◌∙◌}
use Rattle.vm_atomic_bitmaps.specs.Counts.{both_of, tally_of}
use Rattle.vm_atomic_bitmaps.specs.Passes.{Pass}
use Rattle.vm_atomic_bitmaps.proofs.PassTotals.{length-each_tally}
use Rattle.vm_atomic_bitmaps.proofs.PassSeats.{seat_of}
use Rattle.vm_atomic_bitmaps.proofs.PassParts.{joins_allowed}
use Rattle.vm_atomic_bitmaps.proofs.atomic_bitmap.AtomicBitmap.join_pass.Goals as goal

pub join_seat-requires : goal.join_seat-requires
join_seat-requires c =
    let seat = seat_of _ _ _ _ _ _ _ _ _ c.pass.view_is c.self.view_is c.self.invariant.2 c.self.invariant.3 c.requires.own in
    let other = seat_of _ _ _ _ _ _ _ _ _ c.other.view_is c.self.view_is c.self.invariant.2 c.self.invariant.3 c.requires.other in
    (seat.table, other.table, c.other.invariant.0, seat.some_word, joins_allowed _ _ _ _ _ seat.long c.pass.invariant.1)

pub returns-clause-own : goal.returns-clause-own
returns-clause-own c =
    let name = ap (λ (p : Pass). p.name) c.pass.view_is ∙ c.requires.own.0 in
    let long = ap (λ (p : Pass). length p.counts.pages) c.pass.view_is ∙ c.requires.own.1 in (
      c.join_seat.ensures.0 ∙ name,
      ap (λ m. length m.0.pages) c.join_seat.ensures.2 ∙ length-each_tally (λ p t. both_of t (tally_of c.other.inside.seat.me.0.pages p)) 0
          c.pass.inside.seat.me.0.pages ∙ long,
    )
