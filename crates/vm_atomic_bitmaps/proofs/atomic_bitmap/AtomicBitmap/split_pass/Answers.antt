use Rattle.std.proofs.Common.{length, ap, ◌∙◌}
use Rattle.vm_atomic_bitmaps.specs.Counts.{no_tally}
use Rattle.vm_atomic_bitmaps.specs.Passes.{Pass}
use Rattle.vm_atomic_bitmaps.proofs.PassTotals.{length-each_tally}
use Rattle.vm_atomic_bitmaps.proofs.PassSeats.{seat_of}
use Rattle.vm_atomic_bitmaps.proofs.PassParts.{halves_allowed}
use Rattle.vm_atomic_bitmaps.proofs.atomic_bitmap.AtomicBitmap.split_pass.Goals as goal

pub split_seat-seat-requires : goal.split_seat-seat-requires
split_seat-seat-requires c =
    let seat = seat_of _ _ _ _ _ _ _ _ _ c.pass.view_is c.self.view_is c.self.invariant.2 c.self.invariant.3 c.requires in
    (seat.table, seat.some_word, halves_allowed _ _ _ c.pass.invariant.1)

pub returns-clause-own : goal.returns-clause-own
returns-clause-own c =
    let name = ap (λ (p : Pass). p.name) c.pass.view_is ∙ c.requires.0 in
    let long = ap (λ (p : Pass). length p.counts.pages) c.pass.view_is ∙ c.requires.1 in
    (c.split_seat-seat.ensures.0 ∙ name, ap (λ m. length m.0.pages) c.split_seat-seat.ensures.2 ∙ long)

pub returns-clause-own_second : goal.returns-clause-own_second
returns-clause-own_second c =
    let name = ap (λ (p : Pass). p.name) c.pass.view_is ∙ c.requires.0 in
    let long = ap (λ (p : Pass). length p.counts.pages) c.pass.view_is ∙ c.requires.1 in (
      c.split_seat-seat.ensures.3 ∙ name,
      ap (λ m. length m.0.pages) c.split_seat-seat.ensures.4 ∙ length-each_tally (λ p t. no_tally) 0 c.pass.inside.seat.me.0.pages ∙ long,
    )
