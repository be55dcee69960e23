use Rattle.std.proofs.Common.{cond, ◌%◌, length, ap, ◌∙◌}
use Rattle.std.specs.Int.{bit_at}
use Rattle.vm_atomic_bitmaps.specs.Counts.{after_clearing, in_word}
use Rattle.vm_atomic_bitmaps.specs.Passes.{Pass}
use Rattle.vm_atomic_bitmaps.proofs.PassTotals.{length-each_tally}
use Rattle.vm_atomic_bitmaps.proofs.PassSeats.{seat_of}
use Rattle.vm_atomic_bitmaps.proofs.AllowedSteps.{gathers_allowed}
use Rattle.vm_atomic_bitmaps.proofs.atomic_bitmap.AtomicBitmap.gather.Goals as goal

pub swap-requires : goal.swap-requires
swap-requires c =
    let seat = seat_of _ _ _ _ _ _ _ _ _ c.pass.view_is c.self.view_is c.self.invariant.2 c.self.invariant.3 c.requires.own in
    let within = seat.inside c.args.word c.requires.inside in
    (seat.table, seat.word c.args.word c.requires.inside, gathers_allowed _ _ _ _ _ seat.long c.pass.invariant.1 within)

pub returns-clause-own : goal.returns-clause-own
returns-clause-own c =
    let name = ap (λ (p : Pass). p.name) c.pass.view_is ∙ c.requires.own.0 in
    let long = ap (λ (p : Pass). length p.counts.pages) c.pass.view_is ∙ c.requires.own.1 in
    let pages = c.pass.inside.seat.me.0.pages in
    let count = length-each_tally (λ p t. cond (in_word c.args.word p) (after_clearing (bit_at c.swap.result (p % 64)) t) t) 0 pages in
    (c.swap.ensures.0 ∙ name, ap (λ m. length m.0.pages) c.swap.ensures.2.0 ∙ count ∙ long)
