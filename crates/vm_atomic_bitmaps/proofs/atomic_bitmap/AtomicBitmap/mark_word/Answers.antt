use Rattle.std.proofs.Common.{ℕ, sym, subst}
use Rattle.vm_atomic_bitmaps.specs.Steps.{NoneBeyond}
use Rattle.vm_atomic_bitmaps.proofs.PassSeats.{seat_of}
use Rattle.vm_atomic_bitmaps.proofs.AllowedSteps.{marks_allowed}
use Rattle.vm_atomic_bitmaps.proofs.atomic_bitmap.AtomicBitmap.mark_word.Goals as goal

pub fetch_or-requires : goal.fetch_or-requires
fetch_or-requires c =
    let seat = seat_of _ _ _ _ _ _ _ _ _ c.pass.view_is c.self.view_is c.self.invariant.2 c.self.invariant.3 c.requires.own in
    let within = seat.inside c.args.word c.requires.inside in
    let beyond = subst (λ (n : ℕ). NoneBeyond n c.args.word c.args.mask) (sym seat.key_is) c.requires.past in
    (seat.table, seat.word c.args.word c.requires.inside, marks_allowed _ _ _ _ _ _ seat.long c.pass.invariant.1 within beyond)
