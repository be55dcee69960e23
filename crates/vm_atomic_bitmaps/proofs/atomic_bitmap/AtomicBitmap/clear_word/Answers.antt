use Rattle.std.proofs.Common.{◌≡◌, ◌∙◌, ap}
use Rattle.vm_atomic_bitmaps.specs.Counts.{with_pages, cleared_by, picks}
use Rattle.vm_atomic_bitmaps.specs.Passes.{Pass, counting}
use Rattle.vm_atomic_bitmaps.proofs.PageRuns.{cleared_not}
use Rattle.vm_atomic_bitmaps.proofs.PassSeats.{seat_of}
use Rattle.vm_atomic_bitmaps.proofs.AllowedSteps.{clears_allowed}
use Rattle.vm_atomic_bitmaps.proofs.atomic_bitmap.AtomicBitmap.clear_word.Goals as goal

pub fetch_and-requires : goal.fetch_and-requires
fetch_and-requires c =
    let seat = seat_of _ _ _ _ _ _ _ _ _ c.pass.view_is c.self.view_is c.self.invariant.2 c.self.invariant.3 c.requires.own in
    let within = seat.inside c.args.word c.requires.inside in
    (seat.table, seat.word c.args.word c.requires.inside, clears_allowed _ _ _ _ _ _ seat.long c.pass.invariant.1 within)

pub returns-clause-pass : goal.returns-clause-pass
returns-clause-pass c =
    let name = c.fetch_and.ensures.0 in
    let me = ap (λ m. m.0) c.fetch_and.ensures.2.0 in
    let counts = me ∙ ap (with_pages c.pass.inside.seat.me.0)
    (cleared_not c.args.word c.args.mask c.fetch_and.result c.pass.inside.seat.me.0.pages c.ranges.mask.fits) in
    let here : record { name = c.fetch_and.new.seat.table_id; counts = c.fetch_and.new.seat.me.0 }
    ≡ counting (record { name = c.pass.inside.seat.table_id; counts = c.pass.inside.seat.me.0 })
    (cleared_by (picks c.args.word c.args.mask 1) c.fetch_and.result c.pass.inside.seat.me.0.pages) =
    λ i. record { name = name i; counts = counts i } in
    here ∙ ap (λ (p : Pass). counting p (cleared_by (picks c.args.word c.args.mask 1) c.fetch_and.result p.counts.pages)) c.pass.view_is
