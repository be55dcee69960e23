use Rattle.std.proofs.Common.{◌≡◌, ap, ◌∙◌}
use Rattle.vm_atomic_bitmaps.specs.declared.counts.PageCounts.{PageCounts}
use Rattle.vm_atomic_bitmaps.specs.Counts.{met_of, tally_of, met_with, telling, both_passes}
use Rattle.vm_atomic_bitmaps.specs.Passes.{counting}
use Rattle.vm_atomic_bitmaps.proofs.PassTotals.{length-each_tally}
use Rattle.vm_atomic_bitmaps.proofs.PassSeats.{seat_of, own_after}
use Rattle.vm_atomic_bitmaps.proofs.PassParts.{joins_allowed, reports_allowed, meets}
use Rattle.vm_atomic_bitmaps.proofs.atomic_bitmap.AtomicBitmap.meet_pass.Goals as goal

pub split_seat-seat-requires : goal.split_seat-seat-requires
split_seat-seat-requires c =
    let other = seat_of _ _ _ _ _ _ _ _ _ c.other.view_is c.self.view_is c.self.invariant.2 c.self.invariant.3 c.requires.other in
    (other.table, other.some_word, reports_allowed _ _ _ c.other.invariant.1)

pub join_seat-requires : goal.join_seat-requires
join_seat-requires c =
    let seat = seat_of _ _ _ _ _ _ _ _ _ c.pass.view_is c.self.view_is c.self.invariant.2 c.self.invariant.3 c.requires.own in
    let other = seat_of _ _ _ _ _ _ _ _ _ c.other.view_is c.self.view_is c.self.invariant.2 c.self.invariant.3 c.requires.other in (
      seat.table,
      c.split_seat-seat.ensures.3 ∙ other.table,
      ap (λ m. m.1) c.split_seat-seat.ensures.4,
      seat.some_word,
      joins_allowed _ _ _ _ _ seat.long c.pass.invariant.1,
    )

pub returns-clause-pass : goal.returns-clause-pass
returns-clause-pass c =
    let name = c.join_seat.ensures.0 in
    let me : c.join_seat.new.seat.me.0 ≡ both_passes c.pass.inside.seat.me.0 c.split_seat-seat.result.me.0 =
    ap (λ m. m.0) c.join_seat.ensures.2 in
    let teller : c.split_seat-seat.result.me.0 ≡ telling c.other.inside.seat.me.0 = ap (λ m. m.0) c.split_seat-seat.ensures.4 in
    let counts = me ∙ ap (λ (u : PageCounts). both_passes c.pass.inside.seat.me.0 u) teller
    ∙ meets c.pass.inside.seat.me.0 c.other.inside.seat.me.0 in
    let here : record { name = c.join_seat.new.seat.table_id; counts = c.join_seat.new.seat.me.0 }
    ≡ counting (record { name = c.pass.inside.seat.table_id; counts = c.pass.inside.seat.me.0 })
    (met_with c.other.inside.seat.me.0.pages c.pass.inside.seat.me.0.pages) =
    λ i. record { name = name i; counts = counts i } in
    here ∙ (λ i. counting (c.pass.view_is i) (met_with (c.other.view_is i).counts.pages (c.pass.view_is i).counts.pages))

pub returns-clause-own : goal.returns-clause-own
returns-clause-own c =
    let us = c.args.other.now.counts.pages in
    let pages = c.args.pass.now.counts.pages in
    own_after c.args.self.now c.args.pass.now _ (met_with us pages) c.requires.own (returns-clause-pass c)
    (length-each_tally (λ p t. met_of t (tally_of us p)) 0 pages)
