use Rattle.std.proofs.Common.{◌≡◌, ℕ, ◌-◌, List, length, get_or, arith, ap, ◌∙◌}
use Rattle.fuse_fs.specs.Lengths.{first}
use Rattle.server_segments.specs.ReaderAndWriterView.{WriterView, rooms}
use Rattle.server_segments.specs.SegmentPlaces.{bytes_before}
use Rattle.server_segments.proofs.Placing.{first_some, first_none}
use Rattle.server_segments.proofs.writer.Writer.first_room.Goals as goal

pub returns-then-segment-len-clause-first : goal.returns-then-segment-len-clause-first
returns-then-segment-len-clause-first c =
    let i = c.self.inside in
    let at : bytes_before i.segments.items i.place.segment i.place.used ≡ length i.bytes.items =
    omega (arith, c.self.invariant.5, i.bytes.ok.0) in
    ap (λ (s : List ℕ). get_or s i.place.segment 0 - i.place.used) c.deref.ensures
    ∙ first_some i.segments.items i.place.segment i.place.used (length i.bytes.items) c.self.invariant.6 at
    (omega (arith, c.if-segment-len.true)) ∙ ap (λ (v : WriterView). first (rooms v)) c.self.view_is

pub returns-else-segment-len-clause-first : goal.returns-else-segment-len-clause-first
returns-else-segment-len-clause-first c =
    let i = c.self.inside in
    let at : bytes_before i.segments.items i.place.segment i.place.used ≡ length i.bytes.items =
    omega (arith, c.self.invariant.5, i.bytes.ok.0) in
    first_none i.segments.items i.place.segment i.place.used (length i.bytes.items) c.self.invariant.6 at
    (omega (arith, c.if-segment-len.false)) ∙ ap (λ (v : WriterView). first (rooms v)) c.self.view_is
