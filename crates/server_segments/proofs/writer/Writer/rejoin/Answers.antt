use Rattle.std.proofs.Common.{◌≡◌, ◌+◌, ◌++◌, length, sum, vec_len, arith, sym, ap, ◌∙◌}
use Rattle.std.proofs.lemmas.Grind.{common_steps}
use Rattle.fuse_fs.specs.Lengths.{filled}
use Rattle.server_segments.specs.SegmentPlaces.{bytes_before}
use Rattle.server_segments.specs.ReaderAndWriterView.{WriterView}
use Rattle.fuse_fs.proofs.Lengths.{filled-append}
use Rattle.server_segments.proofs.Placing.{joined_before, sum-append}
use Rattle.server_segments.proofs.writer.Writer.rejoin.Goals as goal

pub invariant_of-self : goal.invariant_of-self
invariant_of-self c =
    let i = c.self.inside in
    let o = c.other.inside in
    let b = c.behind-self-inside in
    let all : c.extend_from_slice-2.new.self.items ≡ i.segments.items ++ o.segments.items = grind (arith, common_steps) in
    let len : vec_len c.extend_from_slice.new.self ≡ vec_len i.bytes + c.args.count = grind (arith, common_steps) in
    let long : length c.args.other.written ≡ vec_len o.bytes =
    omega (arith, ap (λ (v : WriterView). length v.written) c.other.view_is, o.bytes.ok.0) in
    let spare : i.spare ≡ c.args.self.now.spare = ap (λ (v : WriterView). v.spare) c.self.view_is in
    let full : i.room ≡ vec_len i.bytes =
    omega (arith, c.self.invariant.0, c.requires.full, ap (λ (v : WriterView). v.free) c.self.view_is) in
    let free = ap (λ (v : WriterView). v.free) c.other.view_is in
    let seen : c.deref-3.result.now ≡ c.extend_from_slice-2.new.self.items = c.deref-3.ensures in
    let here = joined_before i.segments.items o.segments.items i.place.segment i.place.used c.self.invariant.6.there in
    let before_is_joined : bytes_before c.extend_from_slice-2.new.self.items b.result.segment b.result.used
    ≡ bytes_before (i.segments.items ++ o.segments.items) i.place.segment i.place.used +
    c.args.count = rw all (rw (seen, all) at b.ensures.before) in (
      omega (arith, len, full, long, c.requires.count, c.other.invariant.0),
      grind (arith, common_steps, len, full, long, free, spare, c.requires.bytes, c.self.invariant.1, c.other.invariant.0),
      grind (
        arith,
        common_steps,
        c.self.invariant.2,
        c.requires.segments,
        ap (λ (v : WriterView). v.rejoin) c.self.view_is,
        ap (λ (v : WriterView). length v.segments) c.other.view_is,
      ),
      ap sum all ∙ sum-append i.segments.items o.segments.items ∙ (let e : sum i.segments.items + sum o.segments.items ≡ i.room + o.room =
          omega (arith, c.self.invariant.3, c.other.invariant.3) in e),
      ap filled all ∙ filled-append i.segments.items o.segments.items ∙ ap (λ s. s ++ filled o.segments.items) c.self.invariant.4
          ∙ ap (λ s. i.segments.items ++ s) c.other.invariant.4 ∙ sym all,
      omega (arith, before_is_joined, here, c.self.invariant.5, len),
      rw seen at b.ensures.inside,
    )
