use Rattle.std.proofs.Common.{◌≡◌, ◌+◌, ◌≤◌, ◌++◌, [], ◌∷◌, length, take, sum, vec_len, arith, sym, ap, ◌∙◌}
use Rattle.std.proofs.lemmas.Grind.{common_steps}
use Rattle.fuse_fs.specs.Lengths.{filled, past, up_to}
use Rattle.server_segments.specs.SegmentPlaces.{bytes_before, IsIn}
use Rattle.server_segments.specs.ReaderAndWriterView.{WriterView}
use Rattle.fuse_fs.proofs.Lengths.{sum-past, sum-up_to, filled-past, filled-up_to}
use Rattle.server_segments.proofs.Placing.{behind_is, before_is, kept_before}
use Rattle.server_segments.proofs.writer.Writer.split_at.Goals as goal

pub over-requires-clause-sum : goal.over-requires-clause-sum
over-requires-clause-sum c =
    let i = c.self.inside in
    let cut = c.behind-cut.result in
    let at : bytes_before i.segments.items cut.segment cut.used ≡ vec_len i.bytes + c.args.offset =
    omega (arith, rw c.deref.ensures at c.behind-cut.ensures.before, c.self.invariant.5) in
    let is : IsIn i.segments.items cut.segment cut.used = rw c.deref.ensures at c.behind-cut.ensures.inside in
    let items = rw c.deref-2.ensures at c.in_ok-segments.ensures.ok
    ∙ sym (behind_is i.segments.items cut.segment cut.used (vec_len i.bytes + c.args.offset) is at) in
    let all = ap sum items ∙ sum-past (vec_len i.bytes + c.args.offset) i.segments.items in
    omega (arith, all, c.self.invariant.3, c.len.ensures)

pub over-requires-clause-filled : goal.over-requires-clause-filled
over-requires-clause-filled c =
    let i = c.self.inside in
    let cut = c.behind-cut.result in
    let at : bytes_before i.segments.items cut.segment cut.used ≡ vec_len i.bytes + c.args.offset =
    omega (arith, rw c.deref.ensures at c.behind-cut.ensures.before, c.self.invariant.5) in
    let is : IsIn i.segments.items cut.segment cut.used = rw c.deref.ensures at c.behind-cut.ensures.inside in
    let items = rw c.deref-2.ensures at c.in_ok-segments.ensures.ok
    ∙ sym (behind_is i.segments.items cut.segment cut.used (vec_len i.bytes + c.args.offset) is at) in
    ap filled items ∙ filled-past (vec_len i.bytes + c.args.offset) i.segments.items c.self.invariant.4 ∙ sym items

pub invariant_of-self-2 : goal.invariant_of-self-2
invariant_of-self-2 c =
    let i = c.self.inside in
    let cut = c.behind-cut.result in
    let b = c.behind-self-inside in
    let at : bytes_before i.segments.items cut.segment cut.used ≡ vec_len i.bytes + c.args.offset =
    omega (arith, rw c.deref.ensures at c.behind-cut.ensures.before, c.self.invariant.5) in
    let is : IsIn i.segments.items cut.segment cut.used = rw c.deref.ensures at c.behind-cut.ensures.inside in
    let fits : vec_len i.bytes + c.args.offset ≤ sum i.segments.items =
    omega (arith, c.if-free-offset.false, c.len.ensures, c.self.invariant.0, c.self.invariant.3) in
    let kept : c.cut_off.new.segments.items ≡ take cut.segment i.segments.items ++ filled (cut.used ∷ []) =
    c.cut_off.ensures.items ∙ ap (λ s. take cut.segment s ++ filled (cut.used ∷ [])) c.reserve.ensures.items in
    let whole = before_is i.segments.items c.cut_off.new.segments.items cut.segment cut.used (vec_len i.bytes + c.args.offset) is
    c.self.invariant.4 at fits kept in
    let all = ap sum whole ∙ sum-up_to (vec_len i.bytes + c.args.offset) i.segments.items in
    let before = kept_before i.segments.items c.cut_off.new.segments.items cut.segment cut.used i.place.segment i.place.used is
    c.behind-cut.ensures.after kept in
    let handed = c.in_ok-segments.ensures.len in (
      omega (arith, c.len-2.ensures),
      omega (arith, c.len.ensures, c.len-2.ensures, c.if-free-offset.false, c.self.invariant.0, c.self.invariant.1),
      grind (arith, common_steps, handed, c.len-handed.ensures, c.cut_off.ensures.len, c.cut_off.ensures.capacity),
      omega (arith, all, fits, c.len-2.ensures),
      ap filled whole ∙ filled-up_to (vec_len i.bytes + c.args.offset) i.segments.items c.self.invariant.4 ∙ sym whole,
      omega (arith, rw c.deref-3.ensures at b.ensures.before, before, c.self.invariant.5),
      rw c.deref-3.ensures at b.ensures.inside,
    )

pub returns-clause-segments : goal.returns-clause-segments
returns-clause-segments c =
    let i = c.self.inside in
    let cut = c.behind-cut.result in
    let at : bytes_before i.segments.items cut.segment cut.used ≡ length i.bytes.items + c.args.offset =
    omega (arith, rw c.deref.ensures at c.behind-cut.ensures.before, c.self.invariant.5, i.bytes.ok.0) in
    let is : IsIn i.segments.items cut.segment cut.used = rw c.deref.ensures at c.behind-cut.ensures.inside in
    let fits : length i.bytes.items + c.args.offset ≤ sum i.segments.items =
    omega (arith, c.if-free-offset.false, c.len.ensures, c.self.invariant.0, c.self.invariant.3, i.bytes.ok.0) in
    let kept : c.cut_off.new.segments.items ≡ take cut.segment i.segments.items ++ filled (cut.used ∷ []) =
    c.cut_off.ensures.items ∙ ap (λ s. take cut.segment s ++ filled (cut.used ∷ [])) c.reserve.ensures.items in
    before_is i.segments.items c.cut_off.new.segments.items cut.segment cut.used (length i.bytes.items + c.args.offset) is
    c.self.invariant.4 at fits kept
    ∙ ap (λ (v : WriterView). up_to (length v.written + c.args.offset) v.segments) c.self.view_is

pub returns-clause-behind : goal.returns-clause-behind
returns-clause-behind c =
    let i = c.self.inside in
    let cut = c.behind-cut.result in
    let at : bytes_before i.segments.items cut.segment cut.used ≡ length i.bytes.items + c.args.offset =
    omega (arith, rw c.deref.ensures at c.behind-cut.ensures.before, c.self.invariant.5, i.bytes.ok.0) in
    let is : IsIn i.segments.items cut.segment cut.used = rw c.deref.ensures at c.behind-cut.ensures.inside in
    c.in_ok-other.ensures.room.1 ∙ rw c.deref-2.ensures at c.in_ok-segments.ensures.ok
    ∙ sym (behind_is i.segments.items cut.segment cut.used (length i.bytes.items + c.args.offset) is at)
    ∙ ap (λ (v : WriterView). past (length v.written + c.args.offset) v.segments) c.self.view_is
