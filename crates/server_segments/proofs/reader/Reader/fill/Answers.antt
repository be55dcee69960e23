use Rattle.std.proofs.Common.{◌≡◌, ◌+◌, ◌≤◌, ◌++◌, length, take, drop, sym, ◌∙◌, ap, arith, rules}
use Rattle.std.proofs.lemmas.Grind.{common_steps}
use Rattle.std.proofs.lemmas.List.{drop-drop, take-take, length-take-le}
use Rattle.fuse_fs.specs.Lengths.{first, past}
use Rattle.server_segments.proofs.Filling.{filled_more}
use Rattle.fuse_fs.proofs.Lengths.{past-past, past_zero_of}
use Rattle.server_segments.proofs.reader.Reader.fill.Goals as goal

pub loop-done-init : goal.loop-done-init
loop-done-init c = record {
  within = search (rules, common_steps);
  bytes = search (rules, common_steps);
  left = search (rules, common_steps);
  segments = sym (past_zero_of c.args.self.now.segments c.available_bytes.ensures.segments.1);
  read = search (rules, common_steps);
}

pub loop-done-preserved : goal.loop-done-preserved
loop-done-preserved c =
    let l = c.loop-done in
    let n = c.min-n.result in
    let segment = c.segment-segment.result.now in
    let s = c.segment-segment.ensures in
    let few : n ≤ length segment = omega (arith, c.min-n.ensures) in
    let all = c.min-count.ensures in
    let left_len = c.available_bytes.ensures.left in
    let part : take n segment ≡ take n (drop l.done c.args.self.now.left) =
    ap (take n) s.bytes ∙ take-take n (first l.self.segments) l.self.left (omega (arith, few, s.len)) ∙ ap (take n) l.invariant.left
    in
    record {
      within = omega (arith, c.min-n.ensures, l.invariant.within);
      bytes =
          c.write_at.ensures
          ∙ ap (λ k. take l.done l.buf ++ take n segment ++ drop (l.done + k) l.buf) (length-take-le n segment few)
          ∙ filled_more c.args.buf.now c.args.self.now.left l.done n l.buf (take n segment) (omega (arith, all, l.invariant.within))
          (omega (arith, all, left_len, l.invariant.within)) l.invariant.bytes part;
      left = c.advance.ensures.left ∙ ap (drop n) l.invariant.left ∙ drop-drop n l.done c.args.self.now.left;
      segments = c.advance.ensures.segments ∙ ap (past n) l.invariant.segments ∙ past-past n l.done c.args.self.now.segments;
      read = omega (arith, c.advance.ensures.read, l.invariant.read);
    }
