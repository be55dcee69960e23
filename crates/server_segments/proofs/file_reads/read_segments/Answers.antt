use Rattle.std.proofs.Common.{◌≡◌, ◌++◌, [], Err, arith, rules}
use Rattle.fuse_fs.proofs.SegmentReads.{Offered, so_far_none, so_far_whole, so_far_past, so_far_stops, so_far_proceeds, so_far_fails}
use Rattle.server_segments.proofs.Fillings.{added, all_put, filling}
use Rattle.server_segments.proofs.file_reads.read_segments.Goals as goal

pub loop-done-init : goal.loop-done-init
loop-done-init g c =
    let a = c.free_bytes.ensures in
    let b = c.args.buffer.now in
    let held : Offered (filling [] (g.B.SegmentBuffer.room b) (g.B.SegmentBuffer.rooms b)) c.args.count c.min-most.result =
    record { limit = omega (arith, c.min-most.ensures, a.free); all = a.all; some = a.some } in
    record {
      offered = held;
      put = (
        [],
        g.met.B.SegmentBuffer.puts_none b,
        so_far_none g.F.PositionedFile.read_gives c.args.file.now
            (filling [] (g.B.SegmentBuffer.room b) (g.B.SegmentBuffer.rooms b)) c.args.count c.min-most.result c.args.off held,
      );
    }

pub returns-in_default : goal.returns-in_default
returns-in_default g c =
    let l = c.loop-done.invariant in
    all_put (λ bs. g.B.SegmentBuffer.Puts c.args.buffer.now bs c.loop-done.buffer) g.F.PositionedFile.read_gives _ _ _ l.put.1
    (so_far_past g.F.PositionedFile.read_gives _ _ _ _ _ _ _ _ l.offered l.put.2 c.loop-done-test.true
    (omega (arith, c.in_default.ensures)))

pub returns : goal.returns
returns g c =
    let l = c.loop-done.invariant in
    all_put (λ bs. g.B.SegmentBuffer.Puts c.args.buffer.now bs c.loop-done.buffer) g.F.PositionedFile.read_gives _ _ _ l.put.1
    (so_far_whole g.F.PositionedFile.read_gives _ _ _ _ _ _ _ _ l.offered l.put.2 (omega arith))

pub returns-then-n-eq0 : goal.returns-then-n-eq0
returns-then-n-eq0 g c =
    let l = c.loop-done.invariant in
    let e = c.in_ok-n.ensures in
    all_put (λ bs. g.B.SegmentBuffer.Puts c.args.buffer.now bs c.read_once.new.self) g.F.PositionedFile.read_gives _ _ _
    (g.met.B.SegmentBuffer.puts_more _ _ _ l.put.0 e.0 l.put.1 e.1)
    (so_far_stops g.F.PositionedFile.read_gives _ _ _ _ _ _ _ _ _ _ e.0 _ _ l.offered l.put.2 e.4 (added l.put.0 e.0 e.2 e.3)
    c.if-n-eq0.true c.in-Some.ensures.1 (omega arith))

pub loop-done-preserved : goal.loop-done-preserved
loop-done-preserved g c =
    let l = c.loop-done.invariant in
    let e = c.in_ok-n.ensures in
    record {
      offered = l.offered;
      put = (
        l.put.0 ++ e.0,
        g.met.B.SegmentBuffer.puts_more _ _ _ l.put.0 e.0 l.put.1 e.1,
        so_far_proceeds g.F.PositionedFile.read_gives _ _ _ _ _ _ _ _ _ _ e.0 _ _ l.offered l.put.2 e.4 (added l.put.0 e.0 e.2 e.3)
            c.if-n-eq0.false c.in-Some.ensures.1,
      );
    }

pub returns-in_err-n : goal.returns-in_err-n
returns-in_err-n g c =
    let l = c.loop-done.invariant in
    let e = c.in_err-n.ensures in
    let failed : c.from_residual.result ≡ Err c.in_err-n.field-0.0 = search rules in
    rw failed (all_put (λ bs. g.B.SegmentBuffer.Puts c.args.buffer.now bs c.read_once.new.self) g.F.PositionedFile.read_gives _ _ _
    (g.met.B.SegmentBuffer.puts_more _ _ _ l.put.0 e.0 l.put.1 e.1)
    (so_far_fails g.F.PositionedFile.read_gives _ _ _ _ _ _ _ _ _ _ e.0 _ _ l.offered l.put.2 e.4 (added l.put.0 e.0 e.2 e.3)
    c.in-Some.ensures.1 (omega arith)))
