use Rattle.std.proofs.Common.{◌≡◌, Err, min, ap, ◌∙◌, arith, rules, option_map}
use Rattle.server_segments.proofs.Spending.{Lent, spent_none, spent_whole, spent_past, spent_stops, spent_proceeds, spent_fails}
use Rattle.server_segments.proofs.zero_copy.ZcReaderZeroCopyReader.write_to_file_at.Goals as goal

pub loop-done-init : goal.loop-done-init
loop-done-init g c =
    let a = c.available_bytes.ensures in
    let r = c.args.self.now.reader in
    let lent : Lent r c.args.count c.min-most.result =
    record { limit = c.min-most.ensures ∙ ap (min c.args.count) a.left; all = a.segments.0; some = a.segments.1 } in
    record {
      lent = lent;
      spent = spent_none g.F.PositionedFile.write_gives c.args.file.now r c.args.count c.min-most.result c.args.off
          (option_map (λ f. f.0) c.args.flags) lent;
    }

pub returns-in_default : goal.returns-in_default
returns-in_default g c =
    let l = c.loop-done.invariant in
    spent_past g.F.PositionedFile.write_gives _ _ _ _ _ _ _ _ _ l.lent l.spent c.loop-done-test.true (omega (arith, c.in_default.ensures))

pub returns : goal.returns
returns g c =
    let l = c.loop-done.invariant in
    spent_whole g.F.PositionedFile.write_gives _ _ _ _ _ _ _ _ _ l.lent l.spent (omega arith)

pub returns-then-n-eq0 : goal.returns-then-n-eq0
returns-then-n-eq0 g c =
    let e = c.in_ok-n.ensures in
    let l = c.loop-done.invariant in
    spent_stops g.F.PositionedFile.write_gives _ _ _ _ _ _ _ _ _ _ _ _ _ l.lent l.spent e.once e.left e.segments e.read c.if-n-eq0.true
    c.in-Some.ensures.1 (omega arith)

pub loop-done-preserved : goal.loop-done-preserved
loop-done-preserved g c =
    let e = c.in_ok-n.ensures in
    let l = c.loop-done.invariant in
    record {
      lent = l.lent;
      spent = spent_proceeds g.F.PositionedFile.write_gives _ _ _ _ _ _ _ _ _ _ _ _ _ l.lent l.spent e.once e.left e.segments e.read
          c.if-n-eq0.false c.in-Some.ensures.1;
    }

pub returns-in_err-n : goal.returns-in_err-n
returns-in_err-n g c =
    let e = c.in_err-n.ensures in
    let l = c.loop-done.invariant in
    let failed : c.from_residual.result ≡ Err c.in_err-n.field-0.0 = search rules in
    rw failed (spent_fails g.F.PositionedFile.write_gives _ _ _ _ _ _ _ _ _ _ _ _ _ l.lent l.spent e.once e.err c.in-Some.ensures.1
    (omega arith))
