use Rattle.std.proofs.Common.{rules, refl, ◌<◌, length}
use Rattle.fs_record.proofs.StreamLemmas.{read_more, read_less, read_kept}
use Rattle.fs_record.proofs.restore.fill.Goals as goal

pub returns-in-Ok-eq0-clause-err : goal.returns-in-Ok-eq0-clause-err
returns-in-Ok-eq0-clause-err g c =
    let part = read_less c.loop-at.at c.in-Ok-eq0.field-0 c.loop-at.buf c.get.new.buf _ _ _ c.loop-at-test.true c.in-Ok-eq0.field-0-test
    c.loop-at.invariant.read c.in-Ok-eq0.ensures.left.0 in
    let some : 0 < length c.get.new.buf = Prim.search rules in
    (part.0, Prim.search rules, part.2, refl, (c.in-Ok-eq0.ensures.left.1 c.in-Ok-eq0.field-0-test some, Prim.search rules))

pub loop-at-preserved : goal.loop-at-preserved
loop-at-preserved g c = record {
  within = Prim.search rules;
  read = read_more c.loop-at.at c.in-Ok.n c.loop-at.buf c.get.new.buf _ _ _ c.loop-at.invariant.within c.in-Ok.ensures.bound.0
      c.loop-at.invariant.read c.in-Ok.ensures.left.0;
  failed = Prim.search rules;
}

pub returns-in-Err-clause-err : goal.returns-in-Err-clause-err
returns-in-Err-clause-err g c =
    let part = read_kept c.loop-at.at c.loop-at.buf _ _ _ c.loop-at-test.true c.loop-at.invariant.read c.in-Err.ensures.left in
    (part.0, Prim.search rules, part.2, refl, Prim.search rules)
