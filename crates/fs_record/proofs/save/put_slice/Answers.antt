use Rattle.std.proofs.Common.{rules, refl}
use Rattle.fs_record.proofs.StreamLemmas.{put_more}
use Rattle.fs_record.proofs.save.put_slice.Goals as goal

pub loop-rest-preserved : goal.loop-rest-preserved
loop-rest-preserved g c = record {
  put = put_more _ c.loop-rest.invariant.put.0 _ c.in-Ok.n _ _ _ _ refl c.loop-rest.invariant.put.1 c.loop-rest.invariant.put.2
      c.in-Ok.ensures.sent;
  failed = Prim.search rules;
}
