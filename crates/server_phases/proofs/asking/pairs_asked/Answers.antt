use Rattle.std.proofs.Common.{refl, ap}
use Rattle.fuse_fs.specs.declared.answers.Context.{Context}
use Rattle.fuse_fs.specs.Calls.{BatchForget}
use Rattle.fuse_values.specs.Values.{pairs_in}
use Rattle.server_calls.specs.Requests.{batch_forget_call}
use Rattle.server_meanings.specs.Grammar.{One}
use Rattle.server_phases.proofs.asking.pairs_asked.Goals as goal

pub returns-clause-decoded : goal.returns-clause-decoded
returns-clause-decoded c = λ page_size options m bytes whole asks. (
  One c.args.head.now.unique (batch_forget_call c.args.head.now (pairs_in c.args.counts.bytes.now)),
  asks,
  ap (λ (who : Context). BatchForget who (pairs_in c.args.counts.bytes.now)) c.from-context.ensures,
  whole,
  (refl, refl, tt, refl),
  refl,
)
