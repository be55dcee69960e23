use Rattle.std.proofs.Common.{refl}
use Rattle.server_calls.specs.Requests.{write_call}
use Rattle.server_meanings.specs.Grammar.{One}
use Rattle.server_phases.proofs.asking.write_asked.Goals as goal

pub returns-clause-decoded : goal.returns-clause-decoded
returns-clause-decoded c = λ page_size options bytes e. (
  One c.args.head.now.unique (write_call c.args.head.now c.args.request.now bytes),
  refl,
  c.write_value.ensures.call bytes,
  c.write_value.ensures.data_apart bytes e,
  (refl, refl, tt, refl),
  refl,
)
