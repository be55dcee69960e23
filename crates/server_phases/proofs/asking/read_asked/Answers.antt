use Rattle.std.proofs.Common.{refl, ◌-◌}
use Rattle.server_calls.specs.Requests.{read_call}
use Rattle.server_meanings.specs.Grammar.{One}
use Rattle.server_phases.proofs.asking.read_asked.Goals as goal

pub returns-clause-decoded : goal.returns-clause-decoded
returns-clause-decoded c = λ page_size options bytes. (
  One c.args.head.now.unique (read_call c.args.head.now (c.args.room - 16) c.args.request.now),
  refl,
  c.read_value.ensures.call bytes,
  c.read_value.ensures.data_apart bytes,
  (refl, refl, tt, refl),
  refl,
)
