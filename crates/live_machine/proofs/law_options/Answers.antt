use Rattle.live_machine.proofs.Options.{options_stay}
use Rattle.live_machine.proofs.law_options.Goals as goal

pub returns : goal.returns
returns c = options_stay
