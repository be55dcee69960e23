use Rattle.std.proofs.Common.{sym}
use Rattle.server_requests.proofs.ExtraLemmas.{new_refused}
use Rattle.server_requests.proofs.new_names.new_name.Goals as goal

pub returns-in-Err-received_extensions-clause-fault :
    goal.returns-in-Err-received_extensions-clause-fault
returns-in-Err-received_extensions-clause-fault c = (
  sym (new_refused _ _ _ _ _ _ c.in-Ok.ensures.reads c.in-Err-received_extensions.ensures.reads),
  c.in-Err-received_extensions.ensures.fault,
)
