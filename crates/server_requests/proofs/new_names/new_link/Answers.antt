use Rattle.std.proofs.Common.{sym}
use Rattle.server_requests.proofs.ExtraLemmas.{link_refused, link_unlinked}
use Rattle.server_requests.proofs.new_names.new_link.Goals as goal

pub returns-in-Err-received_extensions-clause-fault :
    goal.returns-in-Err-received_extensions-clause-fault
returns-in-Err-received_extensions-clause-fault c = (
  sym (link_refused _ _ _ _ _ _ _ _ _ c.in-Ok.ensures.reads c.in-Ok-front_name.ensures.reads c.in-Err-received_extensions.ensures.reads),
  c.in-Err-received_extensions.ensures.fault,
)

pub returns-in-Err-front_name-clause-fault : goal.returns-in-Err-front_name-clause-fault
returns-in-Err-front_name-clause-fault c = (
  sym (link_unlinked _ _ _ _ _ _ c.in-Ok.ensures.reads c.in-Err-front_name.ensures.fault.0),
  c.in-Err-front_name.ensures.fault.1,
)
