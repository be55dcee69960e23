use Rattle.std.proofs.Common.{sym}
use Rattle.server_requests.proofs.NameLemmas.{second_unnamed}
use Rattle.server_requests.proofs.names.two_names.Goals as goal

pub returns-in-Err-clause-err : goal.returns-in-Err-clause-err
returns-in-Err-clause-err c =
    (sym (second_unnamed _ _ _ _ c.in-Some.ensures.some c.in-Err.ensures.err.0), c.in-Err.ensures.err.1)
