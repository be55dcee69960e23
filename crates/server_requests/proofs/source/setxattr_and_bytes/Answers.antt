use Rattle.std.proofs.Common.{sym, ◌∙◌}
use Rattle.server_requests.proofs.NameLemmas.{setxattr_without, setxattr_short}
use Rattle.server_requests.proofs.source.setxattr_and_bytes.Goals as goal

pub returns-in-Ok-clause-reads : goal.returns-in-Ok-clause-reads
returns-in-Ok-clause-reads g c =
    rw c.with_no_flags.ensures
    (setxattr_without _ _ _ _ c.in-Ok.front.record (sym c.has_setxattr_ext.ensures ∙ c.if-has_setxattr_ext.false) c.in-Ok.ensures.reads)

pub returns-in-Err-clause-fault : goal.returns-in-Err-clause-fault
returns-in-Err-clause-fault g c =
    λ other. setxattr_short _ _ _ _ (sym c.has_setxattr_ext.ensures ∙ c.if-has_setxattr_ext.false) (c.in-Err.ensures.fault other)
