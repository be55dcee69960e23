use Rattle.std.proofs.Common.{sym, ◌∙◌}
use Rattle.server_requests.proofs.ExtraLemmas.{extra_missing, extra_given, extra_fault}
use Rattle.server_requests.proofs.extensions.received_extensions.Goals as goal

pub returns-then-lacks_context-clause-reads : goal.returns-then-lacks_context-clause-reads
returns-then-lacks_context-clause-reads c =
    sym (extra_missing _ _ _ (sym c.takes_any.ensures ∙ c.if-takes_any.true) c.in-Ok.ensures.reads
    (sym c.lacks_context.ensures ∙ c.if-lacks_context.true))

pub returns-else-lacks_context-clause-reads : goal.returns-else-lacks_context-clause-reads
returns-else-lacks_context-clause-reads c =
    sym (extra_given _ _ _ (sym c.takes_any.ensures ∙ c.if-takes_any.true) c.in-Ok.ensures.reads
    (sym c.lacks_context.ensures ∙ c.if-lacks_context.false))

pub returns-in-Err-clause-reads : goal.returns-in-Err-clause-reads
returns-in-Err-clause-reads c = sym (extra_fault _ _ _ (sym c.takes_any.ensures ∙ c.if-takes_any.true) c.in-Err.ensures.reads)
