use Rattle.fs_shared.proofs.auditing.audit.Goals as goal

pub returns-then-all_match : goal.returns-then-all_match
returns-then-all_match c = (
  λ yes. record { matched = c.all_match.ensures.0 c.if-all_match.true; once = c.each_once.ensures.0 yes },
  λ all. c.each_once.ensures.1 all.once,
)
