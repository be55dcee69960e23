use Rattle.fs_chain_c.proofs.NotifyLemmas.{checks, wishes}
use Rattle.fs_chain_c.proofs.laws.law_notifications.Goals as goal

pub returns : goal.returns
returns c = record { wish = wishes; check = checks }
