use Rattle.fs_queue.proofs.ReturnLemmas.{returns_by_stores}
use Rattle.fs_queue.proofs.laws.law_returns.Goals as goal

pub returns : goal.returns
returns c = returns_by_stores
