-- Calls of a handle one behind another.
use Rattle.std.proofs.Common.{◌≡◌, ℕ, Bool, true, List, subst}
use Rattle.fs_chain.specs.Holds.{EndsPushInRun, PushesInRun}
use Rattle.fs_chain.specs.declared.chain_handle.ChainHandle.{ChainHandle}
use Rattle.fs_chain.specs.declared.pushing.PushStores.{PushStores}
use Rattle.fs_chain.specs.declared.queue.QueueState.{QueueState}

-- a push and its end
pub whole_push : (old mid : ChainHandle) (q during q' : QueueState) (front seen : List ℕ) (stores : PushStores) (notice : Bool)
    → PushesInRun old mid q front stores → during ≡ record q { pushing = true } → EndsPushInRun mid during q' seen notice
    → EndsPushInRun old q q' seen notice
unfolding PushesInRun EndsPushInRun
whole_push old mid q during q' front seen stores notice first same then s before behind c x last out there held proceeds =
    let after : EndsPushInRun mid (record q { pushing = true }) q' seen notice =
    subst (λ (k : QueueState). EndsPushInRun mid k q' seen notice) same then in
    after s before behind c x last out there (first s.page_size c x held proceeds).0 proceeds
