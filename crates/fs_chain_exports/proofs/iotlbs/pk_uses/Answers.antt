use Rattle.std.proofs.Common.{◌≡◌, rules, refl, subst}
use Rattle.fs_chain.specs.declared.chain_handle.ChainHandle.{ChainHandle}
use Rattle.fs_chain_c.specs.Iotlbs.{ReportsUse}
use Rattle.fs_chain_c.proofs.HandleLemmas.{on_handle}
use Rattle.fs_chain_exports.proofs.iotlbs.pk_uses.Goals as goal

pub returns : goal.returns
returns c =
    let returned = c.use_of-returned.result in
    let same : c.deref.result.now ≡ c.in-Some.handle.value = search rules in
    let reports = subst (λ (b : ChainHandle). ReportsUse b c.args.iova c.args.len returned) same c.use_of-returned.ensures in
    on_handle _ _ c.args.chain.now.held.value c.of_box.result.held.value
    c.in-Some.handle.value c.in-Some.handle.value (search rules) (search rules)
    (reports, refl)
