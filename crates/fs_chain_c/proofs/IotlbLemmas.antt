-- What is done with the `IotlbPlace` of a place, by what it holds before and after.
use Rattle.std.proofs.Common.{◌≡◌, ℕ, Option, Some, sym, subst}
use Rattle.fs_chain.specs.declared.chain_handle.ChainHandle.{ChainHandle}
use Rattle.fs_chain.specs.declared.iotlb_place.IotlbPlace.{IotlbPlace}
use Rattle.fs_chain_c.specs.Iotlbs.{ExchangesTables, ExchangesPlace, OnPlace}

pub on_place : (Does : IotlbPlace → IotlbPlace → Type 0) (Nothing : Type 0) (before after : Option IotlbPlace) (b b' : IotlbPlace)
    → before ≡ Some b → after ≡ Some b' → Does b b' → OnPlace Does Nothing before after
on_place Does Nothing before after b b' was is does =
    subst (λ (o : Option IotlbPlace). OnPlace Does Nothing o after) (sym was)
    (subst (λ (o : Option IotlbPlace). OnPlace Does Nothing (Some b) o) (sym is) does)

-- both are there, before and after
pub exchanged : (before after : Option ChainHandle) (place place' : Option IotlbPlace) (status : ℕ) (b b' : ChainHandle) (p p' : IotlbPlace)
    → before ≡ Some b → after ≡ Some b' → place ≡ Some p → place' ≡ Some p' → ExchangesPlace b p status b' p'
    → ExchangesTables before place status after place'
exchanged before after place place' status b b' p p' was is had has does =
    subst (λ (o : Option ChainHandle). ExchangesTables o place status after place') (sym was)
    (subst (λ (o : Option ChainHandle). ExchangesTables (Some b) place status o place') (sym is)
    (subst (λ (o : Option IotlbPlace). ExchangesTables (Some b) o status (Some b') place') (sym had)
    (subst (λ (o : Option IotlbPlace). ExchangesTables (Some b) (Some p) status (Some b') o) (sym has) does)))
