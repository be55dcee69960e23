-- `end` leaves a pointer that owns nothing.
use Rattle.std.specs.Prelude.{None}
use Rattle.std.proofs.raw_atomic.Walks.{proved_at}
use Rattle.fs_chain_c.proofs.ChainValues.{BoxedChain, chain_out}
use Rattle.fs_chain_c.proofs.BoxValues.{two, two_good}
use Rattle.fs_chain_c.specs.contracts.handle.ChainBox.end.{ended, clauses}
use Rattle.fs_chain_c.specs.contracts.handle.ChainBox.end.Key.{name as #self}
use Rattle.fs_chain_c.proofs.handle.ChainBox.end.Statement.{statement}
use Rattle.fs_chain_c.proofs.handle.ChainBox.end.Code as code
use mathlib.Core.Path.{◌≡◌, refl, sym, subst}
use mathlib.Core.List.{List, [], ◌∷◌, ◌++◌}
use mir.Val.{Val, vunit}
use base.Logic.{ent}
use base.Fml.{ftrue, fsep}
use prog.Wp.{WpFn}
use types.Kit.{‵, raw, ◌⊛◌, ◌$◌, ◌∵◌, !, qed, by, move, keep, drop, join, split, fsplit, fjoin, feq_i, frame, suffices, done}
use types.Run.{of_opd, unit_lit, returns, enter}
use types.ByLocal.{alloc_all, pass_all, free_all, look_at, sets}
use contract.Monad.{fact}
use contract.Running.{tables}
use denote.Exit.{yes}
use denote.Signature.{plain}
use denote.Steps.{nothing}
use denote.Triple.Walked.{Stays, stay_dropped, walk_of, ends_at, Goes-dropped}

pub end_spec : {M : Type 1} → statement M
end_spec 𝓤 𝓛 𝓜 𝓡 wired =
    let H = 𝓛.H in let 𝓣 = tables 𝓤 H 𝓜 𝓡 𝓡.env in let c = clauses 𝓛 𝓜.mem 𝓡.returns in let fn = code.function in
    let stayed : Stays ended.signature.params ended.kept = (stay_dropped (plain (λ κs. BoxedChain)) yes, tt) in
    proved_at 𝓛 ended stayed c 𝓜 𝓡 (Goes-dropped 𝓛 0 (plain (λ κs. BoxedChain)) yes (λ κs x f. refl), tt) #self fn
    (code.unfolded 𝓤 H 𝓜 𝓡 wired) (λ y are.
    let d = y.0.3.0 in let us = y.0.4.0 in let Post = (walk_of 𝓛 ended stayed c).post y in
    qed 𝓛 ((‵ ftrue ⊛ ‵ (fsep (BoxedChain.own_val d us) ftrue)) ∷ raw (fact 𝓤 (d.value ≡ None)) ∷ []) ∵ move ! (1 ∷ []) $ drop ! $
    split ! $ drop ! $ fsplit ! $ chain_out ! d us
    (λ h ws fits. keep ! [] $
    by ! (subst (λ (us : List Val). ent 𝓤 (types.Kit.⋆ 𝓛 []) (WpFn 𝓤 H 𝓣.C 𝓣.Λ fn (us ++ []) Post)) (sym ws)
    (qed 𝓛 [] ∵ enter ! 𝓣.C 𝓣.Λ fn (two d.at h ∷ []) _ $ alloc_all ! (λ ls. pass_all ! refl (two_good d.at h fits, tt) $
    sets ! (of_opd ! (unit_lit !)) refl (tt, tt) $
    returns ! (look_at ! 0 refl) $ free_all ! refl $
    suffices ! _ (ends_at 𝓛 ended stayed c y vunit tt (tt, tt) (tt, tt)) $ feq_i ! _ (vunit ∷ []) _ refl $ nothing ! $ nothing ! $ fjoin ! $
    join ! $ nothing ! $ join ! $ frame ! $ done !)))))
