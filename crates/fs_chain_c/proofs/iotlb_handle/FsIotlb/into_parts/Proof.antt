-- `into_parts` moves a pointer and a handle, if the number beside them is 1, and what they own goes with them. With 0 they own nothing.
use Rattle.std.proofs.Common.{lit<, ap, ◌∙◌, None, Some}
use Rattle.std.proofs.raw_atomic.Walks.{proved_at}
use Rattle.std_heap.specs.contracts.Global as Heap
use Rattle.core.proofs.alloc.Shapes.{after}
use Rattle.core.proofs.option.Made.{Some-of, none_of}
use Rattle.std_alloc.proofs.ResultValues.{and_tt}
use Rattle.fs_chain_c.proofs.IotlbValues.{BoxedChain, Work, chain_out, either, three, three_good}
use Rattle.fs_chain_c.proofs.BoxValues.{Boxed, good_ptr, owns_box, parts_in, two, two_good}
use Rattle.fs_chain_c.specs.contracts.iotlb_handle.FsIotlb.into_parts.{ended, clauses}
use Rattle.fs_chain_c.specs.contracts.iotlb_handle.FsIotlb.into_parts.Key.{name as #self}
use Rattle.fs_chain_c.proofs.iotlb_handle.FsIotlb.into_parts.Statement.{statement}
use Rattle.fs_chain_c.proofs.iotlb_handle.FsIotlb.into_parts.Code as code
use mathlib.Core.Path.{refl, sym, subst}
use mathlib.Core.List.{List, [], ◌∷◌, ◌++◌}
use mir.Val.{Val, vcons, vnil}
use base.Logic.{ent, emp}
use base.Fml.{ftrue, fsep}
use prog.Wp.{WpFn}
use types.Kit.{Item, at_ret, ‵, raw, ◌⊛◌, ◌$◌, ◌∵◌, !, qed, by, move, drop, use0, use1, join, split, fsplit, fjoin, suffices, done}
use types.Match.{live}
use types.Part.{whole, sub, agg}
use types.Run.{stop, fld, lit, bin, no_more, and_then, of_opd, first, branches, exec, returns, enter}
use types.ByLocal.{alloc_all, pass_all, free_all, look_at, get, get_in, sets, sets_last, env}
use contract.Running.{tables}
use denote.Exit.{yes}
use denote.RattleType.{RattleType}
use denote.Signature.{plain, type_at}
use denote.Steps.{nothing}
use denote.Triple.Walked.{says, Stays, stay_dropped, walk_of, ends_at, Goes-dropped}

pub into_parts_spec : {M : Type 1} → statement M
into_parts_spec 𝓤 𝓛 𝓜 𝓡 wired =
    let H = 𝓛.H in let 𝓣 = tables 𝓤 H 𝓜 𝓡 𝓡.env in let c = clauses 𝓛 𝓜.mem 𝓡.returns in let fn = code.function in
    let stayed : Stays ended.signature.params ended.kept = (stay_dropped (plain (λ κs. BoxedChain)) yes, tt) in
    proved_at 𝓛 ended stayed c 𝓜 𝓡 (Goes-dropped 𝓛 0 (plain (λ κs. BoxedChain)) yes (λ κs x f. refl), tt) #self fn
    (code.unfolded 𝓤 H 𝓜 𝓡 wired) (λ y are.
    let d = y.0.3.0 in
    let us = y.0.4.0 in
    let Post = (walk_of 𝓛 ended stayed c).post y in
    let Out : RattleType = type_at ended.signature.result y.0.0 in
    qed 𝓛 ((‵ ftrue ⊛ ‵ (fsep (BoxedChain.own_val d us) ftrue)) ∷ raw (emp 𝓤) ∷ []) ∵ split ! $ drop ! $ fsplit ! $ chain_out ! d us
    (λ h ws fits. either ! d
    (λ none zero.
    move ! (1 ∷ 2 ∷ []) $ drop ! $ drop ! $
    let Γ : List (Item 𝓤) = ‵ ((Heap.the_row).own_val d.alloc (h ∷ [])) ∷ [] in
    by ! (subst (λ (us : List Val). ent 𝓤 (types.Kit.⋆ 𝓛 Γ) (WpFn 𝓤 H 𝓣.C 𝓣.Λ fn (us ++ []) Post))
    (sym (ws ∙ ap (λ n. three d.at h n ∷ []) zero))
    (qed 𝓛 Γ ∵ enter ! 𝓣.C 𝓣.Λ fn (three d.at h 0 ∷ []) _ $ alloc_all !
    (λ ls. pass_all ! refl (three_good d.at h 0 fits (lit< tt), tt) $ let Ev = env fn.locals ls in
    sets ! (of_opd ! (get_in ! (fld ! refl (stop !)) (sub ! 0 refl (whole !)))) refl (good_ptr d.at) $ sets !
    (of_opd ! (get_in ! (fld ! refl (stop !)) (sub ! 1 refl (whole !)))) refl fits $
    sets ! (of_opd ! (get_in ! (fld ! refl (stop !)) (sub ! 2 refl (whole !)))) refl (tt, record { fits = lit< tt }) $
    sets ! (bin ! (get ! refl) (lit ! tt) tt) refl (tt, tt) $ first ! $ branches ! (get ! refl)
    (λ _. sets_last ! (agg ! (and_then ! (lit ! tt) (no_more !))) refl (tt, (record { fits = lit< tt }, tt)) $ exec ! 𝓣.C 𝓣.Λ Ev
    (after 5 fn.body) (at_ret Ev Post) $
    sets ! (of_opd ! (get ! refl)) refl (tt, (record { fits = lit< tt }, tt)) $ returns ! (look_at ! 0 refl) $ free_all ! refl $
    drop ! $ use0 𝓛 (‵ (Out.own_val None (live 0 vnil ∷ []))) (none_of 𝓛 (Boxed Work)) $
    suffices ! _ (ends_at 𝓛 ended stayed c y (live 0 vnil) None (tt, tt) (tt, tt)) $ says ! none $ nothing ! $ nothing ! $ fjoin ! $ join !
    $ nothing ! $ join ! $ done !)
    (λ wrong. absurd wrong)))))
    (λ x some one.
    move ! (2 ∷ 3 ∷ []) $ drop ! $ drop ! $
    let Γ : List (Item 𝓤) = ‵ (owns_box Work d.alloc d.at x) ∷ ‵ ((Heap.the_row).own_val d.alloc (h ∷ [])) ∷ [] in
    let parts : (Boxed Work).Denot = record { ptr = d.at; alloc = d.alloc; value = x } in let v : Val = live 1 (vcons (two d.at h) vnil) in
    let typed = two_good d.at h fits in
    by ! (subst (λ (us : List Val). ent 𝓤 (types.Kit.⋆ 𝓛 Γ) (WpFn 𝓤 H 𝓣.C 𝓣.Λ fn (us ++ []) Post))
    (sym (ws ∙ ap (λ n. three d.at h n ∷ []) one))
    (qed 𝓛 Γ ∵ enter ! 𝓣.C 𝓣.Λ fn (three d.at h 1 ∷ []) _ $ alloc_all !
    (λ ls. pass_all ! refl (three_good d.at h 1 fits (lit< tt), tt) $ let Ev = env fn.locals ls in
    sets ! (of_opd ! (get_in ! (fld ! refl (stop !)) (sub ! 0 refl (whole !)))) refl (good_ptr d.at) $ sets !
    (of_opd ! (get_in ! (fld ! refl (stop !)) (sub ! 1 refl (whole !)))) refl fits $
    sets ! (of_opd ! (get_in ! (fld ! refl (stop !)) (sub ! 2 refl (whole !)))) refl (tt, record { fits = lit< tt }) $
    sets ! (bin ! (get ! refl) (lit ! tt) tt) refl (tt, tt) $ first ! $ branches ! (get ! refl) (λ wrong. absurd wrong)
    (λ _. sets ! (of_opd ! (get ! refl)) refl (good_ptr d.at) $ sets !
    (agg ! (and_then ! (get ! refl) (and_then ! (get ! refl) (no_more !)))) refl typed $
    sets_last ! (agg ! (and_then ! (lit ! tt) (and_then ! (get ! refl) (no_more !)))) refl
    (and_tt _ typed.0, (record { fits = lit< tt }, (typed.1, tt))) $
    exec ! 𝓣.C 𝓣.Λ Ev (after 5 fn.body) (at_ret Ev Post) $ sets ! (of_opd ! (get ! refl)) refl
    (and_tt _ typed.0, (record { fits = lit< tt }, (typed.1, tt))) $
    returns ! (look_at ! 0 refl) $ free_all ! refl $ parts_in Work ! d.alloc d.at x h $ use1 𝓛 (‵ (Out.own_val (Some parts) (v ∷ [])))
    (Some-of 𝓛 (Boxed Work) parts (two d.at h)) $
    suffices ! _ (ends_at 𝓛 ended stayed c y v (Some parts) (tt, tt) (tt, tt)) $ says ! some $ nothing ! $ nothing ! $ fjoin ! $ join ! $
    nothing ! $ join ! $ done !)))))))
