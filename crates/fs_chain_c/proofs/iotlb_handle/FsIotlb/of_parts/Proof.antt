-- `of_parts` moves a pointer and a handle, puts 1 beside them, and what they own goes with them.
use Rattle.std.proofs.Common.{lit<, Some}
use Rattle.std.proofs.raw_atomic.Walks.{proved_at}
use Rattle.std_heap.specs.contracts.Global as Heap
use Rattle.fs_chain_c.proofs.IotlbValues.{BoxedChain, Work, chain_in, three, three_good}
use Rattle.fs_chain_c.proofs.BoxValues.{Boxed, good_ptr, owns_box, parts_out, two, two_good}
use Rattle.fs_chain_c.specs.contracts.iotlb_handle.FsIotlb.of_parts.{ended, clauses}
use Rattle.fs_chain_c.specs.contracts.iotlb_handle.FsIotlb.of_parts.Key.{name as #self}
use Rattle.fs_chain_c.proofs.iotlb_handle.FsIotlb.of_parts.Statement.{statement}
use Rattle.fs_chain_c.proofs.iotlb_handle.FsIotlb.of_parts.Code as code
use mathlib.Core.Path.{refl, sym, subst}
use mathlib.Core.List.{List, [], ◌∷◌, ◌++◌}
use mir.Val.{Val}
use base.Logic.{ent, emp}
use base.Fml.{ftrue, fsep}
use prog.Wp.{WpFn}
use types.Kit.{Item, ‵, raw, ◌⊛◌, ◌$◌, ◌∵◌, !, qed, by, move, drop, join, split, fsplit, fjoin, suffices, done}
use types.Part.{whole, sub, agg}
use types.Run.{stop, fld, lit, no_more, and_then, of_opd, returns, enter}
use types.ByLocal.{alloc_all, pass_all, free_all, look_at, get, get_in, sets}
use contract.Running.{tables}
use denote.Exit.{yes}
use denote.Signature.{plain}
use denote.Steps.{nothing}
use denote.Triple.Walked.{says, Stays, stay_dropped, walk_of, ends_at, Goes-dropped}

pub of_parts_spec : {M : Type 1} → statement M
of_parts_spec 𝓤 𝓛 𝓜 𝓡 wired =
    let H = 𝓛.H in let 𝓣 = tables 𝓤 H 𝓜 𝓡 𝓡.env in let c = clauses 𝓛 𝓜.mem 𝓡.returns in let fn = code.function in
    let stayed : Stays ended.signature.params ended.kept = (stay_dropped (plain (λ κs. Boxed Work)) yes, tt) in
    proved_at 𝓛 ended stayed c 𝓜 𝓡 (Goes-dropped 𝓛 0 (plain (λ κs. Boxed Work)) yes (λ κs x f. refl), tt) #self fn
    (code.unfolded 𝓤 H 𝓜 𝓡 wired) (λ y are.
    let d = y.0.3.0 in let us = y.0.4.0 in let Post = (walk_of 𝓛 ended stayed c).post y in
    let made : BoxedChain.Denot = record { at = d.ptr; alloc = d.alloc; full = 1; value = Some d.value; known = refl } in
    qed 𝓛 ((‵ ftrue ⊛ ‵ (fsep ((Boxed Work).own_val d us) ftrue)) ∷ raw (emp 𝓤) ∷ []) ∵ split ! $ drop ! $ fsplit ! $ parts_out Work ! d us
    (λ h ws fits.
    move ! (2 ∷ 3 ∷ []) $ drop ! $ drop ! $
    let Γ : List (Item 𝓤) = ‵ (owns_box Work d.alloc d.ptr d.value) ∷ ‵ ((Heap.the_row).own_val d.alloc (h ∷ [])) ∷ [] in
    by ! (subst (λ (us : List Val). ent 𝓤 (types.Kit.⋆ 𝓛 Γ) (WpFn 𝓤 H 𝓣.C 𝓣.Λ fn (us ++ []) Post)) (sym ws)
    (qed 𝓛 Γ ∵ enter ! 𝓣.C 𝓣.Λ fn (two d.ptr h ∷ []) _ $ alloc_all ! (λ ls. pass_all ! refl (two_good d.ptr h fits, tt) $
    sets ! (of_opd ! (get_in ! (fld ! refl (stop !)) (sub ! 0 refl (whole !)))) refl (good_ptr d.ptr) $ sets !
    (of_opd ! (get_in ! (fld ! refl (stop !)) (sub ! 1 refl (whole !)))) refl fits $
    sets ! (of_opd ! (get ! refl)) refl (good_ptr d.ptr) $
    sets ! (agg ! (and_then ! (get ! refl) (and_then ! (get ! refl) (and_then ! (lit ! tt) (no_more !))))) refl
    (three_good d.ptr h 1 fits (lit< tt)) $
    returns ! (look_at ! 0 refl) $ free_all ! refl $ chain_in ! made h (lit< tt) $
    suffices ! _ (ends_at 𝓛 ended stayed c y (three d.ptr h 1) made (tt, tt) (tt, tt)) $ says ! refl $ nothing ! $ nothing ! $ fjoin ! $
    join ! $ nothing ! $ join ! $ done !)))))
