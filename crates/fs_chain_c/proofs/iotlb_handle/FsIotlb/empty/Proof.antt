-- `empty` puts null and 0 beside the allocator, and owns nothing there.
use Rattle.std.proofs.Common.{lit<, None}
use Rattle.std.proofs.alloc.Calls.{handle_tells}
use Rattle.std.proofs.raw_atomic.Walks.{proved_at}
use Rattle.std_heap.specs.contracts.Global as Heap
use Rattle.fs_chain_c.proofs.IotlbValues.{BoxedChain, chain_in, three, three_good}
use Rattle.fs_chain_c.proofs.BoxValues.{al}
use Rattle.fs_chain_c.specs.contracts.iotlb_handle.FsIotlb.empty.{ended, clauses}
use Rattle.fs_chain_c.specs.contracts.iotlb_handle.FsIotlb.empty.Key.{name as #self}
use Rattle.fs_chain_c.proofs.iotlb_handle.FsIotlb.empty.Statement.{statement}
use Rattle.fs_chain_c.proofs.iotlb_handle.FsIotlb.empty.Code as code
use mathlib.Core.Path.{refl, sym, subst}
use mathlib.Core.List.{List, [], ◌∷◌, ◌++◌}
use mir.Val.{Val}
use base.Logic.{ent, emp}
use base.Fml.{ftrue, fsep}
use prog.Wp.{WpFn}
use types.Kit.{Item, ‵, raw, ◌⊛◌, ◌$◌, ◌∵◌, !, qed, by, move, drop, join, split, fsplit, fjoin, suffices, done}
use types.Part.{agg}
use types.Run.{lit, no_more, and_then, returns, enter}
use types.ByLocal.{alloc_all, pass_all, free_all, look_at, get, sets}
use contract.Running.{tables}
use denote.Exit.{yes}
use denote.RawPtr.{null_ptr}
use denote.Signature.{plain}
use denote.Steps.{nothing}
use denote.Triple.Walked.{says, Stays, stay_dropped, walk_of, ends_at, Goes-dropped}

pub empty_spec : {M : Type 1} → statement M
empty_spec 𝓤 𝓛 𝓜 𝓡 wired =
    let H = 𝓛.H in let 𝓣 = tables 𝓤 H 𝓜 𝓡 𝓡.env in let c = clauses 𝓛 𝓜.mem 𝓡.returns in let fn = code.function in
    let stayed : Stays ended.signature.params ended.kept = (stay_dropped (plain (λ κs. Heap.the_row)) yes, tt) in
    proved_at 𝓛 ended stayed c 𝓜 𝓡 (Goes-dropped 𝓛 0 (plain (λ κs. Heap.the_row)) yes (λ κs x f. refl), tt) #self fn
    (code.unfolded 𝓤 H 𝓜 𝓡 wired) (λ y are.
    let a = y.0.3.0 in let us = y.0.4.0 in let Post = (walk_of 𝓛 ended stayed c).post y in
    let made : BoxedChain.Denot = record { at = null_ptr; alloc = a; full = 0; value = None; known = refl } in
    qed 𝓛 ((‵ ftrue ⊛ ‵ (fsep ((Heap.the_row).own_val a us) ftrue)) ∷ raw (emp 𝓤) ∷ []) ∵ split ! $ drop ! $ fsplit ! $ handle_tells al ! a
    us (λ h ws fits.
    move ! (1 ∷ 2 ∷ []) $ drop ! $ drop ! $
    let Γ : List (Item 𝓤) = ‵ ((Heap.the_row).own_val a (h ∷ [])) ∷ [] in
    by ! (subst (λ (us : List Val). ent 𝓤 (types.Kit.⋆ 𝓛 Γ) (WpFn 𝓤 H 𝓣.C 𝓣.Λ fn (us ++ []) Post)) (sym ws)
    (qed 𝓛 Γ ∵ enter ! 𝓣.C 𝓣.Λ fn (h ∷ []) _ $ alloc_all ! (λ ls. pass_all ! refl (fits, tt) $
    sets ! (agg ! (and_then ! (lit ! tt) (and_then ! (get ! refl) (and_then ! (lit ! tt) (no_more !))))) refl
    (three_good null_ptr h 0 fits (lit< tt)) $
    returns ! (look_at ! 0 refl) $ free_all ! refl $ nothing ! $ chain_in ! made h (lit< tt) $
    suffices ! _ (ends_at 𝓛 ended stayed c y (three null_ptr h 0) made (tt, tt) (tt, tt)) $ says ! (refl, refl, refl) $ nothing ! $ nothing
    ! $ fjoin ! $ join ! $ nothing ! $ join ! $ done !)))))
