-- A handle's box, and the parts of a box of a `ChainHandle`, by value: what they own is taken out, and put in. Assumes `Logic`.
use Rattle.std.specs.Global.{Global}
use Rattle.std.proofs.Common.{Option, Some, None, is_some, if◌then◌else◌}
use Rattle.std.proofs.alloc.Calls.{Fits, handle_tells}
use Rattle.std_heap.specs.contracts.Global as Heap
use Rattle.fs_chain.specs.contracts.chain_handle.ChainHandle as handle
use Rattle.fs_chain_c.specs.contracts.handle.ChainBox as chain
use Rattle.fs_chain_c.specs.Owned.{chain_owns}
use mathlib.Core.Path.{◌≡◌, refl, subst}
use mathlib.Core.Bool.{Bool, true, false}
use mathlib.Core.List.{List, [], ◌∷◌, ◌++◌}
use lib.Dec.{T}
use seplogic.Ra.Ura.{Ura}
use mir.Val.{Val, vstruct, of_list}
use types.Logic.{Logic}
use types.Kit.{Item, Goal, Seq, Step, step, ‵, ◌$◌, move, drop, fsplit, fjoin, fpick, fpack, feq_l, feq_i}
use denote.RattleType.{RattleType, Valss}
use denote.RawPtr.{Ptr, ptr_val}
use denote.Steps.{nothing}
use denote.Struct.Owning.{fields, shape}
use denote.Struct.Struct.{within}
use denote.Struct.Values.{intos}
use Rattle.fs_chain_c.proofs.BoxValues.{al, owns_box, two}

abbrev pub Work : RattleType
Work = handle.the_row

abbrev pub BoxedChain : RattleType
BoxedChain = chain.the_row

module _ {M : Type 1} {𝓤 : Ura M} {𝓛 : Logic 𝓤} {K : Type 0} {Γ : List (Item 𝓤)} {G : Goal 𝓤 𝓛.H} where
  -- a handle's box: [what it owns; the allocator's handle]
  pub chain_out : K → (d : BoxedChain.Denot) (vs : List Val)
      → ((h : Val) → vs ≡ two d.at h ∷ [] → Fits al h
      → Seq K 𝓛 (‵ (chain_owns d.alloc d.at d.value) ∷ ‵ ((Heap.the_row).own_val d.alloc (h ∷ [])) ∷ Γ) G)
      → Seq K 𝓛 (‵ (BoxedChain.own_val d vs) ∷ Γ) G
  chain_out t d vs k =
      fsplit t $ fpick t (λ vss. fsplit t $ feq_l t (λ ev.
      fsplit t $ feq_l t (λ ep. fsplit t $ handle_tells al t d.alloc vss.1.0 (λ h ea fits. move t (1 ∷ []) $ drop t $ move t (1 ∷ []) $
      k h (subst (λ (ws : List Val). vs ≡ vstruct (of_list (ptr_val d.at ∷ (ws ++ []))) ∷ []) ea
      (subst (λ (ps : List Val). vs ≡ vstruct (of_list (ps ++ (vss.1.0 ++ []))) ∷ []) ep ev)) fits))))

  pub chain_in : K → (d : BoxedChain.Denot) (h : Val)
      → Step K 𝓛 (‵ (BoxedChain.own_val d (two d.at h ∷ [])) ∷ Γ) G
      (‵ (chain_owns d.alloc d.at d.value) ∷ ‵ ((Heap.the_row).own_val d.alloc (h ∷ [])) ∷ Γ) G
  chain_in t d h = step (λ s.
      nothing t $ move t (2 ∷ 0 ∷ []) $ fjoin t $ feq_i t (List Val) (ptr_val d.at ∷ []) (ptr_val d.at ∷ []) refl $ fjoin t $
      feq_i t (List Val) (two d.at h ∷ []) (two d.at h ∷ []) refl $ fjoin t $
      fpack t (Valss (fields chain.the_type))
      (within (shape chain.the_type) (intos (chain.the_type).parts ((chain.the_type).as_values d)) (two d.at h ∷ []))
      (ptr_val d.at ∷ [], (h ∷ [], tt)) $ fjoin t $ s)

  full_at : K → (a : Global) (p : Ptr) (value : Option Work.Denot) → is_some value ≡ true
      → ((x : Work.Denot) → value ≡ Some x → Seq K 𝓛 (‵ (owns_box Work a p x) ∷ Γ) G) → Seq K 𝓛 (‵ (chain_owns a p value) ∷ Γ) G
  full_at t a p None wrong k = absurd (subst (λ (b : Bool). T (if b then false else true)) wrong tt)
  full_at t a p (Some x) is k = k x refl

  -- it owns a box, if it isn't null
  pub full : K → (d : BoxedChain.Denot) → is_some d.value ≡ true
      → ((x : Work.Denot) → d.value ≡ Some x → Seq K 𝓛 (‵ (owns_box Work d.alloc d.at x) ∷ Γ) G)
      → Seq K 𝓛 (‵ (chain_owns d.alloc d.at d.value) ∷ Γ) G
  full t d is k = full_at t d.alloc d.at d.value is k
