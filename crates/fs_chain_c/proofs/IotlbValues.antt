-- A place for a table, and the parts of a box of an `IotlbPlace`, by value: what they own is taken out, and put in. Assumes `Logic`.
use Rattle.std.specs.Global.{Global}
use Rattle.std.proofs.Common.{Option, Some, None, is_some, if◌then◌else◌}
use Rattle.std.proofs.alloc.Calls.{Fits, α, handle_tells}
use Rattle.std_heap.specs.contracts.Global as Heap
use Rattle.fs_chain.specs.contracts.iotlb_place.IotlbPlace as place
use Rattle.fs_chain_c.specs.contracts.iotlb_handle.FsIotlb as chain
use Rattle.fs_chain_c.specs.Owned.{iotlb_owns}
use Prim.Native.Nat.{ℕ, ◌<◌, ◌^◌}
use mathlib.Core.Path.{◌≡◌, refl, subst}
use mathlib.Core.Bool.{true, ◌&&◌}
use mathlib.Core.List.{List, [], ◌∷◌, ◌++◌}
use lib.Dec.{T}
use seplogic.Ra.Ura.{Ura}
use mir.Syntax.{ty_ptr, w32}
use mir.Val.{Val, vint, vstruct, vcons, vnil, of_list, bits, has_ty, WT}
use types.Logic.{Logic}
use types.Kit.{Item, Goal, Seq, Step, step, ‵, ◌$◌, move, drop, fsplit, fjoin, fpick, fpack, feq_l, feq_i, flt_i}
use denote.RattleType.{RattleType, Valss}
use denote.RawPtr.{Ptr, ptr_val}
use denote.Steps.{nothing}
use denote.Struct.Owning.{fields, shape}
use denote.Struct.Struct.{within}
use denote.Struct.Values.{intos}
use Rattle.fs_chain_c.proofs.BoxValues.{al, both_tt, good_ptr, owns_box}

abbrev pub Work : RattleType
Work = place.the_row

abbrev pub BoxedChain : RattleType
BoxedChain = chain.the_row

-- its machine value, which has its type
abbrev pub three : Ptr → Val → ℕ → Val
three p h n = vstruct (vcons (ptr_val p) (vcons h (vcons (vint w32 n) vnil)))

pub three_good : (p : Ptr) (h : Val) (n : ℕ) → Fits al h → n < 2 ^ bits w32 →
    T (has_ty ty_ptr (ptr_val p) && (has_ty (α al) h && true)) × WT (three p h n)
three_good p h n fits low = (both_tt _ _ (good_ptr p).0 fits.0, ((good_ptr p).1, (fits.1, (record { fits = low }, tt))))

module _ {M : Type 1} {𝓤 : Ura M} {𝓛 : Logic 𝓤} {K : Type 0} {Γ : List (Item 𝓤)} {G : Goal 𝓤 𝓛.H} where
  -- a handle: [what it owns; the allocator's handle]
  pub chain_out : K → (d : BoxedChain.Denot) (vs : List Val)
      → ((h : Val) → vs ≡ three d.at h d.full ∷ [] → Fits al h
      → Seq K 𝓛 (‵ (iotlb_owns d.alloc d.at d.value) ∷ ‵ ((Heap.the_row).own_val d.alloc (h ∷ [])) ∷ Γ) G)
      → Seq K 𝓛 (‵ (BoxedChain.own_val d vs) ∷ Γ) G
  chain_out t d vs k =
      fsplit t $ fpick t (λ vss. fsplit t $ feq_l t
      (λ ev. fsplit t $ feq_l t (λ ep. fsplit t $ handle_tells al t d.alloc vss.1.0 (λ h ea fits. move t (1 ∷ []) $ fsplit t $ fsplit t $
      feq_l t (λ en. drop t $ drop t $ move t (1 ∷ []) $
      k h (subst (λ (ns : List Val). vs ≡ vstruct (of_list (ptr_val d.at ∷ (h ∷ (ns ++ [])))) ∷ []) en
      (subst (λ (ws : List Val). vs ≡ vstruct (of_list (ptr_val d.at ∷ (ws ++ (vss.1.1.0 ++ [])))) ∷ []) ea
      (subst (λ (ps : List Val). vs ≡ vstruct (of_list (ps ++ (vss.1.0 ++ (vss.1.1.0 ++ [])))) ∷ []) ep ev))) fits)))))

  pub chain_in : K → (d : BoxedChain.Denot) (h : Val) → d.full < 2 ^ bits w32
      → Step K 𝓛 (‵ (BoxedChain.own_val d (three d.at h d.full ∷ [])) ∷ Γ) G
      (‵ (iotlb_owns d.alloc d.at d.value) ∷ ‵ ((Heap.the_row).own_val d.alloc (h ∷ [])) ∷ Γ) G
  chain_in t d h low = step (λ s. let v : Val = three d.at h d.full in
      nothing t $ flt_i t d.full (2 ^ bits w32) low $ feq_i t (List Val) (vint w32 d.full ∷ []) (vint w32 d.full ∷ []) refl $ fjoin t $
      fjoin t $ move t (2 ∷ 0 ∷ []) $ fjoin t $
      feq_i t (List Val) (ptr_val d.at ∷ []) (ptr_val d.at ∷ []) refl $ fjoin t $ feq_i t (List Val) (v ∷ []) (v ∷ []) refl $ fjoin t $
      fpack t (Valss (fields chain.the_type))
      (within (shape chain.the_type) (intos (chain.the_type).parts ((chain.the_type).as_values d)) (v ∷ []))
      (ptr_val d.at ∷ [], (h ∷ [], (vint w32 d.full ∷ [], tt))) $ fjoin t $ s)

  full_or_not : K → (a : Global) (p : Ptr) (value : Option Work.Denot) (full : ℕ) → full ≡ (if is_some value then 1 else 0)
      → (value ≡ None → full ≡ 0 → Seq K 𝓛 Γ G)
      → ((x : Work.Denot) → value ≡ Some x → full ≡ 1 → Seq K 𝓛 (‵ (owns_box Work a p x) ∷ Γ) G) → Seq K 𝓛 (‵ (iotlb_owns a p value) ∷ Γ) G
  full_or_not t a p None full known none some = drop t $ none refl known
  full_or_not t a p (Some x) full known none some = some x refl known

  -- it owns a box, or nothing, and its number says which
  pub either : K → (d : BoxedChain.Denot) → (d.value ≡ None → d.full ≡ 0 → Seq K 𝓛 Γ G)
      → ((x : Work.Denot) → d.value ≡ Some x → d.full ≡ 1 → Seq K 𝓛 (‵ (owns_box Work d.alloc d.at x) ∷ Γ) G)
      → Seq K 𝓛 (‵ (iotlb_owns d.alloc d.at d.value) ∷ Γ) G
  either t d none some = full_or_not t d.alloc d.at d.value d.full d.known none some
