-- The parts of a box of a struct, by value: what they own is taken out, and put in. Assumes `Logic`.
use Rattle.std.specs.Global.{Global}
use Rattle.std.proofs.Common.{lit<}
use Rattle.std.proofs.alloc.Calls.{Al, Fits, α, handle_tells}
use Rattle.std.specs.Box.Ownership.{box_owns}
use Rattle.std_heap.specs.contracts.Global as Heap
use Rattle.std_heap.specs.contracts.GlobalAllocator.TheImpl.{ghosts, dict}
use Rattle.std_heap.proofs.Global.TheLaws as heap
use Rattle.fs_chain_c.specs.contracts.parts.BoxParts as parts
use mathlib.Core.Path.{◌≡◌, refl, subst}
use mathlib.Core.Bool.{Bool, true, false, ◌&&◌}
use mathlib.Core.List.{List, [], ◌∷◌, ◌++◌}
use lib.Dec.{T}
use seplogic.Ra.Ura.{Ura}
use mir.Syntax.{impl, tnil, dnil, ty_ptr}
use mir.Val.{Val, vstruct, vcons, vnil, of_list, has_ty, WT}
use types.Logic.{Logic}
use types.Kit.{Item, Goal, Seq, Step, step, ‵, ◌$◌, move, drop, fsplit, fjoin, fpick, fpack, feq_l, feq_i}
use denote.Builtin.{RawPtr}
use denote.RattleType.{RattleType, Valss}
use denote.RawPtr.{Ptr, block_ptr, null_ptr, ptr_val}
use denote.Steps.{nothing}
use denote.Struct.Owning.{shape}
use denote.Struct.Struct.{within}

-- the heap's allocator
abbrev pub al : Al
al = record { row = Heap.the_row; laws = heap.the_row_laws; g = ghosts; d = dict; drops = impl [] tnil dnil }

-- their machine values
abbrev pub two : Ptr → Val → Val
two p h = vstruct (vcons (ptr_val p) (vcons h vnil))

-- they have their types
pub good_ptr : (p : Ptr) → T (has_ty ty_ptr (ptr_val p)) × WT (ptr_val p)
good_ptr (block_ptr b o) = (tt, tt)
good_ptr null_ptr = (tt, record { fits = lit< tt })

pub both_tt : (x y : Bool) → T x → T y → T (x && (y && true))
both_tt true true s t = tt
both_tt true false s t = absurd t
both_tt false y s t = absurd s

pub two_good : (p : Ptr) (h : Val) → Fits al h → T (has_ty ty_ptr (ptr_val p) && (has_ty (α al) h && true)) × WT (two p h)
two_good p h fits = (both_tt _ _ (good_ptr p).0 fits.0, ((good_ptr p).1, (fits.1, tt)))

-- of any struct
module _ (Work : RattleType) where
  abbrev pub Boxed : RattleType
  Boxed = parts.the_row Work Heap.the_row ghosts

  -- what is owned of a box beside its pointer and its handle
  abbrev pub owns_box : Global → Ptr → Work.Denot → base.Fml.Fml
  owns_box a p x = box_owns (ghosts.dealloc_token a) Work p x

  module _ {M : Type 1} {𝓤 : Ura M} {𝓛 : Logic 𝓤} {K : Type 0} {Γ : List (Item 𝓤)} {G : Goal 𝓤 𝓛.H} where
    -- parts: [the box; the handle]
    pub parts_out : K → (d : Boxed.Denot) (vs : List Val)
        → ((h : Val) → vs ≡ two d.ptr h ∷ [] → Fits al h
        → Seq K 𝓛 (‵ (owns_box d.alloc d.ptr d.value) ∷ ‵ ((Heap.the_row).own_val d.alloc (h ∷ [])) ∷ Γ) G)
        → Seq K 𝓛 (‵ (Boxed.own_val d vs) ∷ Γ) G
    parts_out t d vs k =
        fsplit t $ fpick t (λ vss. fsplit t $ feq_l t (λ ev.
        fsplit t $ feq_l t (λ ep. fsplit t $ handle_tells al t d.alloc vss.1.0 (λ h ea fits. move t (1 ∷ []) $ drop t $ move t (1 ∷ []) $
        k h (subst (λ (ws : List Val). vs ≡ vstruct (of_list (ptr_val d.ptr ∷ (ws ++ []))) ∷ []) ea
        (subst (λ (ps : List Val). vs ≡ vstruct (of_list (ps ++ (vss.1.0 ++ []))) ∷ []) ep ev)) fits))))

    pub parts_in : K → (a : Global) (p : Ptr) (x : Work.Denot) (h : Val)
        → Step K 𝓛 (‵ (Boxed.own_val (record { ptr = p; alloc = a; value = x }) (two p h ∷ [])) ∷ Γ) G
        (‵ (owns_box a p x) ∷ ‵ ((Heap.the_row).own_val a (h ∷ [])) ∷ Γ) G
    parts_in t a p x h = step (λ s.
        nothing t $ move t (2 ∷ 0 ∷ []) $ fjoin t $ feq_i t (List Val) (ptr_val p ∷ []) (ptr_val p ∷ []) refl $ fjoin t $ feq_i t (List Val)
        (two p h ∷ []) (two p h ∷ []) refl $ fjoin t $
        fpack t (Valss (RawPtr ∷ Heap.the_row ∷ [])) (within (shape (parts.the_type Work Heap.the_row ghosts)) (p, (a, tt)) (two p h ∷ []))
        (ptr_val p ∷ [], (h ∷ [], tt)) $ fjoin t $ s)
