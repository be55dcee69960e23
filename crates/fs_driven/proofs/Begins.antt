-- A driver's commands from new handles on.
use Rattle.std.proofs.Common.{◌≡◌, ◌≤◌, ◌^◌, ℕ, zero, suc, Bool, true, false, List, [], ◌∷◌, Some, None, refl, ◌||◌, nat_lt, if◌then◌else◌}
use Rattle.std.proofs.Common.{subst, sym, ap, ◌∙◌, slice_get}
use Rattle.std.proofs.lemmas.Bool.{ltb-false}
use Rattle.fs_regions.specs.Places.{Mapped, places_in}
use Rattle.live_machine.proofs.Queues.{none_some, same_some}
use Rattle.fs_chain.specs.Holds.{RunState}
use Rattle.fs_chain.specs.Orders.{memory_error}
use Rattle.fs_chain.specs.declared.chain_handle.ChainHandle.{ChainHandle}
use Rattle.fs_chain.specs.declared.error.ChainError.{ChainError}
use Rattle.fs_chain.specs.declared.error.ChainError.TheVariants.{BadArgument}
use Rattle.fs_chain.specs.declared.queue.QueueState.{QueueState}
use Rattle.fs_chain.specs.declared.state.ChainState as state
use Rattle.fs_chain.specs.declared.state.ChainState.TheVariants as at
use Rattle.fs_driven.specs.Begins.{IsFreeOver, RunsFromNew}
use Rattle.fs_driven.specs.Drivers.{BeginsDriven, no_pop}
use Rattle.fs_driven.specs.Events.{Called, Drives}
use Rattle.fs_driven.proofs.Calls.{no_error}
use Rattle.fs_driven.proofs.Handles.{not_free}

-- a limit that is taken
no_test : (b : Bool) (e : ChainError) → (if b then Some e else None) ≡ None → b ≡ false
no_test false e none = refl
no_test true e none = absurd (no_error e none)

neither : (a b : Bool) → (a || b) ≡ false → b ≡ false
neither false b none = none
neither true b none = absurd (not_free true refl none)

limit_small : (limit : ℕ) → memory_error at.Free limit ≡ None → limit ≤ 2 ^ 31
limit_small limit none =
    ltb-false (2 ^ 31) limit (neither (nat_lt limit 0x101000) (nat_lt (2 ^ 31) limit)
    (no_test (nat_lt limit 0x101000 || nat_lt (2 ^ 31) limit) BadArgument none))

pub is_new : (new w : ChainHandle) (regions : Mapped) (limit : ℕ)
    → new.state ≡ at.Free
    → memory_error new.state limit ≡ None
    → w.regions ≡ regions → w.limit ≡ limit → w.state ≡ new.state
    → IsFreeOver regions limit w
is_new new w regions limit free ok same_regions same_limit same_state = (
  same_state ∙ free,
  same_regions,
  same_limit,
  limit_small limit (subst (λ (st : state.ChainState). memory_error st limit ≡ None) free ok),
)

-- a new handle is one over the memory of the run
abbrev IsFreeIn : RunState → ChainHandle → Type 0
IsFreeIn s w = (w.state ≡ at.Free) × (s.places ≡ places_in w.regions) × (s.limit ≡ w.limit)

is_over : (s : RunState) (w : ChainHandle) (regions : Mapped) (limit : ℕ) → IsFreeOver regions limit w
    → s.limit ≡ limit → s.places ≡ places_in regions → IsFreeIn s w
is_over s w regions limit new same places =
    (new.0, places ∙ ap places_in (sym new.1), same ∙ sym new.2)

pub runs_from_new : (on : List ℕ) (page_size limit : ℕ) (first second : Mapped) (one other : ChainHandle)
    (qs qs' : List QueueState) (ws : List ChainHandle) (calls : List Called)
    → BeginsDriven → IsFreeOver first limit one → IsFreeOver second limit other
    → Drives on page_size (one ∷ other ∷ []) ws qs qs' calls
    → RunsFromNew on page_size limit first second qs qs' ws calls
unfolding RunsFromNew Drives
runs_from_new on page_size limit first second one other qs qs' ws calls begins new_one new_other drives zs is s none
    queues page same places both = (
      one,
      other,
      new_one,
      new_other,
      drives zs is s [] (λ _. no_pop) (λ _. None)
          (begins s on page_size qs (one ∷ other ∷ []) none queues page
          (subst (λ (n : ℕ). n ≤ 2 ^ 31) (sym same) new_one.3) (λ k w there. each k w there)),
    )
  where
    each : (k : ℕ) (w : ChainHandle) → slice_get (one ∷ other ∷ []) k ≡ Some w → IsFreeIn s w
    each zero w there =
        subst (λ (x : ChainHandle). IsFreeIn s x) (same_some one w there) (is_over s one first limit new_one same places)
    each (suc zero) w there =
        subst (λ (x : ChainHandle). IsFreeIn s x) (same_some other w there)
        (is_over s other second limit new_other same both)
    each (suc (suc k)) w there = absurd (none_some w there)
