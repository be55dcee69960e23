-- Several handles of one run.
use Rattle.std.proofs.Common.{◌≡◌, ℕ, List, [], ◌∷◌, ◌++◌, Option, Some, None, map, slice_get, refl, subst, sym, ap, ◌∙◌}
use Rattle.std.specs.List.{AllByRecursion}
use Rattle.std.proofs.lemmas.List.{map-append}
use Rattle.live_machine.specs.Live.{InFlightChain}
use Rattle.live_machine.proofs.Alone.{all_both, all_left, all_right}
use Rattle.live_machine.proofs.Queues.{there_other, there_same}
use Rattle.fs_chain.specs.Holds.{HoldsInFlight}
use Rattle.fs_chain.specs.Together.{EachHasOne, FindsOwn, HasNoneLeft, HasNone, IsHeldBy, IsNot, JoinsOthers, KeepsOthers, LeavesOthers}
use Rattle.fs_chain.specs.Together.{Owned, with_handle}
use Rattle.fs_chain.specs.declared.chain_handle.ChainHandle.{ChainHandle}

abbrev pub chains_of : List Owned → List InFlightChain
chains_of os = map (λ (o : Owned). o.chain) os

abbrev HeldByOwner : (page_size : ℕ) → List ChainHandle → Owned → Type 0
HeldByOwner page_size ws o = IsHeldBy page_size ws o.handle o.chain

abbrev Lacks : ℕ → Owned → Type 0
Lacks k o = IsNot k o.handle

-- ---- no handle has two

-- a chain amid others: its handle has none of them
pub amid : (k : ℕ) (c : InFlightChain) (ob oh : List Owned) → EachHasOne (ob ++ (record { handle = Some k; chain = c }) ∷ oh) →
    HasNone k ob × HasNone k oh
amid k c [] oh once = (tt, once.0)
amid k c (o ∷ ob) oh once =
    let more = amid k c ob oh once.1 in
    ((apart k c o ob oh o.handle refl once.0, more.0), more.1)
  where
    apart : (k : ℕ) (c : InFlightChain) (o : Owned) (ob oh : List Owned) (h : Option ℕ) → o.handle ≡ h →
        HasNoneLeft h (ob ++ (record { handle = Some k; chain = c }) ∷ oh) → IsNot k h
    apart k c o ob oh None is none = tt
    apart k c o ob oh (Some j) is none =
        let here = all_right (Lacks j) ob (record { handle = Some k; chain = c } ∷ oh) none in
        λ same. here.0 (sym same)

-- the others, without it
no_more : (h : Option ℕ) (o : Owned) (ob oh : List Owned) → HasNoneLeft h (ob ++ o ∷ oh) → HasNoneLeft h (ob ++ oh)
no_more None o ob oh none = tt
no_more (Some j) o ob oh none =
    let behind = all_right (Lacks j) ob (o ∷ oh) none in
    all_both (Lacks j) ob oh (all_left (Lacks j) ob (o ∷ oh) none) behind.1

without : (o : Owned) (ob oh : List Owned) → EachHasOne (ob ++ o ∷ oh) → EachHasOne (ob ++ oh)
without o [] oh once = once.1
without o (p ∷ ob) oh once = (no_more p.handle o ob oh once.0, without o ob oh once.1)

-- with another chain in its place
no_more_so : (h : Option ℕ) (k : ℕ) (c c' : InFlightChain) (ob oh : List Owned)
    → HasNoneLeft h (ob ++ (record { handle = Some k; chain = c }) ∷ oh) →
    HasNoneLeft h (ob ++ (record { handle = Some k; chain = c' }) ∷ oh)
no_more_so None k c c' ob oh none = tt
no_more_so (Some j) k c c' ob oh none =
    let behind = all_right (Lacks j) ob (record { handle = Some k; chain = c } ∷ oh) none in
    all_both (Lacks j) ob (record { handle = Some k; chain = c' } ∷ oh)
    (all_left (Lacks j) ob (record { handle = Some k; chain = c } ∷ oh) none) (behind.0, behind.1)

in_place : (k : ℕ) (c c' : InFlightChain) (ob oh : List Owned) → EachHasOne (ob ++ (record { handle = Some k; chain = c }) ∷ oh) →
    EachHasOne (ob ++ (record { handle = Some k; chain = c' }) ∷ oh)
in_place k c c' [] oh once = (once.0, once.1)
in_place k c c' (o ∷ ob) oh once = (no_more_so o.handle k c c' ob oh once.0, in_place k c c' ob oh once.1)

-- with one more
one_more : (h : Option ℕ) (k : ℕ) (c : InFlightChain) (os : List Owned) → IsNot k h → HasNoneLeft h os →
    HasNoneLeft h (os ++ (record { handle = Some k; chain = c }) ∷ [])
one_more None k c os isnt none = tt
one_more (Some j) k c os isnt none =
    all_both (Lacks j) os (record { handle = Some k; chain = c } ∷ []) none (λ same. isnt (sym same), tt)

joined : (k : ℕ) (c : InFlightChain) (os : List Owned) → HasNone k os → EachHasOne os →
    EachHasOne (os ++ (record { handle = Some k; chain = c }) ∷ [])
joined k c [] none once = (tt, tt)
joined k c (o ∷ os) none once = (one_more o.handle k c os none.0 once.0, joined k c os none.1 once.1)

-- ---- what the others hold

held_still : (page_size : ℕ) (ws : List ChainHandle) (k : ℕ) (new : ChainHandle) (h : Option ℕ) (c : InFlightChain) → IsNot k h →
    IsHeldBy page_size ws h c → IsHeldBy page_size (with_handle ws k new) h c
held_still page_size ws k new None c isnt held = tt
held_still page_size ws k new (Some j) c isnt held =
    (held.0, there_other ws k j (λ _. new) (λ same. isnt (sym same)) ∙ held.1, held.2)

pub all_still : (page_size : ℕ) (ws : List ChainHandle) (k : ℕ) (new : ChainHandle) (os : List Owned) → HasNone k os →
    AllByRecursion (HeldByOwner page_size ws) os → AllByRecursion (HeldByOwner page_size (with_handle ws k new)) os
all_still page_size ws k new [] none held = tt
all_still page_size ws k new (o ∷ os) none held =
    (held_still page_size ws k new o.handle o.chain none.0 held.0, all_still page_size ws k new os none.1 held.1)

same_handle : (ws : List ChainHandle) (k : ℕ) (v w : ChainHandle) → slice_get ws k ≡ Some v → slice_get ws k ≡ Some w → v ≡ w
same_handle ws k v w one two = cc

-- ---- the laws

pub finds_own : FindsOwn
finds_own s ws ob oh k w c all there =
    let held = all_right (HeldByOwner s.page_size ws) ob (record { handle = Some k; chain = c } ∷ oh) all.held in
    let v = held.0 in (
      all.chains ∙ map-append (λ (o : Owned). o.chain) ob (record { handle = Some k; chain = c } ∷ oh),
      subst (λ (x : ChainHandle). HoldsInFlight s.page_size c x) (same_handle ws k v.0 w v.1 there) v.2,
    )

pub keeps_others : KeepsOthers
keeps_others s after ws ob oh k w new c c' all there page chains holds =
    let here : Owned = record { handle = Some k; chain = c } in
    let next : Owned = record { handle = Some k; chain = c' } in
    let none = amid k c ob oh all.once in
    let behind = all_right (HeldByOwner s.page_size ws) ob (here ∷ oh) all.held in
    let held : AllByRecursion (HeldByOwner s.page_size (with_handle ws k new)) (ob ++ next ∷ oh) =
    all_both (HeldByOwner s.page_size (with_handle ws k new)) ob (next ∷ oh)
    (all_still s.page_size ws k new ob none.0 (all_left (HeldByOwner s.page_size ws) ob (here ∷ oh) all.held))
    ((new, there_same ws k k (λ _. new) w refl there, holds), all_still s.page_size ws k new oh none.1 behind.1) in
    record {
      chains = chains ∙ sym (map-append (λ (o : Owned). o.chain) ob (next ∷ oh));
      held = subst (λ (n : ℕ). AllByRecursion (HeldByOwner n (with_handle ws k new)) (ob ++ next ∷ oh)) (sym page) held;
      once = in_place k c c' ob oh all.once;
    }

pub leaves_others : LeavesOthers
leaves_others s after ws ob oh k new c all page chains =
    let here : Owned = record { handle = Some k; chain = c } in
    let none = amid k c ob oh all.once in
    let behind = all_right (HeldByOwner s.page_size ws) ob (here ∷ oh) all.held in
    let held : AllByRecursion (HeldByOwner s.page_size (with_handle ws k new)) (ob ++ oh) =
    all_both (HeldByOwner s.page_size (with_handle ws k new)) ob oh
    (all_still s.page_size ws k new ob none.0 (all_left (HeldByOwner s.page_size ws) ob (here ∷ oh) all.held))
    (all_still s.page_size ws k new oh none.1 behind.1) in
    record {
      chains = chains ∙ sym (map-append (λ (o : Owned). o.chain) ob oh);
      held = subst (λ (n : ℕ). AllByRecursion (HeldByOwner n (with_handle ws k new)) (ob ++ oh)) (sym page) held;
      once = without here ob oh all.once;
    }

pub joins_others : JoinsOthers
joins_others s after ws os k w new c all none there page chains holds =
    let next : Owned = record { handle = Some k; chain = c } in
    let held : AllByRecursion (HeldByOwner s.page_size (with_handle ws k new)) (os ++ next ∷ []) =
    all_both (HeldByOwner s.page_size (with_handle ws k new)) os (next ∷ [])
    (all_still s.page_size ws k new os none all.held)
    ((new, there_same ws k k (λ _. new) w refl there, holds), tt) in
    record {
      chains = chains ∙ ap (λ (cs : List InFlightChain). cs ++ c ∷ []) all.chains
          ∙ sym (map-append (λ (o : Owned). o.chain) os (next ∷ []));
      held = subst (λ (n : ℕ). AllByRecursion (HeldByOwner n (with_handle ws k new)) (os ++ next ∷ [])) (sym page) held;
      once = joined k c os none all.once;
    }
