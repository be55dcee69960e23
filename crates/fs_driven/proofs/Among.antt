-- The chains of a driver's handles, one among others, and elements of a list by their places.
use Rattle.std.proofs.Common.{inl, inr, ◌≡◌, ◌⊎◌, ℕ, Bool, true, false, List, [], ◌∷◌, ◌++◌, Some, slice_get, refl, subst}
use Rattle.std.proofs.Common.{sym, ap, ◌∙◌, eqb-true, ◌==◌}
use Rattle.vm_memory_core.specs.Host.{changed_at}
use Rattle.live_machine.specs.Live.{InFlightChain}
use Rattle.live_machine.proofs.Alone.{all_both}
use Rattle.live_machine.proofs.Queues.{apart_of, same_some, there_other, there_same}
use Rattle.fs_chain.specs.Together.{HasNone, IsNot, Owned}
use Rattle.fs_driven.specs.Drivers.{In, lost, own}

pub by_number : (j k : ℕ) → (j ≡ k) ⊎ (j ≡ k → ⊥)
by_number j k = by_test j k (j == k) refl
  where
    by_test : (j k : ℕ) (b : Bool) → (j == k) ≡ b → (j ≡ k) ⊎ (j ≡ k → ⊥)
    by_test j k true is = inl (eqb-true j k is)
    by_test j k false is = inr (apart_of j k is)

pub among_on : (o x y : Owned) (os : List Owned) → (y ≡ x) ⊎ In y os → (y ≡ x) ⊎ In y (o ∷ os)
among_on o x y os (inl e) = inl e
among_on o x y os (inr m) = inr (inr m)

pub among : (ob oh : List Owned) (x y : Owned) → In y (ob ++ x ∷ oh) → (y ≡ x) ⊎ In y (ob ++ oh)
among [] oh x y is = is
among (o ∷ ob) oh x y (inl e) = inr (inl e)
among (o ∷ ob) oh x y (inr m) = among_on o x y (ob ++ oh) (among ob oh x y m)

pub put : (ob oh : List Owned) (x y : Owned) → In y (ob ++ oh) → In y (ob ++ x ∷ oh)
put [] oh x y is = inr is
put (o ∷ ob) oh x y (inl e) = inl e
put (o ∷ ob) oh x y (inr m) = inr (put ob oh x y m)

pub here : (ob oh : List Owned) (x : Owned) → In x (ob ++ x ∷ oh)
here [] oh x = inl refl
here (o ∷ ob) oh x = inr (here ob oh x)

abbrev Split : List Owned → Owned → Type 0
Split os x = (ob : List Owned) × (oh : List Owned) × (os ≡ ob ++ x ∷ oh)

pub split : (os : List Owned) (x : Owned) → In x os → Split os x
split [] x is = absurd is
split (o ∷ os) x (inl e) = ([], os, ap (λ (y : Owned). y ∷ os) (sym e))
split (o ∷ os) x (inr m) = let r = split os x m in (o ∷ r.0, r.1, ap (λ (l : List Owned). o ∷ l) r.2)

pub not_in : (k : ℕ) (c : InFlightChain) (os : List Owned) → HasNone k os → In (own k c) os → ⊥
not_in k c [] none is = absurd is
not_in k c (o ∷ os) none (inl e) = subst (λ (x : Owned). IsNot k x.handle) (sym e) none.0 refl
not_in k c (o ∷ os) none (inr m) = not_in k c os none.1 m

pub same_number : (j k : ℕ) (d c : InFlightChain) → own j d ≡ own k c → j ≡ k
same_number j k d c e = same_some j k (ap (λ (o : Owned). o.handle) e)

pub same_chain : (j k : ℕ) (d c : InFlightChain) → own j d ≡ own k c → d ≡ c
same_chain j k d c e = ap (λ (o : Owned). o.chain) e

-- a handle's chain isn't one without a handle
pub not_lost : (k : ℕ) (d c : InFlightChain) → lost d ≡ own k c → ⊥
not_lost k d c e = cc (ap (λ (o : Owned). o.handle) e)

-- another handle's chain isn't handle k's
pub others_apart : (j k : ℕ) (d c : InFlightChain) (ob oh : List Owned) → HasNone k ob × HasNone k oh →
    In (own j d) (ob ++ oh) → j ≡ k → ⊥
others_apart j k d c ob oh none m same =
    not_in k d (ob ++ oh) (all_both (λ (o : Owned). IsNot k o.handle) ob oh none.0 none.1)
    (subst (λ (n : ℕ). In (own n d) (ob ++ oh)) same m)

-- the element in place k
pub the_new : {A : Type 0} (xs : List A) (k j : ℕ) (x new y : A) → k ≡ j → slice_get xs k ≡ Some x →
    slice_get (changed_at xs k (λ _. new)) j ≡ Some y → new ≡ y
the_new {A} xs k j x new y same there now =
    same_some new y (sym (there_same xs k j (λ _. new) x same
    (ap (λ (n : ℕ). slice_get xs n) (sym same) ∙ there)) ∙ now)

pub another : {A : Type 0} (xs : List A) (k j : ℕ) (new y : A) → (k ≡ j → ⊥) →
    slice_get (changed_at xs k (λ _. new)) j ≡ Some y → slice_get xs j ≡ Some y
another {A} xs k j new y apart now = sym (there_other xs k j (λ _. new) apart) ∙ now
