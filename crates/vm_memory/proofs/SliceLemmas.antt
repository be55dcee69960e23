-- windows of addresses that follow one another
use Rattle.std.proofs.Common.{◌≡◌, ℕ, ◌+◌, ◌-◌, ◌%◌, ◌^◌, ◌<◌, ◌≤◌, List, [], ◌∷◌, min, take, drop, refl, ap, sym, ◌∙◌, subst, arith, zero}
use Rattle.std.proofs.Common.{suc, Option, Some, None}
use Rattle.std.specs.Prelude.{is_some, if◌then◌else◌, Result, Err}
use Rattle.std.proofs.lemmas.List.{drop_at}
use Rattle.vm_memory_core.specs.Host.{Place}
use Rattle.vm_memory_core.specs.Window.{Window, places_of}
use Rattle.vm_memory.specs.Memory.{addresses, circular, located, reached}
use Rattle.vm_memory.specs.Slices.{Slices, error_of, next_len, slices_from, GivesSlice, GivesWindow, IsUsedUp, TakesWindow}
use Rattle.vm_memory.specs.declared.error.GuestMemoryError.{GuestMemoryError}
use Rattle.vm_memory.specs.declared.error.GuestMemoryError.TheVariants.{InvalidGuestAddress}
use Rattle.vm_memory.proofs.Places.{Where, circular-append, circular-low, length-circular, parts, take_circular}

-- first addresses that are the same modulo 2^64 begin the same list
circular-same : (n a b : ℕ) → a % 2 ^ 64 ≡ b % 2 ^ 64 → circular a n ≡ circular b n
unfolding addresses
circular-same zero a b e = refl
circular-same (suc n) a b e =
    let next : (a + 1) % 2 ^ 64 ≡ (b + 1) % 2 ^ 64 = omega arith in
    rw e (ap (λ (l : List ℕ). b % 2 ^ 64 ∷ l) (circular-same n (a + 1) (b + 1) next))

pub drop_circular : (a k n : ℕ) → k ≤ n → drop k (circular a n) ≡ circular (a + k) (n - k)
drop_circular a k n h =
    let count : n ≡ k + (n - k) = omega arith in
    ap (λ m. drop k (circular a m)) count ∙ ap (drop k) (circular-append k (n - k) a)
    ∙ drop_at (circular a k) (circular (a + k) (n - k)) k (length-circular k a)

pub next_len-circular : (g : ℕ → ℕ) (a n : ℕ) → next_len g (circular a n) ≡ min n (g (a % 2 ^ 64))
unfolding addresses
next_len-circular g a zero = omega arith
next_len-circular g a (suc n) = ap (λ k. min (suc k) (g (a % 2 ^ 64))) (length-circular n (a + 1))

-- a window at the front, and what is left after it
pub window_taken : (f : Where) (g : ℕ → ℕ) (a n : ℕ) (w : Window) → a < 2 ^ 64 → 0 < w.len → w.len ≡ min n (g a) → a + w.len ≤ 2 ^ 64 →
    located f (addresses a w.len) ≡ Some (places_of w) →
    TakesWindow (slices_from f g a n) w (slices_from f g ((a + w.len) % 2 ^ 64) (n - w.len))
window_taken f g a n w low some len fits there =
    let le : w.len ≤ n = omega (arith, len) in
    let same : a % 2 ^ 64 ≡ a = omega arith in
    let front : take w.len (circular a n) ≡ addresses a w.len = take_circular a w.len n le ∙ circular-low w.len a a (omega arith) fits in
    let rest : circular ((a + w.len) % 2 ^ 64) (n - w.len) ≡ drop w.len (circular a n) =
    circular-same (n - w.len) ((a + w.len) % 2 ^ 64) (a + w.len) (omega arith)
    ∙ sym (drop_circular a w.len n le) in (
      some,
      len ∙ sym (next_len-circular g a n ∙ ap (λ x. min n (g x)) same),
      ap (located f) front ∙ there,
      ap (λ (l : List ℕ). record { where_is = f; longest = g; left = l }) rest,
    )

-- the same below the greatest address
pub window_taken_low : (f : Where) (g : ℕ → ℕ) (a n : ℕ) (w : Window) → 0 < w.len → w.len ≡ min n (g a) → a + w.len < 2 ^ 64 →
    located f (addresses a w.len) ≡ Some (places_of w) →
    TakesWindow (slices_from f g a n) w (slices_from f g (a + w.len) (n - w.len))
window_taken_low f g a n w some len fits there =
    let same : (a + w.len) % 2 ^ 64 ≡ a + w.len = omega arith in
    subst (λ x. TakesWindow (slices_from f g a n) w (slices_from f g x (n - w.len))) same
    (window_taken f g a n w (omega arith) some len (omega arith) there)

-- a first address without a place is an error
pub error_there :
    (f : Where) (a n : ℕ) → a < 2 ^ 64 → 0 < n → f a ≡ None → error_of f (circular a n) ≡ Some (InvalidGuestAddress (record { 0 = a }))
unfolding addresses
error_there f a zero low some none = absurd (omega arith)
error_there f a (suc n) low some none = let same : a % 2 ^ 64 ≡ a = omega arith in rw (same, none) refl

no_error : (f : Where) (a n : ℕ) (p : Place) → a < 2 ^ 64 → f a ≡ Some p → None ≡ error_of f (circular a n)
unfolding addresses
no_error f a zero p low there = refl
no_error f a (suc n) p low there = let same : a % 2 ^ 64 ≡ a = omega arith in rw (same, there) refl

first_place : (f : Where) (a k : ℕ) (ps : List Place) → 0 < k → located f (addresses a k) ≡ Some ps → (p : Place) × (f a ≡ Some p)
unfolding addresses located
first_place f a zero ps some e = absurd (omega arith)
first_place f a (suc k) ps some e = let s = parts (f a) (located f (addresses (a + 1) k)) ps e in (s.0, s.2)

-- one that has a place is none
pub error_missing :
    (f : Where) (a n k : ℕ) (ps : List Place) → a < 2 ^ 64 → 0 < k → located f (addresses a k) ≡ Some ps → None ≡ error_of f (circular a n)
error_missing f a n k ps low some e = let first = first_place f a k ps some e in no_error f a n first.0 low first.1

error_step : (o : Option Place) (x k : ℕ) (e : GuestMemoryError) →
    (if is_some o then None else Some (InvalidGuestAddress (record { 0 = x }))) ≡ Some e → (if is_some o then suc k else 0) ≡ 0
error_step None x k e h = refl
error_step (Some p) x k e h = absurd (cc)

pub reached_error : (f : Where) (xs : List ℕ) (e : GuestMemoryError) → error_of f xs ≡ Some e → reached f xs ≡ 0
unfolding reached
reached_error f [] e h = absurd (cc)
reached_error f (x ∷ xs) e h = error_step (f x) x (reached f xs) e h

-- what ends the windows without their error
pub ends_at_error :
    (s t : Slices) (r : Result Window GuestMemoryError) (e : GuestMemoryError) → r ≡ Err e → GivesSlice s (Some r) t → GivesWindow s None t
ends_at_error s t r e is gives =
    let h : GivesSlice s (Some (Err e)) t = subst (λ (x : Result Window GuestMemoryError). GivesSlice s (Some x) t) is gives in
    (reached_error s.where_is s.left e h.0, h.1)

pub ends_at_end : (s t : Slices) → GivesSlice s None t → GivesWindow s None t
unfolding reached
ends_at_end s t h = (ap (reached s.where_is) h.0, h.1)

used_up : (f : Where) (g : ℕ → ℕ) (a : ℕ) → IsUsedUp (slices_from f g a 0) (slices_from f g a 0)
unfolding addresses
used_up f g a = refl

-- an error that ends the windows
pub error_given : (f : Where) (g : ℕ → ℕ) (a n : ℕ) → a < 2 ^ 64 → 0 < n → f a ≡ None →
    GivesSlice (slices_from f g a n) (Some (Err (InvalidGuestAddress (record { 0 = a })))) (slices_from f g a 0)
error_given f g a n low some none = (error_there f a n low some none, used_up f g a)

-- no address is left
pub end_given : (f : Where) (g : ℕ → ℕ) (a n : ℕ) → n ≡ 0 → GivesSlice (slices_from f g a n) None (slices_from f g a n)
unfolding addresses
end_given f g a zero e = (refl, refl)
end_given f g a (suc n) e = absurd (omega arith)

pub no_error_left : (f : Where) (a n : ℕ) → n ≡ 0 → None ≡ error_of f (circular a n)
unfolding addresses
no_error_left f a zero e = refl
no_error_left f a (suc n) e = absurd (omega arith)
