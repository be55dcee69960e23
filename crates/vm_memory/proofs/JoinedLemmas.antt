-- the windows and the error of some addresses as a whole
use Rattle.std.proofs.Common.{◌<◌, ◌≡◌, ℕ, ◌+◌, ◌-◌, ◌%◌, ◌^◌, ◌≤◌, List, [], ◌∷◌, ◌++◌, append_assoc, length, map, min, take, drop, refl}
use Rattle.std.proofs.Common.{ap, sym, ◌∙◌, subst, arith, Option, Some, None}
use Rattle.std.specs.Prelude.{Result, Ok, Err}
use Rattle.std.specs.Iterator.{Drains, Yields}
use Rattle.std.proofs.lemmas.List.{drop-drop, length-take-le, take-append-drop}
use Rattle.std.proofs.Math.Seq.{take-add}
use Rattle.vm_memory_core.specs.Window.{Window, places, places_of}
use Rattle.vm_memory.specs.Memory.{circular, located, reached, after}
use Rattle.vm_memory.specs.Slices.{AreAllOf, AreAllUpTo, AreLongest, AreWindowsOf, GivesSlice, GivesWindow, Slices, TakesWindow}
use Rattle.vm_memory.specs.Slices.{error_items, error_of, first_error, next_len}
use Rattle.vm_memory.specs.declared.error.GuestMemoryError.{GuestMemoryError}
use Rattle.vm_memory.proofs.Places.{Where, located-append, reached-append}
use Rattle.vm_memory.proofs.SliceLemmas.{drop_circular, next_len-circular, reached_error}

abbrev Items : Type 0
Items = List (Result Window GuestMemoryError)

abbrev steps_of : {S : Type 0} → (S → Slices) → S → Option (Result Window GuestMemoryError) → S → Type 0
steps_of v s r t = GivesSlice (v s) r (v t)

no_error_of : (s : Slices) (e : GuestMemoryError) → s.left ≡ [] → first_error s ≡ Some e → ⊥
no_error_of s e empty h = let none : error_of s.where_is s.left ≡ None = ap (error_of s.where_is) empty in cc

-- if no address is left, nothing comes
none_left : {S : Type 0} (v : S → Slices) (items : Items) (s t : S) → (v s).left ≡ [] → Yields (steps_of v) s items t → items ≡ []
none_left v [] s t e y = refl
none_left v (Ok w ∷ items) s t e y = let none = ap (next_len (v s).longest) e in absurd (omega (arith, y.1.0, y.1.1, none))
none_left v (Err x ∷ items) s t e y = absurd (no_error_of (v s) x e y.1.0)

none_of : (f : Where) (g : ℕ → ℕ) → AreAllOf (record { where_is = f; longest = g; left = [] }) []
unfolding located reached
none_of f g = ([], refl, refl, tt)

all_of_none : (s : Slices) → s.left ≡ [] → AreAllOf s []
all_of_none s e = subst (λ (l : List ℕ). AreAllOf (record { where_is = s.where_is; longest = s.longest; left = l }) []) (sym e)
    (none_of s.where_is s.longest)

error_first : (s : Slices) (e : GuestMemoryError) → first_error s ≡ Some e → AreAllUpTo s 0 (Err e ∷ [])
unfolding located
error_first s e h = ([], refl, sym (ap error_items h), tt)

all_of_error : (s : Slices) (e : GuestMemoryError) → first_error s ≡ Some e → AreAllOf s (Err e ∷ [])
all_of_error s e h = subst (λ n. AreAllUpTo s n (Err e ∷ [])) (sym (reached_error s.where_is s.left e h)) (error_first s e h)

next_len-le : (g : ℕ → ℕ) (xs : List ℕ) → next_len g xs ≤ length xs
next_len-le g [] = omega arith
next_len-le g (x ∷ xs) = omega arith

within : (g : ℕ → ℕ) (left : List ℕ) (w : Window) → w.len ≡ next_len g left → w.len ≤ length left
within g left w len = let most = next_len-le g left in omega arith

-- one window more at the front
window_first : (f : Where) (g : ℕ → ℕ) (left : List ℕ) (w : Window) (m : ℕ) (items : Items) → 0 < w.len → w.len ≡ next_len g left →
    located f (take w.len left) ≡ Some (places_of w) →
    AreAllUpTo (record { where_is = f; longest = g; left = drop w.len left }) m items →
    AreAllUpTo (record { where_is = f; longest = g; left = left }) (w.len + m) (Ok w ∷ items)
window_first f g left w m items some len front rest = (
  w ∷ rest.0,
  ap (located f) (take-add w.len m left) ∙ located-append (take w.len left) (take m (drop w.len left)) f (places_of w) front
      ∙ ap (after (places_of w)) rest.1,
  ap (λ (l : Items). Ok w ∷ l)
      (rest.2 ∙ ap (λ (d : List ℕ). map (λ x. Ok x) rest.0 ++ error_items (error_of f d)) (drop-drop m w.len left)),
  (some, len, rest.3),
)

reached_more : (f : Where) (left : List ℕ) (w : Window) → w.len ≤ length left → located f (take w.len left) ≡ Some (places_of w) →
    reached f left ≡ w.len + reached f (drop w.len left)
reached_more f left w le front =
    let count = length-take-le w.len left le in
    ap (reached f) (sym (take-append-drop w.len left)) ∙ reached-append (take w.len left) (drop w.len left) f (places_of w) front
    ∙ ap (λ n. n + reached f (drop w.len left)) count

all_of_more : (s t : Slices) (w : Window) (items : Items) → TakesWindow s w t → AreAllOf t items → AreAllOf s (Ok w ∷ items)
all_of_more s t w items taken rest =
    let more : AreAllOf (record s { left = drop w.len s.left }) items = subst (λ (x : Slices). AreAllOf x items) taken.3 rest in
    let le = within s.longest s.left w taken.1 in
    subst (λ n. AreAllUpTo s n (Ok w ∷ items)) (sym (reached_more s.where_is s.left w le taken.2))
    (window_first s.where_is s.longest s.left w (reached s.where_is (drop w.len s.left)) items taken.0 taken.1 taken.2 more)

all_of_run : {S : Type 0} (v : S → Slices) (items : Items) (s t u : S) → Yields (steps_of v) s items t → GivesSlice (v t) None (v u) →
    AreAllOf (v s) items
all_of_run v [] s t u y end = all_of_none (v s) (ap (λ x. (v x).left) y ∙ end.0)
all_of_run v (Ok w ∷ items) s t u y end = all_of_more (v s) (v y.0) w items y.1 (all_of_run v items y.0 t u y.2 end)
all_of_run v (Err e ∷ items) s t u y end =
    let none = none_left v items y.0 t (ap (λ (x : Slices). x.left) y.1.1) y.2 in
    rw none (all_of_error (v s) e y.1.0)

-- all that comes of some addresses
pub all_of_drained : {S : Type 0} (v : S → Slices) (s : S) (items : Items) → Drains (steps_of v) s items → AreAllOf (v s) items
all_of_drained v s items d = all_of_run v items s d.1.0 d.0 d.1.1 d.1.2

-- ---- the windows before the first error

abbrev AreWindowsUpTo : Slices → (n : ℕ) → List Window → Type 0
AreWindowsUpTo s n windows = (located s.where_is (take n s.left) ≡ Some (places windows)) × AreLongest s.longest s.left windows

none_up_to : (s : Slices) → AreWindowsUpTo s 0 []
unfolding located
none_up_to s = (refl, tt)

windows_of_more :
    (s t : Slices) (w : Window) (windows : List Window) → TakesWindow s w t → AreWindowsOf t windows → AreWindowsOf s (w ∷ windows)
windows_of_more s t w windows taken rest =
    let left : List ℕ = drop w.len s.left in
    let m : ℕ = reached s.where_is left in
    let more : AreWindowsOf (record s { left = left }) windows = subst (λ (x : Slices). AreWindowsOf x windows) taken.3 rest in
    let le = within s.longest s.left w taken.1 in
    subst (λ n. AreWindowsUpTo s n (w ∷ windows)) (sym (reached_more s.where_is s.left w le taken.2)) (
      ap (located s.where_is) (take-add w.len m s.left) ∙ located-append (take w.len s.left) (take m left) s.where_is (places_of w) taken.2
          ∙ ap (after (places_of w)) more.0,
      (taken.0, taken.1, more.1),
    )

windows_of_run : {S : Type 0} (v : S → Slices) (windows : List Window) (s t u : S) →
    Yields (λ a r b. GivesWindow (v a) r (v b)) s windows t → GivesWindow (v t) None (v u) → AreWindowsOf (v s) windows
windows_of_run v [] s t u y end =
    subst (λ n. AreWindowsUpTo (v s) n []) (sym (ap (λ x. reached (v x).where_is (v x).left) y ∙ end.0)) (none_up_to (v s))
windows_of_run v (w ∷ windows) s t u y end = windows_of_more (v s) (v y.0) w windows y.1 (windows_of_run v windows y.0 t u y.2 end)

-- all windows that come before the first error
pub windows_of_drained : {S : Type 0} (v : S → Slices) (s : S) (windows : List Window) →
    Drains (λ a r b. GivesWindow (v a) r (v b)) s windows → AreWindowsOf (v s) windows
windows_of_drained v s windows d = windows_of_run v windows s d.1.0 d.0 d.1.1 d.1.2

-- ---- windows that are added one after another

-- what is left of some addresses after windows
abbrev pub left_after : List ℕ → List Window → List ℕ
left_after left [] = left
left_after left (w ∷ rest) = left_after (drop w.len left) rest

left_after-push : (ws : List Window) (left : List ℕ) (w : Window) → left_after left (ws ++ w ∷ []) ≡ drop w.len (left_after left ws)
left_after-push [] left w = refl
left_after-push (v ∷ ws) left w = left_after-push ws (drop v.len left) w

longest-push : (g : ℕ → ℕ) (ws : List Window) (left : List ℕ) (w : Window) → AreLongest g left ws → 0 < w.len →
    w.len ≡ next_len g (left_after left ws) → AreLongest g left (ws ++ w ∷ [])
longest-push g [] left w all some len = (some, len, tt)
longest-push g (v ∷ ws) left w all some len = (all.0, all.1, longest-push g ws (drop v.len left) w all.2 some len)

-- one window more, of the done-th of n addresses from a on
pub longest_step : (g : ℕ → ℕ) (a done n x : ℕ) (old now new : List Window) (w : Window) →
    (added : List Window) × (now ≡ old ++ added) × AreLongest g (circular a n) added
    × (left_after (circular a n) added ≡ circular (a + done) (n - done)) →
    x ≡ (a + done) % 2 ^ 64 → 0 < w.len → w.len ≡ min (n - done) (g x) → new ≡ now ++ w ∷ [] →
    (added : List Window) × (new ≡ old ++ added) × AreLongest g (circular a n) added
    × (left_after (circular a n) added ≡ circular (a + (done + w.len)) (n - (done + w.len)))
longest_step g a done n x old now new w so at some len more =
    let le : w.len ≤ n - done = omega (arith, len) in
    let next : w.len ≡ next_len g (left_after (circular a n) so.0) =
    len ∙ ap (λ y. min (n - done) (g y)) at ∙ sym (next_len-circular g (a + done) (n - done)) ∙ ap (next_len g) (sym so.3) in
    let start : a + done + w.len ≡ a + (done + w.len) = omega arith in
    let count : n - done - w.len ≡ n - (done + w.len) = omega arith in (
      so.0 ++ w ∷ [],
      more ∙ ap (λ (l : List Window). l ++ w ∷ []) so.1 ∙ append_assoc old so.0 (w ∷ []),
      longest-push g so.0 (circular a n) w so.2 some next,
      left_after-push so.0 (circular a n) w ∙ ap (drop w.len) so.3 ∙ drop_circular (a + done) w.len (n - done) le
          ∙ ap (λ y. circular y (n - done - w.len)) start
          ∙ ap (circular (a + (done + w.len))) count,
    )
