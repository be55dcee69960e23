-- Stores at places apart go in either order.
use Rattle.std.proofs.Common.{◌≡◌, ℕ, zero, suc, ◌+◌, ◌-◌, ◌/◌, ◌^◌, ◌<◌, ◌≤◌, Bool, true, false, List, [], ◌∷◌, ◌++◌, length, take, drop}
use Rattle.std.proofs.Common.{set, refl, sym, ap, ◌∙◌, arith, inl, inr, ⊎_elim, subst, Option, None, Some, nat_lt, if◌then◌else◌}
use Rattle.std.specs.Prelude.{◌⊎◌, ◌↔◌, ◌||◌, ◌==◌, not, nat_le, IsTrue}
use Rattle.std.proofs.lemmas.Bool.Decides.{nat_tests}
use Rattle.std.specs.Option.{is_none}
use Rattle.std.specs.List.{zip}
use Rattle.std.proofs.lemmas.Bool.{cases_eq, cases_lt}
use Rattle.std.proofs.lemmas.List.{nil_from_length, set_comm, take-append-drop}
use Rattle.vm_bitmaps.specs.Pages.{marked_at}
use Rattle.vm_memory_core.specs.Host.{Block, Host, IoAddress, Place, changed_at, marked}
use Rattle.vm_memory_core.specs.declared.window.IoMarks.{IoMarks}
use Rattle.vm_memory_core.specs.Window.{Window, io_address, places_of, put_all, put_byte, span}
use Rattle.vm_memory_core.proofs.WindowLemmas.{put_all-append}
use Rattle.std.proofs.Math.Seq.{take-nil}
use Rattle.plain_machine.specs.Apart.{Apart, IsApart, are_apart}
use Rattle.plain_machine.specs.FillsProof.{zip-both, zip-front}

-- two places aren't one byte
abbrev Differ : Place → Place → Type 0
Differ p q = p.block ≡ q.block → p.offset ≡ q.offset → ⊥

-- changes of a list's elements that commute where they meet
changed_comm : {X : Type 0} (l : List X) (i j : ℕ) (f g : X → X) → (i ≡ j → (x : X) → g (f x) ≡ f (g x)) →
    changed_at (changed_at l i f) j g ≡ changed_at (changed_at l j g) i f
changed_comm {X} (x ∷ l) zero zero f g h = ap (λ (y : X). y ∷ l) (h refl x)
changed_comm {X} (x ∷ l) (suc i) (suc j) f g h = ap (λ (r : List X). x ∷ r) (changed_comm l i j f g (λ e. h (ap suc e)))
changed_comm _ _ _ f g h = refl

-- one value may be set at two places in either order, also if they are one
set_twice : {X : Type 0} (l : List X) (i j : ℕ) (a : X) → set (set l i a) j a ≡ set (set l j a) i a
set_twice (x ∷ l) zero zero a = refl
set_twice {X} (x ∷ l) (suc i) (suc j) a = ap (λ (r : List X). x ∷ r) (set_twice l i j a)
set_twice _ _ _ a = refl

mark_twice : (c d : Bool) (l : List Bool) (i j : ℕ) →
    (let m : List Bool = if c then set l i true else l in if d then set m j true else m)
    ≡ (let m : List Bool = if d then set l j true else l in if c then set m i true else m)
mark_twice true true l i j = set_twice l i j true
mark_twice _ _ l i j = refl

-- what a byte does to its block
abbrev in_block : Place → ℕ → Block → Block
in_block p x b = record { bytes = set b.bytes p.offset x; marks = if is_none p.io then marked b.marks p.offset else b.marks }

-- and to the sets of I/O pages
abbrev in_sets : Option IoAddress → List (List Bool) → List (List Bool)
in_sets None l = l
in_sets (Some a) l = changed_at l a.set (λ marks. marked_at 4096 marks a.address)

abbrev host_with : Host → List Block → List (List Bool) → Host
host_with h blocks sets = record h { blocks = blocks; io_marks = sets }

twice : {X : Type 0} (l : List X) (i : ℕ) (f g : X → X) → changed_at (changed_at l i f) i g ≡ changed_at l i (λ x. g (f x))
twice {X} (x ∷ l) (suc i) f g = ap (λ (r : List X). x ∷ r) (twice l i f g)
twice _ _ f g = refl

put_is : (h : Host) (p : Place) (x : ℕ) (io : Option IoAddress) → p.io ≡ io →
    put_byte h p x ≡ host_with h (changed_at h.blocks p.block (in_block p x)) (in_sets p.io h.io_marks)
put_is h p x None e =
    rw e (ap (λ (l : List Block). host_with h l h.io_marks)
    (twice h.blocks p.block (λ (b : Block). record b { bytes = set b.bytes p.offset x })
    (λ (b : Block). record b { marks = marked b.marks p.offset })))
put_is h p x (Some a) e = rw e refl

sets_comm : (s t : Option IoAddress) (l : List (List Bool)) → in_sets t (in_sets s l) ≡ in_sets s (in_sets t l)
sets_comm (Some a) (Some b) l =
    changed_comm l a.set b.set (λ marks. marked_at 4096 marks a.address) (λ marks. marked_at 4096 marks b.address)
    (λ e m. mark_twice (nat_lt a.address (2 ^ 64)) (nat_lt b.address (2 ^ 64)) m (a.address / 4096) (b.address / 4096))
sets_comm _ _ l = refl

blocks_comm :
    (p q : Place) (x y : ℕ) → Differ p q → p.block ≡ q.block → (b : Block) → in_block q y (in_block p x b) ≡ in_block p x (in_block q y b)
blocks_comm p q x y apart same b =
    let bytes : set (set b.bytes p.offset x) q.offset y ≡ set (set b.bytes q.offset y) p.offset x =
    set_comm b.bytes p.offset q.offset x y (λ e. apart same e) in
    let marks = mark_twice (is_none p.io) (is_none q.io) b.marks (p.offset / 4096) (q.offset / 4096) in
    λ j. record { bytes = bytes j; marks = marks j }

put_comm : (h : Host) (p q : Place) (x y : ℕ) → Differ p q → put_byte (put_byte h p x) q y ≡ put_byte (put_byte h q y) p x
put_comm h p q x y apart =
    ap (λ (k : Host). put_byte k q y) (put_is h p x p.io refl)
    ∙ put_is (host_with h (changed_at h.blocks p.block (in_block p x)) (in_sets p.io h.io_marks)) q y q.io refl
    ∙ ap (λ (l : List Block). host_with h l (in_sets q.io (in_sets p.io h.io_marks)))
    (changed_comm h.blocks p.block q.block (in_block p x) (in_block q y) (λ e b. blocks_comm p q x y apart e b))
    ∙ ap (host_with h (changed_at (changed_at h.blocks q.block (in_block q y)) p.block (in_block p x))) (sets_comm p.io q.io h.io_marks)
    ∙ sym (put_is (host_with h (changed_at h.blocks q.block (in_block q y)) (in_sets q.io h.io_marks)) p x p.io refl)
    ∙ ap (λ (k : Host). put_byte k p x) (sym (put_is h q y q.io refl))

-- one byte past many
put_past : (qs : List Place) (ys : List ℕ) (h : Host) (p : Place) (x : ℕ) → IsApart p qs →
    put_all (put_byte h p x) (zip qs ys) ≡ put_byte (put_all h (zip qs ys)) p x
unfolding put_all
put_past (q ∷ qs) (y ∷ ys) h p x apart =
    ap (λ (k : Host). put_all k (zip qs ys)) (put_comm h p q x y apart.0) ∙ put_past qs ys (put_byte h q y) p x apart.1
put_past _ _ h p x apart = refl

-- many past many
pub put_all_comm : (ps qs : List Place) (xs ys : List ℕ) (h : Host) → Apart ps qs →
    put_all (put_all h (zip ps xs)) (zip qs ys) ≡ put_all (put_all h (zip qs ys)) (zip ps xs)
unfolding put_all
put_all_comm (p ∷ ps) qs (x ∷ xs) ys h apart =
    put_all_comm ps qs xs ys (put_byte h p x) apart.1 ∙ ap (λ (k : Host). put_all k (zip ps xs)) (put_past qs ys h p x apart.0)
put_all_comm _ qs _ ys h apart = refl

-- the front of what is stored may come last
pub front_last : (h k : Host) (ps : List Place) (front more : List ℕ) → length front ≤ length ps →
    Apart (take (length front) ps) (drop (length front) ps) →
    k ≡ put_all h (zip (drop (length front) ps) more) → put_all k (zip ps front) ≡ put_all h (zip ps (front ++ more))
front_last h k ps front more le apart e =
    let n = length front in
    ap (λ (l : Host). put_all l (zip ps front)) e
    ∙ ap (put_all (put_all h (zip (drop n ps) more))) (sym (zip-front n ps front (omega arith)))
    ∙ sym (put_all_comm (take n ps) (drop n ps) front more h apart)
    ∙ sym (put_all-append (zip (take n ps) front) (zip (drop n ps) more) h)
    ∙ ap (put_all h) (sym (zip-both ps front more le))

-- ---- places apart by their numbers

one_apart :
    (p : Place) (c q : ℕ) (io : Option IoMarks) (m : ℕ) → (p.block ≡ c → (p.offset < q) ⊎ (q + m ≤ p.offset)) → IsApart p (span c q io m)
unfolding span
one_apart p c q io zero h = tt
one_apart p c q io (suc m) h = (
  λ same at. ⊎_elim (λ (l : p.offset < q). omega (arith, l, at)) (λ (l : q + suc m ≤ p.offset). omega (arith, l, at)) (h same),
  one_apart p c (q + 1) io m
      (λ same. ⊎_elim (λ (l : p.offset < q). inl (omega (arith, l))) (λ (l : q + suc m ≤ p.offset). inr (omega (arith, l))) (h same)),
)

spans_apart : (n b o : ℕ) (io : Option IoMarks) (c q : ℕ) (jo : Option IoMarks) (m : ℕ) → (b ≡ c → (o + n ≤ q) ⊎ (q + m ≤ o)) →
    Apart (span b o io n) (span c q jo m)
unfolding span
spans_apart zero b o io c q jo m h = tt
spans_apart (suc n) b o io c q jo m h = (
  one_apart (record { block = b; offset = o; io = io_address o io }) c q jo m
      (λ same. ⊎_elim (λ (l : o + suc n ≤ q). inl (omega (arith, l))) (λ (l : q + m ≤ o). inr (omega (arith, l))) (h same)),
  spans_apart n b (o + 1) io c q jo m
      (λ same. ⊎_elim (λ (l : o + suc n ≤ q). inl (omega (arith, l))) (λ (l : q + m ≤ o). inr (omega (arith, l))) (h same)),
)

-- windows of different blocks, or one behind the other
pub windows_apart :
    (w v : Window) → (w.block ≡ v.block → (w.offset + w.len ≤ v.offset) ⊎ (v.offset + v.len ≤ w.offset)) → Apart (places_of w) (places_of v)
windows_apart w v h = spans_apart w.len w.block w.offset w.io v.block v.offset v.io v.len h

-- a byte of a span, and of two
one_meets :
    (p : Place) (c q : ℕ) (jo : Option IoMarks) (m : ℕ) → p.block ≡ c → q ≤ p.offset → p.offset < q + m → IsApart p (span c q jo m) → ⊥
unfolding span
one_meets p c q jo zero same low high a = absurd (omega (arith, low, high))
one_meets p c q jo (suc m) same low high a =
    ⊎_elim (λ (e : p.offset ≡ q). a.0 same e)
    (λ (e : p.offset ≡ q → ⊥). one_meets p c (q + 1) jo m same (omega (arith, low, e)) (omega (arith, high)) a.1) (cases_eq p.offset q)

spans_meet : (n b o : ℕ) (io : Option IoMarks) (c q : ℕ) (jo : Option IoMarks) (m : ℕ) → b ≡ c → 0 < n → 0 < m → o < q + m → q < o + n →
    Apart (span b o io n) (span c q jo m) → ⊥
unfolding span
spans_meet zero b o io c q jo m same any some low high a = absurd (omega (arith, any))
spans_meet (suc n) b o io c q jo m same any some low high a =
    ⊎_elim (λ (l : o < q). spans_meet n b (o + 1) io c q jo m same (omega (arith, l, high)) some (omega (arith, l, some))
    (omega (arith, high)) a.1)
    (λ (l : q ≤ o). one_meets (record { block = b; offset = o; io = io_address o io }) c q jo m same l low a.0) (cases_lt o q)

pub windows_meet : (w v : Window) → w.block ≡ v.block → 0 < w.len → 0 < v.len → w.offset < v.offset + v.len → v.offset < w.offset + w.len →
    Apart (places_of w) (places_of v) → ⊥
windows_meet w v same any some low high a = spans_meet w.len w.block w.offset w.io v.block v.offset v.io v.len same any some low high a

decides_by : (a b c : Bool) (w v : Window) → (w.block == v.block) ≡ a → nat_le (w.offset + w.len) v.offset ≡ b →
    nat_le (v.offset + v.len) w.offset ≡ c → 0 < w.len → 0 < v.len →
    IsTrue (not a || (b || c)) ↔ Apart (places_of w) (places_of v)
decides_by false b c w v s t u any some = (λ yes. windows_apart w v (λ same. absurd (grind (arith, nat_tests, s, same))), λ apart. refl)
decides_by true true c w v s t u any some = (λ yes. windows_apart w v (λ same. inl (grind (arith, nat_tests, t))), λ apart. refl)
decides_by true false true w v s t u any some = (λ yes. windows_apart w v (λ same. inr (grind (arith, nat_tests, u))), λ apart. refl)
decides_by true false false w v s t u any some = (
  λ yes. absurd (cc),
  λ apart. absurd (windows_meet w v (grind (arith, nat_tests, s)) any some (grind (arith, nat_tests, u))
      (grind (arith, nat_tests, t)) apart),
)

-- windows that have a byte are apart by their numbers, or they aren't
pub windows_decide : (w v : Window) → 0 < w.len → 0 < v.len → IsTrue (are_apart w v) ↔ Apart (places_of w) (places_of v)
windows_decide w v any some =
    decides_by (w.block == v.block) (nat_le (w.offset + w.len) v.offset) (nat_le (v.offset + v.len) w.offset) w v refl refl refl any some

-- two lists apart from a third
pub both_apart : (ps rs qs : List Place) → Apart ps qs → Apart rs qs → Apart (ps ++ rs) qs
both_apart [] rs qs a b = b
both_apart (p ∷ ps) rs qs a b = (a.0, both_apart ps rs qs a.1 b)

-- and a list apart from two
one_both : (p : Place) (qs rs : List Place) → IsApart p qs → IsApart p rs → IsApart p (qs ++ rs)
one_both p [] rs a b = b
one_both p (q ∷ qs) rs a b = (a.0, one_both p qs rs a.1 b)

pub apart_both : (ps qs rs : List Place) → Apart ps qs → Apart ps rs → Apart ps (qs ++ rs)
apart_both [] qs rs a b = tt
apart_both (p ∷ ps) qs rs a b = (one_both p qs rs a.0 b.0, apart_both ps qs rs a.1 b.1)

-- the parts of what is apart are
one_parts : (p : Place) (qs rs : List Place) → IsApart p (qs ++ rs) → IsApart p qs × IsApart p rs
one_parts p [] rs a = (tt, a)
one_parts p (q ∷ qs) rs a = let more = one_parts p qs rs a.1 in ((a.0, more.0), more.1)

apart_parts : (ps qs rs : List Place) → Apart ps (qs ++ rs) → Apart ps qs × Apart ps rs
apart_parts [] qs rs a = (tt, tt)
apart_parts (p ∷ ps) qs rs a =
    let one = one_parts p qs rs a.0 in
    let more = apart_parts ps qs rs a.1 in ((one.0, more.0), (one.1, more.1))

front_parts : (ps rs qs : List Place) → Apart (ps ++ rs) qs → Apart ps qs × Apart rs qs
front_parts [] rs qs a = (tt, a)
front_parts (p ∷ ps) rs qs a = let more = front_parts ps rs qs a.1 in ((a.0, more.0), more.1)

apart_none : (ps : List Place) → Apart ps []
apart_none [] = tt
apart_none (p ∷ ps) = (tt, apart_none ps)

-- where a part of the second list is known to be apart, the rest decides
pub rest_decides :
    (A : Type 0) (ps qs part : List Place) (k : ℕ) → part ≡ take k qs → A ↔ Apart ps qs → Apart ps part → A ↔ Apart ps (drop k qs)
rest_decides A ps qs part k is all known = (
  λ a. (apart_parts ps (take k qs) (drop k qs) (subst (Apart ps) (sym (take-append-drop k qs)) (all.0 a))).1,
  λ r. all.1 (subst (Apart ps) (take-append-drop k qs) (apart_both ps (take k qs) (drop k qs) (subst (Apart ps) is known) r)),
)

pub part_denies : (A : Type 0) (ps qs part : List Place) (k : ℕ) → part ≡ take k qs → A ↔ Apart ps qs → (Apart ps part → ⊥) → A → ⊥
part_denies A ps qs part k is all none a =
    none (subst (Apart ps) (sym is) (apart_parts ps (take k qs) (drop k qs) (subst (Apart ps) (sym (take-append-drop k qs)) (all.0 a))).0)

pub nothing_left : (A : Type 0) (ps qs : List Place) → A ↔ Apart ps qs → length qs ≡ 0 → A
nothing_left A ps qs all none = all.1 (subst (Apart ps) (sym (nil_from_length qs none)) (apart_none ps))

-- and where one of the first is
cut_front : (ps : List Place) (k n : ℕ) → k ≤ n → take n ps ≡ take k ps ++ take (n - k) (drop k ps)
cut_front ps zero n le = ap (λ i. take i ps) (let e : n ≡ n - 0 = omega arith in e)
cut_front [] (suc k) (suc n) le = sym (take-nil (suc n - suc k))
cut_front (p ∷ ps) (suc k) (suc n) le = ap (λ l. p ∷ l)
    (cut_front ps k n (omega (arith, le)) ∙ ap (λ i. take k ps ++ take i (drop k ps)) (let e : n - k ≡ suc n - suc k = omega arith in e))
cut_front _ (suc k) zero le = absurd (omega (arith, le))

pub front_decides : (A : Type 0) (ps qs part : List Place) (k n : ℕ) → k ≤ n → part ≡ take k ps → A ↔ Apart (take n ps) qs → Apart part qs →
    A ↔ Apart (take (n - k) (drop k ps)) qs
front_decides A ps qs part k n le is all known =
    let cut = cut_front ps k n le in (
      λ a. (front_parts (take k ps) (take (n - k) (drop k ps)) qs (subst (λ l. Apart l qs) cut (all.0 a))).1,
      λ r. all.1 (subst (λ l. Apart l qs) (sym cut)
          (both_apart (take k ps) (take (n - k) (drop k ps)) qs (subst (λ l. Apart l qs) is known) r)),
    )

pub front_denies :
    (A : Type 0) (ps qs part : List Place) (k n : ℕ) → k ≤ n → part ≡ take k ps → A ↔ Apart (take n ps) qs → (Apart part qs → ⊥) → A → ⊥
front_denies A ps qs part k n le is all none a =
    let cut = cut_front ps k n le in
    none (subst (λ l. Apart l qs) (sym is)
    (front_parts (take k ps) (take (n - k) (drop k ps)) qs (subst (λ l. Apart l qs) cut (all.0 a))).0)
