-- Rounds of a migration lose nothing.
use Rattle.std.proofs.Common.{arith, ◌≡◌, ℕ, zero, suc, ◌+◌, Bool, true, false, not, ◌||◌, ◌==◌, if◌then◌else◌, List, [], ◌∷◌, ◌++◌, take}
use Rattle.std.proofs.Common.{drop, map, Option, Some, None, slice_get, filter, flat_map, refl, subst, sym, ap, ◌∙◌, cond}
use Rattle.std.specs.List.{list_any}
use Rattle.std.proofs.lemmas.Bool.{eq-eqb, eqb-true, or_left, or_right}
use Rattle.std.proofs.lemmas.List.Folds.{list_any-append}
use Rattle.fs_queue.specs.Returning.{writes_of}
use Rattle.server_meanings.specs.Serving.{May}
use Rattle.plain_machine.specs.StepBy.{stores_among}
use Rattle.live_machine.specs.Live.{Happens, LiveEvent, LiveState, event_acts}
use Rattle.live_machine.specs.Runs.{page_of, marks_of}
use Rattle.live_machine.specs.Rounds.{BeginsEvent, BeginsWithAllMarked, CopiesByte, EndsWithWholeCopy, GuestWrites, LosesNothing}
use Rattle.live_machine.specs.Rounds.{MarksPages, Migration, RoundsLoseNothing, StoresByte, TakesMarks, after_beginning, after_copying}
use Rattle.live_machine.specs.Rounds.{after_guest, after_marking, after_storing, after_taking, has_page, has_store, is_known}
use Rattle.live_machine.proofs.Pages.{one_event}
use Rattle.live_machine.proofs.Queues.{apart_of}

-- ---- tests

by_parts : (first second third goal : Bool) → (first ≡ true → goal ≡ true) → (second ≡ true → goal ≡ true)
    → (third ≡ true → goal ≡ true) → (first || (second || third)) ≡ true → goal ≡ true
by_parts true second third goal f g h e = f refl
by_parts false true third goal f g h e = g refl
by_parts false false true goal f g h e = h refl
by_parts false false false goal f g h e = cc

in_second : (first second third : Bool) → second ≡ true → (first || (second || third)) ≡ true
in_second first second third e = or_right first (second || third) (or_left second third e)

in_third : (first second third : Bool) → third ≡ true → (first || (second || third)) ≡ true
in_third first second third e = or_right first (second || third) (or_right second third e)

either_way : (a b c d : Bool) → (a ≡ true → c ≡ true) → (b ≡ true → d ≡ true) → (a || b) ≡ true → (c || d) ≡ true
either_way true b c d f g e = or_left c d (f refl)
either_way false true c d f g e = or_right c d (g refl)
either_way false false c d f g e = cc

none_of : (a b c : Bool) → a ≡ false → b ≡ false → c ≡ false → (a || (b || c)) ≡ true → ⊥
none_of a b c x y z e = cc

-- ---- lists

moved_stores : (places : ℕ → ℕ) (page : ℕ) (ws : List (ℕ × ℕ)) → has_store (map (λ (w : ℕ × ℕ). (places w.0, w.1)) ws) page
    ≡ list_any (λ (a : ℕ). page_of (places a) == page) (map (λ (w : ℕ × ℕ). w.0) ws)
moved_stores places page [] = refl
moved_stores places page (w ∷ ws) = ap (λ (b : Bool). (page_of (places w.0) == page) || b) (moved_stores places page ws)

moved_pages : (places : ℕ → ℕ) (page : ℕ) (xs : List ℕ) →
    has_page (map places xs) page ≡ list_any (λ (a : ℕ). page_of (places a) == page) xs
moved_pages places page [] = refl
moved_pages places page (x ∷ xs) = ap (λ (b : Bool). (page_of (places x) == page) || b) (moved_pages places page xs)

module _ {X : Type 0} (f : X → Bool) where
  drop_none : (n : ℕ) (xs : List X) → xs ≡ [] → drop n xs ≡ []
  drop_none zero xs none = none
  drop_none (suc n) [] none = refl
  drop_none (suc n) (x ∷ xs) none = cc

  one_there : (xs : List X) (i : ℕ) (x : X) → slice_get xs i ≡ Some x → f x ≡ true → list_any f xs ≡ true
  one_there [] i x there is = cc
  one_there (y ∷ xs) zero x there is = or_left (f y) (list_any f xs) (subst (λ (o : Option X). IfHolds o) (sym there) is)
    where
      IfHolds : Option X → Type 0
      IfHolds None = Unit {0}
      IfHolds (Some z) = f z ≡ true
  one_there (y ∷ xs) (suc i) x there is = or_right (f y) (list_any f xs) (one_there xs i x there is)

  next : (i : ℕ) → suc i + 1 ≡ suc (i + 1)
  next i = omega arith

  without_one : (xs : List X) (i : ℕ) → list_any f (take i xs ++ drop (i + 1) xs) ≡ true → list_any f xs ≡ true
  without_one [] zero h = h
  without_one [] (suc i) h = subst (λ (l : List X). list_any f l ≡ true) (drop_none (suc i + 1) [] refl) h
  without_one (y ∷ xs) zero h = or_right (f y) (list_any f xs) h
  without_one (y ∷ xs) (suc i) h =
      either_way (f y) (list_any f (take i xs ++ drop (i + 1) xs)) (f y) (list_any f xs) (λ e. e) (without_one xs i)
      (subst (λ (n : ℕ). list_any f (take (suc i) (y ∷ xs) ++ drop n (y ∷ xs)) ≡ true) (next i) h)

-- what is kept of the places of a page, if each of them is
module _ (keep : ℕ → Bool) (page : ℕ) (all : (c : ℕ) → (page_of c == page) ≡ true → keep c ≡ true) where
  kept_one : (c : ℕ) (xs : List ℕ) (is keeps : Bool) → (page_of c == page) ≡ is → keep c ≡ keeps
      → (has_page xs page ≡ true → has_page (filter keep xs) page ≡ true) → (is || has_page xs page) ≡ true
      → has_page (cond keeps (c ∷ filter keep xs) (filter keep xs)) page ≡ true
  kept_one c xs is true same keeps rest h =
      either_way is (has_page xs page) (page_of c == page) (has_page (filter keep xs) page) (λ e. same ∙ e) rest h
  kept_one c xs true false same keeps rest h = absurd (cc (all c same))
  kept_one c xs false false same keeps rest h = rest h

  kept : (xs : List ℕ) → has_page xs page ≡ true → has_page (filter keep xs) page ≡ true
  kept [] h = cc
  kept (c ∷ xs) h = kept_one c xs (page_of c == page) (keep c) refl refl (kept xs) h

-- ---- each moment

module _ (m : Migration) (fine : LosesNothing m) where
  -- a byte was written, and its page is known
  written : (place value a : ℕ) (goal is : Bool) → (a == place) ≡ is → (m.copy a == (if is then value else m.bytes a)) ≡ false
      → (a ≡ place → goal ≡ true) → (is_known m a ≡ true → goal ≡ true) → goal ≡ true
  written place value a goal true is differ here else' = here (eqb-true a place is)
  written place value a goal false is differ here else' = else' (fine.known a differ)

  guest_keeps : (place value : ℕ) → LosesNothing (after_guest m place value)
  guest_keeps place value = record {
    known = λ a differ.
        let tc = m.to_copy a in
        let mk = m.marked (page_of a) in
        let one = page_of place == page_of a in
        let ow = has_page m.to_mark (page_of a) in
        written place value a (tc || ((mk || one) || ow)) (a == place) refl differ
        (λ same. in_second tc (mk || one) ow (or_right mk one (eq-eqb (page_of place) (page_of a) (ap page_of (sym same)))))
        (by_parts tc mk ow (tc || ((mk || one) || ow)) (or_left tc ((mk || one) || ow))
        (λ e. in_second tc (mk || one) ow (or_left mk one e)) (in_third tc (mk || one) ow));
    owed = fine.owed;
  }

  storing_keeps : (i : ℕ) (o : Option (ℕ × ℕ)) → slice_get m.to_store i ≡ o → LosesNothing (after_storing m i o)
  storing_keeps i None there = fine
  storing_keeps i (Some w) there = record {
    known = λ a differ.
        let tc = m.to_copy a in
        let mk = m.marked (page_of a) in
        let ow = has_page m.to_mark (page_of a) in
        written w.0 w.1 a (tc || (mk || ow)) (a == w.0) refl differ
        (λ same. in_third tc mk ow (fine.owed (page_of a) (one_there (λ (x : ℕ × ℕ). page_of x.0 == page_of a) m.to_store i w there
        (eq-eqb (page_of w.0) (page_of a) (ap page_of (sym same))))))
        (λ e. e);
    owed = λ page ahead. fine.owed page (without_one (λ (x : ℕ × ℕ). page_of x.0 == page) m.to_store i ahead);
  }

  -- the places of a page of which a byte is still to be stored stay, and so do those of a page that isn't among these
  stays_owed : (pages : List ℕ) (page : ℕ) (among : Bool) → list_any (λ (p : ℕ). p == page) pages ≡ among →
      (not among || has_store m.to_store page) ≡ true →
      has_page m.to_mark page ≡ true → has_page (after_marking m pages).to_mark page ≡ true
  stays_owed pages page among is stays h =
      kept (λ (a : ℕ). not (list_any (λ (p : ℕ). p == page_of a) pages) || has_store m.to_store (page_of a)) page
      (λ c same. subst (λ (k : ℕ). (not (list_any (λ (p : ℕ). p == k) pages) || has_store m.to_store k) ≡ true)
      (sym (eqb-true (page_of c) page same)) (ap (λ (b : Bool). not b || has_store m.to_store page) is ∙ stays))
      m.to_mark h

  marked_or_owed : (pages : List ℕ) (page : ℕ) (among : Bool) → list_any (λ (p : ℕ). p == page) pages ≡ among →
      has_page m.to_mark page ≡ true →
      ((m.marked page || list_any (λ (p : ℕ). p == page) pages) || has_page (after_marking m pages).to_mark page) ≡ true
  marked_or_owed pages page true is h =
      let now = list_any (λ (p : ℕ). p == page) pages in
      or_left (m.marked page || now) (has_page (after_marking m pages).to_mark page) (or_right (m.marked page) now is)
  marked_or_owed pages page false is h =
      let now = list_any (λ (p : ℕ). p == page) pages in
      or_right (m.marked page || now) (has_page (after_marking m pages).to_mark page) (stays_owed pages page false is refl h)

  marking_keeps : (pages : List ℕ) → LosesNothing (after_marking m pages)
  marking_keeps pages = record {
    known = λ a differ.
        let tc = m.to_copy a in
        let mk = m.marked (page_of a) in
        let now = list_any (λ (p : ℕ). p == page_of a) pages in
        let left = has_page (after_marking m pages).to_mark (page_of a) in
        by_parts tc mk (has_page m.to_mark (page_of a)) (tc || ((mk || now) || left)) (or_left tc ((mk || now) || left))
        (λ e. in_second tc (mk || now) left (or_left mk now e))
        (λ e. or_right tc ((mk || now) || left) (marked_or_owed pages (page_of a) now refl e)) (fine.known a differ);
    owed = λ page ahead.
        let now = list_any (λ (p : ℕ). p == page) pages in
        stays_owed pages page now refl (or_right (not now) (has_store m.to_store page) ahead) (fine.owed page ahead);
  }

  taking_keeps : LosesNothing (after_taking m)
  taking_keeps = record {
    known = λ a differ.
        let tc = m.to_copy a in
        let mk = m.marked (page_of a) in
        let ow = has_page m.to_mark (page_of a) in
        by_parts tc mk ow ((tc || mk) || ow) (λ e. or_left (tc || mk) ow (or_left tc mk e)) (λ e. or_left (tc || mk) ow (or_right tc mk e))
        (or_right (tc || mk) ow) (fine.known a differ);
    owed = fine.owed;
  }

  copied : (place a : ℕ) (is : Bool) → (a == place) ≡ is → ((if is then m.bytes place else m.copy a) == m.bytes a) ≡ false
      → ((if is then false else m.to_copy a) || (m.marked (page_of a) || has_page m.to_mark (page_of a))) ≡ true
  copied place a true is differ =
      let same : m.bytes place ≡ m.bytes a = ap m.bytes (sym (eqb-true a place is)) in
      absurd (apart_of (m.bytes place) (m.bytes a) differ same)
  copied place a false is differ = fine.known a differ

  copying_keeps : (place : ℕ) → LosesNothing (after_copying m place)
  copying_keeps place = record { known = λ a differ. copied place a (a == place) refl differ; owed = fine.owed }

  -- an event's stores are to the pages that it reports
  beginning_keeps : {F : Type 0} (may : May F) (s mid : LiveState F) (e : LiveEvent) (places : ℕ → ℕ) → Happens may s e mid
      → LosesNothing (after_beginning m s e places)
  beginning_keeps may s mid e places happens = record {
    known = λ a differ.
        let tc = m.to_copy a in
        let mk = m.marked (page_of a) in
        let ow = has_page m.to_mark (page_of a) in
        let all = has_page (m.to_mark ++ map places (marks_of s e)) (page_of a) in
        by_parts tc mk ow (tc || (mk || all)) (or_left tc (mk || all)) (in_second tc mk all)
        (λ is. in_third tc mk all (list_any-append (λ (x : ℕ). page_of x == page_of a) m.to_mark (map places (marks_of s e))
        ∙ or_left ow (has_page (map places (marks_of s e)) (page_of a)) is)) (fine.known a differ);
    owed = λ page ahead.
        let ws = flat_map writes_of (stores_among (event_acts e)) in
        let new = map (λ (w : ℕ × ℕ). (places w.0, w.1)) ws in
        let more = map places (marks_of s e) in
        let same : has_store new page ≡ has_page more page =
        moved_stores places page ws ∙ one_event may s mid e happens (λ (a : ℕ). page_of (places a) == page)
        ∙ sym (moved_pages places page (marks_of s e)) in
        list_any-append (λ (x : ℕ). page_of x == page) m.to_mark more
        ∙ either_way (has_store m.to_store page) (has_store new page) (has_page m.to_mark page) (has_page more page) (fine.owed page)
        (λ e. sym same ∙ e) (sym (list_any-append (λ (x : ℕ × ℕ). page_of x.0 == page) m.to_store new) ∙ ahead);
  }

-- ---- all moments

pub rounds_lose_nothing : {F : Type 0} (may : May F) → RoundsLoseNothing may
rounds_lose_nothing may s after [] run m fine = fine
rounds_lose_nothing may s after (GuestWrites place value ∷ ms) run m fine =
    rounds_lose_nothing may s after ms run (after_guest m place value) (guest_keeps m fine place value)
rounds_lose_nothing may s after (BeginsEvent e places ∷ ms) run m fine =
    rounds_lose_nothing may run.0 after ms run.2 (after_beginning m s e places) (beginning_keeps m fine may s run.0 e places run.1)
rounds_lose_nothing may s after (StoresByte i ∷ ms) run m fine =
    rounds_lose_nothing may s after ms run (after_storing m i (slice_get m.to_store i))
    (storing_keeps m fine i (slice_get m.to_store i) refl)
rounds_lose_nothing may s after (MarksPages pages ∷ ms) run m fine =
    rounds_lose_nothing may s after ms run (after_marking m pages) (marking_keeps m fine pages)
rounds_lose_nothing may s after (TakesMarks ∷ ms) run m fine =
    rounds_lose_nothing may s after ms run (after_taking m) (taking_keeps m fine)
rounds_lose_nothing may s after (CopiesByte place ∷ ms) run m fine =
    rounds_lose_nothing may s after ms run (after_copying m place) (copying_keeps m fine place)

-- ---- start and end

pub begins_with_all_marked : BeginsWithAllMarked
begins_with_all_marked m all none = record {
  known = λ a differ. in_second (m.to_copy a) (m.marked (page_of a)) (has_page m.to_mark (page_of a)) (all (page_of a));
  owed = λ page ahead. absurd (cc (subst (λ (ws : List (ℕ × ℕ)). has_store ws page ≡ true) none ahead));
}

none_left : (ws : List (ℕ × ℕ)) → ((page : ℕ) → has_store ws page ≡ true → ⊥) → ws ≡ []
none_left [] none = refl
none_left (w ∷ ws) none =
    let page = page_of w.0 in
    absurd (none page (or_left (page == page) (has_store ws page) (eq-eqb page page refl)))

pub ends_with_whole_copy : EndsWithWholeCopy
ends_with_whole_copy m fine copied' unmarked none = record {
  same = λ a. same_at a (m.copy a == m.bytes a) refl;
  none_to_store = none_left m.to_store (λ page ahead. none_owed page (fine.owed page ahead));
}
  where
    none_owed : (page : ℕ) → has_page m.to_mark page ≡ true → ⊥
    none_owed page owed = cc (subst (λ (xs : List ℕ). has_page xs page ≡ true) none owed)

    same_at : (a : ℕ) (is : Bool) → (m.copy a == m.bytes a) ≡ is → m.copy a ≡ m.bytes a
    same_at a true is = eqb-true (m.copy a) (m.bytes a) is
    same_at a false is =
        absurd (none_of (m.to_copy a) (m.marked (page_of a)) (has_page m.to_mark (page_of a)) (copied' a) (unmarked (page_of a))
        (ap (λ (xs : List ℕ). has_page xs (page_of a)) none) (fine.known a is))
