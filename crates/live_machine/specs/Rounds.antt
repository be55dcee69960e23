-- A migration in rounds, beside a guest that writes and a device whose chains are in flight: the pages that
-- were marked are copied to the other host, again and again.
use Rattle.std.specs.Prelude.{◌≡◌, ℕ, ◌+◌, Bool, true, false, not, ◌||◌, ◌==◌, if◌then◌else◌, take, drop, map}
use Rattle.std.specs.Prelude.{List, [], ◌∷◌, ◌++◌, filter, flat_map, Option, Some, None, slice_get}
use Rattle.std.specs.List.{list_any}
use Rattle.fs_queue.specs.Returning.{writes_of}
use Rattle.server_meanings.specs.Serving.{May}
use Rattle.plain_machine.specs.StepBy.{stores_among}
use Rattle.live_machine.specs.Live.{LiveEvent, LiveRun, LiveState, event_acts}
use Rattle.live_machine.specs.Runs.{page_of, marks_of}

-- the bytes of the memory, by their places in it, and those of its copy at the other host; the pages that are
-- marked; the places that a round has still to copy. Of the device's events so far: the bytes that are still
-- to be stored, each with its place, and the places whose pages are still to be marked
pub record Migration : Type 0 where
  pub bytes : ℕ → ℕ
  pub copy : ℕ → ℕ
  pub marked : (page : ℕ) → Bool
  pub to_copy : (place : ℕ) → Bool
  pub to_store : List (ℕ × ℕ)
  pub to_mark : List ℕ

-- what may happen next, in any order, by any thread:
-- - `GuestWrites`: the guest writes a byte, and its page is marked at once
-- - `BeginsEvent`: the device's next event happens. `places`: where its addresses are in the memory, by its
--   regions and an IOMMU's table
-- - `StoresByte`: of the bytes that are still to be stored, the one at this position is stored
-- - `MarksPages`: the caller marks these pages
-- - `TakesMarks`: a round begins, which takes the marks away
-- - `CopiesByte`: it copies the byte at a place
pub data RoundMoment : Type 0 where
  GuestWrites : (place value : ℕ) → RoundMoment
  BeginsEvent : LiveEvent → (places : ℕ → ℕ) → RoundMoment
  StoresByte : (position : ℕ) → RoundMoment
  MarksPages : List ℕ → RoundMoment
  TakesMarks : RoundMoment
  CopiesByte : (place : ℕ) → RoundMoment

-- the device's events among these moments
abbrev pub events_among : List RoundMoment → List LiveEvent
events_among [] = []
events_among (BeginsEvent e places ∷ ms) = e ∷ events_among ms
events_among (_ ∷ ms) = events_among ms

-- another value at one place
abbrev pub with_byte : (ℕ → ℕ) → (place value : ℕ) → ℕ → ℕ
with_byte bytes place value a = if a == place then value else bytes a

-- whether a page is one of those of some places
abbrev pub has_page : List ℕ → (page : ℕ) → Bool
has_page places page = list_any (λ a. page_of a == page) places

-- whether a page is among these
abbrev pub is_among : (pages : List ℕ) → (page : ℕ) → Bool
is_among pages page = list_any (λ p. p == page) pages

-- whether a byte of the page is still to be stored
abbrev pub has_store : List (ℕ × ℕ) → (page : ℕ) → Bool
has_store to_store page = list_any (λ w. page_of w.0 == page) to_store

-- after a write of the guest
abbrev pub after_guest : Migration → (place value : ℕ) → Migration
after_guest m place value = record m {
  bytes = with_byte m.bytes place value;
  marked = λ page. m.marked page || (page_of place == page);
}

-- after an event of the device: nothing is stored yet. The caller has to mark the pages of the addresses that
-- the event reports
abbrev pub after_beginning : {F : Type 0} → Migration → LiveState F → LiveEvent → (ℕ → ℕ) → Migration
after_beginning m s e places = record m {
  to_store = m.to_store ++ map (λ w. (places w.0, w.1)) (flat_map writes_of (stores_among (event_acts e)));
  to_mark = m.to_mark ++ map places (marks_of s e);
}

-- after a store, if there was one to make
abbrev pub after_storing : Migration → (position : ℕ) → Option (ℕ × ℕ) → Migration
after_storing m position None = m
after_storing m position (Some w) = record m {
  bytes = with_byte m.bytes w.0 w.1;
  to_store = take position m.to_store ++ drop (position + 1) m.to_store;
}

-- after the caller marked these pages. A page of which a byte is still to be stored has to be marked again: a
-- round might copy it before the store
abbrev pub after_marking : Migration → List ℕ → Migration
after_marking m pages = record m {
  marked = λ page. m.marked page || is_among pages page;
  to_mark = filter (λ a. not (is_among pages (page_of a)) || has_store m.to_store (page_of a)) m.to_mark;
}

-- after a round took the marks: it has to copy the bytes of these pages
abbrev pub after_taking : Migration → Migration
after_taking m = record m {
  marked = λ page. false;
  to_copy = λ a. m.to_copy a || m.marked (page_of a);
}

-- after the byte of a place was copied
abbrev pub after_copying : Migration → (place : ℕ) → Migration
after_copying m place = record m {
  copy = with_byte m.copy place (m.bytes place);
  to_copy = λ a. if a == place then false else m.to_copy a;
}

-- after all these moments
abbrev pub after_rounds : {F : Type 0} → (may : May F) → (s : LiveState F) → (ms : List RoundMoment) →
    (after : LiveState F) → LiveRun may s (events_among ms) after → Migration → Migration
after_rounds may s [] after run m = m
after_rounds may s (GuestWrites place value ∷ ms) after run m =
    after_rounds may s ms after run (after_guest m place value)
after_rounds may s (BeginsEvent e places ∷ ms) after run m =
    after_rounds may run.0 ms after run.2 (after_beginning m s e places)
after_rounds may s (StoresByte position ∷ ms) after run m =
    after_rounds may s ms after run (after_storing m position (slice_get m.to_store position))
after_rounds may s (MarksPages pages ∷ ms) after run m =
    after_rounds may s ms after run (after_marking m pages)
after_rounds may s (TakesMarks ∷ ms) after run m = after_rounds may s ms after run (after_taking m)
after_rounds may s (CopiesByte place ∷ ms) after run m =
    after_rounds may s ms after run (after_copying m place)

-- whether a byte will be copied by this round or a later one: this one has still to copy it, its page is
-- marked, or the caller has still to mark its page
abbrev pub is_known : Migration → (place : ℕ) → Bool
is_known m a = m.to_copy a || (m.marked (page_of a) || has_page m.to_mark (page_of a))

-- no change is lost: a byte that differs from its copy will be copied. And the page of each byte that is
-- still to be stored is still to be marked
pub record LosesNothing (m : Migration) : Type 0 where
  pub known : (place : ℕ) → (m.copy place == m.bytes place) ≡ false → is_known m place ≡ true
  pub owed : (page : ℕ) → has_store m.to_store page ≡ true → has_page m.to_mark page ≡ true

-- so it stays, for any moments in any order, over any run of the device
abbrev pub RoundsLoseNothing : {F : Type 0} → May F → Type 0
RoundsLoseNothing {F} may =
    (s after : LiveState F) (ms : List RoundMoment) (run : LiveRun may s (events_among ms) after)
    (m : Migration) →
    LosesNothing m →
    LosesNothing (after_rounds may s ms after run m)

-- so it is at the start, if each page is marked and no byte is still to be stored
abbrev pub BeginsWithAllMarked : Type 0
BeginsWithAllMarked =
    (m : Migration) →
    ((page : ℕ) → m.marked page ≡ true) →
    m.to_store ≡ [] →
    LosesNothing m

-- once a round has copied all, no page is marked, and none is still to be marked, the copy is the memory. No
-- byte is still to be stored then
pub record IsWholeCopy (m : Migration) : Type 0 where
  pub same : (place : ℕ) → m.copy place ≡ m.bytes place
  pub none_to_store : m.to_store ≡ []

abbrev pub EndsWithWholeCopy : Type 0
EndsWithWholeCopy =
    (m : Migration) →
    LosesNothing m →
    ((place : ℕ) → m.to_copy place ≡ false) →
    ((page : ℕ) → m.marked page ≡ false) →
    m.to_mark ≡ [] →
    IsWholeCopy m
