-- Which pages the stores of a run mark.
use Rattle.std.proofs.Common.{arith, ◌≡◌, ℕ, suc, Bool, List, [], ◌∷◌, ◌++◌, length, map, take, drop, zip, flat_map, Option, ◌||◌, ◌==◌}
use Rattle.std.proofs.Common.{option_map, refl, subst, sym, ap, ◌∙◌, append_assoc, append-nil}
use Rattle.std.specs.Int.{w16, w32, to_le_bytes}
use Rattle.std.specs.List.{list_any}
use Rattle.std.proofs.Math.Bool.{or_comm}
use Rattle.std.proofs.lemmas.List.{map-append, take_all}
use Rattle.std.proofs.lemmas.List.Concat.{flat_map-append}
use Rattle.std.proofs.lemmas.List.Folds.{list_any-append}
use Rattle.vm_memory.specs.Memory.{addresses}
use Rattle.vm_memory.proofs.Places.{length-addresses}
use Rattle.fs_queue.specs.Queue.{Queue, element_at, index_at}
use Rattle.fs_queue.specs.Returning.{Store, next_position, stores_after_reply, writes_of}
use Rattle.fs_queue.proofs.ReturnLemmas.{returns_by_stores}
use Rattle.server_meanings.specs.Serving.{May}
use Rattle.plain_machine.specs.MarkedPages.{block_mark, io_mark, marks_block, marks_io, returned_addresses}
use Rattle.plain_machine.specs.Step.{Exchange}
use Rattle.plain_machine.specs.StepBy.{reply_stores, stores_among}
use Rattle.plain_machine.proofs.PageLemmas.{writes_mark}
use Rattle.plain_machine.proofs.StepByLemmas.{reply_writes}
use Rattle.live_machine.specs.Several.{LiveQueue, returning, wish_at}
use Rattle.live_machine.specs.Live.{FillsBuffer, Happens, LiveEvent, LiveState, InFlightChain, PushesChain, PushesChainSo}
use Rattle.live_machine.specs.Live.{StoresNotification, StoresNotificationSo, event_acts, room_of}
use Rattle.live_machine.specs.Runs.{LogsItsPages, MarksItsPages, PagesAreMarked, ReturnsReport, page_of, marks_of, queue_addresses}
use Rattle.live_machine.specs.Runs.{written_by}
use Rattle.live_machine.proofs.Stored.{among_return, among_stores}
use Rattle.live_machine.proofs.Wishes.{wish_stored}

-- ---- lists

abbrev firsts : List (ℕ × ℕ) → List ℕ
firsts ws = map (λ (w : ℕ × ℕ). w.0) ws

firsts_zip : (as' xs : List ℕ) → firsts (zip as' xs) ≡ take (length xs) as'
firsts_zip (a ∷ as') (x ∷ xs) = ap (λ (l : List ℕ). a ∷ l) (firsts_zip as' xs)
firsts_zip [] [] = refl
firsts_zip [] (x ∷ xs) = refl
firsts_zip (a ∷ as') [] = refl

zip_none : (as' xs : List ℕ) → xs ≡ [] → zip as' xs ≡ []
zip_none [] xs none = refl
zip_none (a ∷ as') xs none = ap (λ (l : List ℕ). zip (a ∷ as') l) none

zip_cut : (n : ℕ) (as' xs : List ℕ) → zip (take n as') (take n xs) ++ zip (drop n as') (drop n xs) ≡ zip as' xs
zip_cut (suc n) (a ∷ as') [] = zip_none (drop n as') [] refl
zip_cut (suc n) (a ∷ as') (x ∷ xs) = ap (λ (l : List (ℕ × ℕ)). (a, x) ∷ l) (zip_cut n as' xs)
zip_cut _ _ xs = refl

-- so many bytes at as many addresses
whole_firsts : (a n : ℕ) (xs : List ℕ) → length xs ≡ n → firsts (zip (addresses a n) xs) ≡ addresses a n
whole_firsts a n xs len =
    firsts_zip (addresses a n) xs ∙ ap (λ (k : ℕ). take k (addresses a n)) len
    ∙ take_all n (addresses a n) (let len = length-addresses n a in omega (arith, len))

-- ---- a return

module _ (q : Queue) (head : ℕ) (room reply : List ℕ) where
  abbrev back : List ℕ
  back = addresses (element_at q) 8 ++ addresses (index_at q) 2

  -- the writes behind a reply are the used element's and the used index's
  pub returned_are : returned_addresses q head room reply ≡ take (length reply) room ++ back
  returned_are =
      ap firsts (append_assoc (zip room reply) (zip (addresses (element_at q) 8) (to_le_bytes w32 head ++ to_le_bytes w32 (length reply)))
      (zip (addresses (index_at q) 2) (to_le_bytes w16 (next_position q))))
      ∙ map-append (λ (w : ℕ × ℕ). w.0) (zip room reply) (zip (addresses (element_at q) 8)
      (to_le_bytes w32 head ++ to_le_bytes w32 (length reply)) ++ zip (addresses (index_at q) 2) (to_le_bytes w16 (next_position q)))
      ∙ ap (λ (l : List ℕ). l ++ firsts (zip (addresses (element_at q) 8) (to_le_bytes w32 head ++ to_le_bytes w32 (length reply))
      ++ zip (addresses (index_at q) 2) (to_le_bytes w16 (next_position q))))
      (firsts_zip room reply)
      ∙ ap (λ (l : List ℕ). take (length reply) room ++ l)
      (map-append (λ (w : ℕ × ℕ). w.0) (zip (addresses (element_at q) 8) (to_le_bytes w32 head ++ to_le_bytes w32 (length reply)))
      (zip (addresses (index_at q) 2) (to_le_bytes w16 (next_position q)))
      ∙ ap (λ (l : List ℕ). l ++ firsts (zip (addresses (index_at q) 2) (to_le_bytes w16 (next_position q))))
      (whole_firsts (element_at q) 8 (to_le_bytes w32 head ++ to_le_bytes w32 (length reply)) refl)
      ∙ ap (λ (l : List ℕ). addresses (element_at q) 8 ++ l) (whole_firsts (index_at q) 2 (to_le_bytes w16 (next_position q)) refl))

  -- whichever part of the reply is stored last, the same marks are set
  any_stored : (p : ℕ → Bool) (n : ℕ) (used : List Store) → used ≡ stores_after_reply q head (length reply)
      → list_any p (firsts (flat_map writes_of (reply_stores room reply n ++ used))) ≡ list_any p (returned_addresses q head room reply)
  any_stored p n used is =
      let first = zip (take n room) (take n reply) in
      let rest = zip (drop n room) (drop n reply) in
      let later = flat_map writes_of (stores_after_reply q head (length reply)) in
      let any : List (ℕ × ℕ) → Bool = λ ws. list_any p (firsts ws) in
      let two : (xs ys : List (ℕ × ℕ)) → any (xs ++ ys) ≡ (any xs || any ys) =
      λ xs ys. ap (list_any p) (map-append (λ (w : ℕ × ℕ). w.0) xs ys) ∙ list_any-append p (firsts xs) (firsts ys) in
      let turned : any (rest ++ first) ≡ any (zip room reply) =
      two rest first ∙ or_comm (any rest) (any first) ∙ sym (two first rest) ∙ ap any (zip_cut n room reply) in
      ap any
      (flat_map-append writes_of (reply_stores room reply n) used
      ∙ ap (λ (l : List (ℕ × ℕ)). l ++ flat_map writes_of used) (reply_writes room reply n)
      ∙ ap (λ (l : List Store). (rest ++ first) ++ flat_map writes_of l) is)
      ∙ two (rest ++ first) later ∙ ap (λ (b : Bool). b || any later) turned ∙ sym (two (zip room reply) later)
      ∙ ap any (sym (returns_by_stores q head room reply))

-- ---- an event

-- both by one list of addresses that sets the same marks
both_mark : {F : Type 0} (s : LiveState F) (e : LiveEvent) →
    ((p : ℕ → Bool) → list_any p (written_by (event_acts e)) ≡ list_any p (marks_of s e)) → MarksItsPages s e × LogsItsPages s e
both_mark s e same = (
  λ m.
      let ws = flat_map writes_of (stores_among (event_acts e)) in
      let marks = writes_mark m ws in record {
        blocks = λ block page.
            marks.blocks block page
            ∙ ap (λ (b : Bool). option_map (λ (was : Bool). was || b) (block_mark m.host block page)) (same (marks_block m block page));
        io_sets = λ set page.
            marks.io_sets set page
            ∙ ap (λ (b : Bool). option_map (λ (was : Bool). was || b) (io_mark m.host set page)) (same (marks_io m set page));
      },
  λ page. same (λ a. page_of a == page),
)

returns_mark : {F : Type 0} (s mid : LiveState F) (c : InFlightChain) (x : Exchange) (notice : Bool) (last : ℕ) (used : List Store)
    (seen : List ℕ) → (h : PushesChainSo s c x notice last used seen mid)
    → marks_of s (PushesChain c x notice last used seen) ≡ returned_addresses (returning h.w) c.head (room_of c) x.reply
returns_mark s mid c x notice last used seen h =
    ap (λ (k : Option LiveQueue). take (length x.reply) (room_of c) ++ queue_addresses k) h.there
    ∙ sym (returned_are (returning h.w) c.head (room_of c) x.reply)

-- a store of two bytes
two_marked : (a v : ℕ) → firsts (flat_map writes_of (record { address = a; bytes = to_le_bytes w16 v } ∷ [])) ≡ addresses a 2
two_marked a v = ap firsts (append-nil (zip (addresses a 2) (to_le_bytes w16 v))) ∙ whole_firsts a 2 (to_le_bytes w16 v) refl

-- stores in a room
fills_mark :
    (stores : List Store) → firsts (flat_map writes_of stores) ≡ flat_map (λ store. addresses store.address (length store.bytes)) stores
fills_mark [] = refl
fills_mark (store ∷ stores) =
    map-append (λ (w : ℕ × ℕ). w.0) (writes_of store) (flat_map writes_of stores)
    ∙ ap (λ (l : List ℕ). l ++ firsts (flat_map writes_of stores)) (whole_firsts store.address (length store.bytes) store.bytes refl)
    ∙ ap (λ (l : List ℕ). addresses store.address (length store.bytes) ++ l) (fills_mark stores)

pub one_event : {F : Type 0} (may : May F) (s mid : LiveState F) (e : LiveEvent) → Happens may s e mid → (p : ℕ → Bool) →
    list_any p (written_by (event_acts e)) ≡ list_any p (marks_of s e)
one_event may s mid (PushesChain c x notice last used seen) h p =
    let so : PushesChainSo s c x notice last used seen mid = h in
    ap (λ (l : List Store). list_any p (firsts (flat_map writes_of l))) (among_return (reply_stores (room_of c) x.reply last ++ used) seen)
    ∙ any_stored (returning so.w) c.head (room_of c) x.reply p last used so.used_is
    ∙ ap (list_any p) (sym (returns_mark s mid c x notice last used seen so))
one_event may s mid (StoresNotification i store) h p =
    let so : StoresNotificationSo s i store mid = h in
    let wish = wish_stored so.w so.wanted store so.stores in
    let two : firsts (flat_map writes_of (store ∷ [])) ≡ addresses store.address 2 =
    subst (λ (k : Store). firsts (flat_map writes_of (k ∷ [])) ≡ addresses k.address 2) (sym wish.1)
    (two_marked (wish_at so.w) wish.0) in
    ap (list_any p) two
one_event may s mid (FillsBuffer c stores) h p =
    ap (list_any p) (ap (λ (l : List Store). firsts (flat_map writes_of l)) (among_stores stores) ∙ fills_mark stores)
one_event may s mid e h p = refl

pub pages_are_marked : {F : Type 0} (may : May F) → PagesAreMarked may
pages_are_marked may s after [] run = tt
pages_are_marked may s after (e ∷ es) run =
    (both_mark s e (one_event may s run.0 e run.1), pages_are_marked may run.0 after es run.2)

pub returns_tell : {F : Type 0} (may : May F) → ReturnsReport may
returns_tell may s after c x notice last used seen h = (h.w, h.there, returns_mark s after c x notice last used seen h)

-- over a memory
pub event_marks : {F : Type 0} (may : May F) (s mid : LiveState F) (e : LiveEvent) → Happens may s e mid → MarksItsPages s e
event_marks may s mid e h = (both_mark s e (one_event may s mid e h)).0
