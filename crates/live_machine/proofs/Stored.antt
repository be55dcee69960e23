-- Where the stores of a run go.
use Rattle.std.proofs.Common.{arith, ◌≡◌, ℕ, List, [], ◌∷◌, ◌++◌, length, map, take, drop, zip, flat_map, Option, refl}
use Rattle.std.proofs.Common.{subst, sym, ap, take-append-drop}
use Rattle.std.specs.Int.{w16, to_le_bytes}
use Rattle.std.specs.List.{AllByRecursion, Contains}
use Rattle.std.proofs.lemmas.List.Concat.{flat_map-append}
use Rattle.std.proofs.lemmas.List.Elements.{Contains-append_left, Contains-append_right}
use Rattle.vm_memory.specs.Memory.{addresses}
use Rattle.fs_queue.specs.Queue.{Queue, element_at, index_at}
use Rattle.fs_queue.specs.Returning.{Store, writes_of, stores_after_reply}
use Rattle.fs_queue.proofs.ReturnLemmas.{returns_by_stores}
use Rattle.server_meanings.specs.Serving.{May}
use Rattle.plain_machine.specs.StepBy.{StoresBytes, reply_stores, return_acts, stores_among}
use Rattle.plain_machine.proofs.StepByLemmas.{reply_writes}
use Rattle.live_machine.specs.Several.{LiveQueue, returning, wish_at}
use Rattle.live_machine.specs.Live.{InFlightChain, LiveState, LiveEvent, PushesChain, StoresNotification, FillsBuffer}
use Rattle.live_machine.specs.Live.{FillsBufferSo, Happens, IsStoredIn, PushesChainSo, StoresNotificationSo, event_acts, room_of}
use Rattle.live_machine.specs.Runs.{StoresStayThere, StoresThere, queue_addresses, sleep_addresses}
use Rattle.live_machine.proofs.Wishes.{wish_stored}

abbrev AllThere : List ℕ → List (ℕ × ℕ) → Type 0
AllThere target ws = AllByRecursion (λ (w : ℕ × ℕ). Contains target w.0) ws

zipped_there : (as' xs target : List ℕ) → ((a : ℕ) → Contains as' a → Contains target a) → AllThere target (zip as' xs)
zipped_there (a ∷ as') (x ∷ xs) target there = (
  there a (Contains-append_left (a ∷ []) as' a (0, omega arith, refl)),
  zipped_there as' xs target (λ b in_rest. there b (Contains-append_right (a ∷ []) as' b in_rest)),
)
zipped_there _ _ target there = tt

both_there : (target : List ℕ) (ws vs : List (ℕ × ℕ)) → AllThere target ws → AllThere target vs → AllThere target (ws ++ vs)
both_there target [] vs a b = b
both_there target (w ∷ ws) vs a b = (a.0, both_there target ws vs a.1 b)

pub among_return : (stores : List Store) (flags : List ℕ) → stores_among (return_acts stores flags) ≡ stores
among_return [] flags = refl
among_return (store ∷ stores) flags = ap (λ (l : List Store). store ∷ l) (among_return stores flags)

-- a return's, in the room, the element and the index
module _ (q : Queue) (room : List ℕ) where
  abbrev element : List ℕ
  element = addresses (element_at q) 8

  abbrev index : List ℕ
  index = addresses (index_at q) 2

  abbrev target : List ℕ
  target = room ++ (element ++ index)

  used_there : (head : ℕ) (reply : List ℕ) → AllThere target (flat_map writes_of (stores_after_reply q head (length reply)))
  used_there head reply =
      subst (AllThere target) (returns_by_stores q head [] reply)
      (both_there target _ _
      (zipped_there element _ target (λ a is. Contains-append_right room (element ++ index) a (Contains-append_left element index a is)))
      (zipped_there index _ target (λ a is. Contains-append_right room (element ++ index) a (Contains-append_right element index a is))))

  reply_there : (reply : List ℕ) (n : ℕ) → AllThere target (flat_map writes_of (reply_stores room reply n))
  reply_there reply n =
      let in_room : (a : ℕ) → Contains room a → Contains target a = λ a is. Contains-append_left room (element ++ index) a is in
      subst (AllThere target) (sym (reply_writes room reply n))
      (both_there target _ _
      (zipped_there (drop n room) (drop n reply) target (λ a is.
      in_room a (subst (λ (l : List ℕ). Contains l a) (take-append-drop n room) (Contains-append_right (take n room) (drop n room) a is))))
      (zipped_there (take n room) (take n reply) target (λ a is.
      in_room a (subst (λ (l : List ℕ). Contains l a) (take-append-drop n room) (Contains-append_left (take n room) (drop n room) a is)))))

  return_there : (head : ℕ) (reply : List ℕ) (n : ℕ) (used : List Store) (seen : List ℕ) → used ≡ stores_after_reply q head (length reply)
      → AllThere target (flat_map writes_of (stores_among (return_acts (reply_stores room reply n ++ used) seen)))
  return_there head reply n used seen is =
      subst (λ (l : List Store). AllThere target (flat_map writes_of l)) (sym (among_return (reply_stores room reply n ++ used) seen))
      (subst (AllThere target) (sym (flat_map-append writes_of (reply_stores room reply n) used))
      (both_there target _ _ (reply_there reply n)
      (subst (λ (l : List Store). AllThere target (flat_map writes_of l)) (sym is) (used_there head reply))))

-- two bytes
two_there : (a v : ℕ) → AllThere (addresses a 2) (flat_map writes_of (record { address = a; bytes = to_le_bytes w16 v } ∷ []))
two_there a v = both_there (addresses a 2) _ _ (zipped_there (addresses a 2) (to_le_bytes w16 v) (addresses a 2) (λ b is. is)) tt

-- stores in a room
pub among_stores : (stores : List Store) → stores_among (map StoresBytes stores) ≡ stores
among_stores [] = refl
among_stores (store ∷ stores) = ap (λ (l : List Store). store ∷ l) (among_stores stores)

zipped_within : (room as' xs : List ℕ) → AllByRecursion (λ a. Contains room a) as' → AllThere room (zip as' xs)
zipped_within room (a ∷ as') (x ∷ xs) all = (all.0, zipped_within room as' xs all.1)
zipped_within room _ _ all = tt

stores_within : (room : List ℕ) (stores : List Store) → AllByRecursion (IsStoredIn room) stores → AllThere room (flat_map writes_of stores)
stores_within room [] all = tt
stores_within room (store ∷ stores) all =
    both_there room _ _ (zipped_within room (addresses store.address (length store.bytes)) store.bytes all.0)
    (stores_within room stores all.1)

one_event : {F : Type 0} (may : May F) (s mid : LiveState F) (e : LiveEvent) → Happens may s e mid → StoresThere s e
one_event may s mid (PushesChain c x notice last used seen) h =
    let out : PushesChainSo s c x notice last used seen mid = h in (
      subst (λ (l : List InFlightChain). Contains l c) (sym out.out)
          (Contains-append_right out.before (c ∷ out.behind) c (0, omega arith, refl)),
      subst (λ (k : Option LiveQueue). AllThere (room_of c ++ queue_addresses k)
          (flat_map writes_of (stores_among (event_acts (PushesChain c x notice last used seen))))) (sym out.there)
          (return_there (returning out.w) (room_of c) c.head x.reply last used seen out.used_is),
    )
one_event may s mid (StoresNotification i store) h =
    let so : StoresNotificationSo s i store mid = h in
    let wish = wish_stored so.w so.wanted store so.stores in (
      tt,
      subst (λ (k : Option LiveQueue). AllThere (sleep_addresses k) (flat_map writes_of (store ∷ []))) (sym so.there)
          (subst (λ (k : Store). AllThere (addresses (wish_at so.w) 2) (flat_map writes_of (k ∷ []))) (sym wish.1)
          (two_there (wish_at so.w) wish.0)),
    )
one_event may s mid (FillsBuffer c stores) h =
    let so : FillsBufferSo s c stores mid = h in (
      subst (λ (l : List InFlightChain). Contains l c) (sym so.out)
          (Contains-append_right so.before (c ∷ so.behind) c (0, omega arith, refl)),
      subst (λ (l : List Store). AllThere (room_of c) (flat_map writes_of l)) (sym (among_stores stores))
          (stores_within (room_of c) stores so.within),
    )
one_event may s mid e h = (tt, tt)

pub stores_stay_there : {F : Type 0} (may : May F) → StoresStayThere may
stores_stay_there may s after [] run = tt
stores_stay_there may s after (e ∷ es) run = (one_event may s run.0 e run.1, stores_stay_there may run.0 after es run.2)
