-- the used length of an exchange
use Rattle.std.proofs.Common.{◌≡◌, ℕ, ◌≤◌, Bool, List, [], ◌∷◌, ◌++◌, length, suc, Option, Some, None, refl, ap, sym, ◌∙◌, subst, arith}
use Rattle.std.proofs.Common.{append_assoc}
use Rattle.std.specs.Prelude.{slice_get, zip}
use Rattle.std.proofs.lemmas.List.{nil_from_length}
use Rattle.vm_memory.specs.Memory.{Memory, stored_all}
use Rattle.fs_queue.specs.Queue.{Queue}
use Rattle.fs_queue.specs.Taking.{RequestAndRoom, IsRequest, CannotFetch, Offer, Offers, offer, room_of}
use Rattle.fs_queue.specs.Returning.{returned, writes}
use Rattle.server_meanings.specs.Serving.{May, setting}
use Rattle.plain_machine.specs.Step.{State, Exchange, Exchanged, Calls, Exchanges, StepOf, Step, answers_alone}
use Rattle.plain_machine.specs.UsedLength.{IsOffered, ReportsLength, LengthsAreOfReplies, reply_writes, ring_writes}
use Rattle.plain_machine.proofs.HeaderLemmas.{IsHeaded, whole_headed}

-- ---- what is told

zip_count : (xs ys : List ℕ) → length ys ≤ length xs → length (zip xs ys) ≡ length ys
zip_count [] [] h = refl
zip_count [] (y ∷ ys) h = absurd (omega (arith, h))
zip_count (x ∷ xs) [] h = refl
zip_count (x ∷ xs) (y ∷ ys) h = ap suc (zip_count xs ys (omega (arith, h)))

zip_nothing : (xs ys : List ℕ) → ys ≡ [] → zip xs ys ≡ []
zip_nothing (x ∷ xs) (y ∷ ys) e = absurd (cc)
zip_nothing _ _ e = refl

-- what is written, in two parts
in_two :
    (q : Queue) (head : ℕ) (room reply : List ℕ) → writes q head room reply ≡ reply_writes room reply ++ ring_writes q head (length reply)
in_two q head room reply = append_assoc (zip room reply) _ _

reports : (m : Memory) (q : Queue) (head : ℕ) (room reply : List ℕ) (after : Memory) → after ≡ returned m q head room reply →
    length reply ≤ length room → IsHeaded reply →
    ReportsLength m q head room reply (length reply) after
reports m q head room reply after is fits headed =
    let written : after ≡ stored_all m (reply_writes room reply ++ ring_writes q head (length reply)) =
    is ∙ ap (stored_all m) (in_two q head room reply) in
    record {
      written = written;
      count = zip_count room reply fits;
      header = headed;
      nothing = λ none.
          written
          ∙ ap (λ (ws : List (ℕ × ℕ)). stored_all m (ws ++ ring_writes q head (length reply)))
          (zip_nothing room reply (nil_from_length reply none))
          ∙ ap (λ (n : ℕ). stored_all m (ring_writes q head n)) none;
    }

-- ---- the chain that a step exchanges

-- it is offered
abbrev pub OffersAndExchanges : {F : Type 0} → May F → State F → ℕ → Calls → Exchange → Bool → State F → Type 0
OffersAndExchanges may s i calls x notice after =
    (o : IsOffered s i x) × Exchanges may s i o.queue (Offers x.head o.fetched) calls x notice after

by_head : {F : Type 0} (may : May F) (s : State F) (i : ℕ) (q : Queue) (head : ℕ) (fetched : RequestAndRoom) (calls : Calls) (x : Exchange)
    (notice : Bool)
    (after : State F) → slice_get s.queues i ≡ Some q →
    offer s.memory s.limit q ≡ Offers head fetched → x.head ≡ head → Exchanges may s i q (Offers head fetched) calls x notice after →
    OffersAndExchanges may s i calls x notice after
by_head may s i q head fetched calls x notice after there is same r = (
  record { queue = q; fetched = fetched; there = there; offered = is ∙ ap (λ (h : ℕ). Offers h fetched) (sym same) },
  subst (λ (h : ℕ). Exchanges may s i q (Offers h fetched) calls x notice after) (sym same) r,
)

by_offer : {F : Type 0} (may : May F) (s : State F) (i : ℕ) (q : Queue) (o : Offer) (calls : Calls) (x : Exchange) (notice : Bool)
    (after : State F) → slice_get s.queues i ≡ Some q →
    offer s.memory s.limit q ≡ o → Exchanges may s i q o calls x notice after → OffersAndExchanges may s i calls x notice after
by_offer may s i q (Offers head (CannotFetch why)) calls x notice after there is r =
    by_head may s i q head (CannotFetch why) calls x notice after there is (ap (λ (e : Exchange). e.head) r.returns.exchange) r
by_offer may s i q (Offers head (IsRequest request room)) calls x notice after there is r =
    by_head may s i q head (IsRequest request room) calls x notice after there is (ap (λ (e : Exchange). e.head) r.returns.exchange) r
by_offer may s i q _ calls x notice after there is r = absurd r

by_queue : {F : Type 0} (may : May F) (s : State F) (i : ℕ) (o : Option Queue) (calls : Calls) (x : Exchange) (notice : Bool)
    (after : State F) → slice_get s.queues i ≡ o →
    StepOf may s i o calls (Exchanged x notice) after → OffersAndExchanges may s i calls x notice after
by_queue may s i None calls x notice after there t = absurd (cc)
by_queue may s i (Some q) calls x notice after there t = by_offer may s i q (offer s.memory s.limit q) calls x notice after there refl t

-- a step that exchanges a chain has it of its queue
pub step_offers : {F : Type 0} (may : May F) (s after : State F) (i : ℕ) (calls : Calls) (x : Exchange) (notice : Bool) →
    Step may s i calls (Exchanged x notice) after →
    OffersAndExchanges may s i calls x notice after
step_offers may s after i calls x notice step = by_queue may s i (slice_get s.queues i) calls x notice after refl step

-- what is left of the memory
pub exchange_returns : {F : Type 0} (may : May F) (s : State F) (i : ℕ) (q : Queue) (head : ℕ) (fetched : RequestAndRoom) (calls : Calls)
    (x : Exchange) (notice : Bool) (after : State F) →
    Exchanges may s i q (Offers head fetched) calls x notice after → after.memory ≡ returned s.memory q head (room_of fetched) x.reply
exchange_returns {F} may s i q head (CannotFetch why) calls x notice after r =
    ap (λ (t : State F). t.memory) r.returns.state
    ∙ ap (returned s.memory q head []) (sym (ap (λ (e : Exchange). e.reply) r.returns.exchange))
exchange_returns {F} may s i q head (IsRequest request room) calls x notice after r =
    ap (λ (t : State F). t.memory) r.returns.state
    ∙ ap (returned s.memory q head room) (sym (ap (λ (e : Exchange). e.reply) r.returns.exchange))

-- so a step that exchanges changes a memory by stores alone
pub step_stores : {F : Type 0} (may : May F) (s after : State F) (i : ℕ) (calls : Calls) (x : Exchange) (notice : Bool) →
    Step may s i calls (Exchanged x notice) after → (ws : List (ℕ × ℕ)) × (after.memory ≡ stored_all s.memory ws)
step_stores may s after i calls x notice step =
    let o = step_offers may s after i calls x notice step in
    (writes o.0.queue x.head (room_of o.0.fetched) x.reply, exchange_returns may s i o.0.queue x.head o.0.fetched calls x notice after o.1)

-- a reply begins with its header and has room
exchange_headed : {F : Type 0} (may : May F) (s : State F) (i : ℕ) (q : Queue) (head : ℕ) (fetched : RequestAndRoom) (calls : Calls)
    (x : Exchange) (notice : Bool) (after : State F) →
    Exchanges may s i q (Offers head fetched) calls x notice after → IsHeaded x.reply × (length x.reply ≤ length (room_of fetched))
exchange_headed may s i q head (CannotFetch why) calls x notice after r =
    subst (λ (bytes : List ℕ). IsHeaded bytes × (length bytes ≤ 0)) (sym (ap (λ (e : Exchange). e.reply) r.returns.exchange))
    ((λ some. absurd (omega (arith, some))), omega arith)
exchange_headed may s i q head (IsRequest request room) calls x notice after r =
    subst (λ (bytes : List ℕ). IsHeaded bytes × (length bytes ≤ length room))
    (sym (ap (λ (e : Exchange). e.reply) r.returns.exchange ∙ ap (λ g. g.reply) r.serves.gives))
    (whole_headed (setting s.page_size s.options (length room)) s.options (length room) request (answers_alone calls))

pub lengths_are_of_replies : {F : Type 0} (may : May F) → LengthsAreOfReplies may
lengths_are_of_replies may s after i calls x notice step =
    let found = step_offers may s after i calls x notice step in
    let o = found.0 in
    let headed = exchange_headed may s i o.queue x.head o.fetched calls x notice after found.1 in (
      o,
      reports s.memory o.queue x.head (room_of o.fetched) x.reply after.memory
          (exchange_returns may s i o.queue x.head o.fetched calls x notice after found.1) headed.1 headed.0,
    )
