-- steps told by loads and stores
use Rattle.std.proofs.Common.{◌≡◌, ℕ, zero, suc, List, [], ◌∷◌, ◌++◌, length, map, take, drop, refl, sym, ap, ◌∙◌, subst, arith, append-nil}
use Rattle.std.proofs.Common.{take-append-drop, inl, inr, Bool, Option, Some, None}
use Rattle.std.specs.Prelude.{slice_get, flat_map}
use Rattle.std.specs.List.{zip, AllByRecursion, Contains}
use Rattle.std.proofs.lemmas.List.Concat.{flat_map-append}
use Rattle.std.proofs.lemmas.Option.{none-some, same_Some}
use Rattle.std.proofs.lemmas.List.Elements.{Contains-append_left, Contains-append_right}
use Rattle.vm_iotlb.specs.declared.permissions.Permissions.TheVariants.{Write}
use Rattle.vm_memory_core.specs.Host.{Place, changed_at}
use Rattle.vm_memory_core.specs.Window.{put_all}
use Rattle.vm_memory.specs.Memory.{Memory, addresses, bytes, located, location, stored_all}
use Rattle.vm_memory.proofs.Places.{stored_all-append}
use Rattle.fs_queue.specs.declared.fault.QueueError.{QueueError}
use Rattle.fs_queue.specs.declared.fault.QueueError.TheVariants as stop
use Rattle.fs_queue.specs.Queue.{Queue, element_at, index_at}
use Rattle.fs_queue.specs.Taking.{IsRequest, CannotFetch, Offer, Offers, offer, after_refusal}
use Rattle.fs_queue.specs.OfferLoads.{HasLoads}
use Rattle.fs_queue.proofs.OfferByLemmas.{offer_is_still, offer_finds}
use Rattle.fs_queue.proofs.ReadLemmas.{length-bytes}
use Rattle.fs_queue.proofs.ReturnLemmas.{over, all_tables, same_location, stored_located, returns_by_stores}
use Rattle.fs_queue.specs.Returning.{Store, writes_of, stores_after_reply, returned, wants_notice, notifies, advanced}
use Rattle.plain_machine.proofs.ApartLemmas.{put_all_comm}
use Rattle.server_meanings.specs.Serving.{May}
use Rattle.plain_machine.specs.declared.error.DeviceError.TheVariants as device
use Rattle.plain_machine.specs.Step.{State, Exchange, StepEnd, Idle, Refused, Exchanged, Calls, Unchanged, Acts, Exchanges, Returns, StepOf}
use Rattle.plain_machine.specs.Step.{with_queue, faulty, served_exchange}
use Rattle.plain_machine.specs.StepBy.{StepLoads, AreStepLoadsOf, byte_store, reply_stores, return_stores, after_stores, Act, Effects}
use Rattle.plain_machine.specs.StepBy.{stores_among, return_acts, DoesNothing, FindFlags, ReturnsBy, ExchangesBy, ActsBy, StepOfBy}
use Rattle.plain_machine.specs.StepBy.{IsFrontApart, MayStoreLast, IsOfMemory, HasEffects, StepByIsStep, StepIsStepBy, StoresOnlyThere}
use Rattle.plain_machine.specs.StepBy.{return_addresses}

-- ---- what stores write

-- single bytes are written as they are stored
written_bytes : (ws : List (ℕ × ℕ)) → flat_map writes_of (map byte_store ws) ≡ ws
unfolding addresses
written_bytes [] = refl
written_bytes (w ∷ ws) = ap (λ (l : List (ℕ × ℕ)). w ∷ l) (written_bytes ws)

zip_none : (as' : List ℕ) → zip {X = ℕ} as' [] ≡ []
zip_none [] = refl
zip_none (a ∷ as') = refl

-- two lists joined are those of their fronts and those of what is behind
zip_cut : (n : ℕ) (as' : List ℕ) (xs : List ℕ) → zip as' xs ≡ zip (take n as') (take n xs) ++ zip (drop n as') (drop n xs)
zip_cut (suc n) (a ∷ as') [] = sym (zip_none (drop n as'))
zip_cut (suc n) (a ∷ as') (x ∷ xs) = ap (λ (l : List (ℕ × ℕ)). (a, x) ∷ l) (zip_cut n as' xs)
zip_cut _ _ xs = refl

-- a reply's stores write it, its front last
pub reply_writes : (room reply : List ℕ) (n : ℕ) →
    flat_map writes_of (reply_stores room reply n) ≡ zip (drop n room) (drop n reply) ++ zip (take n room) (take n reply)
reply_writes room reply n =
    flat_map-append writes_of (map byte_store (zip (drop n room) (drop n reply))) (map byte_store (zip (take n room) (take n reply)))
    ∙ ap (λ (l : List (ℕ × ℕ)). l ++ flat_map writes_of (map byte_store (zip (take n room) (take n reply))))
    (written_bytes (zip (drop n room) (drop n reply)))
    ∙ ap (λ (l : List (ℕ × ℕ)). zip (drop n room) (drop n reply) ++ l) (written_bytes (zip (take n room) (take n reply)))

-- stores at some addresses, and then at others
two_stored : (m : Memory) (as' bs : List ℕ) (ps qs : List Place) (xs ys : List ℕ) → located (location m Write) as' ≡ Some ps →
    located (location m Write) bs ≡ Some qs →
    stored_all (stored_all m (zip as' xs)) (zip bs ys) ≡ over m (put_all (put_all m.host (zip ps xs)) (zip qs ys))
two_stored m as' bs ps qs xs ys at bt =
    let h = put_all m.host (zip ps xs) in
    ap (λ (k : Memory). stored_all k (zip bs ys)) (stored_located as' ps xs m at)
    ∙ stored_located bs qs ys (over m h) (ap (λ f. located (f Write) bs) (same_location m h (all_tables (zip ps xs) m.host)) ∙ bt)

-- a room's first bytes may be stored last, where they lie apart from the rest
front_stored_last : (m : Memory) (room reply : List ℕ) (n : ℕ) → IsFrontApart m room n →
    stored_all m (zip (drop n room) (drop n reply) ++ zip (take n room) (take n reply)) ≡ stored_all m (zip room reply)
front_stored_last m room reply n apart =
    stored_all-append (zip (drop n room) (drop n reply)) (zip (take n room) (take n reply)) m
    ∙ two_stored m (drop n room) (take n room) apart.rest apart.first (drop n reply) (take n reply) apart.rest_places apart.first_places
    ∙ ap (over m) (sym (put_all_comm apart.first apart.rest (take n reply) (drop n reply) m.host apart.apart))
    ∙ sym (two_stored m (take n room) (drop n room) apart.first apart.rest (take n reply) (drop n reply) apart.first_places
    apart.rest_places)
    ∙ sym (stored_all-append (zip (take n room) (take n reply)) (zip (drop n room) (drop n reply)) m)
    ∙ ap (stored_all m) (sym (zip_cut n room reply))

-- so they may if none is
reply_stored : (m : Memory) (room reply : List ℕ) (n : ℕ) → MayStoreLast m room n →
    stored_all m (zip (drop n room) (drop n reply) ++ zip (take n room) (take n reply)) ≡ stored_all m (zip room reply)
reply_stored m room reply n (inl none) = rw none (ap (stored_all m) (append-nil (zip room reply)))
reply_stored m room reply n (inr apart) = front_stored_last m room reply n apart

-- the stores of a return make of a memory what its writes do
pub stores_return : (m : Memory) (q : Queue) (head : ℕ) (room reply : List ℕ) (n : ℕ) → MayStoreLast m room n →
    after_stores m (return_stores q head room reply n) ≡ returned m q head room reply
stores_return m q head room reply n last =
    let back = flat_map writes_of (stores_after_reply q head (length reply)) in
    ap (stored_all m) (flat_map-append writes_of (reply_stores room reply n) (stores_after_reply q head (length reply))
    ∙ ap (λ (l : List (ℕ × ℕ)). l ++ back) (reply_writes room reply n))
    ∙ stored_all-append (zip (drop n room) (drop n reply) ++ zip (take n room) (take n reply)) back m
    ∙ ap (λ (k : Memory). stored_all k back) (reply_stored m room reply n last)
    ∙ sym (stored_all-append (zip room reply) back m)
    ∙ ap (stored_all m) (sym (returns_by_stores q head room reply))

-- the stores of a return are those among its acts
among_return : (stores : List Store) (flags : List ℕ) → stores_among (return_acts stores flags) ≡ stores
among_return [] flags = refl
among_return (store ∷ stores) flags = ap (λ (l : List Store). store ∷ l) (among_return stores flags)

-- one store, and then others
stored_in_turn :
    (m : Memory) (store : Store) (stores : List Store) → after_stores m (store ∷ stores) ≡ after_stores (after_stores m (store ∷ [])) stores
stored_in_turn m store stores =
    stored_all-append (writes_of store) (flat_map writes_of stores) m
    ∙ ap (λ (l : List (ℕ × ℕ)). stored_all (stored_all m l) (flat_map writes_of stores)) (sym (append-nil (writes_of store)))

-- the flags that are loaded last are those that memory has after all stores
flags_found : (m : Memory) (q : Queue) (stores : List Store) (flags : List ℕ) → FindFlags m q (return_acts stores flags) →
    flags ≡ bytes (after_stores m stores) q.avail 2
unfolding stored_all
flags_found m q [] flags found = found.0
flags_found m q (store ∷ stores) flags found =
    flags_found (after_stores m (store ∷ [])) q stores flags found
    ∙ ap (λ (k : Memory). bytes k q.avail 2) (sym (stored_in_turn m store stores))

flags_find : (m : Memory) (q : Queue) (stores : List Store) (flags : List ℕ) → flags ≡ bytes (after_stores m stores) q.avail 2 →
    FindFlags m q (return_acts stores flags)
unfolding stored_all
flags_find m q [] flags is = (is, tt)
flags_find m q (store ∷ stores) flags is =
    flags_find (after_stores m (store ∷ [])) q stores flags (is ∙ ap (λ (k : Memory). bytes k q.avail 2) (stored_in_turn m store stores))

-- whether the driver is told, by the flags as a memory has them
notice_by_flags : (m : Memory) (q : Queue) (flags : List ℕ) → flags ≡ bytes m q.avail 2 → notifies flags ≡ wants_notice m q
notice_by_flags m q flags is = ap notifies is

-- ---- a step by loads that one memory has is a step

-- a state over another memory
abbrev at : {F : Type 0} → State F → Memory → State F
at s m = record s { memory = m }

-- a faulty chain has no room
empty_last : (m : Memory) (n : ℕ) → MayStoreLast m [] n
unfolding located
empty_last m zero = inl refl
empty_last m (suc n) = inr (record { first = []; rest = []; first_places = refl; rest_places = refl; apart = tt })

module _ {F : Type 0} (may : May F) (s : State F) (i : ℕ) (e : Effects) (after : State F) where
  abbrev stored : Memory
  stored = after_stores s.memory (stores_among e.acts)

  nothing_stored : DoesNothing e → stored ≡ s.memory
  unfolding stored_all
  nothing_stored none = ap (λ (l : List Act). after_stores s.memory (stores_among l)) none

  still : (calls : Calls) → Unchanged s calls after → DoesNothing e → Unchanged s calls (at after stored)
  still calls same none =
      record { same = ap (at after) (nothing_stored none) ∙ ap (λ (t : State F). at t s.memory) same.same; no_call = same.no_call }

  refused_still : (q p : Queue) → after ≡ with_queue s i p → DoesNothing e → at after stored ≡ with_queue s i p
  refused_still q p is none = ap (at after) (nothing_stored none) ∙ ap (λ (t : State F). at t s.memory) is

  module _ (q : Queue) (flags : FindFlags s.memory q e.acts) where
    gone_back : (room : List ℕ) (expected : Exchange) (options : ℕ) (x : Exchange) (notice : Bool) → MayStoreLast s.memory room e.last →
        ReturnsBy s i q room expected options x notice e after → Returns s i q room expected options x notice (at after stored)
    gone_back room expected options x notice last back =
        let stores : List Store = return_stores q expected.head room expected.reply e.last in
        let among : stores_among e.acts ≡ stores = ap stores_among back.acts ∙ among_return stores back.flags in
        let memory : stored ≡ returned s.memory q expected.head room expected.reply =
        ap (after_stores s.memory) among ∙ stores_return s.memory q expected.head room expected.reply e.last last in
        let found : back.flags ≡ bytes stored q.avail 2 =
        flags_found s.memory q stores back.flags (subst (FindFlags s.memory q) back.acts flags)
        ∙ ap (λ (l : List Store). bytes (after_stores s.memory l) q.avail 2) (sym among) in
        record {
          exchange = back.exchange;
          state = ap (λ (t : State F). at t stored) back.state
              ∙ ap (at (record s { queues = changed_at s.queues i (λ _. advanced q); options = options; files = after.files })) memory;
          reported = back.reported ∙ notice_by_flags stored q back.flags found;
        }

    exchanges_still : (o : Offer) (calls : Calls) (x : Exchange) (notice : Bool) →
        ((head : ℕ) (request room : List ℕ) → o ≡ Offers head (IsRequest request room) → MayStoreLast s.memory room e.last) →
        ExchangesBy may s i q o calls x notice e after → Exchanges may s i q o calls x notice (at after stored)
    exchanges_still (Offers head (CannotFetch why)) calls x notice last made =
        record {
          no_call = made.no_call;
          files = made.files;
          returns = gone_back [] (faulty head why) s.options x notice (empty_last s.memory e.last) made.returns;
        }
    exchanges_still (Offers head (IsRequest request room)) calls x notice last made =
        record {
          given = made.given;
          serves = made.serves;
          returns = gone_back room (served_exchange head request made.given) made.given.options x notice (last head request room refl)
              made.returns;
        }
    exchanges_still _ calls x notice last made = absurd made

    acts_still : (o : Offer) (calls : Calls) (outcome : StepEnd) →
        ((head : ℕ) (request room : List ℕ) → o ≡ Offers head (IsRequest request room) → MayStoreLast s.memory room e.last) →
        ActsBy may s i q o calls outcome e after → Acts may s i q o calls outcome (at after stored)
    acts_still o calls Idle last (offered, same, none) = (offered, still calls same none)
    acts_still o calls (Refused (device.Queue stop.OutOfMemory)) last (lacks, same, none) = (lacks, still calls same none)
    acts_still o calls (Refused (device.Queue e)) last made = (made.0, made.1, refused_still q _ made.2 made.3)
    acts_still o calls (Refused device.NoSuchQueue) last made = absurd made
    acts_still o calls (Exchanged x notice) last made = exchanges_still o calls x notice last made

by_queue : {F : Type 0} (may : May F) (s : State F) (i : ℕ) (l : StepLoads) (calls : Calls) (outcome : StepEnd) (e : Effects)
    (after : State F) → IsOfMemory s i l e →
    (o : Option Queue) → slice_get s.queues i ≡ o → StepOfBy may s i o l calls outcome e after →
    StepOf may s i o calls outcome (at after (after_stores s.memory (stores_among e.acts)))
by_queue may s i l calls outcome e after one None there (is, same, none, loaded) = (is, still may s i e after calls same none)
by_queue may s i l calls outcome e after one (Some q) there (offered, is, acts) =
    let meant : offered ≡ offer s.memory s.limit q =
    offer_is_still s.memory s.limit q l.index l.entry l.entries l.request offered (one.loads q there) is in
    subst (λ (o : Offer). Acts may s i q o calls outcome (at after (after_stores s.memory (stores_among e.acts)))) meant
    (acts_still may s i e after q (one.flags q there) offered calls outcome
    (λ head request room same. one.apart q head request room there (is ∙ ap Some same)) acts)

pub step_by_is_step : {F : Type 0} (may : May F) → StepByIsStep may
step_by_is_step may s i l calls outcome e after one made = by_queue may s i l calls outcome e after one (slice_get s.queues i) refl made

-- ---- and each step is one by such loads

abbrev effects_of : List Act → Effects
effects_of acts = record { acts = acts; last = 0 }

abbrev flags_after : Memory → Queue → List Store → List ℕ
flags_after m q stores = bytes (after_stores m stores) q.avail 2

module _ {F : Type 0} (may : May F) (s : State F) (i : ℕ) (q : Queue) (there : slice_get s.queues i ≡ Some q) where
  same_queue : (p : Queue) → slice_get s.queues i ≡ Some p → q ≡ p
  same_queue p at = same_Some q p (sym there ∙ at)

  with_effects :
      (h : HasLoads s.memory s.limit q) (did : List Act) (calls : Calls) (outcome : StepEnd) (after : State F) → FindFlags s.memory q did →
      after.memory ≡ after_stores s.memory (stores_among did) →
      ActsBy may s i q (offer s.memory s.limit q) calls outcome (effects_of did) (at after s.memory) →
      HasEffects may s i calls outcome after
  with_effects h did calls outcome after found memory acts =
      let l : StepLoads = record { index = h.index; entry = h.entry; entries = h.entries; request = h.request } in
      record {
        loads = l;
        effects = effects_of did;
        are = record {
          loads = λ p at. subst (λ (r : Queue). AreStepLoadsOf s.memory r l) (same_queue p at) h.are;
          flags = λ p at. subst (λ (r : Queue). FindFlags s.memory r did) (same_queue p at) found;
          apart = λ p head request room at is. inl refl;
        };
        memory = memory;
        step = subst (λ (o : Option Queue). StepOfBy may s i o l calls outcome (effects_of did) (at after s.memory)) (sym there)
            (offer s.memory s.limit q, h.offered, acts);
      }

  abbrev back_stores : (room : List ℕ) → Exchange → List Store
  back_stores room expected = return_stores q expected.head room expected.reply 0

  memory_back : (room : List ℕ) (expected : Exchange) (options : ℕ) (x : Exchange) (notice : Bool) (after : State F) →
      Returns s i q room expected options x notice after →
      after.memory ≡ after_stores s.memory (back_stores room expected)
  memory_back room expected options x notice after back =
      ap (λ (t : State F). t.memory) back.state ∙ sym (stores_return s.memory q expected.head room expected.reply 0 (inl refl))

  abbrev back_acts : (room : List ℕ) → Exchange → List Act
  back_acts room expected = return_acts (back_stores room expected) (flags_after s.memory q (back_stores room expected))

  flags_back : (room : List ℕ) (expected : Exchange) → FindFlags s.memory q (back_acts room expected)
  flags_back room expected = flags_find s.memory q (back_stores room expected) (flags_after s.memory q (back_stores room expected)) refl

  acts_back : (room : List ℕ) (expected : Exchange) (after : State F) → after.memory ≡ after_stores s.memory (back_stores room expected) →
      after.memory ≡ after_stores s.memory (stores_among (back_acts room expected))
  acts_back room expected after is =
      is ∙ ap (after_stores s.memory) (sym (among_return (back_stores room expected) (flags_after s.memory q (back_stores room expected))))

  returns_by : (room : List ℕ) (expected : Exchange) (options : ℕ) (x : Exchange) (notice : Bool) (after : State F) →
      Returns s i q room expected options x notice after →
      ReturnsBy s i q room expected options x notice (effects_of (back_acts room expected)) (at after s.memory)
  returns_by room expected options x notice after back = record {
    exchange = back.exchange;
    flags = flags_after s.memory q (back_stores room expected);
    flags_len = length-bytes (after_stores s.memory (back_stores room expected)) q.avail 2;
    acts = refl;
    state = ap (λ (t : State F). at t s.memory) back.state;
    reported = back.reported ∙ ap (λ (m : Memory). wants_notice m q) (memory_back room expected options x notice after back);
  }

  exchange_by : (h : HasLoads s.memory s.limit q) (o : Offer) → o ≡ offer s.memory s.limit q →
      (calls : Calls) (x : Exchange) (notice : Bool) (after : State F) →
      Exchanges may s i q o calls x notice after → HasEffects may s i calls (Exchanged x notice) after
  exchange_by h (Offers head (CannotFetch why)) is calls x notice after made =
      let expected : Exchange = faulty head why in
      with_effects h (back_acts [] expected) calls (Exchanged x notice) after (flags_back [] expected)
      (acts_back [] expected after (memory_back [] expected s.options x notice after made.returns))
      (subst (λ (o : Offer). ExchangesBy may s i q o calls x notice (effects_of (back_acts [] expected)) (at after s.memory)) is
      (record { no_call = made.no_call; files = made.files; returns = returns_by [] expected s.options x notice after made.returns }))
  exchange_by h (Offers head (IsRequest request room)) is calls x notice after made =
      let expected : Exchange = served_exchange head request made.given in
      with_effects h (back_acts room expected) calls (Exchanged x notice) after (flags_back room expected)
      (acts_back room expected after (memory_back room expected made.given.options x notice after made.returns))
      (subst (λ (o : Offer). ExchangesBy may s i q o calls x notice (effects_of (back_acts room expected)) (at after s.memory)) is
      (record {
        given = made.given;
        serves = made.serves;
        returns = returns_by room expected made.given.options x notice after made.returns;
      }))
  exchange_by h _ is calls x notice after made = absurd made

  unchanged_by : (calls : Calls) (after : State F) → Unchanged s calls after → Unchanged s calls (at after s.memory)
  unchanged_by calls after same = record { same = ap (λ (t : State F). at t s.memory) same.same; no_call = same.no_call }

  kept_memory : (after t : State F) → after ≡ t → t.memory ≡ s.memory → after.memory ≡ after_stores s.memory []
  unfolding stored_all
  kept_memory after t is kept = ap (λ (u : State F). u.memory) is ∙ kept

  refused_by : (h : HasLoads s.memory s.limit q) (error : QueueError) (calls : Calls) (after : State F) →
      after ≡ with_queue s i (after_refusal q error) →
      ActsBy may s i q (offer s.memory s.limit q) calls (Refused (device.Queue error)) (effects_of []) (at after s.memory) →
      HasEffects may s i calls (Refused (device.Queue error)) after
  refused_by h error calls after state acts = with_effects h [] calls (Refused (device.Queue error)) after tt
      (kept_memory after (with_queue s i (after_refusal q error)) state refl) acts

  over_same : (after t : State F) → after ≡ t → at after s.memory ≡ at t s.memory
  over_same after t is = ap (λ (u : State F). at u s.memory) is

  acts_by : (h : HasLoads s.memory s.limit q) (calls : Calls) (outcome : StepEnd) (after : State F) →
      Acts may s i q (offer s.memory s.limit q) calls outcome after →
      HasEffects may s i calls outcome after
  acts_by h calls Idle after (offered, same) =
      with_effects h [] calls Idle after tt (kept_memory after s same.same refl) (offered, unchanged_by calls after same, refl)
  acts_by h calls (Refused (device.Queue stop.OutOfMemory)) after (lacks, same) =
      with_effects h [] calls (Refused (device.Queue stop.OutOfMemory)) after tt (kept_memory after s same.same refl)
      (lacks, unchanged_by calls after same, refl)
  acts_by h calls (Refused (device.Queue e)) after made =
      refused_by h e calls after made.2 (made.0, made.1, over_same after _ made.2, refl)
  acts_by h calls (Refused device.NoSuchQueue) after made = absurd made
  acts_by h calls (Exchanged x notice) after made = exchange_by h (offer s.memory s.limit q) refl calls x notice after made

missing_by :
    {F : Type 0} (may : May F) (s : State F) (i : ℕ) (calls : Calls) (outcome : StepEnd) (after : State F) → slice_get s.queues i ≡ None →
    outcome ≡ Refused device.NoSuchQueue → Unchanged s calls after → HasEffects may s i calls outcome after
unfolding stored_all
missing_by {F} may s i calls outcome after missing is same =
    let l : StepLoads = record { index = None; entry = None; entries = []; request = [] } in
    let e : Effects = record { acts = []; last = 0 } in
    record {
      loads = l;
      effects = e;
      are = record {
        loads = λ p at. absurd (none-some p (sym missing ∙ at));
        flags = λ p at. absurd (none-some p (sym missing ∙ at));
        apart = λ p head request room at is. inl refl;
      };
      memory = ap (λ (t : State F). t.memory) same.same;
      step = subst (λ (o : Option Queue). StepOfBy may s i o l calls outcome e (at after s.memory)) (sym missing)
          (is, record { same = ap (λ (t : State F). at t s.memory) same.same; no_call = same.no_call }, refl, refl);
    }

by_found : {F : Type 0} (may : May F) (s : State F) (i : ℕ) (calls : Calls) (outcome : StepEnd) (after : State F) (o : Option Queue) →
    slice_get s.queues i ≡ o →
    StepOf may s i o calls outcome after → HasEffects may s i calls outcome after
by_found may s i calls outcome after None there (is, same) = missing_by may s i calls outcome after there is same
by_found may s i calls outcome after (Some q) there made = acts_by may s i q there (offer_finds s.memory s.limit q) calls outcome after made

pub step_is_step_by : {F : Type 0} (may : May F) → StepIsStepBy may
step_is_step_by may s i calls outcome after made = by_found may s i calls outcome after (slice_get s.queues i) refl made

-- ---- where stores go

-- what is zipped with some addresses goes there
zipped_there : (as' xs target : List ℕ) → ((a : ℕ) → Contains as' a → Contains target a) →
    AllByRecursion (λ (w : ℕ × ℕ). Contains target w.0) (zip as' xs)
zipped_there (a ∷ as') (x ∷ xs) target there = (
  there a (Contains-append_left (a ∷ []) as' a (0, omega arith, refl)),
  zipped_there as' xs target
      (λ b in_rest. there b (Contains-append_right (a ∷ []) as' b in_rest)),
)
zipped_there _ _ target there = tt

both_there : (target : List ℕ) (ws vs : List (ℕ × ℕ)) → AllByRecursion (λ (w : ℕ × ℕ). Contains target w.0) ws →
    AllByRecursion (λ (w : ℕ × ℕ). Contains target w.0) vs →
    AllByRecursion (λ (w : ℕ × ℕ). Contains target w.0) (ws ++ vs)
both_there target [] vs a b = b
both_there target (w ∷ ws) vs a b = (a.0, both_there target ws vs a.1 b)

-- the element and the index
used_there : (q : Queue) (room : List ℕ) (head : ℕ) (reply : List ℕ) →
    AllByRecursion (λ (w : ℕ × ℕ). Contains (room ++ addresses (element_at q) 8 ++ addresses (index_at q) 2) w.0)
    (flat_map writes_of (stores_after_reply q head (length reply)))
used_there q room head reply =
    let target : List ℕ = room ++ addresses (element_at q) 8 ++ addresses (index_at q) 2 in
    subst (AllByRecursion (λ (w : ℕ × ℕ). Contains target w.0)) (returns_by_stores q head [] reply)
    (both_there target _ _
    (zipped_there (addresses (element_at q) 8) _ target
    (λ a is. Contains-append_left (room ++ addresses (element_at q) 8) (addresses (index_at q) 2) a
    (Contains-append_right room (addresses (element_at q) 8) a is)))
    (zipped_there (addresses (index_at q) 2) _ target
    (λ a is. Contains-append_right (room ++ addresses (element_at q) 8) (addresses (index_at q) 2) a is)))

-- the reply
reply_there : (q : Queue) (room reply : List ℕ) (n : ℕ) →
    AllByRecursion (λ (w : ℕ × ℕ). Contains (room ++ addresses (element_at q) 8 ++ addresses (index_at q) 2) w.0)
    (flat_map writes_of (reply_stores room reply n))
reply_there q room reply n =
    let target : List ℕ = room ++ addresses (element_at q) 8 ++ addresses (index_at q) 2 in
    let in_room : (a : ℕ) → Contains room a → Contains target a =
    λ a is. Contains-append_left (room ++ addresses (element_at q) 8) (addresses (index_at q) 2) a
    (Contains-append_left room (addresses (element_at q) 8) a is) in
    subst (AllByRecursion (λ (w : ℕ × ℕ). Contains target w.0)) (sym (reply_writes room reply n))
    (both_there target _ _
    (zipped_there (drop n room) (drop n reply) target (λ a is.
    in_room a (subst (λ (l : List ℕ). Contains l a) (take-append-drop n room) (Contains-append_right (take n room) (drop n room) a is))))
    (zipped_there (take n room) (take n reply) target (λ a is.
    in_room a (subst (λ (l : List ℕ). Contains l a) (take-append-drop n room) (Contains-append_left (take n room) (drop n room) a is)))))

return_there : (q : Queue) (head : ℕ) (room reply : List ℕ) (n : ℕ) →
    AllByRecursion (λ (w : ℕ × ℕ). Contains (room ++ addresses (element_at q) 8 ++ addresses (index_at q) 2) w.0)
    (flat_map writes_of (return_stores q head room reply n))
return_there q head room reply n =
    let target : List ℕ = room ++ addresses (element_at q) 8 ++ addresses (index_at q) 2 in
    subst (AllByRecursion (λ (w : ℕ × ℕ). Contains target w.0))
    (sym (flat_map-append writes_of (reply_stores room reply n) (stores_after_reply q head (length reply))))
    (both_there target _ _ (reply_there q room reply n) (used_there q room head reply))

-- nothing goes anywhere
none_there : (target : List ℕ) (acts : List Act) → acts ≡ [] →
    AllByRecursion (λ (w : ℕ × ℕ). Contains target w.0) (flat_map writes_of (stores_among acts))
none_there target acts none =
    subst (λ (l : List Act). AllByRecursion (λ (w : ℕ × ℕ). Contains target w.0) (flat_map writes_of (stores_among l))) (sym none) tt

module _ {F : Type 0} (may : May F) (s : State F) (i : ℕ) (q : Queue) (e : Effects) (after : State F) where
  abbrev There : Offer → Type 0
  There o = AllByRecursion (λ (w : ℕ × ℕ). Contains (return_addresses q o) w.0) (flat_map writes_of (stores_among e.acts))

  among : (stores : List Store) (flags : List ℕ) → e.acts ≡ return_acts stores flags → stores_among e.acts ≡ stores
  among stores flags is = ap stores_among is ∙ among_return stores flags

  exchange_there : (o : Offer) (calls : Calls) (x : Exchange) (notice : Bool) → ExchangesBy may s i q o calls x notice e after → There o
  exchange_there (Offers head (CannotFetch why)) calls x notice made =
      subst (λ (l : List Store). AllByRecursion (λ (w : ℕ × ℕ). Contains (addresses (element_at q) 8 ++ addresses (index_at q) 2) w.0)
      (flat_map writes_of l))
      (sym (among _ made.returns.flags made.returns.acts))
      (return_there q head [] [] e.last)
  exchange_there (Offers head (IsRequest request room)) calls x notice made =
      subst (λ (l : List Store). AllByRecursion (λ (w : ℕ × ℕ). Contains (return_addresses q (Offers head (IsRequest request room))) w.0)
      (flat_map writes_of l))
      (sym (among _ made.returns.flags made.returns.acts))
      (return_there q head room made.given.reply e.last)
  exchange_there _ calls x notice made = absurd made

  acts_there : (o : Offer) (calls : Calls) (outcome : StepEnd) → ActsBy may s i q o calls outcome e after → There o
  acts_there o calls Idle made = none_there (return_addresses q o) e.acts made.2
  acts_there o calls (Refused (device.Queue stop.OutOfMemory)) made = none_there (return_addresses q o) e.acts made.2
  acts_there o calls (Refused device.NoSuchQueue) made = absurd made
  acts_there o calls (Exchanged x notice) made = exchange_there o calls x notice made
  acts_there o calls (Refused (device.Queue _)) made = none_there (return_addresses q o) e.acts made.3

pub stores_only_there : {F : Type 0} (may : May F) → StoresOnlyThere may
stores_only_there may s i l calls outcome e after q o there is made =
    let found : StepOfBy may s i (Some q) l calls outcome e after =
    subst (λ (k : Option Queue). StepOfBy may s i k l calls outcome e after) there made in
    subst (λ (k : Offer). AllByRecursion (λ (w : ℕ × ℕ). Contains (return_addresses q k) w.0) (flat_map writes_of (stores_among e.acts)))
    (same_Some found.0 o (sym found.1 ∙ is))
    (acts_there may s i q e after found.0 calls outcome found.2)
