-- One chain at a time.
use Rattle.std.proofs.Common.{◌≡◌, ℕ, zero, suc, ◌+◌, ◌%◌, ◌^◌, Bool, List, [], ◌∷◌, ◌++◌, length, map, Option, Some, None, slice_get, refl}
use Rattle.std.proofs.Common.{false, All, IsTrue, subst, sym, ap, ◌∙◌}
use Rattle.std.specs.List.{AllByRecursion}
use Rattle.std.proofs.lemmas.List.Elements.{All-head, All-tail}
use Rattle.std.proofs.lemmas.List.{map-append}
use Rattle.vm_iotlb.specs.declared.permissions.Permissions.TheVariants.{Read, Write}
use Rattle.vm_memory_core.specs.Host.{changed_at}
use Rattle.vm_memory.specs.Memory.{Memory, location, reach}
use Rattle.fs_queue.specs.declared.fault.ChainFault.{ChainFault}
use Rattle.fs_queue.specs.Chain.{Descriptor}
use Rattle.fs_queue.specs.Loads.{Load, AreEntriesOf, IsEntryOf, IsLoadOf}
use Rattle.fs_queue.specs.Queue.{Queue, avail_index_at, ring_entry_at, element_at, index_at}
use Rattle.fs_queue.specs.Returning.{Store, stores_after_reply, notifies, advanced}
use Rattle.fs_queue.specs.Taking.{Offer, Offers, IsRequest, CannotFetch, readable, writable, total_len}
use Rattle.fs_queue.proofs.ConfinedLemmas.{only_places_count}
use Rattle.fs_regions.specs.Laws.{HasLoaded}
use Rattle.fs_regions.specs.declared.step.CourseStep.TheVariants as step
use Rattle.fs_regions.specs.Walks.{Loaded, IsLost, FetchesBy}
use Rattle.fuse_fs.specs.Calls.{FileCall, FileAnswer, FileRun, suits}
use Rattle.server_meanings.specs.Grammar.{meaning}
use Rattle.server_meanings.specs.Serving.{May, served, setting}
use Rattle.plain_machine.specs.Run.{KickRun}
use Rattle.plain_machine.specs.Step.{State, Exchange, Exchanged, Step, Calls, answers_alone}
use Rattle.plain_machine.specs.StepBy.{Act, Effects, StepBy, StepOfBy, ExchangesBy, AreStepLoadsOf, IsOfMemory, FindFlags, MayStoreLast}
use Rattle.plain_machine.specs.StepBy.{after_stores, stores_among, offered_by, reply_stores, return_acts}
use Rattle.plain_machine.proofs.StepByLemmas.{step_by_is_step}
use Rattle.live_machine.specs.Live.{Phase, PoppedFaulty, Fetched, Asked, InFlightChain, LiveState, LiveEvent, DecodesRequest}
use Rattle.live_machine.specs.Live.{ReceivesAnswer, Happens, LiveRun, EndsPopSo, DecodesRequestSo, LoadsAreMapped, ReceivesAnswerSo}
use Rattle.live_machine.specs.Live.{PushesChainSo, calls_in, fault_of_phase, new_chain, with_popped, room_of, serving, event_acts}
use Rattle.live_machine.specs.Live.{PushedWith}
use Rattle.live_machine.specs.Runs.{IsAskedIn, IsServedPhase, options_left, after_alone, chain_loads, request_of_phase}
use Rattle.live_machine.specs.Several.{LacksEventIndex, LiveQueue, took, gave, returning, wants}
use Rattle.live_machine.specs.Serial.{IsAtRest, SingleIsStep, SerialIsKick, return_in, IsOfChain, plain}
use Rattle.live_machine.proofs.Alone.{all_reach_same, reach_same, Walked, IsWhole, Exchanging, asked_walked, new_walked, exchange_of}
use Rattle.live_machine.proofs.Alone.{room_offered, effects_of}
use Rattle.live_machine.proofs.Queues.{none_some, same_some, there_same}
use Rattle.live_machine.proofs.Options.{leaves_none, leaves_again}

-- ---- one chain alone

-- of one chain that is out, it is the one, and there are no others
alone : {A : Type 0} (d : A) (before behind : List A) (c : A) → d ∷ [] ≡ before ++ c ∷ behind → (before ≡ []) × (c ≡ d) × (behind ≡ [])
alone d [] behind c e = (refl, cc, cc)
alone d (b ∷ []) behind c e = absurd (cc)
alone d (b ∷ b₁ ∷ bs) behind c e = absurd (cc)

-- a chain in another phase
abbrev pub in_phase : InFlightChain → Phase → InFlightChain
in_phase c p = record c { phase = p }

run_on : {F : Type 0} (may : May F) (a b c : F) (calls : Calls) (call : FileCall) (answer : FileAnswer) → FileRun may a calls b
    → IsTrue (suits call answer) → may b call answer c
    → FileRun may a (calls ++ (call, answer) ∷ []) c
run_on {F} may a b c [] call answer run fits so = (c, fits, subst (λ (f : F). may f call answer c) run so, refl)
run_on may a b c (step ∷ steps) call answer run fits so = (run.0, run.1, run.2, run_on may run.0 b c steps call answer run.3 fits so)

answers-append : (calls : Calls) (call : FileCall) (answer : FileAnswer) →
    answers_alone (calls ++ (call, answer) ∷ []) ≡ answers_alone calls ++ answer ∷ []
answers-append calls call answer = map-append (λ (step : FileCall × FileAnswer). step.1) calls ((call, answer) ∷ [])

-- between a walk and a return of a run with one chain at a time: the chain is out alone, and options and files are as it leaves them by
-- itself
pub record Alone {F : Type 0} (may : May F) (s : LiveState F) (queues : List LiveQueue) (c : InFlightChain) (k : LiveState F) : Type 0 where
  pub phase : Phase
  pub chains : k.chains ≡ in_phase c phase ∷ []
  pub queues_are : k.queues ≡ queues
  pub places : k.places ≡ s.places
  pub limit : k.limit ≡ s.limit
  pub page_size : k.page_size ≡ s.page_size
  pub asked : IsAskedIn phase s.options
  pub options : k.options ≡ options_left s.page_size s.options (in_phase c phase) phase
  pub run : FileRun may s.files (calls_in phase) k.files
  pub walked : Walked s.limit (in_phase c phase)
  pub served : IsServedPhase phase

asks_alone : {F : Type 0} (may : May F) (s : LiveState F) (queues : List LiveQueue) (c₀ : InFlightChain) (k mid : LiveState F)
    (c : InFlightChain)
    (request : List ℕ) (decoded : List FileCall)
    → Alone may s queues c₀ k → DecodesRequestSo k c request decoded mid → Alone may s queues c₀ mid
asks_alone {F} may s queues c₀ k mid c request decoded a h =
    let one = alone (in_phase c₀ a.phase) h.before h.behind c (sym a.chains ∙ h.out) in
    let fresh : a.phase ≡ Fetched = sym (ap (λ (x : InFlightChain). x.phase) one.1) ∙ h.fresh in
    let now : k.options ≡ s.options =
    subst (λ (p : Phase). k.options ≡ options_left s.page_size s.options (in_phase c₀ p) p) fresh a.options in
    let next : Phase = Asked request k.options [] in
    let room = room_of (in_phase c₀ next) in
    record {
      phase = next;
      chains = ap (λ (x : LiveState F). x.chains) h.state
          ∙ ap (λ (l : List InFlightChain). l ++ in_phase c next ∷ h.behind) one.0
          ∙ ap (λ (l : List InFlightChain). in_phase c next ∷ l) one.2
          ∙ ap (λ (x : InFlightChain). in_phase x next ∷ []) one.1;
      queues_are = ap (λ (x : LiveState F). x.queues) h.state ∙ a.queues_are;
      places = ap (λ (x : LiveState F). x.places) h.state ∙ a.places;
      limit = ap (λ (x : LiveState F). x.limit) h.state ∙ a.limit;
      page_size = ap (λ (x : LiveState F). x.page_size) h.state ∙ a.page_size;
      asked = sym now;
      options = ap (λ (x : LiveState F). x.options) h.state
          ∙ sym (leaves_none (setting s.page_size k.options (length room)) (meaning k.options request (length room)));
      run = ap (λ (x : LiveState F). x.files) h.state ∙ subst (λ (p : Phase). FileRun may s.files (calls_in p) k.files) fresh a.run;
      walked = asked_walked s.limit (in_phase c₀ a.phase) request k.options [] (ap fault_of_phase fresh)
          (h.whole ∙ ap (λ (x : InFlightChain). total_len (readable x.descriptors)) one.1) a.walked;
      served = tt;
    }

answers_alone_too : {F : Type 0} (may : May F) (s : LiveState F) (queues : List LiveQueue) (c₀ : InFlightChain) (k mid : LiveState F)
    (c : InFlightChain) (call : FileCall) (answer : FileAnswer)
    → Alone may s queues c₀ k → ReceivesAnswerSo may k c call answer mid → Alone may s queues c₀ mid
answers_alone_too {F} may s queues c₀ k mid c call answer a h =
    let one = alone (in_phase c₀ a.phase) h.before h.behind c (sym a.chains ∙ h.out) in
    let is : a.phase ≡ Asked h.request h.options h.calls = sym (ap (λ (x : InFlightChain). x.phase) one.1) ∙ h.asked in
    let more : Calls = h.calls ++ (call, answer) ∷ [] in
    let next : Phase = Asked h.request h.options more in
    let before : Phase = Asked h.request h.options h.calls in
    let now : k.options ≡ (serving s.page_size h.options h.options h.request (room_of (in_phase c₀ before)) h.calls).options =
    subst (λ (p : Phase). k.options ≡ options_left s.page_size s.options (in_phase c₀ p) p) is a.options in
    let same : c ≡ in_phase c₀ before = one.1 ∙ ap (λ (p : Phase). in_phase c₀ p) is in
    let n = length (room_of (in_phase c₀ before)) in
    let answers_are : answers_alone more ≡ answers_alone h.calls ++ answer ∷ [] = answers-append h.calls call answer in
    let m = meaning h.options h.request n in
    let left : (serving s.page_size h.options k.options h.request (room_of (in_phase c₀ before)) more).options
    ≡ (serving s.page_size h.options h.options h.request (room_of (in_phase c₀ before)) more).options =
    ap (λ (l : List FileAnswer). (served (setting s.page_size k.options n) m l).options) answers_are
    ∙ leaves_again s.page_size h.options k.options n m (answers_alone h.calls) (answer ∷ []) now
    ∙ sym (ap (λ (l : List FileAnswer). (served (setting s.page_size h.options n) m l).options) answers_are) in
    record {
      phase = next;
      chains = ap (λ (x : LiveState F). x.chains) h.state
          ∙ ap (λ (l : List InFlightChain). l ++ in_phase c next ∷ h.behind) one.0
          ∙ ap (λ (l : List InFlightChain). in_phase c next ∷ l) one.2
          ∙ ap (λ (x : InFlightChain). in_phase x next ∷ []) one.1;
      queues_are = ap (λ (x : LiveState F). x.queues) h.state ∙ a.queues_are;
      places = ap (λ (x : LiveState F). x.places) h.state ∙ a.places;
      limit = ap (λ (x : LiveState F). x.limit) h.state ∙ a.limit;
      page_size = ap (λ (x : LiveState F). x.page_size) h.state ∙ a.page_size;
      asked = subst (λ (p : Phase). IsAskedIn p s.options) is a.asked;
      options = ap (λ (x : LiveState F). x.options) h.state
          ∙ ap (λ (p : ℕ). (serving p h.options k.options h.request (room_of c) more).options) a.page_size
          ∙ ap (λ (x : InFlightChain). (serving s.page_size h.options k.options h.request (room_of x) more).options) same
          ∙ left;
      run = subst (λ (f : F). FileRun may s.files more f) (sym (ap (λ (x : LiveState F). x.files) h.state))
          (run_on may s.files k.files h.files h.calls call answer (subst (λ (p : Phase). FileRun may s.files (calls_in p) k.files) is a.run)
          h.is_one h.may_so);
      walked = asked_walked s.limit (in_phase c₀ a.phase) h.request h.options more (ap fault_of_phase is)
          (subst (λ (p : Phase). IsWhole p c₀.descriptors) is a.walked.1) a.walked;
      served = tt;
    }

pub between_alone : {F : Type 0} (may : May F) (s : LiveState F) (queues : List LiveQueue) (c : InFlightChain) (k after : LiveState F)
    (es : List LiveEvent) (back : LiveEvent)
    → AllByRecursion IsOfChain es → Alone may s queues c k → LiveRun may k (es ++ back ∷ []) after
    → (now : LiveState F) × Alone may s queues c now × Happens may now back after
between_alone {F} may s queues c k after [] back of a run = (k, a, subst (λ (x : LiveState F). Happens may k back x) (sym run.2) run.1)
between_alone may s queues c k after (DecodesRequest d request decoded ∷ es) back of a run =
    between_alone may s queues c run.0 after es back of.1 (asks_alone may s queues c k run.0 d request decoded a run.1) run.2
between_alone may s queues c k after (ReceivesAnswer d call answer ∷ es) back of a run =
    between_alone may s queues c run.0 after es back of.1 (answers_alone_too may s queues c k run.0 d call answer a run.1) run.2
between_alone may s queues c k after es back of a run = absurd of.0

start_alone : {F : Type 0} (may : May F) (s mid : LiveState F) (i : ℕ) (v : LiveQueue) (loaded : Loaded) (ds : List Descriptor) (head : ℕ)
    (fault : Option ChainFault)
    → s.chains ≡ [] → FetchesBy s.places s.limit v.queue loaded ds head fault → LoadsAreMapped s.places v.queue loaded
    → mid ≡ with_popped s i v (new_chain s i v loaded ds head fault)
    → Alone may s (changed_at s.queues i (λ _. took v)) (new_chain s i v loaded ds head fault) mid
start_alone {F} may s mid i v loaded ds head None none fetches mapped is = record {
  phase = Fetched;
  chains = ap (λ (x : LiveState F). x.chains) is ∙ ap (λ (l : List InFlightChain). l ++ new_chain s i v loaded ds head None ∷ []) none;
  queues_are = ap (λ (x : LiveState F). x.queues) is;
  places = ap (λ (x : LiveState F). x.places) is;
  limit = ap (λ (x : LiveState F). x.limit) is;
  page_size = ap (λ (x : LiveState F). x.page_size) is;
  asked = tt;
  options = ap (λ (x : LiveState F). x.options) is;
  run = ap (λ (x : LiveState F). x.files) is;
  walked = new_walked s i v loaded ds head None fetches mapped;
  served = tt;
}
start_alone {F} may s mid i v loaded ds head (Some why) none fetches mapped is = record {
  phase = PoppedFaulty why;
  chains = ap (λ (x : LiveState F). x.chains) is
      ∙ ap (λ (l : List InFlightChain). l ++ new_chain s i v loaded ds head (Some why) ∷ []) none;
  queues_are = ap (λ (x : LiveState F). x.queues) is;
  places = ap (λ (x : LiveState F). x.places) is;
  limit = ap (λ (x : LiveState F). x.limit) is;
  page_size = ap (λ (x : LiveState F). x.page_size) is;
  asked = tt;
  options = ap (λ (x : LiveState F). x.options) is;
  run = ap (λ (x : LiveState F). x.files) is;
  walked = new_walked s i v loaded ds head (Some why) fetches mapped;
  served = tt;
}

-- ---- over the memory that has what was loaded

load_is : (m : Memory) (a : ℕ) (came : Option (List ℕ)) → (came ≡ None → reach m Read a 2 ≡ false)
    → ((bs : List ℕ) → came ≡ Some bs → IsLoadOf m 2 (record { address = a; came = came }))
    → IsLoadOf m 2 (record { address = a; came = came })
load_is m a None lacks has = rw (lacks refl) refl
load_is m a (Some bs) lacks has = has bs refl

lost_is : (m : Memory) (l : Load) → (l.came ≡ None) × (reach m Read l.address 16 ≡ false) → IsEntryOf m l
lost_is m l lost = lost.0 ∙ (rw lost.1 refl)

all_lost : (m n : Memory) → location m ≡ location n → (ls : List Load) → All (IsLost n) ls → AreEntriesOf m ls
all_lost m n same [] all = tt
all_lost m n same (l ∷ ls) all =
    let lost = All-head (IsLost n) l ls all in
    (lost_is m l (lost.0, reach_same m n same Read l.address 16 ∙ lost.1), all_lost m n same ls (All-tail (IsLost n) l ls all))

both : (m : Memory) (ls lost : List Load) → AreEntriesOf m ls → AreEntriesOf m lost → AreEntriesOf m (ls ++ lost)
both m [] lost are more = more
both m (l ∷ ls) lost are more = (are.0, both m ls lost are.1 more)

-- what is exchanged doesn't depend on what a memory holds
exchanges_over : {F : Type 0} (may : May F) (before after : State F) (i : ℕ) (q : Queue) (o : Offer) (calls : Calls) (x : Exchange)
    (notice : Bool) (e : Effects) (m : Memory)
    → ExchangesBy may before i q o calls x notice e after
    → ExchangesBy may (record before { memory = m }) i q o calls x notice e (record after { memory = m })
exchanges_over {F} may before after i q (Offers head (CannotFetch why)) calls x notice e m made = record {
  no_call = made.no_call;
  files = made.files;
  returns = record {
    exchange = made.returns.exchange;
    flags = made.returns.flags;
    flags_len = made.returns.flags_len;
    acts = made.returns.acts;
    state = ap (λ (st : State F). record st { memory = m }) made.returns.state;
    reported = made.returns.reported;
  };
}
exchanges_over {F} may before after i q (Offers head (IsRequest request room)) calls x notice e m made = record {
  given = made.given;
  serves = made.serves;
  returns = record {
    exchange = made.returns.exchange;
    flags = made.returns.flags;
    flags_len = made.returns.flags_len;
    acts = made.returns.acts;
    state = ap (λ (st : State F). record st { memory = m }) made.returns.state;
    reported = made.returns.reported;
  };
}
exchanges_over may before after i q _ calls x notice e m made = absurd made

abbrev room_in_offer : Option Offer → List ℕ
room_in_offer (Some o) = room_offered o
room_in_offer None = []

-- an exchange by loads that a memory has is a step over it
pub step_over : {F : Type 0} (may : May F) (before : State F) (files : F) (c : InFlightChain) (x : Exchange) (last : ℕ) (seen : List ℕ)
    (m : Memory)
    → Exchanging may before files c x last seen → location m ≡ location before.memory → slice_get before.queues c.queue ≡ Some c.taken
    → HasLoaded m c.taken c.loaded (request_of_phase c.phase) → FindFlags m c.taken (effects_of c x last seen).acts
    → MayStoreLast m (room_of c) last
    → Step may (record before { memory = m }) c.queue (calls_in c.phase) (Exchanged x (notifies seen))
    (record (after_alone before c files) { memory = after_stores m (stores_among (effects_of c x last seen).acts) })
step_over {F} may before files c x last seen m made same there has flags apart =
    let n = before.memory in
    let q = c.taken in
    let l = chain_loads c made.lost in
    let e = effects_of c x last seen in
    let over : State F = record before { memory = m } in
    let after : State F = record (after_alone before c files) { memory = m } in
    let alike = only_places_count m n before.limit q l.index l.entry l.entries l.request
    (record {
      element = reach_same m n same Write (element_at q) 8;
      index = reach_same m n same Write (index_at q) 2;
      flags = reach_same m n same Read q.avail 2;
      chain = λ hd ds found. (all_reach_same m n same Read (readable ds), all_reach_same m n same Write (writable ds));
    }) in
    let offered : offered_by m before.limit q l ≡ Some made.offer = alike ∙ made.offered in
    let step : StepBy may over c.queue l (calls_in c.phase) (Exchanged x (notifies seen)) e after =
    subst (λ (k : Option Queue). StepOfBy may over c.queue k l (calls_in c.phase) (Exchanged x (notifies seen)) e after) (sym there) (
      made.offer,
      offered,
      exchanges_over may before (after_alone before c files) c.queue q made.offer (calls_in c.phase) x (notifies seen) e m made.exchanges,
    ) in
    let are : AreStepLoadsOf m q l = record {
      index_is = λ _. load_is m (avail_index_at q) c.loaded.index (λ none. reach_same m n same Read (avail_index_at q) 2 ∙ made.ring.0 none)
          has.index_is;
      entry_is = λ _ asks. load_is m (ring_entry_at q) c.loaded.entry
          (λ none. reach_same m n same Read (ring_entry_at q) 2 ∙ made.ring.1 none asks) has.entry_is;
      entries_are = both m c.loaded.entries made.lost has.entries_are (all_lost m n same made.lost made.all_lost);
      request_is = has.request_is;
    } in
    let is_q : (p : Queue) → slice_get before.queues c.queue ≡ Some p → q ≡ p = λ p at. same_some q p (sym there ∙ at) in
    let of_memory : IsOfMemory over c.queue l e = record {
      loads = λ p at. subst (λ (k : Queue). AreStepLoadsOf m k l) (is_q p at) are;
      flags = λ p at. subst (λ (k : Queue). FindFlags m k e.acts) (is_q p at) flags;
      apart = λ p hd rq rm at off.
          subst (λ (r : List ℕ). MayStoreLast m r last)
          (sym made.room ∙ ap room_in_offer (sym offered
          ∙ subst (λ (k : Queue). offered_by m before.limit k l ≡ Some (Offers hd (IsRequest rq rm))) (sym (is_q p at)) off)) apart;
    } in
    step_by_is_step may over c.queue l (calls_in c.phase) (Exchanged x (notifies seen)) e after of_memory step

-- ---- queues of the plain machine

get_map : {A B : Type 0} (f : A → B) (xs : List A) (i : ℕ) (x : A) → slice_get xs i ≡ Some x → slice_get (map f xs) i ≡ Some (f x)
get_map f [] i x there = absurd (none_some x there)
get_map f (y ∷ ys) zero x there = ap (λ z. Some (f z)) (same_some y x there)
get_map f (y ∷ ys) (suc i) x there = get_map f ys i x there

map_changed : {A B : Type 0} (f : A → B) (xs : List A) (i : ℕ) (a b : A) →
    map f (changed_at (changed_at xs i (λ _. a)) i (λ _. b)) ≡ changed_at (map f xs) i (λ _. f b)
map_changed f (y ∷ ys) (suc i) a b = ap (λ l. f y ∷ l) (map_changed f ys i a b)
map_changed f _ _ a b = refl

abbrev state_of : {F : Type 0} → Memory → List Queue → (options : ℕ) → F → (limit page_size : ℕ) → State F
state_of m queues options files limit page_size =
    record { memory = m; queues = queues; options = options; files = files; limit = limit; page_size = page_size }

state_same : {F : Type 0} (m : Memory) (files : F) (queues queues' : List Queue) (options options' limit limit' page_size page_size' : ℕ)
    → queues ≡ queues' → options ≡ options' → limit ≡ limit'
    → page_size ≡ page_size' → state_of m queues options files limit page_size ≡ state_of m queues' options' files limit' page_size'
state_same m files queues queues' options options' limit limit' page_size page_size' qs os ls ps =
    ap (λ q. state_of m q options files limit page_size) qs ∙ ap (λ o. state_of m queues' o files limit page_size) os
    ∙ ap (λ l. state_of m queues' options' files l page_size) ls
    ∙ ap (λ p. state_of m queues' options' files limit' p) ps

-- ---- a chain alone

wants_flags : (w : LiveQueue) (seen : List ℕ) → LacksEventIndex w → wants w seen ≡ notifies seen
wants_flags w seen no_event = rw no_event refl

pub single_is_step : {F : Type 0} (may : May F) → SingleIsStep may
single_is_step {F} may s after r m w none there rest of run found =
    let i = r.queue in
    let walk : EndsPopSo s i r.loaded r.descriptors (step.Chain r.head r.fault) run.0 = run.1 in
    let v = walk.w in
    let same : v ≡ w = same_some v w (sym walk.there ∙ there) in
    let calm : IsAtRest v = subst (λ (k : LiveQueue). IsAtRest k) (sym same) rest in
    let c₀ = new_chain s i v r.loaded r.descriptors r.head r.fault in
    let qs = changed_at s.queues i (λ _. took v) in
    let back = between_alone may s qs c₀ run.0 after r.between (return_in r) of
    (start_alone may s run.0 i v r.loaded r.descriptors r.head r.fault none walk.ends.0 walk.mapped walk.ends.1) run.2 in
    let k = back.0 in
    let a = back.1 in
    let b : PushesChainSo k r.chain r.exchange r.notice r.last r.used r.seen after = back.2 in
    let d : InFlightChain = in_phase c₀ a.phase in
    let one = alone d b.before b.behind r.chain (sym a.chains ∙ b.out) in
    let took_one : LiveQueue = took v in
    let w_is : b.w ≡ took_one =
    same_some b.w took_one
    (sym b.there ∙ ap (λ (c : InFlightChain). slice_get k.queues c.queue) one.1 ∙ ap (λ (l : List LiveQueue). slice_get l i) a.queues_are
    ∙ there_same s.queues i i (λ _. took v) v refl walk.there) in
    let base : State F = plain s s.places in
    let at : slice_get base.queues i ≡ Some v.queue = get_map (λ (x : LiveQueue). x.queue) s.queues i v walk.there in
    let proceeds : PushedWith s.page_size d a.phase r.exchange =
    subst (λ (p : ℕ). PushedWith p d a.phase r.exchange) a.page_size
    (subst (λ (c : InFlightChain). PushedWith k.page_size c c.phase r.exchange) one.1 b.proceeds) in
    let made : Exchanging may base k.files d r.exchange r.last r.seen =
    exchange_of may base k.files s.places i v.queue r.loaded r.descriptors r.head a.phase r.exchange r.last r.seen refl a.served a.walked
    a.asked proceeds b.two a.run in
    let behind_is : r.used ≡ stores_after_reply v.queue r.head (length r.exchange.reply) =
    b.used_is ∙ ap (λ (u : LiveQueue). stores_after_reply (returning u) r.chain.head (length r.exchange.reply)) w_is
    ∙ ap (λ (c : InFlightChain). stores_after_reply (returning (took v)) c.head (length r.exchange.reply)) one.1
    ∙ ap (λ (p : ℕ). stores_after_reply (record (v.queue) { position = p }) r.head (length r.exchange.reply)) calm.1 in
    let acts_are : event_acts (return_in r) ≡ (effects_of d r.exchange r.last r.seen).acts =
    ap (λ (c : InFlightChain). return_acts (reply_stores (room_of c) r.exchange.reply r.last ++ r.used) r.seen) one.1
    ∙ ap (λ (u : List Store). return_acts (reply_stores (room_of d) r.exchange.reply r.last ++ u) r.seen) behind_is in
    let has : HasLoaded m v.queue r.loaded (request_of_phase a.phase) =
    subst (λ (c : InFlightChain). HasLoaded m v.queue r.loaded (request_of_phase c.phase)) one.1 (found.loads v walk.there) in
    let flags : FindFlags m v.queue (effects_of d r.exchange r.last r.seen).acts =
    subst (FindFlags m v.queue) acts_are (found.flags v walk.there) in
    let apart : MayStoreLast m (room_of d) r.last = subst (λ (c : InFlightChain). MayStoreLast m (room_of c) r.last) one.1 found.apart in
    let stepped = step_over may base k.files d r.exchange r.last r.seen m made found.places at has flags apart in
    let m' = after_stores m (stores_among (effects_of d r.exchange r.last r.seen).acts) in
    let memory_is : after_stores m (stores_among (event_acts (return_in r))) ≡ m' =
    ap (λ (l : List Act). after_stores m (stores_among l)) acts_are in
    let gave_one : LiveQueue = gave took_one in
    let queues_after : after.queues ≡ changed_at qs i (λ _. gave_one) =
    ap (λ (x : LiveState F). x.queues) b.state
    ∙ ap (λ (l : List LiveQueue). changed_at l r.chain.queue (λ _. gave b.w)) a.queues_are
    ∙ ap (λ (c : InFlightChain). changed_at qs c.queue (λ _. gave b.w)) one.1
    ∙ ap (λ (u : LiveQueue). changed_at qs i (λ _. gave u)) w_is in
    let plain_queues : map (λ (x : LiveQueue). x.queue) after.queues ≡ changed_at base.queues i (λ _. advanced v.queue) =
    ap (λ (l : List LiveQueue). map (λ (x : LiveQueue). x.queue) l) queues_after
    ∙ map_changed (λ (x : LiveQueue). x.queue) s.queues i took_one gave_one in
    let files_are : after.files ≡ k.files = ap (λ (x : LiveState F). x.files) b.state in
    let after_is : plain after m' ≡ record (after_alone base d k.files) { memory = m' } =
    ap (λ (f : F). state_of m' (map (λ (x : LiveQueue). x.queue) after.queues) after.options f after.limit after.page_size) files_are
    ∙ state_same m' k.files _ _ after.options (options_left s.page_size s.options d a.phase) after.limit s.limit after.page_size s.page_size
    plain_queues
    (ap (λ (x : LiveState F). x.options) b.state ∙ a.options) (ap (λ (x : LiveState F). x.limit) b.state ∙ a.limit)
    (ap (λ (x : LiveState F). x.page_size) b.state ∙ a.page_size) in
    let notice_is : r.notice ≡ notifies r.seen =
    b.reported ∙ wants_flags b.w r.seen (subst (λ (u : LiveQueue). LacksEventIndex u) (sym w_is) calm.0) in (
      subst (λ (mm : Memory). Step may (plain s m) i (calls_in r.chain.phase) (Exchanged r.exchange r.notice) (plain after mm))
          (sym memory_is)
          (subst (λ (st : State F). Step may (plain s m) i (calls_in r.chain.phase) (Exchanged r.exchange r.notice) st) (sym after_is)
          (subst (λ (n : Bool). Step may (plain s m) i (calls_in r.chain.phase) (Exchanged r.exchange n)
          (record (after_alone base d k.files) { memory = m' })) (sym notice_is)
          (subst (λ (c : InFlightChain). Step may (plain s m) i (calls_in c.phase) (Exchanged r.exchange (notifies r.seen))
          (record (after_alone base d k.files) { memory = m' })) (sym one.1) stepped))),
      ap (λ (x : LiveState F). x.chains) b.state ∙ ap (λ (l : List InFlightChain). l ++ b.behind) one.0 ∙ one.2,
      gave_one,
      ap (λ (l : List LiveQueue). slice_get l i) queues_after
          ∙ there_same qs i i (λ _. gave_one) took_one refl (there_same s.queues i i (λ _. took_one) v refl walk.there),
      (calm.0, ap (λ (p : ℕ). (p + 1) % 2 ^ 16) calm.1),
    )

pub serial_is_kick : {F : Type 0} (may : May F) → SerialIsKick may
unfolding KickRun
serial_is_kick {F} may s after [] m m' i w none there rest run =
    ap (λ (k : LiveState F). plain k m') run.1 ∙ ap (λ (mm : Memory). plain s mm) run.0
serial_is_kick {F} may s after (r ∷ rs) m m' i w none there rest run =
    let mid = run.0 in
    let at_r : slice_get s.queues r.queue ≡ Some w = ap (λ (j : ℕ). slice_get s.queues j) run.1 ∙ there in
    let one = single_is_step may s mid r m w none at_r rest run.2 run.3 run.4 in
    let next : Memory = after_stores m (stores_among (event_acts (return_in r))) in (
      plain mid next,
      subst (λ (j : ℕ). Step may (plain s m) j (calls_in r.chain.phase) (Exchanged r.exchange r.notice) (plain mid next)) run.1 one.0,
      serial_is_kick may mid after rs next m' i one.2 one.1 (ap (λ (j : ℕ). slice_get mid.queues j) (sym run.1) ∙ one.3) one.4 run.5,
    )
