-- Each chain by itself.
use Rattle.std.proofs.Common.{◌≡◌, ℕ, Bool, List, [], ◌∷◌, ◌++◌, length, filter, Option, Some, None, slice_get, refl, subst, sym, ap, ◌∙◌}
use Rattle.std.specs.Prelude.{All, not, ◌==◌, ◌≤◌, ◌+◌, ◌^◌, ◌&&◌, is_some, nat_lt, true, false}
use Rattle.std.specs.List.{AllByRecursion, list_all, slice_index_or}
use Rattle.vm_iotlb.specs.declared.permissions.Permissions.{Permissions}
use Rattle.vm_iotlb.specs.declared.permissions.Permissions.TheVariants.{Read, Write}
use Rattle.vm_memory_core.specs.Host.{Place, changed_at}
use Rattle.vm_memory.specs.Memory.{Memory, addresses, location, reach}
use Rattle.fs_queue.specs.Chain.{Descriptor}
use Rattle.fs_queue.specs.Loads.{Load}
use Rattle.fs_queue.specs.Queue.{Queue, avail_index_at, element_at, index_at, ring_entry_at}
use Rattle.fs_queue.specs.Returning.{Store, advanced, notifies}
use Rattle.fs_queue.specs.Taking.{Offer, Offers, CannotFetch, IsRequest, addresses_of, all_reach, readable, total_len, writable}
use Rattle.fs_queue.specs.declared.fault.ChainFault.{ChainFault}
use Rattle.fs_queue.proofs.ConfinedLemmas.{only_places_count}
use Rattle.fs_regions.specs.declared.step.CourseStep as comes
use Rattle.fs_regions.specs.declared.step.CourseStep.TheVariants as step
use Rattle.fs_regions.specs.Walks.{Loaded, FetchesBy, OffersBy, RingIsAsked, IsLost}
use Rattle.fuse_fs.specs.Calls.{FileRun}
use Rattle.server_meanings.specs.Serving.{May}
use Rattle.plain_machine.specs.Step.{State, Exchange, Exchanged, Calls}
use Rattle.plain_machine.specs.StepBy.{StepOfBy, ExchangesBy, Effects, AnswersBy, ReturnsFaultyBy, return_acts, return_stores, reply_stores}
use Rattle.plain_machine.specs.StepBy.{offered_by}
use Rattle.live_machine.specs.Several.{LiveQueue}
use Rattle.live_machine.specs.Live.{Phase, PoppedFaulty, Fetched, Asked, Own, Abandoned, InFlightChain, LiveState, LiveEvent, EndsPop}
use Rattle.live_machine.specs.Live.{RefusesPop, DecodesRequest, ReceivesAnswer, PushesChain, StoresNotification, ResetsQueue, FillsBuffer}
use Rattle.live_machine.specs.Live.{GivesUpChain, Abandons, RepliesOwnBytes, Happens, IsMappedEntry, IsUnreplied, LoadsAreMapped, LiveRun}
use Rattle.live_machine.specs.Live.{EndsPopIn, PushedWith, abandoned_chain, new_chain, fault_of_phase, own_exchange, room_of_phase, room_of}
use Rattle.live_machine.specs.Live.{calls_in, serving}
use Rattle.live_machine.specs.Runs.{OwnIsReturned, ReturnedIsStepBy, IsAStep, IsAskedIn, IsBefore, IsServedPhase, after_alone, chain_loads}
use Rattle.live_machine.specs.Runs.{options_left}

-- ---- lists of chains

module _ {A : Type 0} (P : A → Type 0) where
  pub all_left : (xs ys : List A) → AllByRecursion P (xs ++ ys) → AllByRecursion P xs
  all_left [] ys h = tt
  all_left (x ∷ xs) ys h = (h.0, all_left xs ys h.1)

  pub all_right : (xs ys : List A) → AllByRecursion P (xs ++ ys) → AllByRecursion P ys
  all_right [] ys h = h
  all_right (x ∷ xs) ys h = all_right xs ys h.1

  pub all_both : (xs ys : List A) → AllByRecursion P xs → AllByRecursion P ys → AllByRecursion P (xs ++ ys)
  all_both [] ys h g = g
  all_both (x ∷ xs) ys h g = (h.0, all_both xs ys h.1 g)

  all_kept :
      (f : A → Bool) (x : A) (xs : List A) (b : Bool) → f x ≡ b → P x → AllByRecursion P (filter f xs) →
      AllByRecursion P (filter f (x ∷ xs))
  all_kept f x xs true is one h = rw is (one, h)
  all_kept f x xs false is one h = rw is h

  pub all_filter : (f : A → Bool) (xs : List A) → AllByRecursion P xs → AllByRecursion P (filter f xs)
  all_filter f [] h = tt
  all_filter f (x ∷ xs) h = all_kept f x xs (f x) refl h.0 (all_filter f xs h.1)

-- ---- what holds of each chain that is out

abbrev pub IsWhole : Phase → List Descriptor → Type 0
IsWhole (Asked request options calls) ds = length request ≡ total_len (readable ds)
IsWhole (Own request reply) ds = (length request ≡ total_len (readable ds)) × (length reply ≤ length (addresses_of (writable ds)))
IsWhole _ ds = Unit {0}

-- its walk came to it by its loads, its request is as long as it says, and its loads are of mapped addresses
abbrev pub Walked : ℕ → InFlightChain → Type 0
Walked limit c =
    FetchesBy c.places limit c.taken c.loaded c.descriptors c.head (fault_of_phase c.phase)
    × IsWhole c.phase c.descriptors
    × LoadsAreMapped c.places c.taken c.loaded

abbrev pub AllWalked : {F : Type 0} → LiveState F → Type 0
AllWalked s = AllByRecursion (Walked s.limit) s.chains

pub new_walked :
    {F : Type 0} (s : LiveState F) (i : ℕ) (w : LiveQueue) (loaded : Loaded) (ds : List Descriptor) (head : ℕ) (fault : Option ChainFault)
    → FetchesBy s.places s.limit w.queue loaded ds head fault → LoadsAreMapped s.places w.queue loaded
    → Walked s.limit (new_chain s i w loaded ds head fault)
new_walked s i w loaded ds head None h mapped = (h, tt, mapped)
new_walked s i w loaded ds head (Some why) h mapped = (h, tt, mapped)

walk_keeps : {F : Type 0} (s after : LiveState F) (i : ℕ) (w : LiveQueue) (loaded : Loaded) (ds : List Descriptor) (came : comes.CourseStep)
    → EndsPopIn s i w loaded ds came after → LoadsAreMapped s.places w.queue loaded
    → AllWalked s → AllWalked after
walk_keeps {F} s after i w loaded ds step.Idle h mapped all = subst (λ (k : LiveState F). AllWalked k) (sym h.1) all
walk_keeps {F} s after i w loaded ds (step.Refused e) h mapped all = subst (λ (k : LiveState F). AllWalked k) (sym h.1) all
walk_keeps {F} s after i w loaded ds (step.Chain head fault) h mapped all =
    subst (λ (k : LiveState F). AllWalked k) (sym h.1)
    (all_both (Walked s.limit) s.chains (new_chain s i w loaded ds head fault ∷ []) all
    (new_walked s i w loaded ds head fault h.0 mapped, tt))
walk_keeps s after i w loaded ds came h mapped all = absurd h

-- a chain that is out, and the others
pub one_walked : {F : Type 0} (s : LiveState F) (before behind : List InFlightChain) (c : InFlightChain) → s.chains ≡ before ++ c ∷ behind →
    AllWalked s
    → AllByRecursion (Walked s.limit) before × Walked s.limit c × AllByRecursion (Walked s.limit) behind
one_walked s before behind c out all =
    let split = subst (AllByRecursion (Walked s.limit)) out all in
    let right = all_right (Walked s.limit) before (c ∷ behind) split in
    (all_left (Walked s.limit) before (c ∷ behind) split, right.0, right.1)

pub asked_walked : (limit : ℕ) (c : InFlightChain) (request : List ℕ) (options : ℕ) (calls : Calls) → fault_of_phase c.phase ≡ None
    → length request ≡ total_len (readable c.descriptors)
    → Walked limit c → Walked limit (record c { phase = Asked request options calls })
asked_walked limit c request options calls good whole h =
    (subst (λ (f : Option ChainFault). FetchesBy c.places limit c.taken c.loaded c.descriptors c.head f) good h.0, whole, h.2)

-- a chain that is abandoned keeps what it was fetched by
lost_walked : (limit : ℕ) (c : InFlightChain) → Walked limit c → Walked limit (abandoned_chain c)
lost_walked limit c h = (h.0, tt, h.2)

-- so does one that its caller replies to, whose bytes have room
own_walked : (limit : ℕ) (c : InFlightChain) (p : Phase) (request reply : List ℕ) → c.phase ≡ p → IsUnreplied c p request
    → length reply ≤ length (room_of c) → Walked limit c
    → Walked limit (record c { phase = Own request reply })
own_walked limit c Fetched request reply is un few h = (
  subst (λ (f : Option ChainFault). FetchesBy c.places limit c.taken c.loaded c.descriptors c.head f) (ap fault_of_phase is) h.0,
  (un, subst (λ (p : Phase). length reply ≤ length (room_of_phase p c.descriptors)) is few),
  h.2,
)
own_walked limit c (Asked asked options calls) request reply is un few h = (
  subst (λ (f : Option ChainFault). FetchesBy c.places limit c.taken c.loaded c.descriptors c.head f) (ap fault_of_phase is) h.0,
  (
    ap length un ∙ subst (λ (p : Phase). IsWhole p c.descriptors) is h.1,
    subst (λ (p : Phase). length reply ≤ length (room_of_phase p c.descriptors)) is few,
  ),
  h.2,
)
own_walked limit c p request reply is un few h = absurd un

pub keeps : {F : Type 0} (may : May F) (s after : LiveState F) (e : LiveEvent) → Happens may s e after → AllWalked s → AllWalked after
keeps may s after (EndsPop i loaded ds came) h all = walk_keeps s after i h.w loaded ds came h.ends h.mapped all
keeps {F} may s after (RefusesPop i e) h all = subst (λ (k : LiveState F). AllWalked k) (sym h.state) all
keeps {F} may s after (DecodesRequest c request decoded) h all =
    let P = Walked s.limit in
    let parts = one_walked s h.before h.behind c h.out all in
    subst (λ (k : LiveState F). AllWalked k) (sym h.state)
    (all_both P h.before (record c { phase = Asked request s.options [] } ∷ h.behind) parts.0
    (asked_walked s.limit c request s.options [] (ap fault_of_phase h.fresh) h.whole parts.1, parts.2))
keeps {F} may s after (ReceivesAnswer c call answer) h all =
    let P = Walked s.limit in
    let parts = one_walked s h.before h.behind c h.out all in
    let whole : length h.request ≡ total_len (readable c.descriptors) = subst (λ (p : Phase). IsWhole p c.descriptors) h.asked parts.1.1 in
    subst (λ (k : LiveState F). AllWalked k) (sym h.state)
    (all_both P h.before (record c { phase = Asked h.request h.options (h.calls ++ (call, answer) ∷ []) } ∷ h.behind) parts.0
    (asked_walked s.limit c h.request h.options (h.calls ++ (call, answer) ∷ []) (ap fault_of_phase h.asked) whole parts.1, parts.2))
keeps {F} may s after (PushesChain c x notice last used seen) h all =
    let parts = one_walked s h.before h.behind c h.out all in
    subst (λ (k : LiveState F). AllWalked k) (sym h.state) (all_both (Walked s.limit) h.before h.behind parts.0 parts.2)
keeps {F} may s after (StoresNotification i store) h all = subst (λ (k : LiveState F). AllWalked k) (sym h.state) all
keeps {F} may s after (ResetsQueue i w) h all =
    subst (λ (k : LiveState F). AllWalked k) (sym h.state) (all_filter (Walked s.limit) (λ c. not (c.queue == i)) s.chains all)
keeps {F} may s after (FillsBuffer c stores) h all = subst (λ (k : LiveState F). AllWalked k) (sym h.state) all
keeps {F} may s after (GivesUpChain c) h all =
    let parts = one_walked s h.before h.behind c h.out all in
    subst (λ (k : LiveState F). AllWalked k) (sym h.state) (all_both (Walked s.limit) h.before h.behind parts.0 parts.2)
keeps {F} may s after (Abandons c) h all =
    let parts = one_walked s h.before h.behind c h.out all in
    subst (λ (k : LiveState F). AllWalked k) (sym h.state)
    (all_both (Walked s.limit) h.before (abandoned_chain c ∷ h.behind) parts.0 (lost_walked s.limit c parts.1, parts.2))
keeps {F} may s after (RepliesOwnBytes c request reply options) h all =
    let parts = one_walked s h.before h.behind c h.out all in
    subst (λ (k : LiveState F). AllWalked k) (sym h.state)
    (all_both (Walked s.limit) h.before (record c { phase = Own request reply } ∷ h.behind) parts.0
    (own_walked s.limit c c.phase request reply refl h.unreplied h.fits parts.1, parts.2))
keeps {F} may s after _ h all = subst (λ (k : LiveState F). AllWalked k) (sym h.state) all

pub run_keeps :
    {F : Type 0} (may : May F) (s after : LiveState F) (es : List LiveEvent) → LiveRun may s es after → AllWalked s → AllWalked after
run_keeps {F} may s after [] run all = subst (λ (k : LiveState F). AllWalked k) (sym run) all
run_keeps may s after (e ∷ es) run all = run_keeps may run.0 after es run.2 (keeps may s run.0 e run.1 all)

-- ---- memories with the same places

abbrev Located : Type 0
Located = Permissions → ℕ → Option Place

pub reach_same : (m n : Memory) → location m ≡ location n → (access : Permissions) (a k : ℕ) → reach m access a k ≡ reach n access a k
reach_same m n same access a k = ap (λ (f : Located). nat_lt (a + k) (2 ^ 64) && list_all (λ x. is_some (f access x)) (addresses a k)) same

pub all_reach_same :
    (m n : Memory) → location m ≡ location n → (access : Permissions) (ds : List Descriptor) → all_reach m access ds ≡ all_reach n access ds
all_reach_same m n same access [] = refl
all_reach_same m n same access (d ∷ ds) =
    ap (λ (b : Bool). b && all_reach m access ds) (reach_same m n same access d.addr d.len)
    ∙ ap (λ (b : Bool). reach n access d.addr d.len && b) (all_reach_same m n same access ds)

-- what loads offer doesn't depend on what a memory holds
lost_over : (m n : Memory) → location m ≡ location n → (lost : List Load) → All (IsLost n) lost → All (IsLost m) lost
lost_over m n same lost all = λ k d few. let l = all k d few in (l.0, reach_same m n same Read (slice_index_or lost k d).address 16 ∙ l.1)

pub offers_over : (m n : Memory) → location m ≡ location n → (limit : ℕ) (q : Queue) (loaded : Loaded) (request : List ℕ) (o : Offer)
    → OffersBy n limit q loaded request o
    → OffersBy m limit q loaded request o
offers_over m n same limit q loaded request o by =
    let alike = only_places_count m n limit q loaded.index loaded.entry (loaded.entries ++ by.1) request
    (record {
      element = reach_same m n same Write (element_at q) 8;
      index = reach_same m n same Write (index_at q) 2;
      flags = reach_same m n same Read q.avail 2;
      chain = λ hd ds found. (all_reach_same m n same Read (readable ds), all_reach_same m n same Write (writable ds));
    }) in (
      (
        λ none. reach_same m n same Read (avail_index_at q) 2 ∙ by.0.0 none,
        λ none asks. reach_same m n same Read (ring_entry_at q) 2 ∙ by.0.1 none asks,
      ),
      by.1,
      lost_over m n same by.1 by.2,
      alike ∙ by.3,
    )

entries_over : (m n : Memory) → location m ≡ location n → (ls : List Load) → AllByRecursion (IsMappedEntry n) ls →
    AllByRecursion (IsMappedEntry m) ls
entries_over m n same [] all = tt
entries_over m n same (l ∷ ls) all =
    ((all.0.0, reach_same m n same Read l.address 16 ∙ all.0.1), entries_over m n same ls all.1)

pub mapped_over : (m n : Memory) → location m ≡ location n → (q : Queue) (loaded : Loaded) → LoadsAreMapped n q loaded →
    LoadsAreMapped m q loaded
mapped_over m n same q loaded mapped = record {
  index = λ some. reach_same m n same Read (avail_index_at q) 2 ∙ mapped.index some;
  entry = λ some. reach_same m n same Read (ring_entry_at q) 2 ∙ mapped.entry some;
  entries = entries_over m n same loaded.entries mapped.entries;
}

-- ---- a chain that goes back

abbrev pub room_offered : Offer → List ℕ
room_offered (Offers head (IsRequest request room)) = room
room_offered _ = []

abbrev pub effects_of : InFlightChain → Exchange → (last : ℕ) → (seen : List ℕ) → Effects
effects_of c x last seen = record { acts = return_acts (return_stores c.taken c.head (room_of c) x.reply last) seen; last = last }

-- its loads tell its offer, and by it the chain is exchanged
pub record Exchanging {G : Type 0} (other : May G) (m : State G) (files : G) (c : InFlightChain) (x : Exchange) (last : ℕ) (seen : List ℕ) :
    Type 0 where
  pub lost : List Load
  pub ring : RingIsAsked m.memory c.taken c.loaded
  pub all_lost : All (IsLost m.memory) lost
  pub offer : Offer
  pub offered : offered_by m.memory m.limit c.taken (chain_loads c lost) ≡ Some offer
  pub room : room_offered offer ≡ room_of c
  pub exchanges :
      ExchangesBy other m c.queue c.taken offer (calls_in c.phase) x (notifies seen) (effects_of c x last seen) (after_alone m c files)

pub exchange_of : {G : Type 0} (other : May G) (m : State G) (files : G) (places : Memory) (i : ℕ) (q : Queue) (loaded : Loaded)
    (ds : List Descriptor) (head : ℕ) (p : Phase) (x : Exchange) (last : ℕ) (seen : List ℕ)
    → location m.memory ≡ location places → IsServedPhase p
    → Walked m.limit (record { places = places; queue = i; taken = q; loaded = loaded; descriptors = ds; head = head; phase = p })
    → IsAskedIn p m.options
    → PushedWith m.page_size (record { places = places; queue = i; taken = q; loaded = loaded; descriptors = ds; head = head; phase = p })
    p x
    → length seen ≡ 2 → FileRun other m.files (calls_in p) files
    → Exchanging other m files (record { places = places; queue = i; taken = q; loaded = loaded; descriptors = ds; head = head; phase = p })
    x last seen
exchange_of {G} other m files places i q loaded ds head (PoppedFaulty why) x last seen at served walked options proceeds two run =
    let c : InFlightChain =
    record { places = places; queue = i; taken = q; loaded = loaded; descriptors = ds; head = head; phase = PoppedFaulty why } in
    let by : OffersBy m.memory m.limit q loaded [] (Offers head (CannotFetch why)) =
    offers_over m.memory places at m.limit q loaded [] (Offers head (CannotFetch why)) walked.0 in
    let made : ReturnsFaultyBy m i q head why [] x (notifies seen) (effects_of c x last seen) (after_alone m c files) = record {
      no_call = refl;
      files = run;
      returns = record {
        exchange = proceeds;
        flags = seen;
        flags_len = two;
        acts = ap (λ (k : Exchange). return_acts (return_stores q head [] k.reply last) seen) proceeds;
        state = refl;
        reported = refl;
      };
    } in
    record {
      lost = by.1;
      ring = by.0;
      all_lost = by.2;
      offer = Offers head (CannotFetch why);
      offered = by.3;
      room = refl;
      exchanges = made;
    }
exchange_of other m files places i q loaded ds head Fetched x last seen at served walked options proceeds two run = absurd proceeds
exchange_of other m files places i q loaded ds head (Own request reply) x last seen at served walked options proceeds two run =
    absurd served
exchange_of other m files places i q loaded ds head (Abandoned fault) x last seen at served walked options proceeds two run =
    absurd proceeds
exchange_of {G} other m files places i q loaded ds head (Asked request asked calls) x last seen at served walked options proceeds two run =
    let c : InFlightChain =
    record { places = places; queue = i; taken = q; loaded = loaded; descriptors = ds; head = head; phase = Asked request asked calls } in
    let room = room_of c in
    let by : OffersBy m.memory m.limit q loaded request (Offers head (IsRequest request room)) =
    offers_over m.memory places at m.limit q loaded request (Offers head (IsRequest request room)) (walked.0.1 request walked.1) in
    let made : AnswersBy other m i q head request room calls x (notifies seen) (effects_of c x last seen) (after_alone m c files) = record {
      given = serving m.page_size asked asked request room calls;
      serves = record { gives = ap (λ (o : ℕ). serving m.page_size o o request room calls) (sym options); asks = proceeds.0; run = run };
      returns = record {
        exchange = proceeds.1;
        flags = seen;
        flags_len = two;
        acts = ap (λ (k : Exchange). return_acts (return_stores q head room k.reply last) seen) proceeds.1;
        state = refl;
        reported = refl;
      };
    } in
    record {
      lost = by.1;
      ring = by.0;
      all_lost = by.2;
      offer = Offers head (IsRequest request room);
      offered = by.3;
      room = refl;
      exchanges = made;
    }

-- a chain that is out of a run was walked
pub walked_there : {F : Type 0} (may : May F) (s now : LiveState F) (es : List LiveEvent) (c : InFlightChain)
    (before behind : List InFlightChain)
    → s.chains ≡ [] → LiveRun may s es now
    → now.chains ≡ before ++ c ∷ behind → Walked now.limit c
walked_there may s now es c before behind none run out =
    let start : AllWalked s = subst (AllByRecursion (Walked s.limit)) (sym none) tt in
    (one_walked now before behind c out (run_keeps may s now es run start)).1

-- a chain that was walked and goes back is a step
pub step_by_walk : {F G : Type 0} (may : May F) (other : May G) (now after : LiveState F) (c : InFlightChain) (x : Exchange) (notice : Bool)
    (last : ℕ) (used : List Store) (seen : List ℕ) (m : State G) (files : G)
    → Walked now.limit c → Happens may now (PushesChain c x notice last used seen) after → IsServedPhase c.phase → IsBefore now c m
    → FileRun other m.files (calls_in c.phase) files
    → (w : LiveQueue) × (slice_get now.queues c.queue ≡ Some w) × IsAStep other m files w c x last used seen notice
step_by_walk {F} {G} may other now after c x notice last used seen m files walked h served first calls =
    let so : Walked m.limit c = subst (λ (k : ℕ). Walked k c) (sym first.limit) walked in
    let proceeds : PushedWith m.page_size c c.phase x = subst (λ (k : ℕ). PushedWith k c c.phase x) (sym first.page_size) h.proceeds in
    let made = exchange_of other m files c.places c.queue c.taken c.loaded c.descriptors c.head c.phase x last seen first.places served so
    first.options proceeds h.two calls in (
      h.w,
      h.there,
      record {
        lost = made.lost;
        lost_are = made.all_lost;
        ring = made.ring;
        mapped = mapped_over m.memory c.places first.places c.taken c.loaded so.2;
        step = subst (λ (k : Option Queue). StepOfBy other m c.queue k (chain_loads c made.lost) (calls_in c.phase)
            (Exchanged x (notifies seen)) (effects_of c x last seen) (after_alone m c files)) (sym first.queue)
            (made.offer, made.offered, made.exchanges);
        acts = ap (λ (u : List Store). return_acts (reply_stores (room_of c) x.reply last ++ u) seen) h.used_is;
        notice_is = h.reported;
      },
    )

pub returned_is_step_by : {F G : Type 0} (may : May F) (other : May G) → ReturnedIsStepBy may other
returned_is_step_by may other s now after es c x notice last used seen m files none run h served first calls =
    step_by_walk may other now after c x notice last used seen m files (walked_there may s now es c h.before h.behind none run h.out) h
    served first calls

-- a chain that goes back with its caller's own bytes
pub own_is_returned : {F : Type 0} (G : Type 0) (may : May F) → OwnIsReturned G may
own_is_returned {F} G may s now after es c x notice last used seen request reply m none run h is first =
    let walked = walked_there may s now es c h.before h.behind none run h.out in
    let whole : (length request ≡ total_len (readable c.descriptors)) × (length reply ≤ length (addresses_of (writable c.descriptors))) =
    subst (λ (p : Phase). IsWhole p c.descriptors) is walked.1 in
    let fetched : FetchesBy c.places now.limit c.taken c.loaded c.descriptors c.head None =
    subst (λ (p : Phase). FetchesBy c.places now.limit c.taken c.loaded c.descriptors c.head (fault_of_phase p)) is walked.0 in
    let room : room_of c ≡ addresses_of (writable c.descriptors) = ap (λ (p : Phase). room_of_phase p c.descriptors) is in
    let exchange : x ≡ own_exchange c.head request reply = subst (λ (p : Phase). PushedWith now.page_size c p x) is h.proceeds in (
      h.w,
      h.there,
      record {
        offered = offers_over m.memory c.places first.places now.limit c.taken c.loaded request
            (Offers c.head (IsRequest request (room_of c)))
            (subst (λ (r : List ℕ). OffersBy c.places now.limit c.taken c.loaded request (Offers c.head (IsRequest request r))) (sym room)
            (fetched.1 request whole.0));
        mapped = mapped_over m.memory c.places first.places c.taken c.loaded walked.2;
        fits = subst (λ (r : List ℕ). length reply ≤ length r) (sym room) whole.1;
        returns = record {
          exchange = exchange;
          flags = seen;
          flags_len = h.two;
          acts = ap (λ (k : Exchange). return_acts (return_stores c.taken c.head (room_of c) k.reply last) seen) exchange;
          state = ap (λ (o : ℕ). record m { queues = changed_at m.queues c.queue (λ _. advanced c.taken); options = o; files = m.files })
              (ap (λ (p : Phase). options_left m.page_size m.options c p) is);
          reported = refl;
        };
        acts = ap (λ (u : List Store). return_acts (reply_stores (room_of c) x.reply last ++ u) seen) h.used_is;
        notice_is = h.reported;
      },
    )
