-- a walk finds what its steps come to
use Rattle.std.proofs.Common.{◌≡◌, ◌↔◌, ℕ, zero, suc, ◌+◌, ◌/◌, ◌%◌, ◌^◌, ◌<◌, ◌≤◌, Bool, true, false, cond, not, ◌&&◌, nat_lt}
use Rattle.std.proofs.Common.{nat_le, List, [], ◌∷◌, ◌++◌, Option, Some, None, ◌⊎◌, inl, inr, refl, ap, sym, ◌∙◌, subst, arith}
use Rattle.std.specs.Prelude.{◌==◌, ◌||◌, All}
use Rattle.std.proofs.lemmas.Bool.{eqb-true, ltb-true, ltb-false, leb-true, leb-false, le-leb, lt-leb, lt-ltb, le-ltb, eq-eqb, or_parts}
use Rattle.std.proofs.lemmas.Bool.{or_cases, and_parts, not-false, not-true}
use Rattle.std.proofs.lemmas.List.Elements.{All-nil, All-cons, All-head, All-tail}
use Rattle.vm_iotlb.specs.declared.permissions.Permissions.TheVariants.{Read}
use Rattle.vm_memory.specs.Memory.{Memory, reach}
use Rattle.fs_queue.specs.declared.fault.ChainFault.{ChainFault}
use Rattle.fs_queue.specs.declared.fault.ChainFault.TheVariants.{TooLong, NextOutOfTable, AddressOverflow, IndirectWithNext, IndirectNested}
use Rattle.fs_queue.specs.declared.fault.ChainFault.TheVariants.{IndirectLength, TableUnreachable}
use Rattle.fs_queue.specs.Queue.{Queue}
use Rattle.fs_queue.specs.Chain.{Descriptor, DescriptorTable, Visit, WalkStep, Ordinary, Indirect, Faulty, Stops, has_next, is_indirect}
use Rattle.fs_queue.specs.Chain.{ends_in_64_bits, indirect_step, ordinary_step, walk_step}
use Rattle.fs_queue.specs.Chain.{walk_step_at, next_visit, onward, path, first_visit, walk, with_front, after_walk_step, Found, IsChain}
use Rattle.fs_queue.specs.Chain.{HasFault, StopsQueue, found, chain}
use Rattle.fs_queue.specs.Chain.{entry_address}
use Rattle.fs_queue.specs.Paths.{entry_of, EntryIsThere, PassesOrdinary, PassesTable, Passes, EntryIsUnreadable, IsOrdinary}
use Rattle.fs_queue.specs.Paths.{NamesTable, NamesTableFromOwn, OrdinaryOverflows, StepHasFault, StepStops, EndsAt, ordinary_entries}
use Rattle.fs_queue.specs.Paths.{ComesTo}
use Rattle.fs_queue.proofs.BoundLemmas.{either}
use Rattle.fs_queue.proofs.PathLemmas.{not_nothing, fewer, next_ordinary, next_table, some_bytes, ends_or_none, room_left, next_follows}
use Rattle.fs_queue.proofs.PathLemmas.{still_few}

-- ---- what the walk says of a step is so

-- what a step comes to, in the standard's words
Shows : Memory → Queue → Visit → WalkStep → Type 0
Shows m q v (Ordinary d) = EntryIsThere m v × PassesOrdinary q v (entry_of m v) × (d ≡ entry_of m v)
Shows m q v (Indirect t) = EntryIsThere m v × PassesTable v (entry_of m v)
Shows m q v (Faulty fault) = StepHasFault m q v fault
Shows m q v Stops = StepStops m v

shows_fault : (m : Memory) (q : Queue) (v : Visit) (fault : ChainFault) → StepHasFault m q v fault → Shows m q v (Faulty fault)
unfolding Shows
shows_fault m q v fault h = h

shows_stops : (m : Memory) (q : Queue) (v : Visit) → StepStops m v → Shows m q v Stops
unfolding Shows
shows_stops m q v h = h

shows_ordinary :
    (m : Memory) (q : Queue) (v : Visit) → EntryIsThere m v → PassesOrdinary q v (entry_of m v) → Shows m q v (Ordinary (entry_of m v))
unfolding Shows
shows_ordinary m q v there passes = (there, passes, refl)

shows_table :
    (m : Memory) (q : Queue) (v : Visit) (t : DescriptorTable) → EntryIsThere m v → PassesTable v (entry_of m v) → Shows m q v (Indirect t)
unfolding Shows
shows_table m q v t there passes = (there, passes)

-- there are bytes, and their end is no address
overflows : (d : Descriptor) → (nat_lt 0 d.len && not (ends_in_64_bits d)) ≡ true → (0 < d.len) × (2 ^ 64 ≤ d.addr + d.len)
overflows d h =
    let parts = and_parts (nat_lt 0 d.len) (not (ends_in_64_bits d)) h in
    (ltb-true 0 d.len parts.0, ltb-false (d.addr + d.len) (2 ^ 64) (not-true _ parts.1))

ordinary_overflows : (m : Memory) (q : Queue) (v : Visit) → IsOrdinary m v → v.earlier < q.size →
    (nat_lt 0 (entry_of m v).len && not (ends_in_64_bits (entry_of m v))) ≡ true →
    OrdinaryOverflows m q v
ordinary_overflows m q v plain room over =
    let parts = overflows (entry_of m v) over in
    record { ordinary = plain; room = room; some = parts.0; past = parts.1 }

ordinary_is : (m : Memory) (q : Queue) (v : Visit) → v.earlier ≤ q.size → EntryIsThere m v → is_indirect (entry_of m v) ≡ false →
    Shows m q v (ordinary_step q.size v (entry_of m v))
ordinary_is m q v few there plain =
    either (Shows m q v) (v.earlier == q.size) _ _
    (λ full. shows_fault m q v TooLong (record { there = there; ordinary = plain }, eqb-true v.earlier q.size full)) (λ more.
    either (Shows m q v) (nat_lt 0 (entry_of m v).len && not (ends_in_64_bits (entry_of m v))) _ _
    (λ over. shows_fault m q v AddressOverflow
    (inr (ordinary_overflows m q v (record { there = there; ordinary = plain }) (room_left v.earlier q.size few more) over)))
    (λ ends. shows_ordinary m q v there
    (record { ordinary = plain; room = room_left v.earlier q.size few more; ends = ends_or_none (entry_of m v) _ _ refl refl ends })))

-- no bytes, or no whole number of entries
wrong_length : (n : ℕ) → (n == 0 || not (n % 16 == 0)) ≡ true → (n ≡ 0) ⊎ (0 < n % 16)
wrong_length n h = one_of (or_cases (n == 0) (not (n % 16 == 0)) h)
  where
    one_of : ((n == 0) ≡ true) ⊎ (not (n % 16 == 0) ≡ true) → (n ≡ 0) ⊎ (0 < n % 16)
    one_of (inl none) = inl (eqb-true n 0 none)
    one_of (inr part) = inr (some_bytes (n % 16) (not-true _ part))

long_enough :
    (m : Memory) (q : Queue) (v : Visit) → NamesTableFromOwn m v → ((entry_of m v).len == 0 || not ((entry_of m v).len % 16 == 0)) ≡ false →
    Shows m q v (cond (not (ends_in_64_bits (entry_of m v))) (Faulty AddressOverflow)
    (Indirect (record { address = (entry_of m v).addr; entries = (entry_of m v).len / 16; indirect = true })))
long_enough m q v names length =
    let parts = or_parts ((entry_of m v).len == 0) (not ((entry_of m v).len % 16 == 0)) length in
    let some : 0 < (entry_of m v).len = some_bytes (entry_of m v).len parts.0 in
    let whole : (entry_of m v).len % 16 ≡ 0 = eqb-true ((entry_of m v).len % 16) 0 (not-false _ parts.1) in
    either (Shows m q v) (not (ends_in_64_bits (entry_of m v))) _ _
    (λ over. shows_fault m q v AddressOverflow (inl (record {
      names = names;
      some = some;
      whole = whole;
      past = ltb-false ((entry_of m v).addr + (entry_of m v).len) (2 ^ 64) (not-true _ over);
    })))
    (λ ends. shows_table m q v _ names.names.names.there (record {
      indirect = names.names.names.indirect;
      last = names.names.last;
      own = names.own;
      some = some;
      whole = whole;
      ends = ltb-true ((entry_of m v).addr + (entry_of m v).len) (2 ^ 64) (not-false _ ends);
    }))

indirect_is : (m : Memory) (q : Queue) (v : Visit) → NamesTable m v → Shows m q v (indirect_step v (entry_of m v))
indirect_is m q v names =
    either (Shows m q v) (has_next (entry_of m v)) _ _ (λ more. shows_fault m q v IndirectWithNext (names, more)) (λ last.
    either (Shows m q v) v.table.indirect _ _
    (λ nested. shows_fault m q v IndirectNested (record { names = names; last = last }, nested)) (λ own.
    either (Shows m q v) ((entry_of m v).len == 0 || not ((entry_of m v).len % 16 == 0)) _ _
    (λ wrong. shows_fault m q v IndirectLength
    (record { names = record { names = names; last = last }; own = own }, wrong_length (entry_of m v).len wrong))
    (λ length. long_enough m q v (record { names = record { names = names; last = last }; own = own }) length)))

is_at : (m : Memory) (q : Queue) (v : Visit) → v.earlier ≤ q.size → v.index < v.table.entries →
    Shows m q v (walk_step_at m q.size v (entry_address v))
is_at m q v few inside =
    either (Shows m q v) (not (reach m Read (entry_address v) 16)) _ _
    (λ unread. either (Shows m q v) v.table.indirect _ _
    (λ other. shows_fault m q v TableUnreachable (record { inside = inside; unread = not-true _ unread }, other))
    (λ own. shows_stops m q v (record { inside = inside; unread = not-true _ unread }, own)))
    (λ read. either (Shows m q v) (is_indirect (entry_of m v)) _ _
    (λ named. indirect_is m q v (record { there = record { inside = inside; read = not-false _ read }; indirect = named }))
    (λ plain. ordinary_is m q v few (record { inside = inside; read = not-false _ read }) plain))

step_is : (m : Memory) (q : Queue) (v : Visit) → v.earlier ≤ q.size → Shows m q v (walk_step m q.size v)
step_is m q v few =
    either (Shows m q v) (nat_le v.table.entries v.index) _ _
    (λ outside. shows_fault m q v NextOutOfTable (leb-true v.table.entries v.index outside))
    (λ inside. is_at m q v few (leb-false v.table.entries v.index inside))

-- ---- what a walk finds is what its steps come to

kept : (m : Memory) (v : Visit) (vs : List Visit) (b : Bool) → is_indirect (entry_of m v) ≡ b →
    ordinary_entries m (v ∷ vs) ≡ cond (not b) (entry_of m v ∷ ordinary_entries m vs) (ordinary_entries m vs)
kept m v vs b is = ap (λ (x : Bool). cond (not x) (entry_of m v ∷ ordinary_entries m vs) (ordinary_entries m vs)) is

-- a step that passes, before others
before : (m : Memory) (q : Queue) (v : Visit) (vs : List Visit) (IsSo : Visit → Type 0) → Passes m q v → EndsAt m q vs IsSo →
    EndsAt m q (v ∷ vs) IsSo
before m q v vs IsSo passes at =
    record {
      front = v ∷ at.front;
      last = at.last;
      steps = ap (λ (ws : List Visit). v ∷ ws) at.steps;
      pass = All-cons (Passes m q) v at.front passes at.pass;
      here = at.here;
    }

alone : (m : Memory) (q : Queue) (v : Visit) (IsSo : Visit → Type 0) → IsSo v → EndsAt m q (v ∷ []) IsSo
alone m q v IsSo so = record { front = []; last = v; steps = refl; pass = All-nil (Passes m q); here = so }

before_ordinary : (m : Memory) (q : Queue) (v : Visit) (vs : List Visit) (d : Descriptor) (r : Found) → EntryIsThere m v →
    PassesOrdinary q v (entry_of m v) → d ≡ entry_of m v →
    ComesTo m q vs r → ComesTo m q (v ∷ vs) (with_front d r)
before_ordinary m q v vs d (IsChain ds) there passes is rest =
    let all : All (Passes m q) (v ∷ vs) = All-cons (Passes m q) v vs (record { there = there; passes = inl passes }) rest.0 in
    let first : d ∷ ds ≡ entry_of m v ∷ ds = ap (λ (x : Descriptor). x ∷ ds) is in
    let others : entry_of m v ∷ ds ≡ entry_of m v ∷ ordinary_entries m vs = ap (λ (xs : List Descriptor). entry_of m v ∷ xs) rest.1 in
    (all, first ∙ others ∙ sym (kept m v vs false passes.ordinary))
before_ordinary m q v vs d (HasFault fault) there passes is rest =
    before m q v vs (λ w. StepHasFault m q w fault) (record { there = there; passes = inl passes }) rest
before_ordinary m q v vs d StopsQueue there passes is rest =
    before m q v vs (StepStops m) (record { there = there; passes = inl passes }) rest

before_table : (m : Memory) (q : Queue) (v : Visit) (vs : List Visit) (r : Found) → EntryIsThere m v → PassesTable v (entry_of m v) →
    ComesTo m q vs r → ComesTo m q (v ∷ vs) r
before_table m q v vs (IsChain ds) there passes rest = (
  All-cons (Passes m q) v vs (record { there = there; passes = inr passes }) rest.0,
  rest.1 ∙ sym
      (kept m v vs true passes.indirect),
)
before_table m q v vs (HasFault fault) there passes rest =
    before m q v vs (λ w. StepHasFault m q w fault) (record { there = there; passes = inr passes }) rest
before_table m q v vs StopsQueue there passes rest = before m q v vs (StepStops m) (record { there = there; passes = inr passes }) rest

-- a step, and those after it
with_step : (m : Memory) (q : Queue) (n : ℕ) (v : Visit) (x : WalkStep) → Shows m q v x →
    ComesTo m q (onward (path m q.size n) (next_visit v x)) (found m q.size (onward (path m q.size n) (next_visit v x))) →
    ComesTo m q (v ∷ onward (path m q.size n) (next_visit v x))
    (after_walk_step x (found m q.size (onward (path m q.size n) (next_visit v x))))
unfolding Shows
with_step m q n v (Ordinary d) shows rest = before_ordinary m q v _ d _ shows.0 shows.1 shows.2 rest
with_step m q n v (Indirect t) shows rest = before_table m q v _ _ shows.0 shows.1 rest
with_step m q n v (Faulty fault) shows rest = alone m q v (λ w. StepHasFault m q w fault) shows
with_step m q n v Stops shows rest = alone m q v (StepStops m) shows

steps_come_to : (m : Memory) (q : Queue) (n : ℕ) (o : Option Visit) → ((w : Visit) → o ≡ Some w → w.earlier ≤ q.size) →
    ComesTo m q (onward (path m q.size n) o) (found m q.size (onward (path m q.size n) o))
unfolding path found
steps_come_to m q n None few = (All-nil (Passes m q), refl)
steps_come_to m q zero (Some v) few = (All-nil (Passes m q), refl)
steps_come_to m q (suc n) (Some v) few =
    let here : v.earlier ≤ q.size = few v refl in
    with_step m q n v (walk_step m q.size v) (step_is m q v here)
    (steps_come_to m q n (next_visit v (walk_step m q.size v)) (λ w e. still_few m q v w here (next_follows m q v w here e)))

walk_comes_to : (m : Memory) (q : Queue) (head : ℕ) → ComesTo m q (walk m q head) (chain m q head)
walk_comes_to m q head = steps_come_to m q (q.size + 2) (Some (first_visit q head)) few
  where
    few : (w : Visit) → Some (first_visit q head) ≡ Some w → w.earlier ≤ q.size
    few w e =
        let same : first_visit q head ≡ w = cc in
        let none : 0 ≡ w.earlier = ap (λ (u : Visit). u.earlier) same in
        omega (arith, none)

-- ---- what the steps of a walk come to is what it finds

-- no bytes, or no whole number of entries
length_test : (n : ℕ) → (n ≡ 0) ⊎ (0 < n % 16) → (n == 0 || not (n % 16 == 0)) ≡ true
length_test n (inl none) = rw none refl
length_test n (inr part) = rw (not_nothing (n % 16) part) (or_right (n == 0))
  where
    or_right : (b : Bool) → (b || true) ≡ true
    or_right true = refl
    or_right false = refl

within_length : (n : ℕ) → 0 < n → n % 16 ≡ 0 → (n == 0 || not (n % 16 == 0)) ≡ false
within_length n some whole = rw (not_nothing n some, whole) refl

unreadable : (m : Memory) (size : ℕ) (v : Visit) (b : Bool) → EntryIsUnreadable m v → v.table.indirect ≡ b →
    walk_step m size v ≡ cond b (Faulty TableUnreachable) Stops
unreadable m size v b h is = rw (lt-leb v.table.entries v.index h.inside, h.unread, is) refl

at_table : (m : Memory) (size : ℕ) (v : Visit) → NamesTable m v → walk_step m size v ≡ indirect_step v (entry_of m v)
at_table m size v h = rw (lt-leb v.table.entries v.index h.there.inside, h.there.read, h.indirect) refl

at_ordinary : (m : Memory) (size : ℕ) (v : Visit) → IsOrdinary m v → walk_step m size v ≡ ordinary_step size v (entry_of m v)
at_ordinary m size v h = rw (lt-leb v.table.entries v.index h.there.inside, h.there.read, h.ordinary) refl

fault_step : (m : Memory) (q : Queue) (v : Visit) (fault : ChainFault) → StepHasFault m q v fault → walk_step m q.size v ≡ Faulty fault
fault_step m q v NextOutOfTable h = rw (le-leb v.table.entries v.index h) refl
fault_step m q v TableUnreachable h = unreadable m q.size v true h.0 h.1
fault_step m q v IndirectWithNext h = at_table m q.size v h.0 ∙ rw h.1 refl
fault_step m q v IndirectNested h = at_table m q.size v h.0.names ∙ rw (h.0.last, h.1) refl
fault_step m q v IndirectLength h =
    at_table m q.size v h.0.names.names ∙ rw (h.0.names.last, h.0.own, length_test (entry_of m v).len h.1) refl
fault_step m q v AddressOverflow (inl h) =
    at_table m q.size v h.names.names.names
    ∙ rw (
      h.names.names.last,
      h.names.own,
      within_length (entry_of m v).len h.some h.whole,
      le-ltb ((entry_of m v).addr + (entry_of m v).len) (2 ^ 64) h.past,
    ) refl
fault_step m q v AddressOverflow (inr h) =
    at_ordinary m q.size v h.ordinary
    ∙ rw
    (fewer v.earlier q.size h.room, lt-ltb 0 (entry_of m v).len h.some, le-ltb ((entry_of m v).addr + (entry_of m v).len) (2 ^ 64) h.past)
    refl
fault_step m q v TooLong h = at_ordinary m q.size v h.0 ∙ rw (eq-eqb v.earlier q.size h.1) refl
fault_step m q v _ h = absurd h

-- what a step that passes adds to what others are found to be
adds : (m : Memory) (q : Queue) (v : Visit) (r : Found) → Passes m q v →
    after_walk_step (walk_step m q.size v) r ≡ cond (not (is_indirect (entry_of m v))) (with_front (entry_of m v) r) r
adds m q v r p = by_kind p.passes
  where
    by_kind : PassesOrdinary q v (entry_of m v) ⊎ PassesTable v (entry_of m v) →
        after_walk_step (walk_step m q.size v) r ≡ cond (not (is_indirect (entry_of m v))) (with_front (entry_of m v) r) r
    by_kind (inl passes) =
        ap (λ (x : WalkStep). after_walk_step x r) (next_ordinary m q v p.there passes)
        ∙ sym (ap (λ (b : Bool). cond (not b) (with_front (entry_of m v) r) r) passes.ordinary)
    by_kind (inr passes) =
        ap (λ (x : WalkStep). after_walk_step x r) (next_table m q.size v p.there passes)
        ∙ sym (ap (λ (b : Bool). cond (not b) (with_front (entry_of m v) r) r) passes.indirect)

in_chain :
    (d : Descriptor) (ds : List Descriptor) (b : Bool) → cond b (with_front d (IsChain ds)) (IsChain ds) ≡ IsChain (cond b (d ∷ ds) ds)
in_chain d ds true = refl
in_chain d ds false = refl

all_pass : (m : Memory) (q : Queue) (vs : List Visit) → All (Passes m q) vs → found m q.size vs ≡ IsChain (ordinary_entries m vs)
unfolding found
all_pass m q [] all = refl
all_pass m q (v ∷ vs) all =
    ap (after_walk_step (walk_step m q.size v)) (all_pass m q vs (All-tail (Passes m q) v vs all))
    ∙ adds m q v (IsChain (ordinary_entries m vs)) (All-head (Passes m q) v vs all)
    ∙ in_chain (entry_of m v) (ordinary_entries m vs) (not (is_indirect (entry_of m v)))

no_change : (d : Descriptor) (r : Found) (b : Bool) → with_front d r ≡ r → cond b (with_front d r) r ≡ r
no_change d r true same = same
no_change d r false same = refl

-- what the last step has, all have, where those before it pass and it is no chain
passed_on : (m : Memory) (q : Queue) (r : Found) (front : List Visit) (last : Visit) → ((d : Descriptor) → with_front d r ≡ r) →
    All (Passes m q) front →
    after_walk_step (walk_step m q.size last) (IsChain []) ≡ r → found m q.size (front ++ last ∷ []) ≡ r
unfolding found
passed_on m q r [] last same all here = here
passed_on m q r (v ∷ front) last same all here =
    ap (after_walk_step (walk_step m q.size v)) (passed_on m q r front last same (All-tail (Passes m q) v front all) here)
    ∙ adds m q v r (All-head (Passes m q) v front all)
    ∙ no_change (entry_of m v) r (not (is_indirect (entry_of m v))) (same (entry_of m v))

steps_found : (m : Memory) (q : Queue) (vs : List Visit) (r : Found) → ComesTo m q vs r → found m q.size vs ≡ r
steps_found m q vs (IsChain ds) to = all_pass m q vs to.0 ∙ ap IsChain (sym to.1)
steps_found m q vs (HasFault fault) to =
    ap (found m q.size) to.steps
    ∙ passed_on m q (HasFault fault) to.front to.last (λ d. refl) to.pass
    (ap (λ (x : WalkStep). after_walk_step x (IsChain [])) (fault_step m q to.last fault to.here))
steps_found m q vs StopsQueue to =
    ap (found m q.size) to.steps
    ∙ passed_on m q StopsQueue to.front to.last (λ d. refl) to.pass
    (ap (λ (x : WalkStep). after_walk_step x (IsChain [])) (unreadable m q.size to.last false to.here.0 to.here.1))

pub walks_find : (m : Memory) (q : Queue) (head : ℕ) (finds : Found) → (chain m q head ≡ finds) ↔ ComesTo m q (walk m q head) finds
walks_find m q head finds = (λ is. subst (ComesTo m q (walk m q head)) is (walk_comes_to m q head), steps_found m q (walk m q head) finds)
