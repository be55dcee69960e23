-- the walk from a head is the longest path
use Rattle.std.proofs.Common.{◌≡◌, ℕ, zero, suc, ◌+◌, ◌-◌, ◌/◌, ◌%◌, ◌^◌, ◌<◌, ◌≤◌, Bool, true, false, cond, not, ◌&&◌, nat_lt, nat_le}
use Rattle.std.proofs.Common.{List, [], ◌∷◌, ◌++◌, length}
use Rattle.std.proofs.Common.{length-append, Option, Some, None, ◌⊎◌, inl, inr, refl, ap, sym, ◌∙◌, subst, arith}
use Rattle.std.specs.Prelude.{◌==◌, ◌||◌, if◌then◌else◌}
use Rattle.std.proofs.lemmas.Bool.{eqb-true, eqb-false, ltb-true, ltb-false, leb-false, lt-ltb, leb-true, or_parts, and_right, not-false}
use Rattle.vm_iotlb.specs.declared.permissions.Permissions.TheVariants.{Read}
use Rattle.vm_memory.specs.Memory.{Memory, reach}
use Rattle.fs_queue.specs.declared.fault.ChainFault.{ChainFault}
use Rattle.fs_queue.specs.declared.fault.ChainFault.TheVariants.{TooLong, NextOutOfTable, AddressOverflow, IndirectWithNext, IndirectNested}
use Rattle.fs_queue.specs.declared.fault.ChainFault.TheVariants.{IndirectLength}
use Rattle.fs_queue.specs.Queue.{Queue}
use Rattle.fs_queue.specs.Chain.{Descriptor, DescriptorTable, Visit, WalkStep, Ordinary, Indirect, Faulty, Stops, has_next, is_indirect}
use Rattle.fs_queue.specs.Chain.{ends_in_64_bits, indirect_step}
use Rattle.fs_queue.specs.Chain.{ordinary_step, walk_step, walk_step_at, next_visit, onward, path, first_visit, walk}
use Rattle.fs_queue.specs.WalkingView.{in_table}
use Rattle.fs_queue.specs.Chain.{entry_address}
use Rattle.fs_queue.specs.Paths.{entry_of, EntryIsThere, PassesOrdinary, PassesTable, FollowsByNext, FollowsByTable, Follows, EachFollows}
use Rattle.fs_queue.specs.Paths.{IsPath, IsFront}
use Rattle.fs_queue.proofs.WalkLemmas.{tables_left}
use Rattle.fs_queue.proofs.BoundLemmas.{either, allowed, falls, steps_left}

-- ---- what follows is the walk's next step

pub not_nothing : (n : ℕ) → 0 < n → (n == 0) ≡ false
not_nothing n h = some (n == 0) refl
  where
    some : (b : Bool) → (n == 0) ≡ b → b ≡ false
    some false e = refl
    some true e = let none = eqb-true n 0 e in absurd (omega (arith, none, h))

within : (n k : ℕ) → n < k → nat_le k n ≡ false
within n k h = inside (nat_le k n) refl
  where
    inside : (b : Bool) → nat_le k n ≡ b → b ≡ false
    inside false e = refl
    inside true e = let over = leb-true k n e in absurd (omega (arith, over, h))

pub fewer : (n k : ℕ) → n < k → (n == k) ≡ false
fewer n k h = other (n == k) refl
  where
    other : (b : Bool) → (n == k) ≡ b → b ≡ false
    other false e = refl
    other true e = let same = eqb-true n k e in absurd (omega (arith, same, h))

-- where bytes end at an address, or there are none, there is no overflow
no_overflow : (d : Descriptor) → (d.len ≡ 0) ⊎ (d.addr + d.len < 2 ^ 64) → (nat_lt 0 d.len && not (ends_in_64_bits d)) ≡ false
no_overflow d (inl none) = rw none refl
no_overflow d (inr ends) = rw (lt-ltb (d.addr + d.len) (2 ^ 64) ends) (and_right (nat_lt 0 d.len) false refl)

pub next_ordinary : (m : Memory) (q : Queue) (v : Visit) → EntryIsThere m v → PassesOrdinary q v (entry_of m v) →
    walk_step m q.size v ≡ Ordinary (entry_of m v)
next_ordinary m q v there passes =
    rw (
      within v.index v.table.entries there.inside,
      there.read,
      passes.ordinary,
      fewer v.earlier q.size passes.room,
      no_overflow (entry_of m v) passes.ends,
    ) refl

same_visit : (v w : Visit) (d : Descriptor) → w.table ≡ v.table → w.index ≡ d.next → w.earlier ≡ v.earlier + 1 →
    in_table v.table d.next (v.earlier + 1) ≡ w
same_visit v w d table index earlier =
    ap (λ (t : DescriptorTable). in_table t d.next (v.earlier + 1)) (sym table)
    ∙ ap (λ n. in_table w.table n (v.earlier + 1)) (sym index)
    ∙ ap (in_table w.table w.index) (sym earlier)

next_by_next : (m : Memory) (q : Queue) (v w : Visit) → FollowsByNext m q v w → next_visit v (walk_step m q.size v) ≡ Some w
next_by_next m q v w f =
    ap (next_visit v) (next_ordinary m q v f.there f.passes) ∙ rw f.more (ap Some (same_visit v w (entry_of m v) f.table f.index f.earlier))

pub next_table : (m : Memory) (size : ℕ) (v : Visit) → EntryIsThere m v → PassesTable v (entry_of m v) →
    walk_step m size v ≡ Indirect (record { address = (entry_of m v).addr; entries = (entry_of m v).len / 16; indirect = true })
next_table m size v there passes =
    rw (
      within v.index v.table.entries there.inside,
      there.read,
      passes.indirect,
      passes.last,
      passes.own,
      not_nothing (entry_of m v).len passes.some,
      passes.whole,
      lt-ltb ((entry_of m v).addr + (entry_of m v).len) (2 ^ 64) passes.ends,
    ) refl

same_entry : (v w : Visit) (t : DescriptorTable) → w.table ≡ t → w.index ≡ 0 → w.earlier ≡ v.earlier → in_table t 0 v.earlier ≡ w
same_entry v w t table index earlier =
    ap (λ (x : DescriptorTable). in_table x 0 v.earlier) (sym table) ∙ ap (λ n. in_table w.table n v.earlier) (sym index)
    ∙ ap (in_table w.table w.index) (sym earlier)

next_by_table : (m : Memory) (size : ℕ) (v w : Visit) → FollowsByTable m v w → next_visit v (walk_step m size v) ≡ Some w
next_by_table m size v w f = ap (next_visit v) (next_table m size v f.there f.passes) ∙ ap Some (same_entry v w _ f.table f.index f.earlier)

-- a step that comes after another is the next of the walk
next_is : (m : Memory) (q : Queue) (v w : Visit) → Follows m q v w → next_visit v (walk_step m q.size v) ≡ Some w
next_is m q v w (inl f) = next_by_next m q v w f
next_is m q v w (inr f) = next_by_table m q.size v w f

-- ---- the walk's next step follows

-- whatever is the step after one comes after it
Proceeds : Memory → Queue → Visit → WalkStep → Type 0
Proceeds m q v x = (w : Visit) → next_visit v x ≡ Some w → Follows m q v w

proceeds_faulty : (m : Memory) (q : Queue) (v : Visit) (f : ChainFault) → Proceeds m q v (Faulty f)
unfolding Proceeds
proceeds_faulty m q v f w e = absurd (cc)

proceeds_stops : (m : Memory) (q : Queue) (v : Visit) → Proceeds m q v Stops
unfolding Proceeds
proceeds_stops m q v w e = absurd (cc)

past : (m : Memory) (q : Queue) (v : Visit) (b : Bool) (f : ChainFault) (x : WalkStep) → (b ≡ false → Proceeds m q v x) →
    Proceeds m q v (cond b (Faulty f) x)
past m q v true f x h = proceeds_faulty m q v f
past m q v false f x h = h refl

by_next :
    (m : Memory) (q : Queue) (v w : Visit) (b : Bool) → EntryIsThere m v → PassesOrdinary q v (entry_of m v) → has_next (entry_of m v) ≡ b →
    (if b then Some (in_table v.table (entry_of m v).next (v.earlier + 1)) else None) ≡ Some w → FollowsByNext m q v w
by_next m q v w false there passes is e = absurd (cc)
by_next m q v w true there passes is e =
    let same : in_table v.table (entry_of m v).next (v.earlier + 1) ≡ w = cc in
    record {
      there = there;
      passes = passes;
      more = is;
      table = sym (ap (λ (u : Visit). u.table) same);
      index = sym (ap (λ (u : Visit). u.index) same);
      earlier = sym (ap (λ (u : Visit). u.earlier) same);
    }

proceeds_next :
    (m : Memory) (q : Queue) (v : Visit) → EntryIsThere m v → PassesOrdinary q v (entry_of m v) → Proceeds m q v (Ordinary (entry_of m v))
unfolding Proceeds
proceeds_next m q v there passes w e = inl (by_next m q v w (has_next (entry_of m v)) there passes refl e)

proceeds_table : (m : Memory) (q : Queue) (v : Visit) → EntryIsThere m v → PassesTable v (entry_of m v) →
    Proceeds m q v (Indirect (record { address = (entry_of m v).addr; entries = (entry_of m v).len / 16; indirect = true }))
unfolding Proceeds
proceeds_table m q v there passes w e =
    let same : in_table (record { address = (entry_of m v).addr; entries = (entry_of m v).len / 16; indirect = true }) 0 v.earlier
    ≡ w = cc in
    inr (record {
      there = there;
      passes = passes;
      table = sym (ap (λ (u : Visit). u.table) same);
      index = sym (ap (λ (u : Visit). u.index) same);
      earlier = sym (ap (λ (u : Visit). u.earlier) same);
    })

pub some_bytes : (n : ℕ) → (n == 0) ≡ false → 0 < n
some_bytes zero h = absurd (cc)
some_bytes (suc n) h = omega arith

pub ends_or_none : (d : Descriptor) (b c : Bool) → nat_lt 0 d.len ≡ b → ends_in_64_bits d ≡ c → (b && not c) ≡ false →
    (d.len ≡ 0) ⊎ (d.addr + d.len < 2 ^ 64)
ends_or_none d false c some ends h = let none = ltb-false 0 d.len some in inl (omega (arith, none))
ends_or_none d true true some ends h = inr (ltb-true (d.addr + d.len) (2 ^ 64) ends)
ends_or_none d true false some ends h = absurd (cc)

-- no more than the size, and not as many, are fewer
pub room_left : (n size : ℕ) → n ≤ size → (n == size) ≡ false → n < size
room_left n size le h = let other = eqb-false n size h in omega (arith, le, other)

proceeds_ordinary : (m : Memory) (q : Queue) (v : Visit) → v.earlier ≤ q.size → EntryIsThere m v → is_indirect (entry_of m v) ≡ false →
    Proceeds m q v (ordinary_step q.size v (entry_of m v))
proceeds_ordinary m q v few there plain =
    past m q v (v.earlier == q.size) TooLong _ (λ more.
    past m q v (nat_lt 0 (entry_of m v).len && not (ends_in_64_bits (entry_of m v))) AddressOverflow _ (λ ends.
    proceeds_next m q v there
    (record { ordinary = plain; room = room_left v.earlier q.size few more; ends = ends_or_none (entry_of m v) _ _ refl refl ends })))

proceeds_indirect : (m : Memory) (q : Queue) (v : Visit) → EntryIsThere m v → is_indirect (entry_of m v) ≡ true →
    Proceeds m q v (indirect_step v (entry_of m v))
proceeds_indirect m q v there named =
    past m q v (has_next (entry_of m v)) IndirectWithNext _ (λ last. past m q v v.table.indirect IndirectNested _ (λ own.
    past m q v ((entry_of m v).len == 0 || not ((entry_of m v).len % 16 == 0)) IndirectLength _ (λ length.
    past m q v (not (ends_in_64_bits (entry_of m v))) AddressOverflow _ (λ ends.
    let parts = or_parts ((entry_of m v).len == 0) (not ((entry_of m v).len % 16 == 0)) length in
    proceeds_table m q v there (record {
      indirect = named;
      last = last;
      own = own;
      some = some_bytes (entry_of m v).len parts.0;
      whole = eqb-true ((entry_of m v).len % 16) 0 (not-false _ parts.1);
      ends = ltb-true ((entry_of m v).addr + (entry_of m v).len) (2 ^ 64) (not-false _ ends);
    })))))

proceeds_at : (m : Memory) (q : Queue) (v : Visit) → v.earlier ≤ q.size → v.index < v.table.entries →
    Proceeds m q v (walk_step_at m q.size v (entry_address v))
proceeds_at m q v few inside =
    either (Proceeds m q v) (not (reach m Read (entry_address v) 16)) _ _
    (λ _. either (Proceeds m q v) v.table.indirect _ _ (λ _. proceeds_faulty m q v _) (λ _. proceeds_stops m q v))
    (λ read. either (Proceeds m q v) (is_indirect (entry_of m v)) _ _
    (λ named. proceeds_indirect m q v (record { inside = inside; read = not-false _ read }) named)
    (λ plain. proceeds_ordinary m q v few (record { inside = inside; read = not-false _ read }) plain))

proceeds : (m : Memory) (q : Queue) (v : Visit) → v.earlier ≤ q.size → Proceeds m q v (walk_step m q.size v)
proceeds m q v few =
    past m q v (nat_le v.table.entries v.index) NextOutOfTable _
    (λ inside. proceeds_at m q v few (leb-false v.table.entries v.index inside))

-- the next step of the walk comes after this one
pub next_follows :
    (m : Memory) (q : Queue) (v w : Visit) → v.earlier ≤ q.size → next_visit v (walk_step m q.size v) ≡ Some w → Follows m q v w
unfolding Proceeds
next_follows m q v w few e = proceeds m q v few w e

-- no more descriptors come before a step that follows than the queue has
pub still_few : (m : Memory) (q : Queue) (v w : Visit) → v.earlier ≤ q.size → Follows m q v w → w.earlier ≤ q.size
still_few m q v w few (inl f) =
    let one = f.earlier in
    let room = f.passes.room in
    omega (arith, one, room)
still_few m q v w few (inr f) = let same = f.earlier in omega (arith, same, few)

-- ---- whole paths

onward_follows :
    (m : Memory) (q : Queue) (n : ℕ) (v : Visit) (o : Option Visit) → v.earlier ≤ q.size → ((w : Visit) → o ≡ Some w → Follows m q v w) →
    EachFollows m q v (onward (path m q.size n) o)
unfolding EachFollows path
onward_follows m q n v None few h = tt
onward_follows m q zero v (Some w) few h = tt
onward_follows m q (suc n) v (Some w) few h =
    let after : w.earlier ≤ q.size = still_few m q v w few (h w refl) in
    (h w refl, onward_follows m q n w (next_visit w (walk_step m q.size w)) after (λ u e. next_follows m q w u after e))

pub walks_are_paths : (m : Memory) (q : Queue) (head : ℕ) → IsPath m q head (walk m q head)
unfolding path
walks_are_paths m q head =
    let count : suc (q.size + 1) ≡ q.size + 2 = omega arith in
    let first = first_visit q head in
    let few : first.earlier ≤ q.size = omega arith in
    subst (λ n. IsPath m q head (path m q.size n first)) count
    (refl, onward_follows m q (q.size + 1) first (next_visit first (walk_step m q.size first)) few (λ w e. next_follows m q first w few e))

front_path :
    (m : Memory) (q : Queue) (n : ℕ) (v : Visit) (ws : List Visit) → v.earlier ≤ q.size → steps_left q.size v ≤ n → EachFollows m q v ws →
    IsFront (v ∷ ws) (path m q.size n v)
unfolding path EachFollows
front_path m q zero v ws few le f = absurd (some_steps v.table.indirect le)
  where
    some_steps : (b : Bool) → q.size - v.earlier + tables_left b ≤ 0 → ⊥
    some_steps true h = omega arith
    some_steps false h = omega arith
front_path m q (suc n) v [] few le f = (onward (path m q.size n) (next_visit v (walk_step m q.size v)), refl)
front_path m q (suc n) v (w ∷ ws) few le f =
    let next : next_visit v (walk_step m q.size v) ≡ Some w = next_is m q v w f.0 in
    let less : (steps_left q.size w < steps_left q.size v) × (w.earlier ≤ q.size) =
    rw next at (falls q.size v (walk_step m q.size v) few (allowed m q.size v)) in
    let one = less.0 in
    let rest = front_path m q n w ws less.1 (omega (arith, one, le)) f.1 in
    (rest.0, ap (λ (o : Option Visit). v ∷ onward (path m q.size n) o) next ∙ ap (λ (us : List Visit). v ∷ us) rest.1)

pub paths_are_fronts : (m : Memory) (q : Queue) (head : ℕ) (vs : List Visit) → IsPath m q head vs → IsFront vs (walk m q head)
paths_are_fronts m q head [] p = absurd p
paths_are_fronts m q head (v ∷ vs) p =
    let few : v.earlier ≤ q.size = rw p.0 (omega arith) in
    let bound : steps_left q.size v ≤ q.size + 2 = rw p.0 (omega arith) in
    let front = front_path m q (q.size + 2) v vs few bound p.1 in
    (front.0, ap (path m q.size (q.size + 2)) (sym p.0) ∙ front.1)

push_follows : (m : Memory) (q : Queue) (v : Visit) (front : List Visit) (last next : Visit) → EachFollows m q v (front ++ last ∷ []) →
    Follows m q last next →
    EachFollows m q v (front ++ last ∷ next ∷ [])
unfolding EachFollows
push_follows m q v [] last next e f = (e.0, (f, tt))
push_follows m q v (u ∷ front) last next e f = (e.0, push_follows m q u front last next e.1 f)

longer : (m : Memory) (q : Queue) (head : ℕ) (front : List Visit) (last next : Visit) → IsPath m q head (front ++ last ∷ []) →
    Follows m q last next →
    IsPath m q head (front ++ last ∷ next ∷ [])
unfolding EachFollows
longer m q head [] last next p f = (p.0, (f, tt))
longer m q head (v ∷ front) last next p f = (p.0, push_follows m q v front last next p.1 f)

pub nothing_follows : (m : Memory) (q : Queue) (head : ℕ) (front : List Visit) (last next : Visit) → walk m q head ≡ front ++ last ∷ [] →
    Follows m q last next → ⊥
nothing_follows m q head front last next is f =
    let here : IsPath m q head (front ++ last ∷ []) = subst (IsPath m q head) is (walks_are_paths m q head) in
    let more = paths_are_fronts m q head (front ++ last ∷ next ∷ []) (longer m q head front last next here f) in
    let short : length (walk m q head) ≡ length front + 1 = ap length is ∙ length-append front (last ∷ []) in
    let long : length (walk m q head) ≡ length (front ++ last ∷ next ∷ []) + length more.0 =
    ap length more.1 ∙ length-append (front ++ last ∷ next ∷ []) more.0 in
    let two : length (front ++ last ∷ next ∷ []) ≡ length front + 2 = length-append front (last ∷ next ∷ []) in
    omega (arith, short, long, two)
