-- The guest addresses that C gets for a migration's log.
use Rattle.std.proofs.Common.{arith, ◌≡◌, inl, inr, ℕ, zero, suc, ◌+◌, ◌-◌, ◌%◌, ◌^◌, ◌<◌, ◌≤◌, ◌==◌, ◌&&◌, min, Bool, true, false, not}
use Rattle.std.proofs.Common.{List, [], ◌∷◌, ◌++◌, drop, length, take, take-append-drop, Some, None, refl, subst, sym, ap, ◌∙◌}
use Rattle.std.proofs.Common.{if◌then◌else◌}
use Rattle.std.specs.List.{AllByRecursion}
use Rattle.std.proofs.lemmas.Bool.{and_parts, eqb-true}
use Rattle.std.proofs.lemmas.List.{drop-drop, drop-take, take-take, take_at}
use Rattle.vm_memory.specs.Memory.{addresses}
use Rattle.vm_memory.proofs.Places.{addresses-append, length-addresses}
use Rattle.fs_queue.specs.Queue.{Queue, element_at, index_at}
use Rattle.fs_queue.specs.Returning.{Store}
use Rattle.fs_queue.specs.WalkingView.{at_position}
use Rattle.fs_queue.specs.declared.layout.QueueLayout.{QueueLayout}
use Rattle.fs_chain.specs.Orders.{push_refusal}
use Rattle.fs_chain.specs.Pushes.{IfReplied, PushesBy}
use Rattle.fs_chain.specs.Queues.{at_return, in_flight, is_laid_out, is_in_flight_of}
use Rattle.fs_chain.specs.declared.error.ChainError.TheVariants as error
use Rattle.fs_chain.specs.declared.pushing.PushStores.{PushStores}
use Rattle.fs_chain.specs.declared.queue.QueueState.{QueueState}
use Rattle.fs_chain.specs.declared.state.ChainState as state
use Rattle.fs_chain.specs.declared.state.ChainState.TheVariants as at
use Rattle.fs_chain_c.specs.Logging.{PushReportsAddresses, RangesAreRoom, addresses_in, reply_buffer}
use Rattle.fs_chain_c.specs.Ranges.{range_bytes}
use Rattle.fs_chain_c.proofs.CalledLemmas.{no_error, no_queue}

-- ---- ranges

all_drop : (n : ℕ) (P : ℕ → Type 0) (xs : List ℕ) → AllByRecursion P xs → AllByRecursion P (drop n xs)
all_drop zero P xs all = all
all_drop (suc n) P [] all = tt
all_drop (suc n) P (x ∷ xs) all = all_drop n P xs all.1

all_take : (n : ℕ) (P : ℕ → Type 0) (xs : List ℕ) → AllByRecursion P xs → AllByRecursion P (take n xs)
all_take (suc n) P (x ∷ xs) all = (all.0, all_take n P xs all.1)
all_take _ P _ all = tt

first_of_all : (a n : ℕ) (P : ℕ → Type 0) → 0 < n → AllByRecursion P (addresses a n) → P a
unfolding addresses
first_of_all a zero P some all = absurd (omega (arith, some))
first_of_all a (suc n) P some all = all.0

addresses_front : (a n len : ℕ) → n ≤ len → addresses a n ≡ take n (addresses a len)
addresses_front a n len few =
    let both : n + (len - n) ≡ len = omega (arith, few) in
    sym (take_at (addresses a n) (addresses (a + n) (len - n)) n (length-addresses n a))
    ∙ ap (λ (l : List ℕ). take n l) (sym (addresses-append n (len - n) a) ∙ ap (λ (k : ℕ). addresses a k) both)

take_sum : (m n : ℕ) (xs : List ℕ) → take (m + n) xs ≡ take m xs ++ take n (drop m xs)
take_sum m n xs =
    sym (take-append-drop m (take (m + n) xs)) ∙ ap (λ (l : List ℕ). l ++ drop m (take (m + n) xs)) (take-take m (m + n) xs (omega arith))
    ∙ ap (λ (l : List ℕ). take m xs ++ l) (drop-take m n xs)

low_again : (a : ℕ) → a < 2 ^ 64 → a % 2 ^ 64 ≡ a
low_again a low = omega (arith, low)

no_more : (n most len : ℕ) → len ≡ min n most → len ≤ n
no_more n most len is = grind arith

pub ranges : RangesAreRoom
ranges b from most [] all are = refl
ranges b from most (r ∷ rs) all are =
    let xs = reply_buffer b in
    let one = are.0 in
    let n = one.1 in
    let range = one.2 in
    let a = range.1 in
    let few : r.len ≤ n = no_more n most r.len one.3 in
    let low : a < 2 ^ 64 =
    first_of_all a n (λ x. x < 2 ^ 64) range.0
    (subst (λ (l : List ℕ). AllByRecursion (λ x. x < 2 ^ 64) l) range.3
    (all_take n (λ x. x < 2 ^ 64) (drop from xs) (all_drop from (λ x. x < 2 ^ 64) xs all))) in
    let guest : r.guest ≡ a = range.2 ∙ low_again a low in
    let first : addresses r.guest r.len ≡ take r.len (drop from xs) =
    ap (λ (x : ℕ). addresses x r.len) guest ∙ addresses_front a r.len n few ∙ ap (λ (l : List ℕ). take r.len l) (sym range.3)
    ∙ take-take r.len n (drop from xs) few in
    let rest = ranges b (from + r.len) (most - r.len) rs all are.1 in
    ap (λ (l : List ℕ). l ++ addresses_in rs) first
    ∙ ap (λ (l : List ℕ). take r.len (drop from xs) ++ l)
    (rest ∙ ap (λ (l : List ℕ). take (range_bytes rs) l) (sym (drop-drop r.len from xs)))
    ∙ sym (take_sum r.len (range_bytes rs) (drop from xs))

-- ---- element and index

same_layout : (a b : QueueLayout) (position : ℕ) → is_laid_out a b ≡ true → at_position a position ≡ at_position b position
same_layout a b position is =
    let one = and_parts (a.size == b.size && a.desc == b.desc && a.avail == b.avail) (a.used == b.used) is in
    let two = and_parts (a.size == b.size && a.desc == b.desc) (a.avail == b.avail) one.0 in
    let three = and_parts (a.size == b.size) (a.desc == b.desc) two.0 in
    let q : (size desc avail used : ℕ) → Queue =
    λ size desc avail used. record { size = size; desc = desc; avail = avail; used = used; position = position; stopped = false } in
    ap (λ (n : ℕ). q n a.desc a.avail a.used) (eqb-true a.size b.size three.0)
    ∙ ap (λ (n : ℕ). q b.size n a.avail a.used) (eqb-true a.desc b.desc three.1)
    ∙ ap (λ (n : ℕ). q b.size b.desc n a.used) (eqb-true a.avail b.avail two.1)
    ∙ ap (λ (n : ℕ). q b.size b.desc b.avail n) (eqb-true a.used b.used one.1)

out_tests : (out pushing short : Bool) → (if not out then Some error.OtherQueue
    else if pushing then Some error.Pushing
    else if short then Some error.ShortBuffer else None) ≡ None → out ≡ true
out_tests true pushing short none = refl
out_tests false pushing short none = cc

abbrev first_address : List Store → ℕ
first_address [] = 0
first_address (s ∷ ss) = s.address

abbrev third_address : List Store → ℕ
third_address (a ∷ b ∷ s ∷ ss) = s.address
third_address _ = 0

abbrev AreThere : QueueState → PushStores → Type 0
AreThere k s =
    (s.used.head.address ≡ element_at (at_position k.layout k.next_used))
    × (s.used.index.address ≡ index_at (at_position k.layout k.next_used))

pushed_there : (st : state.ChainState) (k : QueueState) (len : ℕ) (s : PushStores) → push_refusal st k len ≡ None
    → IfReplied st (λ out reply. PushesBy k out reply s) → AreThere k s
pushed_there (at.Replied out reply) k len s none by =
    let out_is = out_tests (is_in_flight_of k out) k.pushing _ none in
    let laid = (and_parts (not (in_flight k == 0) && k.reset_count == out.pop_id.reset_count) (is_laid_out k.layout out.course.layout)
    out_is).1 in
    let same : at_return k out ≡ at_position k.layout k.next_used = sym (same_layout k.layout out.course.layout k.next_used laid) in
    (ap first_address by.1 ∙ ap element_at same, ap third_address by.1 ∙ ap index_at same)
pushed_there _ k len s none by = absurd (cc)

pub pushes : PushReportsAddresses
pushes b b' q q' front front' filled (inl none) = absurd (no_queue q none.1)
pushes b b' q q' front front' filled (inr is) = elim is.3 [
  | inl done ↦
      let k = is.1 in
      let so = done.1 in
      let s = so.0 in
      let there = pushed_there b.state k (length front) s done.0 so.2 in
      let mapped : (filled.element_guest ≡ s.used.head.address) × (filled.index_guest ≡ s.used.index.address) =
      elim so.4 [ inl here ↦ (here.1.8, here.1.9) | inr lost ↦ absurd (cc lost.0) ] in
      (k, is.2, mapped.0 ∙ there.0, mapped.1 ∙ there.1)
  | inr why ↦ absurd (no_error why.0 why.3)
]
