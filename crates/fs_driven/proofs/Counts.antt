-- How many chains of a queue are in flight, as one is popped, pushed or given up.
use Rattle.std.proofs.Common.{◌≡◌, ◌+◌, ◌-◌, ◌%◌, ◌<◌, ◌≤◌, ◌^◌, ℕ, suc, Bool, true, false, List, [], ◌∷◌, ◌++◌, IsTrue, if◌then◌else◌}
use Rattle.std.proofs.Common.{◌==◌, ◌∙◌, arith, eq-eqb, eqb-true, refl, subst, sym, ap}
use Rattle.std.proofs.lemmas.Bool.{ltb-true}
use Rattle.fs_queue.specs.declared.fault.QueueError.{QueueError}
use Rattle.fs_queue.specs.Queue.{with_stop}
use Rattle.fs_queue.specs.Taking.{after_refusal, stops_queue}
use Rattle.live_machine.specs.Several.{LiveQueue, gave, gave_up, in_flight, may_take, took}
use Rattle.fs_chain.specs.Holds.{live_of}
use Rattle.fs_chain.specs.Queues as queues
use Rattle.fs_chain.specs.declared.queue.QueueState.{QueueState}
use Rattle.fs_chain.specs.Together.{Owned}
use Rattle.fs_driven.specs.Drivers.{HasInFlight, number_of}

-- as many as before, one more, or one less
abbrev pub CountsSame : (w w' : LiveQueue) → Type 0
CountsSame w w' = (n : ℕ) → HasInFlight w n → HasInFlight w' n

abbrev pub CountsMore : (w w' : LiveQueue) → Type 0
CountsMore w w' = (n : ℕ) → HasInFlight w n → HasInFlight w' (suc n)

abbrev pub CountsLess : (w w' : LiveQueue) → Type 0
CountsLess w w' = (n : ℕ) → HasInFlight w (suc n) → HasInFlight w' n

pub same_count : (w w' : LiveQueue) → w' ≡ w → CountsSame w w'
same_count w w' is n has = subst (λ (v : LiveQueue). HasInFlight v n) (sym is) has

more_ahead : (p u most n : ℕ) → (p + (2 ^ 16 - u)) % 2 ^ 16 < most → most < 2 ^ 16 → u < 2 ^ 16
    → n ≤ (p + (2 ^ 16 - u)) % 2 ^ 16 → suc n ≤ ((p + 1) % 2 ^ 16 + (2 ^ 16 - u)) % 2 ^ 16
more_ahead p u most n room few small has = omega arith

pub took_counts : (w : LiveQueue) → IsTrue (may_take w) → CountsMore w (took w)
took_counts w room n has few small =
    more_ahead w.queue.position w.next_used w.max_in_flight n
    (ltb-true (in_flight w) w.max_in_flight room) few small (has few small)

less_ahead : (p u n : ℕ) → u < 2 ^ 16 → suc n ≤ (p + (2 ^ 16 - u)) % 2 ^ 16
    → n ≤ (p + (2 ^ 16 - (u + 1) % 2 ^ 16)) % 2 ^ 16
less_ahead p u n small has = omega arith

pub gave_counts : (w : LiveQueue) → w.next_used < 2 ^ 16 → CountsLess w (gave w)
gave_counts w small n has few now = less_ahead w.queue.position w.next_used n small (has few small)

one_back : (p u n : ℕ) → u < 2 ^ 16 → suc n ≤ (p + (2 ^ 16 - u)) % 2 ^ 16
    → n ≤ ((p + (2 ^ 16 - 1)) % 2 ^ 16 + (2 ^ 16 - u)) % 2 ^ 16
one_back p u n small has = omega arith

pub gave_up_counts : (w : LiveQueue) → CountsLess w (gave_up w)
gave_up_counts w n has few small = one_back w.queue.position w.next_used n small (has few small)

-- the same of a queue's state
pub pushed_counts : (q q' : QueueState) → q' ≡ queues.gave q → q.next_used < 2 ^ 16 →
    CountsLess (live_of q) (live_of q')
pushed_counts q q' is small n has =
    same_count (gave (live_of q)) (live_of q') (ap live_of is) n (gave_counts (live_of q) small n has)

pub given_up_counts : (q q' : QueueState) → q' ≡ queues.gave_up q → CountsLess (live_of q) (live_of q')
given_up_counts q q' is n has =
    same_count (gave_up (live_of q)) (live_of q') (ap live_of is) n (gave_up_counts (live_of q) n has)

-- a queue that is refused has as many
pub refused_counts : (w : LiveQueue) (e : QueueError) → CountsSame w (record w { queue = after_refusal w.queue e })
refused_counts w e n has = by_stop (stops_queue e)
  where
    by_stop : (b : Bool) → HasInFlight (record w { queue = if b then with_stop w.queue else w.queue }) n
    by_stop true = has
    by_stop false = has

-- ---- the chains of a queue with one more

pub number_other : (i : ℕ) (xs ys : List Owned) (x y : Owned) → x.chain.queue ≡ y.chain.queue →
    number_of i (xs ++ x ∷ ys) ≡ number_of i (xs ++ y ∷ ys)
number_other i [] ys x y same =
    ap (λ (n : ℕ). if n == i then suc (number_of i ys) else number_of i ys) same
number_other i (z ∷ xs) ys x y same =
    ap (λ (n : ℕ). if z.chain.queue == i then suc n else n) (number_other i xs ys x y same)

-- one more, if it is of the queue
number_by : (i : ℕ) (xs ys : List Owned) (x : Owned) (b : Bool) → (x.chain.queue == i) ≡ b →
    number_of i (xs ++ x ∷ ys) ≡ (if b then suc (number_of i (xs ++ ys)) else number_of i (xs ++ ys))
number_by i [] ys x b is = ap (λ (t : Bool). if t then suc (number_of i ys) else number_of i ys) is
number_by i (z ∷ xs) ys x b is =
    ap (λ (n : ℕ). if z.chain.queue == i then suc n else n) (number_by i xs ys x b is)
    ∙ swapped (z.chain.queue == i) b (number_of i (xs ++ ys))
  where
    swapped : (a b : Bool) (n : ℕ) → (if a then suc (if b then suc n else n) else (if b then suc n else n))
        ≡ (if b then suc (if a then suc n else n) else (if a then suc n else n))
    swapped true true n = refl
    swapped true false n = refl
    swapped false true n = refl
    swapped false false n = refl

pub number_one : (i : ℕ) (xs ys : List Owned) (x : Owned) → x.chain.queue ≡ i →
    number_of i (xs ++ x ∷ ys) ≡ suc (number_of i (xs ++ ys))
number_one i xs ys x is = number_by i xs ys x true (eq-eqb x.chain.queue i is)

pub number_same : (i : ℕ) (xs ys : List Owned) (x : Owned) → (x.chain.queue ≡ i → ⊥) →
    number_of i (xs ++ x ∷ ys) ≡ number_of i (xs ++ ys)
number_same i xs ys x apart = by_test (x.chain.queue == i) refl
  where
    by_test : (b : Bool) → (x.chain.queue == i) ≡ b → number_of i (xs ++ x ∷ ys) ≡ number_of i (xs ++ ys)
    by_test true is = absurd (apart (eqb-true x.chain.queue i is))
    by_test false is = number_by i xs ys x false is
