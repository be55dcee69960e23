-- Drops and returns of chains in flight.
use Rattle.std.proofs.Common.{arith, ◌≡◌, ℕ, ◌+◌, ◌-◌, ◌%◌, ◌^◌, ◌<◌, ◌==◌, ◌&&◌, ◌||◌, Bool, true, false, not, Some, None, refl, sym, ap}
use Rattle.std.proofs.Common.{nat_lt, nat_le, if◌then◌else◌, subst, ◌∙◌}
use Rattle.std.proofs.lemmas.Bool.Decides.{nat_tests}
use Rattle.fs_chain.specs.declared.error.ChainError.TheVariants.{ChainInFlight, OtherQueue, WrongOrder}
use Rattle.fs_chain.specs.declared.queue.QueueState.{QueueState}
use Rattle.fs_chain.specs.declared.state.InFlight.{InFlight}
use Rattle.fs_chain.specs.declared.state.ChainState as state
use Rattle.fs_chain.specs.declared.state.ChainState.TheVariants as at
use Rattle.fs_chain.specs.Orders.{end_error}
use Rattle.fs_chain.specs.Queues.{gave, is_laid_out, is_last, is_in_flight_of, in_flight, gave_up}
use Rattle.notify.specs.Threads.{ThreadedQueue, Walker, is_free, walks, is_rearmer}
use Rattle.fs_notify.specs.Takers.{DropIsAnAct, FullIsAnAct, ReturnIsAnAct}

-- ---- how many are in flight

some_out : (n : ℕ) (same laid : Bool) → (not (n == 0) && same && laid) ≡ true → 0 < n
some_out n same laid is = grind (arith, nat_tests)

out_of_queue : (q : QueueState) (out : InFlight) → is_in_flight_of q out ≡ true → 0 < in_flight q
out_of_queue q out is = some_out (in_flight q) (q.reset_count == out.pop_id.reset_count) (is_laid_out q.layout out.course.layout) is

-- one less by a drop, and by a return
one_dropped : (p r : ℕ) → p < 2 ^ 16 → r < 2 ^ 16 → 0 < (p + (2 ^ 16 - r)) % 2 ^ 16
    → (p + (2 ^ 16 - r)) % 2 ^ 16 - 1 ≡ ((p + (2 ^ 16 - 1)) % 2 ^ 16 + (2 ^ 16 - r)) % 2 ^ 16
one_dropped p r fp fr some = omega arith

one_returned : (p r : ℕ) → p < 2 ^ 16 → r < 2 ^ 16 → 0 < (p + (2 ^ 16 - r)) % 2 ^ 16
    → (p + (2 ^ 16 - r)) % 2 ^ 16 - 1 ≡ (p + (2 ^ 16 - (r + 1) % 2 ^ 16)) % 2 ^ 16
one_returned p r fp fr some = omega arith

lt_of : (n : ℕ) → 0 < n → nat_lt 0 n ≡ true
lt_of n some = grind (arith, nat_tests)

le_of : (n : ℕ) → 0 < n → nat_le 1 n ≡ true
le_of n some = grind (arith, nat_tests)

both : (a b : Bool) → a ≡ true → b ≡ true → (a && b) ≡ true
both a b is so = rw (is, so) refl

-- ---- a drop

dropped_of :
    (out_of last : Bool) → (if not out_of then Some OtherQueue else if not last then Some WrongOrder else None) ≡ None → out_of ≡ true
dropped_of true last none = refl
dropped_of false last none = cc

pub drops : DropIsAnAct
drops q out s counted ok is walker =
    let some = out_of_queue q out (dropped_of (is_in_flight_of q out) (is_last q out) ok) in
    let same : s.out - 1 ≡ in_flight (gave_up q) =
    ap (λ (n : ℕ). n - 1) is.1 ∙ one_dropped q.next_avail q.next_used counted.0 counted.1 some in (
      both (walks s.holder) (nat_lt 0 s.out) (ap walks walker) (lt_of s.out (subst (λ (n : ℕ). 0 < n) (sym is.1) some)),
      (ap (λ (n : ℕ). (n + (2 ^ 16 - 1)) % 2 ^ 16) is.0, same),
    )

-- ---- a return

ended_of : (q : QueueState) (from : state.ChainState) → end_error from q ≡ None → 0 < in_flight q
ended_of q (at.Pushing out) ok = out_of_queue q out (ended (is_in_flight_of q out) q.pushing ok)
  where
    ended : (out_of returning : Bool) → (if out_of && returning then None else Some OtherQueue) ≡ None → out_of ≡ true
    ended true returning none = refl
    ended false returning none = cc
ended_of q _ ok = cc

holds_lock : (s : ThreadedQueue) (rest : Bool) → s.holder ≡ Walker → (not (is_free s.holder) || rest) ≡ true
holds_lock s rest walker = rw walker refl

pub ends_return : ReturnIsAnAct
ends_return q from s counted ok is walker =
    let some = ended_of q from ok in
    let same : s.out - 1 ≡ in_flight (gave q) =
    ap (λ (n : ℕ). n - 1) is.1 ∙ one_returned q.next_avail q.next_used counted.0 counted.1 some in (
      both (not (is_free s.holder) || (nat_lt 0 s.comers || false)) (nat_le 1 s.out) (holds_lock s (nat_lt 0 s.comers || false) walker)
          (le_of s.out (subst (λ (n : ℕ). 0 < n) (sym is.1) some)),
      (is.0, same),
    )

-- ---- as many as may be

full_of : (n most : ℕ) → (if not (nat_lt n most) then Some ChainInFlight else None) ≡ Some ChainInFlight → nat_le most n ≡ true
full_of n most is = by_test (nat_lt n most) refl is
  where
    by_test : (b : Bool) → nat_lt n most ≡ b → (if not b then Some ChainInFlight else None) ≡ Some ChainInFlight → nat_le most n ≡ true
    by_test true e is = cc
    by_test false e is = grind (arith, nat_tests)

or_full : (none full : Bool) → full ≡ true → (none || full) ≡ true
or_full true full is = refl
or_full false full is = is

three : (a b c : Bool) → a ≡ true → b ≡ true → c ≡ true → (a && (b && c)) ≡ true
three a b c is so too = rw (is, so, too) refl

pub full : FullIsAnAct
full q s error is asker shown = (
  three (is_rearmer s.holder) (not s.hidden) (s.index == s.position || nat_le q.max_in_flight s.out) (ap is_rearmer asker) (ap not shown)
      (or_full (s.index == s.position) (nat_le q.max_in_flight s.out) (rw is.1 (full_of (in_flight q) q.max_in_flight error))),
  is,
)
