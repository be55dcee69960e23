-- Returns, as the giver's steps.
use Rattle.std.proofs.Common.{◌≡◌, ℕ, ◌+◌, ◌^◌, ◌<◌, ◌==◌, ◌||◌, Bool, true, false, not, List, [], ◌∷◌, refl, sym, ap, ◌∙◌, if◌then◌else◌}
use Rattle.std.proofs.Common.{nat_le, nat_lt, arith, ◌≤◌, ◌&&◌, subst}
use Rattle.std.specs.Int.{w16, w32, to_le_bytes, from_le_bytes}
use Rattle.std.proofs.lemmas.Bool.Decides.{nat_tests}
use Rattle.fs_queue.specs.Queue.{element_at}
use Rattle.fs_queue.specs.Returning.{notifies}
use Rattle.fs_chain.specs.Orders.{reply_len}
use Rattle.fs_chain.specs.Queues.{at_return}
use Rattle.notify.specs.Kicks.{ahead, moved, must}
use Rattle.notify.proofs.Rings.{of_one_chain, waits}
use Rattle.fs_notify.specs.Givers.{ChecksBySeen, MachineChecks, PublishesByStore, ReturnsInOrder}
use Rattle.fs_notify.specs.Takers.{ShowsWishBy, ways_of}

pub publishes : PublishesByStore
publishes q out reply s u by at =
    let Q = at_return q out in
    let next : moved u.published 1 ≡ moved q.next_used 1 = ap (λ (n : ℕ). moved n 1) at in (
      record { address = element_at Q; bytes = to_le_bytes w32 out.head }
          ∷ record { address = element_at Q + 4; bytes = to_le_bytes w32 (reply_len out reply) } ∷ [],
      rw next by.1,
      sym next,
    )

seen_by : (b : Bool) (event returned : ℕ) (muted : Bool) (seen : List ℕ) → returned < 2 ^ 16 → from_le_bytes w16 seen < 2 ^ 16
    → ShowsWishBy b seen event muted
    → must b event muted (moved returned 1) 1 ≡ (if b then from_le_bytes w16 seen == returned else notifies seen)
seen_by true event returned muted seen fr fs shows =
    ap (λ (n : ℕ). must true n muted (moved returned 1) 1) (sym shows) ∙ of_one_chain (from_le_bytes w16 seen) returned true muted fs fr
seen_by false event returned muted seen fr fs shows = ap not (sym shows)

pub checks : ChecksBySeen
checks q seen u fr fs at one shows =
    let by = (ways_of q).by_event in
    let e : must by u.event u.muted u.published u.unchecked ≡ must by u.event u.muted (moved q.next_used 1) 1 =
    rw (at, one) refl in
    ap (λ (b : Bool). u.owes || b) (e ∙ seen_by by u.event q.next_used u.muted seen fr fs shows)

pub machine : MachineChecks
machine m q event = (refl, refl)

-- ---- the order

le_test : (a b : ℕ) → a ≤ b → nat_le a b ≡ true
le_test a b less = grind (arith, nat_tests, less)

eq_test : (a b : ℕ) → a ≡ b → (a == b) ≡ true
eq_test a b same = grind (arith, nat_tests, same)

both : (a b : Bool) → a ≡ true → b ≡ true → (a && b) ≡ true
both a b is so = rw (is, so) refl

few : (n : ℕ) → n ≡ 0 → nat_lt (n + 1) (2 ^ 16) ≡ true
few n none = grind (arith, nat_tests, none)

pub order : ReturnsInOrder
order q u fits at same none room =
    let small : u.published < 2 ^ 16 = subst (λ (n : ℕ). n < 2 ^ 16) (sym at) fits in
    let one : ahead (moved u.published 1) u.index ≡ 1 =
    ap (λ (n : ℕ). ahead (moved u.published 1) n) same ∙ waits u.published 1 small (omega arith) in (
      (
        both (nat_le (ahead u.published u.position + 1) q.layout.size) (nat_lt (u.unchecked + 1) (2 ^ 16)) (le_test _ _ room)
            (few u.unchecked none),
        (
          le_test 1 (ahead (moved u.published 1) u.index) (omega (arith, one)),
          (eq_test (moved u.index 1) (moved u.published 1) (ap (λ (n : ℕ). moved n 1) same), refl),
        ),
      ),
      ap (λ (n : ℕ). moved n 1) at,
    )
