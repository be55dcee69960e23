-- The numbers of a handle's successive chains.
use Rattle.std.proofs.Common.{◌≡◌, ◌<◌, ◌+◌, ◌%◌, ◌^◌, ◌∙◌, ℕ, zero, suc, Bool, true, List, [], ◌∷◌, Some, arith, ap, sym, slice_get}
use Rattle.std.proofs.Common.{if◌then◌else◌}
use Rattle.live_machine.proofs.Queues.{none_some, same_some}
use Rattle.fs_chain.specs.Orders.{is_out}
use Rattle.fs_chain.specs.Tickets.{AreSuccessive, TicketsDiffer, next_ticket}
use Rattle.fs_chain.specs.declared.chain_handle.ChainHandle.{ChainHandle}

-- the chain i chains later has the number that is i greater
later : (n m i : ℕ) → m ≡ (n + 1) % 2 ^ 32 → (m + i) % 2 ^ 32 ≡ (n + suc i) % 2 ^ 32
later n m i is = omega (arith, is)

grows : (w : ChainHandle) → is_out w.state ≡ true → next_ticket w ≡ (w.ticket + 1) % 2 ^ 32
grows w out = ap (λ (b : Bool). if b then (w.ticket + 1) % 2 ^ 32 else w.ticket) out

small : (n m : ℕ) → m ≡ (n + 1) % 2 ^ 32 → m < 2 ^ 32
small n m is = omega (arith, is)

number_at : (w : ChainHandle) (ws : List ChainHandle) (i : ℕ) (v : ChainHandle) → AreSuccessive (w ∷ ws) → w.ticket < 2 ^ 32 →
    slice_get (w ∷ ws) i ≡ Some v → v.ticket ≡ (w.ticket + i) % 2 ^ 32
number_at w ws zero v all less there =
    let same : v.ticket ≡ w.ticket = ap (λ (x : ChainHandle). x.ticket) (sym (same_some w v there)) in
    omega (arith, less, same)
number_at w [] (suc i) v all less there = absurd (none_some v there)
number_at w (x ∷ ws) (suc i) v all less there =
    let next : x.ticket ≡ (w.ticket + 1) % 2 ^ 32 = all.1 ∙ grows w all.0 in
    number_at x ws i v all.2 (small w.ticket x.ticket next) there ∙ later w.ticket x.ticket i next

apart : (n i j a b : ℕ) → i < j → j < i + 2 ^ 32 → a ≡ (n + i) % 2 ^ 32 → b ≡ (n + j) % 2 ^ 32 → a ≡ b → ⊥
apart n i j a b less near one other same = omega (arith, less, near, one, other, same)

pub tickets_differ : TicketsDiffer
tickets_differ w ws i j one other all less before near there later_there same =
    apart w.ticket i j one.ticket other.ticket before near (number_at w ws i one all less there)
    (number_at w ws j other all less later_there) same
