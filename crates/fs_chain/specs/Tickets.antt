-- The number by which an answer names its call (its ticket). Of 2^32 successive chains of the handle, no two
-- have the same number.
use Rattle.std.specs.Prelude.{◌≡◌, ◌⊎◌, ◌<◌, ℕ, ◌+◌, ◌%◌, ◌^◌, not, ◌==◌, true, List, [], ◌∷◌, slice_get}
use Rattle.std.specs.Prelude.{Option, Some, None, Result, Err, if◌then◌else◌}
use Rattle.fs_chain.specs.declared.error.ChainError.{ChainError}
use Rattle.fs_chain.specs.declared.error.ChainError.TheVariants.{OtherCall, WrongOrder}
use Rattle.fs_chain.specs.declared.state.ChainState as state
use Rattle.fs_chain.specs.declared.state.ChainState.TheVariants as at
use Rattle.fs_chain.specs.declared.chain_handle.ChainHandle.{ChainHandle}
use Rattle.fs_chain.specs.Orders.{is_out}

-- the number of the next chain: it grows if a chain is in flight
abbrev pub next_ticket : ChainHandle → ℕ
next_ticket w = if is_out w.state then (w.ticket + 1) % 2 ^ 32 else w.ticket

-- the handle is free, its next chain has the next number, and no list has entries
abbrev pub freed : ChainHandle → ChainHandle
freed w = record w { state = at.Free; ticket = next_ticket w; list_len = 0 }

-- a handle at moments at which successive chains of it were in flight: each chain has the number that the
-- handle got as the chain before it ended
abbrev pub AreSuccessive : List ChainHandle → Type 0
AreSuccessive [] = Unit {0}
AreSuccessive (w ∷ []) = is_out w.state ≡ true
AreSuccessive (w ∷ v ∷ ws) = (is_out w.state ≡ true) × (v.ticket ≡ next_ticket w) × AreSuccessive (v ∷ ws)

-- of 2^32 successive chains no two have the same number, of 32 bits
abbrev pub TicketsDiffer : Type 0
TicketsDiffer =
    (w : ChainHandle) (ws : List ChainHandle) (i j : ℕ) (one other : ChainHandle) →
    AreSuccessive (w ∷ ws) →
    w.ticket < 2 ^ 32 →
    i < j →
    j < i + 2 ^ 32 →
    slice_get (w ∷ ws) i ≡ Some one →
    slice_get (w ∷ ws) j ≡ Some other →
    one.ticket ≡ other.ticket →
    ⊥

-- why an answer's number is refused: it isn't the chain's number
abbrev pub number_error : (mine ticket : ℕ) → Option ChainError
number_error mine ticket = if not (mine == ticket) then Some OtherCall else None

-- why an answer with this number is refused before it is looked at: no call is in flight, or another one
-- is
abbrev pub ticket_error : state.ChainState → (mine ticket : ℕ) → Option ChainError
ticket_error (at.Decoded out waiting) mine ticket = number_error mine ticket
ticket_error (at.Listing out listing) mine ticket = number_error mine ticket
ticket_error _ mine ticket = Some WrongOrder

-- a call that is refused for this reason changes nothing; without a reason it does `Does`
abbrev pub UnlessRefused :
    {A : Type 0} → (why : Option ChainError) → Result A ChainError → (Same Does : Type 0) → Type 0
UnlessRefused why result Same Does =
    ((e : ChainError) × (why ≡ Some e) × (result ≡ Err e) × Same) ⊎ ((why ≡ None) × Does)
