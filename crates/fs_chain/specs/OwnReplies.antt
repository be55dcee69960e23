-- A reply that the caller makes: its bytes lie at the start of the reply buffer, and the handle learns
-- only their number.
use Rattle.std.specs.Prelude.{ℕ, ◌-◌, ◌^◌, not, ◌==◌, ◌||◌, nat_lt, Option, Some, None, if◌then◌else◌}
use Rattle.fs_chain.specs.declared.error.ChainError.{ChainError}
use Rattle.fs_chain.specs.declared.error.ChainError.TheVariants.{LongReply, OtherCall, WrongOrder}
use Rattle.fs_chain.specs.declared.state.InFlight.{InFlight}
use Rattle.fs_chain.specs.declared.state.ChainReply.{ChainReply}
use Rattle.fs_chain.specs.declared.state.ChainState as state
use Rattle.fs_chain.specs.declared.state.ChainState.TheVariants as at

-- a reply of `len` bytes, none of which the handle knows; with 0 bytes there is no reply
abbrev pub own_reply : (len : ℕ) → ChainReply
own_reply len = record { front = None; behind = len }

-- P, if the chain has no reply yet: its request wasn't decoded, or its call isn't answered
abbrev pub IfUnanswered : state.ChainState → (InFlight → Type 0) → Type 0
IfUnanswered (at.Popped out) P = P out
IfUnanswered (at.Decoded out waiting) P = P out
IfUnanswered (at.Listing out listing) P = P out
IfUnanswered _ P = Unit {0}

-- why a reply can't have `len` bytes: the reply buffer is shorter, or they exceed the used element's 32
-- bits
abbrev pub own_len_error : (room len : ℕ) → Option ChainError
own_len_error room len = if nat_lt room len || nat_lt (2 ^ 32 - 1) len then Some LongReply else None

-- why such a reply is refused: the number is another chain's, or the reply is too long; or its chain has a
-- reply already (`own_error`)
abbrev pub own_chain_error : (mine ticket room len : ℕ) → Option ChainError
own_chain_error mine ticket room len = if not (mine == ticket) then Some OtherCall else own_len_error room len

abbrev pub own_error : state.ChainState → (mine ticket len : ℕ) → Option ChainError
own_error (at.Popped out) mine ticket len = own_chain_error mine ticket out.room_len len
own_error (at.Decoded out waiting) mine ticket len = own_chain_error mine ticket out.room_len len
own_error (at.Listing out listing) mine ticket len = own_chain_error mine ticket out.room_len len
own_error _ mine ticket len = Some WrongOrder
