-- The numbers that distinguish errors, and those of a chain's states.
use Rattle.std.specs.Prelude.{ℕ}
use Rattle.fs_chain.specs.declared.error.ChainError.{ChainError}
use Rattle.fs_chain.specs.declared.error.ChainError.TheVariants as error
use Rattle.fs_chain.specs.declared.state.ChainState as state
use Rattle.fs_chain.specs.declared.state.ChainState.TheVariants as at

-- the number of each error
abbrev pub chain_error_number : ChainError → ℕ
chain_error_number error.OutOfMemory = 9
chain_error_number error.BadArgument = 66
chain_error_number error.ShortBuffer = 69
chain_error_number error.LongReply = 71
chain_error_number error.WrongOrder = 73
chain_error_number error.OtherQueue = 74
chain_error_number error.OtherCall = 79
chain_error_number error.OtherKind = 75
chain_error_number error.ChainInFlight = 76
chain_error_number error.Pushing = 78
chain_error_number error.OtherTable = 80

-- the number of each state of a chain
abbrev pub state_number : state.ChainState → ℕ
state_number at.Free = 1
state_number (at.Popping course pop_id walk) = 2
state_number (at.Popped out) = 3
state_number (at.Decoded out waiting) = 4
state_number (at.Listing out listing) = 5
state_number (at.Replied out reply) = 6
state_number (at.Pushing out) = 7
