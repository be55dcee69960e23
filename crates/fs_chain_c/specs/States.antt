-- The state of a handle's chain, as the number that C gets (PK_STATE_).
use Rattle.std.specs.Prelude.{ℕ, Option, Some, None}
use Rattle.fs_chain.specs.declared.chain_handle.ChainHandle.{ChainHandle}
use Rattle.fs_chain.specs.Numbers.{state_number}

-- 0 if the handle's memory was never set
abbrev pub handle_state : Option ChainHandle → ℕ
handle_state None = 0
handle_state (Some b) = state_number b.state
