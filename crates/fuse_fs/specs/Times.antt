-- How long the guest may cache an answer.
use Rattle.std.specs.Prelude.{ℕ}

-- a duration: whole seconds, and nanoseconds below 10^9
pub record Duration : Type 0 where
  pub seconds : ℕ
  pub nanos : ℕ
