-- Proofs that windows and layouts lie in blocks are unique, as a ghost field that keeps one needs.
-- Nobody has to believe anything here.
use Rattle.std.specs.Prelude.{ℕ, List, [], ◌∷◌}
use Rattle.std.specs.Coded.{Unit-prop, le_prop}
use Rattle.vm_memory.specs.Layout.{Region, AreHeld}
use Rattle.vm_memory_core.specs.Window.{Window, LiesIn}
use mathlib.Core.HLevel.{×_prop, ×₃_prop}
use native.Mathlib.Nat.{ℕ_set}

pub LiesIn-prop : (lengths : List ℕ) (window : Window) → IsProp (LiesIn lengths window)
LiesIn-prop lengths window = ×_prop le_prop le_prop

pub AreHeld-prop : (lengths : List ℕ) (layout : List Region) → IsProp (AreHeld lengths layout)
AreHeld-prop lengths [] = Unit-prop
AreHeld-prop lengths (r ∷ rs) = ×₃_prop le_prop (ℕ_set _ _) (AreHeld-prop lengths rs)
