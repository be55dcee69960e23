-- Places that have no byte in common.
use Rattle.std.specs.Prelude.{◌≡◌, ◌+◌, ◌||◌, ◌==◌, Bool, not, nat_le, List, [], ◌∷◌}
use Rattle.vm_memory_core.specs.Host.{Place}
use Rattle.vm_memory_core.specs.Window.{Window}

-- none of these places is the same byte as this one
abbrev pub IsApart : Place → List Place → Type 0
IsApart p [] = Unit {0}
IsApart p (q ∷ qs) = (p.block ≡ q.block → p.offset ≡ q.offset → ⊥) × IsApart p qs

-- no byte has a place in both lists
abbrev pub Apart : (first second : List Place) → Type 0
Apart [] qs = Unit {0}
Apart (p ∷ ps) qs = IsApart p qs × Apart ps qs

-- whether two windows are in different blocks, or one ends where the other begins or before. For two
-- windows that aren't empty, that is the same as having no byte in common
abbrev pub are_apart : (first second : Window) → Bool
are_apart w v =
    not (w.block == v.block) || (nat_le (w.offset + w.len) v.offset || nat_le (v.offset + v.len) w.offset)
