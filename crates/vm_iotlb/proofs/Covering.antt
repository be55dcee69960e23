-- what addresses are mapped to, range by range of a list
use Rattle.std.specs.Prelude.{ℕ, ◌+◌, ◌-◌, ◌<◌, ◌≤◌, ◌^◌, min, nat_lt, List, [], ◌∷◌, if◌then◌else◌}
use Rattle.vm_iotlb.specs.declared.range.IotlbRange.{IotlbRange}
use Rattle.vm_iotlb.specs.declared.iova.MappedRange.{MappedRange}

-- the addresses from a up to e lie in ranges that follow one another, from the first one on
abbrev pub Cover : List IotlbRange → ℕ → ℕ → Type 0
Cover [] a e = e ≤ a
Cover (r ∷ rs) a e = a < e → (r.start ≤ a) × (a < r.end) × (r.target + (r.end - r.start) < 2 ^ 64) × Cover rs (min r.end e) e

-- what the addresses from a up to e are mapped to, range by range
abbrev pub pieces_in : List IotlbRange → ℕ → ℕ → List MappedRange
pieces_in [] a e = []
pieces_in (r ∷ rs) a e = if nat_lt a e then record { base = record { 0 = r.target + (a - r.start) }; length = min r.end e - a }
    ∷ pieces_in rs (min r.end e) e else []
