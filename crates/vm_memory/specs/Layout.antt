-- The places of a guest's physical addresses: a partial function, given by regions.
use Rattle.std.specs.Prelude.{ℕ, zero, suc, ◌≡◌, ◌+◌, ◌-◌, ◌<◌, ◌≤◌, ◌^◌, Bool, ◌&&◌, not, nat_le, nat_lt}
use Rattle.std.specs.Prelude.{◌==◌, List, [], ◌∷◌, length, map, Option, Some, None, if◌then◌else◌}
use Rattle.std.specs.Prelude.{slice_index_or}
use Rattle.std.specs.List.{filter}
use Rattle.std.specs.Option.{option_or}
use Rattle.std.specs.Arc.{arc_value}
use Rattle.std.specs.declared.sync.Arc.{Arc}
use Rattle.vm_iotlb.specs.Table.{is_within}
use Rattle.vm_memory_core.specs.Host.{Host, Place, lengths, shape}
use Rattle.std.proofs.Common.{subst, sym, ap}

-- a region: the `size` addresses from `start` on, which are the offsets of a block from 0 on
pub record Region : Type 0 where
  pub start : ℕ
  pub size : ℕ
  pub block : ℕ

-- a block's number and its length
pub record Backing : Type 0 where
  pub size : ℕ
  pub block : ℕ

-- a region is not empty, and its last address fits 64 bits
abbrev pub IsLawful : Region → Type 0
IsLawful r = (0 < r.size) × (r.size < 2 ^ 64) × (r.start + r.size ≤ 2 ^ 64)

-- the last address of a region
abbrev pub last_address : Region → ℕ
last_address r = r.start + r.size - 1

-- the place of an address in one region
abbrev pub place_in : Region → ℕ → Option Place
place_in r a =
    if is_within r.start r.size a then Some (record { block = r.block; offset = a - r.start; io = None })
    else None

-- the place of an address in a layout
unfoldable pub place : List Region → ℕ → Option Place
place [] a = None
place (r ∷ rs) a = option_or (place_in r a) (place rs a)

-- the region that has an address
unfoldable pub region_at : List Region → ℕ → Option Region
region_at [] a = None
region_at (r ∷ rs) a = if is_within r.start r.size a then Some r else region_at rs a

-- the number of addresses from an address to its region's end; 0 without a region
abbrev pub left_of : ℕ → Option Region → ℕ
left_of a None = 0
left_of a (Some r) = r.start + r.size - a

-- the number of addresses from an address to the end of the region that has it; 0 if no region has it
abbrev pub left_at : List Region → ℕ → ℕ
left_at layout a = left_of a (region_at layout a)

-- the regions in a list of `Arc`s
abbrev pub regions_of : {X Z : Type 0} → (X → Region) → List (Arc X Z) → List Region
regions_of region shared = map (λ a. region (arc_value a)) shared

-- the first address of the i-th region
abbrev pub start_at : List Region → ℕ → ℕ
start_at [] i = 0
start_at (r ∷ rs) zero = r.start
start_at (r ∷ rs) (suc i) = start_at rs i

-- the address after the i-th region
abbrev pub end_at : List Region → ℕ → ℕ
end_at [] i = 0
end_at (r ∷ rs) zero = r.start + r.size
end_at (r ∷ rs) (suc i) = end_at rs i

-- whether two regions have an address in common
abbrev pub overlap : Region → Region → Bool
overlap r s = nat_lt r.start (s.start + s.size) && nat_lt s.start (r.start + r.size)

-- whether the last address of a region fits 64 bits
abbrev pub fits : Region → Bool
fits r = nat_le (r.start + r.size) (2 ^ 64)

-- a layout with one more region; regions are in the order of their first addresses
abbrev pub with_region : Region → List Region → List Region
with_region r [] = r ∷ []
with_region r (s ∷ rest) = if nat_lt r.start s.start then r ∷ s ∷ rest else s ∷ with_region r rest

-- whether a region has this base and size
abbrev pub is_region : ℕ → ℕ → Region → Bool
is_region base size r = r.start == base && r.size == size

-- the layout without the region of this base and size
abbrev pub without_region : ℕ → ℕ → List Region → List Region
without_region base size layout = filter (λ r. not (is_region base size r)) layout

-- no region begins below an address
abbrev pub AllFrom : ℕ → List Region → Type 0
AllFrom a [] = Unit {0}
AllFrom a (r ∷ rs) = (a ≤ r.start) × AllFrom a rs

-- the regions ascend, none is empty or ends past 2^64, and no two have an address in common
abbrev pub IsLayout : List Region → Type 0
IsLayout [] = Unit {0}
IsLayout (r ∷ rs) = (0 < r.size) × (r.start + r.size ≤ 2 ^ 64) × AllFrom (r.start + r.size) rs × IsLayout rs

-- each region has a block of its length among blocks of these lengths
abbrev pub AreHeld : List ℕ → List Region → Type 0
AreHeld lengths [] = Unit {0}
AreHeld lengths (r ∷ rs) =
    (r.block < length lengths) × (slice_index_or lengths r.block 0 ≡ r.size) × AreHeld lengths rs

-- each region has a block of its length in a host
abbrev pub HostHolds : Host → List Region → Type 0
HostHolds h layout = AreHeld (lengths h) layout

-- a proof that a ghost member needs, which nobody has to believe: hosts of the same shape have the
-- blocks of the same layouts
pub held-same :
    (layout : List Region) (h g : Host) → shape g ≡ shape h → HostHolds h layout → HostHolds g layout
held-same layout h g same held = subst (λ l. AreHeld l layout) (sym (ap (λ s. s.block_lengths) same)) held
