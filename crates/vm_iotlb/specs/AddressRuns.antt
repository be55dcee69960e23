-- The result of a look-up: the addresses of a range, in the longest runs.
use Rattle.std.specs.Prelude.{◌≡◌, ℕ, zero, suc, ◌+◌, ◌-◌, ◌<◌, ◌≤◌, ◌^◌, nat_lt, Bool, true, false, not}
use Rattle.std.specs.Prelude.{◌&&◌, ◌||◌, ◌==◌, List, [], ◌∷◌, map, Option, Some, None, if◌then◌else◌, Result}
use Rattle.std.specs.Prelude.{Ok, Err}
use Rattle.std.specs.List.{list_all, filter, flat_map, range_with_len}
use Rattle.vm_iotlb.specs.declared.permissions.Permissions.{Permissions}
use Rattle.vm_iotlb.specs.declared.iova.IovaRange.{IovaRange}
use Rattle.vm_iotlb.specs.declared.iova.MappedRange.{MappedRange}
use Rattle.vm_iotlb.specs.declared.lookup.LookupError.{LookupError}
use Rattle.vm_iotlb.specs.declared.lookup.LookupError.TheVariants.{Fails, OutOfMemory}
use Rattle.vm_iotlb.specs.Table.{Mapping, Table, allows}

-- whether an address allows an access: it has a mapping with the permission
abbrev pub may_pass : Permissions → Option Mapping → Bool
may_pass access None = false
may_pass access (Some to) = allows to.perm access

-- whether an address has a mapping without the permission
abbrev pub lacks : Permissions → Option Mapping → Bool
lacks access None = false
lacks access (Some to) = not (allows to.perm access)

-- whether an address has no mapping
abbrev pub misses : Option Mapping → Bool
misses None = true
misses (Some to) = false

-- the address that an address is mapped to; 0 if it has no mapping
abbrev pub target_of : Option Mapping → ℕ
target_of None = 0
target_of (Some to) = to.target

-- whether each of n addresses from a on allows an access
unfoldable pub may_all : Table → Permissions → ℕ → ℕ → Bool
may_all table access a n = list_all (λ x. may_pass access (table x)) (range_with_len a n)

-- whether an address and the next go together. Either neither has a mapping, or their mappings have the same
-- permission and consecutive targets
abbrev pub go_together : Option Mapping → Option Mapping → Bool
go_together None None = true
go_together None (Some next) = false
go_together (Some this) None = false
go_together (Some this) (Some next) =
    this.target + 1 == next.target && (allows this.perm next.perm && allows next.perm this.perm)

-- whether an address is mapped as one with the address before it: both have a mapping, and they go together.
-- Address 0 isn't, since none is before it
abbrev pub carries_on_at : Table → ℕ → Bool
carries_on_at table a = not (misses (table a)) && go_together (table (a - 1)) (table a)

-- whether a run begins at an address: it has a mapping, and is not mapped as one with the address before it
abbrev pub begins_at : Table → ℕ → Bool
begins_at table a = not (misses (table a)) && not (carries_on_at table a)

-- whether a run begins at an address in the new table, and none does in the old one
abbrev pub begins_anew : (old new : Table) → ℕ → Bool
begins_anew old new a = begins_at new a && not (begins_at old a)

-- whether a run begins at `from` or at `to` in the new table where none does in the old one
abbrev pub begins_anew_about : (old new : Table) → (from to : ℕ) → Bool
begins_anew_about old new from to = begins_anew old new from || begins_anew old new to

-- n addresses from a on
abbrev pub run_of : ℕ → ℕ → IovaRange
run_of a n = record { base = record { 0 = a }; length = n }

-- the runs with the address a put before the first one; a alone if there are none
abbrev pub led_by : ℕ → List IovaRange → List IovaRange
led_by a [] = run_of a 1 ∷ []
led_by a (r ∷ rest) = run_of a (r.length + 1) ∷ rest

-- n addresses from a on, as the longest runs of addresses that go together
unfoldable pub runs : Table → ℕ → ℕ → List IovaRange
runs table a zero = []
runs table a (suc n) =
    if go_together (table a) (table (a + 1)) then led_by a (runs table (a + 1) n)
    else run_of a 1 ∷ runs table (a + 1) n

-- the runs among n addresses from a on whose addresses have no mapping
unfoldable pub missing : Table → ℕ → ℕ → List IovaRange
missing table a n = filter (λ r. misses (table r.base.0)) (runs table a n)

-- the runs among n addresses from a on whose addresses have a mapping without the permission
unfoldable pub lacking : Table → Permissions → ℕ → ℕ → List IovaRange
lacking table access a n = filter (λ r. lacks access (table r.base.0)) (runs table a n)

-- the addresses that a run is mapped to
abbrev pub piece_of : Table → IovaRange → MappedRange
piece_of table r = record { base = record { 0 = target_of (table r.base.0) }; length = r.length }

-- the addresses that n addresses from a on are mapped to, run by run
unfoldable pub pieces : Table → ℕ → ℕ → List MappedRange
pieces table a n = map (piece_of table) (runs table a n)

-- the addresses of pieces, one after another
abbrev pub addresses_joined : List MappedRange → List ℕ
addresses_joined all = flat_map (λ p. range_with_len p.base.0 p.length) all

-- the targets of n addresses from a on, address by address
abbrev pub targets : Table → ℕ → ℕ → List ℕ
targets table a n = map (λ x. target_of (table x)) (range_with_len a n)

-- the error if the end of a range doesn't fit 64 bits: all of it is missing, or OutOfMemory
abbrev pub IsMissedWhole : (iova n : ℕ) → LookupError → Type 0
IsMissedWhole iova n (Fails fails) =
    (fails.misses.items ≡ run_of iova n ∷ []) × (fails.access_fails.items ≡ [])
IsMissedWhole iova n OutOfMemory = Unit {0}

-- the error if the end fits: the runs without a mapping and those without the permission, or OutOfMemory
abbrev pub IsStopped : Table → Permissions → (iova n : ℕ) → LookupError → Type 0
IsStopped table access iova n (Fails fails) =
    (fails.misses.items ≡ missing table iova n) × (fails.access_fails.items ≡ lacking table access iova n)
IsStopped table access iova n OutOfMemory = Unit {0}

-- a look-up returns the mapped ranges exactly if the end fits 64 bits and each address allows the access.
-- Otherwise it returns the addresses at which it fails, or OutOfMemory
abbrev pub LooksUp : Table → (iova n : ℕ) → Permissions → Result (List MappedRange) LookupError → Type 0
LooksUp table iova n access (Ok all) =
    (iova + n < 2 ^ 64)
    × (may_all table access iova n ≡ true)
    × (all ≡ pieces table iova n)
    × (addresses_joined all ≡ targets table iova n)
LooksUp table iova n access (Err error) =
    (iova + n < 2 ^ 64 → (may_all table access iova n ≡ false) × IsStopped table access iova n error)
    × (2 ^ 64 ≤ iova + n → IsMissedWhole iova n error)

-- the range of the addresses from a up to e, excluded, if there are any
abbrev pub between : ℕ → ℕ → List IovaRange
between a e = if nat_lt a e then run_of a (e - a) ∷ [] else []
