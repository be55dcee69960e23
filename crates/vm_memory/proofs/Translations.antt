-- translations without a table
use Rattle.std.proofs.Common.{◌≡◌, ℕ, zero, suc, ◌<◌, ◌^◌, false, List, [], Option, None, refl, arith}
use Rattle.std.specs.Prelude.{Ok, unwrap_or}
use Rattle.vm_iotlb.specs.declared.range.IotlbRange.{IotlbRange}
use Rattle.vm_iotlb.specs.declared.iova.MappedRange.{MappedRange}
use Rattle.vm_iotlb.specs.declared.permissions.Permissions.{Permissions}
use Rattle.vm_iotlb.specs.Ranges.{table_held}
use Rattle.vm_iotlb.specs.AddressRuns.{may_all, pieces, runs}
use Rattle.vm_iotlb.specs.Table.{Table}
use Rattle.vm_memory.specs.Translating.{Translates}

-- no addresses are mapped to no pieces
pub none_translated : (table : Table) (a n : ℕ) (access : Permissions) (all : List MappedRange) → n ≡ 0 → a < 2 ^ 64 → all ≡ [] →
    Translates table a n access (Ok all)
unfolding may_all pieces runs
none_translated table a zero access all e fits is = (omega arith, refl, is, rw is refl)
none_translated table a (suc n) access all e fits is = absurd (omega arith)

-- a table without a range lets nothing pass
pub nothing_passes : (t : Option (List IotlbRange)) (a n : ℕ) (access : Permissions) → t ≡ None → 0 < n →
    may_all (table_held (unwrap_or t [])) access a n ≡ false
unfolding may_all table_held
nothing_passes t a zero access e some = absurd (omega arith)
nothing_passes t a (suc n) access e some = rw e refl
