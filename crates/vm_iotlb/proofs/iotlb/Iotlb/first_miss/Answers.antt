use Rattle.std.proofs.Common.{◌≡◌, ◌-◌, ◌+◌, arith}
use Rattle.std.specs.Map.{values_of}
use Rattle.vm_iotlb.specs.Ranges.{table_held, Agree}
use Rattle.vm_iotlb.proofs.iotlb.Iotlb.first_miss.Goals as goal

pub returns : goal.returns
returns c =
    let end = c.args.iova.0 + c.args.length in
    let agree : Agree (table_held c.args.self.now) (values_of c.ranges_from.result) c.args.iova.0 end =
    λ x from to. c.ranges_from.ensures.table x from in
    let count : end - c.args.iova.0 ≡ c.args.length = omega arith in
    rw count at (c.first_gap.ensures (table_held c.args.self.now) agree)
