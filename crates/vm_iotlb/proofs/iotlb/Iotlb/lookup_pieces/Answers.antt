use Rattle.std.proofs.Common.{◌≡◌, ◌-◌, true, arith, sym}
use Rattle.std.specs.Map.{values_of}
use Rattle.vm_iotlb.specs.Ranges.{table_held, Agree}
use Rattle.vm_iotlb.specs.AddressRuns.{may_all, pieces}
use Rattle.vm_iotlb.proofs.PieceLemmas.{joined_pieces}
use Rattle.vm_iotlb.proofs.iotlb.Iotlb.lookup_pieces.Goals as goal

pub returns-then-is_covered : goal.returns-then-is_covered
returns-then-is_covered c =
    let agree : Agree (table_held c.args.self.now) (values_of c.ranges_from.result) c.args.iova.0 c.args.end =
    λ x from to. c.ranges_from.ensures.table x from in
    let all : may_all (table_held c.args.self.now) c.args.access c.args.iova.0 (c.args.end - c.args.iova.0) ≡ true =
    sym (c.if-is_covered.ensures (table_held c.args.self.now) agree) in
    let count : c.args.length ≡ c.args.end - c.args.iova.0 = omega arith in
    let whole : c.over.result ≡ pieces (table_held c.args.self.now) c.args.iova.0 (c.args.end - c.args.iova.0) =
    rw c.self.view_is at c.over.ensures in
    rw count (
      omega arith,
      all,
      whole,
      rw whole (joined_pieces (table_held c.args.self.now) c.args.access (c.args.end - c.args.iova.0) c.args.iova.0 all),
    )
