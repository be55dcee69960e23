use Rattle.std.proofs.Common.{◌≡◌, ◌-◌, ◌+◌, arith}
use Rattle.vm_iotlb.specs.Ranges.{table_held}
use Rattle.vm_iotlb.specs.AddressRuns.{pieces}
use Rattle.vm_iotlb.proofs.PieceLemmas.{no_pieces}
use Rattle.vm_iotlb.proofs.LookupLemmas.{first_given}
use Rattle.vm_iotlb.proofs.iotlb.Iotlb.first_piece.Goals as goal

pub returns : goal.returns
returns c =
    let count : c.args.iova.0 + c.args.length - c.args.iova.0 ≡ c.args.length = omega arith in
    let all : c.over.result ≡ pieces (table_held c.args.self.now) c.args.iova.0 c.args.length =
    rw (c.self.view_is, count) at c.over.ensures in
    first_given c.next.result c.over.result c.next.new.self (pieces (table_held c.args.self.now) c.args.iova.0 c.args.length) all
    (no_pieces (table_held c.args.self.now) c.args.iova.0 c.args.length c.requires.some) c.next.ensures.steps
