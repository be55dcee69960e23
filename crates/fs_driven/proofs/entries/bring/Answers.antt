use Rattle.std.proofs.Common.{rules}
use Rattle.fs_driven.proofs.Bringing.{brings_found}
use Rattle.fs_driven.proofs.entries.bring.Goals as goal

pub returns-in-Some : goal.returns-in-Some
returns-in-Some c =
    let e = c.add_with_node.ensures in
    record {
      one = brings_found c.args.handle.now c.add_with_node.new.self c.args.ticket c.args.list.now c.add_with_node.new.list
          c.args.entry.now c.args.name.now c.in-Some.node c.copied.result c.add_with_node.result (search rules)
          c.copied.ensures.node c.copied.ensures.number e.returned e.stays e.step;
    }
