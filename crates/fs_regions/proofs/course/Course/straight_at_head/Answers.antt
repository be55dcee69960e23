use Rattle.std.proofs.Common.{rules}
use Rattle.std.proofs.lemmas.Option.{IfSome_then}
use Rattle.fs_regions.proofs.Counting.{begun_counted}
use Rattle.fs_regions.proofs.course.Course.straight_at_head.Goals as goal

pub straight_at_table-requires : goal.straight_at_table-requires
straight_at_table-requires c =
    begun_counted c.args.self.now.layout c.args.walk c.in-Chain-default-Wants.head c.in-Chain-default-Wants.next
    c.args.descriptors.now.items (search rules) c.requires.begins c.requires.none

pub returns-then-may_push : goal.returns-then-may_push
returns-then-may_push c = IfSome_then c.straight_at_table.result c.straight_at_table.ensures (λ found from. (
  c.in-Chain-default-Wants.head,
  c.in-Chain-default-Wants.next,
  search rules,
  c.may_push.ensures c.if-may_push.true,
  from,
))
