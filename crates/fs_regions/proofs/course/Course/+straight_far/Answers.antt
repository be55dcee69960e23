use Rattle.std.proofs.Common.{rules, refl}
use Rattle.std.proofs.lemmas.Option.{IfSome_then}
use Rattle.fs_regions.specs.Walks.{queue_of}
use Rattle.fs_regions.proofs.GoingStraight.{proceeds_to_end}
use Rattle.fs_regions.proofs.course.Course.+straight_far.Goals as goal

pub returns-in-Some-Ends : goal.returns-in-Some-Ends
returns-in-Some-Ends t c = IfSome_then c.straight_end.result c.straight_end.ensures (λ found end.
    proceeds_to_end c.args.regions.now c.args.self.now.limit (queue_of c.args.self.now) c.args.head c.args.walk c.args.ahead.now
    c.in-Some.one.now c.in-Some.more.now c.args.bytes.now c.args.descriptors.now c.read_ahead.new.descriptors
    c.in-Some-Ends.walked found refl (search rules) (search rules) (rw c.deref.ensures at end))
