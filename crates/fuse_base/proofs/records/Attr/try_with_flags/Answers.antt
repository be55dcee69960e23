use Rattle.std.proofs.Common.{rules}
use Rattle.fuse_base.proofs.records.Attr.try_with_flags.Goals as goal

pub returns-clause-ok : goal.returns-clause-ok
returns-clause-ok g c = (c.in_ok-uid.uid, c.in_ok-gid.gid, search rules, search rules, search rules)
