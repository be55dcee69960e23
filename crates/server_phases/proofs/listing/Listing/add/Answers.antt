use Rattle.std.proofs.Common.{length, sym, ap}
use Rattle.fuse_fs.specs.Answers.{listed}
use Rattle.server_replies.specs.Entries.{dirent_bytes, no_node}
use Rattle.server_phases.specs.Gathering.{bytes_of}
use Rattle.server_phases.proofs.Gathered.{held_more, placed_full, placed_wrong}
use Rattle.server_phases.proofs.listing.Listing.add.Goals as goal

pub returns-clause-holds : goal.returns-clause-holds
returns-clause-holds c =
    let d = listed c.args.entry.now in
    held_more c.put.result c.args.self.now c.put.new.self c.args.list.now c.put.new.list (dirent_bytes d) d (no_node d) c.put.ensures.stays
    c.put.ensures.len c.put.ensures.list
    (sym (ap (λ b. bytes_of b (d, no_node d)) c.if-self.false))

pub returns-clause-full : goal.returns-clause-full
returns-clause-full c =
    let d = listed c.args.entry.now in
    placed_full c.put.result c.args.self.now c.args.list.now (length c.args.list.now) (d, no_node d) c.put.ensures.outcome

pub returns-clause-fails : goal.returns-clause-fails
returns-clause-fails c =
    let d = listed c.args.entry.now in
    placed_wrong c.put.result c.args.self.now c.args.list.now (length c.args.list.now) (d, no_node d) c.put.ensures.outcome
