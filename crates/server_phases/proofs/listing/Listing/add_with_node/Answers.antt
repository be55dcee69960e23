use Rattle.std.proofs.Common.{◌≡◌, true, length, ◌++◌, sym, ap, ◌∙◌}
use Rattle.fuse_fs.specs.Answers.{listed}
use Rattle.server_replies.specs.Entries.{dirent_bytes}
use Rattle.server_phases.specs.Gathering.{bytes_of}
use Rattle.server_phases.proofs.Gathered.{held_more, placed_full, placed_wrong}
use Rattle.server_phases.proofs.listing.Listing.add_with_node.Goals as goal

pub returns-clause-holds : goal.returns-clause-holds
returns-clause-holds c =
    let d = listed c.args.entry.now in
    let nodes : c.args.self.now.with_nodes ≡ true = c.if-not-self.false in
    held_more c.put.result c.args.self.now c.put.new.self c.args.list.now c.put.new.list (c.node_front.result ++ dirent_bytes d) d
    c.args.node c.put.ensures.stays c.put.ensures.len
    c.put.ensures.list (c.node_front.ensures ∙ sym (ap (λ b. bytes_of b (d, c.args.node)) nodes))

pub returns-clause-full : goal.returns-clause-full
returns-clause-full c =
    let d = listed c.args.entry.now in
    placed_full c.put.result c.args.self.now c.args.list.now (length c.args.list.now) (d, c.args.node) c.put.ensures.outcome

pub returns-clause-fails : goal.returns-clause-fails
returns-clause-fails c =
    let d = listed c.args.entry.now in
    placed_wrong c.put.result c.args.self.now c.args.list.now (length c.args.list.now) (d, c.args.node) c.put.ensures.outcome
