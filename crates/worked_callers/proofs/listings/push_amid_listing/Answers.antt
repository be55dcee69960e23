use Rattle.fuse_fs.specs.Answers.{listed}
use Rattle.worked_callers.proofs.AmidListings.{push_amid}
use Rattle.worked_callers.proofs.listings.push_amid_listing.Goals as goal

pub returns : goal.returns
returns c =
    let laws = c.law_together.ensures in
    record {
      run = push_amid c.args.lister.now c.add_with_node.new.self c.add_with_node-2.new.self c.args.pusher.now
          c.push_whole.new.handle c.args.queue.now c.push_whole.new.queue c.args.list.now c.add_with_node.new.list
          c.add_with_node-2.new.list (listed c.args.one.0.now, c.args.one.1) (listed c.args.other.0.now, c.args.other.1)
          c.args.seen c.in_ok-first.first c.in_ok-second.second c.in_ok-notice.notice laws.finds laws.keeps laws.leaves
          c.law_listings.ensures.held c.in_ok-first.ensures.step c.in_ok-notice.ensures.step c.in_ok-second.ensures.step;
    }
