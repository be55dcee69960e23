use Rattle.std.proofs.Common.{◌∙◌, true, length, refl, ap}
use Rattle.fuse_fs.specs.Answers.{listed}
use Rattle.fs_chain.specs.Listings.{added_of}
use Rattle.fs_chain.proofs.Adding.{adds_by, found_kind}
use Rattle.fs_chain.proofs.chain_handle.ChainHandle.add_node_to.Goals as goal

pub returns-clause-adds : goal.returns-clause-adds
returns-clause-adds c =
    let add = c.add_with_node-outcome.ensures in (
      c.added_of-added.ensures ∙ ap added_of add.outcome,
      (
        _,
        refl,
        adds_by _ _ _ _ (listed c.args.entry.now, c.args.node) true _ _ add.outcome
            (found_kind c.args.listing (length c.args.list.now) (length c.args.entry.now.name.now))
            add.list add.holds add.full add.fails add.same add.stays,
      ),
    )
