use Rattle.std.proofs.Common.{rules, ℕ, Option, true, sym, subst}
use Rattle.fuse_fs.specs.Answers.{listed}
use Rattle.fuse_fs.specs.declared.answers.Entry.{Entry}
use Rattle.fs_chain_c.specs.Listing.{AddsNode}
use Rattle.fs_chain_c.proofs.HandleLemmas.{on_handle}
use Rattle.fs_chain_c.proofs.listing.add_node.Goals as goal

pub returns : goal.returns
returns c =
    let adds = c.add_node_to_handle-status in
    let P : Option (Entry ℕ) → Type 0 = λ node. AddsNode true (listed c.args.entry.now) node c.args.ticket c.args.chain.now.held.value
    c.args.list.now adds.result c.of_box.result.held.value adds.new.list in
    subst P (sym c.in-Some.is) (on_handle _ _ c.args.chain.now.held.value c.of_box.result.held.value c.deref_mut.result.now adds.new.handle
    (search rules) (search rules) adds.ensures)
