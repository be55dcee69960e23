use Rattle.std.proofs.Common.{rules, ◌≡◌, Bool, true, sym, subst}
use Rattle.fs_chain_c.specs.Listing.{AddsEntry, is_entry, listed_as}
use Rattle.fs_chain_c.proofs.HandleLemmas.{on_handle}
use Rattle.fs_chain_exports.proofs.listing.pk_add_direntry.Goals as goal

pub returns : goal.returns
returns c =
    let a = c.args in
    let adds = c.add_to_handle-status in
    let P : Bool → Type 0 = λ is. AddsEntry is (listed_as a.name.now a.ino a.next_offset a.type_) a.ticket a.chain.now.held.value
    a.list.now adds.result c.of_box.result.held.value adds.new.list in
    let is : is_entry a.name.now a.type_ ≡ true = search rules in
    subst P (sym is) (on_handle _ _ a.chain.now.held.value c.of_box.result.held.value c.deref_mut.result.now adds.new.handle (search rules)
    (search rules) adds.ensures)
