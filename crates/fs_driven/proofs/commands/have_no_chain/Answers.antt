use Rattle.std.proofs.Common.{◌≡◌, ◌<◌, arith, false, get_or, length, rules}
use Rattle.fs_chain.specs.Orders.{is_out}
use Rattle.fs_chain.specs.declared.chain_handle.ChainHandle.{ChainHandle}
use Rattle.fs_driven.proofs.Lists.{got, number_at}
use Rattle.fs_driven.proofs.Resets.{none_more}
use Rattle.fs_driven.proofs.commands.have_no_chain.Goals as goal

pub loop-k-init : goal.loop-k-init
loop-k-init c = λ k w less there number. absurd (omega (arith, less))

pub loop-k-preserved : goal.loop-k-preserved
loop-k-preserved c =
    let l = c.loop-k in
    let w : ChainHandle = c.index-handles-k.result in
    let in_handles : l.k < length c.args.handles.now = search rules in
    let in_numbers : l.k < length c.args.on.now = search rules in
    let of = get_or c.args.on.now l.k 0 in
    let free : of ≡ c.args.number → is_out w.state ≡ false = search rules in
    none_more c.args.on.now c.args.number c.args.handles.now l.k w of l.invariant
    (got c.args.handles.now l.k w in_handles c.index-handles-k.is)
    (got c.args.on.now l.k of in_numbers (number_at c.args.on.now l.k in_numbers)) free
