use Rattle.std.proofs.Common.{rules, ◌≡◌, ◌+◌, sym, arith}
use Rattle.vm_memory_core.specs.Host.{lengths, page_count}
use Rattle.fs_shared.proofs.RunLemmas.{no_pages, first_next}
use Rattle.fs_shared.proofs.numbers.first_page.Goals as goal

pub loop-number-init : goal.loop-number-init
loop-number-init g c = sym (no_pages (lengths (g.H.HostBlocks.host c.args.host.now)))

pub loop-number-preserved : goal.loop-number-preserved
loop-number-preserved g c =
    let more = first_next (g.H.HostBlocks.host c.args.host.now).blocks c.loop-number.number c.in-Some.len (c.loop-number.number + 1)
    c.in-Some.ensures (omega arith) in
    let sum : c.in-Some-checked_add.next ≡ c.loop-number.first + c.page_count.result = search rules in
    let count : c.page_count.result ≡ page_count c.in-Some.len = c.page_count.ensures in
    let was = c.loop-number.invariant in
    omega (arith, more, sum, count, was)
