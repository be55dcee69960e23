use Rattle.std.proofs.Common.{◌≡◌, ◌-◌, arith, sym, subst, ◌<◌, length}
use Rattle.vm_memory.specs.Layout.{start_at}
use Rattle.vm_memory.proofs.LayoutLemmas.{start_at-get, none_before, found_in, found_out}
use Rattle.vm_memory.proofs.collection.GuestRegionCollection.find.Goals as goal

pub returns-then-begun-eq0-clause-found : goal.returns-then-begun-eq0-clause-found
returns-then-begun-eq0-clause-found g c =
    let none : c.begun-begun.result ≡ 0 = omega arith in
    sym (none_before c.args.self.now c.args.addr c.begun-begun.ensures.layout
    (subst (λ n. n < length c.args.self.now → c.args.addr < start_at c.args.self.now n) none c.begun-begun.ensures.above))

pub overflow_sub-addr : goal.overflow_sub-addr
overflow_sub-addr g c =
    let begins = start_at-get c.args.self.now (c.begun-begun.result - 1) _ c.region-region.ensures in
    omega arith

pub returns-then-addr-start_addr-clause-found : goal.returns-then-addr-start_addr-clause-found
returns-then-addr-start_addr-clause-found g c =
    let begins = start_at-get c.args.self.now (c.begun-begun.result - 1) _ c.region-region.ensures in
    found_in c.args.self.now c.begun-begun.result c.args.addr _ c.begun-begun.ensures.layout (omega arith) c.region-region.ensures
    (omega arith) c.begun-begun.ensures.above (omega arith)

pub returns-else-addr-start_addr-clause-found : goal.returns-else-addr-start_addr-clause-found
returns-else-addr-start_addr-clause-found g c =
    let begins = start_at-get c.args.self.now (c.begun-begun.result - 1) _ c.region-region.ensures in
    found_out c.args.self.now c.begun-begun.result c.args.addr _ c.begun-begun.ensures.layout (omega arith) c.region-region.ensures
    (omega arith) c.begun-begun.ensures.above (omega arith)
