use Rattle.std.proofs.Common.{◌≡◌, ℕ, List, ◌-◌, ◌+◌, ◌≤◌, take, drop, length, arith, ◌∙◌, ap, refl, sym, subst}
use Rattle.std.specs.Prelude.{Some}
use Rattle.std.proofs.lemmas.List.{take_rest}
use Rattle.vm_iotlb.specs.declared.permissions.Permissions.TheVariants.{Write}
use Rattle.vm_iotlb.specs.AddressRuns.{may_all}
use Rattle.vm_iotlb.specs.Table.{Table}
use Rattle.vm_memory_core.specs.Host.{Host}
use Rattle.vm_memory_core.specs.Window.{places_of}
use Rattle.vm_memory.specs.Memory.{addresses, io_memory, located, location, table_in}
use Rattle.vm_memory.proofs.Places.{Where, count_step, count_none, count_end}
use Rattle.vm_memory.proofs.StoreLemmas.{all_tables, put_end, put_none, put_step, same_location, same_table}
use Rattle.vm_memory.proofs.TranslatedLemmas.{may_all-rest}
use Rattle.vm_memory.proofs.io_ranges.write_io.Goals as goal

pub io_window-requires : goal.io_window-requires
io_window-requires g c =
    let same = same_table c.args.h.now c.loop-done.h c.args.table c.loop-done.invariant.same_tables in (
      omega arith,
      omega (arith, c.requires.0),
      ap (λ (t : Table). may_all t Write (c.args.addr + c.loop-done.done) (length c.args.bytes.now - c.loop-done.done)) same
          ∙ may_all-rest c.loop-done.done (length c.args.bytes.now) c.args.addr (table_in c.args.h.now c.args.table) Write
          c.loop-done.invariant.within c.requires.1,
    )

pub returns-in_default-clause-count : goal.returns-in_default-clause-count
returns-in_default-clause-count g c =
    let layout = g.M.GuestMemoryBackend.layout c.args.backend.now in
    let same = same_location c.args.h.now c.loop-done.h layout c.args.table c.args.set Write c.loop-done.invariant.same_tables in
    let none = count_none (location (io_memory c.args.h.now layout c.args.table c.args.set) Write) c.args.addr c.loop-done.done
    (length c.args.bytes.now) (c.args.addr + c.loop-done.done)
    (omega (arith, c.requires.0)) c.loop-done-test.true (ap (λ (f : Where). f (c.args.addr + c.loop-done.done)) (sym same)
    ∙ c.io_window.ensures.none c.in_default.is) in
    omega (arith, none, c.loop-done.invariant.count)

pub returns-in_default-clause-stored : goal.returns-in_default-clause-stored
returns-in_default-clause-stored g c =
    let layout = g.M.GuestMemoryBackend.layout c.args.backend.now in
    let same = same_location c.args.h.now c.loop-done.h layout c.args.table c.args.set Write c.loop-done.invariant.same_tables in
    sym (put_none (location (io_memory c.args.h.now layout c.args.table c.args.set) Write) c.args.addr c.loop-done.done
    (length c.args.bytes.now) (c.args.addr + c.loop-done.done) c.loop-done.h
    (drop c.loop-done.done c.args.bytes.now) (omega (arith, c.requires.0)) c.loop-done-test.true
    (ap (λ (f : Where). f (c.args.addr + c.loop-done.done)) (sym same)
    ∙ c.io_window.ensures.none c.in_default.is))
    ∙ c.loop-done.invariant.stored

pub loop-done-preserved : goal.loop-done-preserved
loop-done-preserved g c =
    let layout = g.M.GuestMemoryBackend.layout c.args.backend.now in
    let f : Where = location (io_memory c.args.h.now layout c.args.table c.args.set) Write in
    let n = c.in-Some.window.len in
    let x : ℕ = c.args.addr + c.loop-done.done in
    let same = same_location c.args.h.now c.loop-done.h layout c.args.table c.args.set Write c.loop-done.invariant.same_tables in
    let at = subst (λ (k : Where). located k (addresses x n) ≡ Some (places_of c.in-Some.window)) same c.in-Some.ensures.some.3 in
    let le : c.loop-done.done + n ≤ length c.args.bytes.now = omega (arith, c.in-Some.ensures.some.1) in
    let step = count_step f c.args.addr c.loop-done.done (length c.args.bytes.now) n x _ (omega (arith, c.requires.0))
    c.in-Some.ensures.some.2 le at in
    let rest : List ℕ = take (length c.args.bytes.now - c.loop-done.done) (drop c.loop-done.done c.args.bytes.now) in
    let cut : take c.len.result rest ≡ take n (drop c.loop-done.done c.args.bytes.now) =
    ap (λ k. take k rest) c.len.ensures.len ∙ ap (take n) (take_rest c.args.bytes.now c.loop-done.done) in
    let tables : c.write.new.self.tables ≡ c.loop-done.h.tables =
    ap (λ (h : Host). h.tables) c.write.ensures.stored ∙ all_tables _ c.loop-done.h in
    rw c.len-done.ensures.len (record {
      within = le;
      same_shape = c.write.ensures.shape ∙ c.loop-done.invariant.same_shape;
      same_tables = tables ∙ c.loop-done.invariant.same_tables;
      count = step ∙ c.loop-done.invariant.count;
      stored = put_step f c.args.addr c.loop-done.done (length c.args.bytes.now) n x (places_of c.in-Some.window) c.loop-done.h
          c.write.new.self c.args.bytes.now _ (omega (arith, c.requires.0))
          c.in-Some.ensures.some.2 le refl at cut c.write.ensures.stored ∙ c.loop-done.invariant.stored;
    })

pub returns-clause-count : goal.returns-clause-count
returns-clause-count g c =
    let none = count_end (location (io_memory c.args.h.now (g.M.GuestMemoryBackend.layout c.args.backend.now) c.args.table c.args.set)
    Write) c.args.addr c.loop-done.done (length c.args.bytes.now)
    c.loop-done-test.false in
    omega (arith, none, c.loop-done.invariant.count)

pub returns-clause-stored : goal.returns-clause-stored
returns-clause-stored g c =
    sym (put_end (location (io_memory c.args.h.now (g.M.GuestMemoryBackend.layout c.args.backend.now) c.args.table c.args.set) Write)
    c.args.addr c.loop-done.done
    (length c.args.bytes.now) c.loop-done.h
    (drop c.loop-done.done c.args.bytes.now) c.loop-done-test.false)
    ∙ c.loop-done.invariant.stored
