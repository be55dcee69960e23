use Rattle.std.proofs.Common.{◌≡◌, Bool, true, false, Option, Some, None, List, ℕ, ◌+◌, ◌<◌, ◌^◌, length, ap, sym, ◌∙◌, arith}
use Rattle.vm_values.specs.Fields.{AllFit, spelled}
use Rattle.fs_queue.specs.Records.{descriptor}
use Rattle.fs_queue.specs.Chain.{Descriptor, Visit, WalkStep, is_indirect, walk_step}
use Rattle.fs_queue.specs.declared.chain_walk.ChainWalk.{ChainWalk}
use Rattle.fs_queue.specs.Chain.{entry_address}
use Rattle.fs_queue.specs.SteppingView.{visit_of}
use Rattle.fs_queue.proofs.LoadLemmas.{memory_with, step_at, step_lost, step_spelled}
use Rattle.fs_queue.proofs.chain_walk.ChainWalk.step.Goals as goal

lost : (size : ℕ) (v : Visit) (came : Option (List ℕ)) (b : Bool) → came ≡ None → v.index < v.table.entries → v.table.indirect ≡ b →
    step_at size (record v { table = record v.table { indirect = b } }) None ≡ walk_step (memory_with (entry_address v) came) size v
lost size v came b is inside own =
    ap (λ (x : Bool). step_at size (record v { table = record v.table { indirect = x } }) None) (sym own)
    ∙ sym (ap (λ (o : Option (List ℕ)). walk_step (memory_with (entry_address v) o) size v) is ∙ step_lost size v inside)

found : (size : ℕ) (v : Visit) (came : Option (List ℕ)) (bs : List ℕ) (d : Descriptor) (b : Bool) (w : WalkStep) → came ≡ Some bs →
    v.index < v.table.entries →
    entry_address v + 16 < 2 ^ 64 → length bs ≡ 16 →
    bs ≡ spelled (descriptor d) → AllFit (descriptor d) → is_indirect d ≡ b → w ≡ step_at size v (Some d) →
    w ≡ walk_step (memory_with (entry_address v) came) size v
found size v came bs d b w is inside fits len spell fit kind e =
    e ∙ sym (ap (λ (o : Option (List ℕ)). walk_step (memory_with (entry_address v) o) size v) is
    ∙ step_spelled size v bs d inside fits len spell fit)

pub returns-then-self-clause-step : goal.returns-then-self-clause-step
returns-then-self-clause-step c = lost c.args.self.size (visit_of c.args.self) c.args.came true c.in_default.is c.args.self.inside
    (sym (ap (λ (w : ChainWalk). w.table.indirect) c.self.view_is) ∙ c.if-self.true)

pub returns-else-self-clause-step : goal.returns-else-self-clause-step
returns-else-self-clause-step c = lost c.args.self.size (visit_of c.args.self) c.args.came false c.in_default.is c.args.self.inside
    (sym (ap (λ (w : ChainWalk). w.table.indirect) c.self.view_is) ∙ c.if-self.false)

pub returns-then-refers_to_indirect_table-clause-step : goal.returns-then-refers_to_indirect_table-clause-step
returns-then-refers_to_indirect_table-clause-step c =
    let v = visit_of c.args.self in
    let inside = c.args.self.inside in
    let ends = c.args.self.ends in
    let kind : is_indirect c.get_bytes-descriptor.result ≡ true = cc in
    found c.args.self.size v c.args.came c.in-Some.bytes c.get_bytes-descriptor.result true _ c.in-Some.is inside
    (omega (arith, inside, ends)) (omega arith)
    c.get_bytes-descriptor.ensures.bytes c.get_bytes-descriptor.ensures.fits kind (rw kind c.indirect_step.ensures.step)

pub returns-else-refers_to_indirect_table-clause-step : goal.returns-else-refers_to_indirect_table-clause-step
returns-else-refers_to_indirect_table-clause-step c =
    let v = visit_of c.args.self in
    let inside = c.args.self.inside in
    let ends = c.args.self.ends in
    let kind : is_indirect c.get_bytes-descriptor.result ≡ false = cc in
    found c.args.self.size v c.args.came c.in-Some.bytes c.get_bytes-descriptor.result false _ c.in-Some.is inside
    (omega (arith, inside, ends)) (omega arith)
    c.get_bytes-descriptor.ensures.bytes c.get_bytes-descriptor.ensures.fits kind (rw kind c.ordinary_step.ensures.step)
