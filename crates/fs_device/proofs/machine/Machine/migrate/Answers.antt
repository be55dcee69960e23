use Rattle.std.proofs.Common.{◌≡◌, List, None, ap, map, subst, sym, zip, ◌∙◌}
use Rattle.vm_memory_core.specs.Host.{lengths}
use Rattle.fs_device.specs.Applying.{first_refused, pages_put}
use Rattle.plain_machine.specs.Harvested.{Page}
use Rattle.fs_device.specs.PageView.{page_view}
use Rattle.plain_machine.specs.Step.{State}
use Rattle.fs_device.specs.CommandView.{answer_of, command_of}
use Rattle.fs_device.specs.MachineView.{machine_of}
use Rattle.fs_device.specs.Migrating.{IsMoved, StaysHere}
use Rattle.fs_device.proofs.MigrateLemmas.{all_pages, both_err, both_ok, is_moved, stays_after}
use Rattle.fs_device.proofs.machine.Machine.migrate.Goals as goal

pub moved_onto-requires-clause-places : goal.moved_onto-requires-clause-places
moved_onto-requires-clause-places g c =
    let run = c.in-Ok.run' in
    subst (λ (ps : List Page). first_refused (lengths run.copy) 0 ps ≡ None)
    (all_pages c.args.commands.items run.answers.items (map page_view run.last.items) c.in-Ok.ensures.all)
    (c.law_move.ensures.places (machine_of c.args.self) (machine_of c.run_from_image.new.self) run.copy _ c.in-Ok.ensures.from)

pub moved_onto-requires-clause-caught_up : goal.moved_onto-requires-clause-caught_up
moved_onto-requires-clause-caught_up g c =
    let run = c.in-Ok.run' in
    let events = zip (map command_of c.args.commands.items) (map answer_of run.answers.items) in
    ap (pages_put run.copy) (sym (all_pages c.args.commands.items run.answers.items (map page_view run.last.items) c.in-Ok.ensures.all))
    ∙ c.law_move.ensures.catches_up (machine_of c.args.self) (machine_of c.run_from_image.new.self) run.copy events
    (map page_view run.last.items) c.in-Ok.ensures.from

pub returns-clause-moved : goal.returns-clause-moved
returns-clause-moved g c =
    let may = g.F.FileSystemBase.may in
    let run = c.in-Ok.run' in
    let cs = c.args.commands.items in
    let events = zip (map command_of cs) (map answer_of run.answers.items) in
    both_ok c.moved_onto.result
    (λ m moved same.
    subst (λ v. IsMoved may (machine_of c.args.self) (zip (map command_of cs) (map answer_of v.items)) (machine_of m.machine)) (sym same)
    (is_moved may (machine_of c.args.self) (machine_of c.run_from_image.new.self) (machine_of m.machine) run.copy events
    (map page_view run.last.items) _ c.law_move.ensures.catches_up c.in-Ok.ensures.from
    (all_pages cs run.answers.items (map page_view run.last.items) c.in-Ok.ensures.all) moved))
    c.moved_onto.ensures.moved c.moved_onto.ensures.answers

pub returns-clause-stayed : goal.returns-clause-stayed
returns-clause-stayed g c =
    let may = g.F.FileSystemBase.may in
    let run = c.in-Ok.run' in
    let cs = c.args.commands.items in
    both_err c.moved_onto.result
    (λ m stayed same.
    subst (λ v. StaysHere may (machine_of c.args.self) (map command_of cs) (map answer_of v.items) (machine_of m.machine)) (sym same)
    (subst (λ (k : State _). StaysHere may (machine_of c.args.self) (map command_of cs) (map answer_of run.answers.items) k) (sym stayed)
    (stays_after may (machine_of c.args.self) (machine_of c.run_from_image.new.self) run.copy cs run.answers.items
    (map page_view run.last.items) c.in-Ok.ensures.all c.in-Ok.ensures.from)))
    c.moved_onto.ensures.stayed c.moved_onto.ensures.still_answers
