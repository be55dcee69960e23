use Rattle.std.proofs.Common.{ap, map, subst, sym, ◌∙◌}
use Rattle.fs_device.specs.PageView.{page_view}
use Rattle.plain_machine.specs.Step.{State}
use Rattle.fs_device.specs.CommandView.{answer_of, command_of}
use Rattle.fs_device.specs.MachineView.{machine_of}
use Rattle.fs_device.specs.Migrating.{StaysHere}
use Rattle.fs_device.proofs.MigrateLemmas.{is_run_from_image, stays_at_last, stays_at_once, stays_off}
use Rattle.fs_device.proofs.machine.Machine.run_from_image.Goals as goal

pub returns-in_default : goal.returns-in_default
returns-in_default g c = record {
  all = tt;
  from = tt;
  stayed =
      stays_at_once g.F.FileSystemBase.may (machine_of c.args.self.now) (machine_of c.image.new.self) (answer_of c.image.result)
      c.args.commands.items c.new.result.items c.new.ensures.items
      c.image.ensures.performs;
  off = ap (λ m. m.use_iommu) c.image.ensures.mem ∙ c.requires.off;
}

pub returns-in_default-run-clause-stayed : goal.returns-in_default-run-clause-stayed
returns-in_default-run-clause-stayed g c =
    let may = g.F.FileSystemBase.may in
    let answers = c.new-in_default-run.result.items in
    subst (λ (k : State _). StaysHere may (machine_of c.args.self.now) (map command_of c.args.commands.items) (map answer_of answers) k)
    (sym c.in_default-run.ensures.err)
    (stays_at_once may (machine_of c.args.self.now) (machine_of c.image.new.self) (answer_of c.image.result) c.args.commands.items answers
    c.new-in_default-run.ensures.items c.image.ensures.performs)

pub returns-in_default-harvest : goal.returns-in_default-harvest
returns-in_default-harvest g c =
    let may = g.F.FileSystemBase.may in
    let began = machine_of c.image.new.self in
    let mid = machine_of c.run.new.self in
    let answers = c.in-Ok.answers.items in record {
      all = tt;
      from = tt;
      stayed =
          stays_at_last may (machine_of c.args.self.now) began mid (machine_of c.harvest.new.self) c.in-Copied.copy
          (answer_of c.harvest.result) c.args.commands.items answers c.in-Ok.ensures.all
          c.in-Copied.ensures.performs c.in-Ok.ensures.run c.harvest.ensures.performs;
      off =
          ap (λ m. m.use_iommu) c.harvest.ensures.mem
          ∙ stays_off may (machine_of c.args.self.now) began mid c.in-Copied.copy c.args.commands.items answers c.law_move.ensures.again
          c.requires.off c.law_host_marks.ensures c.requires.follow
          c.in-Copied.ensures.performs c.in-Ok.ensures.run;
    }

pub returns-clause-from : goal.returns-clause-from
returns-clause-from g c =
    is_run_from_image g.F.FileSystemBase.may (machine_of c.args.self.now) (machine_of c.image.new.self) (machine_of c.run.new.self)
    (machine_of c.harvest.new.self) c.in-Copied.copy c.args.commands.items
    c.in-Ok.answers.items (map page_view c.in-Pages.last.items) c.requires.off c.law_host_marks.ensures c.requires.follow
    c.in-Copied.ensures.performs c.in-Ok.ensures.run c.in-Pages.ensures.performs

pub returns-clause-off : goal.returns-clause-off
returns-clause-off g c =
    ap (λ m. m.use_iommu) c.harvest.ensures.mem
    ∙ stays_off g.F.FileSystemBase.may (machine_of c.args.self.now) (machine_of c.image.new.self) (machine_of c.run.new.self)
    c.in-Copied.copy c.args.commands.items c.in-Ok.answers.items
    c.law_move.ensures.again c.requires.off c.law_host_marks.ensures c.requires.follow c.in-Copied.ensures.performs c.in-Ok.ensures.run
