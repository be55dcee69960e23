use Rattle.fs_driven.proofs.Pops.{pop_result}
use Rattle.fs_driven.proofs.commands.drive_pop.Goals as goal

pub returns : goal.returns
returns c =
    let e = c.pop.ensures in
    record {
      step = pop_result c.args.handle.now c.pop.new.self c.args.queue.now c.pop.new.queue c.args.loaded c.pop.result
          e.proceeds e.error e.same e.step;
    }
