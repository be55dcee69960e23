use Rattle.std.proofs.Common.{arith, ◌∙◌}
use Rattle.std.proofs.lemmas.List.{drop_all}
use Rattle.vm_memory_core.specs.Window.{put_all}
use Rattle.vm_memory_core.proofs.WindowLemmas.{drop_item, places_step, length-places_step}
use Rattle.vm_memory_core.proofs.host_blocks.HostBlocks.write_windows.Goals as goal

pub loop-window-preserved : goal.loop-window-preserved
loop-window-preserved g c =
    let next = drop_item c.args.windows.now c.loop-window.window-index c.window-item.result c.loop-window-test.true c.window-item.is in
    let n = length-places_step c.args.windows.now c.loop-window.window-index _ next in
    record {
      within = omega arith;
      fits = omega arith;
      same_shape = c.write.ensures.shape ∙ c.loop-window.invariant.same_shape;
      stored = places_step c.args.windows.now c.loop-window.window-index c.min-count.result c.loop-window.done c.window-item.result
          c.args.bytes.now
          (g.Self.HostBlocks.host c.loop-window.self) (g.Self.HostBlocks.host c.write.new.self) next
          (omega arith) c.write.ensures.stored ∙ c.loop-window.invariant.stored;
    }

pub returns-clause-stored : goal.returns-clause-stored
unfolding put_all
returns-clause-stored g c =
    let past = drop_all c.loop-window.window-index c.args.windows.now c.loop-window-test.false in
    rw past at c.loop-window.invariant.stored
