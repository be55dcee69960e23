use Rattle.std.proofs.Common.{◌∙◌}
use Rattle.vm_memory_core.proofs.WindowLemmas.{drop_item, bytes_step, bytes_done}
use Rattle.vm_memory_core.proofs.host_blocks.HostBlocks.fetch_windows.Goals as goal

pub loop-window-preserved : goal.loop-window-preserved
loop-window-preserved g c =
    let next = drop_item c.args.windows.now c.loop-window.window-index c.window-item.result c.loop-window-test.true c.window-item.is in
    bytes_step (g.Self.HostBlocks.host c.args.self.now) c.args.windows.now c.loop-window.window-index _ c.loop-window.bytes.items
    c.bytes.result.now
    c.extend_from_slice.new.self.items next c.bytes.ensures.bytes
    c.in_ok-extend_from_slice.ensures.items
    ∙ c.loop-window.invariant

pub returns : goal.returns
returns g c = bytes_done (g.Self.HostBlocks.host c.args.self.now) c.args.windows.now c.loop-window.window-index _ c.loop-window-test.false
    ∙ c.loop-window.invariant
