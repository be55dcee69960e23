use Rattle.std.proofs.Common.{◌≡◌, ◌+◌, length, take, drop, ◌∙◌, ap, sym, arith}
use Rattle.std.proofs.lemmas.List.{drop_all, take_all}
use Rattle.vm_memory_core.specs.Window.{places}
use Rattle.vm_memory_core.proofs.WindowLemmas.{drop_item, bytes_step, bytes_done, length-places_step, take-put}
use Rattle.vm_memory_core.proofs.host_blocks.HostBlocks.read_windows.Goals as goal

pub put_at-requires : goal.put_at-requires
put_at-requires g c =
    let next = drop_item c.args.windows.now c.loop-window.window-index c.window-item.result c.loop-window-test.true c.window-item.is in
    let n = length-places_step c.args.windows.now c.loop-window.window-index _ next in
    omega (arith, c.bytes.ensures.len)

pub loop-window-preserved : goal.loop-window-preserved
loop-window-preserved g c =
    let next = drop_item c.args.windows.now c.loop-window.window-index c.window-item.result c.loop-window-test.true c.window-item.is in
    let n = length-places_step c.args.windows.now c.loop-window.window-index _ next in
    let more = ap (take (c.loop-window.done + c.len-done.result)) c.put_at.ensures.stored
    ∙ take-put c.loop-window.buffer c.bytes.result.now c.loop-window.done _ (omega arith) (omega arith) in
    record {
      fits = omega arith;
      got = bytes_step (g.Self.HostBlocks.host c.args.self.now) c.args.windows.now c.loop-window.window-index _
          (take c.loop-window.done c.loop-window.buffer)
          c.bytes.result.now _ next c.bytes.ensures.bytes more
          ∙ c.loop-window.invariant.got;
    }

pub returns : goal.returns
returns g c =
    let none = drop_all c.loop-window.window-index c.args.windows.now c.loop-window-test.false in
    let count : length (places (drop c.loop-window.window-index c.args.windows.now)) ≡ 0 = rw none in
    let all = take_all c.loop-window.done c.loop-window.buffer (omega arith) in
    sym all ∙ bytes_done (g.Self.HostBlocks.host c.args.self.now) c.args.windows.now c.loop-window.window-index _ c.loop-window-test.false
    ∙ c.loop-window.invariant.got
