use Rattle.std.proofs.Common.{◌≡◌, ◌∙◌, ◌-◌, ◌++◌, ap, arith, drop, length, length-drop, min, take, take_all}
use Rattle.server_segments.specs.Segments.{joined}
use Rattle.vm_memory_core.proofs.WindowLemmas.{drop_item}
use Rattle.fs_device.proofs.WindowCuts.{segment_there}
use Rattle.fs_device.proofs.request_windows.segments_behind.Goals as goal

pub loop-window-preserved : goal.loop-window-preserved
loop-window-preserved g c =
    let l = c.loop-window in
    let ws = c.args.windows.now in
    let w = c.window-item.result in
    let next = drop_item ws l.window-index w c.loop-window-test.true c.window-item.is in
    let k = c.min-count.result in
    let is : k ≡ min l.left w.len = omega (arith, c.min-count.ensures, c.bytes-bytes.ensures.len) in
    let p = c.push_segment-in-loop-window.ensures in
    let bytes = c.bytes-bytes.result.now in
    let all : take (length bytes - k) (drop k bytes) ≡ drop k bytes =
    take_all (length bytes - k) (drop k bytes) (omega (arith, length-drop k bytes)) in
    record {
      capacity = omega (arith, l.invariant.capacity, p.len, p.capacity, c.loop-window-test.true);
      got = segment_there (g.H.HostBlocks.host c.args.host.now) ws l.window-index l.left k w l.segments.items
          c.push_segment-in-loop-window.new.segments.items next is
          (p.joined ∙ ap (λ x. joined l.segments.items ++ x) (all ∙ ap (drop k) c.bytes-bytes.ensures.bytes)) ∙ l.invariant.got;
    }
