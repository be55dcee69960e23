use Rattle.std.proofs.Common.{◌≡◌, ◌∙◌, ◌+◌, ◌-◌, ap, arith, length, min, take}
use Rattle.std.proofs.lemmas.List.{length-take-le}
use Rattle.vm_memory_core.proofs.WindowLemmas.{drop_item, length-places_step}
use Rattle.fs_device.proofs.WindowCuts.{copy_more}
use Rattle.fs_device.proofs.request_windows.copy_front.Goals as goal

pub loop-window-preserved : goal.loop-window-preserved
loop-window-preserved g c =
    let l = c.loop-window in
    let ws = c.args.windows.now in
    let w = c.window-item.result in
    let next = drop_item ws l.window-index w c.loop-window-test.true c.window-item.is in
    let size = c.put_at.ensures.len in
    let k = c.min-count.result in
    let is : k ≡ min w.len (length l.buffer - l.done) = omega (arith, c.min-count.ensures, c.bytes-bytes.ensures.len) in
    let piece = take k c.bytes-bytes.result.now in
    let long : length piece ≡ k = length-take-le k c.bytes-bytes.result.now (omega (arith, is, c.bytes-bytes.ensures.len)) in
    let more = copy_more (g.H.HostBlocks.host c.args.host.now) ws l.window-index (length l.buffer - l.done) k l.done w l.buffer
    c.put_at.new.buffer piece next is long
    (omega (arith, is, l.invariant.within)) (ap (take k) c.bytes-bytes.ensures.bytes) c.put_at.ensures.stored in
    let rest : length c.put_at.new.buffer - (l.done + k) ≡ length l.buffer - l.done - k = omega (arith, size) in
    record {
      size = size ∙ l.invariant.size;
      within = omega (arith, size, is, l.invariant.within);
      enough = omega (arith, rest, is, length-places_step ws l.window-index w next, l.invariant.enough);
      got = rw (rest, size) (more ∙ l.invariant.got);
    }
