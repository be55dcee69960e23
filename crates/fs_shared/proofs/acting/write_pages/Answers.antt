use Rattle.std.proofs.Common.{[], map, arith}
use Rattle.vm_memory_core.specs.Host.{lengths}
use Rattle.vm_memory_core.specs.Window.{places}
use Rattle.fs_shared.specs.Pages.{page_of}
use Rattle.fs_shared.specs.Runs.{AreRuns}
use Rattle.fs_shared.proofs.PageLemmas.{as_many, no_runs, pages_written, windows_hold}
use Rattle.fs_shared.proofs.acting.write_pages.Goals as goal

pub page_runs-requires : goal.page_runs-requires
page_runs-requires g c =
    let h = g.H.HostBlocks.host c.args.host.now in
    let ws = c.push_windows.new.windows.items in
    let found = windows_hold h c.args.layout.now c.args.addr c.args.len c.new-windows.result.items ws c.in_ok-push_windows.field-0
    c.requires c.new-windows.ensures.items c.in_ok-push_windows.ensures.found in
    rw c.deref.ensures (omega (arith, as_many h c.args.layout.now c.args.addr c.args.len ws found, c.ranges.len.fits))

pub returns : goal.returns
returns g c =
    let h = g.H.HostBlocks.host c.args.host.now in
    let ws = c.push_windows.new.windows.items in
    let found = windows_hold h c.args.layout.now c.args.addr c.args.len c.new-windows.result.items ws c.in_ok-push_windows.field-0
    c.requires c.new-windows.ensures.items c.in_ok-push_windows.ensures.found in
    let runs : AreRuns (map (page_of (lengths h)) (places ws)) c.deref-2.result.now =
    rw c.deref-2.ensures (rw c.deref.ensures at c.in_ok-runs.ensures) in
    pages_written h c.args.layout.now c.args.addr c.args.len ws c.written_pages.new.pages.items found
    (c.written_pages.ensures.pages (lengths h) (places ws) [] runs (no_runs (lengths h)))
