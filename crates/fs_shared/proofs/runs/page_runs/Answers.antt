use Rattle.std.proofs.Common.{◌+◌, [], map, take, sym, subst, ◌∙◌, refl, arith}
use Rattle.std.proofs.lemmas.List.{length-map, take_all}
use Rattle.vm_memory_core.specs.Host.{lengths}
use Rattle.vm_memory_core.specs.Window.{places}
use Rattle.fs_shared.specs.Pages.{page_of}
use Rattle.fs_shared.specs.Runs.{AreRuns}
use Rattle.fs_shared.proofs.RunLemmas.{places_more, places_left, windows_more, no_runs}
use Rattle.fs_shared.proofs.runs.page_runs.Goals as goal

pub loop-window-init : goal.loop-window-init
loop-window-init g c = record { from = refl; runs = subst (AreRuns []) (sym c.new-runs.ensures.items) no_runs }

pub push_runs-requires : goal.push_runs-requires
push_runs-requires g c =
    let more = places_more c.args.windows.now c.loop-window.window-index c.window-item.result c.loop-window-test.true c.window-item.is in
    let left = places_left c.args.windows.now (c.loop-window.window-index + 1) in
    let was = c.loop-window.invariant.from in
    omega (arith, more, left, was, c.requires)

pub overflow_add-from : goal.overflow_add-from
overflow_add-from g c =
    let more = places_more c.args.windows.now c.loop-window.window-index c.window-item.result c.loop-window-test.true c.window-item.is in
    let left = places_left c.args.windows.now (c.loop-window.window-index + 1) in
    let was = c.loop-window.invariant.from in
    omega (arith, more, left, was, c.requires, c.len-from.ensures.len)

pub loop-window-preserved : goal.loop-window-preserved
loop-window-preserved g c =
    let more = places_more c.args.windows.now c.loop-window.window-index c.window-item.result c.loop-window-test.true c.window-item.is in
    let was = c.loop-window.invariant.from in
    let ls = lengths (g.H.HostBlocks.host c.args.host.now) in
    let done = places (take c.loop-window.window-index c.args.windows.now) in
    record {
      from = omega (arith, more, was, c.len-from.ensures.len);
      runs = subst (λ xs. AreRuns xs c.push_runs.new.runs.items) (sym (windows_more ls c.args.windows.now c.loop-window.window-index
          c.window-item.result c.loop-window-test.true c.window-item.is))
          (c.in_ok-push_runs.ensures (map (page_of ls) done) (length-map done (page_of ls) ∙ sym was) c.loop-window.invariant.runs);
    }

pub returns : goal.returns
returns g c =
    let all = take_all c.loop-window.window-index c.args.windows.now c.loop-window-test.false in
    subst (λ ws. AreRuns (map (page_of (lengths (g.H.HostBlocks.host c.args.host.now))) (places ws)) c.loop-window.runs.items) all
    c.loop-window.invariant.runs
