use Rattle.std.proofs.Common.{rules, ◌≡◌, ◌+◌, ◌/◌, ◌%◌, ◌<◌, ◌≤◌, ◌++◌, [], ◌∷◌, ℕ, List, map, append-nil, length, refl, sym, subst, ap}
use Rattle.std.proofs.Common.{◌∙◌, arith}
use Rattle.vm_memory_core.specs.Host.{lengths}
use Rattle.vm_memory_core.specs.Window.{span}
use Rattle.fs_shared.specs.declared.runs.PageRun.{PageRun}
use Rattle.fs_shared.specs.Pages.{first_page, page_of}
use Rattle.fs_shared.specs.Runs.{AreRuns}
use Rattle.fs_shared.proofs.RunLemmas.{next_run}
use Rattle.fs_shared.proofs.runs.push_runs.Goals as goal

pub loop-done-init : goal.loop-done-init
unfolding span
loop-done-init g c = record {
  within = omega arith;
  runs = λ before long is. subst (λ (xs : List ℕ). AreRuns xs c.args.runs.now.items) (sym (append-nil before)) is;
}

pub loop-done-preserved : goal.loop-done-preserved
loop-done-preserved g c =
    let ls = lengths (g.H.HostBlocks.host c.args.host.now) in
    let w = c.args.window in
    let run : PageRun = record { page = c.in-Some.page; from = c.args.from + c.loop-done.done } in
    let pushed : c.push.new.self.items ≡ c.loop-done.runs.items ++ run ∷ [] = c.in_ok-push.ensures.ok in
    let page : c.in-Some.page ≡ c.in_ok-first.first + (w.offset + c.loop-done.done) / 4096 = search rules in
    let some : 0 < c.min-count.result = search rules in
    let fits : (w.offset + c.loop-done.done) % 4096 + c.min-count.result ≤ 4096 = search rules in
    record {
      within = search rules;
      runs = λ before long is. subst (λ (rs : List PageRun).
          AreRuns (before ++ map (page_of ls) (span w.block w.offset w.io (c.loop-done.done + c.min-count.result))) rs) (sym pushed) (
          next_run ls w.block w.offset w.io c.loop-done.done c.min-count.result c.args.from before c.loop-done.runs.items run
          (c.loop-done.invariant.runs before long is) long refl
          (page ∙ ap (λ n. n + (w.offset + c.loop-done.done) / 4096) (c.in_ok-first.ensures ∙ ap (first_page ls) c.block.ensures)) some fits
          );
    }

pub returns : goal.returns
returns g c =
    let all : c.loop-done.done ≡ c.args.window.len = search rules in
    subst
    (λ n. (before : List ℕ) → length before ≡ c.args.from → AreRuns before c.args.runs.now.items
    → AreRuns (before ++ map (page_of (lengths (g.H.HostBlocks.host c.args.host.now)))
    (span c.args.window.block c.args.window.offset c.args.window.io n)) c.loop-done.runs.items)
    all c.loop-done.invariant.runs
