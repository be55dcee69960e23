use Rattle.std.proofs.Common.{◌++◌, List, map, ap, sym, ◌∙◌, subst, take}
use Rattle.vm_memory_core.specs.Host.{Place, lengths}
use Rattle.vm_memory_core.specs.Window.{places}
use Rattle.fs_queue.specs.Windows.{chain_places}
use Rattle.fs_shared.specs.Pages.{ArePagesOf, page_of}
use Rattle.fs_shared.specs.Runs.{AreRuns}
use Rattle.fs_shared.proofs.Returning.{places_of_return}
use Rattle.fs_shared.proofs.return_pages.return_pages.Goals as goal

pub returns-clause-pages : goal.returns-clause-pages
returns-clause-pages c m q fetched t head reply runs taken ten same =
    let used = places t.return_windows.used.items in
    let first : AreRuns (map (page_of (lengths m.host)) (chain_places t.chain)) c.deref.result.now = rw c.deref.ensures runs.room in
    let last : AreRuns (map (page_of (lengths m.host)) used) c.deref-2.result.now = rw c.deref-2.ensures runs.used in
    subst (λ (ps : List Place). ArePagesOf (lengths m.host) ps c.written_pages.new.pages.items)
    (ap (λ n. take n (chain_places t.chain) ++ take 10 used) (sym same) ∙ sym (places_of_return m q fetched t head reply taken ten))
    (c.written_pages.ensures.pages (lengths m.host) (chain_places t.chain) used first last)
