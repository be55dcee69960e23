use Rattle.std.proofs.Common.{◌≡◌, ◌++◌, List, ℕ, ap, ◌∙◌, subst}
use Rattle.std.specs.Prelude.{◌↔◌}
use Rattle.std.specs.List.{Contains}
use Rattle.fs_shared.specs.Runs.{begun}
use Rattle.fs_shared.proofs.RunLemmas.{both_pages}
use Rattle.fs_shared.proofs.runs.written_pages.Goals as goal

pub returns-clause-pages : goal.returns-clause-pages
returns-clause-pages c ls firsts thens one two =
    let items : c.push_begun-2.new.pages.items ≡ begun c.args.first_count c.args.first.now ++ begun c.args.last_count c.args.last.now =
    c.push_begun-2.ensures.items
    ∙ ap (λ (xs : List ℕ). xs ++ begun c.args.last_count c.args.last.now)
    (c.push_begun.ensures.items ∙ ap (λ (xs : List ℕ). xs ++ begun c.args.first_count c.args.first.now) c.requires.empty) in
    both_pages ls firsts thens c.args.first.now c.args.last.now c.args.first_count c.args.last_count c.sort_pages.new.pages.items one two
    c.sort_pages.ensures.ascending
    (subst (λ (xs : List ℕ). (page : ℕ) → Contains c.sort_pages.new.pages.items page ↔ Contains xs page) items c.sort_pages.ensures.all)
