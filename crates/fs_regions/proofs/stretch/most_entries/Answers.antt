use Rattle.std.proofs.Common.{◌∙◌, ap, arith}
use Rattle.fs_queue.specs.Chain.{DescriptorTable}
use Rattle.fs_regions.specs.Walks.{most_of}
use Rattle.fs_regions.proofs.Stretching.{fits}
use Rattle.fs_regions.proofs.stretch.most_entries.Goals as goal

pub returns-clause-most : goal.returns-clause-most
returns-clause-most c = λ n few inside may.
    let is = c.max.ensures in
    fits n c.max.result (omega (arith, is))
    (λ more.
    let joins = may more in
    let most = c.min-most.ensures in
    let least = c.min.ensures in
    let bound = c.from-2.ensures in
    let of = c.most_of.ensures.most ∙ ap most_of c.entry-table.ensures.table in
    let from = c.from.ensures in
    let index = c.entry-table.ensures.index in
    let seen = ap (λ (t : DescriptorTable). t.entries) c.table.view_is in
    let table = ap (λ (t : DescriptorTable). t.entries) c.entry-table.ensures.table in
    omega (arith, few, inside, is, joins, most, least, bound, of, from, index, seen, table))
