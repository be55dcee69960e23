use Rattle.std.proofs.Common.{◌∙◌, ap, refl, sym, arith}
use Rattle.fs_queue.specs.declared.chain_walk.ChainWalk.{ChainWalk}
use Rattle.fs_regions.specs.Walks.{queue_of}
use Rattle.fs_regions.proofs.Counting.{counted}
use Rattle.fs_regions.proofs.GoingStraight.{reads_so, walk_of}
use Rattle.fs_regions.proofs.course.Course.read_ahead.Goals as goal

pub read_table-requires-clause-joins : goal.read_table-requires-clause-joins
read_table-requires-clause-joins c = λ more.
    let same = ap (walk_of c.args.walk) c.in-Entries.is in
    let size = sym (ap (λ (w : ChainWalk). w.size) same) ∙ c.requires.0 in
    let earlier = sym (ap (λ (w : ChainWalk). w.earlier) same) ∙ c.requires.1 in
    let joins = c.most_entries-entries.ensures.joins more in
    let room = rw c.deref.ensures at c.may_join.ensures in
    omega (arith, size, earlier, joins, room, more)

pub returns-in-Entries-clause-counts : goal.returns-in-Entries-clause-counts
returns-in-Entries-clause-counts c =
    let same = ap (walk_of c.args.walk) c.in-Entries.is in
    counted c.in-Entries.stretch.walk c.split_at.result.0.now c.args.descriptors.now.items c.read_table.new.descriptors.items
    c.read_table.result c.args.self.now.layout.size c.read_table.ensures
    (sym (ap (λ (w : ChainWalk). w.size) same) ∙ c.requires.0, sym (ap (λ (w : ChainWalk). w.earlier) same) ∙ c.requires.1)

pub returns-in-Entries-clause-reads : goal.returns-in-Entries-clause-reads
returns-in-Entries-clause-reads c =
    let due = c.if-not-is_due.ensures.is refl in
    let most = c.most_entries-entries.ensures in
    reads_so c.args.regions.now (queue_of c.args.self.now) c.args.head c.args.walk c.args.descriptors.now.items c.args.one.now
    c.args.bytes.now c.read_table.new.descriptors.items c.read_table.result c.most_entries-entries.result c.may_join.result most.some
    most.low most.inside most.few most.joins most.most (rw c.deref.ensures at c.may_join.ensures) due.0 due.1
    (c.if-not-is_due.ensures.there refl)
    c.in-Entries.stretch.walk c.split_at.result.0.now (ap (walk_of c.args.walk) c.in-Entries.is) c.split_at.ensures.front
    c.read_table.ensures
