use Rattle.std.proofs.Common.{Some, ap, sym, ◌∙◌}
use Rattle.fs_queue.specs.Loads.{step_by}
use Rattle.fs_queue.specs.SteppingView.{load_of, visit_of}
use Rattle.fs_regions.proofs.Counting.{counts_on}
use Rattle.fs_regions.proofs.Finding.{with_joining}
use Rattle.fs_regions.proofs.Stretching.{entry_read}
use Rattle.fs_regions.proofs.stretch.read_entry.Goals as goal

pub returns-in-Some-clause-brings : goal.returns-in-Some-clause-brings
returns-in-Some-clause-brings c =
    entry_read c.args.walk c.args.bytes.now c.args.offset _ c.give-given.result.joins c.give-given.result.then c.args.descriptors.now.items
    _ c.requires.inside c.entry_of.ensures
    c.give-given.ensures.joins c.give-given.ensures.then
    (c.push_reserved.ensures.items ∙ sym (ap (with_joining c.args.descriptors.now.items) c.in-Some.is))

pub returns-in-None-clause-brings : goal.returns-in-None-clause-brings
returns-in-None-clause-brings c =
    entry_read c.args.walk c.args.bytes.now c.args.offset _ c.give-given.result.joins c.give-given.result.then c.args.descriptors.now.items
    _ c.requires.inside c.entry_of.ensures
    c.give-given.ensures.joins c.give-given.ensures.then (sym (ap (with_joining c.args.descriptors.now.items) c.in-None.is))

pub returns-in-Some-clause-counts : goal.returns-in-Some-clause-counts
returns-in-Some-clause-counts c =
    counts_on c.args.walk.size (visit_of c.args.walk)
    (step_by c.args.walk.size (visit_of c.args.walk) (load_of c.args.walk (Some c.entry_of.result))) c.args.descriptors.now.items _
    c.give-given.result.joins c.give-given.result.then c.give-given.ensures.joins c.give-given.ensures.then
    (c.push_reserved.ensures.items ∙ sym (ap (with_joining c.args.descriptors.now.items) c.in-Some.is))

pub returns-in-None-clause-counts : goal.returns-in-None-clause-counts
returns-in-None-clause-counts c =
    counts_on c.args.walk.size (visit_of c.args.walk)
    (step_by c.args.walk.size (visit_of c.args.walk) (load_of c.args.walk (Some c.entry_of.result))) c.args.descriptors.now.items _
    c.give-given.result.joins c.give-given.result.then c.give-given.ensures.joins c.give-given.ensures.then
    (sym (ap (with_joining c.args.descriptors.now.items) c.in-None.is))
