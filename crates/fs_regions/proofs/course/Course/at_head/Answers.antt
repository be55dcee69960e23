use Rattle.std.proofs.Common.{◌∙◌, sym}
use Rattle.fs_queue.specs.Chain.{first_visit}
use Rattle.fs_queue.specs.Loads.{ahead_at}
use Rattle.fs_regions.specs.Walks.{queue_of}
use Rattle.fs_regions.proofs.Finding.{brings_none}
use Rattle.fs_regions.proofs.course.Course.at_head.Goals as goal

pub without_return-requires : goal.without_return-requires
without_return-requires c = sym c.return_fault.ensures ∙ c.in-Some.is

pub returns-in-Some : goal.returns-in-Some
returns-in-Some c = λ loaded waits none. rw none (c.without_return.ensures loaded c.args.head c.args.progress waits)

pub returns-in-None : goal.returns-in-None
returns-in-None c = λ loaded waits none.
    c.at_progress.ensures.comes loaded
    (record { by_loads = waits.by_loads; asked = waits.asked; returns = sym c.return_fault.ensures ∙ c.in-None.is }) waits.begins.1
    (rw (waits.no_entries, none) (brings_none c.args.self.now.layout.size
    (ahead_at c.args.self.now.layout.size (first_visit (queue_of c.args.self.now) c.args.head)) _ waits.begins.0))
