use Rattle.std.proofs.Common.{◌∙◌, refl, sym, ap, Some}
use Rattle.fs_queue.specs.NextAvail.{Refused}
use Rattle.fs_queue.specs.RingingView.{stage_of}
use Rattle.fs_regions.specs.Places.{places_in}
use Rattle.fs_regions.specs.Walks.{queue_of}
use Rattle.fs_regions.proofs.Missing.{ring_no_miss}
use Rattle.fs_regions.proofs.Offering.{on_refused}
use Rattle.fs_regions.proofs.Steps.{untold, head_waits}
use Rattle.fs_regions.proofs.course.Course.step_of.Goals as goal

pub returns-in-Refused : goal.returns-in-Refused
returns-in-Refused c = λ loaded reports none.
    let m = places_in c.args.regions.now in
    let q = queue_of c.args.self.now in
    let e = c.in-Refused.error in
    let by = reports.by_loads ∙ ap Some (sym (untold (Refused e) reports.next (ap stage_of (sym c.in-Refused.is) ∙ reports.reports))) in (
      on_refused m c.args.self.now.limit q loaded e refl reports.no_entries reports.asked by,
      ring_no_miss m c.args.self.now.limit q loaded e by reports.no_miss,
    )

pub returns-in-Chain : goal.returns-in-Chain
returns-in-Chain c = λ loaded reports none. c.at_head.ensures loaded
    (head_waits (places_in c.args.regions.now) (queue_of c.args.self.now) loaded c.in-Chain.head c.in-Chain.progress
    (rw c.in-Chain.is at reports)) none
