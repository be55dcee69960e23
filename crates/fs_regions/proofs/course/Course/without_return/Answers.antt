use Rattle.std.proofs.Common.{◌∙◌, refl, sym}
use Rattle.fs_regions.specs.Misses.{OfReturn}
use Rattle.fs_regions.specs.Places.{places_in}
use Rattle.fs_regions.specs.Walks.{queue_of}
use Rattle.fs_regions.proofs.Missing.{return_no_miss}
use Rattle.fs_regions.proofs.Offering.{on_lacking}
use Rattle.fs_regions.proofs.course.Course.without_return.Goals as goal

pub returns-in-Some : goal.returns-in-Some
returns-in-Some c = λ loaded head progress waits.
    (OfReturn, (head, waits.by_loads, waits.no_entries, refl), sym c.return_miss.ensures ∙ c.in-Some.is)

pub returns-in-None : goal.returns-in-None
returns-in-None c = λ loaded head progress waits.
    let m = places_in c.args.regions.now in
    let q = queue_of c.args.self.now in (
      on_lacking m c.args.self.now.limit q loaded head progress c.args.error refl waits c.requires,
      return_no_miss m c.args.self.now.limit q loaded c.args.error c.requires
          ((head, waits.by_loads, waits.no_entries, refl), sym c.return_miss.ensures ∙ c.in-None.is),
    )
