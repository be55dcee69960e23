use Rattle.std.proofs.Common.{◌∙◌, None, refl, ap}
use Rattle.vm_iotlb.specs.declared.permissions.Permissions.TheVariants.{Read}
use Rattle.fs_queue.specs.Queue.{avail_index_at}
use Rattle.fs_regions.specs.Misses.{OfIndex}
use Rattle.fs_regions.specs.Places.{places_in}
use Rattle.fs_regions.specs.Walks.{nothing, queue_of}
use Rattle.fs_regions.proofs.Missing.{first_of_one}
use Rattle.fs_regions.proofs.Steps.{after_index, reports_alone, without_entry}
use Rattle.fs_regions.proofs.course.Course.without_index.Goals as goal

pub returns-in-Some : goal.returns-in-Some
returns-in-Some c = λ none.
    let q = queue_of c.args.self.now in
    let at = c.address.ensures.at ∙ ap avail_index_at c.requires.at in (
      OfIndex,
      (refl, none),
      first_of_one (places_in c.args.regions.now) (avail_index_at q) c.address.result 2 Read c.miss.result at c.miss.ensures ∙ c.in-Some.is,
    )

pub returns-in-None : goal.returns-in-None
returns-in-None c = λ none.
    let q = queue_of c.args.self.now in
    let m = places_in c.args.regions.now in
    let w = c.args.walk in
    let at = c.address.ensures.at ∙ ap avail_index_at c.requires.at in
    let no_miss = first_of_one m (avail_index_at q) c.address.result 2 Read c.miss.result at c.miss.ensures ∙ c.in-None.is in
    let stands = after_index m q w.layout w.position None c.give.result c.requires.at refl (λ _. c.requires.away) (λ _. no_miss)
    c.give.ensures.stage c.give.ensures.same c.give.ensures.chain in
    c.step_of.ensures nothing (reports_alone m q None c.give.result stands (without_entry q c.give.result stands.stage)) none
