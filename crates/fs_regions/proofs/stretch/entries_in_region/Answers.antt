use Rattle.std.proofs.Common.{◌∙◌, ◌*◌, ap, min, refl}
use Rattle.fs_regions.specs.Places.{left_in, places_in}
use Rattle.fs_regions.proofs.Stretching.{entries_there, most_whole, none_whole}
use Rattle.fs_regions.proofs.stretch.entries_in_region.Goals as goal

pub returns-in-Some-clause-there : goal.returns-in-Some-clause-there
returns-in-Some-clause-there c =
    entries_there c.args.regions.now c.args.walk.now _ c.args.most _ c.in-Some.window c.address.ensures.address
    (rw c.len.ensures.len at c.max.ensures) c.requires.some c.requires.inside
    (rw c.from.ensures at c.in-Some.ensures.some)

pub returns-in-Some-clause-most : goal.returns-in-Some-clause-most
returns-in-Some-clause-most c = λ there n few within.
    most_whole n c.args.most _ c.in-Some.window.len _ (rw c.len.ensures.len at c.max.ensures)
    (rw c.from.ensures at (c.in-Some.ensures.longest
    ∙ ap (λ a. min (16 * c.from.result) (left_in (places_in c.args.regions.now) a)) c.address.ensures.address)) few within

pub returns-in-None-clause-most : goal.returns-in-None-clause-most
returns-in-None-clause-most c = λ there n few within.
    none_whole c.args.regions.now c.args.walk.now c.address.result c.address.ensures.address (c.in-None.ensures.none refl) there
