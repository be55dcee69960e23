use Rattle.vm_memory_core.proofs.WindowLemmas.{places_above, places_below}
use Rattle.vm_memory_core.proofs.window.VolatileSlice.replace_bitmap.Goals as goal

pub returns-then-offset-base-clause-places : goal.returns-then-offset-base-clause-places
returns-then-offset-base-clause-places c =
    rw (← c.self.view_is)
    (places_above c.self.inside.block c.self.inside.offset c.self.inside.len c.args.io c.args.base _ c.if-offset-base.true)

pub returns-else-offset-base-clause-places : goal.returns-else-offset-base-clause-places
returns-else-offset-base-clause-places c =
    rw (← c.self.view_is)
    (places_below c.self.inside.block c.self.inside.offset c.self.inside.len c.args.io c.args.base _ c.if-offset-base.false)
