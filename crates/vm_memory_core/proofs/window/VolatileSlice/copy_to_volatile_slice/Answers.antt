use Rattle.std.proofs.Common.{List, ℕ, arith, ap, ◌∙◌}
use Rattle.vm_memory_core.specs.Host.{Place}
use Rattle.vm_memory_core.specs.Window.{put_all}
use Rattle.vm_memory_core.proofs.WindowLemmas.{zip-parts}
use Rattle.vm_memory_core.proofs.window.VolatileSlice.copy_to_volatile_slice.Goals as goal

pub returns-clause-stored : goal.returns-clause-stored
returns-clause-stored g c =
    (rw (c.part.ensures, c.part-2.ensures) at c.copy_window.ensures.stored)
    ∙ ap (λ (ws : List (Place × ℕ)). put_all c.args.h.now ws) (zip-parts c.args.h.now c.args.self.now c.args.dest c.min-count.result
    (omega (arith, c.len.ensures.len, c.len-2.ensures.len, c.min-count.ensures)))
