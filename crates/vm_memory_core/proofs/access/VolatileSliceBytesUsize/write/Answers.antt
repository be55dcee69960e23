use Rattle.std.proofs.Common.{ℕ, List, Ok, ap, sym, ◌∙◌}
use Rattle.vm_memory_core.specs.Host.{Place}
use Rattle.vm_memory_core.specs.Window.{places_of, put_all}
use Rattle.vm_memory_core.specs.Access.{places_in}
use Rattle.vm_memory_core.proofs.WindowLemmas.{length-span, zip-take_right}
use Rattle.vm_memory_core.proofs.access.VolatileSliceBytesUsize.write.Goals as goal

pub returns-in-Ok-clause-written : goal.returns-in-Ok-clause-written
returns-in-Ok-clause-written g c =
    let w = c.in-Ok.window in
    let n = length-span w.len w.block w.offset w.io in
    record {
      places = Ok (places_of w);
      may = ap places_in c.in-Ok.ensures.window;
      count = ap Ok (c.len-in-Ok.ensures.len ∙ sym n);
      stored = c.write.ensures.stored ∙ ap (λ (ws : List (Place × ℕ)). put_all c.args.h.now ws)
          (zip-take_right (places_of w) c.args.buf.now c.len.result (c.len.ensures.len ∙ sym n));
    }
