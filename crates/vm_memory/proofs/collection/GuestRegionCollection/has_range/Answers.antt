use Rattle.std.proofs.Common.{◌∙◌, ap, sym, eqb}
use Rattle.vm_memory.specs.Layout.{place}
use Rattle.vm_memory.specs.Memory.{circular, reached}
use Rattle.vm_memory.proofs.Places.{list_all-reached, length-circular}
use Rattle.vm_memory.proofs.collection.GuestRegionCollection.has_range.Goals as goal

pub returns : goal.returns
returns g c =
    ap (λ n. eqb n c.args.len) c.reached_len.ensures
    ∙ ap (λ n. eqb (reached (place c.args.self.now) (circular c.args.addr.0 c.args.len)) n) (sym (length-circular c.args.len c.args.addr.0))
    ∙ sym (list_all-reached (circular c.args.addr.0 c.args.len) (place c.args.self.now))
