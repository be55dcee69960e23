use Rattle.std.proofs.Common.{Bool, false, List, map, ap, sym, ◌∙◌}
use Rattle.vm_bitmaps.specs.Pages.{PageSet}
use Rattle.vm_memory_core.proofs.Stores.{clear-is}
use Rattle.vm_memory_core.proofs.io_pages.IoPages+PageBitmap.reset.Goals as goal

pub returns : goal.returns
returns c =
    ap (λ (p : PageSet). p.marks) c.reset.ensures
    ∙ clear-is c.self.inside.bitmap.marks _ (sym c.len-pages.ensures.pages ∙ c.len-pages.ensures.marks)
    ∙ ap (λ (m : List Bool). map (λ _. false) m) c.self.view_is
