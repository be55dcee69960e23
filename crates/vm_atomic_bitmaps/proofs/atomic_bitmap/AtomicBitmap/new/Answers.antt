use Rattle.std.proofs.Common.{◌≡◌, ℕ, List, sym, subst, rules, replicate, []}
use Rattle.atomic_table.specs.Table.{opening}
use Rattle.vm_atomic_bitmaps.specs.Counts.{first_pass}
use Rattle.vm_atomic_bitmaps.specs.Rule.{table_words, KeepsRule}
use Rattle.vm_atomic_bitmaps.proofs.PageRuns.{clear_words}
use Rattle.vm_atomic_bitmaps.proofs.atomic_bitmap.AtomicBitmap.new.Goals as goal

pub of_words-requires : goal.of_words-requires
of_words-requires c =
    let items : c.as_slice.result.now ≡ replicate c.max.result 0 = search rules in
    let count : c.max.result ≡ table_words c.div_ceil-len.result = search rules in
    let len = c.div_ceil-len.result in
    subst (λ (l : List ℕ). KeepsRule len (opening l [] (first_pass len))) (sym items) (clear_words c.div_ceil-len.result c.max.result count)
