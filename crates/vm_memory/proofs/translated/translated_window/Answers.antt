use Rattle.std.proofs.Common.{◌≡◌, ◌∙◌, ℕ, Some, ap, refl, sym, subst, arith}
use Rattle.vm_iotlb.specs.Ranges.{table_held}
use Rattle.vm_memory_core.specs.Window.{places_of}
use Rattle.vm_memory.specs.Layout.{left_at, place}
use Rattle.vm_memory.specs.Memory.{addresses, located}
use Rattle.vm_memory.proofs.TranslatedLemmas.{first_lost, first_piece, run_len-most, run_len-some, translated_len, window_translated}
use Rattle.vm_memory.proofs.translated.translated_window.Goals as goal

pub first_piece-requires-clause-mapped : goal.first_piece-requires-clause-mapped
first_piece-requires-clause-mapped g c = (c.args.access, c.requires.mapped)

pub window_at-requires : goal.window_at-requires
window_at-requires g c =
    let first = first_piece c.args.most c.args.addr (table_held c.args.table.now) c.in-Some.piece _ c.requires.some c.in-Some.ensures.1 in
    rw first.1 (run_len-some c.args.most c.args.addr (table_held c.args.table.now) c.requires.some)

pub returns-in-Some-window_at-clause-some : goal.returns-in-Some-window_at-clause-some
returns-in-Some-window_at-clause-some g c =
    let first = first_piece c.args.most c.args.addr (table_held c.args.table.now) c.in-Some.piece _ c.requires.some c.in-Some.ensures.1 in
    let most = run_len-most c.args.most c.args.addr (table_held c.args.table.now) in
    let w = c.in-Some-window_at.window in
    let some = c.in-Some-window_at.ensures.some in
    let there = subst (λ (t : ℕ). located (place (g.M.GuestMemoryBackend.layout c.args.backend.now)) (addresses t w.len)
    ≡ Some (places_of w)) first.0 some.3 in
    rw c.replace_bitmap.ensures.window (
      some.0,
      omega (arith, some.1, first.1, most),
      omega (arith, some.1, first.1, most, c.requires.ends),
      window_translated c.args.most c.args.addr w.len (table_held c.args.table.now) c.args.access
          (g.M.GuestMemoryBackend.layout c.args.backend.now) c.args.set w c.requires.mapped
          (omega (arith, some.1, first.1)) refl there,
    )

pub returns-in-Some-window_at-clause-longest : goal.returns-in-Some-window_at-clause-longest
returns-in-Some-window_at-clause-longest g c =
    let table = table_held c.args.table.now in
    let layout = g.M.GuestMemoryBackend.layout c.args.backend.now in
    let first = first_piece c.args.most c.args.addr table c.in-Some.piece _ c.requires.some c.in-Some.ensures.1 in
    let len = c.in-Some-window_at.ensures.longest in
    rw c.replace_bitmap.ensures.window (translated_len c.args.most c.args.addr c.in-Some-window_at.window.len
    (left_at layout c.in-Some.piece.base.0) table layout (omega (arith, c.requires.ends))
    (ap (left_at layout) first.0) (omega (arith, len, first.1)))

pub returns-in-None-clause-none : goal.returns-in-None-clause-none
returns-in-None-clause-none g c none =
    let table = table_held c.args.table.now in
    let layout = g.M.GuestMemoryBackend.layout c.args.backend.now in
    let first = first_piece c.args.most c.args.addr table c.in-Some.piece _ c.requires.some c.in-Some.ensures.1 in
    first_lost c.args.most c.args.addr table c.args.access layout c.args.set c.requires.some c.requires.mapped
    (sym (ap (place layout) first.0) ∙ c.window_at.ensures.none c.in-None.is)
