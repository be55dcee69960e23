use Rattle.std.proofs.Common.{◌≡◌, ◌<◌, ◌∙◌, ℕ, Some, ap, refl, sym, subst, arith}
use Rattle.vm_iotlb.specs.Ranges.{table_held}
use Rattle.vm_memory_core.specs.Window.{places_of}
use Rattle.vm_memory.specs.Layout.{left_at, place}
use Rattle.vm_memory.specs.Memory.{addresses, located}
use Rattle.vm_memory.proofs.TranslatedLemmas.{first_lost, first_piece, run_len-most, run_len-some, window_translated}
use Rattle.fs_regions.proofs.Mapping.{denied, run_left, run_is, may_on_run}
use Rattle.fs_regions.proofs.map.window_by.Goals as goal

pub returns-in_default-clause-none : goal.returns-in_default-clause-none
returns-in_default-clause-none c = λ none.
    denied c.args.regions.now 0 c.args.addr c.args.access (table_held c.args.table.now c.args.addr)
    (c.piece_at.ensures.none c.in_default.is)

pub window_at-requires : goal.window_at-requires
window_at-requires c =
    let first = first_piece c.args.most c.args.addr (table_held c.args.table.now) c.in-Some.piece _ c.requires c.in-Some.ensures.piece.1 in
    rw first.1 (run_len-some c.args.most c.args.addr (table_held c.args.table.now) c.requires)

pub returns-in-Some-window_at-clause-some : goal.returns-in-Some-window_at-clause-some
returns-in-Some-window_at-clause-some c =
    let table = table_held c.args.table.now in
    let p = c.in-Some.piece in
    let first = first_piece c.args.most c.args.addr table p _ c.requires c.in-Some.ensures.piece.1 in
    let all = may_on_run p.length c.args.most c.args.addr table c.args.access first.1 c.in-Some.ensures.some in
    let whole = run_is p.length c.args.most c.args.addr table first.1 in
    let few = run_len-most c.args.most c.args.addr table in
    let w = c.in-Some-window_at.window in
    let some = c.in-Some-window_at.ensures.some in
    let there = subst (λ (t : ℕ). located (place c.args.regions.now) (addresses t w.len) ≡ Some (places_of w)) first.0 some.3 in
    let ends = c.in-Some.ensures.fits.1 in
    rw c.replace_bitmap.ensures.window (
      some.0,
      omega (arith, some.1, first.1, few),
      omega (arith, some.1, ends),
      window_translated p.length c.args.addr w.len table c.args.access c.args.regions.now 0 w all (omega (arith, some.1, whole)) refl there,
    )

pub returns-in-Some-window_at-clause-longest : goal.returns-in-Some-window_at-clause-longest
returns-in-Some-window_at-clause-longest c =
    let table = table_held c.args.table.now in
    let p = c.in-Some.piece in
    let first = first_piece c.args.most c.args.addr table p _ c.requires c.in-Some.ensures.piece.1 in
    rw c.replace_bitmap.ensures.window
    (run_left c.args.most c.args.addr p.length c.in-Some-window_at.window.len (left_at c.args.regions.now p.base.0) table
    c.args.regions.now c.in-Some.ensures.fits.1 first.1
    (ap (left_at c.args.regions.now) first.0) c.in-Some-window_at.ensures.longest)

pub returns-in-None-clause-none : goal.returns-in-None-clause-none
returns-in-None-clause-none c = λ none.
    let table = table_held c.args.table.now in
    let p = c.in-Some.piece in
    let first = first_piece c.args.most c.args.addr table p _ c.requires c.in-Some.ensures.piece.1 in
    let some : 0 < p.length = rw first.1 (run_len-some c.args.most c.args.addr table c.requires) in
    let all = may_on_run p.length c.args.most c.args.addr table c.args.access first.1 c.in-Some.ensures.some in
    first_lost p.length c.args.addr table c.args.access c.args.regions.now 0 some all
    (sym (ap (place c.args.regions.now) first.0) ∙ c.window_at.ensures.none c.in-None.is)
