use Rattle.std.proofs.Common.{◌≡◌, ℕ, Some, ap, refl, subst, arith}
use Rattle.std.proofs.lemmas.Option.{IfSome_then}
use Rattle.vm_iotlb.specs.Ranges.{table_held}
use Rattle.vm_memory_core.specs.Window.{Window, io_from, places_of}
use Rattle.vm_memory.specs.Layout.{left_at, place}
use Rattle.vm_memory.specs.Memory.{addresses, located}
use Rattle.vm_memory.proofs.TranslatedLemmas.{first_piece, window_translated}
use Rattle.fs_regions.proofs.Mapping.{run_left, run_is, may_on_run}
use Rattle.fs_regions.proofs.map.place_by.Goals as goal

pub returns : goal.returns
returns c =
    let table = table_held c.args.table.now in
    let p = c.in-Some.piece in
    let same = c.if-piece-len.false in
    let whole : p.length ≡ c.args.len = omega (arith, same) in
    let first = first_piece c.args.len c.args.addr table p _ c.requires c.in-Some.ensures.piece.1 in
    let all = may_on_run p.length c.args.len c.args.addr table c.args.access first.1 c.in-Some.ensures.some in
    let run = run_is p.length c.args.len c.args.addr table first.1 in
    let ends = c.in-Some.ensures.fits.1 in
    IfSome_then c.place_at.result c.place_at.ensures (λ at lies.
    let v = lies.0 in
    let window = lies.1 in
    let few = window.1 in
    let there = subst (λ (t : ℕ). located (place c.args.regions.now) (addresses t v.len) ≡ Some (places_of v)) first.0 window.3 in
    let u : Window = record v { io = Some (io_from 0 c.args.addr v.offset) } in (
      u,
      (
        window.0,
        few,
        omega (arith, few, whole, ends),
        window_translated p.length c.args.addr v.len table c.args.access c.args.regions.now 0 v all (omega (arith, few, whole, run)) refl
            there,
      ),
      run_left c.args.len c.args.addr p.length v.len (left_at c.args.regions.now p.base.0) table c.args.regions.now ends first.1
          (ap (left_at c.args.regions.now) first.0) (rw whole lies.2),
      lies.3,
      lies.4,
    ))
