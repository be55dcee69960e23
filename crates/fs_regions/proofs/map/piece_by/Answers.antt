use Rattle.std.proofs.Common.{true, ◌∙◌, ◌+◌, ◌-◌, ◌^◌, arith}
use Rattle.vm_iotlb.specs.Ranges.{table_held}
use Rattle.vm_memory.specs.Translated.{translated}
use Rattle.vm_memory.proofs.TranslatedLemmas.{first_piece}
use Rattle.fs_regions.proofs.Mapping.{none_more, piece_reaches, run_is, may_on_run}
use Rattle.fs_regions.proofs.map.piece_by.Goals as goal

pub returns : goal.returns
returns c =
    let table = table_held c.args.table.now in
    let p = c.in-Some.piece in
    let most = 2 ^ 64 - 1 in
    let first = first_piece most c.args.addr table p _ (omega arith) c.in-Some.ensures.piece.1 in
    let step = piece_reaches c.args.addr p.length p.length p.base.0 true table c.args.access c.args.regions.now (omega arith)
    c.in-Some.ensures.fits.0 first.0 (run_is p.length most c.args.addr table first.1)
    (may_on_run p.length most c.args.addr table c.args.access first.1 c.in-Some.ensures.some) (c.if-not-reaches.ensures c.args.access) in
    let places = translated c.args.regions.now table 0 c.args.access in
    let none = none_more (c.args.addr + p.length) (p.length - p.length) places (omega arith) in
    (c.in-Some.ensures.fits.1, step ∙ none)
