use Rattle.std.proofs.Common.{◌≡◌, ◌∙◌, ◌+◌, ◌-◌, ℕ, true, false, ap, sym, arith}
use Rattle.std.specs.Prelude.{is_some}
use Rattle.std.specs.List.{list_all}
use Rattle.vm_iotlb.specs.Ranges.{table_held}
use Rattle.vm_memory.specs.Memory.{addresses}
use Rattle.vm_memory.specs.Translated.{translated}
use Rattle.vm_memory.proofs.TranslatedLemmas.{first_piece, run_len-most, run_len-some}
use Rattle.fs_regions.proofs.Mapping.{none_more, piece_reaches, run_is, stops, may_on_run}
use Rattle.fs_regions.proofs.map.reaches_by.Goals as goal

pub returns-in_default : goal.returns-in_default
returns-in_default c =
    let table = table_held c.args.table.now in
    let end = c.args.addr + c.args.len in
    let some = c.pieces-test.true in
    sym (c.pieces.invariant.same ∙ stops c.pieces.next (end - c.pieces.next) table c.args.access c.args.regions.now (omega (arith, some))
    (c.piece_at.ensures.none c.in_default.is))

pub returns-then-not-reaches : goal.returns-then-not-reaches
returns-then-not-reaches c =
    let table = table_held c.args.table.now in
    let end = c.args.addr + c.args.len in
    let some = c.pieces-test.true in
    let left : ℕ = end - c.pieces.next in
    let p = c.in-Some.piece in
    let first = first_piece left c.pieces.next table p _ (omega (arith, some)) c.in-Some.ensures.piece.1 in
    let few = run_len-most left c.pieces.next table in
    let step = piece_reaches c.pieces.next left p.length p.base.0 false table c.args.access c.args.regions.now (omega (arith, first.1, few))
    c.in-Some.ensures.fits.0 first.0
    (run_is p.length left c.pieces.next table first.1)
    (may_on_run p.length left c.pieces.next table c.args.access first.1 c.in-Some.ensures.some) (c.if-not-reaches.ensures c.args.access)
    in
    sym (c.pieces.invariant.same ∙ step)

pub pieces-smaller : goal.pieces-smaller
pieces-smaller c =
    let table = table_held c.args.table.now in
    let some = c.pieces-test.true in
    let left : ℕ = c.args.addr + c.args.len - c.pieces.next in
    let first = first_piece left c.pieces.next table c.in-Some.piece _ (omega (arith, some)) c.in-Some.ensures.piece.1 in
    let long = run_len-some left c.pieces.next table (omega (arith, some)) in
    omega (arith, some, first.1, long)

pub pieces-preserved : goal.pieces-preserved
pieces-preserved c =
    let table = table_held c.args.table.now in
    let end = c.args.addr + c.args.len in
    let some = c.pieces-test.true in
    let left : ℕ = end - c.pieces.next in
    let p = c.in-Some.piece in
    let first = first_piece left c.pieces.next table p _ (omega (arith, some)) c.in-Some.ensures.piece.1 in
    let few = run_len-most left c.pieces.next table in
    let step = piece_reaches c.pieces.next left p.length p.base.0 true table c.args.access c.args.regions.now (omega (arith, first.1, few))
    c.in-Some.ensures.fits.0 first.0
    (run_is p.length left c.pieces.next table first.1)
    (may_on_run p.length left c.pieces.next table c.args.access first.1 c.in-Some.ensures.some)
    (c.if-not-reaches.ensures c.args.access) in
    let count : left - p.length ≡ end - (c.pieces.next + p.length) = omega arith in
    record {
      order = omega (arith, some, first.1, few);
      same = c.pieces.invariant.same ∙ step ∙ ap (λ n. list_all (λ a. is_some (translated c.args.regions.now table 0 c.args.access a))
          (addresses (c.pieces.next + p.length) n)) count;
    }

pub returns : goal.returns
returns c =
    let done = c.pieces-test.false in
    let table = table_held c.args.table.now in
    sym (c.pieces.invariant.same ∙ none_more c.pieces.next (c.args.addr + c.args.len - c.pieces.next)
    (translated c.args.regions.now table 0 c.args.access) (omega (arith, done)))
