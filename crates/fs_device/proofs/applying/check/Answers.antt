use Rattle.std.proofs.Common.{◌≡◌, Err, rules}
use Rattle.vm_memory_core.specs.Host.{lengths}
use Rattle.fs_device.proofs.ApplyLemmas.{all_have_places, has_no_place, has_place}
use Rattle.fs_device.proofs.applying.check.Goals as goal

pub returns-in_err-check_page : goal.returns-in_err-check_page
returns-in_err-check_page c =
    let failed : c.from_residual.result ≡ Err c.in_err-check_page.field-0.0 = search rules in
    rw failed (has_no_place (lengths c.args.host.now) c.args.pages.now c.loop-number.number c.index-pages-number.result _ _
    c.loop-number-test.true c.index-pages-number.is c.in_err-check_page.ensures
    c.loop-number.invariant)

pub loop-number-preserved : goal.loop-number-preserved
loop-number-preserved c =
    has_place (lengths c.args.host.now) c.args.pages.now c.loop-number.number c.index-pages-number.result _ c.loop-number-test.true
    c.index-pages-number.is c.in_ok-check_page.ensures c.loop-number.invariant

pub returns : goal.returns
returns c =
    all_have_places (lengths c.args.host.now) c.args.pages.now c.loop-number.number _ c.loop-number-test.false c.loop-number.invariant
