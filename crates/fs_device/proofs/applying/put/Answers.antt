use Rattle.fs_device.proofs.ApplyLemmas.{all_put, put_more}
use Rattle.fs_device.proofs.applying.put.Goals as goal

pub loop-page-preserved : goal.loop-page-preserved
loop-page-preserved c =
    put_more c.args.host.now c.loop-page.host c.write_block.new.self _ c.args.pages.now c.loop-page.page-index c.page-item.result
    c.deref.result.now c.write_block.result c.loop-page-test.true c.page-item.is
    c.deref.ensures.value c.write_block.ensures.found c.write_block.ensures.set c.write_block.ensures.shape c.loop-page.invariant

pub returns-clause-put : goal.returns-clause-put
returns-clause-put c =
    all_put c.args.host.now c.loop-page.host _ c.args.pages.now c.loop-page.page-index c.loop-page-test.false c.loop-page.invariant
