use Rattle.std.proofs.Common.{map}
use Rattle.vm_memory_core.specs.Host.{lengths}
use Rattle.fs_device.specs.PageView.{page_view}
use Rattle.fs_device.specs.Migrating.{pages_of_answers}
use Rattle.fs_device.proofs.MigrateLemmas.{places_split, put_whole}
use Rattle.fs_device.proofs.migrating.put_harvested.Goals as goal

pub put_answered-requires : goal.put_answered-requires
put_answered-requires c =
    (places_split (lengths c.args.copy.now) (pages_of_answers c.args.answers.now) (map page_view c.args.last.now) c.requires).0

pub returns : goal.returns
returns c =
    put_whole c.args.copy.now c.put_answered.new.copy c.apply.new.host (pages_of_answers c.args.answers.now) (map page_view c.args.last.now)
    c.apply.result c.put_answered.ensures.put
    c.put_answered.ensures.shape c.requires c.apply.ensures.outcome c.apply.ensures.ok
