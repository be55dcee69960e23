use Rattle.fs_regions.specs.Places.{places_in}
use Rattle.fs_regions.specs.Walks.{queue_of}
use Rattle.fs_regions.proofs.Stretching.{comes_by}
use Rattle.fs_regions.proofs.course.Course.give_entries.Goals as goal

pub returns : goal.returns
returns c = λ loaded stands.
    let comes = rw c.deref.ensures at c.at_progress.ensures.comes in
    comes_by (places_in c.args.regions.now) c.args.self.now.limit (queue_of c.args.self.now) loaded c.args.stretch c.args.bytes.now
    c.args.descriptors.now.items _ c.read_stretch-progress.result _
    c.read_stretch-progress.ensures c.at_progress.ensures.asks comes stands
