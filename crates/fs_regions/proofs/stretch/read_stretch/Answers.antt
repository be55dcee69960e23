use Rattle.std.proofs.Common.{arith}
use Rattle.fs_regions.proofs.Stretching.{reading_begins, reading_ends, reading_on, reading_stops}
use Rattle.fs_regions.proofs.stretch.read_stretch.Goals as goal

pub entries-init : goal.entries-init
entries-init c = record {
  reading = reading_begins c.args.walk c.args.bytes.now c.args.descriptors.now.items _ c.args.entries _ _ c.requires.bytes
      (omega (arith, c.requires.some))
      c.read_entry-progress.ensures.brings c.read_entry-progress.ensures.size c.read_entry-progress.ensures.counts;
  room = c.read_entry-progress.ensures.room _ (omega (arith, c.requires.room, c.requires.some));
}

pub returns-in-Ends : goal.returns-in-Ends
returns-in-Ends c = reading_ends c.args.walk c.args.bytes.now c.args.descriptors.now.items _ c.entries.left c.in-Ends.walked
    (rw c.in-Ends.is at c.entries.invariant.reading)

pub returns-in-None : goal.returns-in-None
returns-in-None c =
    reading_stops c.args.walk c.in-Wants.next c.args.bytes.now c.args.descriptors.now.items _ c.entries.left
    (rw c.address-from.ensures.address at (c.offset_in.ensures.none c.in-None.is))
    (rw c.in-Wants.is at c.entries.invariant.reading)

pub entries-preserved : goal.entries-preserved
entries-preserved c =
    let stands = rw c.address-from.ensures.address at c.in-Some.ensures.some in
    let some = stands.2 in record {
      reading = reading_on c.args.walk c.in-Wants.next c.args.bytes.now c.args.descriptors.now.items _ _ c.entries.left _ c.in-Some.offset _
          stands.0 stands.1 (omega (arith, some))
          (rw c.in-Wants.is at c.entries.invariant.reading) c.read_entry-progress-in-Some.ensures.brings
          c.read_entry-progress-in-Some.ensures.size c.read_entry-progress-in-Some.ensures.counts;
      room = let room = c.entries.invariant.room in c.read_entry-progress-in-Some.ensures.room _ (omega (arith, room, some));
    }
