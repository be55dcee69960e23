use Rattle.std.proofs.Common.{drop}
use Rattle.fs_device.proofs.BehindLemmas.{filled_left, sum_left}
use Rattle.fs_device.proofs.room_left.RoomLeft.len.Goals as goal

pub returns-clause-rooms : goal.returns-clause-rooms
returns-clause-rooms c =
    let i = c.self.inside in
    rw (← c.self.view_is) (sum_left (drop i.index i.windows.now) i.at, filled_left (drop i.index i.windows.now) i.at)
