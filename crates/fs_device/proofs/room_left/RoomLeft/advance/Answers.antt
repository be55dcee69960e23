use Rattle.std.proofs.Common.{◌∙◌, ap, drop, map, sym}
use Rattle.fuse_fs.specs.Lengths.{filled, past}
use Rattle.fuse_fs.proofs.Lengths.{past-past}
use Rattle.fs_device.specs.Behind.{RoomLeft}
use Rattle.fs_device.proofs.room_left.RoomLeft.advance.Goals as goal

pub returns-clause-rooms : goal.returns-clause-rooms
returns-clause-rooms c =
    let i = c.self.inside in
    sym (past-past c.args.count i.at (filled (map (λ w. w.len) (drop i.index i.windows.now))))
    ∙ ap (λ (r : RoomLeft). past c.args.count r.rooms) c.self.view_is
