use Rattle.std.proofs.Common.{List, ap, map, refl, ◌∙◌}
use Rattle.vm_memory_core.specs.Window.{Window, byte_in, places}
use Rattle.fs_queue.specs.Returning.{notifies}
use Rattle.fs_queue.specs.WalkingView.{at_position}
use Rattle.fs_queue.proofs.ReturnLemmas.{put_back_is, returned_is, notice_is, kept_tables, used_bytes_are}
use Rattle.fs_queue.proofs.queue.Queue.give_back_front.Goals as goal

pub returns-clause-stored : goal.returns-clause-stored
returns-clause-stored g c m fetched reply put long taken =
    returned_is m _ _ _ c.args.self.now fetched c.args.taken.now reply _ _ refl taken (c.write_reply.ensures.stored ∙ put)
    c.used_windows.ensures (rw long (rw (← c.self.view_is) (rw c.head.ensures at
    (used_bytes_are c.new-back.result (at_position c.self.inside.layout c.self.inside.position) c.head.result c.args.len c.used_bytes.result
    c.new-back.ensures.stores
    c.used_bytes.ensures)))) c.write_windows.ensures.stored

pub returns-clause-wanted : goal.returns-clause-wanted
returns-clause-wanted g c m fetched reply put taken =
    c.notifies.ensures
    ∙ notice_is m (g.H.HostBlocks.host c.write_windows.new.self) c.args.self.now fetched c.args.taken.now _ _
    (kept_tables m _ _ _ _ _ refl (c.write_reply.ensures.stored ∙ put) c.write_windows.ensures.stored)
    taken c.flags_windows.ensures c.read_windows.ensures

pub returns-clause-puts : goal.returns-clause-puts
returns-clause-puts g c =
    put_back_is _ _ _ c.args.self.now c.args.taken.now _ _ _ _ c.write_reply.ensures.stored
    c.used_windows.ensures (rw (← c.self.view_is) (rw c.head.ensures at
    (used_bytes_are c.new-back.result (at_position c.self.inside.layout c.self.inside.position) c.head.result c.args.len c.used_bytes.result
    c.new-back.ensures.stores
    c.used_bytes.ensures))) c.write_windows.ensures.stored

pub returns-clause-notifies : goal.returns-clause-notifies
returns-clause-notifies g c =
    c.notifies.ensures
    ∙ ap notifies (c.read_windows.ensures
    ∙ ap (λ (ws : List Window). map (byte_in (g.H.HostBlocks.host c.write_windows.new.self)) (places ws)) c.flags_windows.ensures)
