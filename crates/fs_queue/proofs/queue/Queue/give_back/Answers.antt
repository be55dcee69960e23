use Rattle.std.proofs.Common.{ap, sym, refl}
use Rattle.std.specs.List.{zip}
use Rattle.vm_memory_core.specs.Host.{Host}
use Rattle.vm_memory_core.specs.Window.{put_all}
use Rattle.fs_queue.specs.Windows.{chain_places}
use Rattle.fs_queue.proofs.queue.Queue.give_back.Goals as goal

pub returns-clause-stored : goal.returns-clause-stored
returns-clause-stored g c m fetched host taken =
    c.give_back_front.ensures.stored m fetched c.args.reply.now
    (ap (λ (h : Host). put_all h (zip (chain_places c.args.taken.now.chain) c.args.reply.now)) (sym host)) refl taken

pub returns-clause-wanted : goal.returns-clause-wanted
returns-clause-wanted g c m fetched host taken =
    c.give_back_front.ensures.wanted m fetched c.args.reply.now
    (ap (λ (h : Host). put_all h (zip (chain_places c.args.taken.now.chain) c.args.reply.now)) (sym host)) taken
