use Rattle.std.proofs.Common.{◌≡◌, ◌+◌, ◌++◌, ◌∷◌, [], List, take, refl, sym, ap, ◌∙◌, arith}
use Rattle.fs_queue.specs.Queue.{Queue}
use Rattle.fs_shared.proofs.Appending.{queue_more}
use Rattle.fs_shared.proofs.start.same_queues.Goals as goal

pub loop-number-preserved : goal.loop-number-preserved
loop-number-preserved g c =
    let queues = c.args.device.now.queues in
    let n = c.loop-number.number in
    let same : c.resume.result ≡ c.in-Some.queue.now =
    c.resume.ensures ∙ rw
    (c.layout.ensures.size, c.layout.ensures.desc, c.layout.ensures.avail, c.layout.ensures.used, c.position.ensures, c.is_stopped.ensures)
    refl in
    c.in_ok-push.ensures.items
    ∙ ap (λ (qs : List Queue). qs ++ c.resume.result ∷ []) c.loop-number.invariant
    ∙ ap (λ (q : Queue). take n queues ++ q ∷ []) same
    ∙ sym (queue_more queues n (n + 1) c.in-Some.queue.now c.in-Some.ensures (omega arith))
