use Rattle.std.proofs.Common.{◌≡◌, List, refl, rules, subst}
use Rattle.fs_queue.specs.Queue.{Queue}
use Rattle.fs_chain_c.specs.Records.{FitRecord, HasUnfit, Restored, TooFewQueues, UnfitQueues, NoRecord}
use Rattle.fs_chain_c.proofs.record.restore.Goals as goal

pub returns-then-len-queues : goal.returns-then-len-queues
returns-then-len-queues c = (
  TooFewQueues c.in-Ok.options.0 c.in-Ok.restored.items,
  search rules,
  (
    search rules,
    (c.in-Ok.ensures.ok.0, c.restore_record.new.source.0.now, search rules, c.in-Ok.ensures.ok.2),
    search rules,
    search rules,
    refl,
    refl,
  ),
)

pub returns-in-Some : goal.returns-in-Some
returns-in-Some c =
    let read : c.deref.result.now ≡ c.in-Ok.restored.items = search rules in (
      UnfitQueues c.in-Ok.options.0 c.in-Ok.restored.items c.in-Some.status,
      refl,
      (
        search rules,
        (c.in-Ok.ensures.ok.0, c.restore_record.new.source.0.now, search rules, c.in-Ok.ensures.ok.2),
        refl,
        search rules,
        subst (λ (l : List Queue). HasUnfit c.args.queues.now l c.in-Some.status) read (search rules),
        refl,
        refl,
      ),
    )

pub returns-in_default : goal.returns-in_default
returns-in_default c =
    let read : c.deref.result.now ≡ c.in-Ok.restored.items = search rules in (
      Restored c.in-Ok.options.0 c.in-Ok.restored.items,
      refl,
      (
        search rules,
        (c.in-Ok.ensures.ok.0, c.restore_record.new.source.0.now, search rules, c.in-Ok.ensures.ok.2),
        search rules,
        search rules,
        search rules,
        search rules,
        subst (λ (l : List Queue). FitRecord c.args.queues.now l) read (c.in_default.ensures.fit refl),
      ),
    )

pub returns-in-Err : goal.returns-in-Err
returns-in-Err c = (
  NoRecord c.in-Err.error,
  search rules,
  (search rules, (c.in-Err.ensures.err.0, c.restore_record.new.source.0.now, search rules, search rules, search rules), refl, refl, refl),
)
