use Rattle.law_callers.proofs.shared.write_and_kick.Goals as goal

pub returns : goal.returns
returns g c =
    c.law_replays.ensures.kicks c.guest_write.new.self c.kick.new.self c.args.queue c.kick.result
    c.guest_write.ensures.replays c.kick.ensures.kick
