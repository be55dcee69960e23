use Rattle.plain_machine.specs.Run.{GuestWrite}
use Rattle.law_callers.proofs.shared.kick_and_write.Goals as goal

pub returns : goal.returns
returns g c =
    c.law_replays.ensures.acts c.kick.new.self c.guest_write.new.self (GuestWrite c.args.addr c.args.bytes.now) c.guest_write.result
    c.kick.ensures.replays c.guest_write.ensures.write
