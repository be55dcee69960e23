use Rattle.fs_shared.proofs.device.SharedDevice.kick.Goals as goal

pub returns-clause-does : goal.returns-clause-does
returns-clause-does g c = (c.deref_mut.result.now, c.kick-kicked.new.self, c.kick-kicked.ensures.kick, c.kick-kicked.ensures.replays)
