use Rattle.fs_shared.proofs.device.SharedDevice.guest_write.Goals as goal

pub returns-in-Ok-clause-does : goal.returns-in-Ok-clause-does
returns-in-Ok-clause-does g c =
    (c.deref_mut.result.now, c.guest_write-written.new.self, c.guest_write-written.ensures.write, c.guest_write-written.ensures.replays)

pub returns-in_default-clause-does : goal.returns-in_default-clause-does
returns-in_default-clause-does g c =
    (c.deref_mut.result.now, c.guest_write-written.new.self, c.guest_write-written.ensures.write, c.guest_write-written.ensures.replays)
