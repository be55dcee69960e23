use Rattle.fs_shared.proofs.device.SharedDevice.set_layout.Goals as goal

pub returns-in-Ok-clause-does : goal.returns-in-Ok-clause-does
returns-in-Ok-clause-does g c =
    (c.deref_mut.result.now, c.set_layout-laid.new.self, c.set_layout-laid.ensures.layout, c.set_layout-laid.ensures.replays)

pub returns-in_default-clause-does : goal.returns-in_default-clause-does
returns-in_default-clause-does g c =
    (c.deref_mut.result.now, c.set_layout-laid.new.self, c.set_layout-laid.ensures.layout, c.set_layout-laid.ensures.replays)
