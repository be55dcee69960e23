use Rattle.fs_shared.proofs.return_pages.room_runs.Goals as goal

pub returns-in-Ok : goal.returns-in-Ok
returns-in-Ok g c = rw (c.in-Ok.ensures, ← c.deref.ensures) c.page_runs.ensures
