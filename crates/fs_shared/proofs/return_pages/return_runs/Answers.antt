use Rattle.fs_shared.proofs.return_pages.return_runs.Goals as goal

pub returns : goal.returns
returns g c = record { room = c.in_ok-room_runs.ensures; used = rw (← c.used_windows.ensures) c.in_ok-page_runs.ensures }
