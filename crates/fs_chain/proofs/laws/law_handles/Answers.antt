use Rattle.fs_chain.proofs.Filling.{handle_fills, handle_fills_range}
use Rattle.fs_chain.proofs.Moves.{handle_moves}
use Rattle.fs_chain.proofs.laws.law_handles.Goals as goal

pub returns-clause-moves_device : goal.returns-clause-moves_device
returns-clause-moves_device g c = handle_moves g.F.FileSystemBase.may

pub returns-clause-fills_buffer : goal.returns-clause-fills_buffer
returns-clause-fills_buffer g c = handle_fills g.F.FileSystemBase.may

pub returns-clause-fills_range : goal.returns-clause-fills_range
returns-clause-fills_range g c = handle_fills_range g.F.FileSystemBase.may
