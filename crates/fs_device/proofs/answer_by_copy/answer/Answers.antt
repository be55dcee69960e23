use Rattle.std.proofs.Common.{◌∙◌, sym, arith}
use Rattle.fs_device.proofs.ServeLemmas.{replied_ok, replied_err}
use Rattle.fs_device.proofs.answer_by_copy.answer.Goals as goal

pub returns-in-Ok-clause-answered : goal.returns-in-Ok-clause-answered
returns-in-Ok-clause-answered g c = (
  rw c.into_written.ensures (replied_ok g.F.FileSystemBase.may _ _ _ _ _ _ _ _ _ c.in-Ok.ensures.handles),
  rw c.into_written.ensures c.in-Ok.ensures.fits,
)

pub returns-else-is_memory-clause-answered : goal.returns-else-is_memory-clause-answered
returns-else-is_memory-clause-answered g c = (
  rw c.new.ensures.items
      (replied_err g.F.FileSystemBase.may _ _ _ _ _ _ _ _ _ (sym c.is_memory.ensures ∙ c.if-is_memory.false) c.in-Err.ensures.handles),
  rw c.new.ensures.items (omega arith),
)
