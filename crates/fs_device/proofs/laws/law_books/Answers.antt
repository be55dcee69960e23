use Rattle.fs_device.proofs.BookLemmas.{run_balances}
use Rattle.fs_device.proofs.laws.law_books.Goals as goal

pub returns : goal.returns
returns g c s after events all_turns n some ran = run_balances g.F.FileSystemBase.may n some s events all_turns after ran
