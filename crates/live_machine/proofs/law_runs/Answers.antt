use Rattle.live_machine.proofs.Calls.{calls_are_a_run}
use Rattle.live_machine.proofs.Alone.{own_is_returned, returned_is_step_by}
use Rattle.live_machine.proofs.GuestRun.{pages_of_run}
use Rattle.live_machine.proofs.Meant.{each_call_is_meant}
use Rattle.live_machine.proofs.Moved.{moved_carries_on, stands_even}
use Rattle.live_machine.proofs.Pages.{pages_are_marked, returns_tell}
use Rattle.live_machine.proofs.Placed.{returns_have_places}
use Rattle.live_machine.proofs.Stored.{stores_stay_there}
use Rattle.live_machine.proofs.Queues.{runs_on_queue, once_per_live_chain, live_used_in_order}
use Rattle.live_machine.proofs.law_runs.Goals as goal

pub returns-clause-calls : goal.returns-clause-calls
returns-clause-calls g c = calls_are_a_run _

pub returns-clause-meant : goal.returns-clause-meant
returns-clause-meant g c = each_call_is_meant _

pub returns-clause-step : goal.returns-clause-step
returns-clause-step g c = returned_is_step_by _ _

pub returns-clause-own : goal.returns-clause-own
returns-clause-own g c = own_is_returned _ _

pub returns-clause-pages : goal.returns-clause-pages
returns-clause-pages g c = pages_are_marked _

pub returns-clause-tell : goal.returns-clause-tell
returns-clause-tell g c = returns_tell g.F.FileSystemBase.may

pub returns-clause-log : goal.returns-clause-log
returns-clause-log g c = pages_of_run g.F.FileSystemBase.may

pub returns-clause-positions : goal.returns-clause-positions
returns-clause-positions g c = stands_even _

pub returns-clause-moves : goal.returns-clause-moves
returns-clause-moves g c = moved_carries_on _

pub returns-clause-stores : goal.returns-clause-stores
returns-clause-stores g c = stores_stay_there _

pub returns-clause-places : goal.returns-clause-places
returns-clause-places g c = returns_have_places _

pub returns-clause-queue : goal.returns-clause-queue
returns-clause-queue g c = runs_on_queue _

pub returns-clause-once : goal.returns-clause-once
returns-clause-once g c = once_per_live_chain _

pub returns-clause-used : goal.returns-clause-used
returns-clause-used g c = live_used_in_order _
