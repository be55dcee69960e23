use Rattle.fs_queue.proofs.AnyLoadLemmas.{few_loads, loads_end, ends_are_read, once, entries_apart}
use Rattle.fs_queue.proofs.laws.law_any_loads.Goals as goal

pub returns-clause-few : goal.returns-clause-few
returns-clause-few c = few_loads

pub returns-clause-end : goal.returns-clause-end
returns-clause-end c = loads_end

pub returns-clause-read : goal.returns-clause-read
returns-clause-read c = ends_are_read

pub returns-clause-once : goal.returns-clause-once
returns-clause-once c = once

pub returns-clause-apart : goal.returns-clause-apart
returns-clause-apart c = entries_apart
