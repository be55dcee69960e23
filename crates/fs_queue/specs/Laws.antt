-- Theorems about walks.
use Rattle.std.specs.Prelude.{◌≡◌, ◌≤◌, ℕ, ◌+◌}
use Rattle.vm_memory.specs.Memory.{Memory}
use Rattle.fs_queue.specs.Queue.{Queue}
use Rattle.fs_queue.specs.Chain.{path, first_visit, walk}

-- theorem: a walk ends by itself, so any greater bound has the same steps
abbrev pub WalksEnd : Type 0
WalksEnd =
    (m : Memory) (q : Queue) (head n : ℕ) →
    q.size + 2 ≤ n →
    path m q.size n (first_visit q head) ≡ walk m q head
