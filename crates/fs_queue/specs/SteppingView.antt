-- The values of the code's walk through a chain by loads, in the definitions' terms.
use Rattle.std.specs.Prelude.{ℕ, ◌+◌, ◌-◌, if◌then◌else◌, List, [], Option, Some, None}
use Rattle.fs_queue.specs.declared.chain_walk.ChainWalk.{ChainWalk}
use Rattle.fs_queue.specs.declared.chain_walk.Progress as code
use Rattle.fs_queue.specs.declared.chain_walk.Progress.TheVariants as shows
use Rattle.fs_queue.specs.Chain.{Descriptor, Visit, WalkStep, Ordinary, Indirect, Faulty, Stops}
use Rattle.fs_queue.specs.Chain.{entry_address}
use Rattle.fs_queue.specs.Loads.{Load, Ahead, Reads, Ends}
use Rattle.fs_queue.specs.WalkingView.{found_of}

-- the step at which a walk is
abbrev pub visit_of : ChainWalk → Visit
visit_of w = record { table = w.table; index = w.index; earlier = w.earlier }

-- the load that a walk asks for, with the bytes that the caller passed
abbrev pub load_of : ChainWalk → Option (List ℕ) → Load
load_of w came = record { address = entry_address (visit_of w); came = came }

-- the state of a walk of the code
abbrev pub ahead_of : code.Progress → Ahead
ahead_of (shows.Wants w) = Reads (visit_of w)
ahead_of (shows.Ends walked) = Ends (found_of walked [])

-- if a walk asks for an entry, its value has a property
abbrev pub IfWants : code.Progress → (ChainWalk → Type 0) → Type 0
IfWants (shows.Wants w) P = P w
IfWants (shows.Ends walked) P = Unit {0}

-- the descriptor that joins the chain at a step, if one does
abbrev pub joining : WalkStep → Option Descriptor
joining (Ordinary d) = Some d
joining (Indirect table) = None
joining (Faulty fault) = None
joining Stops = None

-- an upper bound of the steps that a walk still makes for a queue of this size: at most size + 2
abbrev pub steps_left : (size : ℕ) → Visit → ℕ
steps_left size v = size - v.earlier + (if v.table.indirect then 1 else 2)
