-- The values of the code's walk of an available ring, in the definitions' terms.
use Rattle.std.specs.Prelude.{◌≡◌, ℕ, true, List, [], ◌∷◌, Option, if◌then◌else◌}
use Rattle.fs_queue.specs.declared.fault.QueueError.{QueueError}
use Rattle.fs_queue.specs.declared.fault.QueueError.TheVariants.{Stopped}
use Rattle.fs_queue.specs.declared.layout.QueueLayout.{QueueLayout}
use Rattle.fs_queue.specs.declared.walk.RingEntryWalk.{RingEntryWalk}
use Rattle.fs_queue.specs.declared.walk.Walk as code
use Rattle.fs_queue.specs.declared.walk.Walk.TheVariants as shows
use Rattle.fs_queue.specs.Queue.{Queue}
use Rattle.fs_queue.specs.NextAvail.{NextAvail, Idle, Head, Refused, next_avail}
use Rattle.fs_queue.specs.Chain.{first_visit}
use Rattle.fs_queue.specs.Loads.{holding, index_load, entry_load, asks_entry, ahead_at}
use Rattle.fs_queue.specs.SteppingView.{ahead_of, IfWants}
use Rattle.fs_queue.specs.WalkingView.{at_position}

-- the next entry of the available ring, by the load of the index alone
abbrev pub by_index : Queue → Option (List ℕ) → NextAvail
by_index q index = next_avail (holding (index_load q index ∷ [])) q

-- the next entry of the available ring, by the loads of the index and of the entry
abbrev pub by_entry : Queue → (index entry : Option (List ℕ)) → NextAvail
by_entry q index entry = next_avail (holding (index_load q index ∷ entry_load q entry ∷ [])) q

-- the stage of a walk of the ring: it asks for the index, it asks for the entry, or it has the result
pub data Stage : Type 0 where
  AsksIndex : Stage
  AsksEntry : Stage
  HasResult : NextAvail → Stage

-- the stage after the load of the index, by the result that the index alone gives
abbrev pub stage_at : NextAvail → Stage
stage_at next = if asks_entry next then AsksEntry else HasResult next

-- the stage of a walk of the code
abbrev pub stage_of : code.Walk → Stage
stage_of (shows.Index w) = AsksIndex
stage_of (shows.RingEntry w) = AsksEntry
stage_of (shows.Chain head progress) = HasResult (Head head)
stage_of shows.Idle = HasResult Idle
stage_of (shows.Refused e) = HasResult (Refused e)

-- a walk begins at a position of a queue: it asks for the index
abbrev pub BeginsAt : QueueLayout → (position : ℕ) → code.Walk → Type 0
BeginsAt l position (shows.Index w) = (w.layout ≡ l) × (w.position ≡ position)
BeginsAt l position _ = ⊥

-- a walk of a queue begins: at the queue's position, or with `Stopped` if the queue is stopped
abbrev pub BeginsWalk : Queue → code.Walk → Type 0
BeginsWalk q (shows.Index w) = at_position w.layout w.position ≡ q
BeginsWalk q (shows.Refused e) = (q.stopped ≡ true) × (e ≡ Stopped)
BeginsWalk q _ = ⊥

-- if a chain is available, the walk through it begins at its head
abbrev pub BeginsChain : QueueLayout → code.Walk → Type 0
BeginsChain l (shows.Chain head progress) =
    (ahead_of progress ≡ ahead_at l.size (first_visit (at_position l 0) head))
    × IfWants progress (λ w. w.size ≡ l.size)
BeginsChain l _ = Unit {0}

-- if a walk asks for the ring's entry, its value has a property
abbrev pub IfRingEntry : code.Walk → (RingEntryWalk → Type 0) → Type 0
IfRingEntry (shows.RingEntry w) P = P w
IfRingEntry _ P = Unit {0}

-- if a walk refuses, the refusal has a property
abbrev pub IfRefuses : code.Walk → (QueueError → Type 0) → Type 0
IfRefuses (shows.Refused e) P = P e
IfRefuses _ P = Unit {0}
