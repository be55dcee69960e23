-- whether nothing waits is what the ring tells
use Rattle.std.proofs.Common.{◌≡◌, ℕ, Bool, true, false, refl, ap, sym, ◌∙◌}
use Rattle.std.specs.Prelude.{if◌then◌else◌, not, ◌&&◌}
use Rattle.vm_iotlb.specs.declared.permissions.Permissions.TheVariants.{Read, Write}
use Rattle.vm_memory.specs.Memory.{Memory, reach}
use Rattle.fs_queue.specs.declared.fault.QueueError.{QueueError}
use Rattle.fs_queue.specs.declared.fault.QueueError.TheVariants as stop
use Rattle.fs_queue.specs.Queue.{Queue, element_at, index_at}
use Rattle.fs_queue.specs.Chain.{Found, IsChain, HasFault, StopsQueue, chain}
use Rattle.fs_queue.specs.NextAvail.{NextAvail, next_avail}
use Rattle.fs_queue.specs.NextAvail as avail
use Rattle.fs_queue.specs.declared.walk.Walk.{Walk}
use Rattle.fs_queue.specs.declared.walk.Walk.TheVariants as walk
use Rattle.fs_queue.specs.RingingView.{Stage, HasResult, stage_of}
use Rattle.fs_queue.specs.Taking.{Offer, Refuses, is_idle, offer, offer_of, on_next_avail}
use Rattle.fs_queue.proofs.OfferLemmas.{offer_next_avail}

-- what a walk through the ring ended with is that nothing waits
abbrev pub reports_idle : Stage → Bool
reports_idle (HasResult avail.Idle) = true
reports_idle _ = false

found_waits : (m : Memory) (limit head : ℕ) (f : Found) → is_idle (offer_of m limit head f) ≡ false
found_waits m limit head (IsChain ds) = refl
found_waits m limit head (HasFault fault) = refl
found_waits m limit head StopsQueue = refl

unless_refused : (b : Bool) (e : QueueError) (o : Offer) → is_idle o ≡ false → is_idle (if b then Refuses e else o) ≡ false
unless_refused true e o waits = refl
unless_refused false e o waits = waits

by_ring : (m : Memory) (limit : ℕ) (q : Queue) (n : NextAvail) → is_idle (on_next_avail m limit q n) ≡ reports_idle (HasResult n)
by_ring m limit q (avail.Head head) =
    unless_refused (not (reach m Write (element_at q) 8 && reach m Write (index_at q) 2)) stop.UsedUnreachable _
    (unless_refused (not (reach m Read q.avail 2)) stop.AvailFlagsUnreachable _ (found_waits m limit head (chain m q head)))
by_ring m limit q _ = refl

pub ring_is_idle : (m : Memory) (limit : ℕ) (q : Queue) (stage : Stage) → q.stopped ≡ false → stage ≡ HasResult (next_avail m q) →
    is_idle (offer m limit q) ≡ reports_idle stage
ring_is_idle m limit q stage on is =
    ap is_idle (offer_next_avail m limit q on) ∙ by_ring m limit q (next_avail m q) ∙ sym (ap reports_idle is)

-- no other end of a walk tells it
pub waits_unless_idle : (w : Walk) → (w ≡ walk.Idle → ⊥) → reports_idle (stage_of w) ≡ false
waits_unless_idle walk.Idle not-idle = absurd (not-idle refl)
waits_unless_idle _ not-idle = refl
