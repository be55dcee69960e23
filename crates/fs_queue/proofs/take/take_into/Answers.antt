use Rattle.std.proofs.Common.{◌≡◌, ◌∙◌, ap, sym, refl}
use Rattle.fs_queue.specs.WalkingView.{at_position}
use Rattle.fs_queue.specs.Taking.{on_next_avail}
use Rattle.fs_queue.proofs.OfferLemmas.{offer_next_avail, offer_lacks, refuses, refused_found, refused_walk, taken_found}
use Rattle.fs_queue.specs.NextAvail.{NextAvail, Idle}
use Rattle.fs_queue.specs.RingingView.{Stage, AsksIndex, AsksEntry, HasResult}
use Rattle.fs_queue.proofs.take.take_into.Goals as goal

abbrev next_of : Stage → NextAvail
next_of AsksIndex = Idle
next_of AsksEntry = Idle
next_of (HasResult next) = next

untold : (a b : NextAvail) → HasResult a ≡ HasResult b → a ≡ b
untold a b e = ap next_of e

pub returns-in-Idle-clause-takes : goal.returns-in-Idle-clause-takes
returns-in-Idle-clause-takes g c =
    let m = g.M.GuestMemory.memory c.args.mem.now (g.H.HostBlocks.host c.args.host.now) in
    let q = at_position c.args.layout c.args.position in
    offer_next_avail m c.args.limit q refl
    ∙ sym (ap (on_next_avail m c.args.limit q) (untold _ _ (rw c.in-Idle.is at c.walk_ring.ensures.next)))

pub returns-in-Refused-clause-takes : goal.returns-in-Refused-clause-takes
returns-in-Refused-clause-takes g c =
    let m = g.M.GuestMemory.memory c.args.mem.now (g.H.HostBlocks.host c.args.host.now) in
    let q = at_position c.args.layout c.args.position in
    refuses m c.args.limit q c.in-Refused.error (rw c.in-Refused.is at c.walk_ring.ensures.stops)
    (offer_next_avail m c.args.limit q refl
    ∙ sym (ap (on_next_avail m c.args.limit q) (untold _ _ (rw c.in-Refused.is at c.walk_ring.ensures.next))))

pub returns-in-Ok-Some-clause-takes : goal.returns-in-Ok-Some-clause-takes
returns-in-Ok-Some-clause-takes g c =
    let m = g.M.GuestMemory.memory c.args.mem.now (g.H.HostBlocks.host c.args.host.now) in
    refuses m c.args.limit (at_position c.args.layout c.args.position) c.in-Ok-Some.error
    (rw c.in-Ok-Some.field-0-is at c.in-Ok-Some.ensures.stops)
    (offer_lacks m c.args.limit c.args.layout c.args.position c.in-Chain.head c.in-Ok-Some.error
    (untold _ _ (rw c.in-Chain.is at c.walk_ring.ensures.next))
    (rw c.in-Ok-Some.field-0-is at c.in-Ok-Some.ensures.places))

pub returns-in-Err-clause-takes : goal.returns-in-Err-clause-takes
returns-in-Err-clause-takes g c =
    refused_walk (g.M.GuestMemory.memory c.args.mem.now (g.H.HostBlocks.host c.args.host.now)) c.args.limit c.args.layout c.args.position
    c.in-Chain.head _
    (untold _ _ (rw c.in-Chain.is at c.walk_ring.ensures.next)) c.in-Err.ensures.memory c.refusal_without_return.ensures

pub returns-in-Err-walk_and_hold-clause-takes : goal.returns-in-Err-walk_and_hold-clause-takes
returns-in-Err-walk_and_hold-clause-takes g c =
    refused_found (g.M.GuestMemory.memory c.args.mem.now (g.H.HostBlocks.host c.args.host.now)) c.args.limit _ c.args.layout c.args.position
    c.in-Chain.head _ _ _
    (untold _ _ (rw c.in-Chain.is at c.walk_ring.ensures.next)) (rw c.in-Ok-None.field-0-is at c.in-Ok-None.ensures.places)
    c.in-Err-walk_and_hold.ensures.refused

pub returns-in-Ok-clause-takes : goal.returns-in-Ok-clause-takes
returns-in-Ok-clause-takes g c =
    taken_found (g.M.GuestMemory.memory c.args.mem.now (g.H.HostBlocks.host c.args.host.now)) c.args.limit c.args.layout c.args.position
    c.in-Chain.head _ _
    (untold _ _ (rw c.in-Chain.is at c.walk_ring.ensures.next)) (rw c.in-Ok-None.field-0-is at c.in-Ok-None.ensures.places)
    c.in-Ok.ensures.fetched

pub returns-in-Ok-clause-windows : goal.returns-in-Ok-clause-windows
returns-in-Ok-clause-windows g c = c.in-Ok.ensures.windows
