use Rattle.std.proofs.Common.{◌≡◌, true, false, refl, ap, sym, ◌∙◌, subst}
use Rattle.fs_queue.specs.WalkingView.{at_position}
use Rattle.fs_queue.specs.RingingView.{stage_of}
use Rattle.fs_queue.specs.Taking.{is_idle, offer}
use Rattle.fs_queue.proofs.IdleLemmas.{ring_is_idle, reports_idle, waits_unless_idle}
use Rattle.fs_queue.proofs.queue.Queue.is_idle.Goals as goal

pub returns-then-self : goal.returns-then-self
unfolding offer
returns-then-self g c = λ limit. rw (← c.self.view_is, c.if-self.true) refl

pub returns-in-Idle : goal.returns-in-Idle
returns-in-Idle g c = λ limit.
    let m = g.M.GuestMemory.memory c.args.mem.now (g.H.HostBlocks.host c.args.host.now) in
    let q = at_position c.self.inside.layout c.self.inside.position in
    let same : q ≡ c.args.self.now = rw (← c.self.view_is, c.if-self.false) refl in
    subst (λ s. true ≡ is_idle (offer m limit s)) same
    (sym (ring_is_idle m limit q (stage_of c.walk_ring.result) refl c.walk_ring.ensures.next
    ∙ ap (λ w. reports_idle (stage_of w)) c.in-Idle.is))

pub returns-in_default : goal.returns-in_default
returns-in_default g c = λ limit.
    let m = g.M.GuestMemory.memory c.args.mem.now (g.H.HostBlocks.host c.args.host.now) in
    let q = at_position c.self.inside.layout c.self.inside.position in
    let same : q ≡ c.args.self.now = rw (← c.self.view_is, c.if-self.false) refl in
    subst (λ s. false ≡ is_idle (offer m limit s)) same
    (sym (ring_is_idle m limit q (stage_of c.walk_ring.result) refl c.walk_ring.ensures.next
    ∙ waits_unless_idle c.walk_ring.result c.in_default.not-Idle))
