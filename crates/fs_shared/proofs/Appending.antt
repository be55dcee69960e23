-- a journal takes one entry more
use Rattle.std.proofs.Common.{take, zero, suc, ◌≡◌, ℕ, Bool, true, false, List, [], ◌∷◌, ◌++◌, length, ap, sym, refl, ◌∙◌, subst, Option}
use Rattle.std.proofs.Common.{Some, None}
use Rattle.std.specs.Prelude.{if◌then◌else◌, slice_get, not}
use Rattle.std.specs.List.{list_all}
use Rattle.vm_iotlb.specs.declared.permissions.Permissions.TheVariants.{Write}
use Rattle.vm_memory_core.specs.Host.{Host, Place}
use Rattle.vm_memory.specs.Layout.{Region, fits}
use Rattle.vm_memory.specs.Memory.{Memory, location, physical, reach, stored, stored_at, stored_all}
use Rattle.fs_queue.specs.declared.fault.QueueError.TheVariants as stop
use Rattle.fs_queue.specs.Queue.{Queue}
use Rattle.fs_queue.specs.Taking.{Offer, IsRequest, CannotFetch, Offers, offer}
use Rattle.fs_queue.specs.Returning.{writes}
use Rattle.server_meanings.specs.Serving.{May}
use Rattle.plain_machine.specs.declared.error.DeviceError.TheVariants as device
use Rattle.plain_machine.specs.declared.refusal.Refusal.TheVariants as why
use Rattle.plain_machine.specs.Step as step
use Rattle.plain_machine.specs.Step.{State, Exchange, Calls, Idle, Refused, Exchanged, Returns, Exchanges, Acts, StepOf, Step}
use Rattle.plain_machine.specs.Step.{with_queue}
use Rattle.plain_machine.specs.Run as run
use Rattle.plain_machine.specs.Run.{Command, Effect, GuestWrite, SetLayout, Kick, IsDecided, is_known, some_overlap, with_layout}
use Rattle.plain_machine.specs.Run.{guest_written, no, effect}
use Rattle.fs_shared.specs.Replay.{Anything, ReplayEntry, Served, Stopped, Done, ReplaysKick, Plays, Replays}
use Rattle.fs_shared.specs.Replay as replay
use Rattle.fs_shared.specs.Held.{FixedParts, fixed_of}

pub replays_push : (s mid after : State (Unit {0})) (es : List ReplayEntry) (e : ReplayEntry) → Replays s es mid →
    Plays Anything mid e.command e.outcome e.pages after → e.options ≡ after.options → Replays s (es ++ e ∷ []) after
unfolding Replays
replays_push s mid after [] e same plays options =
    (after, subst (λ (m : State (Unit {0})). Plays Anything m e.command e.outcome e.pages after) same plays, options, refl)
replays_push s mid after (x ∷ es) e r plays options = (r.0, r.1, r.2, replays_push r.0 mid after es e r.3 plays options)

pub replays_none : (s : State (Unit {0})) → Replays s [] s
unfolding Replays
replays_none s = refl

-- ---- what no call changes

stored_one : (m : Memory) (b : ℕ) (p : Option Place) (h : Host) → record (stored_at m b p) { host = h } ≡ record m { host = h }
stored_one m b None h = refl
stored_one m b (Some p) h = refl

stored_over : (ws : List (ℕ × ℕ)) (m : Memory) (h : Host) → record (stored_all m ws) { host = h } ≡ record m { host = h }
unfolding stored_all
stored_over [] m h = refl
stored_over (w ∷ ws) m h = stored_over ws (stored m w) h ∙ stored_one m w.1 (location m Write w.0) h

returns_keep : {F : Type 0} (s after : State F) (i : ℕ) (q : Queue) (room : List ℕ) (expected : Exchange) (options : ℕ) (x : Exchange)
    (notice : Bool) →
    Returns s i q room expected options x notice after → fixed_of s ≡ fixed_of after
returns_keep {F} s after i q room expected options x notice r =
    sym (
    ap (λ (m : State F). fixed_of m) r.state
    ∙ ap (λ (m : Memory).
    record { table = m.table; io_pages = m.io_pages; translates = m.translates; limit = s.limit; page_size = s.page_size })
    (stored_over (writes q expected.head room expected.reply) s.memory s.memory.host)
    )

exchanges_keep :
    {F : Type 0} (may : May F) (s after : State F) (i : ℕ) (q : Queue) (offered : Offer) (calls : Calls) (x : Exchange) (notice : Bool) →
    Exchanges may s i q offered calls x notice after → fixed_of s ≡ fixed_of after
exchanges_keep may s after i q (Offers head (CannotFetch why)) calls x notice e = returns_keep s after i q [] _ s.options x notice e.returns
exchanges_keep may s after i q (Offers head (IsRequest request room)) calls x notice e =
    returns_keep s after i q room _ e.given.options x notice e.returns
exchanges_keep may s after i q _ calls x notice e = absurd e

refused_keeps : {F : Type 0} (s after : State F) (i : ℕ) (q : Queue) → after ≡ with_queue s i q → fixed_of s ≡ fixed_of after
refused_keeps {F} s after i q is = sym (ap (λ (m : State F). fixed_of m) is)

acts_keep : {F : Type 0} (may : May F) (s after : State F) (i : ℕ) (q : Queue) (offered : Offer) (calls : Calls) (o : step.StepEnd) →
    Acts may s i q offered calls o after → fixed_of s ≡ fixed_of after
acts_keep {F} may s after i q offered calls Idle t = sym (ap (λ (m : State F). fixed_of m) t.1.same)
acts_keep {F} may s after i q offered calls (Refused (device.Queue stop.OutOfMemory)) t = sym (ap (λ (m : State F). fixed_of m) t.1.same)
acts_keep may s after i q offered calls (Refused device.NoSuchQueue) t = absurd t
acts_keep may s after i q offered calls (Exchanged x notice) t = exchanges_keep may s after i q offered calls x notice t
acts_keep may s after i q offered calls (Refused (device.Queue _)) t = refused_keeps s after i _ t.2

of_queue_keeps : {F : Type 0} (may : May F) (s after : State F) (i : ℕ) (o : Option Queue) (calls : Calls) (outcome : step.StepEnd) →
    StepOf may s i o calls outcome after → fixed_of s ≡ fixed_of after
of_queue_keeps {F} may s after i None calls outcome t = sym (ap (λ (m : State F). fixed_of m) t.1.same)
of_queue_keeps may s after i (Some q) calls outcome t = acts_keep may s after i q (offer s.memory s.limit q) calls outcome t

-- a step keeps them
pub step_keeps : {F : Type 0} (may : May F) (s after : State F) (i : ℕ) (calls : Calls) (outcome : step.StepEnd) →
    Step may s i calls outcome after → fixed_of s ≡ fixed_of after
step_keeps may s after i calls outcome t = of_queue_keeps may s after i (slice_get s.queues i) calls outcome t

kicked_keeps : {F : Type 0} (may : May F) (s after : State F) (i : ℕ) (outcome : replay.Outcome) (pages : List ℕ) →
    ReplaysKick may s i outcome pages after → fixed_of s ≡ fixed_of after
kicked_keeps may s after i Done pages t = absurd t
kicked_keeps may s after i (Served x notice) pages t = step_keeps may s after i t.0 (Exchanged x notice) t.1
kicked_keeps may s after i (Stopped e) pages t = step_keeps may s after i [] (Refused e) t.1

-- of two effects that keep them, either does
either_keeps : {F : Type 0} (f : FixedParts) (b : Bool) (x y : Effect F) → fixed_of x.1 ≡ f → fixed_of y.1 ≡ f →
    fixed_of (if◌then◌else◌ {A = Effect F} b x y).1 ≡ f
either_keeps f true x y left right = left
either_keeps f false x y left right = right

write_keeps : {F : Type 0} (s after : State F) (a : ℕ) (bytes : List ℕ) → IsDecided (effect s (GuestWrite a bytes)) run.Done after →
    fixed_of s ≡ fixed_of after
unfolding effect
write_keeps {F} s after a bytes t =
    sym (
    ap (λ (e : Effect F). fixed_of e.1) t
    ∙ either_keeps (fixed_of s) (reach (physical s.memory) Write a (length bytes))
    (run.Done, record s { memory = guest_written s.memory a bytes }) (no why.NoPlace s) refl refl
    )

layout_keeps : {F : Type 0} (s after : State F) (layout : List Region) → IsDecided (effect s (SetLayout layout)) run.Done after →
    fixed_of s ≡ fixed_of after
unfolding effect
layout_keeps {F} s after layout t =
    let last = either_keeps (fixed_of s) (some_overlap layout) (no why.Overlap s) (run.Done, with_layout s layout) refl refl in
    let next = either_keeps (fixed_of s) (not (list_all fits layout)) (no why.BadRegion s)
    (if some_overlap layout then no why.Overlap s else (run.Done, with_layout s layout)) refl last in
    sym (
    ap (λ (e : Effect F). fixed_of e.1) t
    ∙ either_keeps (fixed_of s) (not (list_all (is_known s.memory.host) layout)) (no why.UnknownBlock s)
    (if not (list_all fits layout) then no why.BadRegion s else if some_overlap layout then no why.Overlap s
    else (run.Done, with_layout s layout)) refl next
    )

-- so does an event
pub plays_keeps : {F : Type 0} (may : May F) (s after : State F) (command : Command) (outcome : replay.Outcome) (pages : List ℕ) →
    Plays may s command outcome pages after → fixed_of s ≡ fixed_of after
plays_keeps may s after (GuestWrite a bytes) outcome pages t = write_keeps s after a bytes t.1
plays_keeps may s after (SetLayout layout) outcome pages t = layout_keeps s after layout t.1
plays_keeps may s after (Kick i most) outcome pages t = kicked_keeps may s after i outcome pages t.1
plays_keeps may s after _ outcome pages t = absurd t

-- ---- the queues so far

next_queue : (qs : List Queue) (n : ℕ) (q : Queue) → Some q ≡ slice_get qs n → take (suc n) qs ≡ take n qs ++ q ∷ []
next_queue [] n q is = absurd (cc)
next_queue (x ∷ qs) zero q is =
    let same : q ≡ x = cc in
    ap (λ (y : Queue). y ∷ []) (sym same)
next_queue (x ∷ qs) (suc n) q is = ap (λ (ys : List Queue). x ∷ ys) (next_queue qs n q is)

pub queue_more : (qs : List Queue) (n j : ℕ) (q : Queue) → Some q ≡ slice_get qs n → j ≡ suc n → take j qs ≡ take n qs ++ q ∷ []
queue_more qs n j q is next = ap (λ k. take k qs) next ∙ next_queue qs n q is
