-- what is left of a step without the file system
use Rattle.std.proofs.Common.{◌≡◌, ℕ, Bool, true, false, List, [], ◌∷◌, length, ap, refl, ◌∙◌, Option, Some, None}
use Rattle.std.specs.Prelude.{if◌then◌else◌, slice_get, not}
use Rattle.std.specs.List.{list_all}
use Rattle.vm_iotlb.specs.declared.permissions.Permissions.TheVariants.{Write}
use Rattle.vm_memory.specs.Layout.{Region, fits}
use Rattle.vm_memory.specs.Memory.{reach, physical}
use Rattle.fs_queue.specs.declared.fault.QueueError.TheVariants as stop
use Rattle.fs_queue.specs.Queue.{Queue}
use Rattle.fs_queue.specs.Taking.{Offer, IsRequest, CannotFetch, Offers, offer}
use Rattle.fuse_fs.specs.Calls.{FileRun}
use Rattle.server_meanings.specs.Serving.{May}
use Rattle.plain_machine.specs.declared.error.DeviceError.TheVariants as device
use Rattle.plain_machine.specs.declared.refusal.Refusal.TheVariants as why
use Rattle.plain_machine.specs.Step.{State, Exchange, Calls, StepEnd, Idle, Refused, Exchanged, Unchanged, Returns, Exchanges, Acts, StepOf}
use Rattle.plain_machine.specs.Step.{Step}
use Rattle.plain_machine.specs.Run as run
use Rattle.plain_machine.specs.Run.{Command, Answer, Effect, GuestWrite, SetLayout, Kick, IsDecided, is_known, some_overlap, set_layout}
use Rattle.plain_machine.specs.Run.{guest_write, with_layout, guest_written, no, effect}
use Rattle.fs_shared.specs.Replay.{Anything, forget, Served, Stopped, Done, ReplaysKick, Plays, ExchangesPages}
use Rattle.fs_shared.specs.Replay as replay

files_forget : {F : Type 0} (may : May F) (before after : F) (calls : Calls) → FileRun may before calls after → FileRun Anything tt calls tt
files_forget may before after [] run = refl
files_forget may before after (step ∷ steps) (between, suit, made, rest) = (tt, suit, tt, files_forget may between after steps rest)

same_forgets : {F : Type 0} (s after : State F) (calls : Calls) → Unchanged s calls after → Unchanged (forget s) calls (forget after)
same_forgets {F} s after calls u = record { same = ap (λ (m : State F). forget m) u.same; no_call = u.no_call }

returns_forget : {F : Type 0} (s after : State F) (i : ℕ) (q : Queue) (room : List ℕ) (expected : Exchange) (options : ℕ) (x : Exchange)
    (notice : Bool) →
    Returns s i q room expected options x notice after → Returns (forget s) i q room expected options x notice (forget after)
returns_forget {F} s after i q room expected options x notice r =
    record { exchange = r.exchange; state = ap (λ (m : State F). forget m) r.state; reported = r.reported }

exchanges_forget :
    {F : Type 0} (may : May F) (s after : State F) (i : ℕ) (q : Queue) (offered : Offer) (calls : Calls) (x : Exchange) (notice : Bool) →
    Exchanges may s i q offered calls x notice after → Exchanges Anything (forget s) i q offered calls x notice (forget after)
exchanges_forget may s after i q (Offers head (CannotFetch why)) calls x notice e = record {
  no_call = e.no_call;
  files = refl;
  returns = returns_forget s after i q [] _ s.options x notice e.returns;
}
exchanges_forget may s after i q (Offers head (IsRequest request room)) calls x notice e = record {
  given = e.given;
  serves = record { gives = e.serves.gives; asks = e.serves.asks; run = files_forget may s.files after.files calls e.serves.run };
  returns = returns_forget s after i q room _ e.given.options x notice e.returns;
}
exchanges_forget may s after i q _ calls x notice e = absurd e

refused_forgets : {F : Type 0} (s after next : State F) (A B : Type 0) → A × B × (after ≡ next) → A × B × (forget after ≡ forget next)
refused_forgets {F} s after next A B t = (t.0, t.1, ap (λ (m : State F). forget m) t.2)

acts_forget : {F : Type 0} (may : May F) (s after : State F) (i : ℕ) (q : Queue) (offered : Offer) (calls : Calls) (o : StepEnd) →
    Acts may s i q offered calls o after → Acts Anything (forget s) i q offered calls o (forget after)
acts_forget may s after i q offered calls Idle t = (t.0, same_forgets s after calls t.1)
acts_forget may s after i q offered calls (Refused (device.Queue stop.OutOfMemory)) t = (t.0, same_forgets s after calls t.1)
acts_forget may s after i q offered calls (Refused device.NoSuchQueue) t = absurd t
acts_forget may s after i q offered calls (Exchanged x notice) t = exchanges_forget may s after i q offered calls x notice t
acts_forget may s after i q offered calls (Refused (device.Queue _)) t = refused_forgets s after _ _ _ t

of_queue : {F : Type 0} (may : May F) (s after : State F) (i : ℕ) (o : Option Queue) (calls : Calls) (outcome : StepEnd) →
    StepOf may s i o calls outcome after → StepOf Anything (forget s) i o calls outcome (forget after)
of_queue may s after i None calls outcome t = (t.0, same_forgets s after calls t.1)
of_queue may s after i (Some q) calls outcome t = acts_forget may s after i q (offer s.memory s.limit q) calls outcome t

-- a step of a device is one of what is left
pub step_forgets : {F : Type 0} (may : May F) (s after : State F) (i : ℕ) (calls : Calls) (outcome : StepEnd) →
    Step may s i calls outcome after → Step Anything (forget s) i calls outcome (forget after)
step_forgets may s after i calls outcome t = of_queue may s after i (slice_get s.queues i) calls outcome t

-- ---- events

abbrev effect_forgets : {F : Type 0} → Effect F → Effect (Unit {0})
effect_forgets e = (e.0, forget e.1)

-- by cases
moves : {A B : Type 0} (f : A → B) (b : Bool) (x y : Answer × A) →
    ◌≡◌ {A = Answer × B} ((if◌then◌else◌ {A = Answer × A} b x y).0, f (if◌then◌else◌ {A = Answer × A} b x y).1)
    (if◌then◌else◌ {A = Answer × B} b (x.0, f x.1) (y.0, f y.1))
moves f true x y = refl
moves f false x y = refl

pages_forget :
    {F : Type 0} (s : State F) (i : ℕ) (x : Exchange) (pages : List ℕ) → ExchangesPages s i x pages → ExchangesPages (forget s) i x pages
pages_forget s i x pages t = (record { queue = t.0.queue; fetched = t.0.fetched; there = t.0.there; offered = t.0.offered }, t.1)

kicked_forgets : {F : Type 0} (may : May F) (s after : State F) (i : ℕ) (outcome : replay.Outcome) (pages : List ℕ) →
    ReplaysKick may s i outcome pages after → ReplaysKick Anything (forget s) i outcome pages (forget after)
kicked_forgets may s after i Done pages t = absurd t
kicked_forgets may s after i (Served x notice) pages t =
    (t.0, step_forgets may s after i t.0 (Exchanged x notice) t.1, pages_forget s i x pages t.2)
kicked_forgets may s after i (Stopped e) pages t = (t.0, step_forgets may s after i [] (Refused e) t.1, t.2)

write_forgets :
    {F : Type 0} (s : State F) (a : ℕ) (bytes : List ℕ) → effect_forgets (guest_write s a bytes) ≡ guest_write (forget s) a bytes
write_forgets {F} s a bytes =
    moves (λ (m : State F). forget m) (reach (physical s.memory) Write a (length bytes))
    (run.Done, record s { memory = guest_written s.memory a bytes }) (no why.NoPlace s)

layout_forgets : {F : Type 0} (s : State F) (layout : List Region) → effect_forgets (set_layout s layout) ≡ set_layout (forget s) layout
layout_forgets {F} s layout =
    moves (λ (m : State F). forget m) (not (list_all (is_known s.memory.host) layout)) (no why.UnknownBlock s)
    (if not (list_all fits layout) then no why.BadRegion s else if some_overlap layout then no why.Overlap s
    else (run.Done, with_layout s layout))
    ∙ ap (λ (e : Effect (Unit {0})). if not (list_all (is_known s.memory.host) layout) then no why.UnknownBlock (forget s) else e) (
    moves (λ (m : State F). forget m) (not (list_all fits layout)) (no why.BadRegion s)
    (if some_overlap layout then no why.Overlap s else (run.Done, with_layout s layout))
    ∙ ap (λ (e : Effect (Unit {0})). if not (list_all fits layout) then no why.BadRegion (forget s) else e) (
    moves (λ (m : State F). forget m) (some_overlap layout) (no why.Overlap s) (run.Done, with_layout s layout)
    )
    )

decided_write : {F : Type 0} (s after : State F) (a : ℕ) (bytes : List ℕ) → IsDecided (effect s (GuestWrite a bytes)) run.Done after →
    IsDecided (effect (forget s) (GuestWrite a bytes)) run.Done (forget after)
unfolding effect
decided_write {F} s after a bytes t = ap (λ (e : Effect F). effect_forgets e) t ∙ write_forgets s a bytes

decided_layout : {F : Type 0} (s after : State F) (layout : List Region) → IsDecided (effect s (SetLayout layout)) run.Done after →
    IsDecided (effect (forget s) (SetLayout layout)) run.Done (forget after)
unfolding effect
decided_layout {F} s after layout t = ap (λ (e : Effect F). effect_forgets e) t ∙ layout_forgets s layout

-- an event of a machine is one of what is left
pub plays_forgets : {F : Type 0} (may : May F) (s after : State F) (command : Command) (outcome : replay.Outcome) (pages : List ℕ) →
    Plays may s command outcome pages after →
    Plays Anything (forget s) command outcome pages (forget after)
plays_forgets may s after (GuestWrite a bytes) outcome pages t = (t.0, decided_write s after a bytes t.1, t.2)
plays_forgets may s after (SetLayout layout) outcome pages t = (t.0, decided_layout s after layout t.1, t.2)
plays_forgets may s after (Kick i most) outcome pages t = (t.0, kicked_forgets may s after i outcome pages t.1)
plays_forgets may s after _ outcome pages t = absurd t
