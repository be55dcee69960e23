-- where a machine differs from the start, its journal tells the page
use Rattle.std.proofs.Common.{inl, inr, ⊎_elim, ◌⊎◌, ◌≡◌, ℕ, Bool, true, false, List, [], ◌∷◌, ◌++◌, length, map, Option, Some, None, refl}
use Rattle.std.proofs.Common.{ap, sym, ◌∙◌, subst}
use Rattle.std.specs.Prelude.{if◌then◌else◌, not, slice_get, zip}
use Rattle.std.specs.List.{Contains, list_all}
use Rattle.std.proofs.lemmas.List.Elements.{Contains-append_left, Contains-append_right}
use Rattle.vm_iotlb.specs.declared.permissions.Permissions.TheVariants.{Write}
use Rattle.vm_memory_core.specs.Host.{Host, Place, byte_at, lengths}
use Rattle.vm_memory.specs.Layout.{Region, fits}
use Rattle.vm_memory.specs.Memory.{Memory, addresses, physical, reach, stored_all}
use Rattle.fs_queue.specs.declared.fault.QueueError.TheVariants as stop
use Rattle.fs_queue.specs.Queue.{Queue}
use Rattle.fs_queue.specs.Returning.{writes}
use Rattle.fs_queue.specs.Taking.{Offer, Offers, RequestAndRoom, offer, room_of}
use Rattle.server_meanings.specs.Serving.{May}
use Rattle.fs_shared.specs.Pages.{page_of}
use Rattle.plain_machine.specs.declared.error.DeviceError.{DeviceError}
use Rattle.plain_machine.specs.declared.error.DeviceError.TheVariants as device
use Rattle.plain_machine.specs.declared.refusal.Refusal.TheVariants as why
use Rattle.plain_machine.specs.Step as step
use Rattle.plain_machine.specs.Step.{State, Exchange, Calls, Acts, Step, StepOf}
use Rattle.plain_machine.specs.Run as run
use Rattle.plain_machine.specs.Run.{Command, Effect, GuestWrite, SetLayout, Kick, IsDecided, effect, guest_written, is_known, no}
use Rattle.plain_machine.specs.Run.{some_overlap, with_layout}
use Rattle.plain_machine.specs.UsedLength.{IsOffered}
use Rattle.plain_machine.proofs.UsedLemmas.{exchange_returns, step_offers}
use Rattle.fs_shared.specs.JournalPages.{JournalsTellPages, joined_pages}
use Rattle.fs_shared.specs.Replay.{Anything, Done, ReplayEntry, ExchangesPages, ReplaysKick, Plays, Replays, Served, Stopped, WritesPages}
use Rattle.fs_shared.specs.Replay as replay
use Rattle.fs_shared.proofs.Returning.{all_firsts}
use Rattle.fs_shared.proofs.Written.{places_stored, stores_lengths, stores_or}

-- the blocks keep their lengths, and what stood at a place stands there, or its page is among these
pub record KeepsOr (pages : List ℕ) (p : Place) (before after : Host) : Type 0 where
  pub block_lengths : lengths after ≡ lengths before
  pub byte : (byte_at after p ≡ byte_at before p) ⊎ Contains pages (page_of (lengths before) p)

-- nothing changed
same_keeps : (pages : List ℕ) (p : Place) (before after : Host) → after ≡ before → KeepsOr pages p before after
same_keeps pages p before after same = record { block_lengths = ap lengths same; byte = inl (ap (λ (h : Host). byte_at h p) same) }

-- stores change the pages of their places alone
stores_keep : (m : Memory) (ws : List (ℕ × ℕ)) (pages : List ℕ) (p : Place) → WritesPages m (map (λ w. w.0) ws) pages →
    KeepsOr pages p m.host (stored_all m ws).host
stores_keep m ws pages p is_marked = record {
  block_lengths = stores_lengths m ws;
  byte =
      ⊎_elim
      (λ (same : byte_at (stored_all m ws).host p ≡ byte_at m.host p). inl same)
      (λ (there : Contains (map (page_of (lengths m.host)) (places_stored m ws)) (page_of (lengths m.host) p)).
      inr ((is_marked.all (page_of (lengths m.host) p)).1 there))
      (stores_or (lengths m.host) p m ws);
}

-- ---- a guest's write

write_keeps : {F : Type 0} (s after : State F) (a : ℕ) (bytes pages : List ℕ) (p : Place) (reached : Bool) →
    (run.Done, after) ≡ (if◌then◌else◌ {A = Effect F} reached (run.Done, record s { memory = guest_written s.memory a bytes })
    (no why.NoPlace s)) → WritesPages (physical s.memory) (addresses a (length bytes)) pages →
    KeepsOr pages p s.memory.host after.memory.host
write_keeps {F} s after a bytes pages p false does is_marked =
    same_keeps pages p s.memory.host after.memory.host (ap (λ (e : Effect F). e.1.memory.host) does)
write_keeps {F} s after a bytes pages p true does is_marked =
    let ws = zip (addresses a (length bytes)) bytes in
    let all : map (λ (w : ℕ × ℕ). w.0) ws ≡ addresses a (length bytes) = all_firsts a (length bytes) bytes refl in
    subst (λ (h : Host). KeepsOr pages p s.memory.host h) (sym (ap (λ (e : Effect F). e.1.memory.host) does))
    (stores_keep (physical s.memory) ws pages p (subst (λ (xs : List ℕ). WritesPages (physical s.memory) xs pages) (sym all) is_marked))

-- ---- another layout

-- of two effects that leave a host, either does
either_host : {F : Type 0} (h : Host) (b : Bool) (x y : Effect F) → x.1.memory.host ≡ h → y.1.memory.host ≡ h →
    (if◌then◌else◌ {A = Effect F} b x y).1.memory.host ≡ h
either_host h true x y left right = left
either_host h false x y left right = right

layout_keeps : {F : Type 0} (s after : State F) (layout : List Region) → IsDecided (effect s (SetLayout layout)) run.Done after →
    after.memory.host ≡ s.memory.host
unfolding effect
layout_keeps {F} s after layout t =
    let h = s.memory.host in
    let last = either_host h (some_overlap layout) (no why.Overlap s) (run.Done, with_layout s layout) refl refl in
    let next = either_host h (not (list_all fits layout)) (no why.BadRegion s) (if some_overlap layout then no why.Overlap s
    else (run.Done, with_layout s layout)) refl last in
    ap (λ (e : Effect F). e.1.memory.host) t
    ∙ either_host h (not (list_all (is_known h) layout)) (no why.UnknownBlock s)
    (if not (list_all fits layout) then no why.BadRegion s else if some_overlap layout then no why.Overlap s
    else (run.Done, with_layout s layout)) refl next

-- ---- a kick

acts_refused : {F : Type 0} (may : May F) (s after : State F) (i : ℕ) (q : Queue) (offered : Offer) (calls : Calls) (e : DeviceError) →
    Acts may s i q offered calls (step.Refused e) after → after.memory ≡ s.memory
acts_refused {F} may s after i q offered calls (device.Queue stop.OutOfMemory) t = ap (λ (m : State F). m.memory) t.1.same
acts_refused may s after i q offered calls device.NoSuchQueue t = absurd t
acts_refused {F} may s after i q offered calls (device.Queue _) t = ap (λ (m : State F). m.memory) t.2

step_refused : {F : Type 0} (may : May F) (s after : State F) (i : ℕ) (o : Option Queue) (calls : Calls) (e : DeviceError) →
    StepOf may s i o calls (step.Refused e) after → after.memory ≡ s.memory
step_refused {F} may s after i None calls e t = ap (λ (m : State F). m.memory) t.1.same
step_refused may s after i (Some q) calls e t = acts_refused may s after i q (offer s.memory s.limit q) calls e t

-- a queue offers one chain
one_room : {F : Type 0} (s : State F) (i : ℕ) (x : Exchange) (o other : IsOffered s i x) →
    writes o.queue x.head (room_of o.fetched) x.reply ≡ writes other.queue x.head (room_of other.fetched) x.reply
one_room {F} s i x o other =
    let queue : o.queue ≡ other.queue = cc (o.there, other.there) in
    let offered : Offers x.head o.fetched ≡ Offers x.head other.fetched =
    sym o.offered ∙ ap (λ (q : Queue). offer s.memory s.limit q) queue ∙ other.offered in
    let fetched : o.fetched ≡ other.fetched = cc in
    ap (λ (q : Queue). writes q x.head (room_of o.fetched) x.reply) queue
    ∙ ap (λ (f : RequestAndRoom). writes other.queue x.head (room_of f) x.reply) fetched

exchange_keeps : {F : Type 0} (may : May F) (s after : State F) (i : ℕ) (calls : Calls) (x : Exchange) (notice : Bool) (pages : List ℕ)
    (p : Place) → Step may s i calls (step.Exchanged x notice) after →
    ExchangesPages s i x pages → KeepsOr pages p s.memory.host after.memory.host
exchange_keeps may s after i calls x notice pages p t is_marked =
    let found = step_offers may s after i calls x notice t in
    let o = found.0 in
    let ws = writes o.queue x.head (room_of o.fetched) x.reply in
    let same = one_room s i x is_marked.0 o in
    subst (λ (m : Memory). KeepsOr pages p s.memory.host m.host)
    (sym (exchange_returns may s i o.queue x.head o.fetched calls x notice after found.1))
    (stores_keep s.memory ws pages p (subst (λ (ws : List (ℕ × ℕ)). WritesPages s.memory (map (λ (w : ℕ × ℕ). w.0) ws) pages) same
    is_marked.1))

kick_keeps : {F : Type 0} (may : May F) (s after : State F) (i : ℕ) (outcome : replay.Outcome) (pages : List ℕ) (p : Place) →
    ReplaysKick may s i outcome pages after → KeepsOr pages p s.memory.host after.memory.host
kick_keeps may s after i Done pages p t = absurd t
kick_keeps may s after i (Served x notice) pages p t = exchange_keeps may s after i t.0 x notice pages p t.1 t.2
kick_keeps may s after i (Stopped e) pages p t = same_keeps pages p s.memory.host after.memory.host
    (ap (λ (m : Memory). m.host) (step_refused may s after i (slice_get s.queues i) [] e t.1))

-- ---- an entry, and a journal

plays_keep : {F : Type 0} (may : May F) (s after : State F) (command : Command) (outcome : replay.Outcome) (pages : List ℕ) (p : Place) →
    Plays may s command outcome pages after →
    KeepsOr pages p s.memory.host after.memory.host
unfolding effect
plays_keep may s after (GuestWrite a bytes) outcome pages p t =
    write_keeps s after a bytes pages p (reach (physical s.memory) Write a (length bytes)) t.1 t.2
plays_keep may s after (SetLayout layout) outcome pages p t =
    same_keeps pages p s.memory.host after.memory.host (layout_keeps s after layout t.1)
plays_keep may s after (Kick i most) outcome pages p t = kick_keeps may s after i outcome pages p t.1
plays_keep may s after _ outcome pages p t = absurd t

-- one after the other
both_keep : (first rest : List ℕ) (p : Place) (before mid after : Host) → KeepsOr first p before mid → KeepsOr rest p mid after →
    KeepsOr (first ++ rest) p before after
both_keep first rest p before mid after here later =
    let page = page_of (lengths before) p in
    let there : page_of (lengths mid) p ≡ page = ap (λ (ls : List ℕ). page_of ls p) here.block_lengths in record {
      block_lengths = later.block_lengths ∙ here.block_lengths;
      byte =
          ⊎_elim
          (λ (recorded : byte_at after p ≡ byte_at mid p).
          ⊎_elim
          (λ (same : byte_at mid p ≡ byte_at before p). inl (recorded ∙ same))
          (λ (is_marked : Contains first page). inr (Contains-append_left first rest page is_marked))
          here.byte)
          (λ (is_marked : Contains rest (page_of (lengths mid) p)).
          inr (Contains-append_right first rest page (subst (Contains rest) there is_marked)))
          later.byte;
    }

replays_keep : (p : Place) (journal : List ReplayEntry) (start after : State (Unit {0})) → Replays start journal after →
    KeepsOr (joined_pages journal) p start.memory.host after.memory.host
unfolding Replays
replays_keep p [] start after same = same_keeps [] p start.memory.host after.memory.host (ap (λ (s : State (Unit {0})). s.memory.host) same)
replays_keep p (e ∷ es) start after (mid, plays, options, rest) =
    both_keep e.pages (joined_pages es) p start.memory.host mid.memory.host after.memory.host
    (plays_keep Anything start mid e.command e.outcome e.pages p plays) (replays_keep p es mid after rest)

no_place : Place
no_place = record { block = 0; offset = 0; io = None }

pub journals_tell_pages : JournalsTellPages
journals_tell_pages start after journal replays = record {
  block_lengths = (replays_keep no_place journal start after replays).block_lengths;
  bytes = λ p differs.
      ⊎_elim
      (λ (same : byte_at after.memory.host p ≡ byte_at start.memory.host p). absurd (differs same))
      (λ (is_marked : Contains (joined_pages journal) (page_of (lengths start.memory.host) p)). is_marked)
      (replays_keep p journal start after replays).byte;
}
