-- a step over a host that differs outside of what it reads
use Rattle.std.proofs.Common.{◌≡◌, ℕ, zero, suc, Bool, List, [], ◌∷◌, ◌++◌, length, map, Option, Some, None, refl, ap, sym, ◌∙◌, subst}
use Rattle.std.specs.Prelude.{slice_get}
use Rattle.vm_iotlb.specs.declared.permissions.Permissions.TheVariants.{Read, Write}
use Rattle.vm_memory_core.specs.Host.{Host, Place}
use Rattle.vm_memory.specs.Memory.{Memory, addresses}
use Rattle.fs_queue.specs.declared.fault.QueueError.TheVariants as stop
use Rattle.fs_queue.specs.Queue.{Queue}
use Rattle.fs_queue.specs.Returning.{writes, wants_notice}
use Rattle.fs_queue.specs.Taking.{Offer, IsRequest, CannotFetch, Offers, offer, after_refusal}
use Rattle.server_meanings.specs.Serving.{May}
use Rattle.plain_machine.specs.declared.error.DeviceError.{DeviceError}
use Rattle.plain_machine.specs.declared.error.DeviceError.TheVariants as device
use Rattle.plain_machine.specs.MarkedPages.{returned_addresses}
use Rattle.plain_machine.specs.Step.{State, Exchange, Calls, StepEnd, Idle, Refused, Exchanged, Exchanges, ServesRequest, Acts, StepOf}
use Rattle.plain_machine.specs.Step.{Step, Returns, after_return, faulty, served_exchange, with_queue}
use Rattle.plain_machine.specs.Run.{Turns, KickEnds, KickRun, Kicks, KickAnswer, with_host}
use Rattle.fs_confinement.specs.ReadSet.{places_for, offer_reads, flag_reads, room_in, step_writes, Touched, and_then, step_touches}
use Rattle.fs_confinement.specs.ReadSet.{end_touches, kick_touches, kicks_touch}
use Rattle.fs_confinement.specs.Confinement.{without_bytes, without_its_bytes, SameButBytes, AgreeOn, KeepDifference}
use Rattle.fs_confinement.proofs.HostLemmas.{bare, same_hosts, nothing_differs, keep_both, agree_front, agree_back, agree_later}
use Rattle.fs_confinement.proofs.HostLemmas.{agree_stored, stores_aside, stores_keep}
use Rattle.fs_confinement.proofs.OfferLemmas.{Agree, agree-append, offer_same, offer_reads_same, notice_same}

-- what can be done from another state ends in one that differs in bytes alone, and keeps the difference but for what is written
pub record Follows {F : Type 0} (Can : State F → Type 0) (before : State F) (h : Host) (after : State F) (written : List Place) :
    Type 0 where
  pub end : State F
  pub can : Can end
  pub rest : SameButBytes after end
  pub bytes : KeepDifference before.memory.host h after.memory.host end.memory.host written

-- a state that differs in bytes alone is the same over another host
same_rest : {F : Type 0} (s t : State F) → SameButBytes s t → with_host s t.memory.host ≡ t
same_rest {F} s t same = ap (λ (k : State F). with_host k t.memory.host) same

-- so what can be done over another host can be done from it
pub over_host : {F : Type 0} (s t : State F) (P : State F → Type 0) → SameButBytes s t →
    ((h : Host) → h ≡ t.memory.host → without_bytes s.memory.host ≡ without_bytes h → P (with_host s h)) → P t
over_host {F} s t P same each = subst P (same_rest s t same) (each t.memory.host refl (ap (λ (k : State F). k.memory.host) same))

-- memories that differ in bytes alone want the same notices, if they agree on the flags
notices_same : (m n : Memory) → bare m ≡ bare n → (q : Queue) → AgreeOn m.host n.host (places_for m Read (addresses q.avail 2)) →
    wants_notice m q ≡ wants_notice n q
notices_same m n same q agree =
    notice_same m n.host (same_hosts m n same) q agree ∙ ap (λ (k : Memory). wants_notice (record k { host = n.host }) q) same

module _ {F : Type 0} (s : State F) (h : Host) (same : without_bytes s.memory.host ≡ without_bytes h) where
  pub same_state : SameButBytes s (with_host s h)
  same_state = ap (with_host s) same

  pub same_bare : bare s.memory ≡ bare (with_host s h).memory
  same_bare = ap (λ (k : Host). record s.memory { host = k }) same

  -- nothing changes
  pub stays : (Can : State F → Type 0) (after : State F) → after ≡ s → Can (with_host s h) → Follows Can s h after []
  stays Can after is can = record {
    end = with_host s h;
    can = can;
    rest = ap without_its_bytes is ∙ same_state;
    bytes = subst (λ (k : State F). KeepDifference s.memory.host h k.memory.host h []) (sym is) (nothing_differs s.memory.host h);
  }

  return_follows :
      (i : ℕ) (q : Queue) (room : List ℕ) (expected : Exchange) (options : ℕ) (x : Exchange) (notice : Bool) (after : State F) →
      Returns s i q room expected options x notice after → Agree s.memory h same (addresses q.avail 2) →
      Follows (λ end. Returns (with_host s h) i q room expected options x notice end × (end.files ≡ after.files)) s h after
      (places_for s.memory Write (returned_addresses q x.head room x.reply))
  return_follows i q room expected options x notice after r agree =
      let end = after_return (with_host s h) i q expected.head room expected.reply options after.files in
      let ws = writes q expected.head room expected.reply in
      let alike : bare after.memory ≡ bare end.memory =
      ap (λ (k : State F). bare k.memory) r.state ∙ stores_aside ws s.memory (with_host s h).memory same_bare in
      let flags : AgreeOn after.memory.host end.memory.host (places_for after.memory Read (addresses q.avail 2)) =
      subst (λ (k : State F). AgreeOn k.memory.host end.memory.host (places_for k.memory Read (addresses q.avail 2))) (sym r.state)
      (agree_stored ws s.memory (with_host s h).memory same_bare (addresses q.avail 2) agree) in
      let kept : KeepDifference s.memory.host h after.memory.host end.memory.host (places_for s.memory Write (map (λ w. w.0) ws)) =
      subst (λ (k : State F). KeepDifference s.memory.host h k.memory.host end.memory.host (places_for s.memory Write (map (λ w. w.0) ws)))
      (sym r.state)
      (stores_keep ws s.memory (with_host s h).memory same_bare) in
      record {
        end = end;
        can = (
          record { exchange = r.exchange; state = refl; reported = r.reported ∙ notices_same after.memory end.memory alike q flags },
          refl,
        );
        rest = ap without_its_bytes r.state
            ∙ ap (λ (m : Memory). record (after_return s i q expected.head room expected.reply options after.files) { memory = m })
            (stores_aside ws s.memory (with_host s h).memory same_bare);
        bytes = subst (λ (y : Exchange). KeepDifference s.memory.host h after.memory.host end.memory.host
            (places_for s.memory Write (returned_addresses q y.head room y.reply))) (sym r.exchange) kept;
      }

module _ {F : Type 0} (may : May F) (s : State F) (h : Host) (same : without_bytes s.memory.host ≡ without_bytes h) where
  exchange_follows : (i : ℕ) (q : Queue) (o : Offer) (calls : Calls) (x : Exchange) (notice : Bool) (after : State F) →
      Exchanges may s i q o calls x notice after →
      Agree s.memory h same (addresses q.avail 2) → Follows (λ end. Exchanges may (with_host s h) i q o calls x notice end) s h after
      (places_for s.memory Write (returned_addresses q x.head (room_in o) x.reply))
  exchange_follows i q (Offers head (CannotFetch fault)) calls x notice after r agree =
      let back = return_follows s h same i q [] (faulty head fault) s.options x notice after r.returns agree in
      record {
        end = back.end;
        can = record { no_call = r.no_call; files = back.can.1 ∙ r.files; returns = back.can.0 };
        rest = back.rest;
        bytes = back.bytes;
      }
  exchange_follows i q (Offers head (IsRequest request room)) calls x notice after r agree =
      let back = return_follows s h same i q room (served_exchange head request r.given) r.given.options x notice after r.returns agree in
      let serves = subst (λ (f : F). ServesRequest may s.page_size s.options request (length room) s.files calls r.given f)
      (sym back.can.1) r.serves in
      record {
        end = back.end;
        can = record { given = r.given; serves = serves; returns = back.can.0 };
        rest = back.rest;
        bytes = back.bytes;
      }
  exchange_follows i q _ calls x notice after r agree = absurd r

  act_follows : (i : ℕ) (q : Queue) (o : Offer) (calls : Calls) (outcome : StepEnd) (after : State F) →
      Acts may s i q o calls outcome after → Agree s.memory h same (flag_reads q outcome) →
      Follows (λ end. Acts may (with_host s h) i q o calls outcome end) s h after (places_for s.memory Write (step_writes q o outcome))
  act_follows i q o calls Idle after t agree = stays s h same _ after t.1.same (t.0, record { same = refl; no_call = t.1.no_call })
  act_follows i q o calls (Exchanged x notice) after t agree = exchange_follows i q o calls x notice after t agree
  act_follows i q o calls (Refused device.NoSuchQueue) after t agree = absurd t
  act_follows i q o calls (Refused (device.Queue stop.OutOfMemory)) after t agree =
      stays s h same _ after t.1.same (t.0, record { same = refl; no_call = t.1.no_call })
  act_follows i q o calls (Refused (device.Queue e)) after t agree =
      let stopped = with_queue s i (after_refusal q e) in record {
        end = with_host stopped h;
        can = (t.0, t.1, refl);
        rest = ap without_its_bytes t.2 ∙ ap (with_host stopped) same;
        bytes = subst (λ (k : State F). KeepDifference s.memory.host h k.memory.host h []) (sym t.2) (nothing_differs s.memory.host h);
      }

  step_of_follows : (i : ℕ) (o : Option Queue) (calls : Calls) (outcome : StepEnd) (after : State F) →
      StepOf may s i o calls outcome after → AgreeOn s.memory.host h (step_touches s o outcome).read →
      Follows (λ end. StepOf may (with_host s h) i o calls outcome end
      × (step_touches (with_host s h) o outcome ≡ step_touches s o outcome)) s h after (step_touches s o outcome).written
  step_of_follows i None calls outcome after t agree =
      stays s h same _ after t.1.same ((t.0, record { same = refl; no_call = t.1.no_call }), refl)
  step_of_follows i (Some q) calls outcome after t agree =
      let parts = agree-append s.memory h same (offer_reads s.memory s.limit q) (flag_reads q outcome) agree in
      let is = offer_same s.memory h same s.limit q parts.0 in
      let reads = offer_reads_same s.memory h same s.limit q parts.0 in
      let done = act_follows i q (offer s.memory s.limit q) calls outcome after t parts.1 in
      let touched : step_touches (with_host s h) (Some q) outcome ≡ step_touches s (Some q) outcome =
      sym (ap (λ (xs : List ℕ). record {
        read = places_for s.memory Read (xs ++ flag_reads q outcome);
        written = places_for s.memory Write (step_writes q (offer s.memory s.limit q) outcome);
      }) reads
      ∙ ap (λ (k : Offer). record {
        read = places_for s.memory Read (offer_reads (with_host s h).memory s.limit q ++ flag_reads q outcome);
        written = places_for s.memory Write (step_writes q k outcome);
      }) is
      ∙ ap (λ (k : Host). let m = record s.memory { host = k } in
      record {
        read = places_for m Read (offer_reads (with_host s h).memory s.limit q ++ flag_reads q outcome);
        written = places_for m Write
            (step_writes q (offer (with_host s h).memory s.limit q) outcome);
      }) same)
      in record {
        end = done.end;
        can = (subst (λ (k : Offer). Acts may (with_host s h) i q k calls outcome done.end) is done.can, touched);
        rest = done.rest;
        bytes = done.bytes;
      }

-- what is touched first and later is the same if each is
pub both_same : (a b c d : Touched) → a ≡ b → c ≡ d → and_then a c ≡ and_then b d
both_same a b c d first later = ap (λ (k : Touched). and_then k c) first ∙ ap (and_then b) later

module _ {F : Type 0} (may : May F) where
  step_follows : (s t : State F) → SameButBytes s t → (i : ℕ) (calls : Calls) (outcome : StepEnd) (after : State F) →
      Step may s i calls outcome after →
      AgreeOn s.memory.host t.memory.host (step_touches s (slice_get s.queues i) outcome).read →
      Follows (λ end. Step may t i calls outcome end
      × (step_touches t (slice_get t.queues i) outcome ≡ step_touches s (slice_get s.queues i) outcome)) s t.memory.host after
      (step_touches s (slice_get s.queues i) outcome).written
  step_follows s t same i calls outcome after step agree =
      over_host s t
      (λ (k : State F). AgreeOn s.memory.host k.memory.host (step_touches s (slice_get s.queues i) outcome).read →
      Follows (λ end. Step may k i calls outcome end
      × (step_touches k (slice_get k.queues i) outcome ≡ step_touches s (slice_get s.queues i) outcome)) s k.memory.host after
      (step_touches s (slice_get s.queues i) outcome).written)
      same (λ h is alike agree. step_of_follows may s h alike i (slice_get s.queues i) calls outcome after step agree) agree

  -- ---- kicks

  end_follows :
      (s t : State F) → SameButBytes s t → (i most : ℕ) (refused : Option DeviceError) (after : State F) →
      KickEnds may s i most refused after →
      AgreeOn s.memory.host t.memory.host (end_touches s i most refused).read →
      Follows (λ end. KickEnds may t i most refused end × (end_touches t i most refused ≡ end_touches s i most refused)) s t.memory.host
      after (end_touches s i most refused).written
  end_follows s t same i zero None after is agree = record {
    end = t;
    can = (refl, refl);
    rest = ap without_its_bytes is ∙ same;
    bytes = subst (λ (k : State F). KeepDifference s.memory.host t.memory.host k.memory.host t.memory.host []) (sym is)
        (nothing_differs s.memory.host t.memory.host);
  }
  end_follows s t same i zero (Some e) after is agree = absurd is
  end_follows s t same i (suc most) None after step agree = step_follows s t same i [] Idle after step agree
  end_follows s t same i (suc most) (Some e) after step agree = step_follows s t same i [] (Refused e) after step agree

  kick_follows : (s t : State F) → SameButBytes s t →
      (i most : ℕ) (turns : Turns) (refused : Option DeviceError) (after : State F) (ran : KickRun may s i most turns refused after) →
      AgreeOn s.memory.host t.memory.host (kick_touches may s i most turns refused after ran).read →
      Follows (λ end. (other : KickRun may t i most turns refused end)
      × (kick_touches may t i most turns refused end other ≡ kick_touches may s i most turns refused after ran)) s t.memory.host after
      (kick_touches may s i most turns refused after ran).written
  unfolding KickRun kick_touches
  kick_follows s t same i most [] refused after is agree = end_follows s t same i most refused after is agree
  kick_follows s t same i zero (x ∷ turns) refused after is agree = absurd is
  kick_follows s t same i (suc most) (x ∷ turns) refused after (mid, step, rest) agree =
      let own = step_touches s (slice_get s.queues i) (Exchanged x.exchange x.notice) in
      let later = kick_touches may mid i most turns refused after rest in
      let first = step_follows s t same i x.calls (Exchanged x.exchange x.notice) mid step
      (agree_front s.memory.host t.memory.host own.read later.read agree) in
      let others = kick_follows mid first.end first.rest i most turns refused after rest
      (agree_later own.written later.read first.bytes (agree_back s.memory.host t.memory.host own.read later.read agree)) in
      record {
        end = others.end;
        can = (
          (first.end, first.can.0, others.can.0),
          both_same (step_touches t (slice_get t.queues i) (Exchanged x.exchange x.notice)) own
              (kick_touches may first.end i most turns refused others.end others.can.0) later
              first.can.1 others.can.1,
        );
        rest = others.rest;
        bytes = keep_both own.written later.written first.bytes others.bytes;
      }

  pub kicks_follow : (s t : State F) → SameButBytes s t →
      (i most : ℕ) (o : Option Queue) (turns : Turns) (k : KickAnswer) (after : State F) (ran : Kicks may s i most o turns k after) →
      AgreeOn s.memory.host t.memory.host (kicks_touch may s i most o turns k after ran).read →
      Follows (λ end. (other : Kicks may t i most o turns k end)
      × (kicks_touch may t i most o turns k end other ≡ kicks_touch may s i most o turns k after ran)) s t.memory.host after
      (kicks_touch may s i most o turns k after ran).written
  kicks_follow s t same i most None turns k after is agree = record {
    end = t;
    can = ((refl, is.1, is.2), refl);
    rest = ap without_its_bytes is.0 ∙ same;
    bytes = subst (λ (k : State F). KeepDifference s.memory.host t.memory.host k.memory.host t.memory.host []) (sym is.0)
        (nothing_differs s.memory.host t.memory.host);
  }
  kicks_follow s t same i most (Some q) turns k after is agree =
      let all = kick_follows s t same i most turns k.refused after is.0 agree in
      record { end = all.end; can = ((all.can.0, is.1), all.can.1); rest = all.rest; bytes = all.bytes }
