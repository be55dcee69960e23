-- runs from states that differ in marks alone
use Rattle.std.proofs.Common.{◌≡◌, ℕ, zero, suc, Bool, true, false, List, [], ◌∷◌, map, length, zip, Option, Some, None, refl, ap, sym, ◌∙◌}
use Rattle.std.proofs.Common.{subst}
use Rattle.std.specs.Prelude.{◌+◌, ◌==◌, ◌&&◌, IsTrue, if◌then◌else◌, slice_get, option_map, unwrap_or, nat_lt, not}
use Rattle.std.specs.List.{list_all, list_any}
use Rattle.std.proofs.lemmas.List.{length-map, map-append}
use Rattle.std.proofs.lemmas.Option.{slice_get-map}
use mathlib.Core.List.{map-map}
use mathlib.Core.Path.{fun_ext}
use Rattle.vm_iotlb.specs.declared.permissions.Permissions.TheVariants.{Read, Write}
use Rattle.vm_iotlb.specs.Table.{Table, mapped, unmapped, nothing_mapped}
use Rattle.vm_iotlb.specs.AddressRuns.{begins_anew_about, carries_on_at}
use Rattle.vm_memory_core.specs.Host.{Host, Block, unmarked, cleared, with_block, new_block}
use Rattle.vm_memory_core.specs.Lending.{with_table_at}
use Rattle.vm_memory.specs.Layout.{Region, fits, overlap, is_region, with_region, without_region}
use Rattle.vm_memory.specs.Memory.{Memory, addresses, reach, physical, table_in, table_of}
use Rattle.fs_queue.specs.declared.fault.QueueError.TheVariants as stop
use Rattle.fs_queue.specs.Queue.{Queue, fresh}
use Rattle.fs_queue.specs.Returning.{writes}
use Rattle.fs_queue.specs.Taking.{Offer, IsRequest, CannotFetch, Offers, offer, after_refusal}
use Rattle.server_meanings.specs.Serving.{May}
use Rattle.plain_machine.specs.declared.error.DeviceError.{DeviceError}
use Rattle.plain_machine.specs.declared.error.DeviceError.TheVariants as device
use Rattle.plain_machine.specs.declared.refusal.Refusal.{Refusal}
use Rattle.plain_machine.specs.declared.refusal.Refusal.TheVariants as why
use Rattle.plain_machine.specs.Step.{State, Exchange, Calls, StepEnd, Idle, Refused, Exchanged, Exchanges, Acts, StepOf, Step, Returns}
use Rattle.plain_machine.specs.Step.{after_return, faulty, served_exchange, with_queue}
use Rattle.plain_machine.specs.Run as run
use Rattle.plain_machine.specs.Run.{Turns, Command, Answer, Effect, KickEnds, KickRun, Kicks, KickAnswer, Affects, ChangesTable, HasEffect}
use Rattle.plain_machine.specs.Run.{Does, IsDecided, Performs, LacksMemory, RunReported, effect, guest_read, guest_write, make_block}
use Rattle.plain_machine.specs.Run.{insert, insert_block, remove_region, set_layout, is_known, has_len, some_overlap, reset, with_host}
use Rattle.plain_machine.specs.Run.{with_layout, with_ranges, fits_in, block_fits_in, command_takes_memory, ends_fit, no}
use Rattle.fs_device.specs.Marks.{without_marks, without_its_marks, SameButMarks, SameAnswer, SameEvents}
use Rattle.fs_device.proofs.MarkLemmas.{unmarked_memory, stores_aside, bytes_same, offers_same, notices_same}

-- what can be done from another state ends in one that differs in marks alone
abbrev Matched : {F : Type 0} → (State F → Type 0) → State F → Type 0
Matched {F} Can after = (end : State F) × Can end × SameButMarks after end

-- a state that differs in marks alone is the same over another host
same_rest : {F : Type 0} (s t : State F) → SameButMarks s t → with_host s t.memory.host ≡ t
same_rest {F} s t same = ap (λ (k : State F). with_host k t.memory.host) same

-- so what can be done over another host can be done from it
over_host : {F : Type 0} (s t : State F) (P : State F → Type 0) → SameButMarks s t →
    ((h : Host) → without_marks s.memory.host ≡ without_marks h → P (with_host s h)) → P t
over_host {F} s t P same each = subst P (same_rest s t same) (each t.memory.host (ap (λ (k : State F). k.memory.host) same))

-- ---- steps

module _ {F : Type 0} (s : State F) (h : Host) (same : without_marks s.memory.host ≡ without_marks h) where
  same_state : SameButMarks s (with_host s h)
  same_state = ap (with_host s) same

  same_memory : unmarked_memory s.memory ≡ unmarked_memory (with_host s h).memory
  same_memory = ap (λ (k : State F). k.memory) same_state

  unchanged_alike : (after : State F) → after ≡ s → SameButMarks after (with_host s h)
  unchanged_alike after is = ap without_its_marks is ∙ same_state

  return_alike : (i : ℕ) (q : Queue) (room : List ℕ) (expected : Exchange) (options : ℕ) (x : Exchange) (notice : Bool) (after : State F) →
      Returns s i q room expected options x notice after →
      SameButMarks after (after_return (with_host s h) i q expected.head room expected.reply options after.files)
  return_alike i q room expected options x notice after r =
      ap without_its_marks r.state
      ∙ ap (λ (m : Memory). record (after_return s i q expected.head room expected.reply options after.files) { memory = m })
      (stores_aside (writes q expected.head room expected.reply) s.memory (with_host s h).memory same_memory)

  returns_alike : (i : ℕ) (q : Queue) (room : List ℕ) (expected : Exchange) (options : ℕ) (x : Exchange) (notice : Bool) (after : State F) →
      Returns s i q room expected options x notice after →
      Returns (with_host s h) i q room expected options x notice
      (after_return (with_host s h) i q expected.head room expected.reply options after.files)
  returns_alike i q room expected options x notice after r =
      let end = after_return (with_host s h) i q expected.head room expected.reply options after.files in
      let alike = ap (λ (k : State F). k.memory) (return_alike i q room expected options x notice after r) in
      record { exchange = r.exchange; state = refl; reported = r.reported ∙ notices_same after.memory end.memory alike q }

module _ {F : Type 0} (may : May F) (s : State F) (h : Host) (same : without_marks s.memory.host ≡ without_marks h) where
  exchange_alike : (i : ℕ) (q : Queue) (o : Offer) (calls : Calls) (x : Exchange) (notice : Bool) (after : State F) →
      Exchanges may s i q o calls x notice after →
      Matched (λ end. Exchanges may (with_host s h) i q o calls x notice end) after
  exchange_alike i q (Offers head (CannotFetch fault)) calls x notice after r = (
    after_return (with_host s h) i q head [] [] s.options after.files,
    record {
      no_call = r.no_call;
      files = r.files;
      returns = returns_alike s h same i q [] (faulty head fault) s.options x notice after r.returns;
    },
    return_alike s h same i q [] (faulty head fault) s.options x notice after r.returns,
  )
  exchange_alike i q (Offers head (IsRequest request room)) calls x notice after r =
      let expected = served_exchange head request r.given in (
        after_return (with_host s h) i q head room expected.reply r.given.options after.files,
        record {
          given = r.given;
          serves = r.serves;
          returns = returns_alike s h same i q room expected r.given.options x notice after r.returns;
        },
        return_alike s h same i q room expected r.given.options x notice after r.returns,
      )
  exchange_alike i q _ calls x notice after r = absurd r

  act_alike : (i : ℕ) (q : Queue) (o : Offer) (calls : Calls) (outcome : StepEnd) (after : State F) → Acts may s i q o calls outcome after →
      Matched (λ end. Acts may (with_host s h) i q o calls outcome end) after
  act_alike i q o calls Idle after t =
      (with_host s h, (t.0, record { same = refl; no_call = t.1.no_call }), unchanged_alike s h same after t.1.same)
  act_alike i q o calls (Exchanged x notice) after t = exchange_alike i q o calls x notice after t
  act_alike i q o calls (Refused device.NoSuchQueue) after t = absurd t
  act_alike i q o calls (Refused (device.Queue stop.OutOfMemory)) after t =
      (with_host s h, (t.0, record { same = refl; no_call = t.1.no_call }), unchanged_alike s h same after t.1.same)
  act_alike i q o calls (Refused (device.Queue e)) after t =
      let stopped = with_queue s i (after_refusal q e) in
      (with_host stopped h, (t.0, t.1, refl), ap without_its_marks t.2 ∙ ap (with_host stopped) same)

  step_of_alike : (i : ℕ) (o : Option Queue) (calls : Calls) (outcome : StepEnd) (after : State F) → StepOf may s i o calls outcome after →
      Matched (λ end. StepOf may (with_host s h) i o calls outcome end) after
  step_of_alike i None calls outcome after t =
      (with_host s h, (t.0, record { same = refl; no_call = t.1.no_call }), unchanged_alike s h same after t.1.same)
  step_of_alike i (Some q) calls outcome after t =
      subst (λ (o : Offer). Matched (λ end. Acts may (with_host s h) i q o calls outcome end) after)
      (offers_same s.memory (with_host s h).memory (same_memory s h same) s.limit q)
      (act_alike i q (offer s.memory s.limit q) calls outcome after t)

module _ {F : Type 0} (may : May F) where
  step_alike : (s t : State F) → SameButMarks s t → (i : ℕ) (calls : Calls) (outcome : StepEnd) (after : State F) →
      Step may s i calls outcome after →
      Matched (λ end. Step may t i calls outcome end) after
  step_alike s t same i calls outcome after step =
      over_host s t (λ (k : State F). Matched (λ end. Step may k i calls outcome end) after) same
      (λ h alike. step_of_alike may s h alike i (slice_get s.queues i) calls outcome after step)

  -- ---- kicks

  end_alike :
      (s t : State F) → SameButMarks s t → (i most : ℕ) (refused : Option DeviceError) (after : State F) →
      KickEnds may s i most refused after →
      Matched (λ end. KickEnds may t i most refused end) after
  end_alike s t same i zero None after is = (t, refl, ap without_its_marks is ∙ same)
  end_alike s t same i zero (Some e) after is = absurd is
  end_alike s t same i (suc most) None after step = step_alike s t same i [] Idle after step
  end_alike s t same i (suc most) (Some e) after step = step_alike s t same i [] (Refused e) after step

  kick_alike : (s t : State F) → SameButMarks s t → (i most : ℕ) (turns : Turns) (refused : Option DeviceError) (after : State F) →
      KickRun may s i most turns refused after →
      Matched (λ end. KickRun may t i most turns refused end) after
  unfolding KickRun
  kick_alike s t same i most [] refused after is = end_alike s t same i most refused after is
  kick_alike s t same i zero (x ∷ turns) refused after is = absurd is
  kick_alike s t same i (suc most) (x ∷ turns) refused after (mid, step, rest) =
      let first = step_alike s t same i x.calls (Exchanged x.exchange x.notice) mid step in
      let others = kick_alike mid first.0 first.2 i most turns refused after rest in
      (others.0, (first.0, first.1, others.1), others.2)

  kicks_alike : (s t : State F) → SameButMarks s t → (i most : ℕ) (o : Option Queue) (turns : Turns) (k : KickAnswer) (after : State F) →
      Kicks may s i most o turns k after →
      Matched (λ end. Kicks may t i most o turns k end) after
  kicks_alike s t same i most None turns k after is = (t, (refl, is.1, is.2), ap without_its_marks is.0 ∙ same)
  kicks_alike s t same i most (Some q) turns k after is =
      let all = kick_alike s t same i most turns k.refused after is.0 in (all.0, (all.1, is.1), all.2)

-- ---- what the other commands do

-- the same is answered, and the states differ in marks alone
record EffectAlike {F : Type 0} (x y : Effect F) : Type 0 where
  answer : SameAnswer x.0 y.0
  state : SameButMarks x.1 y.1

-- so are what is decided of a command and what is decided of it over the other host; one isn't decided where the other isn't
abbrev DecidedAlike : {F : Type 0} → Option (Effect F) → Option (Effect F) → Type 0
DecidedAlike None None = Unit {0}
DecidedAlike (Some x) (Some y) = EffectAlike x y
DecidedAlike _ _ = ⊥

either_alike :
    {F : Type 0} (b : Bool) (x y z w : Effect F) → EffectAlike x z → EffectAlike y w → EffectAlike (if b then x else y) (if b then z else w)
either_alike true x y z w p q = p
either_alike false x y z w p q = q

either_as : {F : Type 0} (b c : Bool) (x y z w : Effect F) → b ≡ c → EffectAlike x z → EffectAlike y w →
    EffectAlike (if b then x else y) (if c then z else w)
either_as b c x y z w same p q =
    subst (λ (c : Bool). EffectAlike (if b then x else y) (if c then z else w)) same (either_alike b x y z w p q)

unmarked_twice : (b : Block) → unmarked (unmarked b) ≡ unmarked b
unmarked_twice b = ap (λ (marks : List Bool). record b { marks = marks }) (map-map (λ (m : Bool). false) (λ (m : Bool). false) b.marks)

cleared_aside : (h : Host) → without_marks (cleared h) ≡ without_marks h
cleared_aside h = ap (λ (blocks : List Block). record (without_marks h) { blocks = blocks })
    (map-map unmarked unmarked h.blocks ∙ ap (λ (f : Block → Block). map f h.blocks) (fun_ext unmarked_twice))

block_aside : (h : Host) (b : Block) → without_marks (with_block h b) ≡ with_block (without_marks h) (unmarked b)
block_aside h b = ap (λ (blocks : List Block). record (without_marks h) { blocks = blocks }) (map-append unmarked h.blocks (b ∷ []))

len_kept : (n : ℕ) (o : Option Block) → has_len n (option_map unmarked o) ≡ has_len n o
len_kept n None = refl
len_kept n (Some b) = refl

known_kept : (h : Host) (r : Region) → is_known (without_marks h) r ≡ is_known h r
known_kept h r = ap (has_len r.size) (slice_get-map unmarked h.blocks r.block) ∙ len_kept r.size (slice_get h.blocks r.block)

module _ {F : Type 0} (s : State F) (h : Host) (same : without_marks s.memory.host ≡ without_marks h) where
  refused_alike : (refusal : Refusal) → EffectAlike (no refusal s) (no refusal (with_host s h))
  refused_alike refusal = record { answer = refl; state = same_state s h same }

  done_alike : (k l : State F) → SameButMarks k l → EffectAlike (run.Done, k) (run.Done, l)
  done_alike k l alike = record { answer = refl; state = alike }

  physical_alike : unmarked_memory (physical s.memory) ≡ unmarked_memory (physical (with_host s h).memory)
  physical_alike = ap physical (same_memory s h same)

  read_alike : (a n : ℕ) → EffectAlike (guest_read s a n) (guest_read (with_host s h) a n)
  read_alike a n =
      let turns = ap (λ (f : ℕ → ℕ). run.Bytes (map f (addresses a n)))
      (sym (bytes_same (physical s.memory) (physical (with_host s h).memory) physical_alike)) in
      either_alike (reach (physical s.memory) Read a n) _ _ _ _ (record { answer = turns; state = same_state s h same })
      (refused_alike why.NoPlace)

  write_alike : (a : ℕ) (bs : List ℕ) → EffectAlike (guest_write s a bs) (guest_write (with_host s h) a bs)
  write_alike a bs =
      let stores = stores_aside (zip (addresses a (length bs)) bs) (physical s.memory) (physical (with_host s h).memory) physical_alike in
      either_alike (reach (physical s.memory) Write a (length bs)) _ _ _ _ (done_alike _ _ (ap (λ (m : Memory). with_host s m.host) stores))
      (refused_alike why.NoPlace)

  block_alike : (n : ℕ) → EffectAlike (make_block s n) (make_block (with_host s h) n)
  block_alike n =
      let count : length h.blocks ≡ length s.memory.host.blocks =
      sym (length-map h.blocks unmarked) ∙ ap (λ (k : Host). length k.blocks) (sym same) ∙ length-map s.memory.host.blocks unmarked in
      let more = block_aside s.memory.host (new_block n) ∙ ap (λ (k : Host). with_block k (unmarked (new_block n))) same
      ∙ sym (block_aside h (new_block n)) in
      either_alike (n == 0) _ _ _ _ (refused_alike why.EmptyBlock)
      (record { answer = ap run.NewBlockIs count; state = ap (with_host s) more })

  insert_alike : (r : Region) → EffectAlike (insert s r) (insert (with_host s h) r)
  insert_alike r =
      either_alike (not (fits r)) _ _ _ _ (refused_alike why.BadRegion)
      (either_alike (list_any (overlap r) s.memory.layout) _ _ _ _ (refused_alike why.Overlap)
      (done_alike _ _ (ap (with_host (with_layout s (with_region r s.memory.layout))) same)))

  region_alike : (base block : ℕ) (o p : Option Block) → option_map unmarked o ≡ option_map unmarked p →
      EffectAlike (insert_block s base block o) (insert_block (with_host s h) base block p)
  region_alike base block None None is = refused_alike why.UnknownBlock
  region_alike base block (Some b) (Some c) is =
      let long : length b.bytes ≡ length c.bytes = ap (λ (o : Option Block). unwrap_or (option_map (λ b. length b.bytes) o) 0) is in
      subst (λ (n : ℕ). EffectAlike (insert_block s base block (Some b))
      (insert (with_host s h) (record { start = base; size = n; block = block }))) long
      (insert_alike (record { start = base; size = length b.bytes; block = block }))
  region_alike base block _ _ is = absurd (cc)

  there_alike : (block : ℕ) → option_map unmarked (slice_get s.memory.host.blocks block) ≡ option_map unmarked (slice_get h.blocks block)
  there_alike block = sym (slice_get-map unmarked s.memory.host.blocks block) ∙ ap (λ (k : Host). slice_get k.blocks block) same
      ∙ slice_get-map unmarked h.blocks block

  remove_alike : (base size : ℕ) → EffectAlike (remove_region s base size) (remove_region (with_host s h) base size)
  remove_alike base size =
      either_alike (list_any (is_region base size) s.memory.layout) _ _ _ _
      (done_alike _ _ (ap (with_host (with_layout s (without_region base size s.memory.layout))) same)) (refused_alike why.NoRegion)

  layout_alike : (layout : List Region) → EffectAlike (set_layout s layout) (set_layout (with_host s h) layout)
  layout_alike layout =
      let known : is_known s.memory.host ≡ is_known h =
      sym (fun_ext (known_kept s.memory.host)) ∙ ap is_known same ∙ fun_ext (known_kept h) in
      either_as _ _ _ _ _ _ (ap (λ (f : Region → Bool). not (list_all f layout)) known) (refused_alike why.UnknownBlock)
      (either_alike (not (list_all fits layout)) _ _ _ _ (refused_alike why.BadRegion)
      (either_alike (some_overlap layout) _ _ _ _ (refused_alike why.Overlap)
      (done_alike _ _ (ap (with_host (with_layout s layout)) same))))

  reset_alike : (i : ℕ) (anew : Queue) (o : Option Queue) → EffectAlike (reset s i anew o) (reset (with_host s h) i anew o)
  reset_alike i anew None = refused_alike why.NoSuchQueue
  reset_alike i anew (Some q) = done_alike _ _ (ap (with_host (with_queue s i anew)) same)

  cleared_alike : without_marks (cleared s.memory.host) ≡ without_marks (cleared h)
  cleared_alike = cleared_aside s.memory.host ∙ same ∙ sym (cleared_aside h)

  effect_alike : (command : Command) → DecidedAlike (effect s command) (effect (with_host s h) command)
  unfolding effect
  effect_alike (run.GuestRead a n) = read_alike a n
  effect_alike (run.GuestWrite a bs) = write_alike a bs
  effect_alike (run.NewBlock n) = block_alike n
  effect_alike (run.InsertRegion base block) = region_alike base block _ _ (there_alike block)
  effect_alike (run.RemoveRegion base size) = remove_alike base size
  effect_alike (run.SetLayout layout) = layout_alike layout
  effect_alike (run.SetIommu on) =
      done_alike _ _ (ap (λ (k : Host). record s { memory = record s.memory { host = k; translates = on } }) same)
  effect_alike (run.ResetQueue queue size desc avail used) = reset_alike queue (fresh size desc avail used) _
  effect_alike run.Image = record { answer = cleared_alike; state = ap (with_host s) cleared_alike }
  effect_alike run.Harvest = record { answer = tt; state = ap (with_host s) cleared_alike }
  effect_alike _ = tt

-- ---- commands

-- what can be answered from another state is the same, and it ends in one that differs in marks alone
abbrev AnsweredAlike : {F : Type 0} → (Answer → State F → Type 0) → Answer → State F → Type 0
AnsweredAlike {F} Can answer after = (other : Answer) × (end : State F) × SameAnswer answer other × Can other end × SameButMarks after end

same_answer : (answer : Answer) → SameAnswer answer answer
same_answer (run.Pages pages) = tt
same_answer _ = refl

answered_so : {F : Type 0} (Can : Answer → State F → Type 0) (answer : Answer) (after : State F) → Matched (Can answer) after →
    AnsweredAlike Can answer after
answered_so Can answer after m = (answer, m.0, same_answer answer, m.1, m.2)

proceeds_alike : (layout : List Region) (base block : ℕ) (o p : Option Block) → option_map unmarked o ≡ option_map unmarked p →
    block_fits_in layout base block o ≡ block_fits_in layout base block p
proceeds_alike layout base block None None is = refl
proceeds_alike layout base block (Some b) (Some c) is =
    ap (λ (n : ℕ). fits_in layout (record { start = base; size = n; block = block }))
    (ap (λ (o : Option Block). unwrap_or (option_map (λ b. length b.bytes) o) 0) is)
proceeds_alike layout base block _ _ is = absurd (cc)

module _ {F : Type 0} (s : State F) (h : Host) (same : without_marks s.memory.host ≡ without_marks h) where
  table_alike : table_of s.memory ≡ table_of (with_host s h).memory
  table_alike = ap (λ (k : Host). table_in k s.memory.table) same

  takes_alike : (command : Command) → command_takes_memory s command ≡ command_takes_memory (with_host s h) command
  takes_alike (run.InsertRegion base block) = proceeds_alike s.memory.layout base block _ _ (there_alike s h same block)
  takes_alike (run.Map iova target n perm) =
      ap (λ (t : Table). (nat_lt 0 n && (ends_fit iova n && ends_fit target n))
      && begins_anew_about t (mapped iova target n perm t) iova (iova + n)) table_alike
  takes_alike (run.Unmap iova n) = ap (λ (t : Table). (nat_lt 0 n && ends_fit iova n) && carries_on_at t (iova + n)) table_alike
  takes_alike _ = refl

  change_alike : (fit : Bool) (table : Table) (answer : Answer) (after : State F) → ChangesTable s fit table answer after →
      Matched (λ end. ChangesTable (with_host s h) fit table answer end) after
  change_alike true table answer after t =
      let moved = ap (λ (k : Host). with_host s (with_table_at k s.memory.table t.1.0)) same in
      (with_ranges (with_host s h) t.1.0, (t.0, (t.1.0, t.1.1, t.1.2, refl)), ap without_its_marks t.1.3 ∙ moved)
  change_alike false table answer after t = (
    with_host s h,
    ap {B = Effect F} (λ (x : Effect F). (x.0, with_host s h)) t,
    unchanged_alike s h same after (ap (λ (x : Effect F). x.1) t),
  )

  -- a change that goes by the table that is there
  change_of :
      (fit : Bool) (to : Table → Table) (answer : Answer) (after : State F) → ChangesTable s fit (to (table_of s.memory)) answer after →
      Matched (λ end. ChangesTable (with_host s h) fit (to (table_of (with_host s h).memory)) answer end) after
  change_of fit to answer after t =
      subst (λ (old : Table). Matched (λ end. ChangesTable (with_host s h) fit (to old) answer end) after) table_alike
      (change_alike fit (to (table_of s.memory)) answer after t)

  decided_alike : (old new : Option (Effect F)) (answer : Answer) (after : State F) → DecidedAlike old new → IsDecided old answer after →
      AnsweredAlike (λ other end. IsDecided new other end) answer after
  decided_alike None new answer after alike t = absurd t
  decided_alike (Some old) None answer after alike t = absurd alike
  decided_alike (Some old) (Some new) answer after alike t = (
    new.0,
    new.1,
    subst (λ (a : Answer). SameAnswer a new.0) (sym (ap (λ (x : Effect F). x.0) t)) alike.answer,
    refl,
    ap (λ (x : Effect F). without_its_marks x.1) t ∙ alike.state,
  )

  answered_by_effect : (command : Command) (answer : Answer) (after : State F) → IsDecided (effect s command) answer after →
      AnsweredAlike (λ other end. IsDecided (effect (with_host s h) command) other end) answer after
  answered_by_effect command answer after t =
      decided_alike (effect s command) (effect (with_host s h) command) answer after (effect_alike s h same command) t

  affect_alike : (command : Command) (answer : Answer) (after : State F) → Affects s command answer after →
      AnsweredAlike (λ other end. Affects (with_host s h) command other end) answer after
  affect_alike (run.Map iova target n perm) answer after t =
      answered_so _ answer after (change_of (ends_fit iova n && ends_fit target n) (mapped iova target n perm) answer after t)
  affect_alike (run.Unmap iova n) answer after t = answered_so _ answer after (change_of (ends_fit iova n) (unmapped iova n) answer after t)
  affect_alike run.UnmapAll answer after t = answered_so _ answer after (change_alike true nothing_mapped answer after t)
  affect_alike (run.Kick i most) answer after t = absurd t
  affect_alike command answer after t = answered_by_effect command answer after t

  has_effect_alike : (command : Command) (turns : Turns) (answer : Answer) (after : State F) → HasEffect s command turns answer after
      → AnsweredAlike (λ other end. HasEffect (with_host s h) command turns other end) answer after
  has_effect_alike command [] answer after t = affect_alike command answer after t
  has_effect_alike command (x ∷ turns) answer after t = absurd t

  lack_alike : (command : Command) (turns : Turns) (after : State F) → LacksMemory s command turns after →
      Matched (λ end. LacksMemory (with_host s h) command turns end) after
  lack_alike command [] after t = (with_host s h, (subst IsTrue (takes_alike command) t.0, refl), unchanged_alike s h same after t.1)
  lack_alike command (x ∷ turns) after t = absurd t

-- an answer that isn't a failed allocation
abbrev Suffices : Answer → Type 0
Suffices (run.IsRefused why.OutOfMemory) = ⊥
Suffices answer = Unit {0}

module _ {F : Type 0} (may : May F) where
  does_alike : (s : State F) (h : Host) → without_marks s.memory.host ≡ without_marks h →
      (command : Command) (turns : Turns) (answer : Answer) (after : State F) →
      Does may s command turns answer after → AnsweredAlike (λ other end. Does may (with_host s h) command turns other end) answer
      after
  does_alike s h same (run.Kick i most) turns (run.Served k) after t =
      answered_so (λ other end. Does may (with_host s h) (run.Kick i most) turns other end) (run.Served k) after
      (kicks_alike may s (with_host s h) (same_state s h same) i most (slice_get s.queues i) turns k after t)
  does_alike s h same (run.Kick i most) turns answer after t = absurd t
  does_alike s h same command turns answer after t = has_effect_alike s h same command turns answer after t

  performed :
      (s : State F) (command : Command) (turns : Turns) (answer other : Answer) (end : State F) → Suffices answer
      → SameAnswer answer other →
      Does may s command turns other end → Performs may s command turns other end
  performed s command turns (run.IsRefused why.OutOfMemory) other end enough same does = absurd enough
  performed s command turns (run.Pages old) (run.Pages new) end enough same does = does
  performed s command turns (run.Pages old) other end enough same does = absurd same
  performed s command turns (run.Copied old) (run.Copied new) end enough same does = does
  performed s command turns (run.Copied old) other end enough same does = absurd same
  performed s command turns answer other end enough same does =
      subst (λ (a : Answer). Performs may s command turns a end) (sym same)
      (subst (λ (a : Answer). Does may s command turns a end) same does)

  performs_over : (s : State F) (h : Host) → without_marks s.memory.host ≡ without_marks h →
      (command : Command) (turns : Turns) (answer : Answer) (after : State F) →
      Performs may s command turns answer after →
      AnsweredAlike (λ other end. Performs may (with_host s h) command turns other end) answer after
  performs_over s h same command turns (run.IsRefused why.OutOfMemory) after t =
      answered_so (λ other end. Performs may (with_host s h) command turns other end) (run.IsRefused why.OutOfMemory) after
      (lack_alike s h same command turns after t)
  performs_over s h same command turns answer after t =
      let new = does_alike s h same command turns answer after t in
      (new.0, new.1, new.2, performed (with_host s h) command turns answer new.0 new.1 tt new.2 new.3, new.4)

  performs_alike : (s t : State F) → SameButMarks s t → (command : Command) (turns : Turns) (answer : Answer) (after : State F) →
      Performs may s command turns answer after →
      AnsweredAlike (λ other end. Performs may t command turns other end) answer after
  performs_alike s t same command turns answer after performs =
      over_host s t (λ (k : State F). AnsweredAlike (λ other end. Performs may k command turns other end) answer after) same
      (λ h alike. performs_over s h alike command turns answer after performs)

  -- ---- runs

  -- a run from a state that differs in marks alone
  pub run_alike :
      (s t after : State F) (events : List (Command × Answer)) (all_turns : List Turns) → SameButMarks s t
      → RunReported may s events all_turns after →
      (others : List (Command × Answer)) × (end : State F) × SameEvents events others × RunReported may t others all_turns end
      × SameButMarks after end
  unfolding RunReported
  run_alike s t after [] [] same ran = ([], t, tt, refl, ap without_its_marks ran ∙ same)
  run_alike s t after (e ∷ es) (turns ∷ all_turns) same (mid, performs, rest) =
      let first = performs_alike s t same e.0 turns e.1 mid performs in
      let others = run_alike mid first.1 after es all_turns first.4 rest in
      ((e.0, first.0) ∷ others.0, others.1, (refl, first.2, others.2), (first.1, first.3, others.3), others.4)
  run_alike s t after _ _ same ran = absurd ran
