-- a run over a host that differs outside of what it reads
use Rattle.std.proofs.Common.{◌≡◌, ℕ, Bool, true, false, not, ◌&&◌, List, [], ◌∷◌, map, length, zip, Option, Some, None, refl, ap, sym, ◌∙◌}
use Rattle.std.proofs.Common.{subst}
use Rattle.std.specs.Prelude.{◌+◌, ◌==◌, nat_lt, IsTrue, if◌then◌else◌, slice_get, option_map, unwrap_or}
use Rattle.std.specs.List.{list_all, list_any}
use Rattle.std.proofs.lemmas.Bool.{and_parts}
use Rattle.std.proofs.lemmas.List.{length-map}
use Rattle.std.proofs.lemmas.Option.{slice_get-map}
use Rattle.std.proofs.lemmas.Slice.Zip.{firsts-zip}
use mathlib.Core.Path.{fun_ext}
use Rattle.vm_iotlb.specs.declared.permissions.Permissions.TheVariants.{Read, Write}
use Rattle.vm_iotlb.specs.declared.range.IotlbRange.{IotlbRange}
use Rattle.vm_iotlb.specs.declared.permissions.Permissions.{Permissions}
use Rattle.vm_iotlb.specs.Table.{Table, mapped, unmapped, nothing_mapped}
use Rattle.vm_iotlb.specs.AddressRuns.{begins_anew_about, carries_on_at}
use Rattle.vm_memory_core.specs.Host.{Host, Block, Place, with_block, new_block}
use Rattle.vm_memory_core.specs.Lending.{with_table_at}
use Rattle.vm_memory.specs.Layout.{Region, fits, overlap, is_region, with_region, without_region}
use Rattle.vm_memory.specs.Memory.{Memory, addresses, byte, reach, physical, table_in, table_of, stored_all}
use Rattle.vm_memory.proofs.Places.{length-addresses}
use Rattle.fs_queue.specs.Queue.{Queue, fresh}
use Rattle.server_meanings.specs.Serving.{May}
use Rattle.plain_machine.specs.declared.refusal.Refusal.{Refusal}
use Rattle.plain_machine.specs.declared.refusal.Refusal.TheVariants as why
use Rattle.plain_machine.specs.Step.{State, with_queue}
use Rattle.plain_machine.specs.Run as run
use Rattle.plain_machine.specs.Run.{Turns, Command, Answer, Effect, Affects, ChangesTable, HasEffect, Does, IsDecided, Performs}
use Rattle.plain_machine.specs.Run.{LacksMemory, RunReported, effect, guest_written, insert, insert_block, remove_region, set_layout}
use Rattle.plain_machine.specs.Run.{is_known, has_len, some_overlap, reset, with_host, with_layout, with_ranges, fits_in, block_fits_in}
use Rattle.plain_machine.specs.Run.{command_takes_memory, ends_fit, no}
use Rattle.fs_confinement.specs.ReadSet.{places_for, Touched, nothing, guest_reads, guest_writes, plain_touches, command_touches}
use Rattle.fs_confinement.specs.ReadSet.{run_touches}
use Rattle.fs_confinement.specs.Confinement.{zeroed, without_bytes, without_its_bytes, SameButBytes, AgreeOn, KeepDifference, copies}
use Rattle.fs_confinement.specs.Confinement.{copies_nothing, AllowsToo}
use Rattle.fs_confinement.proofs.HostLemmas.{bare, nothing_differs, keep_both, agree_front, agree_back, agree_later, stores_aside}
use Rattle.fs_confinement.proofs.HostLemmas.{stores_keep, block_keeps, block_aside}
use Rattle.fs_confinement.proofs.OfferLemmas.{bytes_same}
use Rattle.fs_confinement.proofs.StepLemmas.{Follows, both_same, over_host, same_state, same_bare, stays, kicks_follow}

-- ---- what the other commands do

-- the same is answered, the states differ in bytes alone, and the difference is kept but for what is written
record EffectFollows {F : Type 0} (g h : Host) (written : List Place) (x y : Effect F) : Type 0 where
  answer : x.0 ≡ y.0
  state : SameButBytes x.1 y.1
  bytes : KeepDifference g h x.1.memory.host y.1.memory.host written

either_follows :
    {F : Type 0} (g h : Host) (ps : List Place) (b : Bool) (x y z w : Effect F) → EffectFollows g h ps x z → EffectFollows g h ps y w →
    EffectFollows g h ps (if b then x else y) (if b then z else w)
either_follows g h ps true x y z w p q = p
either_follows g h ps false x y z w p q = q

either_as : {F : Type 0} (g h : Host) (ps : List Place) (b c : Bool) (x y z w : Effect F) → b ≡ c → EffectFollows g h ps x z →
    EffectFollows g h ps y w →
    EffectFollows g h ps (if b then x else y) (if c then z else w)
either_as g h ps b c x y z w same p q =
    subst (λ (c : Bool). EffectFollows g h ps (if b then x else y) (if c then z else w)) same (either_follows g h ps b x y z w p q)

zeros_kept : (o : List ℕ) → length (map {B = ℕ} (λ _. 0) o) ≡ length o
zeros_kept o = length-map o (λ _. 0)

len_kept : (n : ℕ) (o : Option Block) → has_len n (option_map zeroed o) ≡ has_len n o
len_kept n None = refl
len_kept n (Some b) = ap (λ (k : ℕ). k == n) (zeros_kept b.bytes)

known_kept : (h : Host) (r : Region) → is_known (without_bytes h) r ≡ is_known h r
known_kept h r = ap (has_len r.size) (slice_get-map zeroed h.blocks r.block) ∙ len_kept r.size (slice_get h.blocks r.block)

long_alike : (b c : Block) → Some (zeroed b) ≡ Some (zeroed c) → length b.bytes ≡ length c.bytes
long_alike b c is =
    sym (zeros_kept b.bytes) ∙ ap (λ (o : Option Block). unwrap_or (option_map (λ b. length b.bytes) o) 0) is ∙ zeros_kept c.bytes

proceeds_alike : (layout : List Region) (base block : ℕ) (o p : Option Block) → option_map zeroed o ≡ option_map zeroed p →
    block_fits_in layout base block o ≡ block_fits_in layout base block p
proceeds_alike layout base block None None is = refl
proceeds_alike layout base block (Some b) (Some c) is =
    ap (λ (n : ℕ). fits_in layout (record { start = base; size = n; block = block })) (long_alike b c is)
proceeds_alike layout base block _ _ is = absurd (cc)

-- tables are no bytes
other_tables : (g h : Host) (x y : List (List IotlbRange)) → KeepDifference g h (record g { tables = x }) (record h { tables = y }) []
other_tables g h x y = record {
  same = λ block offset e. e;
  new = λ block offset e. absurd (cc);
  old = λ block offset byte e is. is;
  other_old = λ block offset byte e is. is;
}

module _ {F : Type 0} (s : State F) (h : Host) (same : without_bytes s.memory.host ≡ without_bytes h) where
  -- a command that writes nothing
  abbrev Same : Effect F → Effect F → Type 0
  Same x y = EffectFollows s.memory.host h [] x y

  refused_follows : (refusal : Refusal) → Same (no refusal s) (no refusal (with_host s h))
  refused_follows refusal = record { answer = refl; state = same_state s h same; bytes = nothing_differs s.memory.host h }

  done_follows :
      (k l : State F) → SameButBytes k l → KeepDifference s.memory.host h k.memory.host l.memory.host [] → Same (run.Done, k) (run.Done, l)
  done_follows k l alike bytes = record { answer = refl; state = alike; bytes = bytes }

  -- where the host stays as it is
  kept_follows : (k l : State F) → SameButBytes k l → k.memory.host ≡ s.memory.host → l.memory.host ≡ h
      → Same (run.Done, k) (run.Done, l)
  kept_follows k l alike at_s at_h =
      done_follows k l alike
      (subst (λ (g : Host). KeepDifference s.memory.host h g l.memory.host []) (sym at_s)
      (subst (λ (g : Host). KeepDifference s.memory.host h s.memory.host g [])
      (sym at_h) (nothing_differs s.memory.host h)))

  physical_bare : bare (physical s.memory) ≡ bare (physical (with_host s h).memory)
  physical_bare = ap physical (same_bare s h same)

  block_follows : (n : ℕ) (b : Bool) → Same (if b then no why.EmptyBlock s
      else (run.NewBlockIs (length s.memory.host.blocks), with_host s (with_block s.memory.host (new_block n))))
      (if b then no why.EmptyBlock (with_host s h) else (run.NewBlockIs (length h.blocks), with_host s (with_block h (new_block n))))
  block_follows n true = refused_follows why.EmptyBlock
  block_follows n false =
      let count : length s.memory.host.blocks ≡ length h.blocks =
      sym (length-map s.memory.host.blocks zeroed) ∙ ap (λ (k : Host). length k.blocks) same ∙ length-map h.blocks zeroed in
      let more = block_aside s.memory.host (new_block n) ∙ ap (λ (k : Host). with_block k (zeroed (new_block n))) same
      ∙ sym (block_aside h (new_block n)) in
      record { answer = ap run.NewBlockIs count; state = ap (with_host s) more; bytes = block_keeps s.memory.host h (new_block n) same }

  insert_follows : (r : Region) → Same (insert s r) (insert (with_host s h) r)
  insert_follows r =
      either_follows s.memory.host h [] (not (fits r)) _ _ _ _ (refused_follows why.BadRegion)
      (either_follows s.memory.host h [] (list_any (overlap r) s.memory.layout) _ _ _ _ (refused_follows why.Overlap)
      (kept_follows _ _ (ap (with_host (with_layout s (with_region r s.memory.layout))) same) refl refl))

  region_follows : (base block : ℕ) (o p : Option Block) → option_map zeroed o ≡ option_map zeroed p →
      Same (insert_block s base block o) (insert_block (with_host s h) base block p)
  region_follows base block None None is = refused_follows why.UnknownBlock
  region_follows base block (Some b) (Some c) is =
      subst (λ (n : ℕ). Same (insert_block s base block (Some b))
      (insert (with_host s h) (record { start = base; size = n; block = block }))) (long_alike b c is)
      (insert_follows (record { start = base; size = length b.bytes; block = block }))
  region_follows base block _ _ is = absurd (cc)

  there_alike : (block : ℕ) → option_map zeroed (slice_get s.memory.host.blocks block) ≡ option_map zeroed (slice_get h.blocks block)
  there_alike block = sym (slice_get-map zeroed s.memory.host.blocks block) ∙ ap (λ (k : Host). slice_get k.blocks block) same
      ∙ slice_get-map zeroed h.blocks block

  remove_follows : (base size : ℕ) → Same (remove_region s base size) (remove_region (with_host s h) base size)
  remove_follows base size =
      either_follows s.memory.host h [] (list_any (is_region base size) s.memory.layout) _ _ _ _
      (kept_follows _ _ (ap (with_host (with_layout s (without_region base size s.memory.layout))) same) refl refl)
      (refused_follows why.NoRegion)

  layout_follows : (layout : List Region) → Same (set_layout s layout) (set_layout (with_host s h) layout)
  layout_follows layout =
      let known : is_known s.memory.host ≡ is_known h =
      sym (fun_ext (known_kept s.memory.host)) ∙ ap is_known same ∙ fun_ext (known_kept h) in
      either_as s.memory.host h [] _ _ _ _ _ _ (ap (λ (f : Region → Bool). not (list_all f layout)) known)
      (refused_follows why.UnknownBlock)
      (either_follows s.memory.host h [] (not (list_all fits layout)) _ _ _ _ (refused_follows why.BadRegion)
      (either_follows s.memory.host h [] (some_overlap layout) _ _ _ _ (refused_follows why.Overlap)
      (kept_follows _ _ (ap (with_host (with_layout s layout)) same) refl refl)))

  reset_follows : (i : ℕ) (anew : Queue) (o : Option Queue) → Same (reset s i anew o) (reset (with_host s h) i anew o)
  reset_follows i anew None = refused_follows why.NoSuchQueue
  reset_follows i anew (Some q) = kept_follows _ _ (ap (with_host (with_queue s i anew)) same) refl refl

  -- by what was decided, what is decided over the other host
  decided_follows :
      (ps : List Place) (x y : Effect F) (answer : Answer) (after : State F) → EffectFollows s.memory.host h ps x y → (answer, after) ≡ x →
      Follows (λ end. (answer, end) ≡ y) s h after ps
  decided_follows ps x y answer after e t = record {
    end = y.1;
    can = ap (λ (a : Answer). (a, y.1)) (ap (λ (z : Effect F). z.0) t ∙ e.answer);
    rest = ap (λ (z : Effect F). without_its_bytes z.1) t ∙ e.state;
    bytes = subst (λ (z : Effect F). KeepDifference s.memory.host h z.1.memory.host y.1.memory.host ps) (sym t) e.bytes;
  }

  -- a guest's accesses
  reach_same : (access : Permissions) → reach (physical s.memory) access ≡ reach (physical (with_host s h).memory) access
  reach_same access = ap (λ (k : Host). reach (physical (record s.memory { host = k })) access) same

  reads_write_nothing : (a n : ℕ) (answer : Answer) → (guest_reads s a n answer).written ≡ []
  reads_write_nothing a n (run.Bytes bytes) = refl
  reads_write_nothing a n _ = refl

  read_follows : (a n : ℕ) (b : Bool) (answer : Answer) (after : State F) → AgreeOn s.memory.host h (guest_reads s a n answer).read →
      (answer, after) ≡ (if b then (run.Bytes (map (byte (physical s.memory)) (addresses a n)), s) else no why.NoPlace s) →
      Follows (λ end. (answer, end) ≡ (if b then (run.Bytes (map (byte (physical (with_host s h).memory)) (addresses a n)), with_host s h)
      else no why.NoPlace (with_host s h))) s h after []
  read_follows a n false answer after agree t = decided_follows [] _ _ answer after (refused_follows why.NoPlace) t
  read_follows a n true answer after agree t =
      let turns : answer ≡ run.Bytes (map (byte (physical s.memory)) (addresses a n)) = ap (λ (z : Effect F). z.0) t in
      let agreed : AgreeOn s.memory.host h (places_for (physical s.memory) Read (addresses a n)) =
      subst (λ (k : Answer). AgreeOn s.memory.host h (guest_reads s a n k).read) turns agree in
      decided_follows [] _ _ answer after
      (record {
        answer = ap run.Bytes (bytes_same (physical s.memory) h same (addresses a n) agreed);
        state = same_state s h same;
        bytes = nothing_differs s.memory.host h;
      }) t

  write_follows : (a : ℕ) (bs : List ℕ) (b : Bool) (answer : Answer) (after : State F) →
      (answer, after) ≡ (if b then (run.Done, record s { memory = guest_written s.memory a bs }) else no why.NoPlace s) →
      Follows (λ end. (answer, end) ≡ (if b then (run.Done, record s { memory = guest_written (with_host s h).memory a bs })
      else no why.NoPlace (with_host s h))) s h after
      (guest_writes s a (length bs) answer).written
  write_follows a bs false answer after t =
      let turns : answer ≡ run.IsRefused why.NoPlace = ap (λ (z : Effect F). z.0) t in
      subst (λ (k : Answer). Follows (λ end. IsDecided (Some (no why.NoPlace (with_host s h))) answer end) s h after
      (guest_writes s a (length bs) k).written) (sym turns)
      (decided_follows [] _ _ answer after (refused_follows why.NoPlace) t)
  write_follows a bs true answer after t =
      let turns : answer ≡ run.Done = ap (λ (z : Effect F). z.0) t in
      let ws = zip (addresses a (length bs)) bs in
      let new = stores_aside ws (physical s.memory) (physical (with_host s h).memory) physical_bare in
      let kept = stores_keep ws (physical s.memory) (physical (with_host s h).memory) physical_bare in
      subst (λ (k : Answer).
      Follows (λ end. IsDecided (Some (run.Done, record s { memory = guest_written (with_host s h).memory a bs })) answer end) s h after
      (guest_writes s a (length bs) k).written) (sym turns)
      (decided_follows _ _ _ answer after
      (record {
        answer = refl;
        state = ap (λ (m : Memory). with_host s m.host) new;
        bytes = subst (λ (as' : List ℕ). KeepDifference s.memory.host h (stored_all (physical s.memory) ws).host
            (stored_all (physical (with_host s h).memory) ws).host
            (places_for (physical s.memory) Write as'))
            (firsts-zip (addresses a (length bs)) bs (sym (length-addresses (length bs) a))) kept;
      }) t)

  -- ---- tables

  change_follows : (fit : Bool) (table : Table) (answer : Answer) (after : State F) → ChangesTable s fit table answer after →
      Follows (λ end. ChangesTable (with_host s h) fit table answer end) s h after []
  change_follows true table answer after t =
      let moved = ap (λ (k : Host). with_host s (with_table_at k s.memory.table t.1.0)) same in
      record {
        end = with_ranges (with_host s h) t.1.0;
        can = (t.0, (t.1.0, t.1.1, t.1.2, refl));
        rest = ap without_its_bytes t.1.3 ∙ moved;
        bytes = subst (λ (k : State F). KeepDifference s.memory.host h k.memory.host (with_table_at h s.memory.table t.1.0) []) (sym t.1.3)
            (other_tables s.memory.host h _ _);
      }
  change_follows false table answer after t = decided_follows [] _ _ answer after (refused_follows why.BadMapping) t

  table_alike : table_of s.memory ≡ table_of (with_host s h).memory
  table_alike = ap (λ (k : Host). table_in k s.memory.table) same

  -- a change that goes by the table that is there
  change_of :
      (fit : Bool) (to : Table → Table) (answer : Answer) (after : State F) → ChangesTable s fit (to (table_of s.memory)) answer after →
      Follows (λ end. ChangesTable (with_host s h) fit (to (table_of (with_host s h).memory)) answer end) s h after []
  change_of fit to answer after t =
      subst (λ (old : Table). Follows (λ end. ChangesTable (with_host s h) fit (to old) answer end) s h after []) table_alike
      (change_follows fit (to (table_of s.memory)) answer after t)

  -- ---- commands that aren't kicks

  affect_follows : (command : Command) (answer : Answer) (after : State F) → IsTrue (not (copies command)) →
      AgreeOn s.memory.host h (plain_touches s command answer).read → Affects s command answer after →
      Follows (λ end. Affects (with_host s h) command answer end) s h after (plain_touches s command answer).written
  unfolding effect
  affect_follows (run.GuestRead a n) answer after few agree t =
      subst (λ (ps : List Place). Follows (λ end. Affects (with_host s h) (run.GuestRead a n) answer end) s h after ps)
      (sym (reads_write_nothing a n answer))
      (subst (λ (r : ℕ → ℕ → Bool).
      Follows (λ end. (answer, end) ≡ (if r a n
      then (run.Bytes (map (byte (physical (with_host s h).memory)) (addresses a n)), with_host s h) else no why.NoPlace (with_host s h)))
      s h after [])
      (reach_same Read) (read_follows a n (reach (physical s.memory) Read a n) answer after agree t))
  affect_follows (run.GuestWrite a bs) answer after few agree t =
      subst (λ (r : ℕ → ℕ → Bool).
      Follows (λ end. (answer, end) ≡ (if r a (length bs) then (run.Done, record s { memory = guest_written (with_host s h).memory a bs })
      else no why.NoPlace (with_host s h))) s h after
      (guest_writes s a (length bs) answer).written)
      (reach_same Write) (write_follows a bs (reach (physical s.memory) Write a (length bs)) answer after t)
  affect_follows (run.NewBlock n) answer after few agree t = decided_follows [] _ _ answer after (block_follows n (n == 0)) t
  affect_follows (run.InsertRegion base block) answer after few agree t =
      decided_follows [] _ _ answer after (region_follows base block _ _ (there_alike block)) t
  affect_follows (run.RemoveRegion base size) answer after few agree t = decided_follows [] _ _ answer after (remove_follows base size) t
  affect_follows (run.SetLayout layout) answer after few agree t = decided_follows [] _ _ answer after (layout_follows layout) t
  affect_follows (run.Map iova target n perm) answer after few agree t =
      change_of (ends_fit iova n && ends_fit target n) (mapped iova target n perm) answer after t
  affect_follows (run.Unmap iova n) answer after few agree t = change_of (ends_fit iova n) (unmapped iova n) answer after t
  affect_follows run.UnmapAll answer after few agree t = change_follows true nothing_mapped answer after t
  affect_follows (run.SetIommu on) answer after few agree t =
      decided_follows [] _ _ answer after
      (kept_follows _ _ (ap (λ (k : Host). record s { memory = record s.memory { host = k; translates = on } }) same) refl refl) t
  affect_follows (run.Kick i most) answer after few agree t = absurd t
  affect_follows (run.ResetQueue queue size desc avail used) answer after few agree t =
      decided_follows [] _ _ answer after (reset_follows queue (fresh size desc avail used) _) t
  affect_follows _ answer after few agree t = absurd (cc)

  effect_follows : (command : Command) (turns : Turns) (answer : Answer) (after : State F) → IsTrue (not (copies command)) →
      AgreeOn s.memory.host h (plain_touches s command answer).read →
      HasEffect s command turns answer after →
      Follows (λ end. HasEffect (with_host s h) command turns answer end) s h after (plain_touches s command answer).written
  effect_follows command [] answer after few agree t = affect_follows command answer after few agree t
  effect_follows command (x ∷ turns) answer after few agree t = absurd t

  takes_alike : (command : Command) → command_takes_memory s command ≡ command_takes_memory (with_host s h) command
  takes_alike (run.GuestRead a n) = ap (λ (r : ℕ → ℕ → Bool). nat_lt 0 n && r a n) (reach_same Read)
  takes_alike (run.InsertRegion base block) = proceeds_alike s.memory.layout base block _ _ (there_alike block)
  takes_alike (run.Map iova target n perm) =
      ap (λ (t : Table). (nat_lt 0 n && (ends_fit iova n && ends_fit target n))
      && begins_anew_about t (mapped iova target n perm t) iova (iova + n)) table_alike
  takes_alike (run.Unmap iova n) = ap (λ (t : Table). (nat_lt 0 n && ends_fit iova n) && carries_on_at t (iova + n)) table_alike
  takes_alike _ = refl

  lack_follows : (command : Command) (turns : Turns) (after : State F) → LacksMemory s command turns after →
      Follows (λ end. LacksMemory (with_host s h) command turns end) s h after []
  lack_follows command [] after t = stays s h same _ after t.1 (subst IsTrue (takes_alike command) t.0, refl)
  lack_follows command (x ∷ turns) after t = absurd t

  plain_same : (command : Command) (answer : Answer) → plain_touches (with_host s h) command answer ≡ plain_touches s command answer
  plain_same (run.GuestRead a n) (run.Bytes bytes) =
      ap (λ (k : Memory). record { read = places_for k Read (addresses a n); written = [] }) (sym physical_bare)
  plain_same (run.GuestWrite a bytes) run.Done =
      ap (λ (k : Memory). record { read = []; written = places_for k Write (addresses a (length bytes)) }) (sym physical_bare)
  plain_same _ answer = refl

-- ---- commands

-- whether a command is a kick
abbrev is_kick : Command → Bool
is_kick (run.Kick i most) = true
is_kick _ = false

-- a command that isn't a kick and is refused touches nothing
refused_nothing :
    {F : Type 0} (s : State F) (command : Command) (refusal : Refusal) → plain_touches s command (run.IsRefused refusal) ≡ nothing
refused_nothing s (run.GuestRead a n) refusal = refl
refused_nothing s _ refusal = refl

abbrev PlainFollows : {F : Type 0} → (State F → State F → Type 0) → (s : State F) → (h : Host) → Command → Answer → State F → Type 0
PlainFollows {F} Can s h command answer after =
    Follows (λ end. Can (with_host s h) end × (plain_touches (with_host s h) command answer ≡ plain_touches s command answer)) s h after
    (plain_touches s command answer).written

module _ {F : Type 0} (may : May F) (s : State F) (h : Host) (same : without_bytes s.memory.host ≡ without_bytes h) where
  does_follow : (command : Command) (turns : Turns) (answer : Answer) (after : State F) → IsTrue (not (is_kick command)) →
      IsTrue (not (copies command)) →
      AgreeOn s.memory.host h (plain_touches s command answer).read →
      Does may s command turns answer after → PlainFollows (λ from end. Does may from command turns answer end) s h command answer
      after
  does_follow (run.Kick i most) turns answer after plain few agree t = absurd (cc)
  does_follow command turns answer after plain few agree t =
      let done = effect_follows s h same command turns answer after few agree t in
      record { end = done.end; can = (done.can, plain_same s h same command answer); rest = done.rest; bytes = done.bytes }

  plain_follows :
      (command : Command) (turns : Turns) (answer : Answer) (after : State F) → IsTrue (not (is_kick command)) →
      IsTrue (not (copies command)) →
      AgreeOn s.memory.host h (plain_touches s command answer).read →
      Performs may s command turns answer after →
      PlainFollows (λ from end. Performs may from command turns answer end) s h command answer after
  plain_follows command turns (run.IsRefused why.OutOfMemory) after plain few agree t =
      let done = lack_follows s h same command turns after t in
      record {
        end = done.end;
        can = (done.can, plain_same s h same command (run.IsRefused why.OutOfMemory));
        rest = done.rest;
        bytes = subst (λ (k : Touched). KeepDifference s.memory.host h after.memory.host done.end.memory.host k.written)
            (sym (refused_nothing s command why.OutOfMemory)) done.bytes;
      }
  plain_follows command turns answer after plain few agree t = does_follow command turns answer after plain few agree t

-- what is touched in two ways that are the same
module _ {F : Type 0} (may : May F) where
  -- a command may be answered so from another state, where it touches the same
  abbrev CommandFollows : (s t : State F) (command : Command) (turns : Turns) (answer : Answer) (after : State F) →
      Performs may s command turns answer after → Type 0
  CommandFollows s t command turns answer after done =
      Follows (λ end. (other : Performs may t command turns answer end) ×
      (command_touches may t command turns answer end other ≡ command_touches may s command turns answer after done)) s t.memory.host
      after
      (command_touches may s command turns answer after done).written

  kick_answered : (s t : State F) → SameButBytes s t →
      (i most : ℕ) (turns : Turns) (answer : Answer) (after : State F) (done : Performs may s (run.Kick i most) turns answer after) →
      AgreeOn s.memory.host t.memory.host (command_touches may s (run.Kick i most) turns answer after done).read →
      CommandFollows s t (run.Kick i most) turns answer after done
  kick_answered s t same i most turns (run.Served k) after done agree =
      over_host s t
      (λ (u : State F). AgreeOn s.memory.host u.memory.host (command_touches may s (run.Kick i most) turns (run.Served k) after
      done).read →
      CommandFollows s u (run.Kick i most) turns (run.Served k) after done) same
      (λ h is alike agree. kicks_follow may s (with_host s h) (same_state s h alike) i most (slice_get s.queues i) turns k after done
      agree)
      agree
  kick_answered s t same i most turns (run.IsRefused why.OutOfMemory) after done agree =
      over_host s t (λ (u : State F). CommandFollows s u (run.Kick i most) turns (run.IsRefused why.OutOfMemory) after done) same
      (λ h is alike.
      let lacks = lack_follows s h alike (run.Kick i most) turns after done in
      record { end = lacks.end; can = (lacks.can, refl); rest = lacks.rest; bytes = lacks.bytes })
  kick_answered s t same i most turns answer after done agree = absurd done

  command_follows : (s t : State F) → SameButBytes s t → (command : Command) (turns : Turns) (answer : Answer) (after : State F)
      (done : Performs may s command turns answer after) → IsTrue (not (copies command)) →
      AgreeOn s.memory.host t.memory.host (command_touches may s command turns answer after done).read →
      CommandFollows s t command turns answer after done
  command_follows s t same (run.Kick i most) turns answer after done few agree =
      kick_answered s t same i most turns answer after done agree
  command_follows s t same command turns answer after done few agree =
      over_host s t (λ (u : State F). AgreeOn s.memory.host u.memory.host (command_touches may s command turns answer after done).read →
      CommandFollows s u command turns answer after done) same
      (λ h is alike agree. plain_follows may s h alike command turns answer after refl few agree done) agree

  -- ---- runs

  pub run_follows : (s t after : State F) (events : List (Command × Answer)) (all_turns : List Turns)
      (ran : RunReported may s events all_turns after) →
      IsTrue (copies_nothing events) → SameButBytes s t →
      AgreeOn s.memory.host t.memory.host (run_touches may s events all_turns after ran).read
      → AllowsToo may s t after events all_turns ran
  unfolding RunReported run_touches
  run_follows s t after [] [] ran few same agree = record {
    end = t;
    run = refl;
    touched = refl;
    rest = ap without_its_bytes ran ∙ same;
    bytes = subst (λ (k : State F). KeepDifference s.memory.host t.memory.host k.memory.host t.memory.host []) (sym ran)
        (nothing_differs s.memory.host t.memory.host);
  }
  run_follows s t after (e ∷ es) (turns ∷ all_turns) (mid, performs, rest) few same agree =
      let own = command_touches may s e.0 turns e.1 mid performs in
      let later = run_touches may mid es all_turns after rest in
      let parts = and_parts (not (copies e.0)) (copies_nothing es) few in
      let first = command_follows s t same e.0 turns e.1 mid performs parts.0
      (agree_front s.memory.host t.memory.host own.read later.read agree) in
      let others = run_follows mid first.end after es all_turns rest parts.1 first.rest
      (agree_later own.written later.read first.bytes (agree_back s.memory.host t.memory.host own.read later.read agree)) in
      record {
        end = others.end;
        run = (first.end, first.can.0, others.run);
        touched = both_same (command_touches may t e.0 turns e.1 first.end first.can.0) own
            (run_touches may first.end es all_turns others.end others.run) later first.can.1 others.touched;
        rest = others.rest;
        bytes = keep_both own.written later.written first.bytes others.bytes;
      }
  run_follows s t after _ _ ran few same agree = absurd ran
