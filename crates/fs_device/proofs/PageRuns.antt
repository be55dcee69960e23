-- which pages the commands of a run mark
use Rattle.std.proofs.Common.{◌≡◌, ℕ, zero, suc, Bool, true, false, List, [], ◌∷◌, ◌++◌, length, map, replicate, Option, Some, None, refl}
use Rattle.std.proofs.Common.{◌↔◌, ◌==◌, if◌then◌else◌, not, slice_get, option_map, option_and_then, ap, sym, ◌∙◌, subst}
use Rattle.std.specs.List.{list_any, list_all, zip}
use Rattle.std.proofs.lemmas.Option.{slice_get-map}
use Rattle.std.proofs.lemmas.Slice.Zip.{firsts-zip}
use Rattle.vm_iotlb.specs.declared.permissions.Permissions.TheVariants.{Read, Write}
use Rattle.vm_iotlb.specs.Table.{Table, nothing_mapped}
use Rattle.vm_memory_core.specs.Host.{Host, Block, cleared, new_block, page_count, unmarked}
use Rattle.vm_memory.specs.Layout.{Region, fits, overlap, is_region}
use Rattle.vm_memory.specs.Memory.{Memory, addresses, physical, reach, stored_all}
use Rattle.vm_memory.proofs.Places.{length-addresses}
use Rattle.fs_queue.specs.Queue.{Queue, fresh}
use Rattle.fs_queue.specs.Taking.{room_of}
use Rattle.fs_queue.specs.Returning.{writes}
use Rattle.server_meanings.specs.Serving.{May}
use Rattle.plain_machine.specs.declared.error.DeviceError.{DeviceError}
use Rattle.plain_machine.specs.declared.refusal.Refusal.TheVariants as why
use Rattle.plain_machine.specs.Step.{State}
use Rattle.plain_machine.specs.Run as run
use Rattle.plain_machine.specs.Run.{Turns, Command, Answer, Effect, ChangesTable, KickRun, Kicks, KickAnswer, HasEffect, Does, Affects}
use Rattle.plain_machine.specs.Run.{effect, insert_block, is_known, some_overlap, reset}
use Rattle.plain_machine.specs.MarkedPages.{Marks, KickWrites, ClearsMarks, KeepsMarks, DoneMarks, AnswerMarks, CommandsMark}
use Rattle.fs_device.proofs.ReportingLemmas.{end_keeps}
use Rattle.plain_machine.proofs.UsedLemmas.{exchange_returns, step_offers}
use Rattle.plain_machine.proofs.PageLemmas.{marks_join, none_written, ways, ways_stay, writes_mark}

-- ---- marks that stay, and marks that go

keeps : (h : Host) → KeepsMarks h h
keeps h = record { blocks = λ block page. ((λ e. e), (λ e. e)); io_sets = λ set page. refl }

all_unset : (marks : List Bool) (page : ℕ) → slice_get (map (λ _. false) marks) page ≡ option_map (λ was. false) (slice_get marks page)
all_unset marks page = slice_get-map (λ (b : Bool). false) marks page

block_unset : (o : Option Block) (page : ℕ) →
    option_and_then (λ (b : Block). slice_get b.marks page) (option_map unmarked o) ≡ option_map (λ was. false)
    (option_and_then (λ (b : Block). slice_get b.marks page) o)
block_unset None page = refl
block_unset (Some b) page = all_unset b.marks page

clears : (h : Host) → ClearsMarks h (cleared h)
clears h = record {
  blocks = λ block page. ap (λ (o : Option Block). option_and_then (λ b. slice_get b.marks page) o) (slice_get-map unmarked h.blocks block)
      ∙ block_unset (slice_get h.blocks block) page;
  io_sets = λ set page. refl;
}

none_of_new : (n page : ℕ) → slice_get (replicate n false) page ≡ Some true → ⊥
none_of_new (suc n) (suc page) e = none_of_new n page e
none_of_new _ _ e = absurd (cc)

-- the mark of a page of a block in a list
abbrev listed_mark : List Block → ℕ → ℕ → Option Bool
listed_mark blocks block page = option_and_then (λ b. slice_get b.marks page) (slice_get blocks block)

grown_marks : (blocks : List Block) (n block page : ℕ) →
    (listed_mark (blocks ++ new_block n ∷ []) block page ≡ Some true) ↔ (listed_mark blocks block page ≡ Some true)
grown_marks [] n zero page = ((λ e. absurd (none_of_new (page_count n) page e)), (λ e. absurd (cc)))
grown_marks [] n (suc block) page = ((λ e. absurd (cc)), (λ e. absurd (cc)))
grown_marks (b ∷ blocks) n zero page = ((λ e. e), (λ e. e))
grown_marks (b ∷ blocks) n (suc block) page = grown_marks blocks n block page

-- ---- a kick

module _ {F : Type 0} (may : May F) where
  -- nothing was written
  abbrev Marked : State F → ℕ → ℕ → Turns → State F → Type 0
  Marked s i most turns after = (written : List ℕ) × KickWrites may s i most turns written × Marks s.memory written after.memory.host

  nothing_marked : (s : State F) (i most : ℕ) (after : State F) → after.memory ≡ s.memory → Marked s i most [] after
  unfolding KickWrites
  nothing_marked s i most after same = ([], refl, subst (λ (m : Memory). Marks s.memory [] m.host) (sym same) (none_written s.memory))

  kick_marks : (s : State F) (i most : ℕ) (turns : Turns) (refused : Option DeviceError) (after : State F) →
      KickRun may s i most turns refused after → Marked s i most turns after
  unfolding KickRun KickWrites
  kick_marks s i most [] refused after t = nothing_marked s i most after (end_keeps may s i most refused after t)
  kick_marks s i zero (x ∷ turns) refused after t = absurd t
  kick_marks s i (suc most) (x ∷ turns) refused after (mid, step, rest) =
      let found = step_offers may s mid i x.calls x.exchange x.notice step in
      let o = found.0 in
      let ws = writes o.queue x.exchange.head (room_of o.fetched) x.exchange.reply in
      let is = exchange_returns may s i o.queue x.exchange.head o.fetched x.calls x.exchange x.notice mid found.1 in
      let here : Marks s.memory (map (λ w. w.0) ws) mid.memory.host =
      subst (λ (m : Memory). Marks s.memory (map (λ w. w.0) ws) m.host) (sym is) (writes_mark s.memory ws) in
      let same : ways mid.memory ≡ ways s.memory = ap ways is ∙ ways_stay s.memory ws in
      let later = kick_marks mid i most turns refused after rest in (
        map (λ w. w.0) ws ++ later.0,
        (mid, step, o, later.0, later.1, refl),
        marks_join s.memory mid.memory (map (λ w. w.0) ws) later.0 after.memory.host same here later.2,
      )

  kicks_mark : (s : State F) (i most : ℕ) (o : Option Queue) (turns : Turns) (k : KickAnswer) (after : State F) →
      Kicks may s i most o turns k after → Marked s i most turns after
  kicks_mark s i most None turns k after t =
      subst (λ (l : Turns). Marked s i most l after) (sym t.1) (nothing_marked s i most after (ap (λ (k : State F). k.memory) t.0))
  kicks_mark s i most (Some q) turns k after t = kick_marks s i most turns k.refused after t.0

-- ---- what the other commands do

write_marks : (m : Memory) (a : ℕ) (bs : List ℕ) →
    Marks (physical m) (addresses a (length bs)) (stored_all (physical m) (zip (addresses a (length bs)) bs)).host
write_marks m a bs =
    subst (λ (as' : List ℕ). Marks (physical m) as' (stored_all (physical m) (zip (addresses a (length bs)) bs)).host)
    (firsts-zip (addresses a (length bs)) bs (sym (length-addresses (length bs) a)))
    (writes_mark (physical m) (zip (addresses a (length bs)) bs))

-- what an effect does to the marks
abbrev EffectMarks : {F : Type 0} → May F → State F → Command → Effect F → Type 0
EffectMarks may s command (answer, after) = AnswerMarks may answer s command [] after

by_effect :
    {F : Type 0} (may : May F) (s : State F) (command : Command) (e : Effect F) (answer : Answer) (after : State F) → (answer, after) ≡ e →
    EffectMarks may s command e → AnswerMarks may answer s command [] after
by_effect may s command e answer after t h = subst (EffectMarks may s command) (sym t) h

whichever : {F : Type 0} (may : May F) (s : State F) (command : Command) (b : Bool) (x y : Effect F) → EffectMarks may s command x →
    EffectMarks may s command y →
    EffectMarks may s command (if b then x else y)
whichever may s command true x y p q = p
whichever may s command false x y p q = q

module _ {F : Type 0} (may : May F) (s : State F) where
  kept : KeepsMarks s.memory.host s.memory.host
  kept = keeps s.memory.host

  block_marks : (base block : ℕ) (o : Option Block) → EffectMarks may s (run.InsertRegion base block) (insert_block s base block o)
  block_marks base block None = kept
  block_marks base block (Some b) =
      let r : Region = record { start = base; size = length b.bytes; block = block } in
      whichever may s (run.InsertRegion base block) (not (fits r)) _ _ kept
      (whichever may s (run.InsertRegion base block) (list_any (overlap r) s.memory.layout) _ _ kept kept)

  reset_marks : (i size desc avail used : ℕ) (o : Option Queue) →
      EffectMarks may s (run.ResetQueue i size desc avail used) (reset s i (fresh size desc avail used) o)
  reset_marks i size desc avail used None = kept
  reset_marks i size desc avail used (Some q) = kept

  table_marks : (fit : Bool) (table : Table) (answer : Answer) (after : State F) (command : Command) →
      ((end : State F) → KeepsMarks s.memory.host end.memory.host → DoneMarks s command end) →
      ChangesTable s fit table answer after → AnswerMarks may answer s command [] after
  table_marks true table answer after command done t =
      let there : KeepsMarks s.memory.host (run.with_ranges s t.1.0).memory.host =
      record { blocks = λ block page. ((λ e. e), (λ e. e)); io_sets = λ set page. refl } in
      let host : KeepsMarks s.memory.host after.memory.host =
      subst (λ (k : State F). KeepsMarks s.memory.host k.memory.host) (sym t.1.3) there in
      subst (λ (a : Answer). AnswerMarks may a s command [] after) (sym t.0) (done after host)
  table_marks false table answer after command done t = by_effect may s command (run.no why.BadMapping s) answer after t kept

  affect_marks :
      (command : Command) (answer : Answer) (after : State F) → Affects s command answer after → AnswerMarks may answer s command [] after
  unfolding effect
  affect_marks (run.GuestRead a n) answer after t =
      by_effect may s (run.GuestRead a n) (run.guest_read s a n) answer after t
      (whichever may s (run.GuestRead a n) (reach (physical s.memory) Read a n) _ _ kept kept)
  affect_marks (run.GuestWrite a bs) answer after t =
      by_effect may s (run.GuestWrite a bs) (run.guest_write s a bs) answer after t
      (whichever may s (run.GuestWrite a bs) (reach (physical s.memory) Write a (length bs)) _ _ (write_marks s.memory a bs) kept)
  affect_marks (run.NewBlock n) answer after t =
      by_effect may s (run.NewBlock n) (run.make_block s n) answer after t
      (whichever may s (run.NewBlock n) (n == 0) _ _ kept
      (record { blocks = λ block page. grown_marks s.memory.host.blocks n block page; io_sets = λ set page. refl }))
  affect_marks (run.InsertRegion base block) answer after t =
      by_effect may s (run.InsertRegion base block) (insert_block s base block (slice_get s.memory.host.blocks block)) answer after t
      (block_marks base block (slice_get s.memory.host.blocks block))
  affect_marks (run.RemoveRegion base size) answer after t =
      by_effect may s (run.RemoveRegion base size) (run.remove_region s base size) answer after t
      (whichever may s (run.RemoveRegion base size) (list_any (is_region base size) s.memory.layout) _ _ kept kept)
  affect_marks (run.SetLayout layout) answer after t =
      let c = run.SetLayout layout in
      by_effect may s c (run.set_layout s layout) answer after t
      (whichever may s c (not (list_all (is_known s.memory.host) layout)) _ _ kept
      (whichever may s c (not (list_all fits layout)) _ _ kept (whichever may s c (some_overlap layout) _ _ kept kept)))
  affect_marks run.UnmapAll answer after t = table_marks true nothing_mapped answer after run.UnmapAll (λ end h. h) t
  affect_marks (run.SetIommu on) answer after t = by_effect may s (run.SetIommu on) (run.set_iommu s on) answer after t kept
  affect_marks (run.Kick i most) answer after t = absurd t
  affect_marks (run.ResetQueue i size desc avail used) answer after t =
      by_effect may s (run.ResetQueue i size desc avail used) (reset s i (fresh size desc avail used) (slice_get s.queues i)) answer after t
      (reset_marks i size desc avail used (slice_get s.queues i))
  affect_marks run.Image answer after t = by_effect may s run.Image (run.image s) answer after t (clears s.memory.host)
  affect_marks run.Harvest answer after t = by_effect may s run.Harvest (run.harvest s) answer after t (clears s.memory.host)
  affect_marks command answer after t = table_marks _ _ answer after command (λ end h. h) t

  effect_marks : (command : Command) (turns : Turns) (answer : Answer) (after : State F) → HasEffect s command turns answer after →
      AnswerMarks may answer s command turns after
  effect_marks command [] answer after t = affect_marks command answer after t
  effect_marks command (x ∷ turns) answer after t = absurd t

  does_mark : (command : Command) (turns : Turns) (answer : Answer) (after : State F) → Does may s command turns answer after →
      AnswerMarks may answer s command turns after
  does_mark (run.Kick i most) turns (run.Served k) after t = kicks_mark may s i most (slice_get s.queues i) turns k after t
  does_mark (run.Kick i most) turns _ after t = absurd t
  does_mark command turns answer after t = effect_marks command turns answer after t

pub commands_mark : {F : Type 0} (may : May F) → CommandsMark may
commands_mark {F} may s after command [] (run.IsRefused why.OutOfMemory) t =
    subst (λ (k : State F). KeepsMarks s.memory.host k.memory.host) (sym t.1) (keeps s.memory.host)
commands_mark may s after command (x ∷ turns) (run.IsRefused why.OutOfMemory) t = absurd t
commands_mark may s after command turns _ t = does_mark may s command turns _ after t
