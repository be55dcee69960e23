-- The pages of a run beside a guest that writes.
use Rattle.std.proofs.Common.{◌≡◌, ℕ, Bool, true, false, ◌||◌, List, [], ◌∷◌, ◌++◌, Option, Some, None, map, flat_map}
use Rattle.std.proofs.Common.{refl, subst, sym, ap, ◌∙◌}
use Rattle.std.specs.List.{list_any}
use Rattle.std.proofs.lemmas.List.Folds.{list_any-append}
use Rattle.vm_memory_core.specs.Host.{Host}
use Rattle.vm_memory.specs.Memory.{Memory, physical}
use Rattle.fs_queue.specs.Returning.{writes_of}
use Rattle.server_meanings.specs.Serving.{May}
use Rattle.plain_machine.specs.MarkedPages.{Marks, block_mark, io_mark, marked_by, marks_block, marks_io}
use Rattle.plain_machine.specs.StepBy.{after_stores, stores_among}
use Rattle.plain_machine.proofs.PageLemmas.{ways, ways_stay, writes_mark}
use Rattle.live_machine.specs.Guest.{DeviceEvent, MarksOfBoth, PagesOfRun, Writes, after_event, after_moments, after_writes}
use Rattle.live_machine.specs.Guest.{addresses_marked, written_by_guest}
use Rattle.live_machine.specs.Live.{event_acts}
use Rattle.live_machine.specs.Runs.{marks_of}
use Rattle.live_machine.proofs.GuestMappings.{event_keeps, event_over, same_mappings}
use Rattle.live_machine.proofs.Pages.{event_marks}

-- ---- marks

or_none : (b : Bool) → (b || false) ≡ b
or_none true = refl
or_none false = refl

or_more : (was a b : Bool) → ((was || a) || b) ≡ (was || (a || b))
or_more true a b = refl
or_more false a b = refl

or_swap : (was a b : Bool) → ((was || a) || b) ≡ ((was || b) || a)
or_swap true a b = refl
or_swap false true true = refl
or_swap false true false = refl
or_swap false false true = refl
or_swap false false false = refl

module _ (f g : ℕ → Bool) where
  -- without an address that marks the page
  marked_by_none : (xs : List ℕ) (o : Option Bool) → list_any f xs ≡ false → marked_by f xs o ≡ o
  marked_by_none xs None none = refl
  marked_by_none xs (Some was) none = ap (λ (b : Bool). Some (was || b)) none ∙ ap (λ (b : Bool). Some b) (or_none was)

  -- by some addresses, and then by others
  marked_by_more : (xs ys : List ℕ) (o : Option Bool) → marked_by f ys (marked_by f xs o) ≡ marked_by f (xs ++ ys) o
  marked_by_more xs ys None = refl
  marked_by_more xs ys (Some was) =
      ap (λ (b : Bool). Some b) (or_more was (list_any f xs) (list_any f ys))
      ∙ ap (λ (b : Bool). Some (was || b)) (sym (list_any-append f xs ys))

  -- in the other order
  marked_by_swap : (xs ys : List ℕ) (o : Option Bool) → marked_by g ys (marked_by f xs o) ≡ marked_by f xs (marked_by g ys o)
  marked_by_swap xs ys None = refl
  marked_by_swap xs ys (Some was) = ap (λ (b : Bool). Some b) (or_swap was (list_any f xs) (list_any g ys))

-- a write by a physical address marks no page of I/O addresses
no_io : (m : Memory) (set page : ℕ) (xs : List ℕ) → list_any (marks_io (physical m) set page) xs ≡ false
no_io m set page [] = refl
no_io m set page (x ∷ xs) = no_io m set page xs

none_by_both : (m : Memory) → MarksOfBoth m [] [] m.host
none_by_both m = record {
  blocks = λ block page.
      sym (marked_by_none (marks_block (physical m) block page) (marks_block m block page) [] (block_mark m.host block page) refl)
      ∙ sym (marked_by_none (marks_block m block page) (marks_block m block page) []
      (marked_by (marks_block (physical m) block page) [] (block_mark m.host block page)) refl);
  io_sets = λ set page. sym (marked_by_none (marks_io m set page) (marks_io m set page) [] (io_mark m.host set page) refl);
}

-- what the guest wrote before
guest_before : (m n : Memory) (ws guest device : List ℕ) (after : Host) → ways n ≡ ways m → Marks (physical m) ws n.host
    → MarksOfBoth n guest device after → MarksOfBoth m (ws ++ guest) device after
guest_before m n ws guest device after same first later = record {
  blocks = λ block page.
      let by = marks_block m block page in
      let plain = marks_block (physical m) block page in
      later.blocks block page
      ∙ ap (λ (k : Memory). marked_by (marks_block k block page) device
      (marked_by (marks_block (physical k) block page) guest (block_mark n.host block page))) same
      ∙ ap (λ (o : Option Bool). marked_by by device (marked_by plain guest o)) (first.blocks block page)
      ∙ ap (marked_by by device) (marked_by_more plain plain ws guest (block_mark m.host block page));
  io_sets = λ set page.
      later.io_sets set page
      ∙ ap (λ (k : Memory). marked_by (marks_io k set page) device (io_mark n.host set page)) same
      ∙ ap (marked_by (marks_io m set page) device)
      (first.io_sets set page
      ∙ marked_by_none (marks_io (physical m) set page) (marks_io m set page) ws (io_mark m.host set page) (no_io m set page ws));
}

-- what the device wrote before
device_before : (m n : Memory) (ws guest device : List ℕ) (after : Host) → ways n ≡ ways m → Marks m ws n.host
    → MarksOfBoth n guest device after → MarksOfBoth m guest (ws ++ device) after
device_before m n ws guest device after same first later = record {
  blocks = λ block page.
      let by = marks_block m block page in
      let plain = marks_block (physical m) block page in
      later.blocks block page
      ∙ ap (λ (k : Memory). marked_by (marks_block k block page) device
      (marked_by (marks_block (physical k) block page) guest (block_mark n.host block page))) same
      ∙ ap (λ (o : Option Bool). marked_by by device (marked_by plain guest o)) (first.blocks block page)
      ∙ ap (marked_by by device) (marked_by_swap by plain ws guest (block_mark m.host block page))
      ∙ marked_by_more by by ws device (marked_by plain guest (block_mark m.host block page));
  io_sets = λ set page.
      let by = marks_io m set page in
      later.io_sets set page
      ∙ ap (λ (k : Memory). marked_by (marks_io k set page) device (io_mark n.host set page)) same
      ∙ ap (marked_by by device) (first.io_sets set page)
      ∙ marked_by_more by by ws device (io_mark m.host set page);
}

-- the guest's writes leave the mappings
ways_kept : (m : Memory) (ws : List (ℕ × ℕ)) → ways (after_writes m ws) ≡ ways m
ways_kept m ws = ap (λ (k : Memory). record m { host = k.host }) (ways_stay (physical m) ws)

-- ---- the run

pub pages_of_run : {F : Type 0} (may : May F) → PagesOfRun may
pages_of_run may s after [] m run has stay = none_by_both m
pages_of_run may s after (Writes ws ∷ ms) m run has stay =
    let n = after_writes m ws in
    guest_before m n (map (λ (w : ℕ × ℕ). w.0) ws) (written_by_guest ms) (addresses_marked may s ms after run) (after_moments n ms).host
    (ways_kept m ws) (writes_mark (physical m) ws)
    (pages_of_run may s after ms n run (same_mappings s m n (ways_kept m ws) has) stay)
pages_of_run may s after (DeviceEvent e ∷ ms) m run has stay =
    let ws = flat_map writes_of (stores_among (event_acts e)) in
    let n : Memory = after_stores m (stores_among (event_acts e)) in
    let laid : after_event m e ≡ n = event_over may s run.0 e m run.1 stay.0 has in
    let guest = written_by_guest ms in
    let device = addresses_marked may run.0 ms after run.2 in
    let first : Marks m (marks_of s e) n.host = event_marks may s run.0 e run.1 m in
    let later : MarksOfBoth n guest device (after_moments n ms).host =
    pages_of_run may run.0 after ms n run.2 (event_keeps may s run.0 e m run.1 stay.0 has) stay.1 in
    subst (λ (k : Memory). MarksOfBoth m guest (marks_of s e ++ device) (after_moments k ms).host) (sym laid)
    (device_before m n (marks_of s e) guest device (after_moments n ms).host (ways_stay m ws) first later)
