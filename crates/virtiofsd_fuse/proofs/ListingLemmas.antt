-- Listings with the calls that come with them.
use Rattle.std.proofs.Common.{◌≡◌, ℕ, Bool, true, false, ◌+◌, ◌-◌, ◌≤◌, List, [], ◌∷◌, ◌++◌, length, drop, map, Option, Some, None, Ok, Err}
use Rattle.std.proofs.Common.{refl, sym, ap, ◌∙◌, subst, arith, append_assoc, append-nil, length-append}
use Rattle.std.specs.Prelude.{IsTrue, OnOk, OnErr, slice_get}
use Rattle.fuse_fs.specs.declared.answers.Entry.{Entry}
use Rattle.fuse_fs.specs.Calls.{FileCall, FileAnswer, FileRun, Listed, Lookup, HasEntry, Failed, suits}
use Rattle.server_meanings.specs.Listings.{ListRequest, ListingResult, Next, forget_lookup, after_call, with_entry, list_entries}
use Rattle.server_replies.specs.Entries.{Fit, FitsIn, IsFull, IsWrong, entry_len, entry_bytes, fit_of, is_dot, no_node, AfterEntry}
use Rattle.server_replies.specs.Entries.{after_entry}
use Rattle.server_meanings.specs.ListingRuns.{ListRun, EntryRun}
use Rattle.server_meanings.specs.Serving.{May}

-- the first of some entries, and the others
pub first_of : (ds : List Listed) (d : Listed) → Some d ≡ slice_get ds 0 → ds ≡ d ∷ drop 1 ds
first_of [] d e = absurd (cc)
first_of (x ∷ xs) d e = let same : d ≡ x = cc in ap (λ (y : Listed). y ∷ xs) (sym same)

pub none_of : (ds : List Listed) → None ≡ slice_get ds 0 → ds ≡ []
none_of [] e = refl
none_of (x ∷ xs) e = absurd (cc)

pub on_error : {P Q : Type 0} → (o : AfterEntry) → (P → Q) → OnErr o P → OnErr o Q
on_error (Ok n) f p = tt
on_error (Err e) f p = f p

-- the header's place stays
pub place_stays : (front final bytes : List ℕ) → length front ≡ 16 → final ≡ front ++ bytes → 16 ≤ length final
place_stays front final bytes l e = rw (e, length-append front bytes) (omega (arith, l))

-- the entries have room behind the header's place
pub entries_fit : (front final bytes : List ℕ) (free behind room : ℕ) → length front ≡ 16 → final ≡ front ++ bytes
    → length final + behind ≡ length front + free → free + 16 ≡ room
    → 16 + length bytes ≤ room
entries_fit front final bytes free behind room l e s f =
    let count : length final ≡ length front + length bytes = rw e (length-append front bytes) in
    omega (arith, count)

-- an entry with its node, or without, is put in, and others after it
pub record PlacedRun {F : Type 0} (may : May F) (b : Bool) (d : Listed) (e : Entry ℕ) (undo : List FileCall) (next : Next) (left room : ℕ)
    (before : F)
    (written final : List ℕ) (error : Option ℕ) (after : F) : Type 0 where
  pub steps : List (FileCall × FileAnswer)
  pub run : FileRun may before steps after
  pub bytes : List ℕ
  pub gives : with_entry b d e undo next left room (map (λ step. step.1) steps)
      ≡ record { calls = map (λ step. step.0) steps; bytes = bytes; error = error }
  pub all : final ≡ written ++ bytes

fits_in : (b : Bool) (d : Listed) (e : Entry ℕ) (undo : List FileCall) (next : Next) (left room : ℕ) (answers : List FileAnswer)
    (w : ListingResult)
    → fit_of (length d.name) (entry_len b (length d.name)) left room ≡ FitsIn
    → next (left - entry_len b (length d.name)) (room - entry_len b (length d.name)) answers ≡ w
    → with_entry b d e undo next left room answers ≡ record { calls = w.calls; bytes = entry_bytes b e d ++ w.bytes; error = w.error }
fits_in b d e undo next left room answers w h k = rw (h, k) refl

is_full : (b : Bool) (d : Listed) (e : Entry ℕ) (undo calls : List FileCall) (next : Next) (left room : ℕ) (answers : List FileAnswer)
    → fit_of (length d.name) (entry_len b (length d.name)) left room ≡ IsFull → calls ≡ undo
    → with_entry b d e undo next left room answers ≡ record { calls = calls; bytes = []; error = None }
is_full b d e undo calls next left room answers h k = rw (h, k) refl

is_wrong :
    (b : Bool) (d : Listed) (e : Entry ℕ) (undo calls : List FileCall) (next : Next) (left room errno : ℕ) (answers : List FileAnswer)
    → fit_of (length d.name) (entry_len b (length d.name)) left room ≡ IsWrong errno → calls ≡ undo
    → with_entry b d e undo next left room answers ≡ record { calls = calls; bytes = []; error = Some errno }
is_wrong b d e undo calls next left room errno answers h k = rw (h, k) refl

-- one entry is put in, whatever entries come after it, or it ends the list
abbrev pub PlacedOne : {F : Type 0} → May F → Bool → Listed → Entry ℕ → List FileCall → (left room : ℕ) → F → List ℕ → AfterEntry →
    (room : ℕ) → F → List ℕ → Type 0
PlacedOne {F} may b d e undo left room before written (Ok left_after) room_after after written_after =
    (l : ListRequest) (ds : List Listed) (final : List ℕ) (error : Option ℕ) (end : F)
    → ListRun may l ds left_after room_after after written_after final error end
    → PlacedRun may b d e undo (list_entries l ds) left room before written final error end
PlacedOne may b d e undo left room before written (Err error) room_after after written_after =
    (l : ListRequest) (ds : List Listed) → PlacedRun may b d e undo (list_entries l ds) left room before written written_after error after

-- calls that undo, each with its answer
abbrev pub Undone : {F : Type 0} → May F → List FileCall → F → F → Type 0
Undone may undo before after = (steps : List (FileCall × FileAnswer)) × (map (λ step. step.0) steps ≡ undo) × FileRun may before steps after

pub nothing_undone : {F : Type 0} (may : May F) (o : AfterEntry) (f : F) → OnErr o (Undone may [] f f)
nothing_undone may (Ok n) f = tt
nothing_undone may (Err e) f = ([], refl, refl)

pub nothing_done : {F : Type 0} (o : AfterEntry) (f : F) → OnOk o (f ≡ f)
nothing_done (Ok n) f = refl
nothing_done (Err e) f = tt

module _ {F : Type 0} (may : F → FileCall → FileAnswer → F → Type 0) where
  pub lists_nothing : (l : ListRequest) (ds : List Listed) (left room : ℕ) (f : F) (written : List ℕ) → ds ≡ []
      → ListRun may l ds left room f written written None f
  unfolding list_entries
  lists_nothing l ds left room f written e =
      rw e (record { steps = []; run = refl; bytes = []; gives = refl; all = sym (append-nil written) })

  placed_by : (b : Bool) (d : Listed) (e : Entry ℕ) (undo : List FileCall) (left room room_after : ℕ) (f f_after : F)
      (written written_after : List ℕ) (t : Fit)
      → fit_of (length d.name) (entry_len b (length d.name)) left room ≡ t
      → OnOk (after_entry t left (entry_len b (length d.name))) (written_after ≡ written ++ entry_bytes b e d)
      → OnOk (after_entry t left (entry_len b (length d.name))) (room_after + entry_len b (length d.name) ≡ room)
      → OnOk (after_entry t left (entry_len b (length d.name))) (f_after ≡ f)
      → OnErr (after_entry t left (entry_len b (length d.name))) (written_after ≡ written)
      → OnErr (after_entry t left (entry_len b (length d.name))) (Undone may undo f f_after)
      → PlacedOne may b d e undo left room f written (after_entry t left (entry_len b (length d.name))) room_after f_after written_after
  placed_by b d e undo left room room_after f f_after written written_after FitsIn h w r k s u = λ l ds final error end rest.
      let place : room_after ≡ room - entry_len b (length d.name) = omega (arith, r) in
      record {
        steps = rest.steps;
        run = subst (λ (x : F). FileRun may x rest.steps end) k rest.run;
        bytes = entry_bytes b e d ++ rest.bytes;
        gives = fits_in b d e undo (list_entries l ds) left room (map (λ step. step.1) rest.steps) _ h
            (ap (λ n. list_entries l ds (left - entry_len b (length d.name)) n (map (λ step. step.1) rest.steps)) (sym place) ∙ rest.gives);
        all = rest.all ∙ ap (λ (x : List ℕ). x ++ rest.bytes) w ∙ append_assoc written (entry_bytes b e d) rest.bytes;
      }
  placed_by b d e undo left room room_after f f_after written written_after IsFull h w r k s u = λ l ds.
      record {
        steps = u.0;
        run = u.2;
        bytes = [];
        gives = is_full b d e undo _ (list_entries l ds) left room (map (λ step. step.1) u.0) h u.1;
        all = s ∙ sym (append-nil written);
      }
  placed_by b d e undo left room room_after f f_after written written_after (IsWrong errno) h w r k s u = λ l ds.
      record {
        steps = u.0;
        run = u.2;
        bytes = [];
        gives = is_wrong b d e undo _ (list_entries l ds) left room errno (map (λ step. step.1) u.0) h u.1;
        all = s ∙ sym (append-nil written);
      }

  pub placed_one : (b : Bool) (d : Listed) (e : Entry ℕ) (undo : List FileCall) (left room room_after : ℕ) (f f_after : F)
      (written written_after : List ℕ) (o : AfterEntry)
      → o ≡ after_entry (fit_of (length d.name) (entry_len b (length d.name)) left room) left (entry_len b (length d.name))
      → OnOk o (written_after ≡ written ++ entry_bytes b e d) → OnOk o (room_after + entry_len b (length d.name) ≡ room)
      → OnOk o (f_after ≡ f)
      → OnErr o (written_after ≡ written) → OnErr o (Undone may undo f f_after)
      → PlacedOne may b d e undo left room f written o room_after f_after written_after
  placed_one b d e undo left room room_after f f_after written written_after o is w r k s u =
      subst (λ (x : AfterEntry). PlacedOne may b d e undo left room f written x room_after f_after written_after) (sym is)
      (placed_by b d e undo left room room_after f f_after written written_after
      (fit_of (length d.name) (entry_len b (length d.name)) left room) refl
      (subst (λ (x : AfterEntry). OnOk x (written_after ≡ written ++ entry_bytes b e d)) is w)
      (subst (λ (x : AfterEntry). OnOk x (room_after + entry_len b (length d.name) ≡ room)) is r)
      (subst (λ (x : AfterEntry). OnOk x (f_after ≡ f)) is k)
      (subst (λ (x : AfterEntry). OnErr x (written_after ≡ written)) is s)
      (subst (λ (x : AfterEntry). OnErr x (Undone may undo f f_after)) is u))

  -- an entry without its node
  from_nodeless : (l : ListRequest) (d : Listed) (ds : List Listed) (left room : ℕ) (f end : F) (written final : List ℕ) (error : Option ℕ)
      → l.with_nodes ≡ false
      → PlacedRun may false d (no_node d) [] (list_entries l ds) left room f written final error end
      → ListRun may l (d ∷ ds) left room f written final error end
  unfolding list_entries
  from_nodeless l d ds left room f end written final error plain p =
      record { steps = p.steps; run = p.run; bytes = p.bytes; gives = rw plain p.gives; all = p.all }

  pub nodeless_run : (l : ListRequest) (d : Listed) (left room room_after : ℕ) (f f_after : F) (written written_after : List ℕ)
      (o : AfterEntry) → l.with_nodes ≡ false
      → PlacedOne may false d (no_node d) [] left room f written o room_after f_after written_after
      → EntryRun may l d left room f written o room_after f_after written_after
  nodeless_run l d left room room_after f f_after written written_after (Ok left_after) plain p =
      λ ds final error end rest. from_nodeless l d ds left room f end written final error plain (p l ds final error end rest)
  nodeless_run l d left room room_after f f_after written written_after (Err error) plain p =
      λ ds. from_nodeless l d ds left room f f_after written written_after error plain (p l ds)

  -- `.` and `..`
  from_dot : (l : ListRequest) (d : Listed) (ds : List Listed) (left room : ℕ) (f end : F) (written final : List ℕ) (error : Option ℕ)
      → l.with_nodes ≡ true → is_dot d.name ≡ true
      → PlacedRun may true d (no_node d) (forget_lookup l.context 0 ∷ []) (list_entries l ds) left room f written final error end
      → ListRun may l (d ∷ ds) left room f written final error end
  unfolding list_entries
  from_dot l d ds left room f end written final error nodes dot p =
      record { steps = p.steps; run = p.run; bytes = p.bytes; gives = rw (nodes, dot) p.gives; all = p.all }

  pub dot_run : (l : ListRequest) (d : Listed) (left room room_after : ℕ) (f f_after : F) (written written_after : List ℕ) (o : AfterEntry)
      → l.with_nodes ≡ true → is_dot d.name ≡ true
      → PlacedOne may true d (no_node d) (forget_lookup l.context 0 ∷ []) left room f written o room_after f_after written_after
      → EntryRun may l d left room f written o room_after f_after written_after
  dot_run l d left room room_after f f_after written written_after (Ok left_after) nodes dot p =
      λ ds final error end rest. from_dot l d ds left room f end written final error nodes dot (p l ds final error end rest)
  dot_run l d left room room_after f f_after written written_after (Err error) nodes dot p =
      λ ds. from_dot l d ds left room f f_after written written_after error nodes dot (p l ds)

  -- an entry that is looked up
  from_found : (l : ListRequest) (d : Listed) (e : Entry ℕ) (ds : List Listed) (left room : ℕ) (f between end : F) (written final : List ℕ)
      (error : Option ℕ) → l.with_nodes ≡ true → is_dot d.name ≡ false
      → IsTrue (suits (Lookup l.context l.node d.name) (HasEntry e)) → may f (Lookup l.context l.node d.name) (HasEntry e) between
      → PlacedRun may true d e (forget_lookup l.context e.inode ∷ []) (list_entries l ds) left room between written final error end
      → ListRun may l (d ∷ ds) left room f written final error end
  unfolding list_entries
  from_found l d e ds left room f between end written final error nodes dot fits step p =
      record {
        steps = (Lookup l.context l.node d.name, HasEntry e) ∷ p.steps;
        run = (between, fits, step, p.run);
        bytes = p.bytes;
        gives = rw (nodes, dot) (ap (after_call (Lookup l.context l.node d.name)) p.gives);
        all = p.all;
      }

  pub found_run : (l : ListRequest) (d : Listed) (e : Entry ℕ) (left room room_after : ℕ) (f between f_after : F)
      (written written_after : List ℕ) (o : AfterEntry) → l.with_nodes ≡ true → is_dot d.name ≡ false
      → IsTrue (suits (Lookup l.context l.node d.name) (HasEntry e)) → may f (Lookup l.context l.node d.name) (HasEntry e) between
      → PlacedOne may true d e (forget_lookup l.context e.inode ∷ []) left room between written o room_after f_after written_after
      → EntryRun may l d left room f written o room_after f_after written_after
  found_run l d e left room room_after f between f_after written written_after (Ok left_after) nodes dot fits step p =
      λ ds final error end rest. from_found l d e ds left room f between end written final error nodes dot fits step
      (p l ds final error end rest)
  found_run l d e left room room_after f between f_after written written_after (Err error) nodes dot fits step p =
      λ ds. from_found l d e ds left room f between f_after written written_after error nodes dot fits step (p l ds)

  -- a look-up that failed
  pub unfound_run : (l : ListRequest) (d : Listed) (left room room_after errno : ℕ) (f f_after : F) (written : List ℕ) → l.with_nodes ≡ true
      → is_dot d.name ≡ false
      → IsTrue (suits (Lookup l.context l.node d.name) (Failed errno)) → may f (Lookup l.context l.node d.name) (Failed errno) f_after
      → EntryRun may l d left room f written (Err (Some errno)) room_after f_after written
  unfolding list_entries
  unfound_run l d left room room_after errno f f_after written nodes dot fits step = λ ds.
      record {
        steps = (Lookup l.context l.node d.name, Failed errno) ∷ [];
        run = (f_after, fits, step, refl);
        bytes = [];
        gives = rw (nodes, dot) refl;
        all = sym (append-nil written);
      }
