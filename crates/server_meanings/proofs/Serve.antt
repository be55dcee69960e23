-- How a meaning is served.
use Rattle.std.proofs.Common.{◌≡◌, ◌≤◌, ℕ, Bool, true, false, List, [], ◌∷◌, length, map, Result, Ok, Err, Some, None, refl, ap, sym, ◌∙◌}
use Rattle.std.proofs.Common.{cond, arith, subst}
use Rattle.std.proofs.lemmas.Bool.Decides.{nat_tests}
use Rattle.std.specs.Prelude.{IsTrue, OnOk, nat_lt, ◌-◌, Option}
use Rattle.fuse_fs.specs.Calls.{FileCall, FileAnswer, FileRun, suits, Init, Listed, Failed}
use Rattle.fuse_fs.specs.Calls.{Entries}
use Rattle.server_requests.specs.Reading.{ReadFailure, Faults, Parsed, Parser, and_then, value_of, within}
use Rattle.server_meanings.specs.Grammar.{Meaning, IsFault, Replies, IsSilent, Asks, One, Starts, refused, ended, Lists}
use Rattle.server_replies.specs.WholeReplies.{error_bytes, with_written, whole_or_none, listing_bytes}
use Rattle.server_meanings.specs.Listings.{ListRequest, readdir_call}
use Rattle.server_meanings.specs.ListingRuns.{ListRun}
use Rattle.server_meanings.specs.Serving.{ServedMessage, served, Setting, Serves, Handles, served_of, replied, no_reply, answer_bytes}
use Rattle.server_meanings.specs.Serving.{start_options, undone, all_done}
use Rattle.server_calls.specs.Requests.{options_after, forget_entry}
use Rattle.server_meanings.specs.Serving.{start_answered, lacks_memory, list_ended, list_answered}
use Rattle.server_segments.specs.Errors.{is_memory}
use Rattle.server_segments.specs.declared.error.Error.{Error}
use Rattle.server_segments.specs.declared.error.Error.TheVariants.{EncodeMessage}

returned_by : (t : Bool) (calls : List FileCall) (options : ℕ) (bytes : List ℕ) (result : Result ℕ Error) (written : List ℕ)
    → with_written result written ≡ cond t (Err EncodeMessage) (Ok bytes)
    → cond t (no_reply calls options (Some EncodeMessage)) (record { calls = calls; options = options; reply = bytes; fault = None })
    ≡ served_of calls options result written
returned_by true calls options bytes (Ok n) written e = absurd (cc)
returned_by true calls options bytes (Err f) written e = let same : EncodeMessage ≡ f = cc in ap (λ x. no_reply calls options (Some x)) same
returned_by false calls options bytes (Ok n) written e =
    let same : bytes ≡ written = cc in ap (λ x. record { calls = calls; options = options; reply = x; fault = None }) same
returned_by false calls options bytes (Err f) written e = absurd (cc)

-- what was told is the whole reply, or none
pub returned_replied : (room : ℕ) (calls : List FileCall) (options : ℕ) (bytes : List ℕ) (result : Result ℕ Error) (written : List ℕ)
    → with_written result written ≡ whole_or_none room bytes → replied room calls options bytes ≡ served_of calls options result written
returned_replied room calls options bytes result written e = returned_by (nat_lt room (length bytes)) calls options bytes result written e

memory_by : (t : Bool) (bytes : List ℕ) (e : Error) → Err e ≡ cond t (Err EncodeMessage) (Ok bytes) → lacks_memory (Err e) ≡ false
memory_by true bytes e h = let same : e ≡ EncodeMessage = cc in rw same refl
memory_by false bytes e h = absurd (cc)

pub returned_memory : (room : ℕ) (bytes : List ℕ) (result : Result ℕ Error) (written : List ℕ) →
    with_written result written ≡ whole_or_none room bytes → lacks_memory result ≡ false
returned_memory room bytes (Ok n) written h = refl
returned_memory room bytes (Err e) written h = memory_by (nat_lt room (length bytes)) bytes e h

-- if nothing is to be undone, no call comes after the reply
none_undone : (t : Bool) (undo : List FileCall) → undo ≡ [] → cond t undo [] ≡ []
none_undone true undo e = e
none_undone false undo e = refl

calls_done : (calls : List FileCall) → map (λ step. step.0) (all_done calls) ≡ calls
calls_done [] = refl
calls_done (call ∷ calls) = ap (λ (more : List FileCall). call ∷ more) (calls_done calls)

module _ {F : Type 0} (may : F → FileCall → FileAnswer → F → Type 0) where
  handled : (s : Setting) (m : Meaning) (before : F) (result : Result ℕ Error) (written : List ℕ) (options : ℕ) (after : F)
      → lacks_memory result ≡ false
      → Serves may s m before result written options after → Handles may s m before result written options after
  handled s m before result written options after e h = rw e h

  -- a reply that needs no call
  pub handles_reply :
      (s : Setting) (m : Meaning) (bytes : List ℕ) (before : F) (result : Result ℕ Error) (written : List ℕ) → m ≡ Replies bytes
      → with_written result written ≡ whole_or_none s.room bytes → Handles may s m before result written s.options before
  handles_reply s m bytes before result written e h =
      rw e (handled s (Replies bytes) before result written s.options before (returned_memory s.room bytes result written h)
      (record { steps = []; run = refl; gives = returned_replied s.room [] s.options bytes result written h }))

  -- no call and no reply
  pub handles_silence : (s : Setting) (m : Meaning) (before : F) (result : Result ℕ Error) (written : List ℕ) → m ≡ IsSilent → result ≡ Ok 0
      → written ≡ [] → Handles may s m before result written s.options before
  handles_silence s m before result written e r w =
      rw (e, r, w) (handled s IsSilent before (Ok 0) [] s.options before refl (record { steps = []; run = refl; gives = refl }))

  -- a fault
  pub handles_fault : (s : Setting) (m : Meaning) (e : Error) (before : F) (written : List ℕ) → m ≡ IsFault e → is_memory e ≡ false
      → Handles may s m before (Err e) written s.options before
  handles_fault s m e before written h q =
      rw h (handled s (IsFault e) before (Err e) written s.options before q (record { steps = []; run = refl; gives = refl }))

  refused_by : (t : Bool) (s : Setting) (m : Meaning) (e : Error) (before : F) (written : List ℕ) → is_memory e ≡ t
      → (is_memory e ≡ false → m ≡ IsFault e)
      → Handles may s m before (Err e) written s.options before
  refused_by true s m e before written q h = rw q (refl, refl)
  refused_by false s m e before written q h = handles_fault s m e before written (h q) q

  -- a fault, or an allocation fails and nothing is done
  pub handles_refusal : (s : Setting) (m : Meaning) (e : Error) (before : F) (written : List ℕ) → (is_memory e ≡ false → m ≡ IsFault e)
      → Handles may s m before (Err e) written s.options before
  handles_refusal s m e before written h = refused_by (is_memory e) s m e before written refl h

  -- one call, its reply, and where that has no room, what undoes it
  pub handles_entry : (s : Setting) (m : Meaning) (unique : ℕ) (call : FileCall) (answer : FileAnswer) (undo : List FileCall)
      (before between after : F) (result : Result ℕ Error)
      (written : List ℕ) (options : ℕ) → m ≡ Asks (One unique call) → IsTrue (suits call answer) → may before call answer between
      → options ≡ options_after s.options call → forget_entry call answer ≡ undo
      → FileRun may between (all_done (undone s.room (answer_bytes unique call answer) undo)) after
      → with_written result written ≡ whole_or_none s.room (answer_bytes unique call answer)
      → Handles may s m before result written options after
  handles_entry s m unique call answer undo before between after result written options e fits step o back more h =
      let bytes = answer_bytes unique call answer in
      let calls = undone s.room bytes undo in
      let asked : (call ∷ map (λ step. step.0) (all_done calls)) ≡ call ∷ undone s.room bytes (forget_entry call answer) =
      ap (λ (more : List FileCall). call ∷ more) (calls_done calls ∙ ap (undone s.room bytes) (sym back)) in
      rw (e, o) (handled s (Asks (One unique call)) before result written (options_after s.options call) after
      (returned_memory s.room bytes result written h)
      (record {
        steps = (call, answer) ∷ all_done calls;
        run = (between, fits, step, more);
        gives = rw asked (returned_replied s.room (call ∷ undone s.room bytes (forget_entry call answer)) (options_after s.options call)
            bytes
            result written h);
      }))

  -- one call, and its reply
  pub handles_one :
      (s : Setting) (m : Meaning) (unique : ℕ) (call : FileCall) (answer : FileAnswer) (before after : F) (result : Result ℕ Error)
      (written : List ℕ) (options : ℕ) → m ≡ Asks (One unique call) → IsTrue (suits call answer) → may before call answer after
      → options ≡ options_after s.options call → forget_entry call answer ≡ []
      → with_written result written ≡ whole_or_none s.room (answer_bytes unique call answer)
      → Handles may s m before result written options after
  handles_one s m unique call answer before after result written options e fits step o back h =
      let bytes = answer_bytes unique call answer in
      let none : undone s.room bytes [] ≡ [] = none_undone (nat_lt s.room (length bytes)) [] refl in
      handles_entry s m unique call answer [] before after after result written options e fits step o back (rw none refl) h

  -- one call that was performed as its value says
  pub handles_asked : (s : Setting) (m : Meaning) (unique : ℕ) (made call : FileCall) (before after : F) (result : Result ℕ Error)
      (written : List ℕ) (options : ℕ)
      → m ≡ Asks (One unique call) → made ≡ call → Handles may s (Asks (One unique made)) before result written options after
      → Handles may s m before result written options after
  handles_asked s m unique made call before after result written options e f h = rw (e, ← f) h

  -- the same of any meaning
  pub handles_same :
      (s : Setting) (m n : Meaning) (before : F) (result : Result ℕ Error) (written : List ℕ) (options : ℕ) (after : F) → m ≡ n
      → Handles may s n before result written options after → Handles may s m before result written options after
  handles_same s m n before result written options after e h = rw e h

  -- INIT
  pub handles_start :
      (s : Setting) (m : Meaning) (unique capable readahead : ℕ) (answer : FileAnswer) (before after : F) (result : Result ℕ Error)
      (written : List ℕ) (options : ℕ) → m ≡ Asks (Starts unique capable readahead) → IsTrue (suits (Init capable) answer)
      → may before (Init capable) answer after → options ≡ start_options s.options capable answer
      → with_written result written ≡ whole_or_none s.room (start_answered s.page_size unique capable readahead answer)
      → Handles may s m before result written options after
  handles_start s m unique capable readahead answer before after result written options e fits step o h =
      rw (e, o) (handled s (Asks (Starts unique capable readahead)) before result written (start_options s.options capable answer) after
      (returned_memory s.room (start_answered s.page_size unique capable readahead answer) result written h)
      (record {
        steps = (Init capable, answer) ∷ [];
        run = (after, fits, step, refl);
        gives = returned_replied s.room (Init capable ∷ [])
            (start_options s.options capable answer) (start_answered s.page_size unique capable readahead answer) result written h;
      }))

  -- a listing that went so, and its reply
  pub handles_list : (s : Setting) (m : Meaning) (unique : ℕ) (l : ListRequest) (ds : List Listed) (before between after : F)
      (front final : List ℕ) (error : Option ℕ)
      (result : Result ℕ Error) (written : List ℕ) (options : ℕ) → m ≡ Asks (Lists unique l)
      → may before (readdir_call l) (Entries ds) between
      → (outcome : ListRun may l ds l.size (s.room - 16) between front final error after) → options ≡ s.options
      → with_written result written ≡ whole_or_none s.room (listing_bytes unique l.with_nodes outcome.bytes error)
      → Handles may s m before result written options after
  handles_list s m unique l ds before between after front final error result written options e step outcome o h =
      rw (e, o) (handled s (Asks (Lists unique l)) before result written s.options after
      (returned_memory s.room (listing_bytes unique l.with_nodes outcome.bytes error) result written h)
      (record {
        steps = (readdir_call l, Entries ds) ∷ outcome.steps;
        run = (between, refl, step, outcome.run);
        gives = ap (list_ended s unique l) outcome.gives
            ∙ returned_replied s.room (readdir_call l ∷ map (λ step. step.0) outcome.steps) s.options
            (listing_bytes unique l.with_nodes outcome.bytes error) result written h;
      }))

  -- a directory that isn't listed
  pub handles_unlisted : (s : Setting) (m : Meaning) (unique : ℕ) (l : ListRequest) (errno : ℕ) (before after : F)
      (result : Result ℕ Error) (written : List ℕ) (options : ℕ) → m ≡ Asks (Lists unique l)
      → IsTrue (suits (readdir_call l) (Failed errno))
      → may before (readdir_call l) (Failed errno) after → options ≡ s.options
      → with_written result written ≡ whole_or_none s.room (error_bytes unique errno) → Handles may s m before result written options after
  handles_unlisted s m unique l errno before after result written options e fits step o h =
      rw (e, o) (handled s (Asks (Lists unique l)) before result written s.options after
      (returned_memory s.room (error_bytes unique errno) result written h)
      (record {
        steps = (readdir_call l, Failed errno) ∷ [];
        run = (after, fits, step, refl);
        gives = returned_replied s.room (readdir_call l ∷ []) s.options (error_bytes unique errno) result written h;
      }))

-- what is asked for by what was read
abbrev pub ask_of : {A : Type 0} → ℕ → (A → FileCall) → Result A ReadFailure → Meaning
ask_of unique f (Ok x) = Asks (One unique (f x))
ask_of unique f (Err r) = refused unique r

pub ended_ask : {A : Type 0} (unique : ℕ) (f : A → FileCall) (r : Parsed A) →
    ended unique (and_then r (λ x. Ok (Asks (One unique (f x.0)), x.1))) ≡ ask_of unique f (value_of r)
ended_ask unique f (Ok x) = refl
ended_ask unique f (Err r) = refl

-- what isn't read is a fault
pub ended_fault : {A : Type 0} (unique : ℕ) (f : A × List ℕ → Parsed Meaning) (e : Error) (r : Parsed A) → Err (Faults e) ≡ value_of r →
    ended unique (and_then r f) ≡ IsFault e
ended_fault unique f e (Ok x) h = absurd (cc)
ended_fault unique f e (Err r) h = let same : Faults e ≡ r = cc in ap (refused unique) (sym same)

within_value : {A : Type 0} (others : List ℕ) (r : Parsed A) → value_of (and_then r (λ x. Ok (x.0, others))) ≡ value_of r
within_value others (Ok x) = refl
within_value others (Err e) = refl

-- bytes that were read are read again
pub ended_parts :
    {X A : Type 0} (unique : ℕ) (bytes_of : X → List ℕ) (p : X → Parser A) (f : X → A → FileCall) (r : Parsed X) (x : X) → Ok x ≡ value_of r
    → ended unique (and_then r (λ z. and_then (within (bytes_of z.0) (p z.0) z.1) (λ v. Ok (Asks (One unique (f z.0 v.0)), v.1))))
    ≡ ask_of unique (f x) (value_of (p x (bytes_of x)))
ended_parts unique bytes_of p f (Ok z) x h =
    let same : x ≡ z.0 = cc in
    rw same (ended_ask unique (f z.0) (within (bytes_of z.0) (p z.0) z.1)
    ∙ ap (ask_of unique (f z.0)) (within_value z.1 (p z.0 (bytes_of z.0))))
ended_parts unique bytes_of p f (Err e) x h = absurd (cc)

fits_by : (t : Bool) (room : ℕ) (calls : List FileCall) (options : ℕ) (bytes : List ℕ) → nat_lt room (length bytes) ≡ t
    → length (cond t (no_reply calls options (Some EncodeMessage))
    (record { calls = calls; options = options; reply = bytes; fault = None })).reply ≤ room
fits_by true room calls options bytes e = omega arith
fits_by false room calls options bytes e = grind (arith, nat_tests, e)

replied_fits : (room : ℕ) (calls : List FileCall) (options : ℕ) (bytes : List ℕ) → length (replied room calls options bytes).reply ≤ room
replied_fits room calls options bytes = fits_by (nat_lt room (length bytes)) room calls options bytes refl

list_fits : (s : Setting) (unique : ℕ) (l : ListRequest) (answer : FileAnswer) (answers : List FileAnswer) →
    length (list_answered s unique l answer answers).reply ≤ s.room
list_fits s unique l (Entries ds) answers = replied_fits s.room _ s.options _
list_fits s unique l (Failed errno) answers = replied_fits s.room _ s.options _
list_fits s unique l _ answers = omega arith

-- no reply is longer than the room
pub served_fits : (s : Setting) (m : Meaning) (answers : List FileAnswer) → length (served s m answers).reply ≤ s.room
served_fits s (Replies bytes) answers = replied_fits s.room [] s.options bytes
served_fits s (Asks (One unique call)) (answer ∷ answers) =
    replied_fits s.room _ (options_after s.options call) (answer_bytes unique call answer)
served_fits s (Asks (Starts unique capable readahead)) (answer ∷ answers) =
    replied_fits s.room (Init capable ∷ []) (start_options s.options capable answer)
    (start_answered s.page_size unique capable readahead answer)
served_fits s (Asks (Lists unique l)) (answer ∷ answers) = list_fits s unique l answer answers
served_fits s _ _ = omega arith

pub handles_fits :
    {F : Type 0} (may : F → FileCall → FileAnswer → F → Type 0) (s : Setting) (m : Meaning) (before : F) (result : Result ℕ Error)
    (written : List ℕ) (options : ℕ) (after : F) → Handles may s m before result written options after →
    OnOk result (length written ≤ s.room)
handles_fits may s m before (Ok n) written options after h =
    let same : (served s m (map (λ step. step.1) h.steps)).reply ≡ written = ap (λ (x : ServedMessage). x.reply) h.gives in
    subst (λ b. length b ≤ s.room) same (served_fits s m (map (λ step. step.1) h.steps))
handles_fits may s m before (Err e) written options after h = tt
