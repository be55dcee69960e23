-- The calls of a listing that gathers entries are the first ones that are served.
use Rattle.std.proofs.Common.{◌≡◌, ℕ, Bool, true, false, not, ◌&&◌, List, [], ◌∷◌, ◌++◌, length, Option, Some, None, append_assoc, ◌-◌}
use Rattle.std.proofs.Common.{nat_lt, if◌then◌else◌, refl, sym, ap, ◌∙◌, arith}
use Rattle.std.proofs.lemmas.List.{map-append}
use Rattle.fuse_fs.specs.Calls.{Entries, FileAnswer, FileCall, HasEntry, Listed, Lookup}
use Rattle.server_replies.specs.Entries.{is_dot, no_node}
use Rattle.server_meanings.specs.Grammar.{Asks, Lists, Meaning}
use Rattle.server_meanings.specs.Listings as asked
use Rattle.server_meanings.specs.Listings.{ListingResult, after_call, forget_lookup, list_entries, readdir_call, with_entry}
use Rattle.server_meanings.specs.Serving.{Setting, list_ended, replied, served}
use Rattle.server_phases.specs.Gathering.{Brought, Holds, IsListingFor, all_bytes, all_found, entries_of, is_looked_up, look_up, look_ups}
use Rattle.server_phases.specs.declared.listing.Listing.{Listing}
use Rattle.server_phases.proofs.Gathered.{listed_all}
use Rattle.fs_chain.specs.ListingCalls.{all_looked_up, looked_up, calls_so_far, next_looked_up}
use Rattle.plain_machine.specs.Step.{Calls, answers_alone, calls_alone}

-- these calls, with their answers, are the first ones that are served of a meaning
abbrev pub AreServedFirst : Setting → Meaning → Calls → Type 0
AreServedFirst s m calls = (more : List FileCall) × ((served s m (answers_alone calls)).calls ≡ calls_alone calls ++ more)

-- ---- look-ups

pub calls_both : (xs ys : Calls) → calls_alone (xs ++ ys) ≡ calls_alone xs ++ calls_alone ys
calls_both xs ys = map-append (λ (step : FileCall × FileAnswer). step.0) xs ys

pub answers_both : (xs ys : Calls) → answers_alone (xs ++ ys) ≡ answers_alone xs ++ answers_alone ys
answers_both xs ys = map-append (λ (step : FileCall × FileAnswer). step.1) xs ys

pub one_call : (b : Bool) (call : FileCall) (answer : FileAnswer) →
    calls_alone (if b then (call, answer) ∷ [] else []) ≡ (if b then call ∷ [] else [])
one_call true call answer = refl
one_call false call answer = refl

pub one_answer : (b : Bool) (call : FileCall) (answer : FileAnswer) →
    answers_alone (if b then (call, answer) ∷ [] else []) ≡ (if b then answer ∷ [] else [])
one_answer true call answer = refl
one_answer false call answer = refl

module _ (unique : ℕ) (a : asked.ListRequest) where
  pub found_calls : (es : List Brought) → calls_alone (all_looked_up (readdir_call a) a.with_nodes es) ≡ look_ups (Lists unique a) es
  found_calls [] = refl
  found_calls (e ∷ es) =
      calls_both (looked_up (readdir_call a) a.with_nodes e.0 (HasEntry e.1)) (all_looked_up (readdir_call a) a.with_nodes es)
      ∙ ap (λ (x : List FileCall). x ++ calls_alone (all_looked_up (readdir_call a) a.with_nodes es))
      (one_call (is_looked_up a.with_nodes e.0) (Lookup a.context a.node e.0.name) (HasEntry e.1))
      ∙ ap (λ (x : List FileCall). look_up (Lists unique a) e.0 ++ x) (found_calls es)

  pub found_answers : (es : List Brought) → answers_alone (all_looked_up (readdir_call a) a.with_nodes es) ≡ all_found a.with_nodes es
  found_answers [] = refl
  found_answers (e ∷ es) =
      answers_both (looked_up (readdir_call a) a.with_nodes e.0 (HasEntry e.1)) (all_looked_up (readdir_call a) a.with_nodes es)
      ∙ ap (λ (x : List FileAnswer). x ++ answers_alone (all_looked_up (readdir_call a) a.with_nodes es))
      (one_answer (is_looked_up a.with_nodes e.0) (Lookup a.context a.node e.0.name) (HasEntry e.1))
      ∙ ap (λ (x : List FileAnswer). (if is_looked_up a.with_nodes e.0 then HasEntry e.1 ∷ [] else []) ++ x) (found_answers es)

-- ---- the entries behind those that were added

both : (b dot : Bool) → (b && not dot) ≡ true → (b ≡ true) × (dot ≡ false)
both true false is = (refl, refl)
both _ _ is = absurd (cc)

pick : (b dot : Bool) (x y z : ListingResult) → b ≡ true → dot ≡ false → (if not b then x else if dot then y else z) ≡ z
pick true false x y z nodes is = refl
pick _ _ x y z nodes is = absurd (cc)

-- the first of them is looked up before anything else of it is known
first_looked : (a : asked.ListRequest) (d : Listed) (others : List Listed) (left room : ℕ) (answers : List FileAnswer)
    → a.with_nodes ≡ true → is_dot d.name ≡ false
    → (list_entries a (d ∷ others) left room answers).calls
    ≡ Lookup a.context a.node d.name ∷ (asked.looked_up a d (list_entries a others) left room answers).calls
unfolding list_entries
first_looked a d others left room answers nodes dot =
    let next = list_entries a others in
    ap (λ (w : ListingResult). w.calls)
    (pick a.with_nodes (is_dot d.name) (with_entry false d (no_node d) [] next left room answers)
    (with_entry true d (no_node d) (forget_lookup a.context 0 ∷ []) next left room answers)
    (after_call (Lookup a.context a.node d.name) (asked.looked_up a d next left room answers)) nodes dot)

-- what is served of them, after these calls
abbrev IsServedFirst : asked.ListRequest → List Listed → (left room : ℕ) → Calls → Type 0
IsServedFirst a others left room calls =
    (more : List FileCall) × ((list_entries a others left room (answers_alone calls)).calls ≡ calls_alone calls ++ more)

by_looked : (a : asked.ListRequest) (d : Listed) (others : List Listed) (left room : ℕ) (answer : FileAnswer) (b : Bool)
    → is_looked_up a.with_nodes d ≡ b
    → IsServedFirst a (d ∷ others) left room (if b then (Lookup a.context a.node d.name, answer) ∷ [] else [])
by_looked a d others left room answer false is = ((list_entries a (d ∷ others) left room []).calls, refl)
by_looked a d others left room answer true is =
    let so = both a.with_nodes (is_dot d.name) is in (
      (asked.looked_up a d (list_entries a others) left room (answer ∷ [])).calls,
      first_looked a d others left room (answer ∷ []) so.0 so.1,
    )

next_served : (a : asked.ListRequest) (others : List Listed) (next : Option FileAnswer) (left room : ℕ)
    → IsServedFirst a others left room (next_looked_up (readdir_call a) a.with_nodes others next)
next_served a [] next left room = ((list_entries a [] left room []).calls, refl)
next_served a (d ∷ others) None left room = ((list_entries a (d ∷ others) left room []).calls, refl)
next_served a (d ∷ others) (Some answer) left room =
    by_looked a d others left room answer (is_looked_up a.with_nodes d) refl

-- ---- the listing

pub by_room : (room : ℕ) (calls : List FileCall) (o : ℕ) (bytes : List ℕ) (b : Bool) → nat_lt room (length bytes) ≡ b →
    (replied room calls o bytes).calls ≡ calls
by_room room calls o bytes true is = rw is refl
by_room room calls o bytes false is = rw is refl

pub ended_calls : (s : Setting) (unique : ℕ) (a : asked.ListRequest) (w : ListingResult) →
    (list_ended s unique a w).calls ≡ readdir_call a ∷ w.calls
ended_calls s unique a w = by_room s.room (readdir_call a ∷ w.calls) s.options _ (nat_lt s.room (length _)) refl

pub so_far_served : (s : Setting) (l : Listing) (unique : ℕ) (a : asked.ListRequest) (list : List ℕ) (es : List Brought)
    (others : List Listed) (next : Option FileAnswer) → IsListingFor l s.room (Lists unique a) → Holds l list es
    → AreServedFirst s (Asks (Lists unique a)) (calls_so_far (readdir_call a) a.with_nodes es others next)
so_far_served s l unique a list es others next is holds =
    let b = a.with_nodes in
    let found = all_looked_up (readdir_call a) b es in
    let tail = next_looked_up (readdir_call a) b others next in
    let bytes = all_bytes b es in
    let long : l.len ≡ length bytes = holds.long ∙ ap (λ (b : Bool). length (all_bytes b es)) is.1 in
    let size : l.size ≡ a.size = is.2 in
    let room : l.room ≡ s.room - 16 = is.3 in
    let small = l.small in
    let asked_for = l.asked in
    let fits = l.fits in
    let left = a.size - length bytes in
    let place = s.room - 16 - length bytes in
    let w = list_entries a others left place (answers_alone tail) in
    let all = listed_all unique a es others a.size (s.room - 16) (answers_alone tail) w (omega (arith, long, size, asked_for))
    (omega (arith, long, room, fits)) (omega (arith, long, small, asked_for)) refl in
    let more = next_served a others next left place in
    let answers_are : answers_alone (found ++ tail) ≡ all_found b es ++ answers_alone tail =
    answers_both found tail ∙ ap (λ (x : List FileAnswer). x ++ answers_alone tail) (found_answers unique a es) in
    let calls_are : calls_alone (found ++ tail) ≡ look_ups (Lists unique a) es ++ calls_alone tail =
    calls_both found tail ∙ ap (λ (x : List FileCall). x ++ calls_alone tail) (found_calls unique a es) in (
      more.0,
      ap (λ (x : List FileAnswer). (served s (Asks (Lists unique a)) (Entries (entries_of es ++ others) ∷ x)).calls) answers_are
          ∙ ap (λ (x : ListingResult). (list_ended s unique a x).calls) all
          ∙ ended_calls s unique a _
          ∙ ap (λ (x : List FileCall). readdir_call a ∷ (look_ups (Lists unique a) es ++ x)) more.1
          ∙ ap (λ (x : List FileCall). readdir_call a ∷ x) (sym (append_assoc (look_ups (Lists unique a) es) (calls_alone tail) more.0))
          ∙ ap (λ (x : List FileCall). readdir_call a ∷ (x ++ more.0)) (sym calls_are),
    )
