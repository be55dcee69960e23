-- The calls of a listing with an entry that isn't added are the first ones that are served.
use Rattle.std.proofs.Common.{◌≡◌, ℕ, Bool, List, [], ◌∷◌, ◌++◌, length, None, append_assoc, append-nil, refl, sym, ap, ◌∙◌, arith, ◌-◌}
use Rattle.fuse_fs.specs.Calls.{Done, Entries, FileAnswer, FileCall, Forget, HasEntry, Listed, Lookup}
use Rattle.server_replies.specs.Entries.{EIO, EOVERFLOW}
use Rattle.server_meanings.specs.Grammar.{Asks, Lists}
use Rattle.server_meanings.specs.Listings as asked
use Rattle.server_meanings.specs.Listings.{ListingResult, list_entries, readdir_call}
use Rattle.server_meanings.specs.Serving.{ServedMessage, Setting, served}
use Rattle.server_phases.specs.Gathering.{Brought, Holds, IsListingFor, all_bytes, all_found, entries_of, forget_listed, found_of}
use Rattle.server_phases.specs.Gathering.{is_looked_up, look_up, look_ups, node_of}
use Rattle.server_phases.specs.declared.listing.Listing.{Listing}
use Rattle.server_phases.specs.declared.listing.NotAdded.TheVariants as not_added
use Rattle.server_phases.proofs.Gathered.{listed_all}
use Rattle.fs_chain.specs.Listings.{Adds}
use Rattle.fs_chain.specs.ListingCalls.{all_looked_up, looked_up, node_back}
use Rattle.fs_chain.specs.declared.listing.AddOutcome.{AddOutcome}
use Rattle.fs_chain.specs.declared.listing.AddOutcome.TheVariants as added
use Rattle.fs_chain.proofs.ListingEntries.{outcome_of}
use Rattle.plain_machine.specs.Step.{Calls, answers_alone, calls_alone}
use Rattle.fs_chain.specs.HoldsListings.{IsLeftOut, calls_left_out}
use Rattle.fs_chain.proofs.SoFar.{AreServedFirst, answers_both, calls_both, ended_calls, found_answers, found_calls, one_answer, one_call}

-- by the entries that were added, no call waits
added_served : (s : Setting) (l : Listing) (unique : ℕ) (a : asked.ListRequest) (list : List ℕ) (es : List Brought)
    → IsListingFor l s.room (Lists unique a) → Holds l list es
    → (served s (Asks (Lists unique a)) (Entries (entries_of es) ∷ all_found a.with_nodes es)).calls
    ≡ readdir_call a ∷ look_ups (Lists unique a) es
unfolding list_entries
added_served s l unique a list es is holds =
    let b = a.with_nodes in
    let bytes = all_bytes b es in
    let long : l.len ≡ length bytes = holds.long ∙ ap (λ (b : Bool). length (all_bytes b es)) is.1 in
    let size : l.size ≡ a.size = is.2 in
    let room : l.room ≡ s.room - 16 = is.3 in
    let small = l.small in
    let asked_for = l.asked in
    let fits = l.fits in
    let none : ListingResult = record { calls = []; bytes = []; error = None } in
    let all = listed_all unique a es [] a.size (s.room - 16) [] none (omega (arith, long, size, asked_for))
    (omega (arith, long, room, fits)) (omega (arith, long, small, asked_for)) refl in
    let here : list_entries a (entries_of es) a.size (s.room - 16) (all_found b es)
    ≡ record { calls = look_ups (Lists unique a) es; bytes = bytes; error = None } = simp append-nil at all in
    ended_calls s unique a (list_entries a (entries_of es) a.size (s.room - 16) (all_found b es))
    ∙ ap (λ (x : ListingResult). readdir_call a ∷ x.calls) here

three_calls : (x y z : Calls) → calls_alone ((x ++ y) ++ z) ≡ calls_alone x ++ (calls_alone y ++ calls_alone z)
three_calls x y z =
    ap calls_alone (append_assoc x y z) ∙ calls_both x (y ++ z)
    ∙ ap (λ (k : List FileCall). calls_alone x ++ k) (calls_both y z)

three_answers : (x y z : Calls) → answers_alone ((x ++ y) ++ z) ≡ answers_alone x ++ (answers_alone y ++ answers_alone z)
three_answers x y z =
    ap answers_alone (append_assoc x y z) ∙ answers_both x (y ++ z)
    ∙ ap (λ (k : List FileAnswer). answers_alone x ++ k) (answers_both y z)

module _ (s : Setting) (l : Listing) (unique : ℕ) (a : asked.ListRequest) (list : List ℕ) (es : List Brought) (e : Brought)
    (others : List Listed) (is : IsListingFor l s.room (Lists unique a)) (holds : Holds l list es) where
  abbrev back : Calls
  back = node_back (readdir_call a) a.with_nodes e

  -- the calls and answers of the entries that were added, and of the one that isn't
  abbrev out_calls : List FileCall
  out_calls = look_ups (Lists unique a) es ++ (look_up (Lists unique a) e.0 ++ forget_listed (Lists unique a) e)

  abbrev out_answers : (with_nodes : Bool) → List FileAnswer
  out_answers b = all_found b es ++ (found_of b e ++ answers_alone back)

  calls_are : calls_alone (calls_left_out (readdir_call a) a.with_nodes es e others) ≡ readdir_call a ∷ out_calls
  calls_are =
      let looked = looked_up (readdir_call a) a.with_nodes e.0 (HasEntry e.1) in
      ap (λ (k : List FileCall). readdir_call a ∷ k)
      (three_calls (all_looked_up (readdir_call a) a.with_nodes es) looked back
      ∙ ap (λ (k : List FileCall). k ++ (calls_alone looked ++ calls_alone back)) (found_calls unique a es)
      ∙ ap (λ (k : List FileCall). look_ups (Lists unique a) es ++ (k ++ calls_alone back))
      (one_call (is_looked_up a.with_nodes e.0) (Lookup a.context a.node e.0.name) (HasEntry e.1))
      ∙ ap (λ (k : List FileCall). look_ups (Lists unique a) es ++ (look_up (Lists unique a) e.0 ++ k))
      (one_call a.with_nodes (Forget a.context (node_of e).inode 1) Done))

  answers_are : answers_alone (calls_left_out (readdir_call a) a.with_nodes es e others)
      ≡ Entries (entries_of es ++ e.0 ∷ others) ∷ out_answers a.with_nodes
  answers_are =
      let looked = looked_up (readdir_call a) a.with_nodes e.0 (HasEntry e.1) in
      ap (λ (k : List FileAnswer). Entries (entries_of es ++ e.0 ∷ others) ∷ k)
      (three_answers (all_looked_up (readdir_call a) a.with_nodes es) looked back
      ∙ ap (λ (k : List FileAnswer). k ++ (answers_alone looked ++ answers_alone back)) (found_answers unique a es)
      ∙ ap (λ (k : List FileAnswer). all_found a.with_nodes es ++ (k ++ answers_alone back))
      (one_answer (is_looked_up a.with_nodes e.0) (Lookup a.context a.node e.0.name) (HasEntry e.1)))

  out_served : (served s (Asks (Lists unique a)) (Entries (entries_of es ++ e.0 ∷ others) ∷ out_answers l.with_nodes)).calls
      ≡ readdir_call a ∷ out_calls
      → AreServedFirst s (Asks (Lists unique a)) (calls_left_out (readdir_call a) a.with_nodes es e others)
  out_served so = (
    [],
    ap (λ (k : List FileAnswer). (served s (Asks (Lists unique a)) k).calls) answers_are
        ∙ ap (λ (b : Bool). (served s (Asks (Lists unique a)) (Entries (entries_of es ++ e.0 ∷ others) ∷ out_answers b)).calls) (sym is.1)
        ∙ so ∙ sym calls_are
        ∙ sym (append-nil (calls_alone (calls_left_out (readdir_call a) a.with_nodes es e others))),
  )

  pub left_out_served : (why : AddOutcome) → IsLeftOut why l list e
      → AreServedFirst s (Asks (Lists unique a)) (calls_left_out (readdir_call a) a.with_nodes es e others)
  left_out_served added.In left = absurd left
  left_out_served added.Full left =
      let full = left s (Lists unique a) es others (answers_alone back) is holds in
      out_served
      (ap (λ (k : ServedMessage). k.calls) full
      ∙ ap (λ (b : Bool). (served s (Asks (Lists unique a)) (Entries (entries_of es) ∷ all_found b es)).calls
      ++ (look_up (Lists unique a) e.0 ++ forget_listed (Lists unique a) e)) is.1
      ∙ ap (λ (k : List FileCall). k ++ (look_up (Lists unique a) e.0 ++ forget_listed (Lists unique a) e))
      (added_served s l unique a list es is holds))
  left_out_served _ left =
      out_served (ap (λ (k : ServedMessage). k.calls) (left s (Lists unique a) es others (answers_alone back) is holds))

-- what is said of an entry that isn't added
pub left_so : (l now : Listing) (list list' : List ℕ) (e : Brought) (why : AddOutcome) → Adds l now list list' e (outcome_of why)
    → (why ≡ added.In → ⊥) → IsLeftOut why l list e
left_so l now list list' e added.In adds isnt = absurd (isnt refl)
left_so l now list list' e added.Full adds isnt = adds.full refl
left_so l now list list' e added.NoRoom adds isnt = adds.fails not_added.NoRoom EIO refl refl
left_so l now list list' e added.TooLong adds isnt = adds.fails not_added.TooLong EOVERFLOW refl refl
