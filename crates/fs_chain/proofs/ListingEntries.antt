-- A listing whose entries are brought one by one: what was told of each, and what the plain machine's server says of its calls.
use Rattle.std.proofs.Common.{◌≡◌, ℕ, ◌-◌, ◌≤◌, ◌<◌, Bool, true, false, List, [], ◌∷◌, ◌++◌, length, take, min, Option, Some, None, Result}
use Rattle.std.proofs.Common.{Ok, Err, inl, inr, refl, subst, sym, ap, ◌∙◌, arith, append-nil, length-append}
use Rattle.std.specs.Prelude.{◌⊎◌, ◌&&◌, not, nat_lt, if◌then◌else◌}
use Rattle.std.proofs.lemmas.Bool.{le-ltb, lt-ltb}
use Rattle.std.proofs.lemmas.List.{length-take, map-append, take_at}
use Rattle.fuse_fs.specs.Calls.{FileCall, FileAnswer, Listed, Lookup, Forget, HasEntry, Entries, Failed, Done}
use Rattle.server_replies.specs.Entries.{is_dot}
use Rattle.server_replies.specs.WholeReplies.{reply_bytes, listing_bytes}
use Rattle.server_replies.proofs.ReplyLemmas.{length_reply}
use Rattle.server_meanings.specs.Grammar.{FileCommand, Lists}
use Rattle.server_meanings.specs.Listings as asked
use Rattle.server_meanings.specs.Listings.{ListingResult, list_entries, readdir_call}
use Rattle.server_meanings.specs.Serving.{Setting, ServedMessage, commanded, list_ended, replied}
use Rattle.server_phases.specs.declared.listing.Listing.{Listing}
use Rattle.server_phases.specs.declared.listing.ListingReply.{ListingReply}
use Rattle.server_phases.specs.declared.listing.NotAdded as reason
use Rattle.server_phases.specs.declared.listing.NotAdded.TheVariants as not_added
use Rattle.server_phases.specs.Gathering.{Brought, EndsList, FailsList, Holds, IsListingFor, added_found, added_plain, all_bytes, all_found}
use Rattle.server_phases.specs.Gathering.{bytes_of, entries_of, found_of, is_looked_up, look_up, look_ups, forget_listed, node_of}
use Rattle.server_phases.proofs.Gathered.{length_entry, listed_all}
use Rattle.fs_chain.specs.declared.error.ChainError.{ChainError}
use Rattle.fs_chain.specs.declared.listing.AddOutcome.{AddOutcome}
use Rattle.fs_chain.specs.declared.listing.AddOutcome.TheVariants as added
use Rattle.fs_chain.specs.declared.state.InFlight.{InFlight}
use Rattle.fs_chain.specs.declared.state.ChainState as state
use Rattle.fs_chain.specs.declared.state.ChainState.TheVariants as at
use Rattle.fs_chain.specs.declared.chain_handle.ChainHandle.{ChainHandle}
use Rattle.fs_chain.specs.Listings.{Adds, AddsTo, IsFailedReply, IsListReply, added_of}
use Rattle.plain_machine.specs.Step.{Calls, answers_alone, calls_alone}
use Rattle.fs_chain.specs.ListingCalls.{EndsThere, FailsAt, FullAt, NotFound}
use Rattle.fs_chain.specs.ListingCalls.{all_looked_up, listing_calls, looked_up, node_back, unreadable_calls}
use Rattle.fs_chain.specs.Walks.{IsAllButPlace}

-- ---- what was told of an entry

-- the caller adds an entry, with or without its node, to the listing that is being answered, in a list of
-- the caller's; the answer to it is `result`
abbrev pub BringsEntry : ChainHandle → (list : List ℕ) → Brought → Result AddOutcome ChainError → ChainHandle →
    (list' : List ℕ) → Type 0
BringsEntry w list e result w' list' =
    (AddsTo w.state w'.state list list' e (λ l. added_plain l (length list) (length e.0.name)) result
    ⊎ AddsTo w.state w'.state list list' e (λ l. added_found l (length list) (length e.0.name)) result)
    × IsAllButPlace w w'

abbrev pub AddedOutcome : Type 0
AddedOutcome = Result (Unit {0}) reason.NotAdded

-- why it isn't in, if it isn't
abbrev pub outcome_of : AddOutcome → AddedOutcome
outcome_of added.In = Ok tt
outcome_of added.Full = Err not_added.Full
outcome_of added.NoRoom = Err not_added.NoRoom
outcome_of added.TooLong = Err not_added.TooLong

abbrev outcome_in : Result AddOutcome ChainError → AddedOutcome
outcome_in (Ok a) = outcome_of a
outcome_in (Err e) = Err not_added.OtherKind

outcome_is : (r : AddedOutcome) (a : AddOutcome) → Ok a ≡ added_of r → r ≡ outcome_of a
outcome_is (Err not_added.OtherKind) a result = absurd (cc)
outcome_is (Err not_added.ShortList) a result = absurd (cc)
outcome_is r a result = sym (ap outcome_in result)

-- an entry was brought to a listing, of which this was told
abbrev pub IsBrought : InFlight → Listing → (new : state.ChainState) → (list list' : List ℕ) → Brought → AddOutcome → Type 0
IsBrought out l new list list' e a = (now : Listing) × (new ≡ at.Listing out now) × Adds l now list list' e (outcome_of a)

brought_by : (st new : state.ChainState) (list list' : List ℕ) (e : Brought) (a : AddOutcome) (out : InFlight) (l : Listing)
    (outcome : Listing
    → AddedOutcome) → st ≡ at.Listing out l
    → AddsTo st new list list' e outcome (Ok a) → IsBrought out l new list list' e a
brought_by st new list list' e a out l outcome is adds =
    let there : AddsTo (at.Listing out l) new list list' e outcome (Ok a) =
    subst (λ (s : state.ChainState). AddsTo s new list list' e outcome (Ok a)) is adds in
    (there.1.0, there.1.1, subst (λ (r : AddedOutcome). Adds l there.1.0 list list' e r) (outcome_is (outcome l) a there.0) there.1.2)

brought_either :
    (st new : state.ChainState) (list list' : List ℕ) (e : Brought) (a : AddOutcome) (out : InFlight) (l : Listing) → st ≡ at.Listing out l
    → (AddsTo st new list list' e (λ l. added_plain l (length list) (length e.0.name)) (Ok a)
    ⊎ AddsTo st new list list' e (λ l. added_found l (length list) (length e.0.name)) (Ok a)) → IsBrought out l new list list' e a
brought_either st new list list' e a out l is (inl plain) =
    brought_by st new list list' e a out l (λ l. added_plain l (length list) (length e.0.name)) is plain
brought_either st new list list' e a out l is (inr found) =
    brought_by st new list list' e a out l (λ l. added_found l (length list) (length e.0.name)) is found

pub brought : (w w' : ChainHandle) (list list' : List ℕ) (e : Brought) (a : AddOutcome) (out : InFlight) (l : Listing) →
    w.state ≡ at.Listing out l
    → BringsEntry w list e (Ok a) w' list'
    → IsBrought out l w'.state list list' e a
brought w w' list list' e a out l is brings = brought_either w.state w'.state list list' e a out l is brings.0

-- one that isn't in leaves the listing as it was
pub stays_so : (w w' : ChainHandle) (list list' : List ℕ) (e : Brought) (a : AddOutcome) (out : InFlight) (l : Listing)
    (why : reason.NotAdded)
    → outcome_of a ≡ Err why
    → IsBrought out l w'.state list list' e a → (w'.state ≡ at.Listing out l)
stays_so w w' list list' e a out l why isnt one = one.1 ∙ ap (λ (k : Listing). at.Listing out k) (one.2.same why isnt).0

-- ---- the calls and their answers

one_call :
    (x : Bool) (call : FileCall) (answer : FileAnswer) → calls_alone (if x then (call, answer) ∷ [] else []) ≡ (if x then call ∷ [] else [])
one_call true call answer = refl
one_call false call answer = refl

one_answer : (x : Bool) (call : FileCall) (answer : FileAnswer) →
    answers_alone (if x then (call, answer) ∷ [] else []) ≡ (if x then answer ∷ [] else [])
one_answer true call answer = refl
one_answer false call answer = refl

calls_both : (a b : Calls) → calls_alone (a ++ b) ≡ calls_alone a ++ calls_alone b
calls_both a b = map-append (λ (step : FileCall × FileAnswer). step.0) a b

answers_both : (a b : Calls) → answers_alone (a ++ b) ≡ answers_alone a ++ answers_alone b
answers_both a b = map-append (λ (step : FileCall × FileAnswer). step.1) a b

-- of the directory that a command lists
module _ (unique : ℕ) (a : asked.ListRequest) where
  abbrev call : FileCall
  call = readdir_call a

  found_call : (d : Listed) (answer : FileAnswer) → calls_alone (looked_up call a.with_nodes d answer) ≡ look_up (Lists unique a) d
  found_call d answer = one_call (is_looked_up a.with_nodes d) (Lookup a.context a.node d.name) answer

  found_answer : (d : Listed) (answer : FileAnswer)
      → answers_alone (looked_up call a.with_nodes d answer) ≡ (if is_looked_up a.with_nodes d then answer ∷ [] else [])
  found_answer d answer = one_answer (is_looked_up a.with_nodes d) (Lookup a.context a.node d.name) answer

  found_calls : (es : List Brought) → calls_alone (all_looked_up call a.with_nodes es) ≡ look_ups (Lists unique a) es
  found_calls [] = refl
  found_calls (e ∷ es) =
      calls_both (looked_up call a.with_nodes e.0 (HasEntry e.1)) (all_looked_up call a.with_nodes es)
      ∙ ap (λ (x : List FileCall). x ++ calls_alone (all_looked_up call a.with_nodes es)) (found_call e.0 (HasEntry e.1))
      ∙ ap (λ (x : List FileCall). look_up (Lists unique a) e.0 ++ x) (found_calls es)

  found_answers : (es : List Brought) → answers_alone (all_looked_up call a.with_nodes es) ≡ all_found a.with_nodes es
  found_answers [] = refl
  found_answers (e ∷ es) =
      answers_both (looked_up call a.with_nodes e.0 (HasEntry e.1)) (all_looked_up call a.with_nodes es)
      ∙ ap (λ (x : List FileAnswer). x ++ answers_alone (all_looked_up call a.with_nodes es)) (found_answer e.0 (HasEntry e.1))
      ∙ ap (λ (x : List FileAnswer). found_of a.with_nodes e ++ x) (found_answers es)

  -- the calls behind the entries that are in
  behind_calls : (es : List Brought) (more : Calls) (calls : List FileCall) → calls_alone more ≡ calls
      → calls_alone (all_looked_up call a.with_nodes es ++ more) ≡ look_ups (Lists unique a) es ++ calls
  behind_calls es more calls is =
      calls_both (all_looked_up call a.with_nodes es) more ∙ ap (λ (x : List FileCall). x ++ calls_alone more) (found_calls es)
      ∙ ap (λ (x : List FileCall). look_ups (Lists unique a) es ++ x) is

  behind_answers : (es : List Brought) (more : Calls) (answers : List FileAnswer) → answers_alone more ≡ answers
      → answers_alone (all_looked_up call a.with_nodes es ++ more) ≡ all_found a.with_nodes es ++ answers
  behind_answers es more answers is =
      answers_both (all_looked_up call a.with_nodes es) more ∙ ap (λ (x : List FileAnswer). x ++ answers_alone more) (found_answers es)
      ∙ ap (λ (x : List FileAnswer). all_found a.with_nodes es ++ x) is

  -- of one that isn't in: its look-up, and its node is given back
  abbrev out_steps : Brought → Calls
  out_steps e = looked_up call a.with_nodes e.0 (HasEntry e.1) ++ node_back call a.with_nodes e

  out_calls : (e : Brought) → calls_alone (looked_up call a.with_nodes e.0 (HasEntry e.1) ++ node_back call a.with_nodes e)
      ≡ look_up (Lists unique a) e.0 ++ forget_listed (Lists unique a) e
  out_calls e =
      calls_both (looked_up call a.with_nodes e.0 (HasEntry e.1)) (node_back call a.with_nodes e)
      ∙ ap (λ (x : List FileCall). x ++ calls_alone (node_back call a.with_nodes e)) (found_call e.0 (HasEntry e.1))
      ∙ ap (λ (x : List FileCall). look_up (Lists unique a) e.0 ++ x) (one_call a.with_nodes (Forget a.context (node_of e).inode 1) Done)

  out_answers : (e : Brought) → answers_alone (looked_up call a.with_nodes e.0 (HasEntry e.1) ++ node_back call a.with_nodes e)
      ≡ found_of a.with_nodes e ++ answers_alone (node_back call a.with_nodes e)
  out_answers e =
      answers_both (looked_up call a.with_nodes e.0 (HasEntry e.1)) (node_back call a.with_nodes e)
      ∙ ap (λ (x : List FileAnswer). x ++ answers_alone (node_back call a.with_nodes e)) (found_answer e.0 (HasEntry e.1))

-- ---- what is served

abbrev by_reply : List FileCall → ℕ → List ℕ → ServedMessage
by_reply calls options reply = record { calls = calls; options = options; reply = reply; fault = None }

-- a command is served by these calls and their answers, with this reply
abbrev pub ServedBy : Setting → FileCommand → Calls → (reply : List ℕ) → Type 0
ServedBy s command steps reply =
    commanded s command (answers_alone steps) ≡ record { calls = calls_alone steps; options = s.options; reply = reply; fault = None }

served_so : (s : Setting) (command : FileCommand) (steps : Calls) (answers : List FileAnswer) (calls : List FileCall) (reply : List ℕ)
    → answers_alone steps ≡ answers → calls_alone steps ≡ calls
    → commanded s command answers ≡ by_reply calls s.options reply → ServedBy s command steps reply
served_so s command steps answers calls reply answers_are calls_are is =
    ap (λ (x : List FileAnswer). commanded s command x) answers_are ∙ is
    ∙ ap (λ (x : List FileCall). by_reply x s.options reply) (sym calls_are)

abbrev yielded : List FileCall → List ℕ → Option ℕ → ListingResult
yielded calls bytes error = record { calls = calls; bytes = bytes; error = error }

-- an entry that isn't found ends a listing, whatever is behind it
first_missing : (unique errno : ℕ) (a : asked.ListRequest) (d : Listed) (behind : List Listed) (left room : ℕ) → a.with_nodes ≡ true
    → is_dot d.name ≡ false
    → list_entries a (d ∷ behind) left room (Failed errno ∷ []) ≡ yielded (look_up (Lists unique a) d) [] (Some errno)
unfolding list_entries
first_missing unique errno a d behind left room nodes dot = rw (nodes, dot) refl

none_left : (a : asked.ListRequest) (left room : ℕ) → list_entries a [] left room [] ≡ yielded [] [] None
unfolding list_entries
none_left a left room = refl

-- entries with nodes are the reply, also where an error followed
held_bytes : (b : Bool) (unique errno : ℕ) (bytes : List ℕ) → (b && nat_lt 0 (length bytes)) ≡ true →
    listing_bytes unique b bytes (Some errno) ≡ reply_bytes unique bytes
held_bytes b unique errno bytes some = rw some refl

whole_reply : (room options : ℕ) (calls : List FileCall) (reply : List ℕ) → length reply ≤ room →
    replied room calls options reply ≡ by_reply calls options reply
whole_reply room options calls reply fits = rw (le-ltb room (length reply) fits) refl

some_bytes : (e : Brought) (es : List Brought) → nat_lt 0 (length (all_bytes true (e ∷ es))) ≡ true
some_bytes e es =
    let one = length_entry true (node_of e) e.0 in
    let both = length-append (bytes_of true e) (all_bytes true es) in
    let some : 0 < length (all_bytes true (e ∷ es)) = omega (arith, one, both) in
    lt-ltb 0 (length (all_bytes true (e ∷ es))) some

-- of a listing that gathered these entries
module _ (s : Setting) (l : Listing) (unique : ℕ) (a : asked.ListRequest) (list : List ℕ) (es : List Brought)
    (is : IsListingFor l s.room (Lists unique a)) (holds : Holds l list es) where
  abbrev command : FileCommand
  command = Lists unique a

  abbrev bytes : List ℕ
  bytes = all_bytes a.with_nodes es

  long : l.len ≡ length bytes
  long = holds.long ∙ ap (λ (b : Bool). length (all_bytes b es)) is.1

  -- entries behind them, by what comes of these
  listed_behind : (ds : List Listed) (answers : List FileAnswer) (calls : List FileCall) (error : Option ℕ)
      → ((left room : ℕ) → list_entries a ds left room answers ≡ yielded calls [] error)
      → list_entries a (entries_of es ++ ds) a.size (s.room - 16) (all_found a.with_nodes es ++ answers)
      ≡ yielded (look_ups command es ++ calls) (bytes ++ []) error
  listed_behind ds answers calls error comes =
      let small = l.small in
      let asked = l.asked in
      let fits = l.fits in
      let size : l.size ≡ a.size = is.2 in
      let room : l.room ≡ s.room - 16 = is.3 in
      let len = long in
      listed_all unique a es ds a.size (s.room - 16) answers (yielded calls [] error) (omega (arith, len, size, asked))
      (omega (arith, len, room, fits)) (omega (arith, len, small, asked))
      (comes (a.size - length bytes) (s.room - 16 - length bytes))

  -- with the directory
  pub ends_there : (reply : ListingReply) → IsListReply l reply
      → ServedBy s command (listing_calls (readdir_call a) a.with_nodes es EndsThere) (reply.front ++ take reply.len list)
  ends_there reply replies =
      served_so s command (listing_calls (readdir_call a) a.with_nodes es EndsThere) (Entries (entries_of es) ∷ all_found a.with_nodes es)
      (readdir_call a ∷ look_ups command es)
      (reply.front ++ take reply.len list)
      (ap (λ (x : List FileAnswer). Entries (entries_of es) ∷ x) (found_answers unique a es))
      (ap (λ (x : List FileCall). readdir_call a ∷ x) (found_calls unique a es))
      (ap (λ (b : Bool). commanded s command (Entries (entries_of es) ∷ all_found b es)) (sym is.1) ∙ replies s command list es is holds)

  -- at an entry that isn't in, by what comes of it
  out_at : (e : Brought) (behind : List Listed) (reply : List ℕ)
      → (let answers = answers_alone (node_back (readdir_call a) a.with_nodes e) in
      commanded s command (Entries (entries_of es ++ e.0 ∷ behind) ∷ (all_found l.with_nodes es ++ (found_of l.with_nodes e ++ answers)))
      ≡ by_reply (readdir_call a ∷ (look_ups command es ++ (look_up command e.0 ++ forget_listed command e))) s.options reply)
      → ServedBy s command (listing_calls (readdir_call a) a.with_nodes es (FullAt e behind)) reply
  out_at e behind reply comes =
      let steps = out_steps unique a e in
      let answers = answers_alone (node_back (readdir_call a) a.with_nodes e) in
      served_so s command (listing_calls (readdir_call a) a.with_nodes es (FullAt e behind))
      (Entries (entries_of es ++ e.0 ∷ behind) ∷ (all_found a.with_nodes es ++ (found_of a.with_nodes e ++ answers)))
      (readdir_call a ∷ (look_ups command es ++ (look_up command e.0 ++ forget_listed command e))) reply
      (ap (λ (x : List FileAnswer). Entries (entries_of es ++ e.0 ∷ behind) ∷ x)
      (behind_answers unique a es steps (found_of a.with_nodes e ++ answers) (out_answers unique a e)))
      (ap (λ (x : List FileCall). readdir_call a ∷ x)
      (behind_calls unique a es steps (look_up command e.0 ++ forget_listed command e) (out_calls unique a e)))
      (ap (λ (b : Bool). commanded s command (Entries (entries_of es ++ e.0 ∷ behind) ∷ (all_found b es ++ (found_of b e ++ answers))))
      (sym is.1) ∙ comes)

  pub full_at : (e : Brought) (behind : List Listed) (reply : ListingReply) → IsListReply l reply → EndsList l list e
      → ServedBy s command (listing_calls (readdir_call a) a.with_nodes es (FullAt e behind)) (reply.front ++ take reply.len list)
  full_at e behind reply replies full =
      out_at e behind (reply.front ++ take reply.len list)
      (full s command es behind (answers_alone (node_back (readdir_call a) a.with_nodes e)) is holds
      ∙ ap (λ (x : ServedMessage). record x { calls = x.calls ++ (look_up command e.0 ++ forget_listed command e) })
      (replies s command list es is holds))

  pub fails_at :
      (e : Brought) (behind : List Listed) (errno : ℕ) (reply : ListingReply) → IsFailedReply l errno reply → FailsList l list e errno
      → ServedBy s command (listing_calls (readdir_call a) a.with_nodes es (FailsAt e behind errno)) (reply.front ++ take reply.len list)
  fails_at e behind errno reply failed fails =
      let calls = readdir_call a ∷ (look_ups command es ++ (look_up command e.0 ++ forget_listed command e)) in
      out_at e behind (reply.front ++ take reply.len list)
      (fails s command es behind (answers_alone (node_back (readdir_call a) a.with_nodes e)) is holds
      ∙ ap (λ (x : List ℕ). by_reply calls s.options x) (sym (failed.bytes list es holds)))

  -- at one that isn't found
  pub not_found : (d : Listed) (behind : List Listed) (errno : ℕ) (reply : ListingReply) → IsFailedReply l errno reply → l.with_nodes ≡ true
      → is_dot d.name ≡ false
      → ServedBy s command (listing_calls (readdir_call a) a.with_nodes es (NotFound d behind errno)) (reply.front ++ take reply.len list)
  not_found d behind errno reply failed held dot =
      let nodes : a.with_nodes ≡ true = sym is.1 ∙ held in
      let looked : is_looked_up a.with_nodes d ≡ true =
      ap (λ (b : Bool). b && not (is_dot d.name)) nodes ∙ ap (λ (t : Bool). true && not t) dot in
      let one : answers_alone (looked_up (readdir_call a) a.with_nodes d (Failed errno)) ≡ Failed errno ∷ [] =
      found_answer unique a d (Failed errno) ∙ ap (λ (x : Bool). if x then Failed errno ∷ [] else []) looked in
      let here = listed_behind (d ∷ behind) (Failed errno ∷ []) (look_up command d) (Some errno)
      (λ left room. first_missing unique errno a d behind left room nodes dot) in
      let alone = listed_behind (d ∷ []) (Failed errno ∷ []) (look_up command d) (Some errno)
      (λ left room. first_missing unique errno a d [] left room nodes dot) in
      served_so s command (listing_calls (readdir_call a) a.with_nodes es (NotFound d behind errno))
      (Entries (entries_of es ++ d ∷ behind) ∷ (all_found a.with_nodes es ++ Failed errno ∷ []))
      (readdir_call a ∷ (look_ups command es ++ look_up command d))
      (reply.front ++ take reply.len list)
      (ap (λ (x : List FileAnswer). Entries (entries_of es ++ d ∷ behind) ∷ x)
      (behind_answers unique a es (looked_up (readdir_call a) a.with_nodes d (Failed errno)) (Failed errno ∷ []) one))
      (ap (λ (x : List FileCall). readdir_call a ∷ x) (behind_calls unique a es (looked_up (readdir_call a) a.with_nodes d (Failed errno))
      (look_up command d) (found_call unique a d (Failed errno))))
      (ap (λ (x : ListingResult). list_ended s unique a x) (here ∙ sym alone)
      ∙ ap (λ (b : Bool). commanded s command (Entries (entries_of es ++ d ∷ []) ∷ (all_found b es ++ Failed errno ∷ []))) nodes
      ∙ failed.looked_up held s command list es d is holds dot)

  -- where no more can be read: the error alone
  fails_alone : (errno : ℕ) (reply : ListingReply) → IsFailedReply l errno reply → (l.with_nodes && nat_lt 0 l.len) ≡ false
      → ServedBy s command ((readdir_call a, Failed errno) ∷ []) (reply.front ++ take reply.len list)
  fails_alone errno reply failed none = failed.alone none s command list is

  -- or the entries with nodes that are in
  ends_held : (errno : ℕ) (reply : ListingReply) → IsFailedReply l errno reply → (a.with_nodes && nat_lt 0 (length bytes)) ≡ true
      → ServedBy s command (listing_calls (readdir_call a) a.with_nodes es EndsThere) (reply.front ++ take reply.len list)
  ends_held errno reply failed some =
      let fits = l.fits in
      let len = long in
      let room : l.room ≡ s.room - 16 = is.3 in
      let place : 16 ≤ s.room = is.4 in
      let head = length_reply unique bytes in
      let calls = readdir_call a ∷ look_ups command es in
      let all = listed_behind [] [] [] None (λ left room. none_left a left room) in
      let entries : list_entries a (entries_of es) a.size (s.room - 16) (all_found a.with_nodes es)
      ≡ yielded (look_ups command es) bytes None = simp append-nil at all in
      let bytes_are : listing_bytes l.unique l.with_nodes (all_bytes l.with_nodes es) (Some errno) ≡ reply_bytes unique bytes =
      ap (λ (u : ℕ). listing_bytes u l.with_nodes (all_bytes l.with_nodes es) (Some errno)) is.0
      ∙ ap (λ (b : Bool). listing_bytes unique b (all_bytes b es) (Some errno)) is.1 ∙ held_bytes a.with_nodes unique errno bytes some in
      served_so s command (listing_calls (readdir_call a) a.with_nodes es EndsThere)
      (Entries (entries_of es) ∷ all_found a.with_nodes es) calls
      (reply.front ++ take reply.len list)
      (ap (λ (x : List FileAnswer). Entries (entries_of es) ∷ x) (found_answers unique a es))
      (ap (λ (x : List FileCall). readdir_call a ∷ x) (found_calls unique a es))
      (ap (λ (x : ListingResult). list_ended s unique a x) entries
      ∙ whole_reply s.room s.options calls (reply_bytes unique bytes) (omega (arith, head, len, room, fits, place))
      ∙ ap (λ (x : List ℕ). by_reply calls s.options x) (sym (failed.bytes list es holds ∙ bytes_are)))

pub unreadable : (s : Setting) (l : Listing) (unique : ℕ) (a : asked.ListRequest) (list : List ℕ) (es : List Brought) (b : Bool) (errno : ℕ)
    (reply : ListingReply)
    → IsListingFor l s.room (Lists unique a) → Holds l list es → IsFailedReply l errno reply → a.with_nodes ≡ b
    → ServedBy s (Lists unique a) (unreadable_calls (readdir_call a) b es errno) (reply.front ++ take reply.len list)
unreadable s l unique a list es false errno reply is holds failed nodes =
    fails_alone s l unique a list es is holds errno reply failed (ap (λ (b : Bool). b && nat_lt 0 l.len) (is.1 ∙ nodes))
unreadable s l unique a list [] true errno reply is holds failed nodes =
    fails_alone s l unique a list [] is holds errno reply failed
    (ap (λ (n : ℕ). l.with_nodes && nat_lt 0 n) holds.long ∙ ap (λ (b : Bool). b && nat_lt 0 0) (is.1 ∙ nodes))
unreadable s l unique a list (e ∷ es) true errno reply is holds failed nodes =
    let some : (a.with_nodes && nat_lt 0 (length (all_bytes a.with_nodes (e ∷ es)))) ≡ true =
    ap (λ (b : Bool). b && nat_lt 0 (length (all_bytes b (e ∷ es)))) nodes ∙ some_bytes e es in
    subst (λ (b : Bool). ServedBy s (Lists unique a) (listing_calls (readdir_call a) b (e ∷ es) EndsThere)
    (reply.front ++ take reply.len list)) nodes
    (ends_held s l unique a list (e ∷ es) is holds errno reply failed some)

-- ---- the data

-- its data stands in the list, as long as what is told of it: a longer one would tell of bytes behind the entries
pub in_list : (l : Listing) (list : List ℕ) (es : List Brought) (front whole : List ℕ) (n : ℕ) → Holds l list es
    → ((other : List ℕ) → Holds l other es → front ++ take n other ≡ whole)
    → length (take n list) ≡ n
in_list l list es front whole n holds same =
    let bytes = all_bytes l.with_nodes es in
    let long : l.len ≡ length bytes = holds.long in
    let with_bytes : (more : List ℕ) → Holds l (bytes ++ more) es =
    λ more. record { long = long; stands = take_at bytes more l.len (sym long) } in
    let both : length (front ++ take n (bytes ++ [])) ≡ length (front ++ take n (bytes ++ 0 ∷ [])) =
    ap length (same (bytes ++ []) (with_bytes []) ∙ sym (same (bytes ++ 0 ∷ []) (with_bytes (0 ∷ [])))) in
    let here = length-append front (take n (bytes ++ [])) in
    let there = length-append front (take n (bytes ++ 0 ∷ [])) in
    let here_n = length-take n (bytes ++ []) in
    let there_n = length-take n (bytes ++ 0 ∷ []) in
    let here_len = length-append bytes [] in
    let there_len = length-append bytes (0 ∷ []) in
    let held : min l.len (length list) ≡ length bytes = sym (length-take l.len list) ∙ ap length holds.stands in
    length-take n list ∙ omega (arith, both, here, there, here_n, there_n, here_len, there_len, held, long)
