-- the accounts of steps, kicks and runs
use Rattle.std.proofs.Common.{◌≡◌, ℕ, zero, suc, ◌+◌, ◌-◌, ◌≤◌, Bool, true, false, List, [], ◌∷◌, length, drop, Option, Some, None, refl}
use Rattle.std.proofs.Common.{◌==◌, ◌≢◌, if◌then◌else◌, IsTrue, nat_lt, sum_by, slice_get, ap, sym, ◌∙◌, subst, arith}
use Rattle.std.proofs.lemmas.List.Sums.{sum_by-cons}
use Rattle.std.proofs.lemmas.Bool.{le-ltb, lt-ltb}
use Rattle.fuse_wire.specs.declared.opcodes.Opcode.{Opcode}
use Rattle.fuse_wire.specs.declared.opcodes.Opcode.TheVariants as op
use Rattle.fuse_fs.specs.Calls.{FileCall, FileAnswer, Listed, FileRun, suits, kind_of}
use Rattle.fuse_fs.specs.Calls as call
use Rattle.server_segments.specs.declared.error.Error.TheVariants.{EncodeMessage}
use Rattle.server_replies.specs.WholeReplies.{error_bytes, listing_bytes}
use Rattle.server_calls.specs.Requests.{options_after, forget_entry}
use Rattle.fs_queue.specs.declared.fault.ChainFault.{ChainFault}
use Rattle.fs_queue.specs.Queue.{Queue}
use Rattle.fs_queue.specs.Taking.{Offer, IsRequest, CannotFetch, Offers}
use Rattle.server_meanings.specs.Grammar.{Meaning, Replies, One, Starts, Lists, meaning}
use Rattle.server_meanings.specs.Grammar as grammar
use Rattle.server_meanings.specs.Listings.{ListRequest, list_entries, readdir_call}
use Rattle.server_meanings.specs.Serving.{May, ServedMessage, Setting, setting, served, no_reply, answer_bytes, start_options}
use Rattle.server_meanings.specs.Serving.{start_answered, list_ended}
use Rattle.server_replies.proofs.ReplyLemmas.{length_reply, length_error}
use Rattle.plain_machine.specs.declared.error.DeviceError.{DeviceError}
use Rattle.plain_machine.specs.declared.refusal.Refusal.TheVariants as why
use Rattle.plain_machine.specs.Step.{State, Exchange, Calls, Exchanged, Exchanges, StepOf, faulty, served_exchange, EachSuits, calls_alone}
use Rattle.plain_machine.specs.Step.{answers_alone}
use Rattle.plain_machine.specs.Run as run
use Rattle.plain_machine.specs.Run.{Turn, Turns, Command, Answer, KickRun, Kicks, KickAnswer, Does, Performs, RunReported}
use Rattle.fs_device.specs.Books.{answered, sent, written, accepted, nodes_in, nodes_listed, opcode_in, entry_count, forget_count}
use Rattle.fs_device.specs.Books.{forgets_meant, IsBalanced}
use Rattle.fs_device.proofs.NodeLemmas.{drop_reply, drop_error, either_way, none_in_nothing, not_zero}
use Rattle.fs_device.proofs.MeaningLemmas.{has_entry, no_entry, not_true, CallFits, MeaningFits, ListFits, meaning_fits}
use Rattle.fs_device.proofs.ListBooks.{entries_in, counts_in, times, entries_more, counts_more, no_step, one_step, list_balances, list_fits}
use Rattle.fs_device.proofs.ListBooks.{plain_asks_nothing}
use Rattle.fs_device.proofs.GivenBack.{gives_back}

-- ---- one request

-- the counts that are taken back by a request that means this, where a call was made
abbrev taken : (n : ℕ) → Calls → Meaning → ℕ
taken n calls m = if length calls == 0 then 0 else forgets_meant n m

taken_made : (n : ℕ) (step : FileCall × FileAnswer) (calls : Calls) (m : Meaning) → taken n (step ∷ calls) m ≡ forgets_meant n m
taken_made n step calls m = let some = not_zero (length (step ∷ calls)) (omega arith) in rw some refl

-- what comes of a request balances
abbrev Balanced : (n : ℕ) → Option Opcode → Calls → (back : ℕ) → ServedMessage → Type 0
Balanced n o calls back given = entries_in n calls + back ≡ times n (nodes_in o (drop 16 given.reply)) + counts_in n calls

silent : (n : ℕ) (o : Option Opcode) → times n (nodes_in o (drop 16 [])) ≡ 0
silent n o = ap (times n) (none_in_nothing o)

-- nothing was asked, and no node is in the reply
nothing_asked : (n : ℕ) (o : Option Opcode) (calls : Calls) (m : Meaning) (given : ServedMessage) → [] ≡ calls_alone calls →
    times n (nodes_in o (drop 16 given.reply)) ≡ 0 →
    Balanced n o calls (taken n calls m) given
nothing_asked n o calls m given asks none =
    subst (λ (l : Calls). Balanced n o l (taken n l m) given) (sym (no_step calls asks)) (omega (arith, none))

-- a reply goes in whole, or not at all
abbrev in_room : Bool → List FileCall → (options : ℕ) → List ℕ → ServedMessage
in_room long fetched options bytes = if long then no_reply fetched options (Some EncodeMessage)
    else record { calls = fetched; options = options; reply = bytes; fault = None }

replied_asks : (long : Bool) (fetched : List FileCall) (options : ℕ) (bytes : List ℕ) → (in_room long fetched options bytes).calls ≡ fetched
replied_asks true fetched options bytes = refl
replied_asks false fetched options bytes = refl

replied_nodes :
    (n : ℕ) (o : Option Opcode) (long : Bool) (fetched : List FileCall) (options : ℕ) (bytes : List ℕ) → nodes_in o (drop 16 bytes) ≡ [] →
    times n (nodes_in o (drop 16 (in_room long fetched options bytes).reply)) ≡ 0
replied_nodes n o true fetched options bytes none = silent n o
replied_nodes n o false fetched options bytes none = ap (times n) none

-- a reply without an entry
replied_balances : (n : ℕ) (o : Option Opcode) (calls : Calls) (back options : ℕ) (fetched : List FileCall) (bytes : List ℕ) (long : Bool) →
    entries_in n calls ≡ 0 →
    times n (nodes_in o (drop 16 bytes)) ≡ 0 → back ≡ counts_in n calls → Balanced n o calls back (in_room long fetched options bytes)
replied_balances n o calls back options fetched bytes true none same keeps = let silence = silent n o in omega (arith, none, silence, keeps)
replied_balances n o calls back options fetched bytes false none same keeps = omega (arith, none, same, keeps)

replied_whole :
    (n : ℕ) (o : Option Opcode) (calls : Calls) (back options : ℕ) (fetched : List FileCall) (bytes : List ℕ) (long : Bool) → long ≡ false →
    entries_in n calls ≡ times n (nodes_in o (drop 16 bytes)) + counts_in n calls → back ≡ 0 →
    Balanced n o calls back (in_room long fetched options bytes)
replied_whole n o calls back options fetched bytes true fits same none = not_true (sym fits)
replied_whole n o calls back options fetched bytes false fits same none = omega (arith, same, none)

-- ---- listings

listing_whole : (unique : ℕ) (bytes : List ℕ) (error : Option ℕ) →
    (drop 16 (listing_bytes unique true bytes error) ≡ bytes) × (length (listing_bytes unique true bytes error) ≡ 16 + length bytes)
listing_whole unique bytes None = (drop_reply unique bytes, length_reply unique bytes)
listing_whole unique [] (Some errno) = (drop_error unique errno, length_error unique errno)
listing_whole unique (b ∷ bytes) (Some errno) =
    let some = lt-ltb 0 (length (b ∷ bytes)) (omega arith) in
    rw some (drop_reply unique (b ∷ bytes), length_reply unique (b ∷ bytes))

plus_nodes : (bytes : List ℕ) → nodes_in (Some op.Readdirplus) bytes ≡ nodes_listed (length bytes) bytes
unfolding nodes_listed
plus_nodes [] = refl
plus_nodes (b ∷ bytes) = let some = not_zero (length (b ∷ bytes)) (omega arith) in rw some refl

module _ (n : ℕ) (some : n ≢ 0) (s : Setting) (o : Option Opcode) where
  -- one call, by its answer, and the calls that give its entry back where the reply has no room
  one_given : (unique : ℕ) (c : FileCall) (a : FileAnswer) (more : Calls) (long : Bool) → CallFits n o c → EachSuits ((c, a) ∷ more) →
      (if long then forget_entry c a else []) ≡ calls_alone more → Balanced n o ((c, a) ∷ more) (forget_count n c)
      (in_room long (c ∷ (if long then forget_entry c a else [])) (options_after s.options c) (answer_bytes unique c a))
  one_given unique c a more true fits suit asks =
      let back = gives_back n c a suit.0 more suit.1 asks in
      omega (arith, silent n o, entries_more n (c, a) more, counts_more n (c, a) more, back.0, back.1)
  one_given unique c a more false fits suit asks =
      let e : entries_in n more ≡ 0 = ap (entries_in n) (no_step more asks) in
      let k : counts_in n more ≡ 0 = ap (counts_in n) (no_step more asks) in
      omega (arith, entries_more n (c, a) more, counts_more n (c, a) more, e, k, fits unique a suit.0)

  -- the same of the call that was made
  one_made :
      (unique : ℕ) (c : FileCall) (step : FileCall × FileAnswer) (more : Calls) (long : Bool) → CallFits n o c → EachSuits (step ∷ more) →
      (c ∷ (if long then forget_entry c step.1 else [])) ≡ step.0 ∷ calls_alone more → Balanced n o (step ∷ more) (forget_count n c)
      (in_room long (c ∷ (if long then forget_entry c step.1 else [])) (options_after s.options c) (answer_bytes unique c step.1))
  one_made unique c step more long fits suit asks =
      let same : step ≡ (c, step.1) = (let first : step.0 ≡ c = cc in ap (λ (x : FileCall). (x, step.1)) first) in
      let only : EachSuits ((c, step.1) ∷ more) = subst (λ (x : FileCall × FileAnswer). EachSuits (x ∷ more)) same suit in
      subst (λ (x : FileCall × FileAnswer). Balanced n o (x ∷ more) (forget_count n c)
      (in_room long (c ∷ (if long then forget_entry c step.1 else [])) (options_after s.options c) (answer_bytes unique c step.1)))
      (sym same)
      (one_given unique c step.1 more long fits only (cc))

  one_balances : (unique : ℕ) (c : FileCall) (calls : Calls) → CallFits n o c → EachSuits calls →
      (served s (grammar.Asks (One unique c)) (answers_alone calls)).calls ≡ calls_alone calls →
      Balanced n o calls (taken n calls (grammar.Asks (One unique c))) (served s (grammar.Asks (One unique c)) (answers_alone calls))
  one_balances unique c [] fits suit asks = absurd (cc)
  one_balances unique c (step ∷ calls) fits suit asks =
      let bytes = answer_bytes unique c step.1 in
      let long = nat_lt s.room (length bytes) in
      let made = c ∷ (if long then forget_entry c step.1 else []) in
      subst (λ (k : ℕ). Balanced n o (step ∷ calls) k (served s (grammar.Asks (One unique c)) (step.1 ∷ answers_alone calls)))
      (sym (taken_made n step calls (grammar.Asks (One unique c))))
      (one_made unique c step calls long fits suit (sym (replied_asks long made (options_after s.options c) bytes) ∙ asks))

  start_given :
      (unique capable readahead : ℕ) (a : FileAnswer) → ((bytes : List ℕ) → nodes_in o bytes ≡ []) → IsTrue (suits (call.Init capable) a) →
      Balanced n o ((call.Init capable, a) ∷ []) 0 (served s (grammar.Asks (Starts unique capable readahead)) (a ∷ []))
  start_given unique capable readahead a fits suit =
      let bytes = start_answered s.page_size unique capable readahead a in
      let x = entries_more n (call.Init capable, a) [] in
      let y = counts_more n (call.Init capable, a) [] in
      let z = no_entry n (call.Init capable) a refl suit in
      replied_balances n o ((call.Init capable, a) ∷ []) 0 (start_options s.options capable a) (call.Init capable ∷ []) bytes
      (nat_lt s.room (length bytes))
      (omega (arith, x, z)) (ap (times n) (fits (drop 16 bytes))) (omega (arith, y))

  start_balances : (unique capable readahead : ℕ) (calls : Calls) → ((bytes : List ℕ) → nodes_in o bytes ≡ []) → EachSuits calls →
      (served s (grammar.Asks (Starts unique capable readahead)) (answers_alone calls)).calls ≡ calls_alone calls →
      Balanced n o calls 0 (served s (grammar.Asks (Starts unique capable readahead)) (answers_alone calls))
  start_balances unique capable readahead [] fits suit asks = absurd (cc)
  start_balances unique capable readahead (step ∷ calls) fits suit asks =
      let bytes = start_answered s.page_size unique capable readahead step.1 in
      let one = one_step (call.Init capable) (step ∷ calls)
      (sym (replied_asks (nat_lt s.room (length bytes)) (call.Init capable ∷ []) (start_options s.options capable step.1) bytes) ∙ asks) in
      let only : EachSuits ((call.Init capable, one.0) ∷ []) = subst EachSuits one.1 suit in
      subst (λ (l : Calls). Balanced n o l 0 (served s (grammar.Asks (Starts unique capable readahead)) (answers_alone l))) (sym one.1)
      (start_given unique capable readahead one.0 fits only.0)

  -- a directory's entries, with the calls that come with them
  outcome_balances : (unique : ℕ) (l : ListRequest) (ds : List Listed) (steps : Calls) (nodes : Bool) → l.with_nodes ≡ nodes →
      ListFits s.room o nodes → EachSuits steps →
      (list_entries l ds l.size (s.room - 16) (answers_alone steps)).calls ≡ calls_alone steps →
      Balanced n o ((readdir_call l, call.Entries ds) ∷ steps) 0
      (list_ended s unique l (list_entries l ds l.size (s.room - 16) (answers_alone steps)))
  outcome_balances unique l ds steps true is fits suit asks =
      let w = list_entries l ds l.size (s.room - 16) (answers_alone steps) in
      let bytes = listing_bytes unique l.with_nodes w.bytes w.error in
      let whole = listing_whole unique w.bytes w.error in
      let plain : bytes ≡ listing_bytes unique true w.bytes w.error = ap (λ (b : Bool). listing_bytes unique b w.bytes w.error) is in
      let long : length bytes ≡ 16 + length w.bytes = ap length plain ∙ whole.1 in
      let room = list_fits l is ds l.size (s.room - 16) (answers_alone steps) in
      let low : length bytes ≤ s.room = (let place = fits.1 in omega (arith, long, room, place)) in
      let nodes : nodes_in o (drop 16 bytes) ≡ nodes_listed (length w.bytes) w.bytes =
      ap (λ (k : Option Opcode). nodes_in k (drop 16 bytes)) fits.0 ∙ ap (λ (b : List ℕ). nodes_in (Some op.Readdirplus) (drop 16 b)) plain
      ∙ ap (nodes_in (Some op.Readdirplus)) whole.0 ∙ plus_nodes w.bytes in
      let same = list_balances n some l is ds steps l.size (s.room - 16) suit asks (length w.bytes) (omega arith) in
      let x = entries_more n (readdir_call l, call.Entries ds) steps in
      let y = counts_more n (readdir_call l, call.Entries ds) steps in
      replied_whole n o ((readdir_call l, call.Entries ds) ∷ steps) 0 s.options (readdir_call l ∷ w.calls) bytes
      (nat_lt s.room (length bytes))
      (le-ltb s.room (length bytes) low) (omega (arith, same, x, y, ap (times n) nodes)) refl
  outcome_balances unique l ds steps false is fits suit asks =
      let w = list_entries l ds l.size (s.room - 16) (answers_alone steps) in
      let bytes = listing_bytes unique l.with_nodes w.bytes w.error in
      let nothing = no_step steps (sym (plain_asks_nothing l is ds l.size (s.room - 16) (answers_alone steps)) ∙ asks) in
      let a : entries_in n steps ≡ 0 = ap (entries_in n) nothing in
      let b : counts_in n steps ≡ 0 = ap (counts_in n) nothing in
      replied_balances n o ((readdir_call l, call.Entries ds) ∷ steps) 0 s.options (readdir_call l ∷ w.calls) bytes
      (nat_lt s.room (length bytes)) (omega (arith, entries_more n (readdir_call l, call.Entries ds) steps, a))
      (ap (times n) (fits (drop 16 bytes))) (omega (arith, counts_more n (readdir_call l, call.Entries ds) steps, b))

  -- an answer that lists nothing
  unlisted : (l : ListRequest) (c : FileCall) (a : FileAnswer) (steps : Calls) (bytes : List ℕ) (long : Bool) → readdir_call l ≡ c →
      IsTrue (suits c a) →
      [] ≡ calls_alone steps → nodes_in o (drop 16 bytes) ≡ [] →
      Balanced n o ((c, a) ∷ steps) 0 (in_room long (readdir_call l ∷ []) s.options bytes)
  unlisted l c a steps bytes long is suit asks none =
      let x = entries_more n (c, a) steps in
      let z : entries_in n steps ≡ 0 = ap (entries_in n) (no_step steps asks) in
      let v : counts_in n steps ≡ 0 = ap (counts_in n) (no_step steps asks) in
      let f : forget_count n c ≡ 0 = ap (forget_count n) (sym is) in
      let e : entry_count n a ≡ 0 = no_entry n c a (ap (λ (c : FileCall). has_entry (kind_of c)) (sym is)) suit in
      replied_balances n o ((c, a) ∷ steps) 0 s.options (readdir_call l ∷ []) bytes long (omega (arith, x, z, e)) (ap (times n) none)
      (omega (arith, counts_more n (c, a) steps, v, f))

  list_given : (unique : ℕ) (l : ListRequest) (c : FileCall) (a : FileAnswer) (steps : Calls) → ListFits s.room o l.with_nodes →
      EachSuits ((c, a) ∷ steps) →
      (served s (grammar.Asks (Lists unique l)) (a ∷ answers_alone steps)).calls ≡ c ∷ calls_alone steps →
      Balanced n o ((c, a) ∷ steps) 0 (served s (grammar.Asks (Lists unique l)) (a ∷ answers_alone steps))
  list_given unique l c (call.Failed errno) steps fits suit asks =
      let bytes = error_bytes unique errno in
      let all : (readdir_call l ∷ []) ≡ c ∷ calls_alone steps =
      sym (replied_asks (nat_lt s.room (length bytes)) (readdir_call l ∷ []) s.options bytes) ∙ asks in
      unlisted l c (call.Failed errno) steps bytes (nat_lt s.room (length bytes)) (cc) suit.0 (cc)
      (ap (nodes_in o) (drop_error unique errno) ∙ none_in_nothing o)
  list_given unique l c (call.Entries ds) steps fits suit asks =
      let w = list_entries l ds l.size (s.room - 16) (answers_alone steps) in
      let bytes = listing_bytes unique l.with_nodes w.bytes w.error in
      let all : (readdir_call l ∷ w.calls) ≡ c ∷ calls_alone steps =
      sym (replied_asks (nat_lt s.room (length bytes)) (readdir_call l ∷ w.calls) s.options bytes) ∙ asks in
      let same : readdir_call l ≡ c = cc in
      subst (λ (c : FileCall). Balanced n o ((c, call.Entries ds) ∷ steps) 0 (list_ended s unique l w)) same
      (outcome_balances unique l ds steps l.with_nodes refl fits suit.1 (cc))
  list_given unique l c a steps fits suit asks = unlisted l c a steps [] false (cc) suit.0 (cc) (none_in_nothing o)

  list_all : (unique : ℕ) (l : ListRequest) (calls : Calls) → ListFits s.room o l.with_nodes → EachSuits calls →
      (served s (grammar.Asks (Lists unique l)) (answers_alone calls)).calls ≡ calls_alone calls →
      Balanced n o calls 0 (served s (grammar.Asks (Lists unique l)) (answers_alone calls))
  list_all unique l [] fits suit asks = absurd (cc)
  list_all unique l (step ∷ calls) fits suit asks = list_given unique l step.0 step.1 calls fits suit asks

  meaning_balances : (m : Meaning) (calls : Calls) → MeaningFits n s.room o m → EachSuits calls →
      (served s m (answers_alone calls)).calls ≡ calls_alone calls →
      Balanced n o calls (taken n calls m) (served s m (answers_alone calls))
  meaning_balances (Replies bytes) calls fits suit asks =
      nothing_asked n o calls (Replies bytes) (served s (Replies bytes) (answers_alone calls))
      (sym (replied_asks (nat_lt s.room (length bytes)) [] s.options bytes) ∙ asks)
      (replied_nodes n o (nat_lt s.room (length bytes)) [] s.options bytes fits)
  meaning_balances (grammar.Asks (One unique c)) calls fits suit asks = one_balances unique c calls fits suit asks
  meaning_balances (grammar.Asks (Starts unique capable readahead)) calls fits suit asks =
      subst (λ (k : ℕ). Balanced n o calls k (served s (grammar.Asks (Starts unique capable readahead)) (answers_alone calls)))
      (sym (either_way (length calls == 0) 0))
      (start_balances unique capable readahead calls fits suit asks)
  meaning_balances (grammar.Asks (Lists unique l)) calls fits suit asks =
      subst (λ (k : ℕ). Balanced n o calls k (served s (grammar.Asks (Lists unique l)) (answers_alone calls)))
      (sym (either_way (length calls == 0) 0)) (list_all unique l calls fits suit asks)
  meaning_balances m calls fits suit asks = nothing_asked n o calls m (served s m (answers_alone calls)) asks (silent n o)

-- ---- steps

abbrev TurnBalances : (n : ℕ) → Turn → Type 0
TurnBalances n t = answered n t + accepted n t ≡ written n t + sent n t

abbrev turn : Exchange → Bool → Calls → Turn
turn x notice calls = record { exchange = x; notice = notice; calls = calls }

faulty_balances : (n head : ℕ) (why : ChainFault) (notice : Bool) → TurnBalances n (turn (faulty head why) notice [])
faulty_balances n head why notice = let none = silent n (opcode_in []) in omega (arith, none)

-- the answers of a run of a file system suit
pub all_suit : {F : Type 0} (may : May F) (before : F) (steps : Calls) (after : F) → FileRun may before steps after → EachSuits steps
all_suit may before [] after same = tt
all_suit may before (step ∷ steps) after (between, suit, made, rest) = (suit, all_suit may between steps after rest)

exchange_balances : {F : Type 0} (may : May F) (n : ℕ) → n ≢ 0 →
    (s : State F) (i : ℕ) (q : Queue) (o : Offer) (calls : Calls) (x : Exchange) (notice : Bool) (after : State F) →
    Exchanges may s i q o calls x notice after → TurnBalances n (turn x notice calls)
exchange_balances may n some s i q (Offers head (CannotFetch fault)) calls x notice after r =
    subst (λ (l : Calls). TurnBalances n (turn x notice l)) (sym r.no_call)
    (subst (λ (y : Exchange). TurnBalances n (turn y notice [])) (sym r.returns.exchange) (faulty_balances n head fault notice))
exchange_balances may n some s i q (Offers head (IsRequest request room)) calls x notice after r =
    let set = setting s.page_size s.options (length room) in
    let m = meaning s.options request (length room) in
    let fits = meaning_fits n s.options (length room) request in
    let asks : (served set m (answers_alone calls)).calls ≡ calls_alone calls =
    ap (λ (g : ServedMessage). g.calls) (sym r.serves.gives) ∙ r.serves.asks in
    let bal = meaning_balances n some set (opcode_in request) m calls fits.0 (all_suit may s.files calls after.files r.serves.run) asks in
    let given = served set m (answers_alone calls) in
    let back : taken n calls m ≡ taken n calls (meaning 0 request 0) = ap (λ (k : ℕ). if length calls == 0 then 0 else k) fits.1 in
    let is : x ≡ served_exchange head request given = r.returns.exchange ∙ ap (served_exchange head request) r.serves.gives in
    subst (λ (y : Exchange). TurnBalances n (turn y notice calls)) (sym is)
    (subst (λ (k : ℕ). Balanced n (opcode_in request) calls k given) back bal)
exchange_balances may n some s i q _ calls x notice after r = absurd r

step_balances : {F : Type 0} (may : May F) (n : ℕ) → n ≢ 0 →
    (s : State F) (i : ℕ) (o : Option Queue) (calls : Calls) (x : Exchange) (notice : Bool) (after : State F) →
    StepOf may s i o calls (Exchanged x notice) after → TurnBalances n (turn x notice calls)
step_balances may n some s i None calls x notice after t = absurd (cc)
step_balances may n some s i (Some q) calls x notice after t = exchange_balances may n some s i q _ calls x notice after t

-- ---- kicks

-- over exchanges
abbrev TurnsBalance : (n : ℕ) → Turns → Type 0
TurnsBalance n turns =
    sum_by (answered n) turns + sum_by (accepted n) turns ≡ sum_by (written n) turns + sum_by (sent n) turns

kick_balances : {F : Type 0} (may : May F) (n : ℕ) → n ≢ 0 →
    (s : State F) (i most : ℕ) (turns : Turns) (refused : Option DeviceError) (after : State F) →
    KickRun may s i most turns refused after → TurnsBalance n turns
unfolding KickRun
kick_balances may n some s i most [] refused after t = refl
kick_balances may n some s i zero (x ∷ turns) refused after t = absurd t
kick_balances may n some s i (suc most) (x ∷ turns) refused after (mid, step, rest) =
    let own = step_balances may n some s i (slice_get s.queues i) x.calls x.exchange x.notice mid step in
    let others = kick_balances may n some mid i most turns refused after rest in
    let a = sum_by-cons (answered n) x turns in
    let b = sum_by-cons (accepted n) x turns in
    omega (arith, own, others, a, b, sum_by-cons (written n) x turns, sum_by-cons (sent n) x turns)

kicks_balance : {F : Type 0} (may : May F) (n : ℕ) → n ≢ 0 →
    (s : State F) (i most : ℕ) (o : Option Queue) (turns : Turns) (k : KickAnswer) (after : State F) →
    Kicks may s i most o turns k after → TurnsBalance n turns
kicks_balance may n some s i most None turns k after t = subst (TurnsBalance n) (sym t.1) refl
kicks_balance may n some s i most (Some q) turns k after t = kick_balances may n some s i most turns k.refused after t.0

-- ---- runs

does_balance :
    {F : Type 0} (may : May F) (n : ℕ) → n ≢ 0 → (s : State F) (command : Command) (turns : Turns) (answer : Answer) (after : State F) →
    Does may s command turns answer after → TurnsBalance n turns
does_balance may n some s command [] answer after t = refl
does_balance may n some s (run.Kick i most) (x ∷ turns) (run.Served k) after t =
    kicks_balance may n some s i most (slice_get s.queues i) (x ∷ turns) k after t
does_balance may n some s _ (x ∷ turns) _ after t = absurd t

performs_balance :
    {F : Type 0} (may : May F) (n : ℕ) → n ≢ 0 → (s : State F) (command : Command) (turns : Turns) (answer : Answer) (after : State F) →
    Performs may s command turns answer after → TurnsBalance n turns
performs_balance may n some s command [] (run.IsRefused why.OutOfMemory) after t = refl
performs_balance may n some s command (x ∷ turns) (run.IsRefused why.OutOfMemory) after t = absurd t
performs_balance may n some s command turns _ after t = does_balance may n some s command turns _ after t

-- a run balances
pub run_balances :
    {F : Type 0} (may : May F) (n : ℕ) → n ≢ 0 → (s : State F) (events : List (Command × Answer)) (all_turns : List Turns)
    (after : State F) →
    RunReported may s events all_turns after → IsBalanced n all_turns
unfolding RunReported
run_balances may n some s [] [] after t = refl
run_balances may n some s (e ∷ es) (turns ∷ all_turns) after (mid, performs, rest) =
    let own = performs_balance may n some s e.0 turns e.1 mid performs in
    let a = sum_by-cons (λ (l : Turns). sum_by (answered n) l) turns all_turns in
    let b = sum_by-cons (λ (l : Turns). sum_by (accepted n) l) turns all_turns in
    let c = sum_by-cons (λ (l : Turns). sum_by (written n) l) turns all_turns in
    let d = sum_by-cons (λ (l : Turns). sum_by (sent n) l) turns all_turns in
    omega (arith, own, run_balances may n some mid es all_turns after rest, a, b, c, d)
run_balances may n some s _ _ after t = absurd t
