-- Each call of a chain is the one that waits behind those before it.
use Rattle.std.proofs.Common.{◌≡◌, ℕ, zero, suc, Bool, List, [], ◌∷◌, ◌++◌, length, take, Option, Some, None, append_assoc, ◌-◌, true}
use Rattle.std.proofs.Common.{false, not, nat_lt, if◌then◌else◌, refl, sym, ap, ◌∙◌}
use Rattle.std.proofs.lemmas.List.{map-append}
use Rattle.fuse_fs.specs.declared.answers.Context.{Context}
use Rattle.fuse_fs.specs.declared.answers.Entry.{Entry}
use Rattle.fuse_fs.specs.Calls.{FileCall, FileAnswer, Init, Listed, Lookup}
use Rattle.fuse_fs.specs.Calls as file
use Rattle.server_calls.specs.Requests.{entry_node, forget_node, forget_entry, options_after}
use Rattle.server_replies.specs.Entries.{Fit, FitsIn, entry_bytes, entry_len, fit_of, is_dot, no_node}
use Rattle.server_replies.specs.WholeReplies.{error_bytes, listing_bytes}
use Rattle.server_meanings.specs.Grammar.{Meaning, Replies, Asks, One, Starts, Lists}
use Rattle.server_meanings.specs.Listings.{ListRequest, Next, ListingResult, after_call, list_entries, looked_up, placed, readdir_call}
use Rattle.server_meanings.specs.Listings.{forget_lookup, with_entry}
use Rattle.server_meanings.specs.Serving.{Setting, answer_bytes, list_answered, replied, served, start_answered, start_options, undone}
use Rattle.plain_machine.specs.Step.{Calls, answers_alone, calls_alone}

-- ---- lists

abbrev none : List FileCall
none = []

take_nil : (n : ℕ) → none ≡ take n none
take_nil zero = refl
take_nil (suc n) = refl

-- ---- entries of a directory

-- the calls of fewer answers are the first ones of those of more
abbrev Leads : (n : ℕ) → (few more : ListingResult) → Type 0
Leads n few more = few.calls ≡ take n more.calls

choose : (b : Bool) (n : ℕ) (x y x' y' : ListingResult) → Leads n x x' → Leads n y y' → Leads n (if b then x else y) (if b then x' else y')
choose true n x y x' y' one two = one
choose false n x y x' y' one two = two

placed_leads : (f : Fit) (bytes : List ℕ) (undo : List FileCall) (n : ℕ) (x y : ListingResult) → undo ≡ take n undo → Leads n x y →
    Leads n (placed f bytes undo x) (placed f bytes undo y)
placed_leads FitsIn bytes undo n x y short leads = leads
placed_leads _ bytes undo n x y short leads = short

-- what follows an entry leads, by any answers
abbrev NextLeads : Next → Type 0
NextLeads next = (left room : ℕ) (few more : List FileAnswer) → Leads (suc (length few)) (next left room few) (next left room (few ++ more))

entry_leads : (b : Bool) (d : Listed) (e : Entry ℕ) (undo : List FileCall) (next : Next) (left room : ℕ) (few more : List FileAnswer)
    → undo ≡ take (suc (length few)) undo → NextLeads next
    → Leads (suc (length few)) (with_entry b d e undo next left room few) (with_entry b d e undo next left room (few ++ more))
entry_leads b d e undo next left room few more short leads =
    let len = entry_len b (length d.name) in
    placed_leads (fit_of (length d.name) len left room) (entry_bytes b e d) undo (suc (length few)) (next (left - len) (room - len) few)
    (next (left - len) (room - len) (few ++ more)) short
    (leads (left - len) (room - len) few more)

one_undo : (who : Context) (node n : ℕ) → forget_lookup who node ∷ [] ≡ take (suc n) (forget_lookup who node ∷ [])
one_undo who node n = ap (λ (l : List FileCall). forget_lookup who node ∷ l) (take_nil n)

looked_leads : (l : ListRequest) (d : Listed) (next : Next) (left room : ℕ) (few more : List FileAnswer) → NextLeads next
    → Leads (length few) (looked_up l d next left room few) (looked_up l d next left room (few ++ more))
looked_leads l d next left room (file.HasEntry e ∷ few) more leads =
    entry_leads true d e (forget_lookup l.context e.inode ∷ []) next left room few more (one_undo l.context e.inode (length few)) leads
looked_leads l d next left room few more leads = refl

list_leads : (l : ListRequest) (ds : List Listed) → NextLeads (list_entries l ds)
unfolding list_entries
list_leads l [] left room few more = refl
list_leads l (d ∷ ds) left room few more =
    let next = list_entries l ds in
    let n = suc (length few) in
    let rest : NextLeads next = list_leads l ds in
    let plain : List FileAnswer → ListingResult = λ answers. with_entry false d (no_node d) [] next left room answers in
    let dot : List FileAnswer → ListingResult =
    λ answers. with_entry true d (no_node d) (forget_lookup l.context 0 ∷ []) next left room answers in
    let looks : List FileAnswer → ListingResult =
    λ answers. after_call (Lookup l.context l.node d.name) (looked_up l d next left room answers) in
    let looked : Leads n (looks few) (looks (few ++ more)) =
    ap (λ (cs : List FileCall). Lookup l.context l.node d.name ∷ cs) (looked_leads l d next left room few more rest) in
    choose (not l.with_nodes) n (plain few) (if is_dot d.name then dot few else looks few) (plain (few ++ more))
    (if is_dot d.name then dot (few ++ more) else looks (few ++ more))
    (entry_leads false d (no_node d) [] next left room few more refl rest)
    (choose (is_dot d.name) n (dot few) (looks few) (dot (few ++ more)) (looks (few ++ more))
    (entry_leads true d (no_node d) (forget_lookup l.context 0
    ∷ []) next left room few more (one_undo l.context 0 (length few)) rest) looked)

-- ---- replies

by_room : (room : ℕ) (calls : List FileCall) (o : ℕ) (bytes : List ℕ) (b : Bool) → nat_lt room (length bytes) ≡ b →
    (replied room calls o bytes).calls ≡ calls
by_room room calls o bytes true is = rw is refl
by_room room calls o bytes false is = rw is refl

reply_calls : (room : ℕ) (calls : List FileCall) (o : ℕ) (bytes : List ℕ) → (replied room calls o bytes).calls ≡ calls
reply_calls room calls o bytes = by_room room calls o bytes (nat_lt room (length bytes)) refl

-- a reply with no more calls than these leads any
same_reply : (room : ℕ) (calls : List FileCall) (o : ℕ) (bytes : List ℕ) (n : ℕ) → calls ≡ take n calls →
    (replied room calls o bytes).calls ≡ take n (replied room calls o bytes).calls
same_reply room calls o bytes n short =
    reply_calls room calls o bytes ∙ short ∙ sym (ap (λ (cs : List FileCall). take n cs) (reply_calls room calls o bytes))

-- of any reply the first call alone
same_first : (room : ℕ) (call : FileCall) (calls : List FileCall) (o : ℕ) (bytes : List ℕ) →
    call ∷ [] ≡ take 1 (replied room (call ∷ calls) o bytes).calls
same_first room call calls o bytes = sym (ap (λ (cs : List FileCall). take 1 cs) (reply_calls room (call ∷ calls) o bytes))

list_first : (s : Setting) (unique : ℕ) (l : ListRequest) (a : FileAnswer) (answers : List FileAnswer) →
    readdir_call l ∷ [] ≡ take 1 (list_answered s unique l a answers).calls
list_first s unique l (file.Failed errno) answers = same_first s.room (readdir_call l) [] s.options (error_bytes unique errno)
list_first s unique l (file.Entries ds) answers =
    let w = list_entries l ds l.size (s.room - 16) answers in
    same_first s.room (readdir_call l) w.calls s.options (listing_bytes unique l.with_nodes w.bytes w.error)
list_first s unique l a answers = refl

one_readdir : (l : ListRequest) (n : ℕ) → readdir_call l ∷ [] ≡ take (suc (suc n)) (readdir_call l ∷ [])
one_readdir l n = refl

list_more : (s : Setting) (unique : ℕ) (l : ListRequest) (a : FileAnswer) (few more : List FileAnswer)
    → (list_answered s unique l a few).calls ≡ take (suc (suc (length few))) (list_answered s unique l a (few ++ more)).calls
list_more s unique l (file.Entries ds) few more =
    let n = suc (suc (length few)) in
    let v = list_entries l ds l.size (s.room - 16) few in
    let w = list_entries l ds l.size (s.room - 16) (few ++ more) in
    reply_calls s.room (readdir_call l ∷ v.calls) s.options (listing_bytes unique l.with_nodes v.bytes v.error)
    ∙ ap (λ (cs : List FileCall). readdir_call l ∷ cs) (list_leads l ds l.size (s.room - 16) few more)
    ∙ sym (ap (λ (cs : List FileCall). take n cs)
    (reply_calls s.room (readdir_call l ∷ w.calls) s.options (listing_bytes unique l.with_nodes w.bytes w.error)))
list_more s unique l (file.Failed errno) few more =
    same_reply s.room (readdir_call l ∷ []) s.options (error_bytes unique errno) (suc (suc (length few))) (one_readdir l (length few))
list_more s unique l a few more = refl

-- ---- an entry that is given back

give_short : (who : Context) (node : Option ℕ) (n : ℕ) → forget_node who node ≡ take (suc n) (forget_node who node)
give_short who None n = refl
give_short who (Some node) n = one_undo who node n

back_short : (call : FileCall) (answer : FileAnswer) (n : ℕ) → forget_entry call answer ≡ take (suc n) (forget_entry call answer)
back_short (file.Lookup a b c) answer n = give_short a (entry_node answer) n
back_short (file.Symlink a b c d e) answer n = give_short a (entry_node answer) n
back_short (file.Mknod a b c d e f g) answer n = give_short a (entry_node answer) n
back_short (file.Mkdir a b c d e f) answer n = give_short a (entry_node answer) n
back_short (file.Link a b c d) answer n = give_short a (entry_node answer) n
back_short (file.Create a b c d e f g h) answer n = give_short a (entry_node answer) n
back_short call answer n = refl

undone_short :
    (b : Bool) (undo : List FileCall) (n : ℕ) → undo ≡ take (suc n) undo → (if b then undo else []) ≡ take (suc n) (if b then undo else [])
undone_short true undo n short = short
undone_short false undo n short = refl

-- ---- what is served

-- the calls by some answers are the first ones of those by more answers: one more than the answers are, or fewer
pub served_leads : (s : Setting) (m : Meaning) (few more : List FileAnswer) →
    (served s m few).calls ≡ take (suc (length few)) (served s m (few ++ more)).calls
served_leads s (Replies bytes) few more = same_reply s.room [] s.options bytes (suc (length few)) refl
served_leads s (Asks (One unique call)) [] (a ∷ more) =
    let bytes = answer_bytes unique call a in
    same_first s.room call (undone s.room bytes (forget_entry call a)) (options_after s.options call) bytes
served_leads s (Asks (One unique call)) (a ∷ few) more =
    let bytes = answer_bytes unique call a in
    same_reply s.room (call ∷ undone s.room bytes (forget_entry call a)) (options_after s.options call) bytes (suc (suc (length few)))
    (ap (λ (cs : List FileCall). call ∷ cs)
    (undone_short (nat_lt s.room (length bytes)) (forget_entry call a) (length few) (back_short call a (length few))))
served_leads s (Asks (Starts unique capable readahead)) [] (a ∷ more) =
    same_first s.room (Init capable) [] (start_options s.options capable a) (start_answered s.page_size unique capable readahead a)
served_leads s (Asks (Starts unique capable readahead)) (a ∷ few) more =
    same_reply s.room (Init capable ∷ []) (start_options s.options capable a) (start_answered s.page_size unique capable readahead a)
    (suc (suc (length few))) refl
served_leads s (Asks (Lists unique l)) [] (a ∷ more) = list_first s unique l a more
served_leads s (Asks (Lists unique l)) (a ∷ few) more = list_more s unique l a few more
served_leads s _ _ _ = refl

take_front : (earlier : Calls) (call : FileCall) (calls : List FileCall) →
    take (suc (length (answers_alone earlier))) (calls_alone earlier ++ call ∷ calls) ≡ calls_alone earlier ++ call ∷ []
take_front [] call calls = refl
take_front (step ∷ earlier) call calls = ap (λ (cs : List FileCall). step.0 ∷ cs) (take_front earlier call calls)

-- so each call of those that are served waits behind the ones before it, even if more are served
pub each_waits_first : (s : Setting) (m : Meaning) (earlier later : Calls) (call : FileCall) (answer : FileAnswer) (more : List FileCall)
    → (served s m (answers_alone (earlier ++ (call, answer) ∷ later))).calls ≡ calls_alone (earlier ++ (call, answer) ∷ later) ++ more
    → (served s m (answers_alone earlier)).calls ≡ calls_alone earlier ++ call ∷ []
each_waits_first s m earlier later call answer more all =
    let n = suc (length (answers_alone earlier)) in
    let answers_are : answers_alone (earlier ++ (call, answer) ∷ later) ≡ answers_alone earlier ++ answer ∷ answers_alone later =
    map-append (λ (step : FileCall × FileAnswer). step.1) earlier ((call, answer) ∷ later) in
    let calls_are : calls_alone (earlier ++ (call, answer) ∷ later) ≡ calls_alone earlier ++ call ∷ calls_alone later =
    map-append (λ (step : FileCall × FileAnswer). step.0) earlier ((call, answer) ∷ later) in
    served_leads s m (answers_alone earlier) (answer ∷ answers_alone later)
    ∙ ap (λ (l : List FileAnswer). take n (served s m l).calls) (sym answers_are)
    ∙ ap (λ (cs : List FileCall). take n cs)
    (all ∙ ap (λ (cs : List FileCall). cs ++ more) calls_are ∙ append_assoc (calls_alone earlier) (call ∷ calls_alone later) more)
    ∙ take_front earlier call (calls_alone later ++ more)
