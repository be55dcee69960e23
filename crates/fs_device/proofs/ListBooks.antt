-- the accounts of a listing: what READDIRPLUS lists, looks up and takes back
use Rattle.std.proofs.Common.{◌≡◌, ℕ, zero, suc, ◌+◌, ◌-◌, ◌^◌, ◌<◌, ◌≤◌, Bool, true, false, List, [], ◌∷◌, ◌++◌, length, refl, ap, sym}
use Rattle.std.proofs.Common.{◌==◌, ◌≢◌, if◌then◌else◌, IsTrue, count_by, sum_by, ◌∙◌, subst, arith, length-append}
use Rattle.std.proofs.lemmas.List.Sums.{sum_by-cons}
use Rattle.std.proofs.lemmas.Bool.{ltb-true}
use Rattle.std.proofs.lemmas.Bool.Decides.{nat_tests}
use Rattle.fuse_fs.specs.declared.answers.Context.{Context}
use Rattle.fuse_fs.specs.declared.answers.Entry.{Entry}
use Rattle.fuse_fs.specs.Calls.{FileCall, FileAnswer, Listed, suits}
use Rattle.fuse_fs.specs.Calls as call
use Rattle.server_replies.specs.Entries.{Fit, FitsIn, fit_of, entry_len, entry_bytes, no_node, is_dot}
use Rattle.server_meanings.specs.Listings.{ListRequest, ListingResult, Next, placed, forget_lookup, with_entry, after_call, looked_up}
use Rattle.server_meanings.specs.Listings.{list_entry, list_entries}
use Rattle.plain_machine.specs.Step.{Calls, EachSuits, calls_alone, answers_alone}
use Rattle.fs_device.specs.Books.{entry_count, forget_count, nodes_listed}
use Rattle.fs_device.proofs.NodeLemmas.{fits_in_fits, length_entry, nodes_more}
use Rattle.fs_device.proofs.MeaningLemmas.{no_entry, not_true}

-- the entries of a node in the answers, and the counts of it in the calls
abbrev pub entries_in : (node : ℕ) → Calls → ℕ
entries_in n steps = sum_by (λ step. entry_count n step.1) steps

abbrev pub counts_in : (node : ℕ) → Calls → ℕ
counts_in n steps = sum_by (λ step. forget_count n step.0) steps

-- how often a node is among nodes
abbrev pub times : (node : ℕ) → List ℕ → ℕ
times n nodes = count_by (λ k. k == n) nodes

-- whether a node is this one, as a number
abbrev pub is_node : (node other : ℕ) → ℕ
is_node n x = if x == n then 1 else 0

pub entries_more :
    (n : ℕ) (step : FileCall × FileAnswer) (steps : Calls) → entries_in n (step ∷ steps) ≡ entry_count n step.1 + entries_in n steps
entries_more n step steps = sum_by-cons (λ (s : FileCall × FileAnswer). entry_count n s.1) step steps

pub counts_more :
    (n : ℕ) (step : FileCall × FileAnswer) (steps : Calls) → counts_in n (step ∷ steps) ≡ forget_count n step.0 + counts_in n steps
counts_more n step steps = sum_by-cons (λ (s : FileCall × FileAnswer). forget_count n s.0) step steps

times_more : (n x : ℕ) (nodes : List ℕ) → times n (x ∷ nodes) ≡ is_node n x + times n nodes
times_more n x nodes = sum_by-cons (λ (k : ℕ). if k == n then 1 else 0) x nodes

-- no call was made, or one
pub no_step : (steps : Calls) → [] ≡ calls_alone steps → steps ≡ []
no_step [] e = refl
no_step (step ∷ steps) e = absurd (cc)

pub one_step : (c : FileCall) (steps : Calls) → (c ∷ []) ≡ calls_alone steps → (a : FileAnswer) × (steps ≡ (c, a) ∷ [])
one_step c (step ∷ []) e = let same : step.0 ≡ c = cc in (step.1, ap (λ (x : FileCall). (x, step.1) ∷ []) same)
one_step c _ e = absurd (cc)

nothing_listed : (most : ℕ) → nodes_listed most [] ≡ []
unfolding nodes_listed
nothing_listed zero = refl
nothing_listed (suc most) = refl

-- ---- one entry

-- what was answered, and so many entries more, is what was listed and what was taken back
abbrev Balanced : (n extra : ℕ) → Calls → ListingResult → Type 0
Balanced n extra steps w =
    (most : ℕ) → length w.bytes ≤ most → entries_in n steps + extra ≡ times n (nodes_listed most w.bytes) + counts_in n steps

-- an entry goes in
put_in : (n : ℕ) (e : Entry ℕ) (d : Listed) (next : ListingResult) (steps : Calls) → e.inode < 2 ^ 64 → length d.name < 2 ^ 32 →
    Balanced n 0 steps next → (most : ℕ) →
    length (entry_bytes true e d ++ next.bytes) ≤ most →
    entries_in n steps + is_node n e.inode ≡ times n (nodes_listed most (entry_bytes true e d ++ next.bytes)) + counts_in n steps
put_in n e d next steps node name rest zero fits =
    absurd (omega (arith, length-append (entry_bytes true e d) next.bytes, length_entry e d, fits))
put_in n e d next steps node name rest (suc most) fits =
    let behind = rest most (omega (arith, length-append (entry_bytes true e d) next.bytes, length_entry e d, fits)) in
    let listed : times n (nodes_listed (suc most) (entry_bytes true e d ++ next.bytes))
    ≡ is_node n e.inode + times n (nodes_listed most next.bytes) =
    ap (times n) (nodes_more most e d next.bytes node name) ∙ times_more n e.inode (nodes_listed most next.bytes) in
    omega (arith, behind, listed)

-- an entry is taken back
taken_back : (n : ℕ) (who : Context) (x : ℕ) (steps : Calls) → EachSuits steps → (forget_lookup who x ∷ []) ≡ calls_alone steps
    → (most : ℕ) →
    entries_in n steps + is_node n x ≡ times n (nodes_listed most []) + counts_in n steps
taken_back n who x steps suit e most =
    let one = one_step (forget_lookup who x) steps e in
    let only : EachSuits ((forget_lookup who x, one.0) ∷ []) = subst EachSuits one.1 suit in
    let none : entry_count n one.0 ≡ 0 = no_entry n (forget_lookup who x) one.0 refl only.0 in
    let a = entries_more n (forget_lookup who x, one.0) [] in
    rw (nothing_listed most, one.1) (omega (arith, none, a, counts_more n (forget_lookup who x, one.0) []))

placed_balances : (n : ℕ) (who : Context) (e : Entry ℕ) (d : Listed) (fit : Fit) (next : ListingResult) (steps : Calls) → e.inode < 2 ^ 64 →
    (fit ≡ FitsIn → length d.name < 2 ^ 32) → EachSuits steps →
    (next.calls ≡ calls_alone steps → Balanced n 0 steps next) →
    (placed fit (entry_bytes true e d) (forget_lookup who e.inode ∷ []) next).calls ≡ calls_alone steps →
    Balanced n (is_node n e.inode) steps (placed fit (entry_bytes true e d) (forget_lookup who e.inode ∷ []) next)
placed_balances n who e d FitsIn next steps node name suit rest asks most fits =
    put_in n e d next steps node (name refl) (rest asks) most fits
placed_balances n who e d _ next steps node name suit rest asks most fits = taken_back n who e.inode steps suit asks most

entry_balances :
    (n : ℕ) (who : Context) (e : Entry ℕ) (d : Listed) (next : Next) (left room : ℕ) (steps : Calls) → e.inode < 2 ^ 64 → EachSuits steps →
    ((left room : ℕ) → (next left room (answers_alone steps)).calls ≡ calls_alone steps →
    Balanced n 0 steps (next left room (answers_alone steps))) →
    (with_entry true d e (forget_lookup who e.inode ∷ []) next left room (answers_alone steps)).calls ≡ calls_alone steps →
    Balanced n (is_node n e.inode) steps (with_entry true d e (forget_lookup who e.inode ∷ []) next left room (answers_alone steps))
entry_balances n who e d next left room steps node suit rest asks =
    let len = entry_len true (length d.name) in
    placed_balances n who e d (fit_of (length d.name) len left room) (next (left - len) (room - len) (answers_alone steps)) steps node
    (λ fits. (fits_in_fits (length d.name) len left room fits).0) suit (rest (left - len) (room - len)) asks

-- ---- a look-up

-- nothing comes after a look-up without an entry
stopped : (n : ℕ) (c : FileCall) (a : FileAnswer) (steps : Calls) → forget_count n c ≡ 0 → entry_count n a ≡ 0 → [] ≡ calls_alone steps →
    (most : ℕ) →
    entries_in n ((c, a) ∷ steps) + 0 ≡ times n (nodes_listed most []) + counts_in n ((c, a) ∷ steps)
stopped n c a steps keeps none e most =
    let x = entries_more n (c, a) [] in
    rw (no_step steps e, nothing_listed most) (omega (arith, keeps, none, x, counts_more n (c, a) []))

looked_up_balances : (n : ℕ) (l : ListRequest) (d : Listed) (next : Next) (left room : ℕ) (c : FileCall) (a : FileAnswer) (steps : Calls) →
    call.Lookup l.context l.node d.name ≡ c → IsTrue (suits c a) → EachSuits steps →
    ((left room : ℕ) → (next left room (answers_alone steps)).calls ≡ calls_alone steps →
    Balanced n 0 steps (next left room (answers_alone steps))) →
    (looked_up l d next left room (a ∷ answers_alone steps)).calls ≡ calls_alone steps →
    Balanced n 0 ((c, a) ∷ steps) (looked_up l d next left room (a ∷ answers_alone steps))
looked_up_balances n l d next left room c (call.HasEntry e) steps is fits suit rest asks most low =
    let small : e.inode < 2 ^ 64 = ltb-true e.inode (2 ^ 64) (rw (← is) at fits) in
    let behind = entry_balances n l.context e d next left room steps small suit rest asks most low in
    let keeps : forget_count n c ≡ 0 = ap (forget_count n) (sym is) in
    omega (arith, behind, keeps, entries_more n (c, call.HasEntry e) steps, counts_more n (c, call.HasEntry e) steps)
looked_up_balances n l d next left room c (call.Created e handle options) steps is fits suit rest asks most low =
    not_true (rw (← is) at fits)
looked_up_balances n l d next left room c a steps is fits suit rest asks most low =
    stopped n c a steps (ap (forget_count n) (sym is)) refl asks most

-- ---- the whole list

dot_is :
    (l : ListRequest) (d : Listed) (next : Next) (left room : ℕ) (answers : List FileAnswer) → l.with_nodes ≡ true → is_dot d.name ≡ true →
    list_entry l d next left room answers ≡ with_entry true d (no_node d) (forget_lookup l.context 0 ∷ []) next left room answers
dot_is l d next left room answers nodes dot = rw (nodes, dot) refl

name_is :
    (l : ListRequest) (d : Listed) (next : Next) (left room : ℕ) (answers : List FileAnswer) → l.with_nodes ≡ true → is_dot d.name ≡ false →
    list_entry l d next left room answers ≡ after_call (call.Lookup l.context l.node d.name) (looked_up l d next left room answers)
name_is l d next left room answers nodes dot = rw (nodes, dot) refl

no_zero : (n : ℕ) → n ≢ 0 → is_node n 0 ≡ 0
no_zero n h =
    let other : (0 == n) ≡ false = grind (arith, nat_tests, h) in
    rw other refl

name_balances : (n : ℕ) (l : ListRequest) (d : Listed) (next : Next) (left room : ℕ) (steps : Calls) → EachSuits steps →
    ((steps : Calls) (left room : ℕ) → EachSuits steps → (next left room (answers_alone steps)).calls ≡ calls_alone steps →
    Balanced n 0 steps (next left room (answers_alone steps))) →
    (after_call (call.Lookup l.context l.node d.name) (looked_up l d next left room (answers_alone steps))).calls ≡ calls_alone steps →
    Balanced n 0 steps (after_call (call.Lookup l.context l.node d.name) (looked_up l d next left room (answers_alone steps)))
name_balances n l d next left room [] suit rest asks = absurd (cc)
name_balances n l d next left room (step ∷ steps) suit rest asks =
    looked_up_balances n l d next left room step.0 step.1 steps (cc) suit.0 suit.1 (λ left room e. rest steps left room suit.1 e) (cc)

by_dot : (n : ℕ) → n ≢ 0 → (l : ListRequest) (d : Listed) (next : Next) (left room : ℕ) (steps : Calls) (dot : Bool) → l.with_nodes ≡ true →
    is_dot d.name ≡ dot → EachSuits steps →
    ((steps : Calls) (left room : ℕ) → EachSuits steps → (next left room (answers_alone steps)).calls ≡ calls_alone steps →
    Balanced n 0 steps (next left room (answers_alone steps))) →
    (list_entry l d next left room (answers_alone steps)).calls ≡ calls_alone steps →
    Balanced n 0 steps (list_entry l d next left room (answers_alone steps))
by_dot n some l d next left room steps true nodes dot suit rest asks =
    let is = dot_is l d next left room (answers_alone steps) nodes dot in
    let found = entry_balances n l.context (no_node d) d next left room steps (omega arith) suit
    (λ left room e. rest steps left room suit e) (sym (ap (λ (w : ListingResult). w.calls) is) ∙ asks) in
    subst (λ (w : ListingResult). Balanced n 0 steps w) (sym is)
    (subst (λ (k : ℕ). Balanced n k steps (with_entry true d (no_node d) (forget_lookup l.context 0 ∷ []) next left room
    (answers_alone steps))) (no_zero n some) found)
by_dot n some l d next left room steps false nodes dot suit rest asks =
    let is = name_is l d next left room (answers_alone steps) nodes dot in
    subst (λ (w : ListingResult). Balanced n 0 steps w) (sym is)
    (name_balances n l d next left room steps suit rest (sym (ap (λ (w : ListingResult). w.calls) is) ∙ asks))

-- what was answered for a node is what was listed and what was taken back
pub list_balances :
    (n : ℕ) → n ≢ 0 → (l : ListRequest) → l.with_nodes ≡ true → (ds : List Listed) (steps : Calls) (left room : ℕ) → EachSuits steps →
    (list_entries l ds left room (answers_alone steps)).calls ≡ calls_alone steps →
    Balanced n 0 steps (list_entries l ds left room (answers_alone steps))
unfolding list_entries
list_balances n some l nodes [] steps left room suit asks most low = rw (no_step steps asks, nothing_listed most) refl
list_balances n some l nodes (d ∷ ds) steps left room suit asks most low =
    by_dot n some l d (list_entries l ds) left room steps (is_dot d.name) nodes refl suit (list_balances n some l nodes ds) asks most low

-- ---- its bytes have room

placed_fits : (e : Entry ℕ) (d : Listed) (fit : Fit) (undo : List FileCall) (next : ListingResult) (room : ℕ) →
    (fit ≡ FitsIn → entry_len true (length d.name) ≤ room) →
    length next.bytes ≤ room - entry_len true (length d.name) → length (placed fit (entry_bytes true e d) undo next).bytes ≤ room
placed_fits e d FitsIn undo next room fits low =
    omega (arith, length-append (entry_bytes true e d) next.bytes, length_entry e d, fits refl, low)
placed_fits e d _ undo next room fits low = omega arith

entry_fits : (e : Entry ℕ) (d : Listed) (undo : List FileCall) (next : Next) (left room : ℕ) (answers : List FileAnswer) →
    ((left room : ℕ) (answers : List FileAnswer) → length (next left room answers).bytes ≤ room) →
    length (with_entry true d e undo next left room answers).bytes ≤ room
entry_fits e d undo next left room answers low =
    let len = entry_len true (length d.name) in
    placed_fits e d (fit_of (length d.name) len left room) undo (next (left - len) (room - len) answers) room
    (λ fits. (fits_in_fits (length d.name) len left room fits).1) (low (left - len) (room - len) answers)

looked_up_fits : (l : ListRequest) (d : Listed) (next : Next) (left room : ℕ) (answers : List FileAnswer) →
    ((left room : ℕ) (answers : List FileAnswer) → length (next left room answers).bytes ≤ room) →
    length (looked_up l d next left room answers).bytes ≤ room
looked_up_fits l d next left room ((call.HasEntry e) ∷ answers) low =
    entry_fits e d (forget_lookup l.context e.inode ∷ []) next left room answers low
looked_up_fits l d next left room _ low = omega arith

by_dot_fits : (l : ListRequest) (d : Listed) (next : Next) (left room : ℕ) (answers : List FileAnswer) (dot : Bool) → l.with_nodes ≡ true →
    is_dot d.name ≡ dot →
    ((left room : ℕ) (answers : List FileAnswer) → length (next left room answers).bytes ≤ room) →
    length (list_entry l d next left room answers).bytes ≤ room
by_dot_fits l d next left room answers true nodes dot low =
    subst (λ (w : ListingResult). length w.bytes ≤ room) (sym (dot_is l d next left room answers nodes dot))
    (entry_fits (no_node d) d (forget_lookup l.context 0 ∷ []) next left room answers low)
by_dot_fits l d next left room answers false nodes dot low =
    subst (λ (w : ListingResult). length w.bytes ≤ room) (sym (name_is l d next left room answers nodes dot))
    (looked_up_fits l d next left room answers low)

pub list_fits : (l : ListRequest) → l.with_nodes ≡ true → (ds : List Listed) (left room : ℕ) (answers : List FileAnswer) →
    length (list_entries l ds left room answers).bytes ≤ room
unfolding list_entries
list_fits l nodes [] left room answers = omega arith
list_fits l nodes (d ∷ ds) left room answers =
    by_dot_fits l d (list_entries l ds) left room answers (is_dot d.name) nodes refl (list_fits l nodes ds)

-- ---- without nodes no call is made

placed_asks_nothing : (bytes : List ℕ) (fit : Fit) (next : ListingResult) → next.calls ≡ [] → (placed fit bytes [] next).calls ≡ []
placed_asks_nothing bytes FitsIn next none = none
placed_asks_nothing bytes _ next none = refl

plain_is : (l : ListRequest) (d : Listed) (next : Next) (left room : ℕ) (answers : List FileAnswer) → l.with_nodes ≡ false →
    list_entry l d next left room answers
    ≡ with_entry false d (no_node d) [] next left room answers
plain_is l d next left room answers plain = rw plain refl

pub plain_asks_nothing : (l : ListRequest) → l.with_nodes ≡ false → (ds : List Listed) (left room : ℕ) (answers : List FileAnswer) →
    (list_entries l ds left room answers).calls ≡ []
unfolding list_entries
plain_asks_nothing l plain [] left room answers = refl
plain_asks_nothing l plain (d ∷ ds) left room answers =
    let len = entry_len false (length d.name) in
    ap (λ (w : ListingResult). w.calls) (plain_is l d (list_entries l ds) left room answers plain)
    ∙ placed_asks_nothing (entry_bytes false (no_node d) d) (fit_of (length d.name) len left room)
    (list_entries l ds (left - len) (room - len) answers)
    (plain_asks_nothing l plain ds (left - len) (room - len) answers)
