-- what a request means fits the nodes in its reply
use Rattle.std.proofs.Common.{◌≡◌, ℕ, ◌-◌, ◌^◌, ◌<◌, ◌≤◌, Bool, true, false, List, [], ◌∷◌, ◌++◌, drop, Option, Some, Ok, Err, refl, ap}
use Rattle.std.proofs.Common.{sym, ◌∙◌, subst, arith, append-nil}
use Rattle.std.specs.Prelude.{◌==◌, if◌then◌else◌, IsTrue, nat_lt, nat_le, count_by, unwrap_or}
use Rattle.std.proofs.lemmas.Bool.{and_parts, ltb-true}
use Rattle.std.proofs.lemmas.List.Sums.{sum_by-cons}
use Rattle.vm_values.specs.Fields.{spelled}
use Rattle.fuse_in.specs.declared.session.InHeader.{InHeader}
use Rattle.fuse_in.specs.Records as inputs
use Rattle.fuse_wire.specs.declared.opcodes.Opcode.{Opcode}
use Rattle.fuse_wire.specs.declared.opcodes.Opcode.TheVariants as op
use Rattle.fuse_wire.specs.Opcodes.{opcode_of}
use Rattle.fuse_wire.specs.Records.{entry_out, open_out}
use Rattle.fuse_fs.specs.declared.answers.Entry.{Entry}
use Rattle.fuse_fs.specs.Answers.{entry_out_of}
use Rattle.fuse_fs.specs.Replies.{open_out_of}
use Rattle.fuse_fs.specs.Calls.{FileCall, FileAnswer, AnswerForm, kind_of, suits, is_of}
use Rattle.fuse_fs.specs.Calls as call
use Rattle.server_requests.specs.Reading.{Parsed, Sends, needs, record_parser, ◌>>◌}
use Rattle.server_meanings.specs.Grammar as grammar
use Rattle.server_meanings.specs.Grammar.{Meaning, Replies, Asks, FileCommand, One, Starts, Lists, Given, given, row, row_of, ended, meant}
use Rattle.server_meanings.specs.Grammar.{meaning, with_header}
use Rattle.server_replies.specs.WholeReplies.{error_bytes, reply_bytes}
use Rattle.server_calls.specs.Requests.{is_silent}
use Rattle.server_meanings.specs.Serving.{answer_bytes}
use Rattle.server_meanings.proofs.EachMeaning.{Each, MayAsk, like, like_of, meaning_holds, row_holds}
use Rattle.fs_device.specs.Books.{entry_count, forget_count, forgets_meant, opcode_in, replies_entry, lists_nodes, nodes_of, nodes_in}
use Rattle.fs_device.proofs.NodeLemmas.{drop_reply, drop_error, no_nodes, none_in_nothing, one_node}

-- ---- answers

-- the kinds of answers that have an entry
abbrev pub has_entry : AnswerForm → Bool
has_entry call.IsEntry = true
has_entry call.IsCreate = true
has_entry _ = false

of_other_kind : (n : ℕ) (kind : AnswerForm) (a : FileAnswer) → has_entry kind ≡ false → IsTrue (is_of kind a) → entry_count n a ≡ 0
of_other_kind n call.IsDone (call.HasEntry e) without h = absurd (cc)
of_other_kind n _ (call.HasEntry e) without h = absurd (cc)
of_other_kind n call.IsDone (call.Created e handle options) without h = absurd (cc)
of_other_kind n _ (call.Created e handle options) without h = absurd (cc)
of_other_kind n kind _ without h = refl

-- an answer of another kind has no entry
pub no_entry : (n : ℕ) (c : FileCall) (a : FileAnswer) → has_entry (kind_of c) ≡ false → IsTrue (suits c a) → entry_count n a ≡ 0
no_entry n c (call.HasEntry e) without h = of_other_kind n (kind_of c) (call.HasEntry e) without h
no_entry n c (call.Created e handle options) without h = of_other_kind n (kind_of c) (call.Created e handle options) without h
no_entry n c _ without h = refl

-- the nodes in the reply to each answer of a call are its entries
abbrev pub CallFits : (node : ℕ) → Option Opcode → FileCall → Type 0
CallFits n o c =
    (unique : ℕ) (a : FileAnswer) → IsTrue (suits c a) →
    count_by (λ k. k == n) (nodes_in o (drop 16 (answer_bytes unique c a))) ≡ entry_count n a

-- calls without entries
other_fits : (n : ℕ) (o : Opcode) (c : FileCall) → replies_entry o ≡ false → lists_nodes o ≡ false → has_entry (kind_of c) ≡ false →
    CallFits n (Some o) c
other_fits n o c a b without unique answer fits =
    ap (count_by (λ k. k == n)) (no_nodes o a b (drop 16 (answer_bytes unique c answer))) ∙ sym (no_entry n c answer without fits)

pub not_true : {X : Type 0} → false ≡ true → X
not_true e = absurd (cc)

-- the nodes in the reply to an answer are its entries
abbrev Counted : (node : ℕ) → Opcode → ℕ → FileCall → FileAnswer → Type 0
Counted n o unique c a = count_by (λ k. k == n) (nodes_of o (drop 16 (answer_bytes unique c a))) ≡ entry_count n a

failed_counts : (n : ℕ) (o : Opcode) (unique errno : ℕ) → count_by (λ k. k == n) (nodes_of o (drop 16 (error_bytes unique errno))) ≡ 0
failed_counts n o unique errno = rw (drop_error unique errno) refl

counted_once : (n x : ℕ) → count_by (λ k. k == n) (x ∷ []) ≡ (if x == n then 1 else 0)
counted_once n x = let e = sum_by-cons (λ (k : ℕ). if k == n then 1 else 0) x [] in omega (arith, e)

entry_counts : (n : ℕ) (o : Opcode) (unique : ℕ) (e : Entry ℕ) (more : List ℕ) → replies_entry o ≡ true → e.inode < 2 ^ 64 →
    count_by (λ k. k == n) (nodes_of o (drop 16 (reply_bytes unique (spelled (entry_out (entry_out_of e)) ++ more))))
    ≡ (if e.inode == n then 1 else 0)
entry_counts n o unique e more begins small =
    ap (λ (body : List ℕ). count_by (λ k. k == n) (nodes_of o body)) (drop_reply unique (spelled (entry_out (entry_out_of e)) ++ more))
    ∙ ap (count_by (λ k. k == n)) (one_node o (entry_out (entry_out_of e)) e.inode _ more refl begins small) ∙ counted_once n e.inode

entry_alone : (n : ℕ) (o : Opcode) (unique : ℕ) (e : Entry ℕ) → replies_entry o ≡ true → e.inode < 2 ^ 64 →
    count_by (λ k. k == n) (nodes_of o (drop 16 (reply_bytes unique (spelled (entry_out (entry_out_of e))))))
    ≡ (if e.inode == n then 1 else 0)
entry_alone n o unique e begins small =
    ap (λ (bytes : List ℕ). count_by (λ k. k == n) (nodes_of o (drop 16 (reply_bytes unique bytes))))
    (sym (append-nil (spelled (entry_out (entry_out_of e)))))
    ∙ entry_counts n o unique e [] begins small

-- by the answer, of a call that has a reply, and whose good answer is an entry
by_entry : (n : ℕ) (o : Opcode) (c : FileCall) (unique : ℕ) (a : FileAnswer) → replies_entry o ≡ true → is_silent c ≡ false →
    kind_of c ≡ call.IsEntry →
    ((bytes : List ℕ) → suits c (call.Bytes bytes) ≡ false) → IsTrue (suits c a) →
    Counted n o unique c a
by_entry n o c unique (call.Failed errno) begins reply_is kind no_bytes fits = failed_counts n o unique errno
by_entry n o c unique (call.HasEntry e) begins reply_is kind no_bytes fits =
    rw reply_is (entry_alone n o unique e begins (ltb-true e.inode (2 ^ 64) (rw kind at fits)))
by_entry n o c unique (call.Bytes bytes) begins reply_is kind no_bytes fits = not_true (sym (no_bytes bytes) ∙ fits)
by_entry n o c unique _ begins reply_is kind no_bytes fits = not_true (rw kind at fits)

by_creation : (n : ℕ) (o : Opcode) (c : FileCall) (unique : ℕ) (a : FileAnswer) → replies_entry o ≡ true → is_silent c ≡ false →
    kind_of c ≡ call.IsCreate →
    ((bytes : List ℕ) → suits c (call.Bytes bytes) ≡ false) → IsTrue (suits c a) →
    Counted n o unique c a
by_creation n o c unique (call.Failed errno) begins reply_is kind no_bytes fits = failed_counts n o unique errno
by_creation n o c unique (call.Created e handle options) begins reply_is kind no_bytes fits =
    rw reply_is (entry_counts n o unique e (spelled (open_out (open_out_of handle options))) begins
    (ltb-true e.inode (2 ^ 64) (and_parts (nat_lt e.inode (2 ^ 64)) (call.is_handle handle) (rw kind at fits)).0))
by_creation n o c unique (call.Bytes bytes) begins reply_is kind no_bytes fits = not_true (sym (no_bytes bytes) ∙ fits)
by_creation n o c unique _ begins reply_is kind no_bytes fits = not_true (rw kind at fits)

-- each call, at an opcode that is like it
call_fits : (n : ℕ) (c : FileCall) → CallFits n (Some (like_of c)) c
call_fits n (call.Lookup who k name) unique a fits =
    by_entry n op.Lookup (call.Lookup who k name) unique a refl refl refl (λ b. refl) fits
call_fits n (call.Symlink who link k name x) unique a fits =
    by_entry n op.Symlink (call.Symlink who link k name x) unique a refl refl refl (λ b. refl) fits
call_fits n (call.Mknod who k name m r u x) unique a fits =
    by_entry n op.Mknod (call.Mknod who k name m r u x) unique a refl refl refl (λ b. refl) fits
call_fits n (call.Mkdir who k name m u x) unique a fits =
    by_entry n op.Mkdir (call.Mkdir who k name m u x) unique a refl refl refl (λ b. refl) fits
call_fits n (call.Link who o k name) unique a fits =
    by_entry n op.Link (call.Link who o k name) unique a refl refl refl (λ b. refl) fits
call_fits n (call.Create who k name m t f u x) unique a fits =
    by_creation n op.Create (call.Create who k name m t f u x) unique a refl refl refl (λ b. refl) fits
call_fits n c unique a fits = other_fits n (like_of c) c refl refl refl unique a fits

nodes_alike : (o : Opcode) (body : List ℕ) → nodes_of o body ≡ nodes_of (like o) body
nodes_alike op.Lookup body = refl
nodes_alike _ body = refl

like_fits : (n : ℕ) (o : Opcode) (c : FileCall) → like_of c ≡ like o → CallFits n (Some o) c
like_fits n o c alike unique a fits =
    ap (count_by (λ k. k == n)) (nodes_alike o (drop 16 (answer_bytes unique c a)))
    ∙ (subst (λ (p : Opcode). CallFits n (Some p) c) alike (call_fits n c)) unique a fits

-- ---- rows of the grammar

-- a listing without nodes has none in its reply; one with nodes is READDIRPLUS, in a room with a place for the header
abbrev pub ListFits : (room : ℕ) → Option Opcode → (with_nodes : Bool) → Type 0
ListFits room o true = (o ≡ Some op.Readdirplus) × (16 ≤ room)
ListFits room o false = (bytes : List ℕ) → nodes_in o bytes ≡ []

-- the nodes in the reply are the entries of the answers
abbrev pub MeaningFits : (node room : ℕ) → Option Opcode → Meaning → Type 0
MeaningFits n room o (Replies bytes) = nodes_in o (drop 16 bytes) ≡ []
MeaningFits n room o (Asks (One unique c)) = CallFits n o c
MeaningFits n room o (Asks (Starts unique capable readahead)) = (bytes : List ℕ) → nodes_in o bytes ≡ []
MeaningFits n room o (Asks (Lists unique l)) = ListFits room o l.with_nodes
MeaningFits n room o _ = Unit {0}

-- the opcodes that take counts back
abbrev takes_back : Opcode → Bool
takes_back op.Forget = true
takes_back _ = false

no_count : (n : ℕ) (c : FileCall) → takes_back (like_of c) ≡ false → forget_count n c ≡ 0
no_count n (call.Forget who k count) none = absurd (cc)
no_count n (call.BatchForget who counts) none = absurd (cc)
no_count n _ none = refl

-- the meaning of a request fits it, and only FORGET and BATCH_FORGET take a count back
abbrev Fits : (node room : ℕ) → Option Opcode → Meaning → Type 0
Fits n room o m = MeaningFits n room o m × ((p : Opcode) → o ≡ Some p → takes_back (like p) ≡ false → forgets_meant n m ≡ 0)

-- the opcode in Some
opcode_alone : (o p : Opcode) → Some o ≡ Some p → o ≡ p
opcode_alone o p e = ap (λ (k : Option Opcode). unwrap_or k o) e

list_fits : (o : Opcode) (room : ℕ) (with_nodes : Bool) → o ≡ (if with_nodes then op.Readdirplus else op.Readdir) → 16 ≤ room →
    ListFits room (Some o) with_nodes
list_fits o room true is fits = (ap Some is, fits)
list_fits o room false is fits = subst (λ (p : Opcode). (bytes : List ℕ) → nodes_of p bytes ≡ []) (sym is) (no_nodes op.Readdir refl refl)

asked_fits : (n room : ℕ) (o : Opcode) (command : FileCommand) → MayAsk room o command → Fits n room (Some o) (Asks command)
asked_fits n room o (One unique c) alike = (
  like_fits n o c alike,
  λ p same none. no_count n c (ap takes_back alike ∙ ap (λ (k : Opcode). takes_back (like k)) (opcode_alone o p same) ∙ none),
)
asked_fits n room o (Starts unique capable readahead) is =
    (subst (λ (p : Opcode). (bytes : List ℕ) → nodes_of p bytes ≡ []) (sym is) (no_nodes op.Init refl refl), λ p same none. refl)
asked_fits n room o (Lists unique l) is = (list_fits o room l.with_nodes is.0 is.1, λ p same none. refl)

each_fits : (n room : ℕ) → Each (Fits n room) room
each_fits n room = record {
  faults = λ o e. (tt, λ p same none. refl);
  sends = λ o unique errno. (ap (nodes_in o) (drop_error unique errno) ∙ none_in_nothing o, λ p same none. refl);
  silent = (tt, λ p same none. refl);
  versions = λ unique. (no_nodes op.Init refl refl _, λ p same none. refl);
  asks = asked_fits n room;
}

-- ---- neither the options nor the room matters to the counts that a request takes back

-- the counts that an opcode's request takes back
abbrev taken_back : (n : ℕ) → Given → Opcode → List ℕ → ℕ
taken_back n g o bytes = forgets_meant n (ended g.header.unique (row g o bytes))

none_taken : (n : ℕ) (g : Given) (o : Opcode) (bytes : List ℕ) → takes_back (like o) ≡ false → taken_back n g o bytes ≡ 0
none_taken n g o bytes none = (row_holds (Fits n g.room) g (each_fits n g.room) o bytes).1 o refl none

row_same : (n : ℕ) (g : Given) (o : Opcode) (bytes : List ℕ) → taken_back n g o bytes ≡ taken_back n (given g.header 0 0) o bytes
unfolding row
row_same n g op.Forget bytes = refl
row_same n g op.BatchForget bytes = refl
row_same n g o bytes = none_taken n g o bytes refl ∙ sym (none_taken n (given g.header 0 0) o bytes refl)

body_same : (n : ℕ) (g : Given) (b : Bool) (o : Option Opcode) (bytes : List ℕ) →
    forgets_meant n (ended g.header.unique ((needs b (Sends grammar.ENOMEM) >> row_of g o) bytes))
    ≡ forgets_meant n (ended g.header.unique ((needs b (Sends grammar.ENOMEM) >> row_of (given g.header 0 0) o) bytes))
body_same n g true (Some o) bytes = row_same n g o bytes
body_same n g _ _ bytes = refl

header_same : (n options room : ℕ) (r : Parsed InHeader) →
    forgets_meant n (with_header options room r) ≡ forgets_meant n (with_header 0 0 r)
unfolding meant
header_same n options room (Ok x) =
    body_same n (given x.0 options room) (nat_le x.0.len 0x101000) (opcode_of x.0.opcode) x.1
header_same n options room (Err e) = refl

-- what a request means fits its opcode, and neither the options nor the room matters to the counts that it takes back
pub meaning_fits : (n options room : ℕ) (bs : List ℕ) →
    MeaningFits n room (opcode_in bs) (meaning options bs room)
    × (forgets_meant n (meaning options bs room) ≡ forgets_meant n (meaning 0 bs 0))
unfolding meaning
meaning_fits n options room bs =
    ((meaning_holds (Fits n room) options room (each_fits n room) bs).0, header_same n options room (record_parser inputs.in_header bs))
