-- The rows of the grammar, by what was read.
use Rattle.std.proofs.Common.{◌≡◌, ℕ, ◌+◌, ◌-◌, ◌<◌, ◌≤◌, true, false, List, [], ◌++◌, length, Result, Ok, Err, Option, None, refl, sym, ap}
use Rattle.std.proofs.Common.{◌∙◌, arith, Bool}
use Rattle.std.specs.Prelude.{IsTrue, nat_le, bit_and, ◌*◌, ◌^◌, IfErr, IfOk, OnErr, Some, drop}
use Rattle.std.proofs.lemmas.Bool.{lt-ltb, le-ltb}
use Rattle.std.proofs.lemmas.Bool.Decides.{nat_tests}
use Rattle.fuse_in.specs.declared.session.InHeader.{InHeader}
use Rattle.fuse_in.specs.Shapes.{RecordShape}
use Rattle.fuse_in.specs.Records.{in_header, read_in, init_in_compat, getxattr_in, write_in}
use Rattle.fuse_in.specs.declared.session.InitInCompat.{InitInCompat}
use Rattle.fuse_in.specs.declared.files.ReadIn.{ReadIn}
use Rattle.fuse_in.specs.declared.nodes.GetxattrIn.{GetxattrIn}
use Rattle.fuse_wire.specs.declared.opcodes.Opcode.{Opcode}
use Rattle.fuse_wire.specs.declared.opcodes.Opcode.TheVariants as op
use Rattle.fuse_wire.specs.Opcodes.{opcode_of}
use Rattle.fuse_fs.specs.Answers.{data_answer, written_answer}
use Rattle.fuse_fs.specs.Calls.{FileCall, suits, Failed}
use Rattle.fuse_fs.specs.Transfers.{moved}
use Rattle.server_requests.specs.Reading.{Parser, ◌>>◌, Faults, Sends, and_then, within, value_of, record_parser, last_name}
use Rattle.server_meanings.specs.Grammar.{IsFault, Replies, Asks, One, Starts, Given, given, one, row, row_of, meant, meaning, record_row}
use Rattle.server_meanings.specs.Grammar.{name_row, bytes_row, ended}
use Rattle.server_requests.specs.Fronts.{counted, flags2_of}
use Rattle.server_replies.specs.WholeReplies.{error_bytes, reply_bytes, versions_bytes, with_written, whole_or_none, data_reply}
use Rattle.server_replies.specs.WholeReplies.{listing_answer, listing_bytes, data_header}
use Rattle.server_meanings.specs.Grammar.{started, known_options, read_asked, read_row, init_row, ENOMEM}
use Rattle.server_meanings.specs.Grammar.{at_most_a_mebibyte, listxattr_row, Lists, write_row, listing_asked, listing_row, symlink_row}
use Rattle.server_calls.specs.Requests.{read_call, listxattr_call, write_call, symlink_call}
use Rattle.server_meanings.specs.Listings.{listing_of, ListRequest, readdir_call}
use Rattle.server_meanings.specs.Serving.{answer_bytes}
use Rattle.fuse_in.specs.declared.files.WriteIn.{WriteIn}
use Rattle.server_requests.specs.Extras.{new_link}
use Rattle.server_segments.specs.declared.error.Error.{Error}
use Rattle.server_segments.specs.declared.error.Error.TheVariants.{DecodeMessage, EncodeMessage}
use Rattle.std.proofs.lemmas.List.{append-nil, drop_at, nil_from_length}
use Rattle.server_replies.proofs.ReplyLemmas.{sent_fits, length_reply, length_error}
use Rattle.server_meanings.proofs.Serve.{ask_of, ended_parts, ended_fault}

pub meant_long : (g : Given) (bytes : List ℕ) → 0x101000 < g.header.len → meant g bytes ≡ Replies (error_bytes g.header.unique 12)
unfolding meant
meant_long g bytes h =
    let test : nat_le g.header.len 0x101000 ≡ false = grind (arith, nat_tests) in
    rw test refl

pub meant_row : (g : Given) (bytes : List ℕ) (o : Option Opcode) → g.header.len ≤ 0x101000 → opcode_of g.header.opcode ≡ o →
    meant g bytes ≡ ended g.header.unique (row_of g o bytes)
unfolding meant
meant_row g bytes o h e =
    let test : nat_le g.header.len 0x101000 ≡ true = grind (arith, nat_tests) in
    rw (test, e) refl

pub meant_none : (g : Given) (bytes : List ℕ) → g.header.len ≤ 0x101000 → opcode_of g.header.opcode ≡ None →
    meant g bytes ≡ Replies (error_bytes g.header.unique 38)
meant_none g bytes h e = meant_row g bytes None h e

-- a request that is one record
pub record_asks : {R : Type 0} → (g : Given) (s : RecordShape R) (call : InHeader → R → FileCall) (bytes more : List ℕ) (r : R)
    → Ok (r, more) ≡ record_parser s bytes
    → ended g.header.unique (record_row s call g bytes) ≡ Asks (One g.header.unique (call g.header r))
record_asks g s call bytes more r h = rw (← h) refl

-- a request that is one name
pub name_read : (g : Given) (call : InHeader → List ℕ → FileCall) (all bytes : List ℕ) → Ok bytes ≡ value_of (counted g.header.len 0 all)
    → ended g.header.unique (name_row call g all) ≡ ask_of g.header.unique (call g.header) (value_of (last_name bytes))
name_read g call all bytes h =
    ended_parts g.header.unique (λ x. x) (λ x. last_name) (λ x. call g.header) (counted g.header.len 0 all) bytes h

-- a request that is a record and bytes after it
pub bytes_read : {R A : Type 0}
    → (g : Given) (front : Given → Parser (R × List ℕ)) (parts : Given → R → Parser A) (call : InHeader → R → A → FileCall) (all : List ℕ)
    (r : R) (bytes : List ℕ) → Ok (r, bytes) ≡ value_of (front g all)
    → ended g.header.unique (bytes_row front parts call g all) ≡ ask_of g.header.unique (call g.header r) (value_of (parts g r bytes))
bytes_read g front parts call all r bytes h =
    ended_parts g.header.unique (λ x. x.1) (λ x. parts g x.0) (λ x. call g.header x.0) (front g all) (r, bytes) h

pub name_fault :
    (g : Given) (call : InHeader → List ℕ → FileCall) (all : List ℕ) (e : Error) → Err (Faults e) ≡ value_of (counted g.header.len 0 all)
    → ended g.header.unique (name_row call g all) ≡ IsFault e
name_fault g call all e h = ended_fault g.header.unique (λ x. and_then (within x.0 last_name x.1) (λ y. one g (call g.header y.0) y.1)) e
    (counted g.header.len 0 all) h

pub bytes_fault : {R A : Type 0} →
    (g : Given) (front : Given → Parser (R × List ℕ)) (parts : Given → R → Parser A) (call : InHeader → R → A → FileCall) (all : List ℕ)
    (e : Error) → Err (Faults e) ≡ value_of (front g all) → ended g.header.unique (bytes_row front parts call g all) ≡ IsFault e
bytes_fault g front parts call all e h =
    ended_fault g.header.unique (λ x. and_then (within x.0.1 (parts g x.0.0) x.1) (λ y. one g (call g.header x.0.0 y.0) y.1)) e
    (front g all) h

-- SYMLINK, by its names
pub symlink_read : (g : Given) (all bytes : List ℕ) → Ok bytes ≡ value_of (counted g.header.len 0 all)
    → ended g.header.unique (symlink_row g all) ≡ ask_of g.header.unique (symlink_call g.header) (value_of (new_link g.options bytes))
symlink_read g all bytes h =
    ended_parts g.header.unique (λ x. x) (λ x. new_link g.options) (λ x. symlink_call g.header) (counted g.header.len 0 all) bytes h

pub symlink_fault : (g : Given) (all : List ℕ) (e : Error) → Err (Faults e) ≡ value_of (counted g.header.len 0 all) →
    ended g.header.unique (symlink_row g all) ≡ IsFault e
symlink_fault g all e h =
    ended_fault g.header.unique (λ x. and_then (within x.0 (new_link g.options) x.1) (λ y. one g (symlink_call g.header y.0) y.1)) e
    (counted g.header.len 0 all) h

-- at most 2^20 bytes
pub sized :
    {A : Type 0} → (n : ℕ) (p : Parser A) (bytes : List ℕ) → n ≤ 2 ^ 20 → value_of ((at_most_a_mebibyte n >> p) bytes) ≡ value_of (p bytes)
sized n p bytes h =
    let test : nat_le n (2 ^ 20) ≡ true = grind (arith, nat_tests) in
    rw test refl

pub too_large :
    {A : Type 0} → (n : ℕ) (p : Parser A) (bytes : List ℕ) → 2 ^ 20 < n → value_of ((at_most_a_mebibyte n >> p) bytes) ≡ Err (Sends ENOMEM)
too_large n p bytes h =
    let test : nat_le n (2 ^ 20) ≡ false = grind (arith, nat_tests) in
    rw test refl

-- LISTXATTR, by its record
pub list_asks : (g : Given) (bytes more : List ℕ) (r : GetxattrIn) → Ok (r, more) ≡ record_parser getxattr_in bytes → r.size ≤ 2 ^ 20
    → ended g.header.unique (listxattr_row g bytes) ≡ Asks (One g.header.unique (listxattr_call g.header r))
list_asks g bytes more r e h =
    let test : nat_le r.size (2 ^ 20) ≡ true = grind (arith, nat_tests) in
    rw (← e, test) refl

pub list_large : (g : Given) (bytes more : List ℕ) (r : GetxattrIn) → Ok (r, more) ≡ record_parser getxattr_in bytes → 2 ^ 20 < r.size
    → ended g.header.unique (listxattr_row g bytes) ≡ Replies (error_bytes g.header.unique 12)
list_large g bytes more r e h =
    let test : nat_le r.size (2 ^ 20) ≡ false = grind (arith, nat_tests) in
    rw (← e, test) refl

pub list_short : (g : Given) (bytes : List ℕ) (e : Error) → Err (Faults e) ≡ record_parser getxattr_in bytes →
    ended g.header.unique (listxattr_row g bytes) ≡ IsFault e
list_short g bytes e h = rw (← h) refl

-- a READ with no place for the reply's header, or cut short
pub read_without_room :
    (g : Given) (r : ReadIn) (more : List ℕ) → g.room < 16 → ended g.header.unique (read_asked g r more) ≡ IsFault EncodeMessage
read_without_room g r more h =
    let test : nat_le 16 g.room ≡ false = grind (arith, nat_tests) in
    rw test refl

pub read_short : (g : Given) (bytes : List ℕ) (e : Error) → Err (Faults e) ≡ record_parser read_in bytes →
    ended g.header.unique (read_row g bytes) ≡ IsFault e
read_short g bytes e h = rw (← h) refl

-- an INIT that is cut short in its first record, or in its second
pub init_short : (g : Given) (bytes : List ℕ) (e : Error) → Err (Faults e) ≡ record_parser init_in_compat bytes →
    ended g.header.unique (init_row g bytes) ≡ IsFault e
init_short g bytes e h = rw (← h) refl

pub init_short_later : (g : Given) (bytes more : List ℕ) (r : InitInCompat) (e : Error) → Ok (r, more) ≡ record_parser init_in_compat bytes
    → Err (Faults e) ≡ flags2_of r more
    → ended g.header.unique (init_row g bytes) ≡ IsFault e
init_short_later g bytes more r e h k = rw (← h, ← k) refl

-- no reply
pub silent_returned : (room : ℕ) (result : Result ℕ Error) (written : List ℕ) → result ≡ Ok 0 → written ≡ [] →
    with_written result written ≡ whole_or_none room []
silent_returned room result written e w = let room_enough : 0 ≤ room = omega arith in rw (e, w, le-ltb room 0 room_enough) refl

-- a request by its header
pub meaning_head : (options room : ℕ) (request more : List ℕ) (h : InHeader) → Ok (h, more) ≡ record_parser in_header request →
    meaning options request room ≡ meant (given h options room) more
unfolding meaning
meaning_head options room request more h e = rw (← e) refl

pub meaning_fault : (options room : ℕ) (request : List ℕ) (e : Error) → Err (Faults e) ≡ record_parser in_header request →
    meaning options request room ≡ IsFault DecodeMessage
unfolding meaning
meaning_fault options room request e h = rw (← h) refl

-- INIT, by its versions
pub start_old : (g : Given) (r : InitInCompat) (flags2 : ℕ) (more : List ℕ) → r.major < 7 →
    ended g.header.unique (started g r flags2 more) ≡ Replies (error_bytes g.header.unique 71)
start_old g r flags2 more a = rw (lt-ltb r.major 7 a) refl

pub start_later : (g : Given) (r : InitInCompat) (flags2 : ℕ) (more : List ℕ) → 7 ≤ r.major → 7 < r.major
    → ended g.header.unique (started g r flags2 more) ≡ Replies (reply_bytes g.header.unique versions_bytes)
start_later g r flags2 more a b = rw (le-ltb r.major 7 a, lt-ltb 7 r.major b) refl

pub start_minor : (g : Given) (r : InitInCompat) (flags2 : ℕ) (more : List ℕ) → 7 ≤ r.major → r.major ≤ 7 → r.minor < 27
    → ended g.header.unique (started g r flags2 more) ≡ Replies (error_bytes g.header.unique 71)
start_minor g r flags2 more a b d = rw (le-ltb r.major 7 a, le-ltb 7 r.major b, lt-ltb r.minor 27 d) refl

pub start_asks : (g : Given) (r : InitInCompat) (flags2 : ℕ) (more : List ℕ) → 7 ≤ r.major → r.major ≤ 7 → 27 ≤ r.minor
    → ended g.header.unique (started g r flags2 more)
    ≡ Asks (Starts g.header.unique (bit_and (flags2 * 2 ^ 32 + r.flags) known_options) r.max_readahead)
start_asks g r flags2 more a b d = rw (le-ltb r.major 7 a, le-ltb 7 r.major b, le-ltb r.minor 27 d) refl

-- READ, by its record
pub read_asks : (g : Given) (r : ReadIn) (more : List ℕ) → 16 ≤ g.room →
    ended g.header.unique (read_asked g r more) ≡ Asks (One g.header.unique (read_call g.header (g.room - 16) r))
read_asks g r more h =
    let test : nat_le 16 g.room ≡ true = grind (arith, nat_tests) in
    rw test refl

-- the answer of `read` is one that it can have
pub read_suits : (h : InHeader) (room left : ℕ) (r : ReadIn) (answer : Result ℕ ℕ) (bytes : List ℕ) → room ≡ left + length bytes
    → IfErr answer (λ e. (0 < e) × (e < 4096)) → IsTrue (suits (read_call h room r) (data_answer answer bytes))
read_suits h room left r (Ok n) bytes e k = grind (arith, nat_tests, e)
read_suits h room left r (Err n) bytes e k = grind (arith, nat_tests, k.0, k.1)

-- the reply to data that has room is sent whole
data_sent : (room unique : ℕ) (answer : Result ℕ ℕ) (bytes : List ℕ) → 16 + length bytes ≤ room →
    whole_or_none room (data_reply unique answer bytes) ≡ Ok (data_reply unique answer bytes)
data_sent room unique (Ok k) bytes fits = sent_fits room (reply_bytes unique bytes) (rw (length_reply unique bytes) fits)
data_sent room unique (Err k) bytes fits =
    let enough : 16 ≤ room = omega (arith, fits) in
    sent_fits room (error_bytes unique k) (rw (length_error unique k) enough)

-- a header, and the data behind it
pub read_returned : (room unique : ℕ) (h : InHeader) (left : ℕ) (r : ReadIn) (answer : Result ℕ ℕ) (front before written bytes : List ℕ)
    (n : ℕ)
    → length front ≡ 16 → before ≡ front ++ bytes → 16 + length bytes ≤ room → written ≡ data_reply unique answer (drop 16 before)
    → with_written (Ok n) written ≡ whole_or_none room (answer_bytes unique (read_call h left r) (data_answer answer bytes))
read_returned room unique h left r (Ok k) front before written bytes n l e fits w =
    let back : drop 16 before ≡ bytes = rw e (drop_at front bytes 16 l) in
    ap Ok (w ∙ ap (reply_bytes unique) back) ∙ sym (sent_fits room (reply_bytes unique bytes) (rw (length_reply unique bytes) fits))
read_returned room unique h left r (Err k) front before written bytes n l e fits w =
    let enough : 16 ≤ room = omega (arith, fits) in
    ap Ok w ∙ sym (sent_fits room (error_bytes unique k) (rw (length_error unique k) enough))

-- the same, where the data stands apart from the header
pub read_returned_apart : (room unique : ℕ) (h : InHeader) (left : ℕ) (r : ReadIn) (answer : Result ℕ ℕ) (header bytes : List ℕ) (n : ℕ)
    → header ≡ data_header unique answer → IfOk answer (λ k. k ≡ length bytes) → OnErr answer (length bytes ≡ 0) → 16 + length bytes ≤ room
    → with_written (Ok n) (header ++ bytes) ≡ whole_or_none room (answer_bytes unique (read_call h left r) (data_answer answer bytes))
unfolding reply_bytes
read_returned_apart room unique h left r (Ok k) header bytes n e long none fits =
    let is : header ++ bytes ≡ reply_bytes unique bytes = rw (e, long) refl in
    ap Ok is ∙ sym (sent_fits room (reply_bytes unique bytes) (rw (length_reply unique bytes) fits))
read_returned_apart room unique h left r (Err k) header bytes n e long none fits =
    let enough : 16 ≤ room = omega (arith, fits) in
    let is : header ++ bytes ≡ error_bytes unique k = rw (e, nil_from_length bytes none) (append-nil (error_bytes unique k)) in
    ap Ok is ∙ sym (sent_fits room (error_bytes unique k) (rw (length_error unique k) enough))

-- how many bytes came of a read that put nothing in if it failed
pub moved_all : (answer : Result ℕ ℕ) (bytes : List ℕ) → IfOk answer (λ n. n ≡ length bytes) → OnErr answer (length bytes ≡ 0) →
    moved answer ≡ length bytes
moved_all (Ok n) bytes long none = long
moved_all (Err e) bytes long none = sym none

-- a READ, by its header and its record
pub read_means : (options room : ℕ) (request more rest : List ℕ) (h : InHeader) (r : ReadIn)
    → Ok (h, more) ≡ record_parser in_header request
    → Ok (r, rest) ≡ record_parser read_in more
    → h.len ≤ 0x101000 → opcode_of h.opcode ≡ Some op.Read → 16 ≤ room
    → meaning options request room ≡ Asks (One h.unique (read_call h (room - 16) r))
unfolding row
read_means options room request more rest h r e k short is fits =
    meaning_head options room request more h e ∙ meant_row (given h options room) more (Some op.Read) short is
    ∙ rw (← k) (read_asks (given h options room) r rest fits)

-- WRITE, by its record and what is left
pub write_asks : (g : Given) (bytes more : List ℕ) (r : WriteIn) → Ok (r, more) ≡ record_parser write_in bytes
    → ended g.header.unique (write_row g bytes) ≡ Asks (One g.header.unique (write_call g.header r more))
write_asks g bytes more r h = rw (← h) refl

pub write_short : (g : Given) (bytes : List ℕ) (e : Error) → Err (Faults e) ≡ record_parser write_in bytes →
    ended g.header.unique (write_row g bytes) ≡ IsFault e
write_short g bytes e h = rw (← h) refl

pub write_suits : (h : InHeader) (r : WriteIn) (bytes : List ℕ) (answer : Result ℕ ℕ) → IfErr answer (λ e. (0 < e) × (e < 4096))
    → IfOk answer (λ n. n < 2 ^ 32)
    → IsTrue (suits (write_call h r bytes) (written_answer answer))
write_suits h r bytes (Ok n) k c = grind (arith, nat_tests, c)
write_suits h r bytes (Err n) k c = grind (arith, nat_tests, k.0, k.1)

-- a listing, by its record
pub listing_short : (with_nodes : Bool) (g : Given) (bytes : List ℕ) (e : Error) → Err (Faults e) ≡ record_parser read_in bytes →
    ended g.header.unique (listing_row with_nodes g bytes) ≡ IsFault e
listing_short with_nodes g bytes e h = rw (← h) refl

pub listing_long : (with_nodes : Bool) (g : Given) (r : ReadIn) (more : List ℕ) → 2 ^ 20 < r.size →
    ended g.header.unique (listing_asked with_nodes r g more) ≡ Replies (error_bytes g.header.unique 12)
listing_long with_nodes g r more h =
    let test : nat_le r.size (2 ^ 20) ≡ false = grind (arith, nat_tests) in
    rw test refl

pub listing_wide : (with_nodes : Bool) (g : Given) (r : ReadIn) (more : List ℕ) → r.size ≤ 2 ^ 20 → g.room < r.size
    → ended g.header.unique (listing_asked with_nodes r g more) ≡ Replies (error_bytes g.header.unique 12)
listing_wide with_nodes g r more h k =
    let test : nat_le r.size (2 ^ 20) ≡ true = grind (arith, nat_tests) in
    let room : nat_le r.size g.room ≡ false = grind (arith, nat_tests) in
    rw (test, room) refl

pub listing_without_room : (with_nodes : Bool) (g : Given) (r : ReadIn) (more : List ℕ) → r.size ≤ 2 ^ 20 → r.size ≤ g.room → g.room < 16
    → ended g.header.unique (listing_asked with_nodes r g more) ≡ IsFault EncodeMessage
listing_without_room with_nodes g r more h k l =
    let test : nat_le r.size (2 ^ 20) ≡ true = grind (arith, nat_tests) in
    let room : nat_le r.size g.room ≡ true = grind (arith, nat_tests) in
    let place : nat_le 16 g.room ≡ false = grind (arith, nat_tests) in
    rw (test, room, place) refl

pub listing_asks : (with_nodes : Bool) (g : Given) (r : ReadIn) (more : List ℕ) → r.size ≤ 2 ^ 20 → r.size ≤ g.room → 16 ≤ g.room
    → ended g.header.unique (listing_asked with_nodes r g more) ≡ Asks (Lists g.header.unique (listing_of with_nodes g.header r))
listing_asks with_nodes g r more h k l =
    let test : nat_le r.size (2 ^ 20) ≡ true = grind (arith, nat_tests) in
    let room : nat_le r.size g.room ≡ true = grind (arith, nat_tests) in
    let place : nat_le 16 g.room ≡ true = grind (arith, nat_tests) in
    rw (test, room, place) refl

-- a header, and the entries behind it
pub listing_returned : (room unique n : ℕ) (with_nodes : Bool) (front before written bytes : List ℕ) (error : Option ℕ) → length front ≡ 16
    → before ≡ front ++ bytes
    → 16 + length bytes ≤ room → written ≡ listing_bytes unique with_nodes (drop 16 before) error
    → with_written (Ok n) written ≡ whole_or_none room (listing_bytes unique with_nodes bytes error)
listing_returned room unique n with_nodes front before written bytes error l e fits w =
    let back : drop 16 before ≡ bytes = rw e (drop_at front bytes 16 l) in
    ap Ok (w ∙ ap (λ (b : List ℕ). listing_bytes unique with_nodes b error) back)
    ∙ sym (data_sent room unique (listing_answer (length bytes) with_nodes error) bytes fits)

pub listing_suits : (l : ListRequest) (errno : ℕ) → (0 < errno) × (errno < 4096) → IsTrue (suits (readdir_call l) (Failed errno))
listing_suits l errno k = grind (arith, nat_tests, k.0, k.1)
