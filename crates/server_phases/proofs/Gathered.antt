-- Listings that are answered entry by entry, and what `served` lists.
use Rattle.std.proofs.Common.{◌≡◌, ◌+◌, ◌-◌, ◌<◌, ◌≤◌, ℕ, Bool, true, false, List, [], ◌∷◌, ◌++◌, length, take, drop, Ok, Err, Option, Some}
use Rattle.std.proofs.Common.{None, cond, refl, sym, ap, subst, ◌∙◌}
use Rattle.std.proofs.Common.{arith, append_assoc, append-nil, length-append}
use Rattle.std.specs.Prelude.{◌^◌, ◌&&◌, nat_lt, nat_le, replicate, Result, OnOk, IfErr}
use Rattle.std.proofs.lemmas.Bool.{le-ltb}
use Rattle.std.proofs.lemmas.Bool.Decides.{nat_tests}
use Rattle.std.proofs.lemmas.List.{take_at, length-replicate}
use Rattle.vm_values.specs.Fields.{field_bytes, spelled}
use Rattle.fuse_wire.specs.declared.replies.Dirent.{Dirent}
use Rattle.fuse_wire.specs.Records.{dirent}
use Rattle.fuse_fs.specs.declared.answers.Entry.{Entry}
use Rattle.fuse_fs.specs.Replies.{dirent_of}
use Rattle.fuse_fs.specs.Calls.{FileCall, FileAnswer, Listed, Lookup, HasEntry, Failed, Entries}
use Rattle.server_replies.specs.Entries.{Fit, FitsIn, IsFull, IsWrong, EIO, EOVERFLOW, dirent_len, entry_len, entry_bytes, dirent_bytes}
use Rattle.server_replies.specs.Entries.{node_bytes, fit_of, is_dot, no_node}
use Rattle.server_replies.specs.WholeReplies.{reply_bytes, error_bytes, listing_bytes, data_header}
use Rattle.server_replies.proofs.ReplyLemmas.{length_reply, length_error}
use Rattle.server_meanings.specs.Grammar.{FileCommand, Lists}
use Rattle.server_meanings.specs.Listings as asked
use Rattle.server_meanings.specs.Listings.{ListingResult, Next, after_call, forget_lookup, with_entry, list_entry, list_entries}
use Rattle.server_meanings.specs.Listings.{readdir_call}
use Rattle.server_meanings.specs.Serving.{Setting, ServedMessage, commanded, replied, list_ended}
use Rattle.server_phases.specs.declared.listing.Listing.{Listing}
use Rattle.server_phases.specs.declared.listing.NotAdded.{NotAdded}
use Rattle.server_phases.specs.declared.listing.NotAdded.TheVariants.{TooLong, Full, NoRoom, ShortList}
use Rattle.server_phases.specs.Gathering.{Brought, EndsList, FailsList, Holds, IsListingFor, StaysBut, is_looked_up, node_of, bytes_of}
use Rattle.server_phases.specs.Gathering.{all_bytes}
use Rattle.server_phases.specs.Gathering.{all_found, found_of, entries_of, look_up, look_ups, forget_listed, placed, put_at, error_of}
use Rattle.server_phases.specs.Waiting.{first_call}

if_err_map : {A E : Type 0} → (r : Result A E) (P Q : E → Type 0) → IfErr r P → ((e : E) → P e → Q e) → IfErr r Q
if_err_map (Ok a) P Q p k = tt
if_err_map (Err e) P Q p k = k e p

length_head : (d : Dirent) → length (spelled (dirent d)) ≡ 24
unfolding field_bytes
length_head d = refl

length_node : (e : Entry ℕ) → length (node_bytes e) ≡ 128
unfolding node_bytes field_bytes
length_node e = refl

length_dirent : (d : Listed) → length (dirent_bytes d) ≡ dirent_len (length d.name)
unfolding dirent_bytes field_bytes
length_dirent d =
    let z = dirent_len (length d.name) - (24 + length d.name) in
    let none : List ℕ = replicate z 0 in
    let zeros : length none ≡ z = length-replicate {A = ℕ} z 0 in
    let whole : length (dirent_bytes d) ≡ length (spelled (dirent (dirent_of d))) + length (d.name ++ none) =
    length-append (spelled (dirent (dirent_of d))) (d.name ++ none) in
    let behind : length (d.name ++ none) ≡ length d.name + length none = length-append d.name none in
    let head = length_head (dirent_of d) in
    omega arith

-- an entry is as long as `entry_len` says
pub length_entry : (b : Bool) (e : Entry ℕ) (d : Listed) → length (entry_bytes b e d) ≡ entry_len b (length d.name)
length_entry true e d =
    let whole = length-append (node_bytes e) (dirent_bytes d) in
    let node = length_node e in
    let head = length_dirent d in
    omega arith
length_entry false e d =
    let head : length (entry_bytes false e d) ≡ dirent_len (length d.name) = length_dirent d in
    omega arith

name_short : (b : Bool) (n : ℕ) → n ≤ entry_len b n
name_short true n = omega arith
name_short false n = omega arith

abbrev yielded : List FileCall → List ℕ → Option ℕ → ListingResult
yielded calls bytes error = record { calls = calls; bytes = bytes; error = error }

fits : (n len left room : ℕ) → n < 2 ^ 32 → len ≤ left → len ≤ room → fit_of n len left room ≡ FitsIn
unfolding fit_of
fits n len left room s f g =
    let short : nat_le (2 ^ 32) n ≡ false = grind (arith, nat_tests) in
    rw (short, le-ltb left len f, le-ltb room len g) refl

fits_in : (b : Bool) (d : Listed) (e : Entry ℕ) (undo : List FileCall) (next : Next) (left room : ℕ) (answers : List FileAnswer)
    (w : ListingResult)
    → length d.name < 2 ^ 32 → entry_len b (length d.name) ≤ left → entry_len b (length d.name) ≤ room
    → next (left - entry_len b (length d.name)) (room - entry_len b (length d.name)) answers ≡ w
    → with_entry b d e undo next left room answers ≡ yielded w.calls (entry_bytes b e d ++ w.bytes) w.error
fits_in b d e undo next left room answers w s f g k = rw (fits (length d.name) (entry_len b (length d.name)) left room s f g, k) refl

brought_by : (b dot : Bool) (unique : ℕ) (l : asked.ListRequest) (e : Brought) (next : Next) (left room : ℕ) (answers : List FileAnswer)
    (w : ListingResult)
    → l.with_nodes ≡ b → is_dot e.0.name ≡ dot → length e.0.name < 2 ^ 32 → entry_len b (length e.0.name) ≤ left
    → entry_len b (length e.0.name) ≤ room
    → next (left - entry_len b (length e.0.name)) (room - entry_len b (length e.0.name)) answers ≡ w
    → list_entry l e.0 next left room (cond (is_looked_up l.with_nodes e.0) (HasEntry e.1 ∷ []) [] ++ answers)
    ≡ yielded (look_up (Lists unique l) e.0 ++ w.calls) (bytes_of l.with_nodes e ++ w.bytes) w.error
brought_by false dot unique l e next left room answers w n t s f g k =
    rw n (fits_in false e.0 (no_node e.0) [] next left room answers w s f g k)
brought_by true true unique l e next left room answers w n t s f g k =
    rw (n, t) (fits_in true e.0 (no_node e.0) (forget_lookup l.context 0 ∷ []) next left room answers w s f g k)
brought_by true false unique l e next left room answers w n t s f g k =
    rw (n, t) (ap (after_call (Lookup l.context l.node e.0.name))
    (fits_in true e.0 e.1 (forget_lookup l.context e.1.inode ∷ []) next left room answers w s f g k))

assoc : (a b c : List FileCall) (x y z : List ℕ) (e : Option ℕ) →
    yielded (a ++ (b ++ c)) (x ++ (y ++ z)) e ≡ yielded ((a ++ b) ++ c) ((x ++ y) ++ z) e
assoc a b c x y z e = rw (append_assoc a b c, append_assoc x y z) refl

length_brought :
    (b : Bool) (e : Brought) (es : List Brought) → length (all_bytes b (e ∷ es)) ≡ entry_len b (length e.0.name) + length (all_bytes b es)
length_brought b e es =
    let whole = length-append (bytes_of b e) (all_bytes b es) in
    let one = length_entry b (node_of e) e.0 in
    omega arith

-- entries that were brought are listed, and others after them
pub listed_all : (unique : ℕ) (l : asked.ListRequest) (es : List Brought) (ds : List Listed) (left room : ℕ) (answers : List FileAnswer)
    (w : ListingResult)
    → length (all_bytes l.with_nodes es) ≤ left → length (all_bytes l.with_nodes es) ≤ room → length (all_bytes l.with_nodes es) < 2 ^ 32
    → list_entries l ds (left - length (all_bytes l.with_nodes es)) (room - length (all_bytes l.with_nodes es)) answers ≡ w
    → list_entries l (entries_of es ++ ds) left room (all_found l.with_nodes es ++ answers)
    ≡ yielded (look_ups (Lists unique l) es ++ w.calls) (all_bytes l.with_nodes es ++ w.bytes) w.error
unfolding list_entries
listed_all unique l [] ds left room answers w f g s k =
    let here : left ≡ left - 0 = omega arith in
    let there : room ≡ room - 0 = omega arith in
    ap (λ n. list_entries l ds n room answers) here ∙ ap (λ n. list_entries l ds (left - 0) n answers) there ∙ k
listed_all unique l (e ∷ es) ds left room answers w f g s k =
    let b = l.with_nodes in
    let len = entry_len b (length e.0.name) in
    let rest = length (all_bytes b es) in
    let whole : length (all_bytes b (e ∷ es)) ≡ len + rest = length_brought b e es in
    let name : length e.0.name ≤ len = name_short b (length e.0.name) in
    let here : left - length (all_bytes b (e ∷ es)) ≡ left - len - rest = omega (arith, whole) in
    let there : room - length (all_bytes b (e ∷ es)) ≡ room - len - rest = omega (arith, whole) in
    let later : list_entries l ds (left - len - rest) (room - len - rest) answers ≡ w =
    sym (ap (λ n. list_entries l ds n (room - len - rest) answers) here)
    ∙ sym (ap (λ n. list_entries l ds (left - length (all_bytes b (e ∷ es))) n answers) there) ∙ k in
    let next : Next = list_entries l (entries_of es ++ ds) in
    let all = listed_all unique l es ds (left - len) (room - len) answers w (omega (arith, whole, f)) (omega (arith, whole, g))
    (omega (arith, whole, s)) later in
    let one = brought_by b (is_dot e.0.name) unique l e next left room (all_found b es ++ answers) _ refl refl
    (omega (arith, whole, s, name)) (omega (arith, whole, f)) (omega (arith, whole, g)) all in
    ap (list_entry l e.0 next left room) (append_assoc (cond (is_looked_up b e.0) (HasEntry e.1 ∷ []) []) (all_found b es) answers)
    ∙ one ∙ assoc (look_up (Lists unique l) e.0) (look_ups (Lists unique l) es) w.calls (bytes_of b e) (all_bytes b es) w.bytes w.error

listed_only : (unique : ℕ) (l : asked.ListRequest) (es : List Brought) (left room : ℕ)
    → length (all_bytes l.with_nodes es) ≤ left → length (all_bytes l.with_nodes es) ≤ room → length (all_bytes l.with_nodes es) < 2 ^ 32
    → list_entries l (entries_of es) left room (all_found l.with_nodes es)
    ≡ yielded (look_ups (Lists unique l) es) (all_bytes l.with_nodes es) None
unfolding list_entries
listed_only unique l es left room f g s =
    let all = listed_all unique l es [] left room [] (yielded [] [] None) f g s refl in
    simp append-nil at all

-- a reply that has room
whole_replied : (room options : ℕ) (calls : List FileCall) (reply : List ℕ) → length reply ≤ room →
    replied room calls options reply ≡ record { calls = calls; options = options; reply = reply; fault = None }
whole_replied room options calls reply f = rw (le-ltb room (length reply) f) refl

in_list : (unique len : ℕ) (list bytes : List ℕ) → len ≡ length bytes → take len list ≡ bytes →
    reply_bytes unique bytes ≡ data_header unique (Ok len) ++ take len list
unfolding reply_bytes
in_list unique len list bytes e t = rw (t, e) refl

abbrev pub by_reply : List FileCall → ℕ → List ℕ → ServedMessage
by_reply calls options reply = record { calls = calls; options = options; reply = reply; fault = None }

gives_list : (room options unique len : ℕ) (calls : List FileCall) (list bytes : List ℕ) → len ≡ length bytes → take len list ≡ bytes
    → 16 + len ≤ room
    → replied room calls options (reply_bytes unique bytes) ≡ by_reply calls options (data_header unique (Ok len) ++ take len list)
gives_list room options unique len calls list bytes e t f =
    let long = length_reply unique bytes in
    whole_replied room options calls (reply_bytes unique bytes) (omega (arith, long, e, f))
    ∙ ap (by_reply calls options) (in_list unique len list bytes e t)

gives_error : (room options unique errno : ℕ) (calls : List FileCall) (list : List ℕ) → 16 ≤ room
    → replied room calls options (error_bytes unique errno) ≡ by_reply calls options (error_bytes unique errno ++ take 0 list)
gives_error room options unique errno calls list f =
    whole_replied room options calls (error_bytes unique errno) (omega (arith, length_error unique errno, f))
    ∙ ap (by_reply calls options) (sym (append-nil (error_bytes unique errno)))

-- the entries so far are the reply
pub ends : (s : Setting) (l : Listing) (command : FileCommand) (list : List ℕ) (es : List Brought) → IsListingFor l s.room command
    → Holds l list es
    → commanded s command (Entries (entries_of es) ∷ all_found l.with_nodes es)
    ≡ by_reply (first_call command ∷ look_ups command es) s.options (data_header l.unique (Ok l.len) ++ take l.len list)
ends s l (Lists unique a) list es is holds =
    let long : l.len ≡ length (all_bytes a.with_nodes es) = holds.long ∙ ap (λ b. length (all_bytes b es)) is.1 in
    let stands : take l.len list ≡ all_bytes a.with_nodes es = holds.stands ∙ ap (λ b. all_bytes b es) is.1 in
    let size : l.size ≡ a.size = is.2 in
    let room : l.room ≡ s.room - 16 = is.3 in
    let place : 16 ≤ s.room = is.4 in
    let small = l.small in
    let asked = l.asked in
    let fits = l.fits in
    let all = listed_only unique a es a.size (s.room - 16) (omega (arith, long, size, asked)) (omega (arith, long, room, fits))
    (omega (arith, long, small, asked)) in
    ap (λ b. commanded s (Lists unique a) (Entries (entries_of es) ∷ all_found b es)) is.1 ∙ ap (list_ended s unique a) all
    ∙ gives_list s.room s.options unique l.len (readdir_call a ∷ look_ups (Lists unique a) es) list (all_bytes a.with_nodes es) long stands
    (omega (arith, room, fits, place))
    ∙ ap (λ u. by_reply (readdir_call a ∷ look_ups (Lists unique a) es) s.options (data_header u (Ok l.len) ++ take l.len list)) (sym is.0)
ends s l _ list es is holds = absurd is

-- how an entry doesn't go in that ends the list, by an error if there is one
abbrev out : Option ℕ → Fit
out None = IsFull
out (Some errno) = IsWrong errno

left_out : (b : Bool) (d : Listed) (e : Entry ℕ) (undo : List FileCall) (next : Next) (left room : ℕ) (answers : List FileAnswer)
    (error : Option ℕ)
    → fit_of (length d.name) (entry_len b (length d.name)) left room ≡ out error
    → with_entry b d e undo next left room answers ≡ yielded undo [] error
left_out b d e undo next left room answers None f = rw f refl
left_out b d e undo next left room answers (Some errno) f = rw f refl

out_by : (b dot : Bool) (unique : ℕ) (l : asked.ListRequest) (e : Brought) (next : Next) (left room : ℕ) (answers : List FileAnswer)
    (error : Option ℕ)
    → l.with_nodes ≡ b → is_dot e.0.name ≡ dot → fit_of (length e.0.name) (entry_len b (length e.0.name)) left room ≡ out error
    → list_entry l e.0 next left room (found_of l.with_nodes e ++ answers)
    ≡ yielded (look_up (Lists unique l) e.0 ++ forget_listed (Lists unique l) e) [] error
out_by false dot unique l e next left room answers error n t f = rw n (left_out false e.0 (no_node e.0) [] next left room answers error f)
out_by true true unique l e next left room answers error n t f =
    rw (n, t) (left_out true e.0 (no_node e.0) (forget_lookup l.context 0 ∷ []) next left room answers error f)
out_by true false unique l e next left room answers error n t f =
    rw (n, t) (ap (after_call (Lookup l.context l.node e.0.name))
    (left_out true e.0 e.1 (forget_lookup l.context e.1.inode ∷ []) next left room answers error f))

out_first :
    (unique : ℕ) (l : asked.ListRequest) (e : Brought) (behind : List Listed) (left room : ℕ) (answers : List FileAnswer) (error : Option ℕ)
    → fit_of (length e.0.name) (entry_len l.with_nodes (length e.0.name)) left room ≡ out error
    → list_entries l (e.0 ∷ behind) left room (found_of l.with_nodes e ++ answers)
    ≡ yielded (look_up (Lists unique l) e.0 ++ forget_listed (Lists unique l) e) [] error
unfolding list_entries
out_first unique l e behind left room answers error f =
    out_by l.with_nodes (is_dot e.0.name) unique l e (list_entries l behind) left room answers error refl refl f

-- how an entry fits what is left of a listing
abbrev fit_in : Listing → (name_len : ℕ) → Fit
fit_in l name_len = fit_of name_len (entry_len l.with_nodes name_len) (l.size - l.len) (l.room - l.len)

-- behind entries that are in, one that doesn't go in ends the list
out_behind : (s : Setting) (l : Listing) (unique : ℕ) (a : asked.ListRequest) (list : List ℕ) (es : List Brought) (e : Brought)
    (behind : List Listed) (answers : List FileAnswer)
    (error : Option ℕ) → IsListingFor l s.room (Lists unique a) → Holds l list es → fit_in l (length e.0.name) ≡ out error
    → list_entries a (entries_of es ++ e.0 ∷ behind) a.size (s.room - 16)
    (all_found a.with_nodes es ++ (found_of a.with_nodes e ++ answers))
    ≡ yielded (look_ups (Lists unique a) es ++ (look_up (Lists unique a) e.0 ++ forget_listed (Lists unique a) e))
    (all_bytes a.with_nodes es) error
out_behind s l unique a list es e behind answers error is holds fit =
    let b = a.with_nodes in
    let calls = look_up (Lists unique a) e.0 ++ forget_listed (Lists unique a) e in
    let long : l.len ≡ length (all_bytes b es) = holds.long ∙ ap (λ b. length (all_bytes b es)) is.1 in
    let size : l.size ≡ a.size = is.2 in
    let room : l.room ≡ s.room - 16 = is.3 in
    let small = l.small in
    let asked = l.asked in
    let fits = l.fits in
    let left : l.size - l.len ≡ a.size - length (all_bytes b es) = omega (arith, size, long) in
    let behind_it : l.room - l.len ≡ s.room - 16 - length (all_bytes b es) = omega (arith, room, long) in
    let n = length e.0.name in
    let here : fit_of n (entry_len b n) (a.size - length (all_bytes b es)) (s.room - 16 - length (all_bytes b es)) ≡ out error =
    sym (ap (λ b. fit_of n (entry_len b n) (l.size - l.len) (l.room - l.len)) is.1
    ∙ ap (λ x. fit_of n (entry_len a.with_nodes n) x (l.room - l.len)) left
    ∙ ap (λ x. fit_of n (entry_len a.with_nodes n) (a.size - length (all_bytes a.with_nodes es)) x) behind_it) ∙ fit in
    let one = out_first unique a e behind (a.size - length (all_bytes b es)) (s.room - 16 - length (all_bytes b es)) answers error here in
    let all = listed_all unique a es (e.0 ∷ behind) a.size (s.room - 16) (found_of b e ++ answers) _ (omega (arith, long, size, asked))
    (omega (arith, long, room, fits))
    (omega (arith, long, small, asked)) one in
    all ∙ ap (λ x. yielded (look_ups (Lists unique a) es ++ calls) x error) (append-nil (all_bytes b es))

full_ends : (l : Listing) (list : List ℕ) (e : Brought) → fit_in l (length e.0.name) ≡ IsFull → EndsList l list e
full_ends l list e full s (Lists unique a) es behind answers is holds =
    let command = Lists unique a in
    let calls = look_ups command es ++ (look_up command e.0 ++ forget_listed command e) in
    let long : l.len ≡ length (all_bytes a.with_nodes es) = holds.long ∙ ap (λ b. length (all_bytes b es)) is.1 in
    let stands : take l.len list ≡ all_bytes a.with_nodes es = holds.stands ∙ ap (λ b. all_bytes b es) is.1 in
    let room : l.room ≡ s.room - 16 = is.3 in
    let place : 16 ≤ s.room = is.4 in
    let fits = l.fits in
    let ended = ends s l command list es is holds in
    ap (λ b. commanded s command (Entries (entries_of es ++ e.0 ∷ behind) ∷ (all_found b es ++ (found_of b e ++ answers)))) is.1
    ∙ ap (list_ended s unique a) (out_behind s l unique a list es e behind answers None is holds full)
    ∙ gives_list s.room s.options unique l.len (readdir_call a ∷ calls) list (all_bytes a.with_nodes es) long stands
    (omega (arith, room, fits, place))
    ∙ ap (λ u. by_reply (readdir_call a ∷ calls) s.options (data_header u (Ok l.len) ++ take l.len list)) (sym is.0)
    ∙ sym (ap (λ (x : ServedMessage). record x { calls = x.calls ++ (look_up command e.0 ++ forget_listed command e) }) ended)
full_ends l list e full s _ es behind answers is holds = absurd is

failed_fits : (t b : Bool) (unique errno room : ℕ) (bytes : List ℕ) → (b && nat_lt 0 (length bytes)) ≡ t → 16 + length bytes ≤ room
    → length (listing_bytes unique b bytes (Some errno)) ≤ room
failed_fits true b unique errno room bytes t f = rw t (omega (arith, length_reply unique bytes, f))
failed_fits false b unique errno room bytes t f = rw t (omega (arith, length_error unique errno, f))

-- a list that an error ended
failed_replied :
    (s : Setting) (l : Listing) (unique errno : ℕ) (a : asked.ListRequest) (calls : List FileCall) (list : List ℕ) (es : List Brought)
    → IsListingFor l s.room (Lists unique a) → Holds l list es → list_ended s unique a
    (yielded calls (all_bytes a.with_nodes es) (Some errno))
    ≡ by_reply (readdir_call a ∷ calls) s.options (listing_bytes l.unique l.with_nodes (all_bytes l.with_nodes es) (Some errno))
failed_replied s l unique errno a calls list es is holds =
    let b = a.with_nodes in
    let bytes = all_bytes b es in
    let long : l.len ≡ length bytes = holds.long ∙ ap (λ b. length (all_bytes b es)) is.1 in
    let room : l.room ≡ s.room - 16 = is.3 in
    let place : 16 ≤ s.room = is.4 in
    let fits = l.fits in
    whole_replied s.room s.options (readdir_call a ∷ calls) (listing_bytes unique b bytes (Some errno))
    (failed_fits (b && nat_lt 0 (length bytes)) b unique errno s.room bytes refl (omega (arith, long, room, fits, place)))
    ∙ ap (λ u. by_reply (readdir_call a ∷ calls) s.options (listing_bytes u b bytes (Some errno))) (sym is.0)
    ∙ ap (λ b. by_reply (readdir_call a ∷ calls) s.options (listing_bytes l.unique b (all_bytes b es) (Some errno))) (sym is.1)

wrong_fails :
    (l : Listing) (list : List ℕ) (e : Brought) (errno : ℕ) → fit_in l (length e.0.name) ≡ IsWrong errno → FailsList l list e errno
wrong_fails l list e errno wrong s (Lists unique a) es behind answers is holds =
    let command = Lists unique a in
    ap (λ b. commanded s command (Entries (entries_of es ++ e.0 ∷ behind) ∷ (all_found b es ++ (found_of b e ++ answers)))) is.1
    ∙ ap (list_ended s unique a) (out_behind s l unique a list es e behind answers (Some errno) is holds wrong)
    ∙ failed_replied s l unique errno a (look_ups command es ++ (look_up command e.0 ++ forget_listed command e)) list es is holds
wrong_fails l list e errno wrong s _ es behind answers is holds = absurd is

abbrev outcome : Type 0
outcome = Result (Unit {0}) NotAdded

-- what comes of an entry, and how it fits, by the same tests
abbrev tested : (long full no_room short : Bool) → outcome
tested long full no_room short =
    cond long (Err TooLong) (cond full (Err Full) (cond no_room (Err NoRoom) (cond short (Err ShortList) (Ok tt))))

abbrev fit_tested : (long full no_room : Bool) → Fit
fit_tested long full no_room = cond long (IsWrong EOVERFLOW) (cond full IsFull (cond no_room (IsWrong EIO) FitsIn))

tested_full : (long full no_room short : Bool) → tested long full no_room short ≡ Err Full → fit_tested long full no_room ≡ IsFull
tested_full true full no_room short e = absurd (cc)
tested_full false true no_room short e = refl
tested_full false false true short e = absurd (cc)
tested_full false false false true e = absurd (cc)
tested_full false false false false e = absurd (cc)

tested_wrong : (long full no_room short : Bool) →
    IfErr (tested long full no_room short) (λ why. (errno : ℕ) → error_of why ≡ Some errno → fit_tested long full no_room ≡ IsWrong errno)
tested_wrong true full no_room short = λ errno e. cc
tested_wrong false true no_room short = λ errno e. absurd (cc)
tested_wrong false false true short = λ errno e. cc
tested_wrong false false false true = λ errno e. absurd (cc)
tested_wrong false false false false = tt

-- an entry that has no place ends the list
pub placed_full : (r : outcome) (l : Listing) (list : List ℕ) (list_len : ℕ) (e : Brought) → r ≡ placed l list_len (length e.0.name) →
    r ≡ Err Full → EndsList l list e
unfolding fit_of
placed_full r l list list_len e outcome full =
    let n = length e.0.name in
    let len = entry_len l.with_nodes n in
    full_ends l list e (tested_full (nat_le (2 ^ 32) n) (nat_lt (l.size - l.len) len) (nat_lt (l.room - l.len) len)
    (nat_lt list_len (l.len + len)) (sym outcome ∙ full))

-- one that is an error fails it
pub placed_wrong : (r : outcome) (l : Listing) (list : List ℕ) (list_len : ℕ) (e : Brought) → r ≡ placed l list_len (length e.0.name)
    → IfErr r (λ why. (errno : ℕ) → error_of why ≡ Some errno → FailsList l list e errno)
unfolding fit_of
placed_wrong r l list list_len e outcome =
    let n = length e.0.name in
    let len = entry_len l.with_nodes n in
    let wrong = tested_wrong (nat_le (2 ^ 32) n) (nat_lt (l.size - l.len) len) (nat_lt (l.room - l.len) len)
    (nat_lt list_len (l.len + len)) in
    subst (λ (x : Result (Unit {0}) NotAdded). IfErr x (λ why. (errno : ℕ) → error_of why ≡ Some errno → FailsList l list e errno))
    (sym outcome)
    (if_err_map (placed l list_len n) _ _ wrong (λ why k errno is. wrong_fails l list e errno (k errno is)))

-- an error alone
pub fails_alone : (s : Setting) (l : Listing) (command : FileCommand) (list : List ℕ) (errno : ℕ) → IsListingFor l s.room command
    → commanded s command (Failed errno ∷ []) ≡ by_reply (first_call command ∷ []) s.options (error_bytes l.unique errno ++ take 0 list)
fails_alone s l (Lists unique a) list errno is =
    gives_error s.room s.options unique errno (readdir_call a ∷ []) list is.4
    ∙ ap (λ u. by_reply (readdir_call a ∷ []) s.options (error_bytes u errno ++ take 0 list)) (sym is.0)
fails_alone s l _ list errno is = absurd is

not_found : (unique errno : ℕ) (l : asked.ListRequest) (d : Listed) (left room : ℕ) → l.with_nodes ≡ true → is_dot d.name ≡ false
    → list_entries l (d ∷ []) left room (Failed errno ∷ []) ≡ yielded (look_up (Lists unique l) d) [] (Some errno)
unfolding list_entries
not_found unique errno l d left room n t = rw (n, t) refl

-- a look-up failed: the error, but entries that came before it are the reply
pub look_up_failed : (s : Setting) (l : Listing) (command : FileCommand) (list : List ℕ) (es : List Brought) (d : Listed) (errno : ℕ)
    → IsListingFor l s.room command
    → Holds l list es → l.with_nodes ≡ true → is_dot d.name ≡ false
    → commanded s command (Entries (entries_of es ++ d ∷ []) ∷ (all_found true es ++ Failed errno ∷ []))
    ≡ by_reply (first_call command ∷ (look_ups command es ++ look_up command d)) s.options
    (listing_bytes l.unique l.with_nodes (all_bytes l.with_nodes es) (Some errno))
look_up_failed s l (Lists unique a) list es d errno is holds n t =
    let b = a.with_nodes in
    let nodes : b ≡ true = sym is.1 ∙ n in
    let calls = look_ups (Lists unique a) es ++ look_up (Lists unique a) d in
    let long : l.len ≡ length (all_bytes b es) = holds.long ∙ ap (λ b. length (all_bytes b es)) is.1 in
    let size : l.size ≡ a.size = is.2 in
    let room : l.room ≡ s.room - 16 = is.3 in
    let small = l.small in
    let asked = l.asked in
    let fits = l.fits in
    let one = not_found unique errno a d (a.size - length (all_bytes b es)) (s.room - 16 - length (all_bytes b es)) nodes t in
    let all = listed_all unique a es (d ∷ []) a.size (s.room - 16) (Failed errno ∷ []) _ (omega (arith, long, size, asked))
    (omega (arith, long, room, fits))
    (omega (arith, long, small, asked)) one in
    ap (λ b. commanded s (Lists unique a) (Entries (entries_of es ++ d ∷ []) ∷ (all_found b es ++ Failed errno ∷ []))) (sym nodes)
    ∙ ap (list_ended s unique a) (all ∙ ap (λ x. yielded calls x (Some errno)) (append-nil (all_bytes b es)))
    ∙ failed_replied s l unique errno a calls list es is holds
look_up_failed s l _ list es d errno is holds n t = absurd is

-- the reply of an error behind entries whose nodes are held: these
pub held_reply : (l : Listing) (list : List ℕ) (es : List Brought) (errno : ℕ) → Holds l list es → (l.with_nodes && nat_lt 0 l.len) ≡ true
    → data_header l.unique (Ok l.len) ++ take l.len list ≡ listing_bytes l.unique l.with_nodes (all_bytes l.with_nodes es) (Some errno)
held_reply l list es errno holds some =
    let has_nodes : (l.with_nodes && nat_lt 0 (length (all_bytes l.with_nodes es))) ≡ true =
    sym (ap (λ n. l.with_nodes && nat_lt 0 n) holds.long) ∙ some in
    rw has_nodes (sym (in_list l.unique l.len list (all_bytes l.with_nodes es) holds.long holds.stands))

-- else the error
pub error_reply : (l : Listing) (list : List ℕ) (es : List Brought) (errno : ℕ) → Holds l list es → (l.with_nodes && nat_lt 0 l.len) ≡ false
    → error_bytes l.unique errno ++ take 0 list ≡ listing_bytes l.unique l.with_nodes (all_bytes l.with_nodes es) (Some errno)
error_reply l list es errno holds none =
    let has_nodes : (l.with_nodes && nat_lt 0 (length (all_bytes l.with_nodes es))) ≡ false =
    sym (ap (λ n. l.with_nodes && nat_lt 0 n) holds.long) ∙ none in
    rw has_nodes (append-nil (error_bytes l.unique errno))

all_bytes_more : (b : Bool) (es : List Brought) (e : Brought) → all_bytes b (es ++ e ∷ []) ≡ all_bytes b es ++ bytes_of b e
all_bytes_more b [] e = append-nil (bytes_of b e)
all_bytes_more b (x ∷ xs) e =
    ap (λ (y : List ℕ). bytes_of b x ++ y) (all_bytes_more b xs e) ∙ sym (append_assoc (bytes_of b x) (all_bytes b xs) (bytes_of b e))

-- one entry more
pub holds_more : (old new : Listing) (list after : List ℕ) (es : List Brought) (e : Brought) → StaysBut old new
    → new.len ≡ old.len + entry_len old.with_nodes (length e.0.name) → after ≡ put_at old.len (bytes_of old.with_nodes e) list
    → Holds old list es → Holds new after (es ++ e ∷ [])
holds_more old new list after es e stays more put holds =
    let b = old.with_nodes in
    let all = all_bytes_more b es e in
    let nodes : all_bytes new.with_nodes (es ++ e ∷ []) ≡ all_bytes b es ++ bytes_of b e =
    ap (λ x. all_bytes x (es ++ e ∷ [])) stays.1 ∙ all in
    let one = length_entry b (node_of e) e.0 in
    let both = length-append (all_bytes b es) (bytes_of b e) in
    let whole : length (all_bytes b es ++ bytes_of b e) ≡ new.len = omega (arith, both, one, more, holds.long) in
    let front : after ≡ (all_bytes b es ++ bytes_of b e) ++ drop (old.len + length (bytes_of b e)) list =
    put ∙ ap (λ (x : List ℕ). (x ++ bytes_of b e) ++ drop (old.len + length (bytes_of b e)) list) holds.stands in
    record {
      long = sym whole ∙ ap length (sym nodes);
      stands = ap (take new.len) front
          ∙ take_at (all_bytes b es ++ bytes_of b e) (drop (old.len + length (bytes_of b e)) list) new.len whole ∙ sym nodes;
    }

-- the same where it is in
pub held_more :
    (r : Result (Unit {0}) NotAdded) (old new : Listing) (list after bytes : List ℕ) (d : Listed) (node : Entry ℕ) → StaysBut old new
    → OnOk r (new.len ≡ old.len + entry_len old.with_nodes (length d.name)) → OnOk r (after ≡ put_at old.len bytes list)
    → bytes ≡ bytes_of old.with_nodes (d, node)
    → OnOk r ((es : List Brought) → Holds old list es → Holds new after (es ++ (d, node) ∷ []))
held_more (Ok u) old new list after bytes d node stays len put same =
    λ es holds. holds_more old new list after es (d, node) stays len (put ∙ ap (λ (x : List ℕ). put_at old.len x list) same) holds
held_more (Err e) old new list after bytes d node stays len put same = tt
