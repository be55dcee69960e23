-- the nodes in the bytes of replies
use Rattle.std.proofs.Common.{◌≡◌, ℕ, suc, ◌+◌, ◌-◌, ◌^◌, ◌<◌, ◌≤◌, Bool, true, false, List, [], ◌∷◌, ◌++◌, length, take, drop, Option}
use Rattle.std.proofs.Common.{Some, None, refl, ap, ◌∙◌, arith, length-append, append_assoc}
use Rattle.std.specs.Prelude.{◌==◌, if◌then◌else◌, replicate, pos, nat_lt, nat_le}
use Rattle.std.specs.Int.{w32, w64, to_le_bytes, from_le_bytes}
use Rattle.std.proofs.lemmas.Bool.{leb-false, ltb-false}
use Rattle.std.proofs.lemmas.Bool.Decides.{nat_tests}
use Rattle.std.proofs.lemmas.Nat.{from_le_bytes-to_le_bytes_4, from_le_bytes-to_le_bytes_8}
use Rattle.std.proofs.lemmas.List.{drop_all, drop_at, length-replicate}
use Rattle.vm_values.specs.Fields.{Field, q, field_bytes, spelled}
use Rattle.vm_values.specs.UniqueProof.{then_is}
use Rattle.fuse_wire.specs.declared.opcodes.Opcode.{Opcode}
use Rattle.fuse_wire.specs.Records.{entry_out, dirent, out_header}
use Rattle.fuse_fs.specs.declared.answers.Entry.{Entry}
use Rattle.fuse_fs.specs.Answers.{entry_out_of}
use Rattle.fuse_fs.specs.Replies.{dirent_of}
use Rattle.fuse_fs.specs.Calls.{Listed}
use Rattle.server_replies.specs.WholeReplies.{reply_bytes, error_bytes}
use Rattle.server_replies.specs.Entries.{dirent_len, entry_len, dirent_bytes, node_bytes, entry_bytes, fit_of, FitsIn, IsFull, IsWrong, EIO}
use Rattle.server_replies.specs.Entries.{EOVERFLOW}
use Rattle.server_replies.proofs.ReplyLemmas.{length_header, length_error}
use Rattle.fs_device.specs.Books.{replies_entry, lists_nodes, first_node, name_len_of, nodes_listed, nodes_of, nodes_in}

-- ---- what follows a header

pub drop_reply : (unique : ℕ) (body : List ℕ) → drop 16 (reply_bytes unique body) ≡ body
unfolding reply_bytes
drop_reply unique body =
    let header = spelled (out_header (record { len = 16 + length body; error = pos 0; unique = unique })) in
    drop_at header body 16 (length_header (record { len = 16 + length body; error = pos 0; unique = unique }))

pub drop_error : (unique errno : ℕ) → drop 16 (error_bytes unique errno) ≡ []
drop_error unique errno = drop_all 16 (error_bytes unique errno) (omega (arith, length_error unique errno))

-- ---- which nodes are in it

pub either_way : {A : Type 0} (b : Bool) (x : A) → (if b then x else x) ≡ x
either_way true x = refl
either_way false x = refl

pub no_nodes : (o : Opcode) → replies_entry o ≡ false → lists_nodes o ≡ false → (body : List ℕ) → nodes_of o body ≡ []
no_nodes o a b body = rw (a, b) (either_way (length body == 0) [])

pub none_in_nothing : (o : Option Opcode) → nodes_in o [] ≡ []
none_in_nothing None = refl
none_in_nothing (Some o) = refl

pub not_zero : (n : ℕ) → 0 < n → (n == 0) ≡ false
not_zero n h = grind (arith, nat_tests)

-- fields that begin with a number of eight bytes
front_is : (all : List Field) (n : ℕ) (fs : List Field) (more : List ℕ) → all ≡ q n ∷ fs →
    spelled all ++ more ≡ to_le_bytes w64 n ++ (spelled fs ++ more)
unfolding field_bytes
front_is all n fs more is =
    ap (λ (fields : List Field). spelled fields ++ more) is
    ∙ ap (λ (bytes : List ℕ). bytes ++ more) (then_is (to_le_bytes w64 n) fs)
    ∙ append_assoc (to_le_bytes w64 n) (spelled fs) more

number_front :
    (all : List Field) (n : ℕ) (fs : List Field) (more : List ℕ) → all ≡ q n ∷ fs → n < 2 ^ 64 → first_node (spelled all ++ more) ≡ n
number_front all n fs more is h = ap first_node (front_is all n fs more is) ∙ from_le_bytes-to_le_bytes_8 n h

longer_front : (all : List Field) (n : ℕ) (fs : List Field) (more : List ℕ) → all ≡ q n ∷ fs → 0 < length (spelled all ++ more)
longer_front all n fs more is =
    let e : length (spelled all ++ more) ≡ length (to_le_bytes w64 n ++ (spelled fs ++ more)) = ap length (front_is all n fs more is) in
    let k : length (to_le_bytes w64 n) ≡ 8 = refl in
    omega (arith, e, length-append (to_le_bytes w64 n) (spelled fs ++ more), k)

-- a reply that begins with an entry
pub one_node : (o : Opcode) (all : List Field) (n : ℕ) (fs : List Field) (more : List ℕ) → all ≡ q n ∷ fs → replies_entry o ≡ true →
    n < 2 ^ 64 → nodes_of o (spelled all ++ more) ≡ n ∷ []
one_node o all n fs more is begins small =
    rw (not_zero (length (spelled all ++ more)) (longer_front all n fs more is), begins)
    (ap (λ (k : ℕ). k ∷ []) (number_front all n fs more is small))

-- ---- the entries of READDIRPLUS

-- an entry that goes in has a name whose length fits, and the room has place for it
fits_by : (a b c : Bool) (x y : ℕ) → (if a then IsWrong x else if b then IsFull else if c then IsWrong y else FitsIn) ≡ FitsIn →
    (a ≡ false) × (c ≡ false)
fits_by false false false x y e = (refl, refl)
fits_by _ _ _ x y e = absurd (cc)

pub fits_in_fits : (name_len len left room : ℕ) → fit_of name_len len left room ≡ FitsIn → (name_len < 2 ^ 32) × (len ≤ room)
unfolding fit_of
fits_in_fits name_len len left room e =
    let h = fits_by (nat_le (2 ^ 32) name_len) (nat_lt left len) (nat_lt room len) EOVERFLOW EIO e in
    (leb-false (2 ^ 32) name_len h.0, ltb-false room len h.1)

length_node : (e : Entry ℕ) → length (node_bytes e) ≡ 128
unfolding field_bytes node_bytes
length_node e = refl

length_dirent : (d : Listed) → length (dirent_bytes d) ≡ dirent_len (length d.name)
unfolding field_bytes dirent_bytes
length_dirent d =
    let zeros : List ℕ = replicate (dirent_len (length d.name) - (24 + length d.name)) 0 in
    let all = length-append (spelled (dirent (dirent_of d))) (d.name ++ zeros) in
    let head : length (spelled (dirent (dirent_of d))) ≡ 24 = refl in
    let filled : length zeros ≡ dirent_len (length d.name) - (24 + length d.name) =
    length-replicate (dirent_len (length d.name) - (24 + length d.name)) 0 in
    omega (arith, all, head, length-append d.name zeros, filled)

pub length_entry : (e : Entry ℕ) (d : Listed) → length (entry_bytes true e d) ≡ entry_len true (length d.name)
length_entry e d = length-append (node_bytes e) (dirent_bytes d) ∙ omega (arith, length_node e, length_dirent d)

name_len_there :
    (e : Entry ℕ) (d : Listed) (more : List ℕ) → length d.name < 2 ^ 32 → name_len_of (entry_bytes true e d ++ more) ≡ length d.name
unfolding field_bytes node_bytes dirent_bytes
name_len_there e d more small =
    let there : take 4 (drop 144 (entry_bytes true e d ++ more)) ≡ to_le_bytes w32 (length d.name) = refl in
    ap (from_le_bytes w32) there ∙ from_le_bytes-to_le_bytes_4 (length d.name) small

node_there : (e : Entry ℕ) (d : Listed) (more : List ℕ) → e.inode < 2 ^ 64 → first_node (entry_bytes true e d ++ more) ≡ e.inode
unfolding node_bytes
node_there e d more small = ap first_node (append_assoc (node_bytes e) (dirent_bytes d) more)
    ∙ number_front (entry_out (entry_out_of e)) e.inode _ (dirent_bytes d ++ more) refl small

pub nodes_more : (most : ℕ) (e : Entry ℕ) (d : Listed) (more : List ℕ) → e.inode < 2 ^ 64 → length d.name < 2 ^ 32 →
    nodes_listed (suc most) (entry_bytes true e d ++ more) ≡ e.inode ∷ nodes_listed most more
unfolding nodes_listed
nodes_more most e d more node name =
    let bytes = entry_bytes true e d ++ more in
    let whole = length_entry e d in
    let long : 0 < length bytes = (let l = length-append (entry_bytes true e d) more in omega (arith, l, whole)) in
    let behind : drop (entry_len true (name_len_of bytes)) bytes ≡ more =
    ap (λ (n : ℕ). drop (entry_len true n) bytes) (name_len_there e d more name)
    ∙ drop_at (entry_bytes true e d) more (entry_len true (length d.name)) whole in
    rw (not_zero (length bytes) long)
    (ap (λ (n : ℕ). n ∷ nodes_listed most (drop (entry_len true (name_len_of bytes)) bytes)) (node_there e d more node)
    ∙ ap (λ (l : List ℕ). e.inode ∷ nodes_listed most l) behind)
