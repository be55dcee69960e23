-- Worked examples of requests.
use Rattle.std.specs.Prelude.{◌≡◌, ℕ, true, false, ◌+◌, ◌-◌, ◌^◌, List, [], ◌∷◌, ◌++◌, replicate, Some, None}
use Rattle.std.specs.Prelude.{pos, refl, length}
use Rattle.std.specs.Int.{w16, w32, w64, to_le_bytes}
use Rattle.vm_values.specs.Fields.{field_bytes}
use Rattle.fuse_fs.specs.declared.answers.Context.{Context}
use Rattle.fuse_fs.specs.declared.answers.Entry.{Entry}
use Rattle.fuse_fs.specs.Calls.{FileAnswer, Lookup, Forget, Getattr, Mkdir, Create, Release, Rename, Wants}
use Rattle.fuse_fs.specs.Calls.{Listed, Readdir, Entries, HasEntry, Created, Done}
use Rattle.server_segments.specs.declared.error.Error.TheVariants.{DecodeMessage, EncodeMessage}
use Rattle.server_segments.specs.declared.error.Error.TheVariants.{InvalidHeaderLength, InvalidXattrSize}
use Rattle.server_segments.specs.declared.error.Error.TheVariants.{MissingExtension}
use Rattle.server_requests.specs.Reading.{record_parser, last_name, two_names, name_and_value, front_name}
use Rattle.server_requests.specs.Extras.{one_group, part, extension, extensions, extra_in, new_name}
use Rattle.server_meanings.specs.Grammar.{meaning, meant, row, IsFault, Asks, One}
use Rattle.server_requests.specs.Fronts.{counted, with_bytes, setxattr_front}
use Rattle.server_replies.specs.WholeReplies.{error_bytes, reply_bytes, versions_bytes, started_bytes}
use Rattle.server_meanings.specs.Listings.{list_entries}
use Rattle.server_replies.specs.Entries.{entry_len, fit_of, FitsIn, IsWrong, dirent_bytes, node_bytes}
use Rattle.server_replies.specs.Entries.{no_node}
use Rattle.server_meanings.specs.Serving.{ServedMessage, served, setting}

-- a caller with uid, gid and pid 0
abbrev pub nobody : Context
nobody = record { uid = record { 0 = 0 }; gid = record { 0 = 0 }; pid = pos 0 }

-- n zeros
abbrev pub zeros : ℕ → List ℕ
zeros n = replicate n 0

-- two bytes, little-endian
abbrev pub le16 : ℕ → List ℕ
le16 n = to_le_bytes w16 n

-- four bytes, little-endian
abbrev pub le32 : ℕ → List ℕ
le32 n = to_le_bytes w32 n

-- eight bytes, little-endian
abbrev pub le64 : ℕ → List ℕ
le64 n = to_le_bytes w64 n

-- struct fuse_in_header of this caller
abbrev pub in_header_bytes : (len opcode unique node : ℕ) → List ℕ
in_header_bytes len opcode unique node = le32 len ++ le32 opcode ++ le64 unique ++ le64 node ++ zeros 16

-- struct fuse_out_header, with the error as an unsigned number
abbrev answer_header : (len error unique : ℕ) → List ℕ
answer_header len error unique = le32 len ++ le32 error ++ le64 unique

-- INIT with a version, a readahead and options
abbrev init : (major minor readahead flags : ℕ) → List ℕ
init major minor readahead flags =
    in_header_bytes 56 26 1 0 ++ le32 major ++ le32 minor ++ le32 readahead ++ le32 flags

-- the result of a request in a session without options, by the answers to its calls
abbrev serve : List ℕ → (room : ℕ) → List FileAnswer → ServedMessage
serve request room answers = served (setting 4096 0 room) (meaning 0 request room) answers

-- FORGET of node 5: its lookup count decreases by 3
forget_means : meaning 0 (in_header_bytes 48 2 2 5 ++ le64 3) 0 ≡ Asks (One 2 (Forget nobody 5 3))
unfolding meaning meant record_parser row
forget_means = refl

-- LOOKUP of `a` in the root
lookup_means :
    meaning 0 (in_header_bytes 42 1 1 1 ++ 97 ∷ 0 ∷ []) 143 ≡ Asks (One 1 (Lookup nobody 1 (97 ∷ [])))
unfolding meaning meant record_parser row counted last_name
lookup_means = refl

-- GETATTR of node 5 with its open file 9
getattr_means : meaning 0 (in_header_bytes 56 3 2 5 ++ le32 1 ++ le32 0 ++ le64 9) 0
    ≡ Asks (One 2 (Getattr nobody 5 (Some 9)))
unfolding meaning meant record_parser row
getattr_means = refl

-- RELEASE of file 9 with a flush: the lock owner counts
release_means : meaning 0 (in_header_bytes 64 18 2 5 ++ le64 9 ++ le32 2 ++ le32 1 ++ le64 7) 0
    ≡ Asks (One 2 (Release nobody 5 2 9 true false (Some 7)))
unfolding meaning meant record_parser row
release_means = refl

-- an unknown opcode has the error -38 as its reply
unknown_means : (serve (in_header_bytes 40 7 1 0) 16 []).reply ≡ answer_header 16 (2 ^ 32 - 38) 1
unfolding meaning meant record_parser row error_bytes field_bytes
unknown_means = refl

-- INIT of version 8.0 has version 7.38 in its reply, without a call
later_means : (serve (init 8 0 0 0) 80 []).reply ≡ answer_header 80 0 1 ++ le32 7 ++ le32 38 ++ zeros 56
unfolding meaning meant record_parser row reply_bytes versions_bytes field_bytes
later_means = refl

-- the same with a reply buffer of 79 bytes
later_cut : (serve (init 8 0 0 0) 79 []).fault ≡ Some EncodeMessage
unfolding meaning meant record_parser row reply_bytes versions_bytes field_bytes
later_cut = refl

-- struct fuse_init_out for a client with readahead 0x20000 and agreed option 1: 65535 requests,
-- 49149, 2^20 bytes, 256 pages
abbrev init_options : List ℕ
init_options =
    le32 7 ++ le32 38 ++ le32 0x20000 ++ le32 1 ++ le16 65535 ++ le16 49149 ++ le32 (2 ^ 20) ++ le32 1
    ++ le16 256 ++ zeros 34

-- INIT of version 7.38 with one option; the file system wants none
start_means : (serve (init 7 38 0x20000 1) 80 (Wants 0 ∷ [])).reply ≡ answer_header 80 0 1 ++ init_options
unfolding meaning meant record_parser row reply_bytes started_bytes field_bytes
start_means = refl

-- RENAME of `a` to `b` in node 3
rename_means : meaning 0 (in_header_bytes 52 12 1 1 ++ le64 3 ++ 97 ∷ 0 ∷ 98 ∷ 0 ∷ []) 0
    ≡ Asks (One 1 (Rename nobody 1 (97 ∷ []) 3 (98 ∷ []) 0))
unfolding meaning meant record_parser row counted with_bytes two_names last_name
rename_means = refl

-- SETXATTR whose value has one byte less than its record says
setxattr_means : meaning 0 (in_header_bytes 54 21 1 1 ++ le32 3 ++ le32 0 ++ 117 ∷ 46 ∷ 97 ∷ 0 ∷ 1 ∷ 2 ∷ []) 0
    ≡ IsFault (InvalidXattrSize (3, 2))
unfolding meaning meant record_parser row counted with_bytes setxattr_front name_and_value
setxattr_means = refl

-- MKDIR of `d` with an extension of this length, which holds the group 1000
abbrev mkdir : (size : ℕ) → List ℕ
mkdir size =
    in_header_bytes 66 9 1 1 ++ le32 511 ++ le32 18 ++ 100 ∷ 0 ∷ le32 size ++ le32 32 ++ le32 1 ++ le32 1000

-- groups are agreed
mkdir_means : meaning (2 ^ 34) (mkdir 16) 0
    ≡ Asks (One 1 (Mkdir nobody 1 (100 ∷ []) 511 18 (record { security = None; group = Some 1000 })))
unfolding meaning meant record_parser row counted with_bytes front_name new_name extra_in extensions extension
    part one_group
mkdir_means = refl

-- the extension is longer than the bytes left
mkdir_long : meaning (2 ^ 34) (mkdir 17) 0 ≡ IsFault DecodeMessage
unfolding meaning meant record_parser row counted with_bytes front_name new_name extra_in extensions extension
mkdir_long = refl

-- the extension is shorter than its header
mkdir_short : meaning (2 ^ 34) (mkdir 7) 0 ≡ IsFault InvalidHeaderLength
unfolding meaning meant record_parser row counted with_bytes front_name new_name extra_in extensions extension
mkdir_short = refl

-- security contexts are agreed too, but the request has none
mkdir_missing : meaning (2 ^ 34 + 2 ^ 32) (mkdir 16) 0 ≡ IsFault MissingExtension
unfolding meaning meant record_parser row counted with_bytes front_name new_name extra_in extensions extension
    part one_group
mkdir_missing = refl

-- BATCH_FORGET of more pairs than those of 2^20 bytes has the error -12 as its reply
forgets_means :
    (serve (in_header_bytes 48 42 2 0 ++ le32 65537 ++ le32 0) 16 []).reply ≡ answer_header 16 (2 ^ 32 - 12) 2
unfolding meaning meant record_parser row error_bytes field_bytes
forgets_means = refl

-- a directory itself, and a file `a` in it
abbrev itself : Listed
itself = record { ino = 1; offset = 1; kind = 4; name = 46 ∷ [] }

-- the file
abbrev named_a : Listed
named_a = record { ino = 2; offset = 2; kind = 8; name = 97 ∷ [] }

-- a listing of the root, of this size
abbrev list_root : (opcode size : ℕ) → List ℕ
list_root opcode size = in_header_bytes 80 opcode 2 1 ++ zeros 16 ++ le32 size ++ zeros 20

-- READDIR: both entries have 32 bytes
both_listed : length (serve (list_root 28 64) 80 (Entries (itself ∷ named_a ∷ []) ∷ [])).reply ≡ 80
unfolding meaning meant record_parser row reply_bytes field_bytes list_entries fit_of dirent_bytes
both_listed = refl

-- READDIR for one byte less: the second entry doesn't go in
one_listed : length (serve (list_root 28 63) 80 (Entries (itself ∷ named_a ∷ []) ∷ [])).reply ≡ 48
unfolding meaning meant record_parser row reply_bytes field_bytes list_entries fit_of dirent_bytes
one_listed = refl

-- a reply buffer of one byte less: the error is -5
no_room_listed : (serve (list_root 28 64) 79 (Entries (itself ∷ named_a ∷ []) ∷ [])).reply
    ≡ answer_header 16 (2 ^ 32 - 5) 2
unfolding meaning meant record_parser row error_bytes field_bytes list_entries fit_of dirent_bytes
no_room_listed = refl

-- the entry of `a`, with node 2
abbrev node_of_a : Entry ℕ
node_of_a = record (no_node named_a) { inode = 2 }

-- READDIRPLUS: `.` fills the list without a lookup; `a` is looked up, doesn't fit, and node 2 is forgotten
plus_means :
    (serve (list_root 44 160) 176 (Entries (itself ∷ named_a ∷ []) ∷ HasEntry node_of_a ∷ Done ∷ [])).calls
    ≡ Readdir nobody 1 0 160 0 ∷ Lookup nobody 1 (97 ∷ []) ∷ Forget nobody 2 1 ∷ []
unfolding meaning meant record_parser row reply_bytes field_bytes list_entries fit_of dirent_bytes node_bytes
plus_means = refl

-- LOOKUP of `a` with a reply buffer of one byte too few: node 2 is forgotten
lookup_forgotten : serve (in_header_bytes 42 1 1 1 ++ 97 ∷ 0 ∷ []) 143 (HasEntry node_of_a ∷ Done ∷ [])
    ≡ record {
      calls = Lookup nobody 1 (97 ∷ []) ∷ Forget nobody 2 1 ∷ [];
      options = 0;
      reply = [];
      fault = Some EncodeMessage;
    }
unfolding meaning meant record_parser row counted last_name reply_bytes field_bytes
lookup_forgotten = refl

-- with that byte the reply fits, and no node is forgotten
lookup_returned : (serve (in_header_bytes 42 1 1 1 ++ 97 ∷ 0 ∷ []) 144 (HasEntry node_of_a ∷ [])).calls
    ≡ Lookup nobody 1 (97 ∷ []) ∷ []
unfolding meaning meant record_parser row counted last_name reply_bytes field_bytes
lookup_returned = refl

-- CREATE of `c`, opened for reading and writing
abbrev create : List ℕ
create = in_header_bytes 58 35 1 1 ++ le32 2 ++ le32 420 ++ le32 18 ++ zeros 4 ++ 99 ∷ 0 ∷ []

-- with a reply buffer of one byte too few node 2 is forgotten, and the opened file stays open
created_forgotten : (serve create 159 (Created node_of_a (Some 9) 0 ∷ Done ∷ [])).calls
    ≡ Create nobody 1 (99 ∷ []) 420 false 2 18 (record { security = None; group = None })
    ∷ Forget nobody 2 1 ∷ []
unfolding meaning meant record_parser row counted with_bytes front_name new_name extra_in reply_bytes
    field_bytes
created_forgotten = refl

-- a name of 2^32 bytes is the error 75, with any size and room
long_name : fit_of (2 ^ 32) (entry_len false (2 ^ 32)) (2 ^ 33) (2 ^ 33) ≡ IsWrong 75
unfolding fit_of
long_name = refl

-- a name of one byte less goes in
longest_name : fit_of (2 ^ 32 - 1) (entry_len false (2 ^ 32 - 1)) (2 ^ 33) (2 ^ 33) ≡ FitsIn
unfolding fit_of
longest_name = refl
