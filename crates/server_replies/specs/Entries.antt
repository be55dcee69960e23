-- Entries of a directory in the replies to READDIR and READDIRPLUS, and whether an entry fits
-- (linux/fuse.h).
use Rattle.std.specs.Prelude.{ℕ, ◌+◌, ◌-◌, ◌*◌, ◌/◌, ◌%◌, ◌^◌, Bool, ◌||◌, nat_lt, nat_le, List, [], ◌∷◌}
use Rattle.std.specs.Prelude.{◌++◌, length, replicate, Option, Some, None, Result, Ok, Err, if◌then◌else◌}
use Rattle.std.specs.Str.{bytes_eq}
use Rattle.vm_values.specs.Fields.{spelled}
use Rattle.fuse_wire.specs.Records.{entry_out, dirent}
use Rattle.fuse_fs.specs.declared.answers.Entry.{Entry}
use Rattle.fuse_fs.specs.Answers.{entry_out_of}
use Rattle.fuse_fs.specs.Replies.{dirent_of}
use Rattle.fuse_fs.specs.Calls.{Listed}

-- the error number of Linux for an entry that doesn't fit in the reply buffer
abbrev pub EIO : ℕ
EIO = 5

-- the error number of Linux for a name of 2^32 bytes or more
abbrev pub EOVERFLOW : ℕ
EOVERFLOW = 75

-- the length of struct fuse_dirent with a name, padded to a multiple of 8 (FUSE_DIRENT_ALIGN)
abbrev pub dirent_len : ℕ → ℕ
dirent_len name_len = (24 + name_len + 7) / 8 * 8

-- the length of an entry, in READDIRPLUS with the 128 bytes of struct fuse_entry_out
abbrev pub entry_len : (with_nodes : Bool) → (name_len : ℕ) → ℕ
entry_len with_nodes name_len = (if with_nodes then 128 else 0) + dirent_len name_len

-- struct fuse_dirent, the name, and zeros up to a multiple of 8
unfoldable pub dirent_bytes : Listed → List ℕ
dirent_bytes d =
    spelled (dirent (dirent_of d)) ++ d.name
    ++ replicate (dirent_len (length d.name) - (24 + length d.name)) 0

-- struct fuse_entry_out of an entry in READDIRPLUS
unfoldable pub node_bytes : Entry ℕ → List ℕ
node_bytes e = spelled (entry_out (entry_out_of e))

-- the bytes of an entry, in READDIRPLUS with its node first
abbrev pub entry_bytes : Bool → Entry ℕ → Listed → List ℕ
entry_bytes with_nodes e d = (if with_nodes then node_bytes e else []) ++ dirent_bytes d

-- an entry goes into the list, or the list is full, or an error ends it
pub data Fit : Type 0 where
  FitsIn : Fit
  IsFull : Fit
  IsWrong : (errno : ℕ) → Fit

-- whether an entry of `len` bytes goes in. left: the bytes left of the size of the READDIR, room:
-- those left of the reply buffer
unfoldable pub fit_of : (name_len len left room : ℕ) → Fit
fit_of name_len len left room =
    if nat_le (2 ^ 32) name_len then IsWrong EOVERFLOW
    else if nat_lt left len then IsFull
    else if nat_lt room len then IsWrong EIO
    else FitsIn

-- the name is `.` or `..`
abbrev pub is_dot : List ℕ → Bool
is_dot name = bytes_eq name (46 ∷ []) || bytes_eq name (46 ∷ 46 ∷ [])

-- the node of `.` and `..`: node 0, with the inode number and the kind of the listing
abbrev pub no_node : Listed → Entry ℕ
no_node d =
    record {
      inode = 0;
      generation = 0;
      attr = record {
        ino = d.ino;
        size = 0;
        blocks = 0;
        atime = 0;
        mtime = 0;
        ctime = 0;
        atimensec = 0;
        mtimensec = 0;
        ctimensec = 0;
        mode = d.kind * 4096 % 2 ^ 32;
        nlink = 0;
        uid = record { 0 = 0 };
        gid = record { 0 = 0 };
        rdev = 0;
        blksize = 0;
        flags = 0;
      };
      attr_timeout = record { seconds = 0; nanos = 0 };
      entry_timeout = record { seconds = 0; nanos = 0 };
    }

-- the size left after an entry, or the end of the list, with an error if there is one
abbrev pub AfterEntry : Type 0
AfterEntry = Result ℕ (Option ℕ)

-- the size left after an entry of this length, or the end of the list
abbrev pub after_entry : Fit → (left len : ℕ) → AfterEntry
after_entry FitsIn left len = Ok (left - len)
after_entry IsFull left len = Err None
after_entry (IsWrong errno) left len = Err (Some errno)
