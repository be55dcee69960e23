-- The meaning of a request, from its bytes, the agreed options and the length of its reply buffer
-- (linux/fuse.h).
use Rattle.std.specs.Prelude.{ℕ, ◌+◌, ◌-◌, ◌*◌, ◌^◌, nat_le, nat_lt, List, Option, Some, None, Result, Ok}
use Rattle.std.specs.Prelude.{Err, if◌then◌else◌, bit_and}
use Rattle.std.specs.Prelude.{Bool, true, false}
use Rattle.fuse_in.specs.declared.session.InHeader.{InHeader}
use Rattle.fuse_in.specs.declared.session.InitInCompat.{InitInCompat}
use Rattle.fuse_in.specs.declared.files.ReadIn.{ReadIn}
use Rattle.fuse_in.specs.Shapes.{RecordShape}
use Rattle.fuse_in.specs.Records.{in_header, forget_in, getattr_in, setattr_in, open_in, read_in, release_in}
use Rattle.fuse_in.specs.Records.{fsync_in, flush_in, access_in, fallocate_in}
use Rattle.fuse_in.specs.Records.{lseek_in, copyfilerange_in, init_in_compat, link_in, rename_in, rename2_in}
use Rattle.fuse_in.specs.Records.{getxattr_in}
use Rattle.fuse_in.specs.Records.{batch_forget_in, write_in, mknod_in, mkdir_in, create_in}
use Rattle.fuse_wire.specs.declared.opcodes.Opcode.{Opcode}
use Rattle.fuse_wire.specs.declared.opcodes.Opcode.TheVariants as op
use Rattle.fuse_wire.specs.Opcodes.{opcode_of}
use Rattle.server_requests.specs.Extras.{new_name, new_link}
use Rattle.fuse_fs.specs.Calls.{FileCall, Extra, Destroy, Getlk, Setlk, Setlkw, Bmap, Ioctl, Poll}
use Rattle.fuse_fs.specs.Calls.{NotifyReply, TmpFile}
use Rattle.server_segments.specs.declared.error.Error.{Error}
use Rattle.server_segments.specs.declared.error.Error.TheVariants.{DecodeMessage, EncodeMessage}
use Rattle.server_requests.specs.Reading.{ReadFailure, Faults, Sends, Parser, ◌>>=◌, ◌>>◌, give, refuse}
use Rattle.server_requests.specs.Reading.{needs, record_parser, within, last_name, two_names, name_and_value}
use Rattle.server_requests.specs.Reading.{rest, many}
use Rattle.server_calls.specs.Requests.{lookup_call, forget_call, getattr_call, setattr_call, readlink_call}
use Rattle.server_calls.specs.Requests.{unlink_call, rmdir_call, open_call, statfs_call, release_call}
use Rattle.server_calls.specs.Requests.{fsync_call, fsyncdir_call, removexattr_call, flush_call, opendir_call}
use Rattle.server_calls.specs.Requests.{releasedir_call, access_call, fallocate_call, lseek_call}
use Rattle.server_calls.specs.Requests.{copy_file_range_call, syncfs_call, read_call, link_call, rename_call}
use Rattle.server_calls.specs.Requests.{rename2_call, setxattr_call, getxattr_call, listxattr_call}
use Rattle.server_calls.specs.Requests.{write_call, batch_forget_call, symlink_call, mknod_call, mkdir_call}
use Rattle.server_calls.specs.Requests.{create_call}
use Rattle.server_requests.specs.Fronts.{counted, with_bytes, setxattr_front, forget_pair, flags2_of}
use Rattle.server_replies.specs.WholeReplies.{versions_bytes}
unfoldable pub use Rattle.server_replies.specs.WholeReplies.{reply_bytes, error_bytes}
use Rattle.server_meanings.specs.Listings.{ListRequest, listing_of}

-- a file command: one call, INIT, or a listing
pub data FileCommand : Type 0 where
  One : (unique : ℕ) → FileCall → FileCommand
  Starts : (unique capable readahead : ℕ) → FileCommand
  Lists : (unique : ℕ) → ListRequest → FileCommand

-- the meaning of a request: a fault, a reply without a file call, silence, or a file command
pub data Meaning : Type 0 where
  IsFault : Error → Meaning
  Replies : (bytes : List ℕ) → Meaning
  IsSilent : Meaning
  Asks : FileCommand → Meaning

-- the error number of Linux for a request that is too long, or a failed allocation
abbrev pub ENOMEM : ℕ
ENOMEM = 12

-- the error number of Linux for a call that is not known or not served
abbrev pub ENOSYS : ℕ
ENOSYS = 38

-- the error number of Linux for a version that the server doesn't support
abbrev pub EPROTO : ℕ
EPROTO = 71

-- the input of the grammar's rows besides the bytes: header, agreed options and the reply buffer's length
pub record Given : Type 0 where
  pub header : InHeader
  pub options : ℕ
  pub room : ℕ

-- a header with the agreed options and the length of the reply buffer
abbrev pub given : InHeader → (options room : ℕ) → Given
given header options room = record { header = header; options = options; room = room }

-- one call, whose reply has the request's unique number
abbrev pub one : Given → FileCall → Parser Meaning
one g call = give (Asks (One g.header.unique call))

-- all known options
abbrev pub known_options : ℕ
known_options = 0x117fbffffff

-- the options that are agreed if the client has them, even if the file system doesn't want them
abbrev pub default_options : ℕ
default_options = 0x10448449829

-- INIT with its records: the versions are compared, then the client's known options are found
abbrev pub started : Given → InitInCompat → ℕ → Parser Meaning
started g r flags2 =
    if nat_lt r.major 7 then refuse (Sends EPROTO)
    else if nat_lt 7 r.major then give (Replies (reply_bytes g.header.unique versions_bytes))
    else if nat_lt r.minor 27 then refuse (Sends EPROTO)
    else give (Asks (Starts g.header.unique (bit_and (flags2 * 2 ^ 32 + r.flags) known_options)
    r.max_readahead))

-- the row of a request that is one record
abbrev pub record_row : {R : Type 0} → RecordShape R → (InHeader → R → FileCall) → Given → Parser Meaning
record_row s call g = record_parser s >>= λ r. one g (call g.header r)

-- the row of a request that is only its header
abbrev pub header_row : (InHeader → FileCall) → Given → Parser Meaning
header_row call g = one g (call g.header)

-- the row of a request that is one name
abbrev pub name_row : (InHeader → List ℕ → FileCall) → Given → Parser Meaning
name_row call g =
    counted g.header.len 0 >>= λ bytes. within bytes last_name >>= λ name. one g (call g.header name)

-- the row of a record and bytes behind it; the record may decide how the bytes are read
abbrev pub bytes_row :
    {R A : Type 0} → (Given → Parser (R × List ℕ)) → (Given → R → Parser A) → (InHeader → R → A → FileCall)
    → Given → Parser Meaning
bytes_row front parts call g = front g >>= λ x. within x.1 (parts g x.0) >>= λ y. one g (call g.header x.0 y)

-- the row of a record of k bytes and one name
abbrev pub record_name_row :
    {R : Type 0} → RecordShape R → (k : ℕ) → (InHeader → R → List ℕ → FileCall) → Given → Parser Meaning
record_name_row s k call = bytes_row (λ g. with_bytes s k g.header.len) (λ g r. last_name) call

-- the row of a record of k bytes and two names
abbrev pub two_names_row : {R : Type 0} → RecordShape R → (k : ℕ) →
    (InHeader → R → List ℕ × List ℕ → FileCall) → Given → Parser Meaning
two_names_row s k call = bytes_row (λ g. with_bytes s k g.header.len) (λ g r. two_names) call

-- the row of a record of k bytes and the name of a new node
abbrev pub new_name_row : {R : Type 0} → RecordShape R → (k : ℕ) →
    (InHeader → R → List ℕ × Extra → FileCall) → Given → Parser Meaning
new_name_row s k call = bytes_row (λ g. with_bytes s k g.header.len) (λ g r. new_name g.options) call

-- SYMLINK: the name and the target
abbrev pub symlink_row : Given → Parser Meaning
symlink_row g =
    counted g.header.len 0
    >>= λ bytes. within bytes (new_link g.options) >>= λ x. one g (symlink_call g.header x)

-- a size of more than 2^20 bytes is the error ENOMEM
abbrev pub at_most_a_mebibyte : ℕ → Parser (Unit {0})
at_most_a_mebibyte n = needs (nat_le n (2 ^ 20)) (Sends ENOMEM)

-- GETXATTR: struct fuse_getxattr_in and the attribute's name
abbrev pub getxattr_row : Given → Parser Meaning
getxattr_row =
    bytes_row (λ g. with_bytes getxattr_in 8 g.header.len) (λ g r. at_most_a_mebibyte r.size >> last_name)
    getxattr_call

-- LISTXATTR: struct fuse_getxattr_in
abbrev pub listxattr_row : Given → Parser Meaning
listxattr_row g =
    record_parser getxattr_in >>= λ r. at_most_a_mebibyte r.size >> one g (listxattr_call g.header r)

-- SETXATTR: the attribute's name and its value
abbrev pub setxattr_row : Given → Parser Meaning
setxattr_row =
    bytes_row (λ g. setxattr_front g.options g.header.len) (λ g r. name_and_value r.size) setxattr_call

-- a READ is a fault if the reply's header doesn't fit in the reply buffer
abbrev pub read_asked : Given → ReadIn → Parser Meaning
read_asked g r = needs (nat_le 16 g.room) (Faults EncodeMessage) >> one g (read_call g.header (g.room - 16) r)

-- READ: struct fuse_read_in
abbrev pub read_row : Given → Parser Meaning
read_row g = record_parser read_in >>= λ r. read_asked g r

-- WRITE: struct fuse_write_in, and the data, which is all bytes behind it
abbrev pub write_row : Given → Parser Meaning
write_row g = record_parser write_in >>= λ r. rest >>= λ bytes. one g (write_call g.header r bytes)

-- READDIR and READDIRPLUS ask for at most 2^20 bytes and at most the reply buffer's length, else
-- the error is ENOMEM. It is a fault if the reply's header doesn't fit
abbrev pub listing_asked : Bool → ReadIn → Given → Parser Meaning
listing_asked with_nodes r g =
    at_most_a_mebibyte r.size >> needs (nat_le r.size g.room) (Sends ENOMEM)
    >> needs (nat_le 16 g.room) (Faults EncodeMessage)
    >> give (Asks (Lists g.header.unique (listing_of with_nodes g.header r)))

-- READDIR and READDIRPLUS: struct fuse_read_in
abbrev pub listing_row : (with_nodes : Bool) → Given → Parser Meaning
listing_row with_nodes g = record_parser read_in >>= λ r. listing_asked with_nodes r g

-- BATCH_FORGET with this number of pairs: their bytes are at most 2^20, else the error is ENOMEM
abbrev pub forgets_asked : ℕ → Given → Parser Meaning
forgets_asked count g =
    at_most_a_mebibyte (count * 16) >> many count forget_pair
    >>= λ pairs. one g (batch_forget_call g.header pairs)

-- BATCH_FORGET: struct fuse_batch_forget_in, and `count` times struct fuse_forget_one
abbrev pub batch_forget_row : Given → Parser Meaning
batch_forget_row g = record_parser batch_forget_in >>= λ r. forgets_asked r.count g

-- INIT: struct fuse_init_in, whose last 48 bytes are read only with FUSE_INIT_EXT
abbrev pub init_row : Given → Parser Meaning
init_row g = record_parser init_in_compat >>= λ r. flags2_of r >>= λ flags2. started g r flags2

-- a request without a call and without a reply
abbrev pub silent_row : Given → Parser Meaning
silent_row g = give IsSilent

-- a request that isn't served, since no window of a file is mapped into the guest: the error is ENOSYS
abbrev pub unserved_row : Given → Parser Meaning
unserved_row g = refuse (Sends ENOSYS)

-- the row of an opcode
unfoldable pub row : Given → Opcode → Parser Meaning
row g op.Lookup = name_row lookup_call g
row g op.Forget = record_row forget_in forget_call g
row g op.Read = read_row g
row g op.Init = init_row g
row g op.Write = write_row g
row g op.BatchForget = batch_forget_row g
row g op.Readdir = listing_row false g
row g op.Readdirplus = listing_row true g
row g op.SetupMapping = unserved_row g
row g op.RemoveMapping = unserved_row g
row g op.Getattr = record_row getattr_in getattr_call g
row g op.Setattr = record_row setattr_in setattr_call g
row g op.Readlink = header_row readlink_call g
row g op.Unlink = name_row unlink_call g
row g op.Rmdir = name_row rmdir_call g
row g op.Open = record_row open_in open_call g
row g op.Statfs = header_row statfs_call g
row g op.Release = record_row release_in release_call g
row g op.Fsync = record_row fsync_in fsync_call g
row g op.Removexattr = name_row removexattr_call g
row g op.Flush = record_row flush_in flush_call g
row g op.Opendir = record_row open_in opendir_call g
row g op.Releasedir = record_row release_in releasedir_call g
row g op.Fsyncdir = record_row fsync_in fsyncdir_call g
row g op.Getlk = header_row (λ h. Getlk) g
row g op.Setlk = header_row (λ h. Setlk) g
row g op.Setlkw = header_row (λ h. Setlkw) g
row g op.Access = record_row access_in access_call g
row g op.Interrupt = silent_row g
row g op.Bmap = header_row (λ h. Bmap) g
row g op.Destroy = header_row (λ h. Destroy) g
row g op.Ioctl = header_row (λ h. Ioctl) g
row g op.Poll = header_row (λ h. Poll) g
row g op.NotifyReply = header_row (λ h. NotifyReply) g
row g op.Fallocate = record_row fallocate_in fallocate_call g
row g op.Lseek = record_row lseek_in lseek_call g
row g op.CopyFileRange = record_row copyfilerange_in copy_file_range_call g
row g op.Syncfs = header_row syncfs_call g
row g op.TmpFile = header_row (λ h. TmpFile) g
row g op.Setxattr = setxattr_row g
row g op.Getxattr = getxattr_row g
row g op.Listxattr = listxattr_row g
row g op.Symlink = symlink_row g
row g op.Mknod = new_name_row mknod_in 16 mknod_call g
row g op.Mkdir = new_name_row mkdir_in 8 mkdir_call g
row g op.Create = new_name_row create_in 16 create_call g
row g op.Link = record_name_row link_in 8 link_call g
row g op.Rename = two_names_row rename_in 8 rename_call g
row g op.Rename2 = two_names_row rename2_in 16 rename2_call g

-- the meaning of a parser's failure: a fault, or the reply of an error
abbrev pub refused : ℕ → ReadFailure → Meaning
refused unique (Faults fault) = IsFault fault
refused unique (Sends errno) = Replies (error_bytes unique errno)

-- the meaning of a row's result; bytes behind it are ignored
abbrev pub ended : ℕ → Result (Meaning × List ℕ) ReadFailure → Meaning
ended unique (Ok x) = x.0
ended unique (Err r) = refused unique r

-- the row of an opcode, or the error ENOSYS for a number without one
abbrev pub row_of : Given → Option Opcode → Parser Meaning
row_of g None = refuse (Sends ENOSYS)
row_of g (Some opcode) = row g opcode

-- the bytes behind the header: ENOMEM for a length above 0x101000, else the opcode's row
abbrev pub body : Given → Parser Meaning
body g = needs (nat_le g.header.len 0x101000) (Sends ENOMEM) >> row_of g (opcode_of g.header.opcode)

-- the meaning of the bytes behind the header
unfoldable pub meant : Given → List ℕ → Meaning
meant g bytes = ended g.header.unique (body g bytes)

-- a request that is shorter than a header is a fault; another has the meaning of its bytes behind it
abbrev pub with_header : ℕ → ℕ → Result (InHeader × List ℕ) ReadFailure → Meaning
with_header options room (Err r) = IsFault DecodeMessage
with_header options room (Ok x) = meant (given x.0 options room) x.1

-- the meaning of a request
unfoldable pub meaning : (options : ℕ) (request : List ℕ) (room : ℕ) → Meaning
meaning options request room = with_header options room (record_parser in_header request)
