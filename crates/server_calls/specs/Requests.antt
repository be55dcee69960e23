-- The file call of each request, made from its header, record and names (linux/fuse.h).
use Rattle.std.specs.Prelude.{ℕ, Bool, true, false, not, ◌||◌, nat_lt, List, [], ◌∷◌, length, Option, Some}
use Rattle.std.specs.Prelude.{None, is_none, if◌then◌else◌, bit_and}
use Rattle.vm_values.specs.Bits.{has_bit}
use Rattle.fuse_in.specs.declared.session.InHeader.{InHeader}
use Rattle.fuse_in.specs.declared.nodes.AccessIn.{AccessIn}
use Rattle.fuse_in.specs.declared.nodes.GetxattrIn.{GetxattrIn}
use Rattle.fuse_in.specs.declared.nodes.SetxattrIn.{SetxattrIn}
use Rattle.fuse_in.specs.declared.nodes.MknodIn.{MknodIn}
use Rattle.fuse_in.specs.declared.nodes.MkdirIn.{MkdirIn}
use Rattle.fuse_in.specs.declared.files.CreateIn.{CreateIn}
use Rattle.fuse_in.specs.declared.nodes.LinkIn.{LinkIn}
use Rattle.fuse_in.specs.declared.nodes.RenameIn.{RenameIn}
use Rattle.fuse_in.specs.declared.nodes.Rename2In.{Rename2In}
use Rattle.fuse_in.specs.declared.files.CopyfilerangeIn.{CopyfilerangeIn}
use Rattle.fuse_in.specs.declared.files.FallocateIn.{FallocateIn}
use Rattle.fuse_in.specs.declared.files.FlushIn.{FlushIn}
use Rattle.fuse_in.specs.declared.session.ForgetIn.{ForgetIn}
use Rattle.fuse_in.specs.declared.files.FsyncIn.{FsyncIn}
use Rattle.fuse_in.specs.declared.nodes.GetattrIn.{GetattrIn}
use Rattle.fuse_in.specs.declared.files.LseekIn.{LseekIn}
use Rattle.fuse_in.specs.declared.files.OpenIn.{OpenIn}
use Rattle.fuse_in.specs.declared.files.ReadIn.{ReadIn}
use Rattle.fuse_in.specs.declared.files.ReleaseIn.{ReleaseIn}
use Rattle.fuse_in.specs.declared.nodes.SetattrIn.{SetattrIn}
use Rattle.fuse_in.specs.declared.files.WriteIn.{WriteIn}
use Rattle.fuse_fs.specs.declared.answers.Context.{Context}
use Rattle.fuse_fs.specs.Answers.{context_of}
use Rattle.fuse_fs.specs.Calls.{FileAnswer, HasEntry, Created}
use Rattle.fuse_fs.specs.Calls.{FileCall, Access, CopyFileRange, Fallocate, Flush, Forget, Fsync, Fsyncdir}
use Rattle.fuse_fs.specs.Calls.{Getattr, Lookup, Lseek, Open, Opendir, Readlink, Release}
use Rattle.fuse_fs.specs.Calls.{Releasedir, Removexattr, Rmdir, Setattr, Statfs, Syncfs, Unlink, Read}
use Rattle.fuse_fs.specs.Calls.{Readdir, Link, Rename, Setxattr, Getxattr, Listxattr, BatchForget, Write}
use Rattle.fuse_fs.specs.Calls.{Extra}
use Rattle.fuse_fs.specs.Calls.{Symlink, Mknod, Mkdir, Create, NewLink, Destroy, Getlk, Setlk, Setlkw, Bmap}
use Rattle.fuse_fs.specs.Calls.{Ioctl, Poll, NotifyReply}

-- a number, if its flag is set
abbrev pub if_set : Bool → ℕ → Option ℕ
if_set test n = if test then Some n else None

-- LOOKUP of a name in a node
abbrev pub lookup_call : InHeader → List ℕ → FileCall
lookup_call h name = Lookup (context_of h) h.nodeid name

-- FORGET: the lookup count of a node decreases by `nlookup`
abbrev pub forget_call : InHeader → ForgetIn → FileCall
forget_call h r = Forget (context_of h) h.nodeid r.nlookup

-- READ: `lock_owner` counts only with FUSE_READ_LOCKOWNER (bit 1 of `read_flags`)
abbrev pub read_call : InHeader → (room : ℕ) → ReadIn → FileCall
read_call h room r =
    Read (context_of h) h.nodeid r.fh room r.size r.offset
    (if_set (has_bit r.read_flags 1) r.lock_owner) r.flags

-- READDIR and READDIRPLUS: the entries of an open directory behind an offset, in `size` bytes
abbrev pub directory_call : InHeader → ReadIn → FileCall
directory_call h r = Readdir (context_of h) h.nodeid r.fh r.size r.offset

-- BATCH_FORGET: the lookup count of each node decreases by the number beside it
abbrev pub batch_forget_call : InHeader → List (ℕ × ℕ) → FileCall
batch_forget_call h pairs = BatchForget (context_of h) pairs

-- WRITE: `lock_owner` counts only with FUSE_WRITE_LOCKOWNER (bit 1 of `write_flags`). FUSE_WRITE_CACHE (bit
-- 0) is a delayed write of the page cache; FUSE_WRITE_KILL_SUIDGID (bit 2) drops the set-id bits
abbrev pub write_call : InHeader → WriteIn → List ℕ → FileCall
write_call h r bytes =
    Write (context_of h) h.nodeid r.fh bytes r.size r.offset (if_set (has_bit r.write_flags 1) r.lock_owner)
    (has_bit r.write_flags 0) (has_bit r.write_flags 2) r.flags

-- GETATTR: the handle counts only with FUSE_GETATTR_FH (bit 0 of `flags`)
abbrev pub getattr_call : InHeader → GetattrIn → FileCall
getattr_call h r = Getattr (context_of h) h.nodeid (if_set (has_bit r.flags 0) r.fh)

-- the known bits of `valid` in SETATTR
abbrev pub known_setattr : ℕ
known_setattr = 0xdbf

-- SETATTR: the handle counts only with FATTR_FH (bit 6 of `valid`)
abbrev pub setattr_call : InHeader → SetattrIn → FileCall
setattr_call h r =
    Setattr (context_of h) h.nodeid r (if_set (has_bit r.valid 6) r.fh) (bit_and r.valid known_setattr)

-- READLINK
abbrev pub readlink_call : InHeader → FileCall
readlink_call h = Readlink (context_of h) h.nodeid

-- UNLINK
abbrev pub unlink_call : InHeader → List ℕ → FileCall
unlink_call h name = Unlink (context_of h) h.nodeid name

-- RMDIR
abbrev pub rmdir_call : InHeader → List ℕ → FileCall
rmdir_call h name = Rmdir (context_of h) h.nodeid name

-- OPEN: FUSE_OPEN_KILL_SUIDGID (bit 0 of `open_flags`) drops the set-id bits
abbrev pub open_call : InHeader → OpenIn → FileCall
open_call h r = Open (context_of h) h.nodeid (has_bit r.open_flags 0) r.flags

-- STATFS
abbrev pub statfs_call : InHeader → FileCall
statfs_call h = Statfs (context_of h) h.nodeid

-- RELEASE: `lock_owner` counts only with FUSE_RELEASE_FLUSH or FUSE_RELEASE_FLOCK_UNLOCK (bits 0 and 1 of
-- `release_flags`)
abbrev pub release_call : InHeader → ReleaseIn → FileCall
release_call h r =
    Release (context_of h) h.nodeid r.flags r.fh (has_bit r.release_flags 0) (has_bit r.release_flags 1)
    (if_set (has_bit r.release_flags 0 || has_bit r.release_flags 1) r.lock_owner)

-- FSYNC: only the data with FUSE_FSYNC_FDATASYNC (bit 0 of `fsync_flags`)
abbrev pub fsync_call : InHeader → FsyncIn → FileCall
fsync_call h r = Fsync (context_of h) h.nodeid (has_bit r.fsync_flags 0) r.fh

-- FSYNCDIR: only the data with FUSE_FSYNC_FDATASYNC (bit 0 of `fsync_flags`)
abbrev pub fsyncdir_call : InHeader → FsyncIn → FileCall
fsyncdir_call h r = Fsyncdir (context_of h) h.nodeid (has_bit r.fsync_flags 0) r.fh

-- REMOVEXATTR
abbrev pub removexattr_call : InHeader → List ℕ → FileCall
removexattr_call h name = Removexattr (context_of h) h.nodeid name

-- FLUSH
abbrev pub flush_call : InHeader → FlushIn → FileCall
flush_call h r = Flush (context_of h) h.nodeid r.fh r.lock_owner

-- OPENDIR
abbrev pub opendir_call : InHeader → OpenIn → FileCall
opendir_call h r = Opendir (context_of h) h.nodeid r.flags

-- RELEASEDIR
abbrev pub releasedir_call : InHeader → ReleaseIn → FileCall
releasedir_call h r = Releasedir (context_of h) h.nodeid r.flags r.fh

-- ACCESS
abbrev pub access_call : InHeader → AccessIn → FileCall
access_call h r = Access (context_of h) h.nodeid r.mask

-- FALLOCATE
abbrev pub fallocate_call : InHeader → FallocateIn → FileCall
fallocate_call h r = Fallocate (context_of h) h.nodeid r.fh r.mode r.offset r.length

-- LSEEK
abbrev pub lseek_call : InHeader → LseekIn → FileCall
lseek_call h r = Lseek (context_of h) h.nodeid r.fh r.offset r.whence

-- COPY_FILE_RANGE
abbrev pub copy_file_range_call : InHeader → CopyfilerangeIn → FileCall
copy_file_range_call h r =
    CopyFileRange (context_of h) h.nodeid r.fh_in r.off_in r.nodeid_out r.fh_out r.off_out r.len r.flags

-- SYNCFS
abbrev pub syncfs_call : InHeader → FileCall
syncfs_call h = Syncfs (context_of h) h.nodeid

-- LINK: a new name of an old node
abbrev pub link_call : InHeader → LinkIn → List ℕ → FileCall
link_call h r name = Link (context_of h) r.oldnodeid h.nodeid name

-- RENAME of the old name to the new one
abbrev pub rename_call : InHeader → RenameIn → List ℕ × List ℕ → FileCall
rename_call h r names = Rename (context_of h) h.nodeid names.0 r.newdir names.1 0

-- RENAME2 of the old name to the new one, with the flags RENAME_NOREPLACE, RENAME_EXCHANGE and
-- RENAME_WHITEOUT
abbrev pub rename2_call : InHeader → Rename2In → List ℕ × List ℕ → FileCall
rename2_call h r names = Rename (context_of h) h.nodeid names.0 r.newdir names.1 (bit_and r.flags 7)

-- the known bits of `setxattr_flags`
abbrev pub known_setxattr : ℕ
known_setxattr = 1

-- SETXATTR of a name to a value, with the known bit of `setxattr_flags`
abbrev pub setxattr_call : InHeader → SetxattrIn → List ℕ × List ℕ → FileCall
setxattr_call h r parts =
    Setxattr (context_of h) h.nodeid parts.0 parts.1 r.flags (bit_and r.setxattr_flags known_setxattr)

-- GETXATTR
abbrev pub getxattr_call : InHeader → GetxattrIn → List ℕ → FileCall
getxattr_call h r name = Getxattr (context_of h) h.nodeid name r.size

-- LISTXATTR
abbrev pub listxattr_call : InHeader → GetxattrIn → FileCall
listxattr_call h r = Listxattr (context_of h) h.nodeid r.size

-- SYMLINK
abbrev pub symlink_call : InHeader → NewLink → FileCall
symlink_call h x = Symlink (context_of h) x.link h.nodeid x.name x.extra

-- MKNOD
abbrev pub mknod_call : InHeader → MknodIn → List ℕ × Extra → FileCall
mknod_call h r x = Mknod (context_of h) h.nodeid x.0 r.mode r.rdev r.umask x.1

-- MKDIR
abbrev pub mkdir_call : InHeader → MkdirIn → List ℕ × Extra → FileCall
mkdir_call h r x = Mkdir (context_of h) h.nodeid x.0 r.mode r.umask x.1

-- CREATE: FUSE_OPEN_KILL_SUIDGID (bit 0 of `open_flags`) drops the set-id bits
abbrev pub create_call : InHeader → CreateIn → List ℕ × Extra → FileCall
create_call h r x = Create (context_of h) h.nodeid x.0 r.mode (has_bit r.open_flags 0) r.flags r.umask x.1

-- the calls that have no reply if they succeed
abbrev pub is_silent : FileCall → Bool
is_silent (Forget c n k) = true
is_silent (BatchForget c counts) = true
is_silent Getlk = true
is_silent Setlk = true
is_silent Setlkw = true
is_silent Bmap = true
is_silent Ioctl = true
is_silent Poll = true
is_silent NotifyReply = true
is_silent Destroy = true
is_silent _ = false

-- a security context is sent, and it isn't empty
abbrev pub has_security : Extra → Bool
has_security x = not (is_none x.security)

-- the calls that own memory: pairs, or a security context that isn't empty
abbrev pub owns_memory : FileCall → Bool
owns_memory (BatchForget c counts) = nat_lt 0 (length counts)
owns_memory (Symlink c l n name x) = has_security x
owns_memory (Mknod c n name m r u x) = has_security x
owns_memory (Mkdir c n name m u x) = has_security x
owns_memory (Create c n name m k f u x) = has_security x
owns_memory _ = false

-- the options after a call: none after DESTROY
abbrev pub options_after : ℕ → FileCall → ℕ
options_after options Destroy = 0
options_after options _ = options

-- the node of the entry in an answer
abbrev pub entry_node : FileAnswer → Option ℕ
entry_node (HasEntry e) = Some e.inode
entry_node (Created e handle options) = Some e.inode
entry_node _ = None

-- FORGET of one lookup of a node, if there is a node
abbrev pub forget_node : Context → (node : Option ℕ) → List FileCall
forget_node who None = []
forget_node who (Some node) = Forget who node 1 ∷ []

-- FORGET of the entry that a call answered, for node 0 too. A file that CREATE opened stays open
abbrev pub forget_entry : FileCall → FileAnswer → List FileCall
forget_entry (Lookup who n name) answer = forget_node who (entry_node answer)
forget_entry (Symlink who l n name x) answer = forget_node who (entry_node answer)
forget_entry (Mknod who n name m r u x) answer = forget_node who (entry_node answer)
forget_entry (Mkdir who n name m u x) answer = forget_node who (entry_node answer)
forget_entry (Link who o n name) answer = forget_node who (entry_node answer)
forget_entry (Create who n name m k f u x) answer = forget_node who (entry_node answer)
forget_entry _ answer = []
