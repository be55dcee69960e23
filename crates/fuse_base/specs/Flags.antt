-- The flags of each set: their names and bits (linux/fuse.h).
use Rattle.std.specs.Prelude.{List, [], ◌∷◌, ◌^◌, codes}
use Rattle.bitflags.specs.Sets.{Row}

-- the flags of SetattrValid
abbrev pub setattr_valid : List Row
setattr_valid =
    (codes "MODE", 2 ^ 0) ∷ (codes "UID", 2 ^ 1) ∷ (codes "GID", 2 ^ 2) ∷ (codes "SIZE", 2 ^ 3) ∷
    (codes "ATIME", 2 ^ 4) ∷ (codes "MTIME", 2 ^ 5) ∷ (codes "ATIME_NOW", 2 ^ 7)
    ∷ (codes "MTIME_NOW", 2 ^ 8) ∷
    (codes "CTIME", 2 ^ 10) ∷ (codes "KILL_SUIDGID", 2 ^ 11) ∷ []

-- the flags of OpenOptions
abbrev pub open_options : List Row
open_options =
    (codes "DIRECT_IO", 2 ^ 0) ∷ (codes "KEEP_CACHE", 2 ^ 1) ∷ (codes "NONSEEKABLE", 2 ^ 2) ∷
    (codes "CACHE_DIR", 2 ^ 3) ∷ (codes "STREAM", 2 ^ 4) ∷ (codes "NOFLUSH", 2 ^ 5) ∷
    (codes "PARALLEL_DIRECT_WRITES", 2 ^ 6) ∷ []

-- the flags of IoctlFlags
abbrev pub ioctl_flags : List Row
ioctl_flags =
    (codes "IOCTL_COMPAT", 2 ^ 0) ∷ (codes "IOCTL_UNRESTRICTED", 2 ^ 1) ∷ (codes "IOCTL_RETRY", 2 ^ 2) ∷
    (codes "IOCTL_32BIT", 2 ^ 3) ∷ (codes "IOCTL_DIR", 2 ^ 4) ∷ (codes "IOCTL_COMPAT_X32", 2 ^ 5) ∷
    (codes "IOCTL_MAX_IOV", 2 ^ 8) ∷ []

-- the flags of SetxattrFlags
abbrev pub setxattr_flags : List Row
setxattr_flags =
    (codes "SETXATTR_ACL_KILL_SGID", 2 ^ 0) ∷ []

-- the flags of NotifyInvalEntryOutFlags
abbrev pub notify_inval_entry_out_flags : List Row
notify_inval_entry_out_flags =
    (codes "EXPIRE_ONLY", 2 ^ 0) ∷ []

-- the flags of SetupmappingFlags
abbrev pub setupmapping_flags : List Row
setupmapping_flags =
    (codes "WRITE", 2 ^ 0) ∷ (codes "READ", 2 ^ 1) ∷ []

-- the flags of FsOptions, which are the options of INIT
abbrev pub fs_options : List Row
fs_options =
    (codes "ASYNC_READ", 2 ^ 0) ∷ (codes "POSIX_LOCKS", 2 ^ 1) ∷ (codes "FILE_OPS", 2 ^ 2) ∷
    (codes "ATOMIC_O_TRUNC", 2 ^ 3) ∷ (codes "EXPORT_SUPPORT", 2 ^ 4) ∷ (codes "BIG_WRITES", 2 ^ 5) ∷
    (codes "DONT_MASK", 2 ^ 6) ∷ (codes "SPLICE_WRITE", 2 ^ 7) ∷ (codes "SPLICE_MOVE", 2 ^ 8) ∷
    (codes "SPLICE_READ", 2 ^ 9) ∷ (codes "FLOCK_LOCKS", 2 ^ 10) ∷ (codes "HAS_IOCTL_DIR", 2 ^ 11) ∷
    (codes "AUTO_INVAL_DATA", 2 ^ 12) ∷ (codes "DO_READDIRPLUS", 2 ^ 13)
    ∷ (codes "READDIRPLUS_AUTO", 2 ^ 14) ∷
    (codes "ASYNC_DIO", 2 ^ 15) ∷ (codes "WRITEBACK_CACHE", 2 ^ 16) ∷ (codes "ZERO_MESSAGE_OPEN", 2 ^ 17) ∷
    (codes "PARALLEL_DIROPS", 2 ^ 18) ∷ (codes "HANDLE_KILLPRIV", 2 ^ 19) ∷ (codes "POSIX_ACL", 2 ^ 20) ∷
    (codes "ABORT_ERROR", 2 ^ 21) ∷ (codes "MAX_PAGES", 2 ^ 22) ∷ (codes "CACHE_SYMLINKS", 2 ^ 23) ∷
    (codes "ZERO_MESSAGE_OPENDIR", 2 ^ 24) ∷ (codes "EXPLICIT_INVAL_DATA", 2 ^ 25)
    ∷ (codes "SUBMOUNTS", 2 ^ 27) ∷
    (codes "HANDLE_KILLPRIV_V2", 2 ^ 28) ∷ (codes "SETXATTR_EXT", 2 ^ 29) ∷ (codes "INIT_EXT", 2 ^ 30) ∷
    (codes "INIT_RESERVED", 2 ^ 31) ∷ (codes "SECURITY_CTX", 2 ^ 32) ∷ (codes "HAS_INODE_DAX", 2 ^ 33) ∷
    (codes "CREATE_SUPP_GROUP", 2 ^ 34) ∷ (codes "DIRECT_IO_ALLOW_MMAP", 2 ^ 36)
    ∷ (codes "ALLOW_IDMAP", 2 ^ 40) ∷ []
