-- Records of linux/fuse.h made from the host's `stat(2)` and `statvfs(3)`. A signed number becomes
-- its two's complement bits. A number that is too wide becomes its low 32 bits.
use Rattle.std.specs.Prelude.{ℕ, ℤ, ◌%◌, ◌^◌, Result, Ok, Err, ◌⊎◌, replicate}
use Rattle.std.specs.Int.{w64, cast_unsigned}
use Rattle.fuse_base.specs.declared.ids.GuestUid.{GuestUid}
use Rattle.fuse_base.specs.declared.ids.GuestGid.{GuestGid}
use Rattle.fuse_base.specs.declared.ids.HostUid.{HostUid}
use Rattle.fuse_base.specs.declared.ids.HostGid.{HostGid}
use Rattle.fuse_base.specs.declared.records.Attr.{Attr}
use Rattle.fuse_base.specs.declared.records.Kstatfs.{Kstatfs}
use Rattle.fuse_base.specs.declared.stats.Stat.{Stat}
use Rattle.fuse_base.specs.declared.stats.StatVfs.{StatVfs}

-- the two's complement bits of a signed 64-bit number, as an unsigned one
abbrev pub pattern : ℤ → ℕ
pattern z = cast_unsigned w64 z

-- the user ID of a file on the host
abbrev pub host_uid : Stat → HostUid
host_uid st = record { 0 = st.st_uid }

-- the group ID of a file on the host
abbrev pub host_gid : Stat → HostGid
host_gid st = record { 0 = st.st_gid }

-- the attributes of a file, with flags, and with its user and group in the guest
abbrev pub attr_from : Stat → ℕ → GuestUid → GuestGid → Attr
attr_from st flags uid gid = record {
  ino = st.st_ino;
  size = pattern st.st_size;
  blocks = pattern st.st_blocks;
  atime = pattern st.st_atime;
  mtime = pattern st.st_mtime;
  ctime = pattern st.st_ctime;
  atimensec = pattern st.st_atime_nsec % 2 ^ 32;
  mtimensec = pattern st.st_mtime_nsec % 2 ^ 32;
  ctimensec = pattern st.st_ctime_nsec % 2 ^ 32;
  mode = st.st_mode;
  nlink = st.st_nlink % 2 ^ 32;
  uid = uid;
  gid = gid;
  rdev = st.st_rdev % 2 ^ 32;
  blksize = pattern st.st_blksize % 2 ^ 32;
  flags = flags;
}

-- the counts of a file system; bsize, namelen and frsize are the low 32 bits
abbrev pub kstatfs_from : StatVfs → Kstatfs
kstatfs_from v = record {
  blocks = v.f_blocks;
  bfree = v.f_bfree;
  bavail = v.f_bavail;
  files = v.f_files;
  ffree = v.f_ffree;
  bsize = v.f_bsize % 2 ^ 32;
  namelen = v.f_namemax % 2 ^ 32;
  frsize = v.f_frsize % 2 ^ 32;
  padding = 0;
  spare = replicate 6 0;
}

-- both maps returned a number, and P holds of the two
abbrev pub BothMapped : (GuestUid → Type 0) → (GuestGid → Type 0) → (GuestUid → GuestGid → Type 0) → Type 0
BothMapped U G P = (u : GuestUid) × (g : GuestGid) × U u × G g × P u g

-- e is an error of the user map, or an error of the group map after the user map returned a number
abbrev pub FirstError :
    {E : Type 0} → (Result GuestUid E → Type 0) → (Result GuestGid E → Type 0) → E → Type 0
FirstError U G e = U (Err e) ⊎ ((u : GuestUid) × U (Ok u) × G (Err e))
