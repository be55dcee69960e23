-- The records of requests (linux/fuse.h). A record that the server reads is given by its shape,
-- another by its fields.
use Rattle.std.specs.Prelude.{List, [], ◌++◌, ◌∷◌}
use Rattle.vm_values.specs.Fields.{Field, d, q}
use Rattle.fuse_base.specs.Records.{file_lock}
use Rattle.fuse_in.specs.Shapes.{RecordShape, u16, u32, u64, u32s, ◌&◌, end}
use Rattle.fuse_in.specs.declared.session.InHeader.{InHeader}
use Rattle.fuse_in.specs.declared.session.InitInCompat.{InitInCompat}
use Rattle.fuse_in.specs.declared.session.InitInExt.{InitInExt}
use Rattle.fuse_in.specs.declared.session.InterruptIn.{InterruptIn}
use Rattle.fuse_in.specs.declared.session.ForgetIn.{ForgetIn}
use Rattle.fuse_in.specs.declared.session.BatchForgetIn.{BatchForgetIn}
use Rattle.fuse_in.specs.declared.session.SyncfsIn.{SyncfsIn}
use Rattle.fuse_in.specs.declared.nodes.GetattrIn.{GetattrIn}
use Rattle.fuse_in.specs.declared.nodes.SetattrIn.{SetattrIn}
use Rattle.fuse_in.specs.declared.nodes.MknodIn.{MknodIn}
use Rattle.fuse_in.specs.declared.nodes.MkdirIn.{MkdirIn}
use Rattle.fuse_in.specs.declared.nodes.RenameIn.{RenameIn}
use Rattle.fuse_in.specs.declared.nodes.Rename2In.{Rename2In}
use Rattle.fuse_in.specs.declared.nodes.LinkIn.{LinkIn}
use Rattle.fuse_in.specs.declared.nodes.AccessIn.{AccessIn}
use Rattle.fuse_in.specs.declared.nodes.SetxattrIn.{SetxattrIn}
use Rattle.fuse_in.specs.declared.nodes.SetxattrInCompat.{SetxattrInCompat}
use Rattle.fuse_in.specs.declared.nodes.GetxattrIn.{GetxattrIn}
use Rattle.fuse_in.specs.declared.files.OpenIn.{OpenIn}
use Rattle.fuse_in.specs.declared.files.CreateIn.{CreateIn}
use Rattle.fuse_in.specs.declared.files.ReleaseIn.{ReleaseIn}
use Rattle.fuse_in.specs.declared.files.FlushIn.{FlushIn}
use Rattle.fuse_in.specs.declared.files.ReadIn.{ReadIn}
use Rattle.fuse_in.specs.declared.files.WriteIn.{WriteIn}
use Rattle.fuse_in.specs.declared.files.FsyncIn.{FsyncIn}
use Rattle.fuse_in.specs.declared.files.FallocateIn.{FallocateIn}
use Rattle.fuse_in.specs.declared.files.LseekIn.{LseekIn}
use Rattle.fuse_in.specs.declared.files.CopyfilerangeIn.{CopyfilerangeIn}
use Rattle.fuse_in.specs.declared.files.LkIn.{LkIn}
use Rattle.fuse_in.specs.declared.devices.BmapIn.{BmapIn}
use Rattle.fuse_in.specs.declared.devices.IoctlIn.{IoctlIn}
use Rattle.fuse_in.specs.declared.devices.PollIn.{PollIn}
use Rattle.fuse_in.specs.declared.devices.NotifyRetrieveIn.{NotifyRetrieveIn}
use Rattle.fuse_in.specs.declared.devices.SetupmappingIn.{SetupmappingIn}
use Rattle.fuse_in.specs.declared.devices.RemovemappingIn.{RemovemappingIn}

-- struct fuse_in_header, 40 bytes
abbrev pub in_header : RecordShape InHeader
in_header = record {
  parts = u32 ∷ u32 ∷ u64 ∷ u64 ∷ u32 ∷ u32 ∷ u32 ∷ u16 ∷ u16 ∷ [];
  make = λ len opcode unique nodeid uid gid pid total_extlen padding.
      record {
        len = len;
        opcode = opcode;
        unique = unique;
        nodeid = nodeid;
        uid = record { 0 = uid };
        gid = record { 0 = gid };
        pid = pid;
        total_extlen = total_extlen;
        padding = padding;
      };
  shows = λ r. r.len & r.opcode & r.unique & r.nodeid & r.uid.0 & r.gid.0 & r.pid & r.total_extlen &
      r.padding & end;
}

-- struct fuse_init_in, the first 16 bytes
abbrev pub init_in_compat : RecordShape InitInCompat
init_in_compat = record {
  parts = u32 ∷ u32 ∷ u32 ∷ u32 ∷ [];
  make = λ major minor max_readahead flags.
      record { major = major; minor = minor; max_readahead = max_readahead; flags = flags };
  shows = λ r. r.major & r.minor & r.max_readahead & r.flags & end;
}

-- struct fuse_init_in, the last 48 bytes
abbrev pub init_in_ext : RecordShape InitInExt
init_in_ext = record {
  parts = u32 ∷ u32s 11 ∷ [];
  make = λ flags2 unused. record { flags2 = flags2; unused = unused };
  shows = λ r. r.flags2 & r.unused & end;
}

-- struct fuse_interrupt_in, 8 bytes
abbrev pub interrupt_in : InterruptIn → List Field
interrupt_in r = q r.unique ∷ []

-- struct fuse_forget_in, 8 bytes
abbrev pub forget_in : RecordShape ForgetIn
forget_in = record {
  parts = u64 ∷ [];
  make = λ nlookup. record { nlookup = nlookup };
  shows = λ r. r.nlookup & end;
}

-- struct fuse_batch_forget_in, 8 bytes
abbrev pub batch_forget_in : RecordShape BatchForgetIn
batch_forget_in = record {
  parts = u32 ∷ u32 ∷ [];
  make = λ count dummy. record { count = count; dummy = dummy };
  shows = λ r. r.count & r.dummy & end;
}

-- struct fuse_syncfs_in, 8 bytes
abbrev pub syncfs_in : SyncfsIn → List Field
syncfs_in r = q r.padding ∷ []

-- struct fuse_getattr_in, 16 bytes
abbrev pub getattr_in : RecordShape GetattrIn
getattr_in = record {
  parts = u32 ∷ u32 ∷ u64 ∷ [];
  make = λ flags dummy fh. record { flags = flags; dummy = dummy; fh = fh };
  shows = λ r. r.flags & r.dummy & r.fh & end;
}

-- struct fuse_setattr_in, 88 bytes
abbrev pub setattr_in : RecordShape SetattrIn
setattr_in = record {
  parts = u32 ∷ u32 ∷ u64 ∷ u64 ∷ u64 ∷ u64 ∷ u64 ∷ u64 ∷ u32 ∷ u32 ∷ u32 ∷ u32 ∷ u32 ∷ u32 ∷ u32 ∷ u32 ∷ [];
  make = λ valid padding fh size lock_owner atime mtime ctime atimensec mtimensec ctimensec mode unused4 uid
      gid unused5.
      record {
        valid = valid;
        padding = padding;
        fh = fh;
        size = size;
        lock_owner = lock_owner;
        atime = atime;
        mtime = mtime;
        ctime = ctime;
        atimensec = atimensec;
        mtimensec = mtimensec;
        ctimensec = ctimensec;
        mode = mode;
        unused4 = unused4;
        uid = record { 0 = uid };
        gid = record { 0 = gid };
        unused5 = unused5;
      };
  shows = λ r.
      r.valid & r.padding & r.fh & r.size & r.lock_owner & r.atime & r.mtime & r.ctime & r.atimensec &
      r.mtimensec & r.ctimensec & r.mode & r.unused4 &
      r.uid.0 & r.gid.0 & r.unused5 & end;
}

-- struct fuse_mknod_in, 16 bytes
abbrev pub mknod_in : RecordShape MknodIn
mknod_in = record {
  parts = u32 ∷ u32 ∷ u32 ∷ u32 ∷ [];
  make = λ mode rdev umask padding. record { mode = mode; rdev = rdev; umask = umask; padding = padding };
  shows = λ r. r.mode & r.rdev & r.umask & r.padding & end;
}

-- struct fuse_mkdir_in, 8 bytes
abbrev pub mkdir_in : RecordShape MkdirIn
mkdir_in = record {
  parts = u32 ∷ u32 ∷ [];
  make = λ mode umask. record { mode = mode; umask = umask };
  shows = λ r. r.mode & r.umask & end;
}

-- struct fuse_rename_in, 8 bytes
abbrev pub rename_in : RecordShape RenameIn
rename_in = record {
  parts = u64 ∷ [];
  make = λ newdir. record { newdir = newdir };
  shows = λ r. r.newdir & end;
}

-- struct fuse_rename2_in, 16 bytes
abbrev pub rename2_in : RecordShape Rename2In
rename2_in = record {
  parts = u64 ∷ u32 ∷ u32 ∷ [];
  make = λ newdir flags padding. record { newdir = newdir; flags = flags; padding = padding };
  shows = λ r. r.newdir & r.flags & r.padding & end;
}

-- struct fuse_link_in, 8 bytes
abbrev pub link_in : RecordShape LinkIn
link_in = record {
  parts = u64 ∷ [];
  make = λ oldnodeid. record { oldnodeid = oldnodeid };
  shows = λ r. r.oldnodeid & end;
}

-- struct fuse_access_in, 8 bytes
abbrev pub access_in : RecordShape AccessIn
access_in = record {
  parts = u32 ∷ u32 ∷ [];
  make = λ mask padding. record { mask = mask; padding = padding };
  shows = λ r. r.mask & r.padding & end;
}

-- struct fuse_setxattr_in, 16 bytes
abbrev pub setxattr_in : RecordShape SetxattrIn
setxattr_in = record {
  parts = u32 ∷ u32 ∷ u32 ∷ u32 ∷ [];
  make = λ size flags setxattr_flags padding.
      record { size = size; flags = flags; setxattr_flags = setxattr_flags; padding = padding };
  shows = λ r. r.size & r.flags & r.setxattr_flags & r.padding & end;
}

-- struct fuse_setxattr_in without FUSE_SETXATTR_EXT, 8 bytes
abbrev pub setxattr_in_compat : RecordShape SetxattrInCompat
setxattr_in_compat = record {
  parts = u32 ∷ u32 ∷ [];
  make = λ size flags. record { size = size; flags = flags };
  shows = λ r. r.size & r.flags & end;
}

-- struct fuse_getxattr_in, 8 bytes
abbrev pub getxattr_in : RecordShape GetxattrIn
getxattr_in = record {
  parts = u32 ∷ u32 ∷ [];
  make = λ size padding. record { size = size; padding = padding };
  shows = λ r. r.size & r.padding & end;
}

-- struct fuse_open_in, 8 bytes
abbrev pub open_in : RecordShape OpenIn
open_in = record {
  parts = u32 ∷ u32 ∷ [];
  make = λ flags open_flags. record { flags = flags; open_flags = open_flags };
  shows = λ r. r.flags & r.open_flags & end;
}

-- struct fuse_create_in, 16 bytes
abbrev pub create_in : RecordShape CreateIn
create_in = record {
  parts = u32 ∷ u32 ∷ u32 ∷ u32 ∷ [];
  make = λ flags mode umask open_flags.
      record { flags = flags; mode = mode; umask = umask; open_flags = open_flags };
  shows = λ r. r.flags & r.mode & r.umask & r.open_flags & end;
}

-- struct fuse_release_in, 24 bytes
abbrev pub release_in : RecordShape ReleaseIn
release_in = record {
  parts = u64 ∷ u32 ∷ u32 ∷ u64 ∷ [];
  make = λ fh flags release_flags lock_owner.
      record { fh = fh; flags = flags; release_flags = release_flags; lock_owner = lock_owner };
  shows = λ r. r.fh & r.flags & r.release_flags & r.lock_owner & end;
}

-- struct fuse_flush_in, 24 bytes
abbrev pub flush_in : RecordShape FlushIn
flush_in = record {
  parts = u64 ∷ u32 ∷ u32 ∷ u64 ∷ [];
  make = λ fh unused padding lock_owner.
      record { fh = fh; unused = unused; padding = padding; lock_owner = lock_owner };
  shows = λ r. r.fh & r.unused & r.padding & r.lock_owner & end;
}

-- struct fuse_read_in, 40 bytes
abbrev pub read_in : RecordShape ReadIn
read_in = record {
  parts = u64 ∷ u64 ∷ u32 ∷ u32 ∷ u64 ∷ u32 ∷ u32 ∷ [];
  make = λ fh offset size read_flags lock_owner flags padding.
      record {
        fh = fh;
        offset = offset;
        size = size;
        read_flags = read_flags;
        lock_owner = lock_owner;
        flags = flags;
        padding = padding;
      };
  shows = λ r. r.fh & r.offset & r.size & r.read_flags & r.lock_owner & r.flags & r.padding & end;
}

-- struct fuse_write_in, 40 bytes
abbrev pub write_in : RecordShape WriteIn
write_in = record {
  parts = u64 ∷ u64 ∷ u32 ∷ u32 ∷ u64 ∷ u32 ∷ u32 ∷ [];
  make = λ fh offset size write_flags lock_owner flags padding.
      record {
        fh = fh;
        offset = offset;
        size = size;
        write_flags = write_flags;
        lock_owner = lock_owner;
        flags = flags;
        padding = padding;
      };
  shows = λ r. r.fh & r.offset & r.size & r.write_flags & r.lock_owner & r.flags & r.padding & end;
}

-- struct fuse_fsync_in, 16 bytes
abbrev pub fsync_in : RecordShape FsyncIn
fsync_in = record {
  parts = u64 ∷ u32 ∷ u32 ∷ [];
  make = λ fh fsync_flags padding. record { fh = fh; fsync_flags = fsync_flags; padding = padding };
  shows = λ r. r.fh & r.fsync_flags & r.padding & end;
}

-- struct fuse_fallocate_in, 32 bytes
abbrev pub fallocate_in : RecordShape FallocateIn
fallocate_in = record {
  parts = u64 ∷ u64 ∷ u64 ∷ u32 ∷ u32 ∷ [];
  make = λ fh offset length mode padding.
      record { fh = fh; offset = offset; length = length; mode = mode; padding = padding };
  shows = λ r. r.fh & r.offset & r.length & r.mode & r.padding & end;
}

-- struct fuse_lseek_in, 24 bytes
abbrev pub lseek_in : RecordShape LseekIn
lseek_in = record {
  parts = u64 ∷ u64 ∷ u32 ∷ u32 ∷ [];
  make = λ fh offset whence padding. record { fh = fh; offset = offset; whence = whence; padding = padding };
  shows = λ r. r.fh & r.offset & r.whence & r.padding & end;
}

-- struct fuse_copy_file_range_in, 56 bytes
abbrev pub copyfilerange_in : RecordShape CopyfilerangeIn
copyfilerange_in = record {
  parts = u64 ∷ u64 ∷ u64 ∷ u64 ∷ u64 ∷ u64 ∷ u64 ∷ [];
  make = λ fh_in off_in nodeid_out fh_out off_out len flags.
      record {
        fh_in = fh_in;
        off_in = off_in;
        nodeid_out = nodeid_out;
        fh_out = fh_out;
        off_out = off_out;
        len = len;
        flags = flags;
      };
  shows = λ r. r.fh_in & r.off_in & r.nodeid_out & r.fh_out & r.off_out & r.len & r.flags & end;
}

-- struct fuse_lk_in, 48 bytes
abbrev pub lk_in : LkIn → List Field
lk_in r = q r.fh ∷ q r.owner ∷ file_lock r.lk ++ d r.lk_flags ∷ d r.padding ∷ []

-- struct fuse_bmap_in, 16 bytes
abbrev pub bmap_in : BmapIn → List Field
bmap_in r = q r.block ∷ d r.blocksize ∷ d r.padding ∷ []

-- struct fuse_ioctl_in, 32 bytes
abbrev pub ioctl_in : IoctlIn → List Field
ioctl_in r = q r.fh ∷ d r.flags ∷ d r.cmd ∷ q r.arg ∷ d r.in_size ∷ d r.out_size ∷ []

-- struct fuse_poll_in, 24 bytes
abbrev pub poll_in : PollIn → List Field
poll_in r = q r.fh ∷ q r.kh ∷ d r.flags ∷ d r.events ∷ []

-- struct fuse_notify_retrieve_in, 40 bytes
abbrev pub notify_retrieve_in : NotifyRetrieveIn → List Field
notify_retrieve_in r = q r.dummy1 ∷ q r.offset ∷ d r.size ∷ d r.dummy2 ∷ q r.dummy3 ∷ q r.dummy4 ∷ []

-- struct fuse_setupmapping_in, 40 bytes
abbrev pub setupmapping_in : SetupmappingIn → List Field
setupmapping_in r = q r.fh ∷ q r.foffset ∷ q r.len ∷ q r.flags ∷ q r.moffset ∷ []

-- struct fuse_removemapping_in, 4 bytes
abbrev pub removemapping_in : RemovemappingIn → List Field
removemapping_in r = d r.count ∷ []
