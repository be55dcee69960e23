-- The fields of the records that requests and replies share, in order (linux/fuse.h).
use Rattle.std.specs.Prelude.{List, [], ◌∷◌}
use Rattle.vm_values.specs.Fields.{Field, d, ds, q}
use Rattle.fuse_base.specs.declared.records.Attr.{Attr}
use Rattle.fuse_base.specs.declared.records.Kstatfs.{Kstatfs}
use Rattle.fuse_base.specs.declared.records.FileLock.{FileLock}

-- struct fuse_attr, 88 bytes
abbrev pub attr : Attr → List Field
attr r =
    q r.ino ∷ q r.size ∷ q r.blocks ∷ q r.atime ∷ q r.mtime ∷ q r.ctime ∷
    d r.atimensec ∷ d r.mtimensec ∷ d r.ctimensec ∷ d r.mode ∷ d r.nlink ∷ d r.uid.0 ∷ d r.gid.0 ∷ d r.rdev
    ∷ d r.blksize ∷ d r.flags ∷ []

-- struct fuse_kstatfs, 80 bytes
abbrev pub kstatfs : Kstatfs → List Field
kstatfs r =
    q r.blocks ∷ q r.bfree ∷ q r.bavail ∷ q r.files ∷ q r.ffree ∷ d r.bsize ∷ d r.namelen ∷ d r.frsize
    ∷ d r.padding ∷ ds 6 r.spare ∷ []

-- struct fuse_file_lock, 24 bytes
abbrev pub file_lock : FileLock → List Field
file_lock r = q r.start ∷ q r.end ∷ d r.type_ ∷ d r.pid ∷ []
