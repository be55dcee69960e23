-- The caller of a file call, and the shape of its request.
use Rattle.std.specs.Prelude.{◌≡◌, Bool, true, false}
use Rattle.fuse_in.specs.declared.session.InHeader.{InHeader}
use Rattle.fuse_fs.specs.declared.answers.Context.{Context}
use Rattle.fuse_fs.specs.Answers.{context_of}
use Rattle.fuse_fs.specs.Calls.{FileCall, Init, BatchForget, Lookup, Symlink, Mknod, Mkdir, Link, Create}
use Rattle.fuse_fs.specs.Calls.{Read, Write, Readdir}
use Rattle.fuse_fs.specs.Calls.{Readlink, Statfs, Syncfs, Destroy, Getlk, Setlk, Setlkw, Bmap, Ioctl, Poll}
use Rattle.fuse_fs.specs.Calls.{NotifyReply, TmpFile, Unlink, Rmdir}
use Rattle.fuse_fs.specs.Calls.{Removexattr, Getxattr, Rename, Setxattr, Forget, Getattr, Setattr, Access}
use Rattle.fuse_fs.specs.Calls.{Listxattr, Open, Opendir}
use Rattle.fuse_fs.specs.Calls.{Release, Releasedir, Fsync, Fsyncdir, Flush, Fallocate, Lseek, CopyFileRange}

-- a call that may answer an entry is made for this caller
abbrev pub IsFor : Context → FileCall → Type 0
IsFor who (Lookup c n name) = c ≡ who
IsFor who (Symlink c l n name x) = c ≡ who
IsFor who (Mknod c n name m r u x) = c ≡ who
IsFor who (Mkdir c n name m u x) = c ≡ who
IsFor who (Link c o n name) = c ≡ who
IsFor who (Create c n name m k f u x) = c ≡ who
IsFor who _ = Unit {0}

-- every call but those of INIT, BATCH_FORGET, READ, WRITE and READDIR
abbrev pub is_plain : FileCall → Bool
is_plain (Init capable) = false
is_plain (BatchForget c counts) = false
is_plain (Read c n h r s o w f) = false
is_plain (Write c n h b s o w d k f) = false
is_plain (Readdir c n h s o) = false
is_plain _ = true

-- the call is plain, and a call that may answer an entry is made for the request's sender
abbrev pub CallShows : InHeader → FileCall → Type 0
CallShows h call = (is_plain call ≡ true) × IsFor (context_of h) call

-- the parts of a request behind its header: none, a record, a record of an open file, a name, a
-- record with names, or the name of a new node
pub data RequestShape : Type 0 where
  Header : RequestShape
  Fixed : RequestShape
  OnFile : RequestShape
  Named : RequestShape
  NamedRecord : RequestShape
  Made : RequestShape
  Other : RequestShape

-- the shape of the request that makes this call
abbrev pub shape_of : FileCall → RequestShape
shape_of (Readlink c n) = Header
shape_of (Statfs c n) = Header
shape_of (Syncfs c n) = Header
shape_of Destroy = Header
shape_of Getlk = Header
shape_of Setlk = Header
shape_of Setlkw = Header
shape_of Bmap = Header
shape_of Ioctl = Header
shape_of Poll = Header
shape_of NotifyReply = Header
shape_of TmpFile = Header
shape_of (Forget c n k) = Fixed
shape_of (Getattr c n h) = Fixed
shape_of (Setattr c n r h v) = Fixed
shape_of (Access c n m) = Fixed
shape_of (Listxattr c n s) = Fixed
shape_of (Open c n k f) = Fixed
shape_of (Opendir c n f) = Fixed
shape_of (Release c n f h x u o) = OnFile
shape_of (Releasedir c n f h) = OnFile
shape_of (Fsync c n d h) = OnFile
shape_of (Fsyncdir c n d h) = OnFile
shape_of (Flush c n h o) = OnFile
shape_of (Fallocate c n h m o l) = OnFile
shape_of (Lseek c n h o w) = OnFile
shape_of (CopyFileRange c n h o d i p l f) = OnFile
shape_of (Lookup c n name) = Named
shape_of (Unlink c n name) = Named
shape_of (Rmdir c n name) = Named
shape_of (Removexattr c n name) = Named
shape_of (Link c o n name) = NamedRecord
shape_of (Rename c n o d name f) = NamedRecord
shape_of (Setxattr c n name v f x) = NamedRecord
shape_of (Getxattr c n name s) = NamedRecord
shape_of (Symlink c l n name x) = Made
shape_of (Mknod c n name m r u x) = Made
shape_of (Mkdir c n name m u x) = Made
shape_of (Create c n name m k f u x) = Made
shape_of _ = Other

-- the request is one record
abbrev pub is_record : RequestShape → Bool
is_record Fixed = true
is_record OnFile = true
is_record _ = false
