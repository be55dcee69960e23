-- Records of replies made from a file system's answers, with 0 in unused fields.
use Rattle.std.specs.Prelude.{ℕ, length, Option, Some, None}
use Rattle.fuse_base.specs.declared.records.Attr.{Attr}
use Rattle.fuse_wire.specs.declared.replies.AttrOut.{AttrOut}
use Rattle.fuse_wire.specs.declared.replies.Dirent.{Dirent}
use Rattle.fuse_wire.specs.declared.replies.GetxattrOut.{GetxattrOut}
use Rattle.fuse_wire.specs.declared.replies.LseekOut.{LseekOut}
use Rattle.fuse_wire.specs.declared.replies.OpenOut.{OpenOut}
use Rattle.fuse_wire.specs.declared.replies.WriteOut.{WriteOut}
use Rattle.fuse_fs.specs.Calls.{Listed}
use Rattle.fuse_fs.specs.Times.{Duration}

-- attributes and their timeout, as struct fuse_attr_out
abbrev pub attr_out_of : Attr → Duration → AttrOut
attr_out_of attr timeout =
    record { attr_valid = timeout.seconds; attr_valid_nsec = timeout.nanos; dummy = 0; attr = attr }

-- an open file's number, or 0 if it has none
abbrev pub handle_or_0 : Option ℕ → ℕ
handle_or_0 (Some handle) = handle
handle_or_0 None = 0

-- an open file, as struct fuse_open_out
abbrev pub open_out_of : (handle : Option ℕ) → (options : ℕ) → OpenOut
open_out_of handle options = record { fh = handle_or_0 handle; open_flags = options; padding = 0 }

-- the number of bytes written, as struct fuse_write_out
abbrev pub write_out_of : ℕ → WriteOut
write_out_of count = record { size = count; padding = 0 }

-- an offset, as struct fuse_lseek_out
abbrev pub lseek_out_of : ℕ → LseekOut
lseek_out_of offset = record { offset = offset }

-- a length in bytes, as struct fuse_getxattr_out
abbrev pub getxattr_out_of : ℕ → GetxattrOut
getxattr_out_of count = record { size = count; padding = 0 }

-- an entry of a directory without its name, as struct fuse_dirent
abbrev pub dirent_of : Listed → Dirent
dirent_of e = record { ino = e.ino; off = e.offset; namelen = length e.name; type_ = e.kind }
