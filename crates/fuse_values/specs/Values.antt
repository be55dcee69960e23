-- The call of a file system that a value of the code means.
use Rattle.std.specs.Prelude.{ℕ, zero, suc, ◌/◌, List, [], ◌∷◌, length, take, drop, option_map}
use Rattle.fuse_in.specs.Shapes.{made}
use Rattle.fuse_wire.specs.Records.{forget_one}
use Rattle.fuse_fs.specs.Calls as call
use Rattle.fuse_fs.specs.Calls.{SecurityContext, Extra}
use Rattle.fuse_values.specs.declared.call.FileCall.{FileCall}
use Rattle.fuse_values.specs.declared.call.FileCall.TheVariants as value
use Rattle.fuse_values.specs.declared.received.Label.{Label}
use Rattle.fuse_values.specs.declared.received.Received.{Received}

-- the label that is borrowed from a request
abbrev pub label_of : Label → SecurityContext
label_of l = record { name = l.name.bytes.now; label = l.secctx.bytes.now }

-- the extensions that are borrowed from a request
abbrev pub received_extra : Received → Extra
received_extra r = record { security = option_map label_of r.secctx; group = r.sup_gid }

-- the first pair of some bytes (struct fuse_forget_one): a node, and the number to subtract from
-- its lookup count
abbrev pub pair_in : List ℕ → ℕ × ℕ
pair_in bytes = let r = made forget_one.parts forget_one.make (take 16 bytes) in (r.nodeid, r.nlookup)

-- the first n pairs of some bytes
unfoldable pub pairs_of : (n : ℕ) → List ℕ → List (ℕ × ℕ)
pairs_of zero bytes = []
pairs_of (suc n) bytes = pair_in bytes ∷ pairs_of n (drop 16 bytes)

-- all whole pairs of some bytes
abbrev pub pairs_in : List ℕ → List (ℕ × ℕ)
pairs_in bytes = pairs_of (length bytes / 16) bytes

-- the call that a value means; bytes: the data of a WRITE, which the value doesn't hold
abbrev pub call_of : (bytes : List ℕ) → FileCall → call.FileCall
call_of bytes (value.Init capable) = call.Init capable.0
call_of bytes value.Destroy = call.Destroy
call_of bytes (value.Lookup context node name) = call.Lookup context node name.bytes.now
call_of bytes (value.Forget context node count) = call.Forget context node count
call_of bytes (value.BatchForget context counts) = call.BatchForget context (pairs_in counts.bytes.now)
call_of bytes (value.Getattr context node handle) = call.Getattr context node handle
call_of bytes (value.Setattr context node attr handle valid) = call.Setattr context node attr handle valid.0
call_of bytes (value.Readlink context node) = call.Readlink context node
call_of bytes (value.Symlink context link node name extra) =
    call.Symlink context link.bytes.now node name.bytes.now (received_extra extra)
call_of bytes (value.Mknod context node name mode rdev umask extra) =
    call.Mknod context node name.bytes.now mode rdev umask (received_extra extra)
call_of bytes (value.Mkdir context node name mode umask extra) =
    call.Mkdir context node name.bytes.now mode umask (received_extra extra)
call_of bytes (value.Unlink context node name) = call.Unlink context node name.bytes.now
call_of bytes (value.Rmdir context node name) = call.Rmdir context node name.bytes.now
call_of bytes (value.Rename context node old new_dir new flags) =
    call.Rename context node old.bytes.now new_dir new.bytes.now flags
call_of bytes (value.Link context old_node node name) = call.Link context old_node node name.bytes.now
call_of bytes (value.Open context node kill flags) = call.Open context node kill flags
call_of bytes (value.Read context node handle room size offset owner flags) =
    call.Read context node handle room size offset owner flags
call_of bytes (value.Write context node handle len size offset owner delayed kill flags) =
    call.Write context node handle bytes size offset owner delayed kill flags
call_of bytes (value.Statfs context node) = call.Statfs context node
call_of bytes (value.Release context node flags handle flush unlock owner) =
    call.Release context node flags handle flush unlock owner
call_of bytes (value.Fsync context node data_only handle) = call.Fsync context node data_only handle
call_of bytes (value.Fsyncdir context node data_only handle) = call.Fsyncdir context node data_only handle
call_of bytes (value.Setxattr context node name value flags extra) =
    call.Setxattr context node name.bytes.now value.bytes.now flags extra.0
call_of bytes (value.Getxattr context node name size) = call.Getxattr context node name.bytes.now size
call_of bytes (value.Listxattr context node size) = call.Listxattr context node size
call_of bytes (value.Removexattr context node name) = call.Removexattr context node name.bytes.now
call_of bytes (value.Flush context node handle owner) = call.Flush context node handle owner
call_of bytes (value.Opendir context node flags) = call.Opendir context node flags
call_of bytes (value.Readdir context node handle size offset) = call.Readdir context node handle size offset
call_of bytes (value.Releasedir context node flags handle) = call.Releasedir context node flags handle
call_of bytes value.Getlk = call.Getlk
call_of bytes value.Setlk = call.Setlk
call_of bytes value.Setlkw = call.Setlkw
call_of bytes value.Bmap = call.Bmap
call_of bytes value.Ioctl = call.Ioctl
call_of bytes value.Poll = call.Poll
call_of bytes value.NotifyReply = call.NotifyReply
call_of bytes (value.Access context node mask) = call.Access context node mask
call_of bytes (value.Create context node name mode kill flags umask extra) =
    call.Create context node name.bytes.now mode kill flags umask (received_extra extra)
call_of bytes (value.Fallocate context node handle mode offset len) =
    call.Fallocate context node handle mode offset len
call_of bytes (value.Lseek context node handle offset whence) = call.Lseek context node handle offset whence
call_of bytes (value.CopyFileRange context node handle offset node_out handle_out offset_out len flags) =
    call.CopyFileRange context node handle offset node_out handle_out offset_out len flags
call_of bytes (value.Syncfs context node) = call.Syncfs context node
call_of bytes value.TmpFile = call.TmpFile
