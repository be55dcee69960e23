-- The fields of a request's file call, as the library returns them to C.
use Rattle.std.specs.Prelude.{◌-◌, ◌/◌, ◌^◌, ℕ, Bool, true, false, List, length, take, drop}
use Rattle.std.specs.Prelude.{Option, Some, None, min, nat_lt, is_some, unwrap_or, if◌then◌else◌}
use Rattle.std.specs.Int.{w32, w64, cast_unsigned, from_le_bytes}
use Rattle.fuse_fs.specs.declared.answers.Context.{Context}
use Rattle.fuse_in.specs.declared.nodes.SetattrIn.{SetattrIn}
use Rattle.fuse_values.specs.declared.call.FileCall.{FileCall}
use Rattle.fuse_values.specs.declared.call.FileCall.TheVariants as value
use Rattle.fuse_values.specs.declared.placed.Placed.{Placed}
use Rattle.fuse_values.specs.declared.received.Label.{Label}
use Rattle.fuse_wire.specs.declared.opcodes.Opcode.{Opcode}
use Rattle.fuse_wire.specs.declared.opcodes.Opcode.TheVariants as op
use Rattle.fs_chain_c.specs.declared.answer_kind.AnswerKind.{AnswerKind}
use Rattle.fs_chain_c.specs.declared.answer_kind.AnswerKind.TheVariants as awaits
use Rattle.fs_chain_c.specs.declared.call.FsAttr.{FsAttr}
use Rattle.fs_chain_c.specs.declared.call.FsCall.{FsCall}
use Rattle.fs_chain_c.specs.declared.call.FsSpan.{FsSpan}
use Rattle.fs_chain_c.specs.Numbers.{answer_number, call_number, listing, sized}

-- an empty span, for a name or value that a call doesn't have
abbrev pub nowhere : FsSpan
nowhere = record { at = 0; len = 0 }

abbrev pub no_attr : FsAttr
no_attr = record {
  ino = 0;
  size = 0;
  blocks = 0;
  atime = 0;
  mtime = 0;
  ctime = 0;
  atime_nanos = 0;
  mtime_nanos = 0;
  ctime_nanos = 0;
  mode = 0;
  nlink = 0;
  uid = 0;
  gid = 0;
  rdev = 0;
  block_size = 0;
  flags = 0;
}

-- all fields 0: no file call is made
abbrev pub empty_call : FsCall
empty_call = record {
  kind = 0;
  answer = 0;
  opcode = 0;
  fault = 0;
  unique = 0;
  uid = 0;
  gid = 0;
  pid = 0;
  needed = 0;
  node = 0;
  handle = 0;
  offset = 0;
  size = 0;
  owner = 0;
  options = 0;
  count = 0;
  node2 = 0;
  handle2 = 0;
  offset2 = 0;
  name = nowhere;
  name2 = nowhere;
  value = nowhere;
  data_at = 0;
  data_len = 0;
  flags = 0;
  mode = 0;
  umask = 0;
  rdev = 0;
  valid = 0;
  has_handle = 0;
  has_owner = 0;
  delayed = 0;
  kill_priv = 0;
  flush = 0;
  unlock = 0;
  data_only = 0;
  has_group = 0;
  attr = no_attr;
  group = 0;
  ticket = 0;
  label_name = nowhere;
  label = nowhere;
  setxattr_flags = 0;
  has_label = 0;
}

-- a number as a 32-bit field: the greatest, if it doesn't fit
abbrev pub low : ℕ → ℕ
low n = min n (2 ^ 32 - 1)

-- a yes or no as a number: 1 or 0
abbrev pub flag : Bool → ℕ
flag false = 0
flag true = 1

-- a call with this kind of answer, of no process
abbrev pub made : Opcode → AnswerKind → FsCall
made o a = record empty_call { kind = call_number o; answer = answer_number a }

-- the same of a call that a process makes on a node
abbrev pub made_by : Opcode → AnswerKind → Context → (node : ℕ) → FsCall
made_by o a who node =
    record (made o a) { uid = who.uid.0; gid = who.gid.0; pid = cast_unsigned w32 who.pid; node = node }

-- the span of some bytes of the request
abbrev pub span : Placed → FsSpan
span p = record { at = p.at; len = length p.bytes.now }

-- how many bytes of data fit the reply buffer, of those that are requested
abbrev pub data_len : (size room : ℕ) → ℕ
data_len size room = min size (room - 16)

-- the attributes that SETATTR sets (struct fuse_setattr_in)
abbrev pub filled_attr : SetattrIn → FsAttr
filled_attr a = record no_attr {
  size = a.size;
  atime = a.atime;
  mtime = a.mtime;
  ctime = a.ctime;
  atime_nanos = a.atimensec;
  mtime_nanos = a.mtimensec;
  ctime_nanos = a.ctimensec;
  mode = a.mode;
  uid = a.uid.0;
  gid = a.gid.0;
}

-- whether the request of a call has names
abbrev pub has_name : FileCall → Bool
has_name (value.Lookup context node name) = true
has_name (value.Symlink context link node name extra) = true
has_name (value.Mknod context node name mode rdev umask extra) = true
has_name (value.Mkdir context node name mode umask extra) = true
has_name (value.Unlink context node name) = true
has_name (value.Rmdir context node name) = true
has_name (value.Rename context node old new_dir new flags) = true
has_name (value.Setxattr context node name value flags extra) = true
has_name (value.Getxattr context node name size) = true
has_name (value.Removexattr context node name) = true
has_name (value.Create context node name mode kill flags umask extra) = true
has_name (value.Link context old_node node name) = true
has_name _ = false

-- whether a call is on an open file or directory, which the request names by its handle
abbrev pub is_of_open_file : FileCall → Bool
is_of_open_file (value.Read context node handle most size offset owner flags) = true
is_of_open_file (value.Write context node handle len size offset owner delayed kill flags) = true
is_of_open_file (value.Release context node flags handle flush unlock owner) = true
is_of_open_file (value.Fsync context node data_only handle) = true
is_of_open_file (value.Fsyncdir context node data_only handle) = true
is_of_open_file (value.Flush context node handle owner) = true
is_of_open_file (value.Readdir context node handle size offset) = true
is_of_open_file (value.Releasedir context node flags handle) = true
is_of_open_file (value.Fallocate context node handle mode offset len) = true
is_of_open_file (value.Lseek context node handle offset whence) = true
is_of_open_file (value.CopyFileRange context node handle offset node_out handle_out offset_out len flags) =
    true
is_of_open_file _ = false

-- the fields of a call, by its request's opcode and the length of the reply buffer (room). A reply's data is
-- in the reply buffer behind the reply's header of 16 bytes. A field that the call doesn't have is 0
abbrev pub fill_call : (opcode room : ℕ) → FileCall → FsCall
fill_call opcode room (value.Init capable) =
    record (made op.Init awaits.Init) { options = capable.0 }
fill_call opcode room value.Destroy = made op.Destroy awaits.Done
fill_call opcode room (value.Lookup context node name) =
    record (made_by op.Lookup awaits.Entry context node) { name = span name }
fill_call opcode room (value.Forget context node count) =
    record (made_by op.Forget awaits.None context node) { count = count }
fill_call opcode room (value.BatchForget context counts) =
    record (made_by op.BatchForget awaits.None context 0) {
      count = length counts.bytes.now / 16;
      value = span counts;
    }
fill_call opcode room (value.Getattr context node handle) =
    record (made_by op.Getattr awaits.Attr context node) {
      has_handle = flag (is_some handle);
      handle = unwrap_or handle 0;
    }
fill_call opcode room (value.Setattr context node attr handle valid) =
    record (made_by op.Setattr awaits.Attr context node) {
      has_handle = flag (is_some handle);
      handle = unwrap_or handle 0;
      valid = valid.0;
      owner = attr.lock_owner;
      attr = filled_attr attr;
    }
fill_call opcode room (value.Readlink context node) =
    record (made_by op.Readlink awaits.Data context node) { data_at = 16; data_len = room - 16 }
fill_call opcode room (value.Symlink context link node name extra) =
    record (made_by op.Symlink awaits.Entry context node) {
      name = span name;
      value = span link;
      has_group = flag (is_some extra.sup_gid);
      group = unwrap_or extra.sup_gid 0;
    }
fill_call opcode room (value.Mknod context node name mode rdev umask extra) =
    record (made_by op.Mknod awaits.Entry context node) {
      name = span name;
      mode = mode;
      rdev = rdev;
      umask = umask;
      has_group = flag (is_some extra.sup_gid);
      group = unwrap_or extra.sup_gid 0;
    }
fill_call opcode room (value.Mkdir context node name mode umask extra) =
    record (made_by op.Mkdir awaits.Entry context node) {
      name = span name;
      mode = mode;
      umask = umask;
      has_group = flag (is_some extra.sup_gid);
      group = unwrap_or extra.sup_gid 0;
    }
fill_call opcode room (value.Unlink context node name) =
    record (made_by op.Unlink awaits.Done context node) { name = span name }
fill_call opcode room (value.Rmdir context node name) =
    record (made_by op.Rmdir awaits.Done context node) { name = span name }
fill_call opcode room (value.Rename context node old new_dir new flags) =
    record (made_by op.Rename awaits.Done context node) {
      name = span old;
      name2 = span new;
      node2 = new_dir;
      flags = flags;
    }
fill_call opcode room (value.Link context old_node node name) =
    record (made_by op.Link awaits.Entry context old_node) { name = span name; node2 = node }
fill_call opcode room (value.Open context node kill flags) =
    record (made_by op.Open awaits.Open context node) { flags = flags; kill_priv = flag kill }
fill_call opcode room (value.Read context node handle most size offset owner flags) =
    record (made_by op.Read awaits.Data context node) {
      handle = handle;
      offset = offset;
      size = size;
      data_at = 16;
      data_len = most;
      flags = flags;
      has_owner = flag (is_some owner);
      owner = unwrap_or owner 0;
    }
fill_call opcode room (value.Write context node handle len size offset owner delayed kill flags) =
    record (made_by op.Write awaits.Write context node) {
      handle = handle;
      offset = offset;
      size = size;
      data_at = 80;
      data_len = len;
      flags = flags;
      has_owner = flag (is_some owner);
      owner = unwrap_or owner 0;
      delayed = flag delayed;
      kill_priv = flag kill;
    }
fill_call opcode room (value.Statfs context node) = made_by op.Statfs awaits.Statfs context node
fill_call opcode room (value.Release context node flags handle flush unlock owner) =
    record (made_by op.Release awaits.Done context node) {
      handle = handle;
      flags = flags;
      flush = flag flush;
      unlock = flag unlock;
      has_owner = flag (is_some owner);
      owner = unwrap_or owner 0;
    }
fill_call opcode room (value.Fsync context node data_only handle) =
    record (made_by op.Fsync awaits.Done context node) { handle = handle; data_only = flag data_only }
fill_call opcode room (value.Fsyncdir context node data_only handle) =
    record (made_by op.Fsyncdir awaits.Done context node) { handle = handle; data_only = flag data_only }
fill_call opcode room (value.Setxattr context node name value flags extra) =
    record (made_by op.Setxattr awaits.Done context node) {
      name = span name;
      value = span value;
      flags = flags;
      setxattr_flags = extra.0;
    }
fill_call opcode room (value.Getxattr context node name size) =
    record (made_by op.Getxattr awaits.Data context node) {
      answer = answer_number (sized size);
      name = span name;
      size = size;
      data_at = 16;
      data_len = data_len size room;
    }
fill_call opcode room (value.Listxattr context node size) =
    record (made_by op.Listxattr awaits.Data context node) {
      answer = answer_number (sized size);
      size = size;
      data_at = 16;
      data_len = data_len size room;
    }
fill_call opcode room (value.Removexattr context node name) =
    record (made_by op.Removexattr awaits.Done context node) { name = span name }
fill_call opcode room (value.Flush context node handle owner) =
    record (made_by op.Flush awaits.Done context node) { handle = handle; owner = owner }
fill_call opcode room (value.Opendir context node flags) =
    record (made_by op.Opendir awaits.Open context node) { flags = flags }
fill_call opcode room (value.Readdir context node handle size offset) =
    record (made_by op.Readdir awaits.Entries context node) {
      kind = call_number (listing opcode);
      handle = handle;
      offset = offset;
      size = size;
      data_at = 16;
      data_len = data_len size room;
    }
fill_call opcode room (value.Releasedir context node flags handle) =
    record (made_by op.Releasedir awaits.Done context node) { handle = handle; flags = flags }
fill_call opcode room (value.Access context node mask) =
    record (made_by op.Access awaits.Done context node) { mode = mask }
fill_call opcode room (value.Create context node name mode kill flags umask extra) =
    record (made_by op.Create awaits.Create context node) {
      name = span name;
      mode = mode;
      flags = flags;
      umask = umask;
      kill_priv = flag kill;
      has_group = flag (is_some extra.sup_gid);
      group = unwrap_or extra.sup_gid 0;
    }
fill_call opcode room (value.Fallocate context node handle mode offset len) =
    record (made_by op.Fallocate awaits.Done context node) {
      handle = handle;
      mode = mode;
      offset = offset;
      size = len;
    }
fill_call opcode room (value.Lseek context node handle offset whence) =
    record (made_by op.Lseek awaits.Lseek context node) { handle = handle; offset = offset; flags = whence }
fill_call opcode room
    (value.CopyFileRange context node handle offset node_out handle_out offset_out len flags) =
    record (made_by op.CopyFileRange awaits.Write context node) {
      handle = handle;
      offset = offset;
      node2 = node_out;
      handle2 = handle_out;
      offset2 = offset_out;
      size = len;
    }
fill_call opcode room (value.Syncfs context node) = made_by op.Syncfs awaits.Done context node
fill_call opcode room value.Getlk = empty_call
fill_call opcode room value.Setlk = empty_call
fill_call opcode room value.Setlkw = empty_call
fill_call opcode room value.Bmap = empty_call
fill_call opcode room value.Ioctl = empty_call
fill_call opcode room value.Poll = empty_call
fill_call opcode room value.NotifyReply = empty_call
fill_call opcode room value.TmpFile = empty_call

-- the opcode of a request, and its unique number (struct fuse_in_header); 0 if the request is shorter than 16
-- bytes
abbrev pub opcode_in : List ℕ → ℕ
opcode_in request = if nat_lt (length request) 16 then 0 else from_le_bytes w32 (take 4 (drop 4 request))

abbrev pub unique_in : List ℕ → ℕ
unique_in request = if nat_lt (length request) 16 then 0 else from_le_bytes w64 (take 8 (drop 8 request))

-- a call's fields with the opcode and the unique number of its request
abbrev pub numbered : List ℕ → FsCall → FsCall
numbered request call = record call { opcode = opcode_in request; unique = unique_in request }

-- ---- a new node's label

-- the label that comes with a request, if it makes a node and has one
abbrev pub label_in : FileCall → Option Label
label_in (value.Symlink context link node name extra) = extra.secctx
label_in (value.Mknod context node name mode rdev umask extra) = extra.secctx
label_in (value.Mkdir context node name mode umask extra) = extra.secctx
label_in (value.Create context node name mode kill flags umask extra) = extra.secctx
label_in _ = None

-- a call's fields with a label and its name
abbrev pub labelled : Option Label → FsCall → FsCall
labelled None call = call
labelled (Some l) call = record call { has_label = 1; label_name = span l.name; label = span l.secctx }

-- ---- the fields of a call

-- the fields of a call, by its request and the length of the reply buffer
abbrev pub call_fields : (request : List ℕ) → (room : ℕ) → FileCall → FsCall
call_fields request room call =
    labelled (label_in call) (numbered request (fill_call (opcode_in request) room call))
