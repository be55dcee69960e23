-- The calls of a file system, and the answers that each may have.
use Rattle.std.specs.Prelude.{◌≡◌, ℕ, Bool, true, false, not, ◌&&◌, IsTrue, nat_lt, nat_le, ◌^◌, List, []}
use Rattle.std.specs.Prelude.{◌∷◌, length, Option, Some, None}
use Rattle.fuse_base.specs.declared.records.Attr.{Attr}
use Rattle.fuse_base.specs.declared.stats.StatVfs.{StatVfs}
use Rattle.fuse_in.specs.declared.nodes.SetattrIn.{SetattrIn}
use Rattle.fuse_fs.specs.declared.answers.Context.{Context}
use Rattle.fuse_fs.specs.declared.answers.Entry.{Entry}
use Rattle.fuse_fs.specs.Times.{Duration}

-- a security label with its name
pub record SecurityContext : Type 0 where
  pub name : List ℕ
  pub label : List ℕ

-- the extensions of a request that makes a node
pub record Extra : Type 0 where
  pub security : Option SecurityContext
  pub group : Option ℕ

-- a new symbolic link: its name, its target, and its extensions
pub record NewLink : Type 0 where
  pub name : List ℕ
  pub link : List ℕ
  pub extra : Extra

-- an entry of a directory, as a listing has it
pub record Listed : Type 0 where
  pub ino : ℕ
  pub offset : ℕ
  pub kind : ℕ
  pub name : List ℕ

-- a call of a file system; room: the number of bytes that fit into a READ's reply
pub data FileCall : Type 0 where
  Init : (capable : ℕ) →
      FileCall
  Destroy : FileCall
  Lookup : Context →
      (node : ℕ) → (name : List ℕ) →
      FileCall
  Forget : Context →
      (node count : ℕ) →
      FileCall
  BatchForget : Context →
      (counts : List (ℕ × ℕ)) →
      FileCall
  Getattr : Context →
      (node : ℕ) → (handle : Option ℕ) →
      FileCall
  Setattr : Context →
      (node : ℕ) →
      SetattrIn →
      (handle : Option ℕ) → (valid : ℕ) →
      FileCall
  Readlink : Context →
      (node : ℕ) →
      FileCall
  Symlink : Context →
      (link : List ℕ) → (node : ℕ) → (name : List ℕ) →
      Extra →
      FileCall
  Mknod : Context →
      (node : ℕ) → (name : List ℕ) → (mode rdev umask : ℕ) →
      Extra →
      FileCall
  Mkdir : Context →
      (node : ℕ) → (name : List ℕ) → (mode umask : ℕ) →
      Extra →
      FileCall
  Unlink : Context →
      (node : ℕ) → (name : List ℕ) →
      FileCall
  Rmdir : Context →
      (node : ℕ) → (name : List ℕ) →
      FileCall
  Rename : Context →
      (node : ℕ) → (old : List ℕ) → (new_dir : ℕ) → (new : List ℕ) → (flags : ℕ) →
      FileCall
  Link : Context →
      (old_node node : ℕ) → (name : List ℕ) →
      FileCall
  Open : Context →
      (node : ℕ) → (kill : Bool) → (flags : ℕ) →
      FileCall
  Read : Context →
      (node handle room size offset : ℕ) → (owner : Option ℕ) → (flags : ℕ) →
      FileCall
  Write : Context →
      (node handle : ℕ) → (bytes : List ℕ) → (size offset : ℕ) → (owner : Option ℕ) → (delayed kill : Bool) →
      (flags : ℕ) →
      FileCall
  Statfs : Context →
      (node : ℕ) →
      FileCall
  Release : Context →
      (node flags handle : ℕ) → (flush unlock : Bool) → (owner : Option ℕ) →
      FileCall
  Fsync : Context →
      (node : ℕ) → (data_only : Bool) → (handle : ℕ) →
      FileCall
  Fsyncdir : Context →
      (node : ℕ) → (data_only : Bool) → (handle : ℕ) →
      FileCall
  Setxattr : Context →
      (node : ℕ) → (name value : List ℕ) → (flags extra : ℕ) →
      FileCall
  Getxattr : Context →
      (node : ℕ) → (name : List ℕ) → (size : ℕ) →
      FileCall
  Listxattr : Context →
      (node size : ℕ) →
      FileCall
  Removexattr : Context →
      (node : ℕ) → (name : List ℕ) →
      FileCall
  Flush : Context →
      (node handle owner : ℕ) →
      FileCall
  Opendir : Context →
      (node flags : ℕ) →
      FileCall
  Readdir : Context →
      (node handle size offset : ℕ) →
      FileCall
  Releasedir : Context →
      (node flags handle : ℕ) →
      FileCall
  Getlk : FileCall
  Setlk : FileCall
  Setlkw : FileCall
  Bmap : FileCall
  Ioctl : FileCall
  Poll : FileCall
  NotifyReply : FileCall
  Access : Context →
      (node mask : ℕ) →
      FileCall
  Create :
      Context →
      (node : ℕ) → (name : List ℕ) → (mode : ℕ) → (kill : Bool) → (flags umask : ℕ) →
      Extra →
      FileCall
  Fallocate : Context →
      (node handle mode offset len : ℕ) →
      FileCall
  Lseek : Context →
      (node handle offset whence : ℕ) →
      FileCall
  CopyFileRange : Context →
      (node handle offset node_out handle_out offset_out len flags : ℕ) →
      FileCall
  Syncfs : Context →
      (node : ℕ) →
      FileCall
  TmpFile : FileCall

-- an answer of a file system: an error number, or the call's result
pub data FileAnswer : Type 0 where
  Failed : (errno : ℕ) → FileAnswer
  Done : FileAnswer
  HasEntry : Entry ℕ → FileAnswer
  HasAttr : Attr → Duration → FileAnswer
  Opened : (handle : Option ℕ) → (options : ℕ) → FileAnswer
  Created : Entry ℕ → (handle : Option ℕ) → (options : ℕ) → FileAnswer
  Bytes : List ℕ → FileAnswer
  Count : (bytes : ℕ) → FileAnswer
  Stats : StatVfs → FileAnswer
  Wrote : (bytes : ℕ) → FileAnswer
  Offset : ℕ → FileAnswer
  Entries : List Listed → FileAnswer
  Wants : (options : ℕ) → FileAnswer

-- the kinds of successful answers
pub data AnswerForm : Type 0 where
  IsDone : AnswerForm
  IsNeverGood : AnswerForm
  IsEntry : AnswerForm
  IsAttr : AnswerForm
  IsOpen : AnswerForm
  IsCreate : AnswerForm
  IsBytes : AnswerForm
  IsBytesOrCount : AnswerForm
  IsStats : AnswerForm
  IsWritten : AnswerForm
  IsOffset : AnswerForm
  IsEntries : AnswerForm
  IsInitOptions : AnswerForm

-- the kind of a call's successful answer
abbrev pub kind_of : FileCall → AnswerForm
kind_of (Lookup c n name) = IsEntry
kind_of (Symlink c l n name x) = IsEntry
kind_of (Mknod c n name m r u x) = IsEntry
kind_of (Mkdir c n name m u x) = IsEntry
kind_of (Link c o n name) = IsEntry
kind_of (Create c n name m k f u x) = IsCreate
kind_of (Getattr c n h) = IsAttr
kind_of (Setattr c n r h v) = IsAttr
kind_of (Open c n k f) = IsOpen
kind_of (Opendir c n f) = IsOpen
kind_of (Readlink c n) = IsBytes
kind_of (Read c n h r s o w f) = IsBytes
kind_of (Getxattr c n name s) = IsBytesOrCount
kind_of (Listxattr c n s) = IsBytesOrCount
kind_of (Statfs c n) = IsStats
kind_of (Write c n h b s o w d k f) = IsWritten
kind_of (CopyFileRange c n h o n' h' o' l f) = IsWritten
kind_of (Lseek c n h o w) = IsOffset
kind_of (Readdir c n h s o) = IsEntries
kind_of (Init c) = IsInitOptions
kind_of TmpFile = IsNeverGood
kind_of _ = IsDone

-- whether a call can't fail
abbrev pub never_fails : FileCall → Bool
never_fails (Forget c n k) = true
never_fails (BatchForget c counts) = true
never_fails Destroy = true
never_fails _ = false

-- whether an open file's number, if there is one, is below 2^64
abbrev pub is_handle : Option ℕ → Bool
is_handle None = true
is_handle (Some handle) = nat_lt handle (2 ^ 64)

-- whether an answer is a successful one of a kind, with numbers of nodes, open files, offsets and
-- options below 2^64, and counts below 2^32
abbrev pub is_of : AnswerForm → FileAnswer → Bool
is_of IsDone Done = true
is_of IsEntry (HasEntry e) = nat_lt e.inode (2 ^ 64)
is_of IsAttr (HasAttr a t) = true
is_of IsOpen (Opened h o) = is_handle h
is_of IsCreate (Created e h o) = nat_lt e.inode (2 ^ 64) && is_handle h
is_of IsBytes (Bytes b) = true
is_of IsBytesOrCount (Bytes b) = true
is_of IsBytesOrCount (Count n) = nat_lt n (2 ^ 32)
is_of IsStats (Stats st) = true
is_of IsWritten (Wrote n) = nat_lt n (2 ^ 32)
is_of IsOffset (Offset n) = nat_lt n (2 ^ 64)
is_of IsEntries (Entries ds) = true
is_of IsInitOptions (Wants o) = nat_lt o (2 ^ 64)
is_of _ _ = false

-- whether a call can have this answer
abbrev pub suits : FileCall → FileAnswer → Bool
suits call (Failed errno) = not (never_fails call) && nat_lt 0 errno && nat_lt errno 4096
suits (Read c n h room size o w f) (Bytes b) = nat_le (length b) room
suits call answer = is_of (kind_of call) answer

-- calls with their answers, one after another: each answer suits its call, and the relation allows it
abbrev pub FileRun :
    {F : Type 0} → (F → FileCall → FileAnswer → F → Type 0) → F → List (FileCall × FileAnswer) → F → Type 0
FileRun {F} may before [] after = after ≡ before
FileRun {F} may before (step ∷ steps) after =
    (between : F)
    × IsTrue (suits step.0 step.1)
    × may before step.0 step.1 between
    × FileRun may between steps after
