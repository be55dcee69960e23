-- The answers that the results of a file system's methods mean, as numbers and bytes.
use Rattle.std.specs.Prelude.{◌≡◌, ℕ, List, [], ◌∷◌, map, Option, option_map, Result, Ok, Err, Vec}
use Rattle.std.specs.Global.{Global}
use Rattle.std.specs.Int.{w32, cast_signed}
use Rattle.fuse_base.specs.Options.{FsOptions}
use Rattle.fuse_base.specs.declared.flags.FlagSet.{FlagSet}
use Rattle.fuse_base.specs.declared.flags.OpenOptionsNames.{OpenOptionsNames}
use Rattle.fuse_base.specs.declared.ids.GuestGid.{GuestGid}
use Rattle.fuse_base.specs.declared.records.Attr.{Attr}
use Rattle.fuse_base.specs.declared.stats.StatVfs.{StatVfs}
use Rattle.fuse_in.specs.declared.session.InHeader.{InHeader}
use Rattle.fuse_wire.specs.declared.replies.EntryOut.{EntryOut}
use Rattle.fuse_fs.specs.declared.answers.Context.{Context}
use Rattle.fuse_fs.specs.declared.answers.Entry.{Entry}
use Rattle.fuse_fs.specs.declared.answers.GetxattrReply.{GetxattrReply}
use Rattle.fuse_fs.specs.declared.answers.GetxattrReply.TheVariants as value
use Rattle.fuse_fs.specs.declared.answers.ListxattrReply.{ListxattrReply}
use Rattle.fuse_fs.specs.declared.answers.ListxattrReply.TheVariants as names
use Rattle.fuse_fs.specs.declared.directory.DirEntry.{DirEntry}
use Rattle.fuse_fs.specs.declared.extensions.Extensions.{Extensions}
use Rattle.fuse_fs.specs.declared.extensions.SecContext.{SecContext}
use Rattle.fuse_fs.specs.Calls.{FileCall, FileAnswer, Forget, Failed, Done, HasEntry, HasAttr, Opened}
use Rattle.fuse_fs.specs.Calls.{Created, Bytes, Count, Stats, Wrote, Offset, Entries, Wants, SecurityContext}
use Rattle.fuse_fs.specs.Calls.{Extra, Listed}
use Rattle.fuse_fs.specs.Times.{Duration}

-- the options of an open file, as a flag set
abbrev pub OpenOptions : Type 0
OpenOptions = FlagSet ℕ OpenOptionsNames

-- the calling process, from a request's header
abbrev pub context_of : InHeader → Context
context_of h = record { uid = h.uid; gid = h.gid; pid = cast_signed w32 h.pid }

-- the flag set without flags
abbrev pub no_flags : {N : Type 0} → FlagSet ℕ N
no_flags = record { 0 = 0; 1 = record {} }

-- a security label with its name
abbrev pub security_of : SecContext → SecurityContext
security_of label = record { name = label.name.items; label = label.secctx.items }

-- the extensions of a request that makes a node
abbrev pub extra_of : Extensions → Extra
extra_of ext =
    record {
      security = option_map security_of ext.secctx;
      group = option_map (λ (g : GuestGid). g.0) ext.sup_gid;
    }

-- an entry of a directory, as a listing has it
abbrev pub listed : DirEntry → Listed
listed e = record { ino = e.ino; offset = e.offset; kind = e.type_; name = e.name.now }

-- the default counts of a file system: all 0, but blocks of 512 bytes and names of at most 255
abbrev pub default_stats : StatVfs
default_stats =
    record {
      f_blocks = 0;
      f_bfree = 0;
      f_bavail = 0;
      f_files = 0;
      f_ffree = 0;
      f_bsize = 512;
      f_namemax = 255;
      f_frsize = 0;
    }

-- pairs of a node and a count, with the node's number for the node
abbrev pub pair_numbers : {I : Type 0} → (I → ℕ) → List (I × ℕ) → List (ℕ × ℕ)
pair_numbers number pairs = map (λ pair. (number pair.0, pair.1)) pairs

-- a FORGET for each pair of a node and a count, one after another
abbrev pub ForgetsEach :
    {F : Type 0} → (F → FileCall → FileAnswer → F → Type 0) → F → Context → List (ℕ × ℕ) → F → Type 0
ForgetsEach may before who [] after = after ≡ before
ForgetsEach {F} may before who (pair ∷ pairs) after =
    (between : F)
    × may before (Forget who pair.0 pair.1) Done between
    × ForgetsEach may between who pairs after

-- an entry with its node's number for the node
abbrev pub numbered : {I : Type 0} → (I → ℕ) → Entry I → Entry ℕ
numbered number e =
    record {
      inode = number e.inode;
      generation = e.generation;
      attr = e.attr;
      attr_timeout = e.attr_timeout;
      entry_timeout = e.entry_timeout;
    }

-- an entry as struct fuse_entry_out
abbrev pub entry_out_of : Entry ℕ → EntryOut
entry_out_of e =
    record {
      nodeid = e.inode;
      generation = e.generation;
      entry_valid = e.entry_timeout.seconds;
      attr_valid = e.attr_timeout.seconds;
      entry_valid_nsec = e.entry_timeout.nanos;
      attr_valid_nsec = e.attr_timeout.nanos;
      attr = e.attr;
    }

-- the answer that a result of `init` means
abbrev pub options_answer : Result FsOptions ℕ → FileAnswer
options_answer (Ok want) = Wants want.0
options_answer (Err e) = Failed e

-- the answer that a result means, of `lookup` and of each call that makes a node
abbrev pub entry_answer : {I : Type 0} → (I → ℕ) → Result (Entry I) ℕ → FileAnswer
entry_answer number (Ok e) = HasEntry (numbered number e)
entry_answer number (Err e) = Failed e

-- the answer that a result of `read` means; bytes: those that were put into the writer
abbrev pub data_answer : Result ℕ ℕ → List ℕ → FileAnswer
data_answer (Ok n) bytes = Bytes bytes
data_answer (Err e) bytes = Failed e

-- the answer that a result means, of the calls that only succeed or fail
abbrev pub done_answer : {T : Type 0} → Result T ℕ → FileAnswer
done_answer (Ok nothing) = Done
done_answer (Err e) = Failed e

-- the answer that a result means, of `getattr` and `setattr`
abbrev pub attr_answer : Result (Attr × Duration) ℕ → FileAnswer
attr_answer (Ok r) = HasAttr r.0 r.1
attr_answer (Err e) = Failed e

-- the answer that a result of `readlink` means
abbrev pub target_answer : Result (Vec ℕ Global) ℕ → FileAnswer
target_answer (Ok target) = Bytes target.items
target_answer (Err e) = Failed e

-- the answer that a result means, of `open` and `opendir`
abbrev pub opened_answer : {H : Type 0} → (H → ℕ) → Result (Option H × OpenOptions) ℕ → FileAnswer
opened_answer number (Ok r) = Opened (option_map number r.0) r.1.0
opened_answer number (Err e) = Failed e

-- the answer that a result of `create` means
abbrev pub created_answer :
    {I H : Type 0} → (I → ℕ) → (H → ℕ) → Result (Entry I × Option H × OpenOptions) ℕ → FileAnswer
created_answer node file (Ok r) = Created (numbered node r.0) (option_map file r.1) r.2.0
created_answer node file (Err e) = Failed e

-- the answer that a result means, of `write` and `copyfilerange`
abbrev pub written_answer : Result ℕ ℕ → FileAnswer
written_answer (Ok n) = Wrote n
written_answer (Err e) = Failed e

-- the answer that a result of `statfs` means
abbrev pub stats_answer : Result StatVfs ℕ → FileAnswer
stats_answer (Ok st) = Stats st
stats_answer (Err e) = Failed e

-- the answer that a result of `getxattr` means
abbrev pub value_answer : Result GetxattrReply ℕ → FileAnswer
value_answer (Ok (value.Value bytes)) = Bytes bytes.items
value_answer (Ok (value.Count n)) = Count n
value_answer (Err e) = Failed e

-- the answer that a result of `listxattr` means
abbrev pub names_answer : Result ListxattrReply ℕ → FileAnswer
names_answer (Ok (names.Names bytes)) = Bytes bytes.items
names_answer (Ok (names.Count n)) = Count n
names_answer (Err e) = Failed e

-- the answer that a result of `readdir` means; rest: the entries that are left of an iterator
abbrev pub listed_answer : {D : Type 0} → (D → List Listed) → Result D ℕ → FileAnswer
listed_answer rest (Ok entries) = Entries (rest entries)
listed_answer rest (Err e) = Failed e

-- the answer that a result of `lseek` means
abbrev pub offset_answer : Result ℕ ℕ → FileAnswer
offset_answer (Ok offset) = Offset offset
offset_answer (Err e) = Failed e
