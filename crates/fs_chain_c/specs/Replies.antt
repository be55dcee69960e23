-- The answers that C passes, and their outcomes.
use Rattle.std.specs.Prelude.{◌≡◌, ◌⊎◌, ◌==◌, ◌&&◌, ◌||◌, ◌^◌, nat_lt, ℕ, Bool, true, false, List, Option}
use Rattle.std.specs.Prelude.{Some, None, if◌then◌else◌}
use Rattle.fuse_base.specs.declared.records.Attr.{Attr}
use Rattle.fuse_fs.specs.declared.answers.Entry.{Entry}
use Rattle.fuse_values.specs.declared.answer.FileAnswer.{FileAnswer}
use Rattle.fuse_values.specs.declared.answer.FileAnswer.TheVariants as answer
use Rattle.fs_chain.specs.declared.error.ChainError.{ChainError}
use Rattle.fs_chain.specs.declared.error.ChainError.TheVariants.{BadArgument, LongReply, WrongOrder}
use Rattle.fs_chain.specs.declared.state.ChainState.TheVariants as at
use Rattle.fs_chain.specs.Numbers.{chain_error_number}
use Rattle.fs_chain.specs.Orders.{read_limit}
use Rattle.fs_chain.specs.OwnReplies.{IfUnanswered, own_error, own_reply}
use Rattle.fs_chain_c.specs.declared.answers.FsEntry.{FsEntry}
use Rattle.fs_chain_c.specs.declared.answers.FsStatfs.{FsStatfs}
use Rattle.fs_chain.specs.declared.chain_handle.ChainHandle.{ChainHandle}
use Rattle.fs_chain_c.specs.declared.call.FsAttr.{FsAttr}
use Rattle.fs_chain_c.specs.Decoding.{AnswersHandle, DecodesHandle}
use Rattle.fs_chain_c.specs.Handles.{OnHandle}
use Rattle.fs_chain_c.specs.Calls.{empty_call}
use Rattle.fs_chain_c.specs.declared.call.FsCall.{FsCall}
use Rattle.fs_chain_c.specs.declared.device.FsDevice.{FsDevice}

abbrev pub attr_of : FsAttr → Attr
attr_of a = record {
  ino = a.ino;
  size = a.size;
  blocks = a.blocks;
  atime = a.atime;
  mtime = a.mtime;
  ctime = a.ctime;
  atimensec = a.atime_nanos;
  mtimensec = a.mtime_nanos;
  ctimensec = a.ctime_nanos;
  mode = a.mode;
  nlink = a.nlink;
  uid = record { 0 = a.uid };
  gid = record { 0 = a.gid };
  rdev = a.rdev;
  blksize = a.block_size;
  flags = a.flags;
}

-- whether nanoseconds are less than a second
abbrev pub are_nanos : ℕ → Bool
are_nanos n = nat_lt n (10 ^ 9)

-- the entry of a name; none if a time isn't valid
abbrev pub entry_of : FsEntry → Option (Entry ℕ)
entry_of e =
    if are_nanos e.attr_nanos && are_nanos e.entry_nanos then Some (record {
      inode = e.node;
      generation = e.generation;
      attr = attr_of e.attr;
      attr_timeout = record { seconds = e.attr_secs; nanos = e.attr_nanos };
      entry_timeout = record { seconds = e.entry_secs; nanos = e.entry_nanos };
    }) else None

-- the answers: an entry, a file that was created, attributes, a file that was opened
abbrev pub entry_said : Option (Entry ℕ) → Option FileAnswer
entry_said None = None
entry_said (Some e) = Some (answer.HasEntry e)

abbrev pub create_said : Option (Entry ℕ) → (handle flags : ℕ) → Option FileAnswer
create_said None handle flags = None
create_said (Some e) handle flags =
    Some (answer.Created e (Some handle) (record { 0 = flags; 1 = record {} }))

abbrev pub attr_said : FsAttr → (secs nanos : ℕ) → Option FileAnswer
attr_said a secs nanos =
    if are_nanos nanos then Some (answer.HasAttr (attr_of a) (record { seconds = secs; nanos = nanos }))
    else None

abbrev pub open_said : (handle flags : ℕ) → FileAnswer
open_said handle flags = answer.Opened (Some handle) (record { 0 = flags; 1 = record {} })

abbrev pub statfs_said : FsStatfs → FileAnswer
statfs_said s = answer.Stats (record {
  f_blocks = s.blocks;
  f_bfree = s.bfree;
  f_bavail = s.bavail;
  f_files = s.files;
  f_ffree = s.ffree;
  f_bsize = s.bsize;
  f_namemax = s.namelen;
  f_frsize = s.frsize;
})

-- the answer of INIT: the options that the file system asks for
abbrev pub init_options_said : ℕ → FileAnswer
init_options_said wanted = answer.Wants (record { 0 = wanted; 1 = record {} })

-- a handle's call is answered by this, with a ticket; `BadArgument`, if C's numbers aren't an answer
abbrev pub MayReply :
    Option FileAnswer → (ticket : ℕ) → Option ChainHandle → (status : ℕ) → Option ChainHandle → Type 0
MayReply None ticket before status after = (status ≡ chain_error_number BadArgument) × (after ≡ before)
MayReply (Some a) ticket before status after =
    OnHandle (λ b b'. AnswersHandle b ticket a status b') (status ≡ chain_error_number WrongOrder)
    before after

-- the same where C's numbers are always an answer
abbrev pub RepliesWith :
    FileAnswer → (ticket : ℕ) → Option ChainHandle → (status : ℕ) → Option ChainHandle → Type 0
RepliesWith a ticket before status after =
    OnHandle (λ b b'. AnswersHandle b ticket a status b') (status ≡ chain_error_number WrongOrder)
    before after

-- whether an answer of so many bytes is to the READ in flight, and longer than that READ's data may be
abbrev pub is_longer : Option ℕ → (is_mine : Bool) → (len : ℕ) → Bool
is_longer None is_mine len = false
is_longer (Some most) is_mine len = is_mine && nat_lt most len

abbrev pub is_long : ChainHandle → (ticket len : ℕ) → Bool
is_long b ticket len = is_longer (read_limit b.state) (b.ticket == ticket) len

-- a `ChainHandle`'s call is answered with data; `LongReply`, if it is a READ and there is too much data, and
-- nothing changes
abbrev pub AnswersData :
    (is_long : Bool) → ChainHandle → (ticket len : ℕ) → (status : ℕ) → ChainHandle → Type 0
AnswersData true b ticket len status b' = (status ≡ chain_error_number LongReply) × (b' ≡ b)
AnswersData false b ticket len status b' = AnswersHandle b ticket (answer.Bytes len) status b'

-- the same with a handle
abbrev pub RepliesData :
    (len ticket : ℕ) → Option ChainHandle → (status : ℕ) → Option ChainHandle → Type 0
RepliesData len ticket before status after =
    OnHandle (λ b b'. AnswersData (is_long b ticket len) b ticket len status b')
    (status ≡ chain_error_number WrongOrder) before after

-- INIT is answered, and the device has the agreed options then
abbrev pub RepliesInit : (wanted ticket : ℕ) → Option ChainHandle → FsDevice → (status : ℕ) →
    Option ChainHandle → FsDevice → Type 0
RepliesInit wanted ticket before d status after d' =
    OnHandle
    (λ b b'. AnswersHandle b ticket (init_options_said wanted) status b'
    × (d' ≡ (if status == 0 || status == 35 then record d { options = b'.session.options.0 } else d)))
    ((status ≡ chain_error_number WrongOrder) × (d' ≡ d)) before after

-- a handle decodes its chain's request
abbrev pub AsksChain :
    Option ChainHandle → FsDevice → (request : List ℕ) → (status : ℕ) → FsCall → Option ChainHandle → Type 0
AsksChain before d request status call after =
    OnHandle (λ b b'. DecodesHandle b d request call status b') ((status ≡ chain_error_number WrongOrder)
    × (call ≡ empty_call)) before after

-- a `ChainHandle` has a reply of `len` bytes that C wrote; nothing else changes
abbrev pub KeepsOwn : (len : ℕ) → ChainHandle → ChainHandle → Type 0
KeepsOwn len b b' =
    IfUnanswered b.state (λ out. b' ≡ record b { state = at.Replied out (own_reply len) })

-- C's own bytes are the reply, by the chain's ticket; on an error nothing changes
abbrev pub RepliesOwn : (ticket len : ℕ) → ChainHandle → (status : ℕ) → ChainHandle → Type 0
RepliesOwn ticket len b status b' =
    ((own_error b.state b.ticket ticket len ≡ None) × (status ≡ 0) × KeepsOwn len b b')
    ⊎ ((e : ChainError)
    × (own_error b.state b.ticket ticket len ≡ Some e)
    × (status ≡ chain_error_number e)
    × (b' ≡ b))

-- the same of a handle
abbrev pub RepliesBytes : (ticket len : ℕ) → Option ChainHandle → (status : ℕ) → Option ChainHandle → Type 0
RepliesBytes ticket len before status after =
    OnHandle (λ b b'. RepliesOwn ticket len b status b') (status ≡ chain_error_number WrongOrder) before after
