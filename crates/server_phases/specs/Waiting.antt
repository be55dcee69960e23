-- The state of a request while its call waits for an answer.
use Rattle.std.specs.Prelude.{◌≡◌, ◌≤◌, ◌^◌}
use Rattle.std.specs.Prelude.{Bool, true, false, bit_and}
use Rattle.fuse_fs.specs.Calls.{FileCall, Init, Destroy, Lookup, Forget, BatchForget, Getattr, Setattr}
use Rattle.fuse_fs.specs.Calls.{Readlink, Symlink, Mknod, Mkdir, Link, Open, Read, Write}
use Rattle.fuse_fs.specs.Calls.{Statfs, Readdir, Getxattr, Listxattr, Opendir, Getlk, Setlk, Setlkw, Bmap}
use Rattle.fuse_fs.specs.Calls.{Ioctl, Poll, NotifyReply, Create, Lseek, CopyFileRange, TmpFile}
use Rattle.server_calls.specs.Callers.{IsFor}
use Rattle.server_meanings.specs.Listings.{readdir_call}
use Rattle.server_meanings.specs.Grammar.{FileCommand, One, Starts, Lists, known_options}
use Rattle.server_phases.specs.declared.waiting.Awaits.{Awaits}
use Rattle.server_phases.specs.declared.waiting.Awaits.TheVariants as awaits
use Rattle.server_phases.specs.declared.waiting.Waiting.{Waiting}

-- the kind of answer that a call can have
abbrev pub awaits_of : FileCall → Awaits
awaits_of (Lookup c n name) = awaits.Entry
awaits_of (Symlink c l n name x) = awaits.Entry
awaits_of (Mknod c n name m r u x) = awaits.Entry
awaits_of (Mkdir c n name m u x) = awaits.Entry
awaits_of (Link c o n name) = awaits.Entry
awaits_of (Create c n name m k f u x) = awaits.Create
awaits_of (Getattr c n h) = awaits.Attr
awaits_of (Setattr c n r h v) = awaits.Attr
awaits_of (Open c n k f) = awaits.Open
awaits_of (Opendir c n f) = awaits.Open
awaits_of (Readlink c n) = awaits.Bytes
awaits_of (Read c n h r s o w f) = awaits.FileBytes r
awaits_of (Getxattr c n name s) = awaits.BytesOrCount
awaits_of (Listxattr c n s) = awaits.BytesOrCount
awaits_of (Statfs c n) = awaits.Stats
awaits_of (Write c n h b s o w d k f) = awaits.Written
awaits_of (CopyFileRange c n h o n' h' o' l f) = awaits.Written
awaits_of (Lseek c n h o w) = awaits.Offset
awaits_of (Forget c n k) = awaits.Forgotten
awaits_of (BatchForget c counts) = awaits.Forgotten
awaits_of Getlk = awaits.NoReply
awaits_of Setlk = awaits.NoReply
awaits_of Setlkw = awaits.NoReply
awaits_of Bmap = awaits.NoReply
awaits_of Ioctl = awaits.NoReply
awaits_of Poll = awaits.NoReply
awaits_of NotifyReply = awaits.NoReply
awaits_of Destroy = awaits.End
awaits_of TmpFile = awaits.Failure
awaits_of _ = awaits.Done

-- a request with this call makes no other: every call but INIT's and READDIR's
abbrev pub is_one_call : FileCall → Bool
is_one_call (Init capable) = false
is_one_call (Readdir c n h s o) = false
is_one_call _ = true

-- the state of a request belongs to this command: its number, its kind of answer and its caller
abbrev pub WaitsFor : Waiting → FileCommand → Type 0
WaitsFor w (One unique call) =
    (w.unique ≡ unique) × (w.awaits ≡ awaits_of call) × IsFor w.context call × (is_one_call call ≡ true)
WaitsFor w (Starts unique capable readahead) =
    (w.unique ≡ unique)
    × (w.awaits ≡ awaits.InitOptions capable readahead)
    × (bit_and capable known_options ≡ capable)
WaitsFor w (Lists unique l) =
    (w.unique ≡ unique)
    × (w.awaits ≡ awaits.Entries l.with_nodes l.size)
    × (l.context ≡ w.context)
    × (l.size ≤ 2 ^ 20)
    × (16 ≤ w.room)

-- the first call of a command
abbrev pub first_call : FileCommand → FileCall
first_call (One unique call) = call
first_call (Starts unique capable readahead) = Init capable
first_call (Lists unique l) = readdir_call l
