-- The opcode or extension type that a number names, and the number of a notification (linux/fuse.h).
use Rattle.std.specs.Prelude.{ℕ, List, [], ◌∷◌, Option, Some, None, Result, Ok, Err, slice_get, nat_lt, ◌==◌}
use Rattle.std.specs.Prelude.{if◌then◌else◌}
use Rattle.fuse_wire.specs.declared.opcodes.Opcode.{Opcode}
use Rattle.fuse_wire.specs.declared.opcodes.Opcode.TheVariants as op
use Rattle.fuse_wire.specs.declared.opcodes.NotifyOpcode.{NotifyOpcode}
use Rattle.fuse_wire.specs.declared.opcodes.NotifyOpcode.TheVariants as notice
use Rattle.fuse_wire.specs.declared.opcodes.ExtType.{ExtType}
use Rattle.fuse_wire.specs.declared.opcodes.ExtType.TheVariants.{SecCtx, SupGroups}

-- the opcodes by their numbers, from 0 to 51
abbrev pub opcodes : List (Option Opcode)
opcodes =
    None ∷ Some op.Lookup ∷ Some op.Forget ∷ Some op.Getattr ∷ Some op.Setattr ∷ Some op.Readlink
    ∷ Some op.Symlink ∷
    None ∷ Some op.Mknod ∷ Some op.Mkdir ∷ Some op.Unlink ∷ Some op.Rmdir ∷ Some op.Rename ∷ Some op.Link ∷
    Some op.Open ∷ Some op.Read ∷ Some op.Write ∷ Some op.Statfs ∷ Some op.Release ∷ None ∷ Some op.Fsync ∷
    Some op.Setxattr ∷ Some op.Getxattr ∷ Some op.Listxattr ∷ Some op.Removexattr ∷ Some op.Flush
    ∷ Some op.Init ∷
    Some op.Opendir ∷ Some op.Readdir ∷ Some op.Releasedir ∷ Some op.Fsyncdir ∷ Some op.Getlk
    ∷ Some op.Setlk ∷
    Some op.Setlkw ∷ Some op.Access ∷ Some op.Create ∷ Some op.Interrupt ∷ Some op.Bmap ∷ Some op.Destroy ∷
    Some op.Ioctl ∷ Some op.Poll ∷ Some op.NotifyReply ∷ Some op.BatchForget ∷ Some op.Fallocate
    ∷ Some op.Readdirplus ∷
    Some op.Rename2 ∷ Some op.Lseek ∷ Some op.CopyFileRange ∷ Some op.SetupMapping ∷ Some op.RemoveMapping ∷
    Some op.Syncfs ∷ Some op.TmpFile ∷ []

-- the opcode in an entry of the list, if the entry exists and has one
abbrev pub named : Option (Option Opcode) → Option Opcode
named None = None
named (Some o) = o

-- the opcode with this number, if there is one
abbrev pub opcode_of : ℕ → Option Opcode
opcode_of n = named (slice_get opcodes n)

-- the opcode, or an error if there is none
abbrev pub read_as : Option Opcode → Result Opcode (Unit {0})
read_as None = Err tt
read_as (Some o) = Ok o

-- the opcode that a request's number is read as, or an error
abbrev pub read_opcode : ℕ → Result Opcode (Unit {0})
read_opcode n = read_as (opcode_of n)

-- the type that an extension's number is read as: 0 to 31 are that many security contexts, 32 is the groups
abbrev pub read_ext_type : ℕ → Result ExtType (Unit {0})
read_ext_type n = if nat_lt n 32 then Ok (SecCtx n) else if n == 32 then Ok SupGroups else Err tt

-- the number of a notification (enum fuse_notify_code)
abbrev pub notice_number : NotifyOpcode → ℕ
notice_number notice.Poll = 1
notice_number notice.InvalInode = 2
notice_number notice.InvalEntry = 3
notice_number notice.Store = 4
notice_number notice.Retrieve = 5
notice_number notice.Delete = 6
notice_number notice.CodeMax = 7
