-- The numbers of calls and of their answers' kinds (PK_CALL_, PK_ANSWER_).
use Rattle.std.specs.Prelude.{◌==◌, ℕ, if◌then◌else◌}
use Rattle.fuse_wire.specs.declared.opcodes.Opcode.{Opcode}
use Rattle.fuse_wire.specs.declared.opcodes.Opcode.TheVariants as op
use Rattle.fs_chain_c.specs.declared.answer_kind.AnswerKind.{AnswerKind}
use Rattle.fs_chain_c.specs.declared.answer_kind.AnswerKind.TheVariants as awaits

-- the number of a call: its request's opcode (enum fuse_opcode of linux/fuse.h)
abbrev pub call_number : Opcode → ℕ
call_number op.Lookup = 1
call_number op.Forget = 2
call_number op.Getattr = 3
call_number op.Setattr = 4
call_number op.Readlink = 5
call_number op.Symlink = 6
call_number op.Mknod = 8
call_number op.Mkdir = 9
call_number op.Unlink = 10
call_number op.Rmdir = 11
call_number op.Rename = 12
call_number op.Link = 13
call_number op.Open = 14
call_number op.Read = 15
call_number op.Write = 16
call_number op.Statfs = 17
call_number op.Release = 18
call_number op.Fsync = 20
call_number op.Setxattr = 21
call_number op.Getxattr = 22
call_number op.Listxattr = 23
call_number op.Removexattr = 24
call_number op.Flush = 25
call_number op.Init = 26
call_number op.Opendir = 27
call_number op.Readdir = 28
call_number op.Releasedir = 29
call_number op.Fsyncdir = 30
call_number op.Getlk = 31
call_number op.Setlk = 32
call_number op.Setlkw = 33
call_number op.Access = 34
call_number op.Create = 35
call_number op.Interrupt = 36
call_number op.Bmap = 37
call_number op.Destroy = 38
call_number op.Ioctl = 39
call_number op.Poll = 40
call_number op.NotifyReply = 41
call_number op.BatchForget = 42
call_number op.Fallocate = 43
call_number op.Readdirplus = 44
call_number op.Rename2 = 45
call_number op.Lseek = 46
call_number op.CopyFileRange = 47
call_number op.SetupMapping = 48
call_number op.RemoveMapping = 49
call_number op.Syncfs = 50
call_number op.TmpFile = 51

-- the number of an answer's kind
abbrev pub answer_number : AnswerKind → ℕ
answer_number awaits.None = 0
answer_number awaits.Done = 1
answer_number awaits.Entry = 2
answer_number awaits.Attr = 3
answer_number awaits.Open = 4
answer_number awaits.Create = 5
answer_number awaits.Data = 6
answer_number awaits.Xattr = 7
answer_number awaits.Statfs = 8
answer_number awaits.Write = 9
answer_number awaits.Lseek = 10
answer_number awaits.Entries = 11
answer_number awaits.Init = 12

-- GETXATTR and LISTXATTR have a length as the answer if their size is 0, and else data
abbrev pub sized : ℕ → AnswerKind
sized size = if size == 0 then awaits.Xattr else awaits.Data

-- READDIR or READDIRPLUS, by the request's opcode
abbrev pub listing : (opcode : ℕ) → Opcode
listing opcode = if opcode == call_number op.Readdirplus then op.Readdirplus else op.Readdir
