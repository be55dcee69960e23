-- The requests for which the server may allocate, by their contents and their segments.
use Rattle.std.specs.Prelude.{ℕ, Bool, false, ◌||◌, ◌&&◌, nat_le, List, Option, Some, None, Result, Ok, Err}
use Rattle.fuse_in.specs.declared.session.InHeader.{InHeader}
use Rattle.fuse_in.specs.Records.{in_header}
use Rattle.fuse_wire.specs.declared.opcodes.Opcode.{Opcode}
use Rattle.fuse_wire.specs.declared.opcodes.Opcode.TheVariants as op
use Rattle.fuse_wire.specs.Opcodes.{opcode_of}
use Rattle.fuse_fs.specs.Lengths.{past}
use Rattle.server_segments.specs.ReaderAndWriterView.{ReaderView}
use Rattle.server_requests.specs.Reading.{Parser, ReadFailure, record_parser}
use Rattle.server_requests.specs.Fronts.{counted_split, setxattr_len}
use Rattle.server_calls.specs.Requests.{owns_memory}
use Rattle.server_meanings.specs.Grammar.{Meaning, Asks, One, Given, given, ended, row}

-- the meaning is a call that owns memory: pairs, or a security context
abbrev pub meaning_owns : Meaning → Bool
meaning_owns (Asks (One unique call)) = owns_memory call
meaning_owns _ = false

-- the meaning of a row's bytes is a call that owns memory
abbrev pub row_owns : Given → (Given → Parser Meaning) → List ℕ → Bool
row_owns g row bytes = meaning_owns (ended g.header.unique (row g bytes))

-- the meaning of an opcode's bytes is a call that owns memory
abbrev pub opcode_owns : Given → Opcode → List ℕ → Bool
opcode_owns g opcode bytes = row_owns g (λ x. row x opcode) bytes

-- the bytes behind the header may need memory: for a call that owns memory, or for names, or a name
-- and a value, that lie in several segments
abbrev pub takes_memory : Given → Opcode → (segments bytes : List ℕ) → Bool
takes_memory g op.BatchForget segments bytes = opcode_owns g op.BatchForget bytes
takes_memory g op.Symlink segments bytes =
    opcode_owns g op.Symlink bytes || counted_split g.header.len 0 segments
takes_memory g op.Mknod segments bytes =
    opcode_owns g op.Mknod bytes || counted_split g.header.len 16 segments
takes_memory g op.Mkdir segments bytes = opcode_owns g op.Mkdir bytes || counted_split g.header.len 8 segments
takes_memory g op.Create segments bytes =
    opcode_owns g op.Create bytes || counted_split g.header.len 16 segments
takes_memory g op.Lookup segments bytes = counted_split g.header.len 0 segments
takes_memory g op.Unlink segments bytes = counted_split g.header.len 0 segments
takes_memory g op.Rmdir segments bytes = counted_split g.header.len 0 segments
takes_memory g op.Removexattr segments bytes = counted_split g.header.len 0 segments
takes_memory g op.Link segments bytes = counted_split g.header.len 8 segments
takes_memory g op.Rename segments bytes = counted_split g.header.len 8 segments
takes_memory g op.Rename2 segments bytes = counted_split g.header.len 16 segments
takes_memory g op.Getxattr segments bytes = counted_split g.header.len 8 segments
takes_memory g op.Setxattr segments bytes = counted_split g.header.len (setxattr_len g.options) segments
takes_memory g _ segments bytes = false

-- the bytes behind the header may need memory; those of a number without an opcode need none
abbrev pub row_takes_memory : Given → Option Opcode → (segments bytes : List ℕ) → Bool
row_takes_memory g None segments bytes = false
row_takes_memory g (Some opcode) segments bytes = takes_memory g opcode segments bytes

-- the bytes behind this header may need memory, unless its length is above 0x101000
abbrev pub body_takes_memory : Given → (segments bytes : List ℕ) → Bool
body_takes_memory g segments bytes =
    nat_le g.header.len 0x101000 && row_takes_memory g (opcode_of g.header.opcode) segments bytes

-- a request that was read up to its header may need memory; one shorter than its header needs none
abbrev pub header_takes_memory :
    (options room : ℕ) → (segments : List ℕ) → Result (InHeader × List ℕ) ReadFailure → Bool
header_takes_memory options room segments (Err r) = false
header_takes_memory options room segments (Ok x) = body_takes_memory (given x.0 options room) segments x.1

-- a request may need memory
abbrev pub may_take_memory : (options : ℕ) → (request : ReaderView) → (room : ℕ) → Bool
may_take_memory options request room =
    header_takes_memory options room (past 40 request.segments) (record_parser in_header request.left)
