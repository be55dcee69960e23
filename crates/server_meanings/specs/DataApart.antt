-- The requests whose data may be kept apart from their other bytes.
use Rattle.std.specs.Prelude.{ℕ, Bool, true, false, List, Option, Some, is_ok}
use Rattle.fuse_in.specs.Records.{in_header}
use Rattle.fuse_in.specs.declared.session.InHeader.{InHeader}
use Rattle.fuse_wire.specs.declared.opcodes.Opcode.{Opcode}
use Rattle.fuse_wire.specs.declared.opcodes.Opcode.TheVariants as op
use Rattle.fuse_wire.specs.Opcodes.{opcode_of}
use Rattle.server_segments.specs.declared.error.Error.TheVariants.{DecodeMessage}
use Rattle.server_requests.specs.Reading.{Parser, Faults, ◌>>=◌, ◌>>◌, give, needs, record_parser}

-- the opcode is that of a WRITE
abbrev pub is_write : Option Opcode → Bool
is_write (Some op.Write) = true
is_write _ = false

-- the header of a WRITE at the front of a request (linux/fuse.h, struct fuse_in_header)
abbrev pub write_header : Parser InHeader
write_header =
    record_parser in_header >>= λ h. needs (is_write (opcode_of h.opcode)) (Faults DecodeMessage) >> give h

-- a request begins with the header of a WRITE
abbrev pub begins_a_write : (request : List ℕ) → Bool
begins_a_write request = is_ok (write_header request)
