-- A READ whose data is kept apart from its reply's header.
use Rattle.std.specs.Prelude.{ℕ, ◌-◌, ◌&&◌, nat_le, Bool, true, false, Option, Some}
use Rattle.fuse_in.specs.Records.{in_header, read_in}
use Rattle.fuse_wire.specs.declared.opcodes.Opcode.{Opcode}
use Rattle.fuse_wire.specs.declared.opcodes.Opcode.TheVariants as op
use Rattle.fuse_wire.specs.Opcodes.{opcode_of}
use Rattle.server_segments.specs.declared.error.Error.TheVariants.{DecodeMessage}
use Rattle.server_requests.specs.Reading.{Parser, Faults, ◌>>=◌, ◌>>◌, give, needs, record_parser}
use Rattle.server_calls.specs.Requests.{read_call}
use Rattle.virtiofsd_fuse.specs.declared.reads.ReadRequest.{ReadRequest}
use Rattle.server_meanings.specs.Grammar.{Meaning, Asks, One}

-- the meaning of a READ with this room, in which the reply's header fits
abbrev pub read_meaning : ReadRequest → (room : ℕ) → Meaning
read_meaning q room = Asks (One q.header.unique (read_call q.header (room - 16) q.record))

-- the opcode is that of a READ
abbrev pub is_read : Option Opcode → Bool
is_read (Some op.Read) = true
is_read _ = false

-- the READ in the first bytes of a request: its header, with a length of at most 0x101000, and its record
abbrev pub read_request : Parser ReadRequest
read_request =
    record_parser in_header
    >>= λ h. needs (nat_le h.len 0x101000 && is_read (opcode_of h.opcode)) (Faults DecodeMessage)
    >> record_parser read_in >>= λ r. give (record { header = h; «record» = r })
