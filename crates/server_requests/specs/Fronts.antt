-- The fronts of requests behind their header: records, and the bytes after them (linux/fuse.h).
use Rattle.std.specs.Prelude.{ℕ, ◌+◌, ◌-◌, Bool, false, ◌&&◌, nat_le, nat_lt, sum, List, length}
use Rattle.std.specs.Prelude.{Option, Some, Result, Ok, Err, if◌then◌else◌}
use Rattle.vm_values.specs.Bits.{has_bit}
use Rattle.fuse_in.specs.declared.session.InitInCompat.{InitInCompat}
use Rattle.fuse_in.specs.declared.nodes.SetxattrIn.{SetxattrIn}
use Rattle.fuse_in.specs.declared.nodes.SetxattrInCompat.{SetxattrInCompat}
use Rattle.fuse_in.specs.Shapes.{RecordShape}
use Rattle.fuse_fs.specs.Lengths.{first, past}
use Rattle.fuse_in.specs.declared.session.InHeader.{InHeader}
use Rattle.fuse_in.specs.Records.{in_header, init_in_ext, setxattr_in, setxattr_in_compat}
use Rattle.fuse_wire.specs.declared.opcodes.Opcode.{Opcode}
use Rattle.fuse_wire.specs.declared.opcodes.Opcode.TheVariants as op
use Rattle.fuse_wire.specs.Opcodes.{opcode_of}
use Rattle.fuse_wire.specs.Records.{forget_one}
use Rattle.server_segments.specs.declared.error.Error.TheVariants.{InvalidHeaderLength}
use Rattle.server_requests.specs.Reading.{Faults, Parsed, Parser, ReadFailure, ◌>>=◌, ◌>>◌, give, needs}
use Rattle.server_requests.specs.Reading.{exactly, record_parser}

-- the bytes of a request behind its header and k bytes of record, by the header's length
unfoldable pub counted : (len k : ℕ) → Parser (List ℕ)
counted len k = needs (nat_le (40 + k) len) (Faults InvalidHeaderLength) >> exactly (len - 40 - k)

-- n bytes are left in these segments, but not in the first of them
abbrev pub is_split : (n : ℕ) → (segments : List ℕ) → Bool
is_split n segments = nat_lt (first segments) n && nat_le n (sum segments)

-- the bytes behind k bytes of record lie in several segments
abbrev pub counted_split : (len k : ℕ) → (segments : List ℕ) → Bool
counted_split len k segments = is_split (len - 40 - k) (past k segments)

-- a record of k bytes, and the bytes after it, by the header's length
unfoldable pub with_bytes : {R : Type 0} → RecordShape R → (k len : ℕ) → Parser (R × List ℕ)
with_bytes s k len = record_parser s >>= λ r. counted len k >>= λ bytes. give (r, bytes)

-- the length of SETXATTR's record: 16 with FUSE_SETXATTR_EXT (bit 29 of the options), else 8
abbrev pub setxattr_len : (options : ℕ) → ℕ
setxattr_len options = if has_bit options 29 then 16 else 8

-- the length of the record before the first name, or before the pairs of BATCH_FORGET, by the opcode
-- (linux/fuse.h); 0 for a request that has no record there
abbrev pub record_len : (options : ℕ) → Option Opcode → ℕ
record_len options (Some op.Mkdir) = 8
record_len options (Some op.Link) = 8
record_len options (Some op.Rename) = 8
record_len options (Some op.Getxattr) = 8
record_len options (Some op.BatchForget) = 8
record_len options (Some op.Mknod) = 16
record_len options (Some op.Create) = 16
record_len options (Some op.Rename2) = 16
record_len options (Some op.Setxattr) = setxattr_len options
record_len options _ = 0

-- the offset of the first name, or of the pairs, by a request's header of 40 bytes, which lies before
-- the record
abbrev pub first_behind : (options : ℕ) → Result (InHeader × List ℕ) ReadFailure → ℕ
first_behind options (Ok x) = 40 + record_len options (opcode_of x.0.opcode)
first_behind options (Err r) = 40

-- the offset of a request's first name, or of its pairs, with these options
unfoldable pub first_name_at : (options : ℕ) → (request : List ℕ) → ℕ
first_name_at options request = first_behind options (record_parser in_header request)

-- struct fuse_setxattr_in from the record of clients without FUSE_SETXATTR_EXT: its further flags are 0
abbrev pub without_flags : SetxattrInCompat → SetxattrIn
without_flags r = record { size = r.size; flags = r.flags; setxattr_flags = 0; padding = 0 }

-- the record of SETXATTR, longer with FUSE_SETXATTR_EXT (bit 29 of the options), and the bytes after it
unfoldable pub setxattr_front : (options len : ℕ) → Parser (SetxattrIn × List ℕ)
setxattr_front options len =
    if has_bit options 29 then with_bytes setxattr_in 16 len
    else (with_bytes setxattr_in_compat 8 len >>= λ x. give (without_flags x.0, x.1))

-- struct fuse_forget_one: a node, and the number to subtract from its lookup count
abbrev pub forget_pair : Parser (ℕ × ℕ)
forget_pair = record_parser forget_one >>= λ r. give (r.nodeid, r.nlookup)

-- at least one pair was read
abbrev pub has_pairs : Parsed (List (ℕ × ℕ)) → Bool
has_pairs (Ok x) = nat_lt 0 (length x.0)
has_pairs (Err r) = false

-- the upper half of the client's options: with FUSE_INIT_EXT (bit 30 of `flags`) it is read from
-- the rest of the record, else it is 0
abbrev pub flags2_of : InitInCompat → Parser ℕ
flags2_of r = if has_bit r.flags 30 then (record_parser init_in_ext >>= λ more. give more.flags2) else give 0
