use Rattle.std.proofs.Common.{Some, drop}
use Rattle.fuse_wire.specs.declared.opcodes.Opcode.TheVariants as op
use Rattle.fuse_wire.specs.Opcodes.{opcode_of}
use Rattle.server_meanings.specs.Grammar.{given, row}
use Rattle.server_meanings.proofs.Rows.{meant_long, meant_row}
use Rattle.server_phases.proofs.Fronts.{write_is}
use Rattle.server_phases.proofs.asking.ask_write_head.Goals as goal

pub returns-then-head-gt-MAX_REQUEST_LEN-clause-decoded : goal.returns-then-head-gt-MAX_REQUEST_LEN-clause-decoded
returns-then-head-gt-MAX_REQUEST_LEN-clause-decoded c = λ page_size options bytes begins len.
    c.refused.ensures.decoded page_size options _ (drop 40 bytes)
    (meant_long (given c.args.head.now options c.args.room) bytes c.if-head-gt-MAX_REQUEST_LEN.true)

pub returns-clause-decoded : goal.returns-clause-decoded
unfolding row
returns-clause-decoded c = λ page_size options bytes begins len.
    rw (meant_row (given c.args.head.now options c.args.room) bytes (Some op.Write) c.if-head-gt-MAX_REQUEST_LEN.false
    (write_is (opcode_of c.args.head.now.opcode) c.requires))
    (c.ask_write_row.ensures.decoded page_size options bytes begins len)
