use Rattle.std.proofs.Common.{refl, drop}
use Rattle.fuse_in.specs.Records.{write_in}
use Rattle.server_meanings.specs.Grammar.{given}
use Rattle.server_meanings.proofs.Rows.{write_asks, write_short}
use Rattle.server_phases.proofs.Fronts.{record_by_front, fault_by_front}
use Rattle.server_phases.proofs.asking.ask_write_row.Goals as goal

pub returns-in-Ok-clause-decoded : goal.returns-in-Ok-clause-decoded
returns-in-Ok-clause-decoded c = λ page_size options bytes begins len.
    rw (write_asks (given c.args.head.now options c.args.room) bytes (drop 40 bytes) c.in-Ok.request
    (record_by_front write_in c.args.source.bytes.now bytes c.record.new.self.bytes.now c.in-Ok.request begins c.in-Ok.ensures.reads))
    (c.write_asked.ensures.decoded page_size options (drop 40 bytes) len)

pub returns-in-Err-clause-decoded : goal.returns-in-Err-clause-decoded
returns-in-Err-clause-decoded c = λ page_size options bytes begins len.
    rw (write_short (given c.args.head.now options c.args.room) bytes c.in-Err.error
    (fault_by_front write_in c.args.source.bytes.now bytes c.in-Err.error begins c.in-Err.ensures.reads)) refl
