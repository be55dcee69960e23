use Rattle.std.proofs.Common.{refl}
use Rattle.server_meanings.proofs.Rows.{read_means}
use Rattle.virtiofsd_fuse.proofs.reads.ReadRequest.of_bytes.Goals as goal

pub returns-in-Ok-read_record-clause-means : goal.returns-in-Ok-read_record-clause-means
returns-in-Ok-read_record-clause-means c options room fits =
    read_means options room c.args.request.now _ _ c.in-Ok.header c.in-Ok-read_record.record
    (rw c.of_slice-r.ensures.left at c.in-Ok.ensures.reads) c.in-Ok-read_record.ensures.reads
    c.if-header-gt-MAX_REQUEST_LEN.false (c.if-not-is_read.ensures.opcode refl) fits
