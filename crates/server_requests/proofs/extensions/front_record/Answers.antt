use Rattle.std.proofs.Common.{◌≡◌, refl, sym, ap, ◌∙◌, ◌++◌}
use Rattle.std.proofs.lemmas.List.{take-append-drop}
use Rattle.server_requests.proofs.RecordLemmas.{read_front, read_short}
use Rattle.server_requests.proofs.extensions.front_record.Goals as goal

pub returns-then-bytes-SIZE-clause-fault : goal.returns-then-bytes-SIZE-clause-fault
returns-then-bytes-SIZE-clause-fault g c =
    (read_short g.T.InRecord.shape g.T.ByteValued.fields _ g.met.T.InRecord.of_shape _ (rw c.SIZE.ensures at c.if-bytes-SIZE.true), refl)

pub returns-clause-reads : goal.returns-clause-reads
returns-clause-reads g c =
    let front = c.split_placed.result.0.bytes.now in
    let rest = c.split_placed.result.1.bytes.now in
    let whole : c.args.bytes.bytes.now ≡ front ++ rest =
    rw (c.split_placed.ensures.front, c.split_placed.ensures.back) (sym (take-append-drop c.SIZE-2.result c.args.bytes.bytes.now)) in
    read_front g.T.InRecord.shape g.T.ByteValued.fields _ g.met.T.InRecord.of_shape c.get_bytes.result _ _
    (whole ∙ ap (λ b. b ++ rest) c.get_bytes.ensures.bytes) c.get_bytes.ensures.fits
