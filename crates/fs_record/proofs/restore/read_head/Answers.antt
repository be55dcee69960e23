use Rattle.std.proofs.Common.{refl}
use Rattle.vm_values.specs.Fields.{spelled}
use Rattle.fs_record.specs.Fields.{head_fields}
use Rattle.fs_record.proofs.QueueLemmas.{head_leaves, head_refuses, if_err}
use Rattle.fs_record.proofs.restore.read_head.Goals as goal

pub returns-clause-err : goal.returns-clause-err
returns-clause-err g c = λ limit.
    let head = c.in_ok-head.head in
    let read = c.in_ok-head.ensures.ok in
    if_err c.checked.result
    (λ e is. (
      spelled (head_fields head),
      read.0,
      head_refuses (spelled (head_fields head)) c.args.page_size limit head e refl read.1 is,
      head_leaves c.args.page_size head e _ _ _ is read.2,
    ))
    c.checked.ensures.err
