use Rattle.std.proofs.Common.{◌≡◌, ◌+◌, ◌-◌, sym, refl, ap, ◌∙◌}
use Rattle.server_requests.proofs.ExtraLemmas.{extension_fault, extension_given}
use Rattle.server_requests.proofs.LabelLemmas.{body_at, bytes_here, one_read}
use Rattle.server_requests.proofs.extensions.extension.Goals as goal

pub returns-in-Ok-part-clause-reads : goal.returns-in-Ok-part-clause-reads
returns-in-Ok-part-clause-reads c =
    sym (extension_given _ _ _ _ _ c.split_placed.result.0.bytes.now c.split_placed.result.1.bytes.now c.in-Ok.head.record
    c.in-Ok.ensures.reads c.if-head-lt-EXT_HEADER_LEN.false c.if-head-size.false c.split_placed.ensures.front c.split_placed.ensures.back
    c.in-Ok-part.ensures.reads)

pub returns-in-Err-part-clause-fault : goal.returns-in-Err-part-clause-fault
returns-in-Err-part-clause-fault c = (
  sym (extension_fault _ _ _ _ c.split_placed.result.0.bytes.now c.in-Ok.head.record _ c.in-Ok.ensures.reads
      c.if-head-lt-EXT_HEADER_LEN.false c.if-head-size.false c.split_placed.ensures.front c.in-Err-part.ensures.reads),
  c.in-Err-part.ensures.fault,
)

pub returns-in-Ok-part-clause-places : goal.returns-in-Ok-part-clause-places
returns-in-Ok-part-clause-places c = λ request start n so_far.
    let head = c.in-Ok.head in
    let front : c.split_placed.result.0.at ≡ c.args.bytes.at + 8 = c.split_placed.ensures.at.0 ∙ c.in-Ok.ensures.at in
    let place : c.split_placed.result.1.at ≡ c.args.bytes.at + 8 + (head.record.size - 8) =
    c.split_placed.ensures.at.1 ∙ ap (λ k. k + (head.record.size - 8)) c.in-Ok.ensures.at in
    let parts = c.split_placed.ensures.places request (c.in-Ok.ensures.places request (bytes_here request start n _ _ so_far)) in
    let body = body_at request _ start n c.args.sent c.args.bytes c.split_placed.result.0 head.record head.record.ext_type so_far
    c.in-Ok.ensures.reads refl front in
    one_read request _ start n c.args.sent c.in-Ok-part.sent c.args.bytes c.split_placed.result.1 head.record so_far c.in-Ok.ensures.reads
    c.if-head-lt-EXT_HEADER_LEN.false place parts.1 (c.in-Ok-part.ensures.places request start n parts.0 body.0 body.1 body.2)
