use Rattle.std.proofs.Common.{refl, sym}
use Rattle.fuse_in.specs.Records.{in_header}
use Rattle.server_requests.proofs.PlaceLemmas.{record_front}
use Rattle.server_meanings.proofs.Rows.{meaning_head, meaning_fault}
use Rattle.server_phases.proofs.Fronts.{data_behind}
use Rattle.server_phases.proofs.Reporting.{has_asker, placed_by}
use Rattle.server_phases.proofs.session.Session.ask.Goals as goal

pub returns-in-Ok-clause-decoded : goal.returns-in-Ok-clause-decoded
returns-in-Ok-clause-decoded c =
    rw (
      meaning_head c.args.self.now.options.0 c.args.room c.args.request.now _ c.in-Ok.head c.in-Ok.ensures.reads,
      sym (data_behind c.args.request.now _ c.in-Ok.head c.in-Ok.ensures.reads),
    ) c.ask_head.ensures.decoded

pub returns-in-Err-clause-decoded : goal.returns-in-Err-clause-decoded
returns-in-Err-clause-decoded c =
    rw
    (meaning_fault c.args.self.now.options.0 c.args.room c.args.request.now c.in-Err.error c.in-Err.ensures.reads, c.in-Err.ensures.fault)
    refl

pub returns-in-Ok-clause-asker : goal.returns-in-Ok-clause-asker
returns-in-Ok-clause-asker c =
    has_asker c.args.request.now _ c.in-Ok.head c.ask_head.result c.in-Ok.ensures.reads c.ask_head.ensures.asker

pub returns-in-Ok-clause-places : goal.returns-in-Ok-clause-places
returns-in-Ok-clause-places c =
    let header = record_front in_header c.args.request.now _ c.in-Ok.head c.in-Ok.ensures.reads in
    placed_by c.args.self.now.options.0 c.args.request.now _ c.in-Ok.head c.ask_head.result c.in-Ok.ensures.reads header.0 header.2
    (c.ask_head.ensures.places header.0 header.1)
