use Rattle.std.proofs.Common.{◌++◌, refl}
use Rattle.server_meanings.specs.Serving.{setting}
use Rattle.server_phases.proofs.Reporting.{fault_decoded, silence_decoded}
use Rattle.server_phases.proofs.session.Session.ask_single.Goals as goal

pub returns-in-Call-clause-decoded : goal.returns-in-Call-clause-decoded
returns-in-Call-clause-decoded c =
    let reads = c.in-Call.ensures.reads c.args.room in
    c.called.ensures.decoded (setting c.args.self.now.page_size c.args.self.now.options.0 c.args.room) _ _ _ refl reads.0 reads.1 refl

pub returns-in-Error-clause-decoded : goal.returns-in-Error-clause-decoded
returns-in-Error-clause-decoded c =
    c.refused.ensures.decoded c.args.self.now.page_size c.args.self.now.options.0 _ _ (c.in-Error.ensures.reads c.args.room)

pub returns-in-Silence-clause-decoded : goal.returns-in-Silence-clause-decoded
returns-in-Silence-clause-decoded c =
    silence_decoded (setting c.args.self.now.page_size c.args.self.now.options.0 c.args.room) _ (c.in-Silence.ensures.reads c.args.room)

pub returns-in-Fault-clause-decoded : goal.returns-in-Fault-clause-decoded
returns-in-Fault-clause-decoded c =
    let reads = c.in-Fault.ensures.reads c.args.room in
    fault_decoded (setting c.args.self.now.page_size c.args.self.now.options.0 c.args.room) _ _ (reads.0 (reads.1 refl))

pub returns-in-Call-clause-places : goal.returns-in-Call-clause-places
returns-in-Call-clause-places c = λ header forty.
    c.called.ensures.places (header ++ c.args.source.bytes.now) _ (c.in-Call.ensures.places header forty)
