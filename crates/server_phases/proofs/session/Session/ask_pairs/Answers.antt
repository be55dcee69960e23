use Rattle.server_meanings.specs.Serving.{setting}
use Rattle.server_meanings.specs.Grammar.{given}
use Rattle.server_phases.proofs.Reporting.{fault_decoded, forgets_read, forgets_cut, whole_pairs}
use Rattle.server_phases.proofs.session.Session.ask_pairs.Goals as goal

pub returns-in-Ok-clause-decoded : goal.returns-in-Ok-clause-decoded
returns-in-Ok-clause-decoded c =
    λ bytes. c.pairs_asked.ensures.decoded c.args.self.now.page_size c.args.self.now.options.0 _ bytes
    (whole_pairs c.args.pairs.count c.in-Ok.counts.bytes.now c.in-Ok.ensures.whole)
    (forgets_read c.args.pairs.count (given c.args.head.now c.args.self.now.options.0 c.args.room) _ _ c.args.pairs.few
    c.in-Ok.ensures.bytes)

pub returns-in-Err-clause-decoded : goal.returns-in-Err-clause-decoded
returns-in-Err-clause-decoded c =
    λ bytes. fault_decoded (setting c.args.self.now.page_size c.args.self.now.options.0 c.args.room) _ _
    (forgets_cut c.args.pairs.count (given c.args.head.now c.args.self.now.options.0 c.args.room) _ _ c.args.pairs.few
    c.in-Err.ensures.fault)
