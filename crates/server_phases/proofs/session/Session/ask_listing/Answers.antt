use Rattle.server_meanings.specs.Serving.{setting}
use Rattle.server_phases.proofs.Reporting.{fault_decoded}
use Rattle.server_phases.proofs.session.Session.ask_listing.Goals as goal

pub entries_asked-requires-clause-size : goal.entries_asked-requires-clause-size
entries_asked-requires-clause-size c = (c.in-List.ensures c.args.with_nodes c.args.head.now c.args.self.now.options.0).2

pub entries_asked-requires-clause-enough : goal.entries_asked-requires-clause-enough
entries_asked-requires-clause-enough c = (c.in-List.ensures c.args.with_nodes c.args.head.now c.args.self.now.options.0).1

pub returns-in-List-clause-decoded : goal.returns-in-List-clause-decoded
returns-in-List-clause-decoded c = rw (c.in-List.ensures c.args.with_nodes c.args.head.now c.args.self.now.options.0).0
    (c.entries_asked.ensures.decoded c.args.self.now.page_size c.args.self.now.options.0 _)

pub returns-in-Error-clause-decoded : goal.returns-in-Error-clause-decoded
returns-in-Error-clause-decoded c = c.refused.ensures.decoded c.args.self.now.page_size c.args.self.now.options.0 _ _
    (c.in-Error.ensures c.args.with_nodes c.args.head.now c.args.self.now.options.0)

pub returns-in-Fault-clause-decoded : goal.returns-in-Fault-clause-decoded
returns-in-Fault-clause-decoded c = fault_decoded (setting c.args.self.now.page_size c.args.self.now.options.0 c.args.room) _ _
    (c.in-Fault.ensures c.args.with_nodes c.args.head.now c.args.self.now.options.0).0
